-- A text is cut in one way.
use Rattle.std.proofs.Common.{◌≡◌, ℕ, ◌+◌, ◌-◌, ◌≤◌, List, [], ◌∷◌, ◌++◌, append_assoc, length, take, drop, Some}
use Rattle.std.proofs.Common.{arith, length-drop, refl, sym, ap, ◌∙◌, subst}
use Rattle.std.proofs.lemmas.List.{take_rest, drop_all}
use Rattle.ht_lex.specs.declared.lexeme.Lexeme.{Lexeme}
use Rattle.ht_lex.specs.declared.tokens.Span.{Span}
use Rattle.ht_lex.specs.Pieces.{NoLonger}
use Rattle.ht_lex.specs.Lexemes.{first_lexeme, IsLongest}
use Rattle.ht_lex.specs.Tokens.{Cuts, halt, gap, token}
use Rattle.ht_lex.proofs.Longest.{longest_is_taken, longest_once, nothing_longer, end_begins}

-- at these spans, and up to this place
abbrev pub Same : List Span → ℕ → List Span → ℕ → Type 0
Same spans stop others other = (spans ≡ others) × (stop ≡ other)

pub cut_once : {text : List ℕ} {place stop other : ℕ} {spans others : List Span} → Cuts text place spans stop
    → Cuts text place others other → Same spans stop others other
cut_once (halt e) (halt f) = (refl, refl)
cut_once (halt e) (gap f h) = absurd (nothing_longer e f)
cut_once (halt e) (token f h) = absurd (nothing_longer e f)
cut_once (gap e g) (halt f) = absurd (nothing_longer f e)
cut_once {text} {place} (gap {stop = stop} {spans = spans} e g) (gap f h) =
    cut_once (subst (λ n. Cuts text (place + n) spans stop) (longest_once e f).1 g) h
cut_once (gap e g) (token f h) = let no = (longest_once e f).0 in cc
cut_once (token e g) (halt f) = absurd (nothing_longer f e)
cut_once (token e g) (gap f h) = let no = (longest_once e f).0 in cc
cut_once {text} {place} (token {size = m} {stop = stop} {kind = k} {spans = spans} e g)
    (token {size = n} {kind = l} f h) =
    let same : m ≡ n = (longest_once e f).1 in
    let named : Some k ≡ Some l = (longest_once e f).0 in
    let alike : k ≡ l = cc in
    let rest = cut_once (subst (λ n. Cuts text (place + n) spans stop) same g) h in
    let spanned : (let s : Span = record { kind = k; start = place; stop = place + m } in s)
    ≡ record { kind = l; start = place; stop = place + n } = cc in
    (cc, rest.1)

-- Spans that were found, and one more before the rest.
pub taken_in : {text : List ℕ} {stop : ℕ} (found : List Span) (span : Span) (rest : List Span)
    → Cuts text 0 (found ++ span ∷ rest) stop → Cuts text 0 ((found ++ span ∷ []) ++ rest) stop
taken_in {text} {stop} found span rest h = subst (λ v. Cuts text 0 v stop) (sym (append_assoc found (span ∷ []) rest)) h

-- What the code finds at the front of the rest of the text, as it takes the rest, is the longest there.
pub longest_there : (text : List ℕ) (place : ℕ) (f : Lexeme)
    → f ≡ first_lexeme (take (length text - place) (drop place text)) → IsLongest (drop place text) f
longest_there text place f e = subst (λ v. IsLongest (drop place text) v)
    (sym (e ∙ ap first_lexeme (take_rest text place))) (longest_is_taken (drop place text))

pub fits_there : (text : List ℕ) (place size : ℕ) → size ≤ length (take (length text - place) (drop place text))
    → place ≤ length text → place + size ≤ length text
fits_there text place size h le =
    let e = ap (length {A = ℕ}) (take_rest text place) in omega (arith, length-drop place text)

-- The cut is over where nothing is left.
pub end_cut : (text : List ℕ) (place : ℕ) → length text ≤ place → Cuts text place [] place
end_cut text place done = halt (subst (λ t. NoLonger t 0) (sym (drop_all place text done)) end_begins)
