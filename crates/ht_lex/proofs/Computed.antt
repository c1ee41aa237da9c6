-- The function that cuts a text, against the relation.
use Rattle.std.proofs.Common.{◌≡◌, ℕ, zero, suc, ◌+◌, ◌<◌, ◌≤◌, ◌==◌, Bool, true, false, cond, List, length, drop}
use Rattle.std.proofs.Common.{Option, Some, None, arith, length-drop, refl, ap, ◌∙◌, subst, eq-eqb, eqb-true}
use Rattle.ht_lex.specs.declared.key.TokenKind.{TokenKind}
use Rattle.ht_lex.specs.declared.lexeme.Lexeme.{Lexeme}
use Rattle.ht_lex.specs.declared.lexeme.Lexeme.TheVariants.{Gap, Token, Nothing}
use Rattle.ht_lex.specs.declared.tokens.Span.{Span}
use Rattle.ht_lex.specs.Pieces.{Longest}
use Rattle.ht_lex.specs.Lexemes.{first_lexeme, IsLongest}
use Rattle.ht_lex.specs.Tokens.{Cuts, halt, gap, token, IsCut}
use Rattle.ht_lex.specs.Cutting.{Cut, cut_after, cut_from, spans_of, CutsExactly}
use Rattle.ht_lex.proofs.Longest.{longest_is_taken, spelled_some}
use Rattle.ht_lex.proofs.Cutting.{cut_once, end_cut}

-- the cut that the relation allows from this place on
abbrev IsRight : List ℕ → ℕ → Cut → Type 0
IsRight text place cut = Cuts text place cut.0 cut.1

some_bytes : {what : Option TokenKind} {text : List ℕ} {size : ℕ} → Longest what text size → 0 < size
some_bytes {size = zero} h = absurd (omega (arith, spelled_some h.spelled))
some_bytes {size = suc size} h = omega arith

stays_inside : {what : Option TokenKind} (text : List ℕ) (place size : ℕ) → place ≤ length text
    → Longest what (drop place text) size → place + size ≤ length text
stays_inside text place size le h = omega (arith, le, h.within, length-drop place text)

after_is_right : (rest : ℕ → Cut) (text : List ℕ) (place : ℕ) (first : Lexeme) → place ≤ length text
    → IsLongest (drop place text) first
    → ((size : ℕ) → 0 < size → place + size ≤ length text → IsRight text (place + size) (rest (place + size)))
    → IsRight text place (cut_after rest place first)
after_is_right rest text place (Gap size) le h right =
    gap h (right size (some_bytes h) (stays_inside text place size le h))
after_is_right rest text place (Token kind size) le h right =
    token h (right size (some_bytes h) (stays_inside text place size le h))
after_is_right rest text place Nothing le h right = halt h

from_is_right : (pieces : ℕ) (text : List ℕ) (place : ℕ) → place ≤ length text → length text ≤ place + pieces
    → IsRight text place (cut_from pieces text place)
from_is_right zero text place le enough = end_cut text place (omega (arith, enough))
from_is_right (suc pieces) text place le enough =
    after_is_right (cut_from pieces text) text place (first_lexeme (drop place text)) le
    (longest_is_taken (drop place text))
    (λ size some inside. from_is_right pieces text (place + size) inside (omega (arith, enough, some)))

whole_is_right : (text : List ℕ) → IsRight text 0 (cut_from (length text) text 0)
whole_is_right text = from_is_right (length text) text 0 (omega arith) (omega arith)

-- what a test of a cut's end says
chosen : (text : List ℕ) (cut : Cut) (spans : List Span) (b : Bool) → (cut.1 == length text) ≡ b → IsRight text 0 cut
    → cond b (Some cut.0) None ≡ Some spans → IsCut text spans
chosen text cut spans true e h same =
    let whole : cut.1 ≡ length text = eqb-true cut.1 (length text) e in
    let all : cut.0 ≡ spans = cc in
    subst (λ s. Cuts text 0 s (length text)) all (subst (λ stop. Cuts text 0 cut.0 stop) whole h)
chosen text cut spans false e h same = absurd cc

pub cuts_exactly : CutsExactly spans_of
unfolding spans_of
cuts_exactly text spans =
    let cut = cut_from (length text) text 0 in
    let right = whole_is_right text in (
      chosen text cut spans (cut.1 == length text) refl right,
      λ is_cut. let same = cut_once right is_cut in
          ap (λ b. cond b (Some cut.0) None) (eq-eqb cut.1 (length text) same.1) ∙ ap Some same.0,
    )
