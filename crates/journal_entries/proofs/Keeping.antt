-- Entries that are exchanged where they stand, of which those go whose place has its entry already.
use Rattle.std.proofs.Common.{◌≡◌, true, false, ℕ, zero, suc, ◌+◌, ◌<◌, List, [], ◌∷◌, ◌++◌, length, get_or, set}
use Rattle.std.proofs.Common.{refl, sym, ap, ◌∙◌, arith, take, drop, append_assoc}
use Rattle.std.proofs.Common.{if◌then◌else◌, subst}
use Rattle.std.proofs.lemmas.List.{take-set, take_more_set, drop_more, drop-set-lt, length-set, length-take-le}
use Rattle.std.proofs.lemmas.List.{length-append, length-drop}
use Rattle.std.proofs.Math.Seq.{take-append_seam, drop-append_seam}
use Rattle.journal_entries.specs.State.{State}
use Rattle.journal_entries.specs.Changing.{holds_one, kept, kept_in_turn}
use Rattle.journal_entries.specs.Exchange.{exchanged, taken}
use Rattle.journal_entries.specs.declared.entry.Entry.{Entry}

-- the entries without the one at a place
abbrev pub without : List Entry → ℕ → List Entry
without es i = take i es ++ drop (i + 1) es

take-without : (i : ℕ) (es : List Entry) → i < length es → take i (without es i) ≡ take i es
take-without i es h = subst (λ n. take n (without es i) ≡ take i es) (length-take-le i es (omega arith))
    (take-append_seam (take i es) (drop (i + 1) es))

drop-without : (i : ℕ) (es : List Entry) → i < length es → drop i (without es i) ≡ drop (i + 1) es
drop-without i es h = subst (λ n. drop n (without es i) ≡ drop (i + 1) es) (length-take-le i es (omega arith))
    (drop-append_seam (take i es) (drop (i + 1) es))

pub length-without : (i : ℕ) (es : List Entry) → i < length es → length (without es i) + 1 ≡ length es
length-without i es h =
    let whole = length-append (take i es) (drop (i + 1) es) in
    let front : length (take i es) ≡ i = length-take-le i es (omega arith) in
    let behind = length-drop (i + 1) es in
    omega (arith, h, whole, front, behind)

-- what is read twice at a place is the same
pub read_twice : (i : ℕ) (es : List Entry) (x y : Entry) → i < length es → x ≡ get_or es i x → y ≡ get_or es i y → x ≡ y
read_twice i [] x y h is also = absurd (omega arith)
read_twice zero (e ∷ es) x y h is also = is ∙ sym also
read_twice (suc i) (e ∷ es) x y h is also = read_twice i es x y (omega arith) is also

module _ (names : List (List ℕ)) (s : State) (before es : List Entry) (i : ℕ) (x : Entry) (h : i < length es)
    (e : x ≡ get_or es i x) where
  abbrev pub news : List Entry
  news = set es i (taken names s x)

  long : i < length news
  long =
      let same : length news ≡ length es = length-set es i (taken names s x) in
      omega (arith, h, same)

  -- what comes of the entries from a place on
  from_here : kept_in_turn names s (before ++ take i es) (drop i es)
      ≡ kept_in_turn names (exchanged names s x) (kept (before ++ take i es) x (taken names s x)) (drop (i + 1) es)
  from_here = rw (drop_more es i x h, ← e) refl

  pub held_before : take i (without news i) ≡ take i es
  held_before = take-without i news long ∙ take-set es i (taken names s x)

  pub held_behind : drop i (without news i) ≡ drop (i + 1) es
  held_behind = drop-without i news long ∙ drop-set-lt (i + 1) es i (taken names s x) (omega arith)

  pub new_behind : drop (i + 1) news ≡ drop (i + 1) es
  new_behind = drop-set-lt (i + 1) es i (taken names s x) (omega arith)

  pub new_before : before ++ take (i + 1) news ≡ (before ++ take i es) ++ taken names s x ∷ []
  new_before = ap (λ xs. before ++ xs) (take_more_set es i (taken names s x) h)
      ∙ sym (append_assoc before (take i es) (taken names s x ∷ []))

  -- one whose place has its entry goes
  pub kept_held : holds_one x (before ++ take i es) ≡ true
      → kept_in_turn names (exchanged names s x) (before ++ take i (without news i)) (drop i (without news i))
      ≡ kept_in_turn names s (before ++ take i es) (drop i es)
  kept_held is =
      rw (held_before, held_behind)
      (sym (from_here ∙ ap (λ b. kept_in_turn names (exchanged names s x)
      (if b then before ++ take i es else (before ++ take i es) ++ taken names s x ∷ []) (drop (i + 1) es)) is))

  -- any other stays
  pub kept_new : holds_one x (before ++ take i es) ≡ false
      → kept_in_turn names (exchanged names s x) (before ++ take (i + 1) news) (drop (i + 1) news)
      ≡ kept_in_turn names s (before ++ take i es) (drop i es)
  kept_new is =
      rw (new_before, new_behind)
      (sym (from_here ∙ ap (λ b. kept_in_turn names (exchanged names s x)
      (if b then before ++ take i es else (before ++ take i es) ++ taken names s x ∷ []) (drop (i + 1) es)) is))
