-- Lines that are cut off a text.
use Rattle.std.proofs.Common.{◌≡◌, ℕ, zero, suc, ◌+◌, ◌-◌, ◌<◌, ◌≤◌, true, false, List, [], ◌∷◌, ◌++◌, length, take}
use Rattle.std.proofs.Common.{drop, get_or, refl, sym, ◌∙◌, ap, subst, inl, inr, ◌⊎◌, arith, add-one, drop-cons}
use Rattle.std.proofs.Common.{append_assoc, length-drop, Some, None, ◌==◌, take-append-drop, take_all, append-nil}
use Rattle.std.specs.List.{AllByRecursion, position, position_or_len}
use Rattle.std.proofs.lemmas.List.Quantifiers.{position-Some}
use Rattle.std.proofs.lemmas.List.Sums.{fails_before_first}
use Rattle.std.proofs.lemmas.Grind.{flat_map-append}
use Rattle.std.proofs.lemmas.Bool.{cases_lt, lt-ltb, eqb-true, eq-eqb}
use Rattle.stack_text.proofs.Elements.{each_append}
use Rattle.session.specs.Splits.{IsLine, ended_lines, Splits}

pub ended_lines-append : (xs ys : List (List ℕ)) → ended_lines (xs ++ ys) ≡ ended_lines xs ++ ended_lines ys
ended_lines-append xs ys = flat_map-append (λ line. line ++ 10 ∷ []) xs ys

pub ended_lines-snoc : (lines : List (List ℕ)) (line : List ℕ)
    → ended_lines (lines ++ line ∷ []) ≡ ended_lines lines ++ (line ++ 10 ∷ [])
ended_lines-snoc lines line =
    ended_lines-append lines (line ∷ []) ∙ ap (λ (t : List ℕ). ended_lines lines ++ t) (append-nil (line ++ 10 ∷ []))

-- the bytes in front of a place, where none before it is a line feed
IsLine-take : (xs : List ℕ) (i : ℕ) → i ≤ length xs → ((k : ℕ) → k < i → (get_or xs k 0 == 10) ≡ false)
    → IsLine (take i xs)
IsLine-take xs zero le before = tt
IsLine-take [] (suc i) le before = absurd (omega arith)
IsLine-take (x ∷ xs) (suc i) le
    before = (
      λ e. (let no : true ≡ false = sym (eq-eqb x 10 e) ∙ before 0 (omega arith) in cc),
      IsLine-take xs i
          (omega arith) (λ k lt. before (suc k) (omega arith)),
    )

-- the first line feed that is found
pub IsLine-found : (rest : List ℕ) (i : ℕ) → position (λ b. b == 10) rest ≡ Some i → IsLine (take i rest)
IsLine-found rest i is = let p = position-Some (λ b. b == 10) rest i 0 is in IsLine-take rest i (omega (arith, p.0)) p.2

-- no line feed is found
pub IsLine-none : (rest : List ℕ) → position (λ b. b == 10) rest ≡ None → IsLine rest
IsLine-none rest none =
    let e : ℕ = position_or_len (λ b. b == 10) rest in
    elim (cases_lt e (length rest)) [
      | inl lt ↦
          let some : Some e ≡ None = rw (lt-ltb e (length rest) lt) at none in
          cc
      | inr le ↦
          subst IsLine (take_all (length rest) rest (omega arith))
          (IsLine-take rest (length rest) (omega arith)
          (λ k lt. fails_before_first (λ b. b == 10) rest k 0 (omega arith)))
    ]

-- a line is cut off what is left
pub line_cut : (text : List ℕ) (shown : List (List ℕ)) (rest : List ℕ) (i : ℕ) → text ≡ ended_lines shown ++ rest
    → position (λ b. b == 10) rest ≡ Some i
    → text ≡ ended_lines (shown ++ take i rest ∷ []) ++ take (length rest - (i + 1)) (drop (i + 1) rest)
line_cut text shown rest i whole is =
    let p = position-Some (λ b. b == 10) rest i 0 is in
    let feed : get_or rest i 0 ≡ 10 = eqb-true (get_or rest i 0) 10 p.1 in
    let left : take (length rest - (i + 1)) (drop (i + 1) rest) ≡ drop (i + 1) rest =
    take_all (length rest - (i + 1)) (drop (i + 1) rest) (omega (arith, length-drop (i + 1) rest)) in
    let here : drop i rest ≡ 10 ∷ drop (i + 1) rest =
    rw add-one (drop-cons rest i 0 p.0 ∙ ap (λ b. b ∷ drop (suc i) rest) feed) in
    let parts : rest ≡ (take i rest ++ 10 ∷ []) ++ drop (i + 1) rest = sym (take-append-drop i rest)
    ∙ ap (λ t. take i rest ++ t) here ∙ sym (append_assoc (take i rest) (10 ∷ []) (drop (i + 1) rest)) in
    rw (left, ended_lines-snoc)
    (whole ∙ ap (λ t. ended_lines shown ++ t) parts
    ∙ sym (append_assoc (ended_lines shown) (take i rest ++ 10 ∷ []) (drop (i + 1) rest)))

-- one line more
pub lines_more : (shown : List (List ℕ)) (line : List ℕ) → AllByRecursion IsLine shown → IsLine line
    → AllByRecursion IsLine (shown ++ line ∷ [])
lines_more shown line each is = each_append IsLine shown (line ∷ []) each (is, tt)

-- ---- a text whose last byte is a line feed

ends_with_feed : (lines : List (List ℕ))
    → (ended_lines lines ≡ []) ⊎ ((front : List ℕ) × (ended_lines lines ≡ front ++ 10 ∷ []))
ends_with_feed [] = inl refl
ends_with_feed (l ∷ ls) =
    elim (ends_with_feed ls) [
      | inl none ↦ inr (l, rw none (append-nil (l ++ 10 ∷ [])))
      | inr more ↦ inr ((l ++ 10 ∷ []) ++ more.0, rw more.1 (sym (append_assoc (l ++ 10 ∷ []) more.0 (10 ∷ []))))
    ]

append_none : (xs ys : List ℕ) → xs ++ ys ≡ [] → ys ≡ []
append_none [] ys e = e
append_none (x ∷ xs) ys e = cc

no_feed : (front : List ℕ) → IsLine (front ++ 10 ∷ []) → ⊥
no_feed [] is = is.0 refl
no_feed (f ∷ fs) is = no_feed fs is.1

rest_none : (before rest front : List ℕ) → before ++ rest ≡ front ++ 10 ∷ [] → IsLine rest → rest ≡ []
rest_none [] rest front e is = absurd (no_feed front (subst IsLine e is))
rest_none (b ∷ bs) rest [] e is = append_none bs rest (let t : bs ++ rest ≡ [] = cc in t)
rest_none (b ∷ bs) rest (f ∷ fs) e is = rest_none bs rest fs (let t : bs ++ rest ≡ fs ++ 10 ∷ [] = cc in t) is

-- where all lines are ended nothing is left
pub nothing_left : (lines shown : List (List ℕ)) (rest : List ℕ) → ended_lines lines ≡ ended_lines shown ++ rest
    → IsLine rest → rest ≡ []
nothing_left lines shown rest e is =
    elim (ends_with_feed lines) [
      | inl none ↦ append_none (ended_lines shown) rest (sym e ∙ none)
      | inr more ↦ rest_none (ended_lines shown) rest more.0 (sym e ∙ more.1) is
    ]

-- a text of which each line is ended has no rest
pub splits_whole : (lines : List (List ℕ)) (text : List ℕ) (shown : List (List ℕ)) (rest : List ℕ)
    → text ≡ ended_lines lines → Splits text shown rest → Splits text shown []
splits_whole lines text shown rest is s =
    let none : rest ≡ [] = nothing_left lines shown rest (sym is ∙ s.whole) s.partial in
    record { whole = s.whole ∙ ap (λ t. ended_lines shown ++ t) none; each = s.each; partial = tt }
