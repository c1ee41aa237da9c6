-- Words between spaces.
use Rattle.std.proofs.Common.{◌≡◌, ℕ, suc, ◌+◌, ◌-◌, ◌<◌, ◌≤◌, Bool, true, false, cond, not, List, [], ◌∷◌, length}
use Rattle.std.proofs.Common.{take, drop, get_or, refl, sym, ◌∙◌, ap, arith, length-drop, add-one, drop-cons, inl, inr}
use Rattle.std.proofs.Common.{filter, ◌==◌, Some, None}
use Rattle.std.specs.List.{slice_split, onto_first, position, position_or_len}
use Rattle.std.proofs.lemmas.List.Splits.{slice_split-cons_yes, slice_split-cons_no, slice_split_first}
use Rattle.std.proofs.lemmas.List.Splits.{slice_split_none}
use Rattle.std.proofs.lemmas.List.Sums.{passes_at_first, fails_before_first, prefix_len-le-length}
use Rattle.std.proofs.lemmas.List.{take_all, drop_all}
use Rattle.std.proofs.lemmas.Bool.{cases_lt, lt-ltb}
use Rattle.session.specs.Commands.{words, is_run, after_spaces}

-- a first word begins with this byte
pub words-front : (b : ℕ) (bs : List ℕ) → (b == 32) ≡ false
    → words (b ∷ bs) ≡ (b ∷ take (position_or_len (λ x. x == 32) bs) bs)
    ∷ words (drop (position_or_len (λ x. x == 32) bs) bs)
words-front b bs ne =
    let p : ℕ → Bool = λ x. x == 32 in
    let e : ℕ = position_or_len p bs in
    elim (cases_lt e (length bs)) [
      | inl lt ↦
          let cut : slice_split p bs ≡ take e bs ∷ slice_split p (drop (e + 1) bs) = slice_split_first p bs 0 lt in
          let here : drop e bs ≡ get_or bs e 0 ∷ drop (e + 1) bs = rw add-one (drop-cons bs e 0 lt) in
          let gone : slice_split p (drop e bs) ≡ [] ∷ slice_split p (drop (e + 1) bs) =
          rw here (slice_split-cons_yes p (get_or bs e 0) (drop (e + 1) bs) (passes_at_first p bs 0 lt)) in
          ap (filter is_run) (slice_split-cons_no p b bs ne ∙ ap (onto_first b) cut)
          ∙ sym (ap (λ parts. (b ∷ take e bs) ∷ filter is_run parts) gone)
      | inr le ↦
          let whole : slice_split p bs ≡ bs ∷ [] =
          slice_split_none p bs (λ k d lt. fails_before_first p bs k d (omega arith)) in
          let none : drop e bs ≡ [] = drop_all e bs le in
          let all : take e bs ≡ bs = take_all e bs le in
          ap (filter is_run) (slice_split-cons_no p b bs ne ∙ ap (onto_first b) whole) ∙ rw (all, none) refl
    ]

word_first : List ℕ → List (List ℕ)
word_first [] = []
word_first (b ∷ bs) = take (position_or_len (λ x. x == 32) (b ∷ bs)) (b ∷ bs)
    ∷ words (drop (position_or_len (λ x. x == 32) (b ∷ bs)) (b ∷ bs))

front_is : (b : ℕ) (bs : List ℕ) → (b == 32) ≡ false → words (b ∷ bs) ≡ word_first (b ∷ bs)
unfolding word_first
front_is b bs ne =
    let one : position_or_len (λ x. x == 32) (b ∷ bs) ≡ suc (position_or_len (λ x. x == 32) bs) = rw ne (omega arith) in
    rw one (words-front b bs ne)

-- the words from the first one on
words-after_spaces : (line : List ℕ) → words line ≡ word_first (after_spaces line)
unfolding word_first
words-after_spaces [] = refl
words-after_spaces (b ∷ bs) =
    elim (b == 32) as (λ t. (b == 32) ≡ t → words (b ∷ bs) ≡ word_first (cond t (after_spaces bs) (b ∷ bs))) [
      | true ↦ λ is. ap (filter is_run) (slice_split-cons_yes (λ x. x == 32) b bs is) ∙ words-after_spaces bs
      | false ↦ λ isnt. front_is b bs isnt
    ] refl

word_first-some : (bytes : List ℕ) → 0 < length bytes
    → word_first bytes ≡ take (position_or_len (λ x. x == 32) bytes) bytes
    ∷ words (drop (position_or_len (λ x. x == 32) bytes) bytes)
unfolding word_first
word_first-some [] some = absurd (omega arith)
word_first-some (b ∷ bs) some = refl

word_first-none : (bytes : List ℕ) → length bytes ≡ 0 → word_first bytes ≡ []
unfolding word_first
word_first-none [] none = refl
word_first-none (b ∷ bs) none = absurd (omega arith)

-- no word is left
pub words-none : (line : List ℕ) → length (after_spaces line) ≡ 0 → words line ≡ []
words-none line none = words-after_spaces line ∙ word_first-none (after_spaces line) none

-- the first word, and the words in what follows it
pub words-next : (line bytes : List ℕ) (end : ℕ) → bytes ≡ after_spaces line → 0 < length bytes
    → end ≡ position_or_len (λ x. x == 32) bytes → end ≤ length bytes
    → words line ≡ take end bytes ∷ words (take (length bytes - end) (drop end bytes))
words-next line bytes end from some is within =
    let all : take (length bytes - end) (drop end bytes) ≡ drop end bytes =
    take_all (length bytes - end) (drop end bytes) (omega (arith, length-drop end bytes)) in
    rw (all, is) (words-after_spaces line ∙ ap word_first (sym from) ∙ word_first-some bytes some)

-- where no space stands the word goes on to the end
pub position-none : (bytes : List ℕ) → position (λ x. x == 32) bytes ≡ None
    → length bytes ≡ position_or_len (λ x. x == 32) bytes
position-none bytes none =
    let e : ℕ = position_or_len (λ x. x == 32) bytes in
    elim (cases_lt e (length bytes)) [
      | inl lt ↦
          let some : Some e ≡ None = rw (lt-ltb e (length bytes) lt) at none in
          cc
      | inr le ↦ omega (arith, prefix_len-le-length (λ x. not (x == 32)) bytes)
    ]
