-- Flips, one after the other.
use Rattle.std.proofs.Common.{◌≡◌, ℕ, suc, ◌+◌, ◌-◌, ◌<◌, ◌≤◌, Bool, true, false, List, [], ◌∷◌, length, refl, arith}
use Rattle.std.proofs.Common.{Some, None, nat_le, slice_index_or, lt-ltb, le-ltb, le-leb}
use Rattle.std.specs.List.{position, position_or_len}
use Rattle.std.proofs.lemmas.List.{length-map}
use Rattle.std.proofs.lemmas.List.Sums.{position_or_len_is}
use Rattle.change_journal.specs.History.{History, Neighbour, stamp_at, flipped_back, flipped_back_from, flipped_forth}
use Rattle.change_journal.specs.History.{flipped_forth_from}
use Rattle.session.specs.Moves.{back_by, forth_by, stamps, places_to}

one_less : (n i : ℕ) → i < n → n - i ≡ suc (n - (i + 1))
one_less n i lt = omega arith

-- one flip of those that are left
pub back_by-next : (n i : ℕ) (h : History) → i < n → back_by (n - i) h ≡ back_by (n - (i + 1)) (flipped_back h)
back_by-next n i h lt = rw one_less refl

pub forth_by-next : (n i : ℕ) (h : History) → i < n → forth_by (n - i) h ≡ forth_by (n - (i + 1)) (flipped_forth h)
forth_by-next n i h lt = rw one_less refl

back_from : (h : History) (steps : List Neighbour) → 0 < length steps
    → length (flipped_back_from h steps).past + 1 ≡ length steps
back_from h [] some = absurd (omega arith)
back_from h (s ∷ ss) some = omega arith

pub past-flipped_back : (h : History) → 0 < length h.past → length (flipped_back h).past + 1 ≡ length h.past
past-flipped_back h some = back_from h h.past some

forth_from : (h : History) (steps : List Neighbour) → 0 < length steps
    → length (flipped_forth_from h steps).future + 1 ≡ length steps
forth_from h [] some = absurd (omega arith)
forth_from h (s ∷ ss) some = omega arith

pub future-flipped_forth : (h : History) → 0 < length h.future → length (flipped_forth h).future + 1 ≡ length h.future
future-flipped_forth h some = forth_from h h.future some

start_back : (h : History) (steps : List Neighbour) → (flipped_back_from h steps).start ≡ h.start
start_back h [] = refl
start_back h (s ∷ ss) = refl

pub start-flipped_back : (h : History) → (flipped_back h).start ≡ h.start
start-flipped_back h = start_back h h.past

start_forth : (h : History) (steps : List Neighbour) → (flipped_forth_from h steps).start ≡ h.start
start_forth h [] = refl
start_forth h (s ∷ ss) = refl

pub start-flipped_forth : (h : History) → (flipped_forth h).start ≡ h.start
start-flipped_forth h = start_forth h h.future

found_at : (p : ℕ → Bool) (xs : List ℕ) (i : ℕ) → i < length xs → ((k : ℕ) → k < i → p (slice_index_or xs k 0) ≡ false)
    → p (slice_index_or xs i 0) ≡ true → Some i ≡ position p xs
found_at p xs i lt before here =
    let is : position_or_len p xs ≡ i = position_or_len_is p xs i 0 (omega arith) before (λ _. here) in
    rw (is, lt-ltb i (length xs) lt) refl

found_none : (p : ℕ → Bool) (xs : List ℕ) → ((k : ℕ) → k < length xs → p (slice_index_or xs k 0) ≡ false)
    → None ≡ position p xs
found_none p xs before =
    let is : position_or_len p xs ≡ length xs =
    position_or_len_is p xs (length xs) 0 (omega arith) before (λ never. absurd (omega arith)) in
    rw (is, le-ltb (length xs) (length xs) (omega arith)) refl

-- the first state, from the present one back, whose number is low enough
pub places_to-found : (n i : ℕ) (h : History) → i ≤ length h.past → ((k : ℕ) → k < i → nat_le (stamp_at h k) n ≡ false)
    → stamp_at h i ≤ n → Some i ≡ places_to n h
places_to-found n i h within before low = found_at (λ stamp. nat_le stamp n) (stamps h) i
    (omega (arith, length-map h.past (λ step. step.stamp))) before (le-leb (stamp_at h i) n low)

pub places_to-none : (n : ℕ) (h : History) → ((k : ℕ) → k < length h.past + 1 → nat_le (stamp_at h k) n ≡ false)
    → None ≡ places_to n h
places_to-none n h before = found_none (λ stamp. nat_le stamp n) (stamps h)
    (λ k lt. before k (omega (arith, length-map h.past (λ step. step.stamp))))
