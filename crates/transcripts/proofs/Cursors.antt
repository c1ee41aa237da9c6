-- Where the cursor stands.
use Rattle.std.proofs.Common.{◌≡◌, ℕ, zero, suc, ◌+◌, ◌-◌, ◌<◌, List, [], ◌∷◌, ◌++◌, length, Bool, true, false, Option}
use Rattle.std.proofs.Common.{Some, None, refl, subst, arith, ltb-true, length-drop, length-take, length-append}
use Rattle.std.specs.Prelude.{take, min, nat_lt, nat_le, slice_get, if◌then◌else◌}
use Rattle.std.proofs.lemmas.Option.{none-some}
use Rattle.journal_entries.specs.State.{State}
use Rattle.session.specs.Meaning.{Moment}
use Rattle.headline.specs.Headline.{Snapshot, Timeline, IsPresent, followed_by, before, cursor_back, cursor_forth}
use Rattle.transcripts.specs.Laws.{HasPresent}

-- the state on which the cursor stands
pub standing : (xs : List Snapshot) (i : ℕ) → i < length xs → (s : Snapshot) × (slice_get xs i ≡ Some s)
standing [] i below = absurd (omega (arith, below))
standing (x ∷ xs) zero below = (x, refl)
standing (x ∷ xs) (suc i) below = standing xs i (omega (arith, below))

within : (xs : List Snapshot) (i : ℕ) (s : Snapshot) → slice_get xs i ≡ Some s → i < length xs
within [] i s e = absurd (none-some s e)
within (x ∷ xs) zero s e = omega arith
within (x ∷ xs) (suc i) s e = let rest = within xs i s e in omega (arith, rest)

pub present_within : (state : State) (t : Timeline) → IsPresent state t → HasPresent t
present_within state t (number, here) = within t.snapshots t.cursor (record { state = state; number = number }) here

-- ---- where it goes

pub back_within : (k : ℕ) (t : Timeline) → HasPresent t → (p : ℕ) → cursor_back k t ≡ Some p → p < length t.snapshots
back_within k t present p = by_test (nat_le k t.cursor)
  where
    by_test : (b : Bool) → (if b then Some (t.cursor - k) else None) ≡ Some p → p < length t.snapshots
    by_test true e = let there : t.cursor - k ≡ p = cc in omega (arith, there, present)
    by_test false e = absurd (none-some _ e)

pub forth_within : (k : ℕ) (t : Timeline) (p : ℕ) → cursor_forth k t ≡ Some p → p < length t.snapshots
forth_within k t p = by_test (nat_lt (t.cursor + k) (length t.snapshots)) refl
  where
    by_test : (b : Bool) → nat_lt (t.cursor + k) (length t.snapshots) ≡ b →
        (if b then Some (t.cursor + k) else None) ≡ Some p → p < length t.snapshots
    by_test true is e = let there : t.cursor + k ≡ p = cc in subst (λ p. p < length t.snapshots) there
        (ltb-true (t.cursor + k) (length t.snapshots) is)
    by_test false is e = absurd (none-some _ e)

pub before_within : (cursor most : ℕ) (place : Option ℕ) → cursor < most → (p : ℕ) → before cursor place ≡ Some p →
    p < most
before_within cursor most None below p e = absurd (none-some _ e)
before_within cursor most (Some place) below p e = by_test (nat_lt place cursor) refl e
  where
    by_test : (b : Bool) → nat_lt place cursor ≡ b → (if b then Some place else None) ≡ Some p → p < most
    by_test true is e = let there : place ≡ p = cc in let less : place < cursor = ltb-true place cursor is in omega
        (arith, there, less, below)
    by_test false is e = absurd (none-some _ e)

pub followed_present : (t : Timeline) (after : Moment) → HasPresent t → HasPresent (followed_by t after)
followed_present t after present =
    let last : Snapshot = record { state = after.state; number = t.lines } in
    let most : length (take (t.cursor + 1) t.snapshots) ≡ min (t.cursor + 1) (length t.snapshots) = length-take
    (t.cursor + 1) t.snapshots in
    let joined : length (take (t.cursor + 1) t.snapshots ++ last ∷ []) ≡ length (take (t.cursor + 1) t.snapshots) + 1
    = length-append (take (t.cursor + 1) t.snapshots) (last ∷ []) in
    let left = length-drop (t.cursor + 1 - t.depth) (take (t.cursor + 1) t.snapshots ++ last ∷ []) in omega
    (arith, present, most, joined, left)
