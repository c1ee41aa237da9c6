-- What the notes of a relay lead to.
use Rattle.std.proofs.Common.{◌≡◌, ℕ, arith, true, false, nat_eq, bytes_eq, length, List, [], ◌∷◌, codes}
use Rattle.std.proofs.Common.{drop, slice_index_or, slice_set, refl, eqb-true}
use Rattle.std.specs.Cmp.{first_so}
use Rattle.xkit.specs.Table.{relay_start, relay_answer, is_note}
use Rattle.externals.specs.declared.external.Ask.TheVariants.{SetFieldByName, SetGlobal}
use Rattle.xkit.specs.Steps.{cell}

length-note : (n : ℕ) (stage : List ℕ) (note : List (List ℕ)) → is_note n stage note ≡ true → length note ≡ n
length-note n stage note h =
    eqb-true (length note) n (first_so (nat_eq (length note) n) (bytes_eq (slice_index_or note 0 []) stage) h)

-- the first note, with its four texts
pub global_was_set : (cells note : List (List ℕ)) (value : List ℕ) → is_note 4 (codes "1") note ≡ true
    → relay_answer cells note value
    ≡ (SetFieldByName (codes "2" ∷ drop 2 note) false (slice_index_or note 1 []) (cell cells 0), cells)
global_was_set cells [] value h = let n = length-note 4 (codes "1") [] h in absurd (omega arith)
global_was_set cells (a ∷ []) value h = let n = length-note 4 (codes "1") (a ∷ []) h in absurd (omega arith)
global_was_set cells (a ∷ b ∷ []) value h = let n = length-note 4 (codes "1") (a ∷ b ∷ []) h in absurd (omega arith)
global_was_set cells (a ∷ b ∷ c ∷ []) value h =
    let n = length-note 4 (codes "1") (a ∷ b ∷ c ∷ []) h in absurd (omega arith)
global_was_set cells (a ∷ b ∷ c ∷ d ∷ []) value h = rw h refl
global_was_set cells (a ∷ b ∷ c ∷ d ∷ e ∷ note) value h =
    let n = length-note 4 (codes "1") (a ∷ b ∷ c ∷ d ∷ e ∷ note) h in absurd (omega arith)

-- a start with four texts
pub global_is_set : (cells args : List (List ℕ)) → length args ≡ 4 → relay_start cells args
    ≡ (
      SetGlobal (codes "1" ∷ drop 1 args) (slice_index_or args 0 []) (codes "relay"),
      slice_set cells 0 (slice_index_or args 0 []),
    )
global_is_set cells [] h = absurd (omega arith)
global_is_set cells (a ∷ []) h = absurd (omega arith)
global_is_set cells (a ∷ b ∷ []) h = absurd (omega arith)
global_is_set cells (a ∷ b ∷ c ∷ []) h = absurd (omega arith)
global_is_set cells (a ∷ b ∷ c ∷ d ∷ []) h = refl
global_is_set cells (a ∷ b ∷ c ∷ d ∷ e ∷ args) h = absurd (omega arith)
