-- What a command keeps, in the form in which it is used.
use Rattle.std.proofs.Common.{◌≡◌, List, Option, Some, None, refl, sym, subst}
use Rattle.journal_entries.specs.Replaced.{Replacement}
use Rattle.change_journal.specs.History.{Open}
use Rattle.change_journal.specs.Rising.{Rises}
use Rattle.preservation.specs.Rising.{TrailAfter, RisesIn, RisesBy}

-- the batch that is open after what was open before
pub risen : {replaced : List Replacement} {old : Open} {new : Option Open} → RisesBy replaced (Some old) new
    → (batch : Open) × (new ≡ Some batch) × TrailAfter replaced old.trail batch.trail
    × Rises replaced batch.trail old batch
risen {replaced} {old} {new} rises = of_new new refl
  where
    of_new : (n : Option Open) → new ≡ n
        → (batch : Open) × (new ≡ Some batch) × TrailAfter replaced old.trail batch.trail
        × Rises replaced batch.trail old batch
    of_new None is = absurd (subst (RisesIn replaced (Some old)) is rises.by)
    of_new (Some batch) is =
        let by = subst (RisesIn replaced (Some old)) is rises.by in
        let same = sym by.2.trail in (
          batch,
          is,
          subst (TrailAfter replaced old.trail) same by.1,
          subst (λ marks. Rises replaced marks old batch)
              same by.2,
        )
