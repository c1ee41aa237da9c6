-- What each part of a run keeps, however it ends.
use Rattle.std.specs.Prelude.{◌≡◌, ◌≤◌}
use Rattle.change_journal.specs.History.{History}
use Rattle.containers.specs.Base.{base}
use Rattle.meaning.specs.State.{RunState}

-- the base stays, and no step comes back
abbrev pub Keeps : History → RunState → History → RunState → Type 0
Keeps w r w1 r1 = (base w1 ≡ base w) × (r1.left ≤ r.left)
