use Rattle.std.proofs.Common.{◌≡◌, ℕ, ◌<◌, false, get_or}
use Rattle.ht_values.specs.Text.{same}
use Rattle.containers.specs.declared.variables.Local.{Local}
use Rattle.containers.proofs.indexed_locals.place_in.Given as goal

-- none before this place is it
abbrev pub invariant-loop-i : goal.invariant-loop-i
invariant-loop-i l = (k : ℕ) (d : Local) → k < l.i → same (get_or l.locals k d).name l.name ≡ false
