-- How a session is opened.
use Rattle.std.specs.Prelude.{ℕ, not, ◌&&◌, List, Option, Some, None, nat_le, if◌then◌else◌}
use Rattle.externals.specs.Cells.{Seen}
use Rattle.externals.specs.Log.{Log}
use Rattle.object_table.specs.Content.{Content}
use Rattle.journal_entries.specs.State.{first_state, are_apart}
use Rattle.change_journal.specs.History.{alone}
use Rattle.change_journal.specs.declared.world.TheConstants.{MOST_DEPTH}
use Rattle.session.specs.SessionView.{SessionView}
use Rattle.session.specs.declared.limits.TheConstants.{MOST_STEPS}
use Rattle.session.specs.declared.fault.OpenError.{OpenError}
use Rattle.session.specs.declared.fault.OpenError.TheVariants.{BadSteps, BadDepth, DuplicateName}

-- why a session with these names of externals isn't opened, if it isn't
abbrev pub open_fault : ℕ → ℕ → List (List ℕ) → Option OpenError
open_fault steps depth titles =
    if not (nat_le 1 steps && nat_le steps MOST_STEPS) then Some BadSteps else
    (if not (nat_le 1 depth && nat_le depth MOST_DEPTH) then Some BadDepth else
    (if are_apart titles then None else Some DuplicateName))

-- one state: the stack, no global, its first card, and the externals with their cells and logs of now
abbrev pub opened : Content → List Seen → List Log → ℕ → ℕ → SessionView
opened stack externals logs steps depth =
    record { history = alone (first_state stack externals) 0 depth logs; lines = 0; steps = steps }
