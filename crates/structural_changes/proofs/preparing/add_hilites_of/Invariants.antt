use Rattle.std.proofs.Common.{◌+◌, ◌-◌, ◌≤◌, length, take, vec_len, vec_capacity}
use Rattle.structural_changes.specs.Prepared.{Adds}
use Rattle.structural_changes.specs.Writes.{hilites_of}
use Rattle.structural_changes.proofs.preparing.add_hilites_of.Given as goal

abbrev pub invariant-loop-button : goal.invariant-loop-button
invariant-loop-button l = record {
  adds : Adds l.fn.stack l.stack l.fn.entries.items l.entries.items (hilites_of (take l.button-index l.buttons) l.card);
  room : vec_len l.entries + (length l.buttons - l.button-index) ≤ vec_capacity l.entries;
}
