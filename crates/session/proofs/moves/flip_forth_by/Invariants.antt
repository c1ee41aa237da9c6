use Rattle.std.proofs.Common.{◌≡◌, ◌-◌, ◌≤◌, length, None}
use Rattle.session.specs.Moves.{forth_by}
use Rattle.session.proofs.moves.flip_forth_by.Given as goal

-- what is left to do leads on to where all leads
abbrev pub invariant-loop : goal.invariant-loop
invariant-loop g l = record {
  left : forth_by (l.places - l.counter) l.world.history ≡ forth_by l.places l.initial.world.history;
  there : l.places - l.counter ≤ length l.world.history.future;
  closed : l.world.history.start ≡ None;
}
