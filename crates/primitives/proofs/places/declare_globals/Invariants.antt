use Rattle.std.proofs.Common.{◌≡◌, drop}
use Rattle.change_journal.specs.History.{History}
use Rattle.containers.specs.Base.{base}
use Rattle.meaning.specs.declared.frame.Frame.{Frame}
use Rattle.meaning.specs.Places.{DeclaresAll}
use Rattle.primitives.proofs.places.declare_globals.Given as goal

abbrev pub invariant-loop-name : goal.invariant-loop-name
invariant-loop-name g l = record {
  base : base l.world.history ≡ base l.fn.world.history;
  rest : (w : History) (f : Frame) → DeclaresAll l.world.history l.frame (drop l.name-index l.names) w f →
      DeclaresAll l.fn.world.history l.fn.frame l.names w f;
}
