use Rattle.std.proofs.Common.{◌≡◌, ◌++◌, ℕ, List, drop}
use Rattle.std.specs.Io.KnownBytes.{Appends}
use Rattle.std.specs.List.{flat_map}
use Rattle.headline.specs.Answers.{shown_line}
use Rattle.headline.proofs.answer.write_piecewise.Given as goal

-- some lines went out, the others are left, and no call failed
abbrev pub invariant-loop-line : goal.invariant-loop-line
invariant-loop-line g l = record {
  sent : (front : List ℕ) × Appends (g.W.Write.contents l.fn.out.device) (g.W.Write.contents l.out.device) front
      × (front ++ flat_map shown_line (drop l.line-index l.line-items) ≡ flat_map shown_line l.reply.shown);
  sound : l.out.failures ≡ l.fn.out.failures;
}
