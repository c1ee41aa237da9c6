use Rattle.std.proofs.Common.{◌≡◌, ◌≤◌, ℕ, ◌<◌, ◌-◌, length, false, nat_le}
use Rattle.change_journal.specs.History.{stamp_at}
use Rattle.session.proofs.moves.places_to.Given as goal

-- each state nearer than these has too high a number, and the one as far as this hasn't
abbrev pub invariant-loop-near : goal.invariant-loop-near
invariant-loop-near g l = record {
  order : l.near ≤ l.far;
  within : l.far ≤ length l.world.history.past;
  high : (k : ℕ) → k < l.near → nat_le (stamp_at l.world.history k) l.number ≡ false;
  low : stamp_at l.world.history l.far ≤ l.number;
}

abbrev pub decreases-loop-near : goal.decreases-loop-near
decreases-loop-near g l = l.far - l.near
