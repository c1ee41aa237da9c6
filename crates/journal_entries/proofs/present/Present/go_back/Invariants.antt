use Rattle.std.proofs.Common.{◌≡◌, ◌≤◌, ◌++◌, length, take, drop}
use Rattle.journal_entries.specs.Exchange.{back, back_taken, AreReady, shape_of}
use Rattle.journal_entries.proofs.present.Present.go_back.Given as goal

abbrev pub invariant-loop-i : goal.invariant-loop-i
invariant-loop-i g l = record {
  names : l.self.names ≡ l.initial.self.names;
  logs : l.self.logs ≡ l.initial.self.logs;
  room : l.self.room ≡ l.initial.self.room;
  within : l.i ≤ length l.entries;
  ready : AreReady (shape_of l.self) (take l.i l.entries);
  state : back l.self.names l.self.state (take l.i l.entries)
      ≡ back l.initial.self.names l.initial.self.state l.initial.entries;
  entries : back_taken l.self.names l.self.state (take l.i l.entries) ++ drop l.i l.entries
      ≡ back_taken l.initial.self.names l.initial.self.state l.initial.entries;
}

abbrev pub decreases-loop-i : goal.decreases-loop-i
decreases-loop-i g l = l.i
