use Rattle.std.proofs.Common.{◌≡◌, ◌++◌, take, drop}
use Rattle.journal_entries.specs.Exchange.{forth, forth_taken, AreReady, shape_of}
use Rattle.journal_entries.proofs.present.Present.go_forth.Given as goal

abbrev pub invariant-loop-i : goal.invariant-loop-i
invariant-loop-i g l = record {
  names : l.self.names ≡ l.initial.self.names;
  logs : l.self.logs ≡ l.initial.self.logs;
  room : l.self.room ≡ l.initial.self.room;
  ready : AreReady (shape_of l.self) (drop l.i l.entries);
  state : forth l.self.names l.self.state (drop l.i l.entries)
      ≡ forth l.initial.self.names l.initial.self.state l.initial.entries;
  entries : take l.i l.entries ++ forth_taken l.self.names l.self.state (drop l.i l.entries)
      ≡ forth_taken l.initial.self.names l.initial.self.state l.initial.entries;
}
