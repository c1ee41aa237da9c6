use Rattle.std.proofs.Common.{◌≡◌, drop, slice_get}
use Rattle.journal_entries.specs.Named.{listed}
use Rattle.journal_entries.proofs.globals.Globals.at.Given as goal

abbrev pub invariant-loop-number : goal.invariant-loop-number
invariant-loop-number l = slice_get (listed (drop l.number l.fn.self.names) l.fn.self.texts) l.left
    ≡ slice_get (listed l.fn.self.names l.fn.self.texts) l.fn.i
