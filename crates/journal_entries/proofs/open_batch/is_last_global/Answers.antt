use Rattle.std.proofs.Common.{sym}
use Rattle.journal_entries.proofs.Holding.{holds_one-last}
use Rattle.journal_entries.specs.declared.entry.Entry.TheVariants.{Global}
use Rattle.journal_entries.proofs.open_batch.is_last_global.Goals as goal

pub returns-in-Some : goal.returns-in-Some
returns-in-Some c same v = holds_one-last (Global c.args.i v) c.in-Some.last.now c.args.entries.now
    (sym c.in-Some.ensures.value) (c.is_of_global.ensures same v)
