use Rattle.std.proofs.Common.{refl}
use Rattle.journal_entries.specs.Exchange.{is_structural}
use Rattle.journal_entries.specs.declared.entry.Entry.TheVariants.{External}
use Rattle.journal_entries.proofs.Indexing.{indexed-turned}
use Rattle.journal_entries.proofs.open_batch.keep_turn.Goals as goal

pub returns-clause-indexed : goal.returns-clause-indexed
unfolding is_structural
returns-clause-indexed c =
    rw c.push_reserved.ensures.items
    (indexed-turned c.args.entries.now.items (External c.args.i c.args.patch) c.args.places.now refl refl
    c.requires.indexed)
