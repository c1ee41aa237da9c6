use Rattle.journal_entries.proofs.open_batch.keep.Goals as goal

pub returns-clause-indexed : goal.returns-clause-indexed
returns-clause-indexed c =
    rw c.push_reserved.ensures.items (c.add_place.ensures.indexed c.args.entries.now.items c.requires.indexed)
