use Rattle.std.proofs.Common.{sym, ◌∙◌}
use Rattle.journal_entries.proofs.Indexing.{indexed-placed, indexed-structural, indexed-turned}
use Rattle.journal_entries.proofs.open_batch.add_place.Goals as goal

pub returns-in-Some-clause-indexed : goal.returns-in-Some-clause-indexed
returns-in-Some-clause-indexed c = λ es indexed. indexed-placed es c.args.entry.now c.in-Some.key c.args.places.now
    c.add.new.self (sym c.key_of.ensures ∙ c.in-Some.is) c.add.ensures.has c.add.ensures.bounded indexed

pub returns-then-is_structural_entry-clause-indexed : goal.returns-then-is_structural_entry-clause-indexed
returns-then-is_structural_entry-clause-indexed c = λ es indexed. indexed-structural es c.args.entry.now
    c.clear.new.self (sym c.is_structural_entry.ensures ∙ c.if-is_structural_entry.true) c.clear.ensures.has
    c.clear.ensures.bounded

pub returns-else-is_structural_entry-clause-indexed : goal.returns-else-is_structural_entry-clause-indexed
returns-else-is_structural_entry-clause-indexed c = λ es indexed. indexed-turned es c.args.entry.now c.args.places.now
    (sym c.key_of.ensures ∙ c.in-None.is) (sym c.is_structural_entry.ensures ∙ c.if-is_structural_entry.false) indexed
