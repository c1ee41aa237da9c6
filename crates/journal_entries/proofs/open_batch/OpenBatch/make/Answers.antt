use Rattle.std.proofs.Common.{[], ◌∷◌}
use Rattle.journal_entries.proofs.Turned.{on_ok_both}
use Rattle.journal_entries.proofs.open_batch.OpenBatch.make.Goals as goal

pub returns-in-One-clause-ok : goal.returns-in-One-clause-ok
returns-in-One-clause-ok g c = on_ok_both c.write.result (λ p q. record {
  mid = c.prepare.new.self;
  entries = c.in-One.entry ∷ [];
  grows = c.prepare.ensures.grows;
  prepared = rw c.in-One.is at c.in_ok-entry.ensures.entries;
  present = p;
  batch = q;
}) c.write.ensures.state c.write.ensures.entries

pub returns-in-Several-clause-ok : goal.returns-in-Several-clause-ok
returns-in-Several-clause-ok g c = on_ok_both c.write_each.result (λ p q. record {
  mid = c.prepare.new.self;
  entries = c.in-Several.entries.items;
  grows = c.prepare.ensures.grows;
  prepared = rw c.in-Several.is at c.in_ok-entry.ensures.entries;
  present = p;
  batch = q;
}) c.write_each.ensures.state c.write_each.ensures.entries
