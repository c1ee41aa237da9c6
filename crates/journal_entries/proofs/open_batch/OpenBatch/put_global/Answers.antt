use Rattle.std.proofs.Common.{[], ◌∷◌, ap, sym}
use Rattle.journal_entries.specs.declared.entry.Entry.TheVariants.{Global}
use Rattle.journal_entries.proofs.Holding.{kept-held}
use Rattle.journal_entries.proofs.Turned.{on_ok_both}
use Rattle.journal_entries.proofs.open_batch.OpenBatch.put_global.Goals as goal

pub returns-then-is_last_global-clause-ok : goal.returns-then-is_last_global-clause-ok
returns-then-is_last_global-clause-ok g c =
    let held = rw (c.deref.ensures.value, ap (λ b. b.entries) c.self.view_is) at
    c.is_last_global.ensures c.if-is_last_global.true c.args.value in record {
      mid = c.number_global.new.self;
      entries = Global c.in_ok-i.i c.args.value ∷ [];
      grows = c.number_global.ensures.grows;
      prepared = c.in_ok-i.ensures.entry c.args.value;
      present = c.swap_global.ensures.state;
      batch = ap (λ es. record c.args.self.now { entries = es }) (sym (kept-held c.args.self.now.entries _ _ held));
    }

pub returns-clause-ok : goal.returns-clause-ok
returns-clause-ok g c = on_ok_both c.write.result (λ p q. record {
  mid = c.number_global.new.self;
  entries = Global c.in_ok-i.i c.args.value ∷ [];
  grows = c.number_global.ensures.grows;
  prepared = c.in_ok-i.ensures.entry c.args.value;
  present = p;
  batch = q;
}) c.write.ensures.state c.write.ensures.entries
