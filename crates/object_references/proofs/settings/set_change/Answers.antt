use Rattle.std.proofs.Common.{IfOk, sym, ap, subst, ◌∙◌}
use Rattle.ht_values.specs.Outcome.{and_then}
use Rattle.object_references.specs.Settings.{change_of, FitsIn}
use Rattle.object_references.proofs.Fitting.{setting_fits}
use Rattle.object_references.proofs.Handed.{handed_ok, handed_err}
use Rattle.object_references.proofs.settings.set_change.Goals as goal

pub returns-in-Ok-clause-change : goal.returns-in-Ok-clause-change
returns-in-Ok-clause-change c =
    c.change_of.ensures ∙ sym (ap (λ r. and_then r (change_of c.args.stack.now.content c.args.meant))
    (handed_ok c.args.text _ c.in-Ok.value c.in-Ok.ensures))

pub returns-in-Ok-clause-fits : goal.returns-in-Ok-clause-fits
returns-in-Ok-clause-fits c =
    subst (λ r. IfOk r (FitsIn c.args.stack.now.content)) (sym (returns-in-Ok-clause-change c))
    (setting_fits c.args.stack.now.content c.args.meant c.args.prop c.args.text)

pub returns-clause-change : goal.returns-clause-change
returns-clause-change c =
    sym (ap (λ r. and_then r (change_of c.args.stack.now.content c.args.meant))
    (handed_err c.args.text _ _ c.in-Err.fault c.in-Err.ensures))
