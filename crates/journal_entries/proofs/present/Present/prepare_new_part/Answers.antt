use Rattle.std.proofs.Common.{[], refl, sym, subst}
use Rattle.std.proofs.lemmas.Result.{IfOk-weaker}
use Rattle.structural_changes.specs.Prepared.{Adds}
use Rattle.structural_changes.specs.Writes.{writes_of_new_part}
use Rattle.journal_entries.proofs.Several.{prepares_new_part}
use Rattle.journal_entries.proofs.present.Present.prepare_new_part.Goals as goal

pub returns-clause-entries : goal.returns-clause-entries
returns-clause-entries g c =
    let old = c.self.inside.stack in
    let new = c.prepare_new_part.new.stack in
    let made = c.in_ok-made.made.items in
    let adds = subst (λ s. Adds old new [] made (writes_of_new_part s c.args.layer c.args.kind))
    (sym c.prepare_new_part.ensures.opens.content) c.in_ok-made.ensures.entries in
    IfOk-weaker c.stack_entries.result _ _
    (λ entries is. rw is (prepares_new_part _ old new c.args.layer c.args.kind made refl adds))
    c.stack_entries.ensures
