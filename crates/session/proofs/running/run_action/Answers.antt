use Rattle.std.proofs.Common.{refl, ap, ◌∙◌, Ok, Err}
use Rattle.containers.specs.Base.{base}
use Rattle.meaning.specs.declared.end.Stop.TheVariants as stop
use Rattle.session.specs.declared.reply.Ending.TheVariants as ending
use Rattle.session.specs.Meaning.{reply_of}
use Rattle.session.proofs.Adding.{begun_open, still_open, finishes, keeps_out, given_back, ends_well}
use Rattle.session.proofs.running.run_action.Goals as goal

pub act-requires-clause-open : goal.act-requires-clause-open
act-requires-clause-open g c = rw c.in_ok-begin.ensures.ok (begun_open c.args.world.now.history c.args.number)

pub finished-requires : goal.finished-requires
finished-requires g c =
    still_open c.args.world.now.history _ c.args.number (c.act.ensures.base ∙ ap base c.in_ok-begin.ensures.ok)

pub kept_out-requires : goal.kept_out-requires
kept_out-requires g c =
    still_open c.args.world.now.history _ c.args.number (c.act.ensures.base ∙ ap base c.in_ok-begin.ensures.ok)

pub finished-requires-in-Err-Exited : goal.finished-requires-in-Err-Exited
finished-requires-in-Err-Exited g c =
    still_open c.args.world.now.history _ c.args.number (c.act.ensures.base ∙ ap base c.in_ok-begin.ensures.ok)

pub finished-requires-in-Err-Fault : goal.finished-requires-in-Err-Fault
finished-requires-in-Err-Fault g c =
    still_open c.args.world.now.history _ c.args.number (c.act.ensures.base ∙ ap base c.in_ok-begin.ensures.ok)

pub roll_back-requires : goal.roll_back-requires
roll_back-requires g c =
    still_open c.args.world.now.history _ c.args.number (c.act.ensures.base ∙ ap base c.in_ok-begin.ensures.ok)

pub returns-in-Ok-Some-clause-ok : goal.returns-in-Ok-Some-clause-ok
returns-in-Ok-Some-clause-ok g c =
    finishes c.args.steps c.args.number _ c.args.world.now.history _ c.act.new.world.history _ c.act.new.run
    c.act.result c.in_ok-begin.ensures.ok c.new-run.ensures c.act.ensures.base c.act.ensures.meaning
    (Ok c.in-Ok-Some.field-0-0) ending.Ok _ _ c.law_of_states.ensures
    (c.in-Ok-Some.is ∙ ap Ok c.in-Ok-Some.field-0-is)
    (ends_well c.in-Ok-Some.field-0-0)
    c.finished.ensures.answer c.finished.ensures.once c.finished.ensures.history

pub returns-in-Ok-None-clause-ok : goal.returns-in-Ok-None-clause-ok
returns-in-Ok-None-clause-ok g c =
    keeps_out c.args.steps c.args.number _ c.args.world.now.history _ c.act.new.world.history _ c.act.new.run
    c.act.result c.in_ok-begin.ensures.ok c.new-run.ensures c.act.ensures.base c.act.ensures.meaning
    _ _ (c.in-Ok-None.is ∙ ap Ok c.in-Ok-None.field-0-is) c.requires.closed c.kept_out.ensures.answer
    c.kept_out.ensures.history

pub returns-in-Err-Exited-clause-ok : goal.returns-in-Err-Exited-clause-ok
returns-in-Err-Exited-clause-ok g c =
    finishes c.args.steps c.args.number _ c.args.world.now.history _ c.act.new.world.history _ c.act.new.run
    c.act.result c.in_ok-begin.ensures.ok c.new-run.ensures c.act.ensures.base c.act.ensures.meaning
    (Err stop.Exited) ending.Ok _ _ c.law_of_states.ensures
    (c.in-Err-Exited.is ∙ ap Err c.in-Err-Exited.field-0-is) refl
    c.finished-in-Err-Exited.ensures.answer c.finished-in-Err-Exited.ensures.once
    c.finished-in-Err-Exited.ensures.history

pub returns-in-Err-Fault-clause-ok : goal.returns-in-Err-Fault-clause-ok
returns-in-Err-Fault-clause-ok g c =
    finishes c.args.steps c.args.number _ c.args.world.now.history _ c.act.new.world.history _ c.act.new.run
    c.act.result c.in_ok-begin.ensures.ok c.new-run.ensures c.act.ensures.base c.act.ensures.meaning
    (Err (stop.Fault c.in-Err-Fault.fault)) (ending.Fault c.in-Err-Fault.fault) _ _
    c.law_of_states.ensures
    (c.in-Err-Fault.is ∙ ap Err c.in-Err-Fault.field-0-is) refl
    (c.finished-in-Err-Fault.ensures.answer
    ∙ ap (λ n. reply_of c.act.new.run (ending.Fault n)) c.in-Err-Fault.fault-is)
    c.finished-in-Err-Fault.ensures.once c.finished-in-Err-Fault.ensures.history

pub returns-in-Err-Memory-clause-err : goal.returns-in-Err-Memory-clause-err
returns-in-Err-Memory-clause-err g c =
    given_back c.args.world.now.history c.act.new.world.history _ c.args.number
    (c.act.ensures.base ∙ ap base c.in_ok-begin.ensures.ok) c.requires.closed c.roll_back.ensures
