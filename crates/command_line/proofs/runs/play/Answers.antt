use Rattle.std.proofs.Common.{Err, ap, sym, ◌∙◌}
use Rattle.command_line.proofs.Playing.{plays, ends, only_read, only_write, as_read, as_write}
use Rattle.command_line.proofs.runs.play.Goals as goal

pub returns-in-Ok-run-clause-ok : goal.returns-in-Ok-run-clause-ok
returns-in-Ok-run-clause-ok g c =
    let p = c.in-Ok-run.ensures.ok in
    rw c.leave.ensures (
      p.0,
      p.1,
      p.2,
      p.3,
      plays _ _ _ _ _ _ (g.R.Read.remaining c.run.new.reader.device) _ _ _ _ _ _ c.tables_follow.ensures
          c.law_of_table.ensures c.in_ok-stack.ensures.ok c.in-Ok.ensures.ok.1 c.in-Ok-run.ran c.runs_follow.ensures
          c.runs_stay_whole.ensures.ended p.4,
    )

pub returns-clause-err : goal.returns-clause-err
returns-clause-err g c =
    let p = c.in-Err-run.ensures.err in
    rw (c.fault_of.ensures, c.leave-in-Err-run.ensures) (
      p.0,
      p.1,
      p.2,
      p.3,
      ends _ _ _ _ _ _ (g.R.Read.remaining c.run.new.reader.device) _ _ _ _ _ _ c.tables_follow.ensures
          c.law_of_table-in-Err-run.ensures c.in_ok-stack.ensures.ok c.in-Ok.ensures.ok.1 c.in-Err-run.fault
          c.runs_stay_whole.ensures.stopped p.4,
    )

pub returns-clause-read_failed : goal.returns-clause-read_failed
returns-clause-read_failed g c =
    λ e. c.in-Err-run.ensures.read_failed (ap Err (only_read c.in-Err-run.fault (sym (ap Err c.fault_of.ensures) ∙ e)))

pub returns-clause-read_sound : goal.returns-clause-read_sound
returns-clause-read_sound g c =
    λ no. c.in-Err-run.ensures.read_sound (λ e. no (ap Err c.fault_of.ensures ∙ as_read c.in-Err-run.fault e))

pub returns-clause-write_failed : goal.returns-clause-write_failed
returns-clause-write_failed g c = λ e. c.in-Err-run.ensures.write_failed
    (ap Err (only_write c.in-Err-run.fault (sym (ap Err c.fault_of.ensures) ∙ e)))

pub returns-clause-write_sound : goal.returns-clause-write_sound
returns-clause-write_sound g c =
    λ no. c.in-Err-run.ensures.write_sound (λ e. no (ap Err c.fault_of.ensures ∙ as_write c.in-Err-run.fault e))
