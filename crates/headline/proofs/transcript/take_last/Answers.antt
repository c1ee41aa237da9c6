use Rattle.std.proofs.Common.{◌≡◌, ◌≤◌, ◌<◌, [], length, arith}
use Rattle.std.proofs.lemmas.Bool.Decides.{nat_tests}
use Rattle.std.proofs.lemmas.Grind.{common_steps}
use Rattle.std.proofs.lemmas.Result.{err_from_is_err_and}
use Rattle.headline.specs.declared.limits.TheConstants.{MOST_BYTES, MOST_LINES}
use Rattle.headline.specs.Answers.{answer}
use Rattle.headline.specs.Saving.{Takes}
use Rattle.headline.proofs.Intake.{Appends-nothing, as_kept, last_quits, last_breaks, last_finishes, none_finishes}
use Rattle.headline.proofs.transcript.take_last.Goals as goal

pub returns-then-is_empty-clause-ok : goal.returns-then-is_empty-clause-ok
returns-then-is_empty-clause-ok g c =
    let none : length c.args.intake.now.pending.items ≡ 0 = grind (arith, common_steps, nat_tests) in
    let few : c.args.intake.now.lines ≤ MOST_LINES = omega arith in
    let short : c.args.intake.now.bytes ≤ MOST_BYTES = omega arith in
    ([], Appends-nothing _, λ start read written r. (none_finishes start read written _ _ _ _ r none few short, tt))

pub returns-in_err-answer_line-clause-err : goal.returns-in_err-answer_line-clause-err
returns-in_err-answer_line-clause-err g c =
    let h = c.in_err-answer_line.ensures.err in
    let old = c.args.intake.now in
    let kept : Takes old.pending.items (c.args.session.now, g.D.Desk.seen c.args.desk.now) h.0
    (c.answer_line.new.session, g.D.Desk.seen c.answer_line.new.desk) =
    as_kept _ old.pending.items _ _ _ c.deref.ensures.value h.2 in
    let some : 0 < length old.pending.items = grind (arith, common_steps, nat_tests) in
    let short : old.bytes ≤ MOST_BYTES = omega arith in
    let p = err_from_is_err_and c.from_residual.result c.from_residual.ensures.1 in
    rw p.1 (
      h.1,
      h.4,
      λ start read written r. last_breaks start read written
          (c.args.session.now, g.D.Desk.seen c.args.desk.now) old.pending.items old.lines old.bytes r h.0 h.1
          (c.answer_line.new.session, g.D.Desk.seen c.answer_line.new.desk) some short kept h.3,
    )

pub returns-then-branch-clause-ok : goal.returns-then-branch-clause-ok
returns-then-branch-clause-ok g c =
    let h = rw c.if-branch.true at c.in_ok-answer_line.ensures.ok in
    let old = c.args.intake.now in
    let kept : Takes old.pending.items (c.args.session.now, g.D.Desk.seen c.args.desk.now) h.0
    (c.answer_line.new.session, g.D.Desk.seen c.answer_line.new.desk) =
    as_kept _ old.pending.items _ _ _ c.deref.ensures.value h.1 in
    let some : 0 < length old.pending.items = grind (arith, common_steps, nat_tests) in
    let short : old.bytes ≤ MOST_BYTES = omega arith in (
      answer h.0,
      h.3,
      λ start read written r. last_quits start read written
          (c.args.session.now, g.D.Desk.seen c.args.desk.now) old.pending.items old.lines old.bytes r h.0
          (c.answer_line.new.session, g.D.Desk.seen c.answer_line.new.desk) some short kept h.2,
    )

pub returns-clause-ok : goal.returns-clause-ok
returns-clause-ok g c =
    let h = rw c.if-branch.false at c.in_ok-answer_line.ensures.ok in
    let old = c.args.intake.now in
    let kept : Takes old.pending.items (c.args.session.now, g.D.Desk.seen c.args.desk.now) h.0
    (c.answer_line.new.session, g.D.Desk.seen c.answer_line.new.desk) =
    as_kept _ old.pending.items _ _ _ c.deref.ensures.value h.1 in
    let some : 0 < length old.pending.items = grind (arith, common_steps, nat_tests) in
    let short : old.bytes ≤ MOST_BYTES = omega arith in (
      answer h.0,
      h.3,
      λ start read written r. (
        last_finishes start read written (c.args.session.now, g.D.Desk.seen c.args.desk.now) old.pending.items
            old.lines old.bytes r h.0 (c.answer_line.new.session, g.D.Desk.seen c.answer_line.new.desk) some short kept
            h.2,
        tt,
      ),
    )
