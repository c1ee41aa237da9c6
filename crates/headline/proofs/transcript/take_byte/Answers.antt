use Rattle.std.proofs.Common.{◌+◌, refl, ◌≡◌, ◌≢◌, inl, inr, [], ◌∷◌, ◌++◌, ◌∙◌, ap, arith, true, false}
use Rattle.std.proofs.lemmas.Result.{err_from_is_err_and}
use Rattle.headline.specs.Answers.{answer}
use Rattle.devices.specs.Desks.{SeenDesk}
use Rattle.headline.specs.Saving.{Takes}
use Rattle.session.specs.SessionView.{SessionView}
use Rattle.headline.specs.InputLines.{without_return}
use Rattle.headline.specs.Answering.{is_quit}
use Rattle.headline.specs.Intake.{Onward}
use Rattle.headline.proofs.Intake.{Appends-nothing, as_kept, reached_more, reached_line, reached_quit, reached_break}
use Rattle.headline.proofs.transcript.take_byte.Goals as goal

pub returns-in_err-quits-clause-err : goal.returns-in_err-quits-clause-err
returns-in_err-quits-clause-err g c =
    let h = c.in_err-quits.ensures.err in
    let old = c.args.intake.now in
    let line_is : c.without_return.result.now ≡ without_return old.pending.items =
    c.without_return.ensures ∙ ap without_return c.deref.ensures.value in
    let kept : Takes (without_return old.pending.items) (c.args.session.now, g.D.Desk.seen c.args.desk.now) h.0
    (c.answer_line.new.session, g.D.Desk.seen c.answer_line.new.desk) =
    as_kept _ (without_return old.pending.items) _ _ _ line_is h.2 in
    let p = err_from_is_err_and c.from_residual.result c.from_residual.ensures.1 in
    rw p.1 (
      h.1,
      h.4,
      λ start read written r.
          rw c.if-byte-eq10.true
          (reached_break start read written (c.args.session.now, g.D.Desk.seen c.args.desk.now) old.pending.items
          old.lines old.bytes r h.0 h.1 (c.answer_line.new.session, g.D.Desk.seen c.answer_line.new.desk)
          c.requires.lines c.requires.bytes kept h.3),
    )

pub returns-then-byte-eq10-clause-ok : goal.returns-then-byte-eq10-clause-ok
returns-then-byte-eq10-clause-ok g c =
    let h = c.in_ok-quits.ensures.ok in
    let old = c.args.intake.now in
    let new : SessionView × SeenDesk = (c.answer_line.new.session, g.D.Desk.seen c.answer_line.new.desk) in
    let line_is : c.without_return.result.now ≡ without_return old.pending.items =
    c.without_return.ensures ∙ ap without_return c.deref.ensures.value in
    let kept : Takes (without_return old.pending.items) (c.args.session.now, g.D.Desk.seen c.args.desk.now) h.0 new =
    as_kept _ (without_return old.pending.items) _ _ _ line_is h.1 in (
      answer h.0,
      h.3,
      λ start read written r.
          rw (c.if-byte-eq10.true, c.clear.ensures.items)
          (elim c.in_ok-quits.quits as (λ b. is_quit h.0.ending ≡ b
          → Onward 0 b start (read ++ 10 ∷ []) (written ++ answer h.0) new [] (old.lines + 1) (old.bytes + 1)) [
            | true ↦ λ q. reached_quit start read written (c.args.session.now, g.D.Desk.seen c.args.desk.now)
                old.pending.items old.lines old.bytes r h.0 new c.requires.lines c.requires.bytes kept q
            | false ↦ λ q. reached_line start read written (c.args.session.now, g.D.Desk.seen c.args.desk.now)
                old.pending.items old.lines old.bytes r h.0 new kept q
          ] h.2),
    )

pub returns-then-len-lt-KEPT-clause-ok : goal.returns-then-len-lt-KEPT-clause-ok
returns-then-len-lt-KEPT-clause-ok g c =
    let ne : c.args.byte ≢ 10 = c.if-byte-eq10.false in (
      [],
      Appends-nothing _,
      λ start read written r. reached_more start read written _ _ _ _ r c.args.byte _ ne
          c.requires.lines (inl (c.push_reserved.ensures.items, omega arith)),
    )

pub returns-else-len-lt-KEPT-clause-ok : goal.returns-else-len-lt-KEPT-clause-ok
returns-else-len-lt-KEPT-clause-ok g c =
    let ne : c.args.byte ≢ 10 = c.if-byte-eq10.false in (
      [],
      Appends-nothing _,
      λ start read written r. reached_more start read written _ _ _ _ r c.args.byte _ ne
          c.requires.lines (inr (refl, omega arith)),
    )
