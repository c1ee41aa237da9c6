use Rattle.std.proofs.Common.{◌≢◌, ◌+◌, ◌≤◌, [], ◌++◌, length, take, ◌∙◌, arith, refl, length-append, length-take}
use Rattle.std.proofs.lemmas.List.{append-nil}
use Rattle.std.proofs.lemmas.Result.{err_from_is_err_and}
use Rattle.devices.proofs.Known.{Appends-Appends, Consumes-Consumes}
use Rattle.devices.specs.Desks.{SeenDesk}
use Rattle.headline.specs.Saving.{Takes}
use Rattle.session.specs.SessionView.{SessionView}
use Rattle.headline.proofs.Sessions.{Breaks-by, Quits-by, Ended-by, Stopped-by}
use Rattle.headline.specs.declared.transcript.Ran.TheVariants.{Quit}
use Rattle.headline.proofs.Intake.{Appends-nothing, Consumes-nothing}
use Rattle.headline.proofs.Following.{runs_follow}
use Rattle.headline.proofs.transcript.run.Goals as goal

pub returns-in-Err-clause-err : goal.returns-in-Err-clause-err
returns-in-Err-clause-err g c =
    ([], [], Consumes-nothing _, Appends-nothing _, record { unread = refl; unwritten = refl; same = refl })

pub returns-in_err-ran-clause-err : goal.returns-in_err-ran-clause-err
returns-in_err-ran-clause-err g c =
    let inv = c.loop.invariant.reached in
    let h = c.in_err-ran.ensures.err in
    let nothing = rw c.if-count-eq0.true at c.in-Ok-read.ensures.bytes in
    let read_on = rw append-nil at (Consumes-Consumes _ _ _ inv.0 [] inv.2 nothing.0) in
    let p = err_from_is_err_and c.from_residual.result c.from_residual.ensures.1 in
    let new : SessionView × SeenDesk = (c.take_last.new.session, g.D.Desk.seen c.take_last.new.desk) in
    let broken = Breaks-by Takes (c.args.session.now, g.D.Desk.seen c.args.desk.now) inv.0 (inv.1 ++ h.0) new
    (λ t. nothing.1 refl (omega arith))
    (h.2 (c.args.session.now, g.D.Desk.seen c.args.desk.now) inv.0 inv.1 inv.4) in
    rw (p.1, p.2) (inv.0, inv.1 ++ h.0, read_on, Appends-Appends _ _ _ inv.1 h.0 inv.3 h.1, broken)

pub returns-then-count-eq0-clause-ok : goal.returns-then-count-eq0-clause-ok
returns-then-count-eq0-clause-ok g c =
    let inv = c.loop.invariant.reached in
    let h = c.in_ok-ran.ensures.ok in
    let nothing = rw c.if-count-eq0.true at c.in-Ok-read.ensures.bytes in
    let read_on = rw append-nil at (Consumes-Consumes _ _ _ inv.0 [] inv.2 nothing.0) in
    let new : SessionView × SeenDesk = (c.take_last.new.session, g.D.Desk.seen c.take_last.new.desk) in (
      inv.0,
      inv.1 ++ h.0,
      read_on,
      Appends-Appends _ _ _ inv.1 h.0 inv.3 h.1,
      Ended-by Takes c.in_ok-ran.ran
          (c.args.session.now, g.D.Desk.seen c.args.desk.now) inv.0 (inv.1 ++ h.0) new
          (λ t. nothing.1 refl (omega arith))
          (h.2 (c.args.session.now, g.D.Desk.seen c.args.desk.now) inv.0 inv.1 inv.4),
    )

pub returns-then-count-eq0-clause-headline : goal.returns-then-count-eq0-clause-headline
returns-then-count-eq0-clause-headline g c =
    let h = returns-then-count-eq0-clause-ok g c in
    let f = (runs_follow (g.R.Read.remaining c.read.new.self.device) c.in_ok-ran.ran
    (c.args.session.now, g.D.Desk.seen c.args.desk.now) h.0 h.1
    (c.take_last.new.session, g.D.Desk.seen c.take_last.new.desk) h.4).1 in
    (h.0, f.0, h.1, h.2, h.3, f.1, f.2)

pub returns-in_err-take_block-clause-err : goal.returns-in_err-take_block-clause-err
returns-in_err-take_block-clause-err g c =
    let inv = c.loop.invariant.reached in
    let h = c.in_err-take_block.ensures.err in
    let block = take c.in-Ok-read.count c.read.new.buf in
    let p = err_from_is_err_and c.from_residual-in_err-take_block.result c.from_residual-in_err-take_block.ensures.1 in
    rw (p.1, p.2) (
      inv.0 ++ block,
      inv.1 ++ h.0,
      Consumes-Consumes _ _ _ inv.0 block inv.2 c.in-Ok-read.ensures.bytes.0,
      Appends-Appends _ _ _ inv.1 h.0 inv.3 h.1,
      Stopped-by Takes _ c.in_err-take_block.field-0.0 (c.args.session.now, g.D.Desk.seen c.args.desk.now)
          (inv.0 ++ block) (inv.1 ++ h.0) (c.take_block.new.session, g.D.Desk.seen c.take_block.new.desk)
          (h.2 (c.args.session.now, g.D.Desk.seen c.args.desk.now) inv.0 inv.1 inv.4),
    )

pub returns-then-branch-clause-ok : goal.returns-then-branch-clause-ok
returns-then-branch-clause-ok g c =
    let inv = c.loop.invariant.reached in
    let h = rw c.if-branch.true at c.in_ok-take_block.ensures.ok in
    let block = take c.in-Ok-read.count c.read.new.buf in
    let new : SessionView × SeenDesk = (c.take_block.new.session, g.D.Desk.seen c.take_block.new.desk) in
    let quits = h.2 (c.args.session.now, g.D.Desk.seen c.args.desk.now) inv.0 inv.1 inv.4 in (
      inv.0 ++ block,
      inv.1 ++ h.0,
      Consumes-Consumes _ _ _ inv.0 block inv.2 c.in-Ok-read.ensures.bytes.0,
      Appends-Appends _ _ _ inv.1 h.0 inv.3 h.1,
      Quits-by Takes (c.args.session.now, g.D.Desk.seen c.args.desk.now) (inv.0 ++ block) (inv.1 ++ h.0) new
          (λ never. absurd never) quits.0,
    )

pub returns-then-branch-clause-headline : goal.returns-then-branch-clause-headline
returns-then-branch-clause-headline g c =
    let h = returns-then-branch-clause-ok g c in
    let f = (runs_follow (g.R.Read.remaining c.read.new.self.device) Quit
    (c.args.session.now, g.D.Desk.seen c.args.desk.now) h.0 h.1
    (c.take_block.new.session, g.D.Desk.seen c.take_block.new.desk) h.4).1 in
    (h.0, f.0, h.1, h.2, h.3, f.1, f.2)

pub loop-preserved : goal.loop-preserved
loop-preserved g c =
    let inv = c.loop.invariant.reached in
    let h = rw c.if-branch.false at c.in_ok-take_block.ensures.ok in
    let block = take c.in-Ok-read.count c.read.new.buf in
    let some : c.in-Ok-read.count ≢ 0 = c.if-count-eq0.false in
    let bound : c.in-Ok-read.count ≤ length c.read.new.buf = c.in-Ok-read.ensures.bound.0 in
    let more : c.loop.counter + 1 ≤ length (inv.0 ++ block) =
    omega (arith, length-append inv.0 block, length-take c.in-Ok-read.count c.read.new.buf, inv.5) in
    record {
      reached = (
        inv.0 ++ block,
        inv.1 ++ h.0,
        Consumes-Consumes _ _ _ inv.0 block inv.2 c.in-Ok-read.ensures.bytes.0,
        Appends-Appends _ _ _ inv.1 h.0 inv.3 h.1,
        h.2 (c.args.session.now, g.D.Desk.seen c.args.desk.now) inv.0
            inv.1 inv.4,
        more,
      );
      read_sound = c.in-Ok-read.ensures.failures ∙ c.loop.invariant.read_sound;
      write_sound = c.in_ok-take_block.ensures.sound (λ e. cc) ∙ c.loop.invariant.write_sound;
    }
