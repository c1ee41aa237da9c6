use Rattle.std.proofs.Common.{◌≤◌, List, length, subst, arith, take_all}
use Rattle.devices.specs.Desks.{HearsOrForgets}
use Rattle.devices.proofs.Hearing.{hears_nothing}
use Rattle.headline.specs.Saving.{as_heard}
use Rattle.headline.proofs.Heard.{heard_more}
use Rattle.headline.proofs.transcript.tell.Goals as goal
use Rattle.meaning.specs.Sent.{SentMessage}

pub loop-i-init : goal.loop-i-init
loop-i-init g c = hears_nothing (g.D.Desk.seen c.args.desk.now)

-- one message more
pub loop-i-preserved : goal.loop-i-preserved
loop-i-preserved g c =
    heard_more c.args.sent.now c.loop-i.i c.at-message.result.now (g.D.Desk.seen c.args.desk.now)
    (g.D.Desk.seen c.loop-i.desk) (g.D.Desk.seen c.sent.new.self) c.at-message.ensures c.loop-i.invariant
    (rw (c.name.ensures, c.object.ensures) at c.sent.ensures)

pub returns : goal.returns
returns g c =
    let all : length c.args.sent.now ≤ c.loop-i.i = omega (arith, c.len-i-end.ensures) in
    subst
    (λ (sent : List SentMessage). HearsOrForgets (as_heard sent) (g.D.Desk.seen c.args.desk.now)
    (g.D.Desk.seen c.loop-i.desk)) (take_all c.loop-i.i c.args.sent.now all) c.loop-i.invariant
