use Rattle.std.proofs.Common.{◌<◌, length, arith}
use Rattle.change_journal.proofs.Rooms.{among_step}
use Rattle.change_journal.proofs.world.exchanged_cards.Goals as goal

pub loop-i-preserved : goal.loop-i-preserved
loop-i-preserved c =
    let bs = c.args.batches.now.items in
    let i = c.loop-i.i in
    let within : i < length bs = omega (arith, c.len-i-end.ensures, c.args.batches.now.ok) in
    record {
      among = among_step c.loop-i.cards c.add_cards.new.cards bs i c.index.result.now within c.index.ensures
          c.add_cards.ensures.more c.loop-i.invariant.among c.in_ok-add_cards.ensures.among;
    }
