use Rattle.std.proofs.Common.{◌<◌, length, arith}
use Rattle.journal_entries.proofs.Rooms.{among_step}
use Rattle.journal_entries.proofs.cards.add_each_card.Goals as goal

pub loop-i-preserved : goal.loop-i-preserved
loop-i-preserved c =
    let v = c.loop-i.invariant in
    let es = c.args.entries.now in
    let i = c.loop-i.i in
    let within : i < length es = omega arith in
    record {
      among = among_step c.loop-i.cards c.add_card_of.new.cards es i c.index-entries-i.result within
          c.index-entries-i.is c.add_card_of.ensures.more v.among c.in_ok-add_card_of.ensures.among;
      more = λ card h. c.add_card_of.ensures.more card (v.more card h);
    }
