use Rattle.std.proofs.Common.{◌<◌, length, arith}
use Rattle.journal_entries.specs.Exchange.{shape_of}
use Rattle.journal_entries.proofs.Going.{AreReady-drop}
use Rattle.journal_entries.proofs.Renumbered.{need_step}
use Rattle.journal_entries.proofs.renumbering.need_each.Goals as goal

pub loop-i-preserved : goal.loop-i-preserved
loop-i-preserved g c =
    let v = c.loop-i.invariant in
    let es = c.args.entries.now in
    let i = c.loop-i.i in
    let x = c.index-entries-i.result in
    let within : i < length es = omega arith in
    record {
      of = c.need_entry.ensures.of;
      ready = (AreReady-drop (shape_of c.args.present.now) es i x within c.index-entries-i.is v.ready).1;
      needed = need_step c.loop-i.renumbering c.need_entry.new.renumbering es i x within c.index-entries-i.is
          c.need_entry.ensures.more v.needed c.in_ok-need_entry.ensures.needed;
      more = λ j s. c.need_entry.ensures.more j (v.more j s);
    }
