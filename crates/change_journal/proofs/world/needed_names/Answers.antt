use Rattle.std.proofs.Common.{◌<◌, length, arith}
use Rattle.journal_entries.specs.Exchange.{shape_of}
use Rattle.change_journal.proofs.Ready.{AllReady-get}
use Rattle.change_journal.proofs.Renumbered.{need_step}
use Rattle.change_journal.proofs.world.needed_names.Goals as goal

pub need-requires-clause-ready : goal.need-requires-clause-ready
need-requires-clause-ready g c =
    let bs = c.args.batches.now.items in
    let within : c.loop-i.i < length bs = omega (arith, c.len-i-end.ensures, c.args.batches.now.ok) in
    AllReady-get (shape_of c.args.present.now) bs c.loop-i.i c.index.result.now within c.index.ensures c.requires

pub loop-i-preserved : goal.loop-i-preserved
loop-i-preserved g c =
    let v = c.loop-i.invariant in
    let bs = c.args.batches.now.items in
    let i = c.loop-i.i in
    let within : i < length bs = omega (arith, c.len-i-end.ensures, c.args.batches.now.ok) in
    record {
      of = c.need.ensures.of;
      valued = λ k l s. c.need.ensures.more k (v.valued k l s);
      needed = need_step c.loop-i.renumbering c.need.new.renumbering bs i c.index.result.now within c.index.ensures
          c.need.ensures.more v.needed c.in_ok-need.ensures.needed;
    }
