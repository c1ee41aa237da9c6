use Rattle.std.proofs.Common.{◌<◌, length, sym, arith}
use Rattle.journal_entries.specs.Named.{listed}
use Rattle.session.proofs.GlobalsInOrder.{in_order_more, entries-empty, place, place_some, place_none}
use Rattle.session.proofs.queries.globals_in_order.Goals as goal
use Rattle.session.proofs.queries.globals_in_order.Goals.{in-Some+in_ok-insert, in_default}

pub loop-i-init : goal.loop-i-init
loop-i-init g c = rw c.new-ordered.ensures.empty (sym entries-empty)

pub loop-i-preserved : goal.loop-i-preserved
loop-i-preserved g c =
    let ns = c.args.world.now.names in
    let m = c.args.world.now.history.now.globals in
    let i = c.loop-i.i in
    let lt : i < length ns = omega (arith, c.loop-i-test.true, c.name_count-i-end.ensures.count) in
    elim c.match-global_numbered.branch [
      | in-Some+in_ok-insert w ↦
          let v = w.as_slice.result in
          let at = place_some ns m i w.in-Some.name.now v.now lt (rw w.as_slice.ensures.value w.in-Some.ensures) in
          rw (w.ordered-is, at.1, w.in_ok-insert.ensures.entries)
          (in_order_more (listed ns m) (place ns m i) c.loop-i.ordered.entries w.in-Some.name v
          c.name_count-i-end.ensures.each.names at.0 c.loop-i.invariant)
      | in_default w ↦ rw (w.ordered-is, place_none ns m i lt w.in_default.ensures) c.loop-i.invariant
    ]
