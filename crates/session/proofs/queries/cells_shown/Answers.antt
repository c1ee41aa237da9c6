use Rattle.std.proofs.Common.{sym, add-one}
use Rattle.session.proofs.CellLines.{one_more}
use Rattle.session.proofs.queries.cells_shown.Goals as goal

pub loop-i-preserved : goal.loop-i-preserved
loop-i-preserved g c =
    let next = one_more (g.E.External.cells c.args.external.now) c.loop-i.i c.cell.result.now c.cell.ensures in
    rw (
      c.in_ok-push.ensures.ok,
      c.new.ensures,
      c.in_ok-spell_into.ensures,
      c.new-line.ensures.items,
      c.as_slice.ensures.value,
      c.loop-i.invariant,
      add-one,
    ) (sym next)
