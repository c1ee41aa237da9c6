use Rattle.std.proofs.Common.{All, subst, arith, take_all}
use Rattle.ht_values.specs.Text.{IsText}
use Rattle.externals.proofs.ReadTexts.{texts_more}
use Rattle.externals.proofs.laws.law_of_external.Goals as goal

pub loop-i-preserved : goal.loop-i-preserved
loop-i-preserved g c =
    texts_more (g.E.External.cells c.args.external.now) c.loop-i.i c.cell.result.now c.cell.ensures
    c.law_of_text-in-loop-i.ensures c.loop-i.invariant

pub returns : goal.returns
returns g c =
    let cells = g.E.External.cells c.args.external.now in
    record {
      title = subst IsText c.name.ensures c.law_of_text.ensures;
      cells = subst (All IsText) (take_all c.loop-i.i cells (omega (arith, c.cell_count-i-end.ensures)))
          c.loop-i.invariant;
    }
