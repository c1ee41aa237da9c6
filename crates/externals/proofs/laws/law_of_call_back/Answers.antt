use Rattle.std.proofs.Common.{All, subst, arith, take_all}
use Rattle.std.proofs.lemmas.List.Elements.{recursion_from_All}
use Rattle.ht_values.specs.Text.{IsText}
use Rattle.externals.proofs.ReadTexts.{texts_more}
use Rattle.externals.proofs.laws.law_of_call_back.Goals as goal

pub loop-i-preserved : goal.loop-i-preserved
loop-i-preserved c =
    texts_more c.args.note.now c.loop-i.i c.at.result.now c.at.ensures c.law_of_text.ensures
    c.loop-i.invariant

pub returns-clause-note : goal.returns-clause-note
returns-clause-note c =
    let note = c.args.note.now in
    recursion_from_All IsText note
    (subst (All IsText) (take_all c.loop-i.i note (omega (arith, c.len-i-end.ensures))) c.loop-i.invariant)
