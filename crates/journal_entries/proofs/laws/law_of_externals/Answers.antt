use Rattle.std.proofs.Common.{map, All, sym, subst, arith}
use Rattle.std.proofs.lemmas.List.{length-map, take_all}
use Rattle.std.proofs.lemmas.List.Elements.{All-more}
use Rattle.externals.specs.Cells.{IsExternal, none_seen}
use Rattle.journal_entries.specs.State.{seen_by}
use Rattle.journal_entries.proofs.Going.{get_or-seen}
use Rattle.journal_entries.proofs.laws.law_of_externals.Goals as goal

pub loop-external-preserved : goal.loop-external-preserved
loop-external-preserved g c =
    let f = seen_by g.E.External.title g.E.External.sort g.E.External.answers_calls g.E.External.cells in
    let xs = c.args.externals.now in
    let i = c.loop-external.external-index in
    let is = get_or-seen f xs i c.external-item.result c.loop-external-test.true c.external-item.is in
    All-more IsExternal (map f xs) i none_seen (omega (arith, length-map xs f)) c.loop-external.invariant
    (subst IsExternal (sym is) c.law_of_external.ensures)

pub returns : goal.returns
returns g c =
    let f = seen_by g.E.External.title g.E.External.sort g.E.External.answers_calls g.E.External.cells in
    let xs = c.args.externals.now in
    subst (All IsExternal) (take_all c.loop-external.external-index (map f xs) (omega (arith, length-map xs f)))
    c.loop-external.invariant
