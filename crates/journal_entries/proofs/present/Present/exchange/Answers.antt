use Rattle.std.proofs.Common.{◌≡◌, ◌<◌, map, length, get_or, ap, subst, ◌∙◌, refl, arith}
use Rattle.std.proofs.lemmas.List.{length-map}
use Rattle.std.proofs.Math.Seq.{map-set_same}
use Rattle.externals.specs.Cells.{flipped, IsProper}
use Rattle.journal_entries.specs.State.{seen_by}
use Rattle.journal_entries.specs.Exchange.{exchanged, IsReady, counts_of, with_cells}
use Rattle.journal_entries.proofs.Going.{get_or-seen, map_seen-set, get_or-counts, length-counts}
use Rattle.journal_entries.proofs.present.Present.exchange.Goals as goal

pub flip-requires : goal.flip-requires
unfolding IsReady
flip-requires g c =
    let f = seen_by g.E.External.title g.E.External.sort g.E.External.answers_calls g.E.External.cells in
    let xs = c.self-in-External.inside.externals.items in
    let i = c.in-External.i in
    let ready = rw (c.in-External.is, ← c.self-in-External.view_is) at c.requires in
    let there : i < length xs = omega (arith, ready.0, length-counts (map f xs), length-map xs f) in
    let cells : get_or (counts_of (map f xs)) i 0
    ≡ length (g.E.External.cells c.index_mut.result.now) = get_or-counts (map f xs) i
    ∙ ap (λ e. length e.cells) (get_or-seen f xs i c.index_mut.result.now there c.index_mut.ensures.value) in
    subst (λ n. IsProper n c.in-External.patch) cells ready.1

pub returns-in-External-clause-state : goal.returns-in-External-clause-state
unfolding exchanged IsReady
returns-in-External-clause-state g c =
    let f = seen_by g.E.External.title g.E.External.sort g.E.External.answers_calls g.E.External.cells in
    let xs = c.self-in-External.inside.externals.items in
    let i = c.in-External.i in
    let r = c.index_mut.result.now in
    let p = c.in-External.patch in
    let ready = rw (c.in-External.is, ← c.self-in-External.view_is) at c.requires in
    let there : i < length xs = omega (arith, ready.0, length-counts (map f xs), length-map xs f) in
    let h = c.flip.ensures in
    let new : f c.flip.new.self ≡ with_cells (f r) (flipped (f r).cells p) =
    λ k. record { title = h.title k; sort = h.sort k; answers_calls = h.flag k; cells = h.cells k } in
    let all = map_seen-set f xs i r c.flip.new.self (flipped (f r).cells p) there c.index_mut.ensures.value new in
    let one = get_or-seen f xs i r there c.index_mut.ensures.value in
    let logs = map-set_same g.E.External.log xs i c.flip.new.self r
    (h.log ∙ ap g.E.External.log c.index_mut.ensures.value) in
    rw (c.in-External.is, ← c.self-in-External.view_is, all, logs, one) refl
