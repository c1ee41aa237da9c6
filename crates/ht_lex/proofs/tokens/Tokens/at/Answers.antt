use Rattle.std.proofs.Common.{arith, ◌<◌, length, sym, subst}
use Rattle.ht_lex.proofs.Spans.{span_fits}
use Rattle.ht_lex.proofs.tokens.Tokens.at.Goals as goal

pub slice_bounds-result-count : goal.slice_bounds-result-count
slice_bounds-result-count c =
    let below : c.args.place < length c.self.inside.spans.items =
    subst (λ v. c.args.place < length v.spans) (sym c.self.view_is) c.requires in
    let w = span_fits c.self.inside.spans.items 0 (length c.self.inside.text.now) c.args.place c.index-span.result.now
    c.self.invariant below c.index-span.ensures in
    omega (arith, w.0)

pub slice_bounds-result-start : goal.slice_bounds-result-start
slice_bounds-result-start c =
    let below : c.args.place < length c.self.inside.spans.items =
    subst (λ v. c.args.place < length v.spans) (sym c.self.view_is) c.requires in
    let w = span_fits c.self.inside.spans.items 0 (length c.self.inside.text.now) c.args.place c.index-span.result.now
    c.self.invariant below c.index-span.ensures in
    omega (arith, w.0, w.1)

pub slice_bounds-result-end : goal.slice_bounds-result-end
slice_bounds-result-end c =
    let below : c.args.place < length c.self.inside.spans.items =
    subst (λ v. c.args.place < length v.spans) (sym c.self.view_is) c.requires in
    let w = span_fits c.self.inside.spans.items 0 (length c.self.inside.text.now) c.args.place c.index-span.result.now
    c.self.invariant below c.index-span.ensures in
    omega (arith, w.0, w.1)
