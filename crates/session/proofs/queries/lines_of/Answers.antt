use Rattle.std.proofs.Common.{sym, ◌∙◌}
use Rattle.session.proofs.LineFeeds.{IsLine-found, IsLine-none, line_cut, lines_more}
use Rattle.session.proofs.queries.lines_of.Goals as goal

pub loop-end-preserved : goal.loop-end-preserved
loop-end-preserved c =
    let found = sym c.line_feed_in.ensures.value ∙ c.in-Some.is in
    rw (c.in_ok-push.ensures.ok, c.new.ensures, c.in_ok-from_slice.ensures.items) (record {
      whole = line_cut c.args.text.now c.loop-end.shown _ c.in-Some.end c.loop-end.invariant.whole found;
      each = lines_more c.loop-end.shown _ c.loop-end.invariant.each (IsLine-found _ c.in-Some.end found);
    })

pub returns : goal.returns
returns c = (
  _,
  record {
    whole = c.loop-end.invariant.whole;
    each = c.loop-end.invariant.each;
    partial = IsLine-none _
        (sym c.line_feed_in.ensures.value ∙ c.in_default.is);
  },
)
