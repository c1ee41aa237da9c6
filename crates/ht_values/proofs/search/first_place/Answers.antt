use Rattle.std.proofs.Common.{arith}
use Rattle.std.specs.Char.{to_ascii_lowercase}
use Rattle.std.proofs.lemmas.Bool.{both_ways}
use Rattle.std.proofs.lemmas.List.{length-map}
use Rattle.ht_values.proofs.Searches.{nowhere_at_all, nowhere_before, nowhere_further}
use Rattle.ht_values.proofs.search.first_place.Goals as goal

pub returns-then-stands_at : goal.returns-then-stands_at
returns-then-stands_at c =
    let next = c.in-Some.ensures in
    let within = next.0.high in (
      record {
        low = omega arith;
        high = omega (arith, within, length-map c.args.text.now to_ascii_lowercase);
        before =
            nowhere_before c.args.run.now c.args.text.now c.loop-place.from c.in-Some.place c.requires
            c.loop-place.invariant.away next.0.before;
      },
      c.stands_at.ensures.0 c.if-stands_at.true,
    )

pub loop-place-preserved-then-compared-gt-MOST_COMPARED : goal.loop-place-preserved-then-compared-gt-MOST_COMPARED
loop-place-preserved-then-compared-gt-MOST_COMPARED c =
    let next = c.in-Some.ensures in
    record {
      away = nowhere_further c.args.run.now c.args.text.now c.loop-place.from c.in-Some.place c.requires
          c.loop-place.invariant.away next.0.before (λ h. both_ways _ c.if-stands_at.false (c.stands_at.ensures.1 h));
      within = let high = next.0.high in omega (arith, high);
    }

pub loop-place-preserved : goal.loop-place-preserved
loop-place-preserved c =
    let next = c.in-Some.ensures in
    record {
      away = nowhere_further c.args.run.now c.args.text.now c.loop-place.from c.in-Some.place c.requires
          c.loop-place.invariant.away next.0.before (λ h. both_ways _ c.if-stands_at.false (c.stands_at.ensures.1 h));
      within = let high = next.0.high in omega (arith, high);
    }

pub returns : goal.returns
returns c = nowhere_at_all c.args.run.now c.args.text.now c.loop-place.from c.requires c.loop-place.invariant.away
    c.in_default.ensures
