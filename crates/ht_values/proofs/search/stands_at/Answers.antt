use Rattle.std.proofs.Common.{arith}
use Rattle.std.proofs.lemmas.Bool.{leb-true}
use Rattle.std.proofs.lemmas.List.{take_rest}
use Rattle.ht_values.proofs.Searches.{stands, too_short}
use Rattle.ht_values.proofs.search.stands_at.Goals as goal

pub returns-then-run-ahead : goal.returns-then-run-ahead
returns-then-run-ahead c = stands c.args.run.now c.args.text.now c.args.place _ (take_rest c.args.text.now c.args.place)
    c.requires c.if-run-ahead.true _ c.eq_ignore_ascii_case.ensures.test

pub returns-else-run-ahead : goal.returns-else-run-ahead
returns-else-run-ahead c =
    let short = too_short c.args.run.now c.args.text.now c.args.place _ (take_rest c.args.text.now c.args.place)
    c.if-run-ahead.false in
    (λ t. let long = leb-true _ _ t in absurd (omega (arith, long, c.if-run-ahead.false)), λ h. absurd (short h))
