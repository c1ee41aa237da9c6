use Rattle.std.proofs.Common.{◌∙◌, sym}
use Rattle.ht_values.proofs.Searches.{nothing_is_first}
use Rattle.ht_values.proofs.search.place_of.Goals as goal

pub returns-then-len-eq0-clause-value : goal.returns-then-len-eq0-clause-value
returns-then-len-eq0-clause-value c =
    nothing_is_first c.args.run.now c.args.text.now (sym c.len.ensures.value ∙ c.if-len-eq0.true)
