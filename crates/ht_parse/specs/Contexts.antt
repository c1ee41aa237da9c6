-- Where a statement stands, as the grammar sees it.
use Rattle.std.specs.Prelude.{option_map}
use Rattle.ht_grammar.specs.Grammar as g
use Rattle.ht_parse.specs.declared.context.Context.{Context}

abbrev pub context_of : Context → g.Context
context_of c = record { in_repeat = c.in_repeat; handler = option_map (λ name. name.now) c.handler }
