use Rattle.std.proofs.Common.{rules, tests}
use Rattle.std.proofs.lemmas.Iterator.{YieldsList-from_slice}
use Rattle.std.proofs.lemmas.Iterator.Search.{all_from_yields_List}
use Rattle.ht_lex.specs.Words.{goes_on_word}
use Rattle.ht_lex.proofs.names.goes_on.Goals as goal

pub returns : goal.returns
returns c = all_from_yields_List goes_on_word _ _ _ c.all.ensures.ran (YieldsList-from_slice c.args.bytes.now (cc))
    (λ x b q k. search (rules, tests))
