use Rattle.ht_values.proofs.Searches.{same_byte_ahead, same_byte_nowhere}
use Rattle.ht_values.proofs.search.same_byte_from.Goals as goal

pub returns-in-Some : goal.returns-in-Some
returns-in-Some c = same_byte_ahead c.args.byte c.args.from _ _ c.args.text.now c.to_ascii_lowercase.ensures.value
    c.to_ascii_uppercase.ensures.value c.in-Some.ahead c.in-Some.ensures

pub returns-in-None : goal.returns-in-None
returns-in-None c = same_byte_nowhere c.args.byte c.args.from _ _ c.args.text.now c.to_ascii_lowercase.ensures.value
    c.to_ascii_uppercase.ensures.value c.in-None.ensures
