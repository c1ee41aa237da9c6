use Rattle.ht_values.proofs.ReadBack.{numerals_read_back}
use Rattle.ht_values.proofs.law.numerals_read_back.Goals as goal

pub returns : goal.returns
returns c = numerals_read_back
