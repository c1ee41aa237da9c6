use Rattle.ht_values.proofs.Divisions.{div_and_mod_divide}
use Rattle.ht_values.proofs.law.div_and_mod_divide.Goals as goal

pub returns : goal.returns
returns c = div_and_mod_divide
