use Rattle.ht_lex.proofs.Computed.{cuts_exactly}
use Rattle.ht_lex.proofs.law.texts_are_cut_exactly.Goals as goal

pub returns : goal.returns
returns c = cuts_exactly
