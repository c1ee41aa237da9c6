use Rattle.headline.proofs.Whole.{saves_spell}
use Rattle.headline.proofs.law.saves_spell.Goals as goal

pub returns : goal.returns
returns c = saves_spell c.written_is_read.ensures
