use Rattle.headline.proofs.Saved.{saves_follow}
use Rattle.headline.proofs.law.saves_follow.Goals as goal

pub returns : goal.returns
returns c = saves_follow
