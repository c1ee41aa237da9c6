use Rattle.headline.proofs.Following.{moves_follow}
use Rattle.headline.proofs.law.moves_follow.Goals as goal

pub returns : goal.returns
returns c = moves_follow
