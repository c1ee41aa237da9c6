use Rattle.headline.proofs.Following.{opens_follow}
use Rattle.headline.proofs.law.opens_follow.Goals as goal

pub returns : goal.returns
returns c = opens_follow
