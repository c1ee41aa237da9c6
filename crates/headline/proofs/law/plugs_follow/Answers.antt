use Rattle.headline.proofs.Following.{plugs_follow}
use Rattle.headline.proofs.law.plugs_follow.Goals as goal

pub returns : goal.returns
returns c = plugs_follow
