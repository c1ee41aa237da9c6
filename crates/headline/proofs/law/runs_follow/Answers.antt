use Rattle.headline.proofs.Following.{runs_follow}
use Rattle.headline.proofs.law.runs_follow.Goals as goal

pub returns : goal.returns
returns c = runs_follow
