use Rattle.headline.proofs.Following.{lines_follow}
use Rattle.headline.proofs.law.lines_follow.Goals as goal

pub returns : goal.returns
returns c = lines_follow
