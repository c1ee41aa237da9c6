use Rattle.headline.proofs.Following.{stops_follow}
use Rattle.headline.proofs.law.stops_follow.Goals as goal

pub returns : goal.returns
returns c = stops_follow
