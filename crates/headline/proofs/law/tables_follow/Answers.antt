use Rattle.headline.proofs.Following.{tables_follow}
use Rattle.headline.proofs.law.tables_follow.Goals as goal

pub returns : goal.returns
returns c = tables_follow
