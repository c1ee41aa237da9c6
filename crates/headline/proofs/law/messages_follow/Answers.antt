use Rattle.headline.proofs.Heard.{messages_follow}
use Rattle.headline.proofs.law.messages_follow.Goals as goal

pub returns : goal.returns
returns c = messages_follow
