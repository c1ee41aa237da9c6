use Rattle.transcripts.proofs.OneReply.{one_reply}
use Rattle.transcripts.proofs.law.replies_are_one.Goals as goal

pub returns : goal.returns
returns c = one_reply c.runs_are_computed.ensures.actions
