use Rattle.transcripts.proofs.SomeReply.{replies}
use Rattle.transcripts.proofs.law.replies_exist.Goals as goal

pub returns : goal.returns
returns c = replies c.runs_have_an_outcome.ensures.actions
