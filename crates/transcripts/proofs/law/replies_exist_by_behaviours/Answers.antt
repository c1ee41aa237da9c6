use Rattle.transcripts.proofs.SomeReply.{replies_by}
use Rattle.transcripts.proofs.law.replies_exist_by_behaviours.Goals as goal

pub returns : goal.returns
returns c = replies_by c.behaviours_have_an_outcome.ensures.actions c.behaviours_are_logged.ensures.turns
