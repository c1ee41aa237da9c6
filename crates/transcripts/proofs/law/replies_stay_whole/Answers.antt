use Rattle.transcripts.proofs.SomeReply.{replies_whole}
use Rattle.transcripts.proofs.law.replies_stay_whole.Goals as goal

pub returns : goal.returns
returns c = replies_whole c.runs_lead_to_whole_states.ensures.actions
