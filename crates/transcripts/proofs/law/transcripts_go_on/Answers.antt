use Rattle.transcripts.proofs.Tables.{transcripts_go_on}
use Rattle.transcripts.proofs.law.transcripts_go_on.Goals as goal

pub returns : goal.returns
returns c = transcripts_go_on
