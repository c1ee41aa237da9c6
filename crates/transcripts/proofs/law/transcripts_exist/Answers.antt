use Rattle.transcripts.proofs.Ways.{transcript, output}
use Rattle.transcripts.proofs.law.transcripts_exist.Goals as goal

pub returns-clause-lines : goal.returns-clause-lines
returns-clause-lines c =
    transcript c.replies_exist.ensures c.texts_are_read_exactly.ensures

pub returns-clause-input : goal.returns-clause-input
returns-clause-input c = output (returns-clause-lines c)
