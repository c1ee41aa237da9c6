use Rattle.transcripts.proofs.Logs.{behaviours_follow}
use Rattle.transcripts.proofs.Ways.{transcript_by, output_by}
use Rattle.transcripts.proofs.law.transcripts_exist_by_behaviours.Goals as goal

pub returns-clause-lines : goal.returns-clause-lines
returns-clause-lines c =
    transcript_by c.replies_exist_by_behaviours.ensures c.replies_stay_whole.ensures c.texts_are_read_exactly.ensures
    (record {
      lines = c.trees_have_texts.ensures.lines;
      parts = c.trees_have_texts.ensures.parts;
      typing = c.trees_have_texts.ensures.typed;
    })

pub returns-clause-input : goal.returns-clause-input
returns-clause-input c = output_by (returns-clause-lines c)

pub returns-clause-tables : goal.returns-clause-tables
returns-clause-tables c = behaviours_follow
