use Rattle.transcripts.proofs.Whole.{transcript_whole, output_whole}
use Rattle.transcripts.proofs.law.transcripts_stay_whole.Goals as goal

pub returns-clause-lines : goal.returns-clause-lines
returns-clause-lines c =
    transcript_whole c.replies_stay_whole.ensures
    (record {
      lines = c.trees_have_texts.ensures.lines;
      parts = c.trees_have_texts.ensures.parts;
      typing = c.trees_have_texts.ensures.typed;
    })

pub returns-clause-input : goal.returns-clause-input
returns-clause-input c = output_whole (returns-clause-lines c)
