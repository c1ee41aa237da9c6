use Rattle.transcripts.proofs.One.{one_transcript, one_output}
use Rattle.transcripts.proofs.Tables.{tables_tell_transcripts}
use Rattle.transcripts.proofs.Told.{tables_tell, logs_tell, kit_is_fixed}
use Rattle.transcripts.proofs.law.transcripts_are_one.Goals as goal

pub returns-clause-lines : goal.returns-clause-lines
returns-clause-lines c =
    one_transcript
    (record {
      texts = c.texts_are_read_exactly.ensures;
      replies = c.replies_are_one.ensures;
      references = c.runs_are_computed.ensures.references;
    })

pub returns-clause-input : goal.returns-clause-input
returns-clause-input c = one_output (returns-clause-lines c)

pub returns-clause-tables : goal.returns-clause-tables
returns-clause-tables c = tables_tell c.nondeterministic_turns_are_known.ensures.deterministic

pub returns-clause-table : goal.returns-clause-table
returns-clause-table c = tables_tell_transcripts (returns-clause-tables c) (returns-clause-lines c)

pub returns-clause-kit : goal.returns-clause-kit
returns-clause-kit c = kit_is_fixed

pub returns-clause-logs : goal.returns-clause-logs
returns-clause-logs c = logs_tell c.nondeterministic_turns_are_known.ensures.no_table
