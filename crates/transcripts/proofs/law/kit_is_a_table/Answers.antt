use Rattle.transcripts.proofs.KitTable.{kit_is_a_table}
use Rattle.transcripts.proofs.law.kit_is_a_table.Goals as goal

pub returns : goal.returns
returns c = kit_is_a_table
