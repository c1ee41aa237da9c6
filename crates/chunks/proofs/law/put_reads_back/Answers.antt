use Rattle.chunks.proofs.Puts.{put_reads_back}
use Rattle.chunks.proofs.law.put_reads_back.Goals as goal

pub returns : goal.returns
returns c = put_reads_back
