use Rattle.chunks.proofs.Puts.{piece_is_put}
use Rattle.chunks.proofs.law.piece_is_put.Goals as goal

pub returns : goal.returns
returns c = piece_is_put
