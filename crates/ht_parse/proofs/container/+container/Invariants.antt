use Rattle.ht_parse.proofs.Ranks.{rank}
use Rattle.ht_parse.proofs.container.+container.Given as goal

abbrev pub decreases-container : goal.decreases-container
decreases-container l = rank l.depth 0

abbrev pub decreases-at_ordinal : goal.decreases-at_ordinal
decreases-at_ordinal l = rank l.depth 2

abbrev pub decreases-in_chunk : goal.decreases-in_chunk
decreases-in_chunk l = rank l.depth 1
