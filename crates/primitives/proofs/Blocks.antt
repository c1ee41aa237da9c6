-- How blocks and repeats end.
use Rattle.primitives.specs.Blocks.{EndsBlock, EndsRepeat}

pub ruleset block_rules = (EndsBlock.goes_on, EndsBlock.leaves, EndsBlock.stops)

pub ruleset repeat_rules = (EndsRepeat.turns, EndsRepeat.leaves, EndsRepeat.stops)
