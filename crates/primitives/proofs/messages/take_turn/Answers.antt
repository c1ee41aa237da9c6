use Rattle.primitives.proofs.Turns.{is_there}
use Rattle.primitives.proofs.messages.take_turn.Goals as goal

pub turn_external-requires-clause-there : goal.turn_external-requires-clause-there
turn_external-requires-clause-there g c = is_there _ _ c.requires.there
