use Rattle.primitives.proofs.Turns.{is_titled_if_some}
use Rattle.primitives.proofs.messages.external.Goals as goal

pub returns-clause-there : goal.returns-clause-there
returns-clause-there g c = is_titled_if_some _ _ c.external_named.ensures.there
