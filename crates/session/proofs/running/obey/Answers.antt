use Rattle.session.specs.Replies.{obeys}
use Rattle.session.proofs.running.obey.Goals as goal

pub returns-in-Ok-clause-done : goal.returns-in-Ok-clause-done
returns-in-Ok-clause-done g c = obeys c.in_ok-action.ensures.ok c.in-Ok.ensures.ok
