use Rattle.std.proofs.Common.{ap, subst}
use Rattle.change_journal.specs.History.{IsHistory}
use Rattle.change_journal.proofs.world.World.law_of_states.Goals as goal

pub returns : goal.returns
returns g c = subst IsHistory (ap (λ j. j.history) c.self.view_is) c.self.invariant.history
