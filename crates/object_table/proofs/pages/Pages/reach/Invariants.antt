use Rattle.std.proofs.Common.{◌≡◌, ◌+◌, ◌-◌, ℕ, length}
use Rattle.object_table.specs.Pages.{number_at}
use Rattle.object_table.proofs.pages.Pages.reach.Given as goal

abbrev pub invariant-reach : goal.invariant-reach
invariant-reach l = (q : ℕ) → number_at l.self.pages.items q ≡ number_at l.initial.self.pages.items q

abbrev pub decreases-reach : goal.decreases-reach
decreases-reach l = l.page + 1 - length l.self.pages.items
