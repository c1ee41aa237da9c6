use Rattle.std.proofs.Common.{length}
use Rattle.user_actions.proofs.messages.+tell_all.Given as goal

abbrev pub decreases-tell_all : goal.decreases-tell_all
decreases-tell_all g l = length l.messages.now
