use Rattle.externals.proofs.Flipping.{flipped_back, taken_out_back, IsProper-taken_out, patch_back}
use Rattle.externals.proofs.laws.laws_of_flips.Goals as goal

pub returns-clause-back : goal.returns-clause-back
returns-clause-back c = flipped_back

pub returns-clause-again : goal.returns-clause-again
returns-clause-again c = taken_out_back

pub returns-clause-proper : goal.returns-clause-proper
returns-clause-proper c = IsProper-taken_out

pub returns-clause-turn : goal.returns-clause-turn
returns-clause-turn c = patch_back
