use Rattle.headline.proofs.Whole.{runs_stay_whole, stops_stay_whole}
use Rattle.headline.proofs.law.runs_stay_whole.Goals as goal

pub returns-clause-ended : goal.returns-clause-ended
returns-clause-ended c = runs_stay_whole

pub returns-clause-stopped : goal.returns-clause-stopped
returns-clause-stopped c = stops_stay_whole
