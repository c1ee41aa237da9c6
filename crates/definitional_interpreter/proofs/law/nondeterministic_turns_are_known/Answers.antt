use Rattle.definitional_interpreter.proofs.law.nondeterministic_turns_are_known.Goals as goal
use Rattle.definitional_interpreter.proofs.Computed.{none_nondeterministic, all_nondeterministic}

pub returns-clause-deterministic : goal.returns-clause-deterministic
returns-clause-deterministic c = none_nondeterministic

pub returns-clause-no_table : goal.returns-clause-no_table
returns-clause-no_table c = all_nondeterministic
