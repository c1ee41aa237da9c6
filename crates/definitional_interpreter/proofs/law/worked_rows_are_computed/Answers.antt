use Rattle.definitional_interpreter.proofs.law.worked_rows_are_computed.Goals as goal
use Rattle.definitional_interpreter.proofs.Rows as rows

pub returns-clause-sum : goal.returns-clause-sum
returns-clause-sum c = rows.sum

pub returns-clause-quotient : goal.returns-clause-quotient
returns-clause-quotient c = rows.quotient

pub returns-clause-no_number : goal.returns-clause-no_number
returns-clause-no_number c = rows.no_number

pub returns-clause-fault_after_lines : goal.returns-clause-fault_after_lines
returns-clause-fault_after_lines c = rows.fault_after_lines

pub returns-clause-choice : goal.returns-clause-choice
returns-clause-choice c = rows.choice

pub returns-clause-repeated : goal.returns-clause-repeated
returns-clause-repeated c = rows.repeated

pub returns-clause-chunk : goal.returns-clause-chunk
returns-clause-chunk c = rows.chunk

pub returns-clause-no_expression : goal.returns-clause-no_expression
returns-clause-no_expression c = rows.no_expression

pub returns-clause-exit_to_hypercard : goal.returns-clause-exit_to_hypercard
returns-clause-exit_to_hypercard c = rows.exit_to_hypercard

pub returns-clause-delimiter : goal.returns-clause-delimiter
returns-clause-delimiter c = rows.delimiter

pub returns-clause-global_variable : goal.returns-clause-global_variable
returns-clause-global_variable c = rows.global_variable

pub returns-clause-repeats : goal.returns-clause-repeats
returns-clause-repeats c = rows.repeats

pub returns-clause-function : goal.returns-clause-function
returns-clause-function c = rows.function

pub returns-clause-passed : goal.returns-clause-passed
returns-clause-passed c = rows.passed

pub returns-clause-fault_three_deep : goal.returns-clause-fault_three_deep
returns-clause-fault_three_deep c = rows.fault_three_deep

pub returns-clause-conversation : goal.returns-clause-conversation
returns-clause-conversation c = rows.conversation
