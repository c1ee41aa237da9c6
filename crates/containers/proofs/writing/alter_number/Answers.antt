use Rattle.containers.proofs.writing.alter_number.Goals as goal

pub returns-then-alter_own-clause-altered : goal.returns-then-alter_own-clause-altered
returns-then-alter_own-clause-altered g c = λ _ d. c.alter_own.ensures.altered c.if-alter_own.true _ d
