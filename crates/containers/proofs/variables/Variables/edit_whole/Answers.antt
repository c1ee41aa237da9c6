use Rattle.std.proofs.lemmas.Result.{on_ok_weaker}
use Rattle.containers.proofs.variables.Variables.edit_whole.Goals as goal

pub returns-in-Put-After-default-clause-ok : goal.returns-in-Put-After-default-clause-ok
returns-in-Put-After-default-clause-ok c =
    rw (c.in-Put-After-default.is, c.in-Put-After-default.field-0-is)
    (on_ok_weaker c.append.result (λ writes h. writes h c.args.delimiter) c.append.ensures.ok)

pub returns-in-Put-After-default-clause-fault : goal.returns-in-Put-After-default-clause-fault
returns-in-Put-After-default-clause-fault c =
    rw (c.in-Put-After-default.is, c.in-Put-After-default.field-0-is) (c.append.ensures.fault c.args.delimiter)
