use Rattle.containers.proofs.indexed_locals.Locals.append_at.Goals as goal

pub returns-clause-ok : goal.returns-clause-ok
returns-clause-ok c = rw c.self.view_is at c.append_at.ensures.ok
