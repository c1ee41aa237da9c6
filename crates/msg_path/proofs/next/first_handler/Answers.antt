use Rattle.std.proofs.Common.{refl, None, Ok}
use Rattle.std.proofs.lemmas.List.{drop_all}
use Rattle.msg_path.specs.Handlers as first
use Rattle.msg_path.proofs.next.first_handler.Goals as goal

pub returns-clause-due : goal.returns-clause-due
returns-clause-due g c = c.loop-id.invariant.rest (Ok None)
    (first.nothing_left (drop_all c.loop-id.id-index c.args.path.now c.loop-id-test.false) refl)
