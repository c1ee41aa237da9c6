use Rattle.std.proofs.Common.{◌≡◌, drop, Option, Result}
use Rattle.ht_values.specs.declared.fault.Fault.{Fault}
use Rattle.msg_path.specs.Handlers.{HandlerFound, First}
use Rattle.msg_path.proofs.next.first_handler.Given as goal

abbrev pub invariant-loop-id : goal.invariant-loop-id
invariant-loop-id g l = record {
  world : l.world ≡ l.fn.world;
  rest : (outcome : Result (Option HandlerFound) Fault) →
      First l.fn.world.history.now.stack (drop l.id-index l.path) l.kind l.name outcome →
      First l.fn.world.history.now.stack l.path l.kind l.name outcome;
}
