use Rattle.std.proofs.Common.{rules, ◌≡◌, true}
use Rattle.ht_values.specs.declared.word.PartKind.TheVariants.{Button}
use Rattle.stack_places.specs.Exchange.{IsReady}
use Rattle.structural_changes.specs.Prepared.{has_content}
use Rattle.structural_changes.proofs.Filled.{all-at}
use Rattle.structural_changes.proofs.clearing.clear_hilites.Goals as goal

pub add_ready-requires-clause-ready : goal.add_ready-requires-clause-ready
unfolding IsReady
add_ready-requires-clause-ready c = c.law_of_room.ensures.hilites _
    (all-at (λ p. has_content Button c.args.stack.now.content p ≡ true) c.args.hilites.now
    c.loop-hilite.hilite-index (0, 0) (search rules) c.requires)
