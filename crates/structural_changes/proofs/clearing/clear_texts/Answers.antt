use Rattle.std.proofs.Common.{rules, ◌≡◌, true}
use Rattle.ht_values.specs.declared.word.PartKind.TheVariants.{Field}
use Rattle.stack_places.specs.Exchange.{IsReady}
use Rattle.structural_changes.specs.Prepared.{has_content}
use Rattle.structural_changes.proofs.Filled.{all-at}
use Rattle.structural_changes.proofs.clearing.clear_texts.Goals as goal

pub add_ready-requires-clause-ready : goal.add_ready-requires-clause-ready
unfolding IsReady
add_ready-requires-clause-ready c = c.law_of_room.ensures.texts _
    (all-at (λ p. has_content Field c.args.stack.now.content p ≡ true) c.args.texts.now c.loop-text.text-index (0, 0)
    (search rules) c.requires)
