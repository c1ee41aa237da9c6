use Rattle.std.proofs.Common.{◌≡◌, true, [], rules, subst, sym}
use Rattle.std.specs.FinSet.{contains}
use Rattle.stack_places.specs.Exchange.{IsReady}
use Rattle.structural_changes.specs.Prepared.{Adds}
use Rattle.structural_changes.proofs.Filled.{all-at}
use Rattle.structural_changes.proofs.Prepared.{adds_none, opens_texts}
use Rattle.structural_changes.proofs.preparing.add_texts_of.Goals as goal

pub returns-in_err-reserve-clause-opens : goal.returns-in_err-reserve-clause-opens
returns-in_err-reserve-clause-opens c =
    opens_texts c.args.stack.now c.open_texts.new.self c.args.fields.now c.args.card c.in_ok-open_texts.ensures.ok

pub loop-field-init : goal.loop-field-init
loop-field-init c =
    let stack = c.args.stack.now in
    subst (λ es. Adds stack c.open_texts.new.self c.args.entries.now.items es []) (sym c.reserve.ensures.items)
    (adds_none stack c.open_texts.new.self c.args.entries.now.items
    (opens_texts stack c.open_texts.new.self c.args.fields.now c.args.card c.in_ok-open_texts.ensures.ok))

pub add_ready-requires-clause-ready : goal.add_ready-requires-clause-ready
unfolding IsReady
add_ready-requires-clause-ready c =
    all-at (λ field. contains c.open_texts.new.self.room.texts (field, c.args.card) ≡ true) c.args.fields.now
    c.loop-field.field-index 0 (search rules) c.in_ok-open_texts.ensures.inside
