use Rattle.std.proofs.Common.{◌≡◌, true, [], arith, rules, subst, sym}
use Rattle.std.specs.FinSet.{contains}
use Rattle.stack_places.specs.Exchange.{IsReady}
use Rattle.structural_changes.specs.Prepared.{Adds}
use Rattle.structural_changes.proofs.Filled.{all-at}
use Rattle.structural_changes.proofs.Prepared.{adds_none, opens_hilites}
use Rattle.structural_changes.proofs.preparing.add_hilites_of.Goals as goal

pub returns-in_err-reserve-clause-opens : goal.returns-in_err-reserve-clause-opens
returns-in_err-reserve-clause-opens c = opens_hilites c.args.stack.now c.open_hilites.new.self c.args.buttons.now
    c.args.card c.in_ok-open_hilites.ensures.ok

pub loop-button-init : goal.loop-button-init
loop-button-init c =
    let stack = c.args.stack.now in
    record {
      adds = subst (λ es. Adds stack c.open_hilites.new.self c.args.entries.now.items es [])
          (sym c.reserve.ensures.items)
          (adds_none stack c.open_hilites.new.self c.args.entries.now.items
          (opens_hilites stack c.open_hilites.new.self c.args.buttons.now c.args.card
          c.in_ok-open_hilites.ensures.ok));
      room = omega (arith, c.in_ok-reserve.ensures.ok);
    }

pub add_ready-requires-clause-ready : goal.add_ready-requires-clause-ready
unfolding IsReady
add_ready-requires-clause-ready c =
    all-at (λ button. contains c.open_hilites.new.self.room.hilites (button, c.args.card) ≡ true) c.args.buttons.now
    c.loop-button.button-index 0 (search rules) c.in_ok-open_hilites.ensures.inside
