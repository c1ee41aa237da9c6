use Rattle.structural_changes.proofs.Prepared.{adds_one}
use Rattle.structural_changes.proofs.preparing.add_entry.Goals as goal

pub returns-clause-adds : goal.returns-clause-adds
returns-clause-adds c = adds_one c.args.stack.now c.open_place.new.stack c.args.entries.now.items c.push.new.self.items
    c.args.entry c.in_ok-push.ensures.items c.open_place.ensures.opens.content c.open_place.ensures.opens.wider
    c.in_ok-open_place.ensures.ready
