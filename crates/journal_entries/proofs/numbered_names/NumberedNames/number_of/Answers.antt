use Rattle.std.proofs.Common.{map, refl, sym, Some, None}
use Rattle.journal_entries.proofs.Numbering.{position-number, number-left, number-nowhere}
use Rattle.journal_entries.proofs.numbered_names.NumberedNames.number_of.Goals as goal

pub returns-in-Some : goal.returns-in-Some
returns-in-Some c =
    let keys = c.self.inside.few.keys in
    let there = position-number (λ k. k.items) c.args.name.now keys (map (λ k. k.items) keys) (Some c.in-Some.number)
    refl (sym c.in-Some.ensures.index) in
    rw (← c.self.view_is) (number-left (map (λ k. k.items) keys) c.self.inside.more c.args.name.now c.in-Some.number
    there)

pub returns-in-None-number_of : goal.returns-in-None-number_of
returns-in-None-number_of c =
    let keys = c.self.inside.few.keys in
    let nowhere = position-number (λ k. k.items) c.args.name.now keys (map (λ k. k.items) keys) None refl
    (sym c.in-None.ensures.index) in
    rw (← c.self.view_is) (number-nowhere (map (λ k. k.items) keys) c.self.inside.more c.args.name.now nowhere
    c.in-None-number_of.ensures.value)
