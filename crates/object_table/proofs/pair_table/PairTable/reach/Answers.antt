use Rattle.std.proofs.Common.{◌≡◌, ◌+◌, ◌≤◌, length, false, sym, subst, ap, ◌∙◌, arith, rules, is_some}
use Rattle.object_table.specs.Objects.{contains_id}
use Rattle.object_table.specs.Pages.{number_at}
use Rattle.object_table.specs.Rows.{ids_in, AreApart}
use Rattle.object_table.specs.Slots.{slot_number}
use Rattle.object_table.proofs.Rows.{apart-append, entries-empty_row, entry-added, entry-among, entry-tied, ids-append}
use Rattle.object_table.proofs.Slots.{none_numbered, numbered_there, numbered-added}
use Rattle.object_table.proofs.pair_table.PairTable.reach.Goals as goal

pub returns-then-get-gt0-clause-ok : goal.returns-then-get-gt0-clause-ok
returns-then-get-gt0-clause-ok g c =
    let es = c.self.inside.rows.items in
    let some : 1 ≤ slot_number es c.args.card =
    omega (arith, c.if-get-gt0.true, c.get.ensures, c.self.invariant.0 c.args.card) in
    rw (← c.self.view_is) (sym (ap (λ o. is_some o) (entry-tied es c.args.card)) ∙ numbered_there es c.args.card some)

pub invariant_of-self-2 : goal.invariant_of-self-2
invariant_of-self-2 g c =
    let es = c.self.inside.rows.items in
    let pages = c.self.inside.numbers.pages.items in
    let card = c.args.card in
    let none : number_at pages card ≡ 0 = omega (arith, c.if-get-gt0.false, c.get.ensures) in
    let long : c.in-Ok.number ≡ length es + 1 = search rules in
    let absent = sym (entry-tied es card) ∙ none_numbered es card (sym (c.self.invariant.0 card) ∙ none) in
    let free : contains_id card (ids_in es) ≡ false = sym (entry-among es card) ∙ ap (λ o. is_some o) absent in
    rw (c.push_reserved.ensures.items, c.in_ok-reserve.ensures.items) (
      numbered-added pages _ es card c.in-Ok.number c.new.result c.self.invariant.0 none long c.in_ok-set.ensures.ok,
      subst AreApart (sym (ids-append es card c.new.result)) (apart-append (ids_in es) card c.self.invariant.1 free),
    )

pub returns-clause-entries : goal.returns-clause-entries
returns-clause-entries g c =
    let es = c.self.inside.rows.items in
    rw (c.push_reserved.ensures.items, c.in_ok-reserve.ensures.items, c.new.ensures, ← c.self.view_is)
    (entries-empty_row es c.args.card)

pub returns-clause-ok : goal.returns-clause-ok
returns-clause-ok g c =
    let es = c.self.inside.rows.items in
    rw (c.push_reserved.ensures.items, c.in_ok-reserve.ensures.items) (entry-added es c.args.card c.new.result)
