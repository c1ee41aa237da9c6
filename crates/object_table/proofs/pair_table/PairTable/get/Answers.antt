use Rattle.std.proofs.Common.{Option, Some, None, OnSome, sym, ap, ◌∙◌, option_and_then, is_some}
use Rattle.object_table.specs.Pairs.{Pair}
use Rattle.object_table.specs.Rows.{entry_at, entries_of}
use Rattle.object_table.specs.Slots.{slot_at}
use Rattle.object_table.proofs.Opened.{get-map_of, contains-keys_of}
use Rattle.object_table.proofs.Pairs.{pairs}
use Rattle.object_table.proofs.Rows.{entry-of_pair, entry-tied}
use Rattle.object_table.proofs.Slots.{slot-numbered}
use Rattle.object_table.proofs.pair_table.PairTable.get.Goals as goal

on_some : {X P Q : Type 0} (o : Option X) → (P → Q) → OnSome o P → OnSome o Q
on_some None f h = tt
on_some (Some x) f h = f h

pub returns-in_err-row_with-clause-value : goal.returns-in_err-row_with-clause-value
returns-in_err-row_with-clause-value g c =
    let es = c.self.inside.rows.items in
    let pair : Pair = (c.args.part, c.args.card) in
    let none = c.in_err-row_with.ensures ∙ ap (λ xs. slot_at xs c.get.result) c.deref.ensures.value
    ∙ slot-numbered c.self.inside.numbers.pages.items es c.args.card c.get.result c.self.invariant.0 c.get.ensures
    ∙ entry-tied es c.args.card in
    let is = entry-of_pair es pair c.self.invariant.1 ∙ ap (option_and_then (λ r. entry_at r c.args.part)) (sym none) in
    rw (← c.self.view_is, c.from_residual.ensures)
    (sym (get-map_of pairs (entries_of es) pair ∙ ap (option_and_then (λ x. x)) is))

pub returns-clause-value : goal.returns-clause-value
returns-clause-value g c =
    let es = c.self.inside.rows.items in
    let pair : Pair = (c.args.part, c.args.card) in
    let found = c.in_ok-row_with.ensures ∙ ap (λ xs. slot_at xs c.get.result) c.deref.ensures.value
    ∙ slot-numbered c.self.inside.numbers.pages.items es c.args.card c.get.result c.self.invariant.0 c.get.ensures
    ∙ entry-tied es c.args.card in
    let is = entry-of_pair es pair c.self.invariant.1
    ∙ ap (option_and_then (λ r. entry_at r c.args.part)) (sym found) in
    rw (← c.self.view_is) (c.get-2.ensures.value
    ∙ sym (get-map_of pairs (entries_of es) pair ∙ ap (option_and_then (λ x. x)) is))

pub returns-clause-room : goal.returns-clause-room
returns-clause-room g c =
    let es = c.self.inside.rows.items in
    let pair : Pair = (c.args.part, c.args.card) in
    let found = c.in_ok-row_with.ensures ∙ ap (λ xs. slot_at xs c.get.result) c.deref.ensures.value
    ∙ slot-numbered c.self.inside.numbers.pages.items es c.args.card c.get.result c.self.invariant.0 c.get.ensures
    ∙ entry-tied es c.args.card in
    let is = entry-of_pair es pair c.self.invariant.1
    ∙ ap (option_and_then (λ r. entry_at r c.args.part)) (sym found) in
    rw (← c.self.view_is) (on_some c.get-2.result
    (λ h. contains-keys_of pairs (entries_of es) pair ∙ ap (λ o. is_some o) is ∙ h) c.get-2.ensures.open)
