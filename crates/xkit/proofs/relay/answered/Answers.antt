use Rattle.std.proofs.Common.{◌≡◌, [], sym, ◌∙◌, slice_index_or}
use Rattle.std.proofs.lemmas.Option.{get_or_from_slice_get}
use Rattle.xkit.specs.Steps.{cell}
use Rattle.xkit.proofs.Relays.{global_was_set}
use Rattle.xkit.proofs.relay.answered.Goals as goal

pub returns-in_ok-global-clause-ok : goal.returns-in_ok-global-clause-ok
returns-in_ok-global-clause-ok c =
    let due = global_was_set c.args.cells.now c.args.note.now c.args.value.now
    (sym c.is_note_of.ensures ∙ c.if-is_note_of.true) in
    let field : c.in_ok-field.field ≡ slice_index_or c.args.note.now 1 [] =
    c.in_ok-field.ensures.value ∙ sym (get_or_from_slice_get c.args.note.now 1 c.at.result.now [] c.at.ensures) in
    let global : c.in_ok-global.global ≡ cell c.args.cells.now 0 = c.in_ok-global.ensures.value
    ∙ sym (get_or_from_slice_get c.args.cells.now 0 c.at-then-is_note_of.result.now []
    c.at-then-is_note_of.ensures) in
    rw (due, ← c.in_ok-next.ensures, ← field, ← global) (c.unchanged.ensures c.args.cells.now)
