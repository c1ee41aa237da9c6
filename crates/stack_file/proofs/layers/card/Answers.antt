use Rattle.std.proofs.Common.{rules, refl, sym, ap, subst, ◌∙◌, List, map}
use Rattle.stack_text.specs.declared.sheets.Part.{Part}
use Rattle.stack_text.specs.Document.{parts_of}
use Rattle.stack_text.specs.Reading.{Fails, for_each, keeping_at, card_at, card_part_at, parts_at}
use Rattle.stack_file.specs.Views.{sheet_seen}
use Rattle.stack_file.proofs.Times.{fails_on}
use Rattle.stack_file.proofs.layers.card.Goals as goal

pub returns-in_err-parts : goal.returns-in_err-parts
unfolding card_at
returns-in_err-parts c =
    let e = c.in_err-parts.field-0.0 in
    let known : Fails e (card_at c.args.version c.args.next (map sheet_seen c.args.backgrounds.now.list.now)
    c.args.lines.now) =
    rw (c.in_ok-id.ensures, c.in_ok-name.ensures)
    (fails_on e (parts_at c.args.next card_part_at c.layer.new.lines) _ c.in_err-parts.ensures)
    in
    search (rules, known)

pub returns-in_err-keepings : goal.returns-in_err-keepings
unfolding card_at
returns-in_err-keepings c =
    let e = c.in_err-keepings.field-0.0 in
    let backgrounds = map sheet_seen c.args.backgrounds.now.list.now in
    let due = subst (λ (ps : List Part). Fails e (for_each ps (keeping_at c.args.version) c.parts.new.lines))
    c.parts_of.ensures c.in_err-keepings.ensures in
    let known : Fails e (card_at c.args.version c.args.next backgrounds c.args.lines.now) =
    rw (c.in_ok-id.ensures, c.in_ok-name.ensures, c.in_ok-parts.ensures)
    (fails_on e (for_each (parts_of backgrounds c.in_ok-id.background) (keeping_at c.args.version)
    c.parts.new.lines) _ due)
    in
    search (rules, known)

pub returns : goal.returns
unfolding card_at
returns c =
    let due = ap (λ (ps : List Part). for_each ps (keeping_at c.args.version) c.parts.new.lines)
    (sym c.parts_of.ensures) ∙ c.in_ok-keepings.ensures in
    rw (c.in_ok-id.ensures, c.in_ok-name.ensures, c.in_ok-parts.ensures, due) refl
