use Rattle.std.proofs.Common.{◌≡◌, ◌∙◌, ap, sym, map, ◌==◌, length, refl, Some, position, slice_get}
use Rattle.std.proofs.lemmas.Option.{slice_get_read}
use Rattle.stack_text.specs.Document.{sheet_ids}
use Rattle.stack_file.specs.Views.{sheet_seen}
use Rattle.stack_file.specs.declared.sheets.SheetLines.{SheetLines}
use Rattle.stack_file.proofs.Places.{parts_of-placed, parts_of-none, placed_within}
use Rattle.stack_file.proofs.backgrounds.Backgrounds.parts_of.Goals as goal

pub returns-in-Some : goal.returns-in-Some
returns-in-Some c =
    let list = c.args.self.now.list.now in
    let at : position (λ x. x == c.args.id) (sheet_ids (map sheet_seen list)) ≡ Some c.in-Some.place =
    ap (position (λ x. x == c.args.id)) (sym c.args.self.now.placed) ∙ sym c.place_of.ensures ∙ c.in-Some.is
    in
    let is : slice_get list c.in-Some.place ≡ Some c.index-self-place.result =
    slice_get_read list (length list) c.in-Some.place c.index-self-place.result refl
    (placed_within list c.args.id c.in-Some.place at) c.index-self-place.is
    in
    c.deref.ensures.value ∙ ap (λ (b : SheetLines). b.parts.items) (sym c.index-self-place.is)
    ∙ sym (parts_of-placed list c.args.id c.in-Some.place c.index-self-place.result at is)

pub returns-in-None : goal.returns-in-None
returns-in-None c =
    sym
    (parts_of-none c.args.self.now.list.now c.args.id
    (ap (position (λ x. x == c.args.id)) (sym c.args.self.now.placed) ∙ sym c.place_of.ensures ∙ c.in-None.is))
