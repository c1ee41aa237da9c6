use Rattle.std.proofs.Common.{ℕ, List, ◌∷◌, ◌++◌, map, ap, ◌∙◌, codes, flat_map}
use Rattle.std.proofs.lemmas.Result.{on_ok_weaker}
use Rattle.object_table.specs.Objects.{parts_at}
use Rattle.stack_text.specs.Document.{background_or}
use Rattle.stack_text.specs.Listing.{object_or, part_of, keeping_of}
use Rattle.stack_text.specs.Spelling.{layer_lines, cant_delete_of, parts_lines, keeping_lines}
use Rattle.stack_text.specs.Words.{numbered}
use Rattle.stack_text.specs.declared.sheets.Version.TheVariants.{Second as second}
use Rattle.stack_file.proofs.Passing.{passes_then, put_then_passed, same_passes}
use Rattle.stack_file.proofs.writing.put_card.Goals as goal

pub returns : goal.returns
returns g c =
    let s = c.args.stack.now.content in
    let id = c.args.id in
    let o = object_or s id in
    let on = background_or o.kind in
    let head = numbered (numbered (codes "card") id) on ∷ layer_lines o.name o.script (cant_delete_of o.kind) in
    let parts : List ℕ → List (List ℕ) = λ ids. parts_lines second (map (part_of s id) ids) in
    let kept : List ℕ → List (List ℕ) = λ ids. flat_map (keeping_lines second) (map (keeping_of s id) ids) in
    let its = c.parts_on.ensures ∙ ap (parts_at s) c.in_ok-background.ensures.background in
    on_ok_weaker c.put_keepings.result (λ last. passes_then head (parts (parts_at s id) ++ kept (parts_at s on))
    (put_then_passed head _ _ _ _ _ c.in_ok-background.ensures.lines c.in_ok-pass_on.ensures)
    (passes_then (parts (parts_at s id)) (kept (parts_at s on))
    (same_passes (ap parts c.parts_of.ensures) c.in_ok-put_parts.ensures)
    (same_passes (ap kept its) last))) c.put_keepings.ensures
