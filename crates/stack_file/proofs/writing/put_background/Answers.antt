use Rattle.std.proofs.Common.{ℕ, List, ◌∷◌, map, ap, codes}
use Rattle.std.proofs.lemmas.Result.{on_ok_weaker}
use Rattle.object_table.specs.Objects.{parts_at}
use Rattle.stack_text.specs.Listing.{object_or, part_of}
use Rattle.stack_text.specs.Spelling.{layer_lines, cant_delete_of, parts_lines}
use Rattle.stack_text.specs.Words.{numbered}
use Rattle.stack_text.specs.declared.sheets.Version.TheVariants.{Second as second}
use Rattle.stack_file.proofs.Passing.{passes_then, put_then_passed, same_passes}
use Rattle.stack_file.proofs.writing.put_background.Goals as goal

pub returns : goal.returns
returns g c =
    let s = c.args.stack.now.content in
    let id = c.args.id in
    let o = object_or s id in
    let head = numbered (codes "background") id ∷ layer_lines o.name o.script (cant_delete_of o.kind) in
    let parts : List ℕ → List (List ℕ) = λ ids. parts_lines second (map (part_of s 0) ids) in
    on_ok_weaker c.put_parts.result (λ last. passes_then head (parts (parts_at s id))
    (put_then_passed head _ _ _ _ _ c.in_ok-put_background_head.ensures c.in_ok-pass_on.ensures)
    (same_passes (ap parts c.parts_on.ensures) last)) c.put_parts.ensures
