use Rattle.std.proofs.Common.{ℕ, [], ◌∷◌, map, length, ap, sym, ◌∙◌, codes, flat_map}
use Rattle.std.proofs.lemmas.List.{length-map}
use Rattle.std.proofs.lemmas.Result.{on_ok_weaker}
use Rattle.stack_text.specs.Listing.{part_of}
use Rattle.stack_text.specs.Spelling.{part_lines}
use Rattle.stack_text.specs.Words.{numbered}
use Rattle.stack_text.specs.declared.sheets.Version.TheVariants.{Second as second}
use Rattle.stack_file.specs.Lines.{with_lines}
use Rattle.stack_file.proofs.Passing.{passes_then, put_passes}
use Rattle.stack_file.proofs.writing.put_parts.Goals as goal

pub returns : goal.returns
returns g c =
    let of = part_of c.args.stack.now.content c.args.card in
    let parts = map of c.args.ids.now in
    let count = numbered (codes "parts") (length parts) ∷ [] in
    let counted = c.in_ok-number_line.ensures
    ∙ ap (λ (n : ℕ). with_lines c.args.buffer.now.items (numbered (codes "parts") n ∷ []))
    (sym (length-map c.args.ids.now of)) in
    on_ok_weaker c.put_each_part.result (λ each. passes_then count (flat_map (part_lines second) parts)
    (put_passes count _ _ _ counted) each) c.put_each_part.ensures
