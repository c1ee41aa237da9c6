use Rattle.std.proofs.Common.{◌∙◌, ◌∷◌, ◌++◌, [], List, ℕ, ap, sym, length, map, codes, flat_map}
use Rattle.std.proofs.lemmas.List.{length-map}
use Rattle.stack_text.specs.Listing.{document_of, background_sheet, card_sheet}
use Rattle.stack_text.specs.Spelling.{header, name_line, script_lines, background_lines, card_lines, sheets_lines}
use Rattle.stack_text.specs.Words.{numbered}
use Rattle.stack_text.specs.declared.sheets.Version.TheVariants.{Second as second}
use Rattle.stack_file.specs.Lines.{with_lines}
use Rattle.stack_file.proofs.Passing.{passes_then, put_passes, same_passes}
use Rattle.stack_file.proofs.writing.put_stack.Goals as goal

pub returns : goal.returns
returns g c =
    let s = c.args.stack.now.content in
    let d = document_of s in
    let head = header second ∷ numbered (codes "next") d.next ∷ name_line d.stack.name ∷ script_lines d.stack.script in
    let b_count = numbered (codes "backgrounds") (length d.backgrounds) ∷ [] in
    let c_count = numbered (codes "cards") (length d.cards) ∷ [] in
    let backgrounds = sheets_lines (codes "backgrounds") (background_lines second) d.backgrounds in
    let cards = sheets_lines (codes "cards") (card_lines second) d.cards in
    let end = codes "end" ∷ [] in
    let b_counted = c.in_ok-number_line.ensures
    ∙ ap (λ (n : ℕ). with_lines c.put_head.new.out.items (numbered (codes "backgrounds") n ∷ []))
    (c.len.ensures ∙ ap length c.backgrounds-backgrounds.ensures
    ∙ sym (length-map s.backgrounds (background_sheet s))) in
    let b_each = same_passes (ap (λ (ids : List ℕ). flat_map (background_lines second) (map (background_sheet s) ids))
    (c.as_slice.ensures ∙ c.backgrounds-backgrounds.ensures)) c.in_ok-put_backgrounds.ensures in
    let c_counted = c.in_ok-number_line-2.ensures
    ∙ ap (λ (n : ℕ). with_lines c.put_backgrounds.new.buffer.items (numbered (codes "cards") n ∷ []))
    (c.len-2.ensures ∙ ap length c.cards-cards.ensures ∙ sym (length-map s.cards (card_sheet s))) in
    let c_each = same_passes (ap (λ (ids : List ℕ). flat_map (card_lines second) (map (card_sheet s) ids))
    (c.as_slice-2.ensures ∙ c.cards-cards.ensures)) c.in_ok-put_cards.ensures in
    passes_then head (backgrounds ++ (cards ++ end)) (put_passes head _ _ _ c.in_ok-put_head.ensures)
    (passes_then backgrounds (cards ++ end)
    (passes_then b_count (flat_map (background_lines second) d.backgrounds) (put_passes b_count _ _ _ b_counted) b_each)
    (passes_then cards end
    (passes_then c_count (flat_map (card_lines second) d.cards) (put_passes c_count _ _ _ c_counted) c_each)
    (put_passes end _ _ _ c.in_ok-put_line.ensures)))
