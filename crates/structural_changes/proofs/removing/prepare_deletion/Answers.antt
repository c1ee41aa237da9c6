use Rattle.std.proofs.Common.{◌≡◌, ℕ, List, [], ◌∷◌, ◌++◌, map, subst, ap, ◌∙◌, if◌then◌else◌}
use Rattle.object_table.specs.Content.{Content}
use Rattle.object_table.specs.Pairs.{Pair}
use Rattle.object_table.specs.Table.{Table}
use Rattle.stack_places.specs.Places.{card_order, background_order, field_text, button_hilite, ids, layer_parts, whole}
use Rattle.structural_changes.specs.Prepared.{Adds}
use Rattle.structural_changes.specs.Writes.{StackWrite, clear, home, is_last_card, without, write, writes_of_deletion}
use Rattle.structural_changes.proofs.Prepared.{adds_then}
use Rattle.structural_changes.proofs.removing.prepare_deletion.Goals as goal

pub returns-clause-entries : goal.returns-clause-entries
returns-clause-entries c =
    let card = c.args.card in
    let start : Table = c.args.stack.now in
    let s = start.content in
    let ordered : Table = c.add_entry.new.stack in
    let left : Table = c.leave_background.new.stack in
    let end : Table = c.clear_parts.new.stack in
    let none = c.new-entries.result.items in
    let first = c.add_entry.new.entries.items in
    let second = c.leave_background.new.entries.items in
    let third = c.clear_objects.new.entries.items in
    let fourth = c.clear_parts.new.entries.items in
    let fifth = c.clear_texts.new.entries.items in
    let last = c.clear_hilites.new.entries.items in
    let orders = adds_then start ordered left none first second _ _ c.in_ok-add_entry.ensures.adds
    c.in_ok-leave_background.ensures.adds in
    let objects_and_layers = adds_then left c.clear_objects.new.stack end second third fourth _ _
    c.in_ok-clear_objects.ensures.adds c.in_ok-clear_parts.ensures.adds in
    let and_texts = adds_then left end end second fourth fifth _ _ objects_and_layers c.in_ok-clear_texts.ensures in
    let cleared = adds_then left end end second fifth last _ _ and_texts c.in_ok-clear_hilites.ensures in
    let all = adds_then start left end none second last _ _ orders cleared in
    let cards = c.in_ok-cards.ensures ∙ ap (without card) c.cards.ensures in
    let objects = c.deref.ensures.value ∙ c.in_ok-objects.ensures in
    let layers = c.deref-2.ensures.value ∙ c.in_ok-layers.ensures in
    let texts = c.deref-3.ensures.value ∙ c.in_ok-texts.ensures.contents in
    let hilites = c.deref-4.ensures.value ∙ c.in_ok-hilites.ensures.contents in
    let backgrounds : Content → List StackWrite = λ x. if is_last_card x card then write background_order
    (ids (without (home x card) x.backgrounds)) ∷ [] else [] in
    let writes : Content → List ℕ → List ℕ → List ℕ → List Pair → List Pair
    → List StackWrite = λ x a o l t h. write card_order (ids a) ∷ backgrounds x
    ++ (map (λ id. clear (whole id)) o ++ map (λ id. clear (layer_parts id)) l
    ++ map (λ p. clear (field_text p.0 p.1)) t ++ map (λ p. clear (button_hilite p.0 p.1)) h) in
    let added : List StackWrite = writes ordered.content c.in_ok-cards.cards c.deref.result.now c.deref-2.result.now
    c.deref-3.result.now c.deref-4.result.now in
    let just : added ≡ writes_of_deletion s card =
    λ i. writes (c.add_entry.ensures.opens.content i) (cards i) (objects i) (layers i) (texts i) (hilites i) in
    subst (λ l. Adds start end [] last l) just
    (subst (λ l. Adds start end l last added) c.new-entries.ensures.items all)
