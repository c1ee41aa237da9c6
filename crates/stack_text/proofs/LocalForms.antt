-- Each form of lines is read from its own lines alone.
use Rattle.std.proofs.Common.{ℕ, zero, suc, Bool, List, [], ◌∷◌, ◌++◌, length, Option, not, nat_le, ◌||◌, ◌==◌}
use Rattle.ht_values.specs.declared.word.PartKind.{PartKind}
use Rattle.ht_values.specs.declared.word.PartKind.TheVariants.{Button, Field}
use Rattle.object_table.specs.declared.object.Kind.{Kind}
use Rattle.object_table.specs.declared.object.Kind.TheVariants.{BackgroundButton, BackgroundField}
use Rattle.stack_text.specs.declared.sheets.Part.{Part}
use Rattle.stack_text.specs.Document.{Sheet, contains_id}
use Rattle.stack_text.specs.Spelling.{Version, first, second}
use Rattle.stack_text.specs.Reading.{Reader, ◌>>=◌, too_many_if, bad_id_if, take_id, line_after, exactly, name_at}
use Rattle.stack_text.specs.Reading.{number_after, flag_after, count_after, new_id, pieces_at, text_of_pieces}
use Rattle.stack_text.specs.Reading.{block_after, script_at, in_second_or, background_button_at, background_field_at}
use Rattle.stack_text.specs.Reading.{background_part_at, card_button_at, card_field_at, card_part_at, part_at, parts_at}
use Rattle.stack_text.specs.Reading.{layer_at, background_header_at, background_at, own_text_at, own_hilite_at}
use Rattle.stack_text.specs.Reading.{keeping_by, card_header_at, card_at, stack_at, backgrounds_at, cards_at}
use Rattle.stack_text.proofs.Fronts.{IsLocal, then, stays, give-local, or_bad_line-local, bad_line_if-local}
use Rattle.stack_text.proofs.Fronts.{bad_id_if-local, too_many_if-local, by_used-local, next_line-local, times-local}
use Rattle.stack_text.proofs.Fronts.{for_each-local}

-- ---- lines

-- a line, a test and a value, one after another
ruleset steps =
    (then, give-local, next_line-local, or_bad_line-local, bad_line_if-local, bad_id_if-local, too_many_if-local)

pub line_after-local : {A : Type 0} (prefix : List ℕ) (form : List ℕ → Option A) → IsLocal (line_after prefix form)
line_after-local prefix form = search steps

pub exactly-local : (line : List ℕ) → IsLocal (exactly line)
unfolding exactly
exactly-local line = search steps

take_id-local : (id : ℕ) → IsLocal (take_id id)
take_id-local id = stays tt (λ used. used ++ id ∷ [])

new_id-local : (next id : ℕ) (right : Bool) → IsLocal (new_id next id right)
unfolding new_id
new_id-local next id right = by_used-local
    (λ used. too_many_if (nat_le 10000 (length used)) >>= λ few. bad_id_if
    (not right || ((id == 0) || (nat_le next id || contains_id id used))) >>= λ done. take_id id)
    (λ used. search (steps, take_id-local))

-- ---- texts of many lines

pieces-local : (alone : Bool) (n room : ℕ) → IsLocal (pieces_at alone n room)
pieces-local alone zero room = give-local []
pieces-local alone (suc n) room = search (steps, λ (r : ℕ). pieces-local alone n r)

text_of_pieces-local : (count : ℕ) → IsLocal (text_of_pieces count)
unfolding text_of_pieces
text_of_pieces-local count = search (steps, pieces-local)

-- ---- parts

in_second_or-local : (v : Version) (b : Bool) {r : Reader Bool} → IsLocal r → IsLocal (in_second_or v b r)
in_second_or-local first b one = give-local b
in_second_or-local second b one = one

ruleset forms = (steps, line_after-local, in_second_or-local, text_of_pieces-local, new_id-local)

background_part-local : (v : Version) (head : PartKind × ℕ) → IsLocal (background_part_at v head)
unfolding background_part_at background_button_at background_field_at name_at flag_after script_at block_after
background_part-local v (Button, id) = search forms depth 16
background_part-local v (Field, id) = search forms depth 16

card_part-local : (head : PartKind × ℕ) → IsLocal (card_part_at head)
unfolding card_part_at card_button_at card_field_at name_at flag_after script_at block_after
card_part-local (Button, id) = search forms depth 16
card_part-local (Field, id) = search forms depth 16

parts-local : (next : ℕ) (rest : PartKind × ℕ → Reader Part) → ((head : PartKind × ℕ) → IsLocal (rest head))
    → IsLocal (parts_at next rest)
unfolding parts_at part_at count_after
parts-local next rest each = search (forms, times-local) depth 16

-- ---- backgrounds and cards

layer-local : IsLocal layer_at
unfolding layer_at name_at flag_after script_at block_after
layer-local = search forms depth 16

background-local : (v : Version) (next : ℕ) → IsLocal (background_at v next)
unfolding background_at background_header_at number_after
background-local v next = search (forms, layer-local, parts-local, background_part-local) depth 16

keeping-local : (v : Version) (id : ℕ) (kind : Kind) → IsLocal (keeping_by v id kind)
unfolding own_text_at own_hilite_at
keeping-local v id (BackgroundField l t s) = search forms depth 16
keeping-local second id (BackgroundButton l s) = search forms depth 16
keeping-local v id k = give-local _

card-local : (v : Version) (next : ℕ) (bs : List Sheet) → IsLocal (card_at v next bs)
unfolding card_at card_header_at
card-local v next bs = search (
  forms,
  layer-local,
  parts-local,
  card_part-local,
  for_each-local,
  λ (part : Part).
      keeping-local v part.id part.object.kind,
) depth 16

-- ---- the whole, but for the end

pub stack-local : IsLocal stack_at
unfolding stack_at count_after name_at script_at block_after
stack-local = search forms depth 16

pub backgrounds-local : (v : Version) (next : ℕ) → IsLocal (backgrounds_at v next)
unfolding backgrounds_at count_after
backgrounds-local v next = search (forms, times-local, background-local)

pub cards-local : (v : Version) (next : ℕ) (bs : List Sheet) → IsLocal (cards_at v next bs)
unfolding cards_at count_after
cards-local v next bs = search (forms, times-local, card-local)
