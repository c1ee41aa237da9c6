-- The numbers of objects, counted from 1.
use Rattle.std.specs.Prelude.{ℕ, ◌+◌, ◌-◌, List, ◌++◌, slice_get, filter, find, position, Option, None, option_map}
use Rattle.std.specs.Prelude.{option_and_then, ◌==◌, if◌then◌else◌}
use Rattle.object_table.specs.Content.{Content}
use Rattle.object_table.specs.Objects.{has_kind, is_of, object_at, parts_at, contains_id}
use Rattle.object_table.specs.declared.object.Kind.{Kind}
use Rattle.object_table.specs.declared.object.Kind.TheVariants.{Stack, Background, Card, CardButton, BackgroundButton}
use Rattle.object_table.specs.declared.object.Kind.TheVariants.{CardField, BackgroundField}
use Rattle.ht_values.specs.declared.word.PartKind.{PartKind}
use Rattle.ht_values.specs.declared.word.PartKind.TheVariants.{Button, Field}

-- the id with a number
abbrev pub at_number : List ℕ → ℕ → Option ℕ
at_number ids number = if number == 0 then None else slice_get ids (number - 1)

-- the number of an id
abbrev pub number_in : ℕ → List ℕ → Option ℕ
number_in id ids = option_map (λ i. i + 1) (position (λ x. x == id) ids)

-- the parts of a kind in a list
abbrev pub of_kind : Content → PartKind → List ℕ → List ℕ
of_kind s kind ids = filter (has_kind (is_of kind) s) ids

-- the layer that a part stands in
abbrev pub layer_of : Content → ℕ → Option ℕ
layer_of s part = find (λ layer. contains_id part (parts_at s layer)) (s.backgrounds ++ s.cards)

-- buttons and fields are numbered apart, within their layer
abbrev pub part_number : Content → PartKind → ℕ → Option ℕ
part_number s kind part =
    option_and_then (λ layer. number_in part (of_kind s kind (parts_at s layer))) (layer_of s part)

-- a background or a card is numbered in its order
abbrev pub number_by : Content → ℕ → Kind → Option ℕ
number_by s id Stack = None
number_by s id (Background c) = number_in id s.backgrounds
number_by s id (Card b c) = number_in id s.cards
number_by s id (CardButton v h) = part_number s Button id
number_by s id (BackgroundButton v h) = part_number s Button id
number_by s id (CardField v l) = part_number s Field id
number_by s id (BackgroundField v l t) = part_number s Field id

abbrev pub number_of : Content → ℕ → Option ℕ
number_of s id = option_and_then (λ o. number_by s id o.kind) (object_at s id)
