-- Parts by reference.
use Rattle.std.specs.Prelude.{ℕ, Bool, false, List, find, Option, option_map, option_and_then, unwrap_or, ◌==◌}
use Rattle.ht_values.specs.Text.{same}
use Rattle.object_table.specs.Content.{Content}
use Rattle.object_table.specs.Layers.{layer_parts}
use Rattle.object_table.specs.Numbers.{at_number, of_kind}
use Rattle.object_table.specs.Objects.{object_at}
use Rattle.object_table.specs.declared.object.LayerId.{LayerId}
use Rattle.ht_values.specs.declared.word.PartKind.{PartKind}
use Rattle.object_table.specs.declared.reference.Which.{Which}
use Rattle.object_table.specs.declared.reference.Which.TheVariants.{Number, Id, Name}

-- whether there is such an object, and its name is the same
abbrev pub is_named : Content → List ℕ → ℕ → Bool
is_named s name id = unwrap_or (option_map (λ o. same o.name name) (object_at s id)) false

-- the id in a list with this number, this id, or the first with this name
abbrev pub pick : Content → Which → List ℕ → Option ℕ
pick s (Number number) ids = at_number ids number
pick s (Id id) ids = find (λ x. x == id) ids
pick s (Name name) ids = find (is_named s name.now) ids

-- the part of a kind on a layer that a reference finds
abbrev pub part_found : Content → LayerId → PartKind → Which → Option ℕ
part_found s layer kind which = option_and_then (λ parts. pick s which (of_kind s kind parts)) (layer_parts s layer)
