-- Layers, which have parts: cards and backgrounds.
use Rattle.std.specs.Prelude.{ℕ, Bool, List, Option, None, if◌then◌else◌}
use Rattle.std.specs.FinMap.{get}
use Rattle.object_table.specs.Content.{Content}
use Rattle.object_table.specs.Objects.{is_background, is_card, has_kind}
use Rattle.object_table.specs.declared.object.Kind.{Kind}
use Rattle.object_table.specs.declared.object.LayerId.{LayerId}
use Rattle.object_table.specs.declared.object.LayerId.TheVariants.{OfCard, OfBackground}

abbrev pub layer_id : LayerId → ℕ
layer_id (OfCard id) = id
layer_id (OfBackground id) = id

-- whether this is the kind of what the layer says
abbrev pub is_of_layer : LayerId → Kind → Bool
is_of_layer (OfCard id) kind = is_card kind
is_of_layer (OfBackground id) kind = is_background kind

-- the list of a layer's parts, where there is such a layer
abbrev pub layer_parts : Content → LayerId → Option (List ℕ)
layer_parts s layer = if has_kind (is_of_layer layer) s (layer_id layer) then get s.parts (layer_id layer) else None
