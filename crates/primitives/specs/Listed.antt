-- The values of a list, none and a single one by themselves.
use Rattle.std.specs.Prelude.{ℕ, List, [], ◌∷◌}
use Rattle.primitives.specs.declared.arguments.Listed.{Listed}
use Rattle.primitives.specs.declared.arguments.Listed.TheVariants as variant

abbrev pub listed : Listed → List (List ℕ)
listed variant.Nothing = []
listed (variant.One value) = value ∷ []
listed (variant.All values) = values.items
