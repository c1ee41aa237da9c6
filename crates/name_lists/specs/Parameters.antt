-- What the parameters of a handler get.
use Rattle.std.specs.Prelude.{ℕ, ◌+◌, List, [], ◌∷◌, map, if◌then◌else◌}
use Rattle.ht_values.specs.Text.{folded, same}
use Rattle.name_lists.specs.declared.parameters.Binding.{Binding}

-- the names that get arguments
abbrev pub names_bound : List Binding → List (List ℕ)
names_bound bs = map (λ b. b.name) bs

-- the names where this one gets the argument of this number; a new name stands last, folded
abbrev pub with_argument : List ℕ → ℕ → List Binding → List Binding
with_argument name i [] = record { name = folded name; argument = i } ∷ []
with_argument name i (b ∷ bs) =
    if same b.name name then record b { argument = i } ∷ bs else b ∷ with_argument name i bs

-- the names where further ones get the arguments from this number on, one after another
abbrev pub bound_from : ℕ → List (List ℕ) → List Binding → List Binding
bound_from i [] bs = bs
bound_from i (name ∷ names) bs = bound_from (i + 1) names (with_argument name i bs)

-- each name of these once, with the number of its argument: of a name that stands twice the last counts
abbrev pub bindings_of : List (List ℕ) → List Binding
bindings_of names = bound_from 0 names []

-- the numbers of their arguments
abbrev pub arguments_of : List (List ℕ) → List ℕ
arguments_of names = map (λ b. b.argument) (bindings_of names)
