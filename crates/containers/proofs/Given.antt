-- Parameters that get their arguments all at once get them one by one.
use Rattle.std.proofs.Common.{◌≡◌, ℕ, ◌+◌, Bool, true, false, List, [], ◌∷◌, map, get_or, drop, Some, refl, sym, ◌∙◌}
use Rattle.std.proofs.Common.{ap, if◌then◌else◌, add-zero, drop-drop, get_or-drop}
use Rattle.ht_values.specs.Text.{same}
use Rattle.name_lists.specs.declared.parameters.Binding.{Binding}
use Rattle.name_lists.specs.Parameters.{bindings_of, bound_from, names_bound, with_argument}
use Rattle.containers.specs.Variables.{VariablesView, bound, local_given, with_local, with_value}

module _ (arguments : List (List ℕ)) where
  -- the variables of a handler whose names have these arguments
  abbrev all_given : List Binding → VariablesView
  all_given bs = record { all_global = false; locals = map (local_given arguments) bs }

  one_given : (name : List ℕ) (i : ℕ) (bs : List Binding)
      → map (local_given arguments) (with_argument name i bs)
      ≡ with_value name (Some (get_or arguments i [])) (map (local_given arguments) bs)
  one_given name i [] = refl
  one_given name i (b ∷ bs) = by (same b.name name) (one_given name i bs)
    where
      by : (here : Bool)
          → map (local_given arguments) (with_argument name i bs)
          ≡ with_value name (Some (get_or arguments i [])) (map (local_given arguments) bs)
          → map (local_given arguments)
          (if here then record b { argument = i } ∷ bs else b ∷ with_argument name i bs)
          ≡ (if here then record (local_given arguments b) { value = Some (get_or arguments i []) }
          ∷ map (local_given arguments) bs
          else local_given arguments b
          ∷ with_value name (Some (get_or arguments i [])) (map (local_given arguments) bs))
      by true rest = refl
      by false rest = ap (λ ls. local_given arguments b ∷ ls) rest

  first_bound : (name : List ℕ) (names values : List (List ℕ)) (v : VariablesView)
      → bound (name ∷ names) values v ≡ bound names (drop 1 values) (with_local v name (Some (get_or values 0 [])))
  first_bound name names [] v = refl
  first_bound name names (a ∷ values) v = refl

  bound_given : (i : ℕ) (names : List (List ℕ)) (bs : List Binding)
      → bound names (drop i arguments) (all_given bs) ≡ all_given (bound_from i names bs)
  bound_given i [] bs = refl
  bound_given i (name ∷ names) bs =
      let value : get_or (drop i arguments) 0 [] ≡ get_or arguments i [] =
      get_or-drop i arguments 0 [] ∙ ap (λ k. get_or arguments k []) (add-zero i) in
      first_bound name names (drop i arguments) (all_given bs)
      ∙ ap (λ vs. bound names vs (with_local (all_given bs) name (Some (get_or (drop i arguments) 0 []))))
      (drop-drop 1 i arguments)
      ∙ ap (λ a. bound names (drop (i + 1) arguments) (with_local (all_given bs) name (Some a))) value
      ∙ ap (λ ls. bound names (drop (i + 1) arguments) (record { all_global = false; locals = ls }))
      (sym (one_given name i bs))
      ∙ bound_given (i + 1) names (with_argument name i bs)

  -- the parameters of a handler that begins
  pub given_is_bound : (names : List (List ℕ))
      → all_given (bindings_of names) ≡ bound names arguments (record { all_global = false; locals = [] })
  given_is_bound names = sym (bound_given 0 names [])

-- the names that get arguments are those of the variables
pub given_names : (arguments : List (List ℕ)) (bs : List Binding)
    → map (λ l. l.name) (map (local_given arguments) bs) ≡ names_bound bs
given_names arguments [] = refl
given_names arguments (b ∷ bs) = ap (λ ns. b.name ∷ ns) (given_names arguments bs)
