-- Globals by name, and the names that have numbers.
use Rattle.std.specs.Prelude.{◌≡◌, ◌≢◌, ℕ, ◌<◌, List, [], ◌∷◌, ◌++◌, length, map, Option, Some, None, option_map}
use Rattle.std.specs.Prelude.{slice_index_or, refl}
use Rattle.std.specs.FinMap.{get, from_entries}
use Rattle.std.specs.Coded.{Coded, code_by, coded×, coded_ℕ, coded_list}
use Rattle.journal_entries.specs.State.{Globals, coded_globals}

-- texts by name, and the names in the order in which they came
pub record Named : Type 0 where
  pub texts : Globals
  pub names : List (List ℕ)

abbrev pub coded_named : Coded Named
coded_named = code_by (Globals × List (List ℕ)) (coded× coded_globals (coded_list (coded_list coded_ℕ)))
    (λ n. (n.texts, n.names)) (λ p. record { texts = p.0; names = p.1 }) (λ _. refl)

-- a name with its value, if it has one
abbrev pub with_value : List ℕ → Option (List ℕ) → List (List ℕ × List ℕ) → List (List ℕ × List ℕ)
with_value n None rest = rest
with_value n (Some v) rest = (n, v) ∷ rest

-- names with their values, of those that have one
abbrev pub entries_of : List (List ℕ) → List (Option (List ℕ)) → List (List ℕ × List ℕ)
entries_of [] vs = []
entries_of (n ∷ ns) [] = []
entries_of (n ∷ ns) (v ∷ vs) = with_value n v (entries_of ns vs)

-- the globals that have a value, in the order in which their names came
abbrev pub listed : List (List ℕ) → Globals → List (List ℕ × List ℕ)
listed [] m = []
listed (n ∷ ns) m = with_value n (get m n) (listed ns m)

-- the global with a number, if it has a value
abbrev pub numbered : List (List ℕ) → Globals → ℕ → Option (List ℕ × List ℕ)
numbered names m i = let name = slice_index_or names i [] in option_map (λ v. (name, v)) (get m name)

-- the number of a name, if it has one
abbrev pub IsNumberOf : List (List ℕ) → List ℕ → Option ℕ → Type 0
IsNumberOf names name (Some i) = (i < length names) × (slice_index_or names i [] ≡ name)
IsNumberOf names name None = (i : ℕ) → i < length names → slice_index_or names i [] ≢ name

-- this name isn't there
abbrev pub IsNew : List ℕ → List (List ℕ) → Type 0
IsNew n [] = Unit {0}
IsNew n (m ∷ ms) = (n ≢ m) × IsNew n ms

-- no name stands twice
abbrev pub AreDistinct : List (List ℕ) → Type 0
AreDistinct [] = Unit {0}
AreDistinct (n ∷ ns) = IsNew n ns × AreDistinct ns

-- the new list is the old one with more at its end
abbrev pub Extends : List (List ℕ) → List (List ℕ) → Type 0
Extends old new = (more : List (List ℕ)) × (new ≡ old ++ more)

-- the list has each entry of the map once, and no other
pub record Lists (es : List (List ℕ × List ℕ)) (m : Globals) : Type 0 where
  pub whole : from_entries es ≡ m
  pub names : AreDistinct (map (λ e. e.0) es)
