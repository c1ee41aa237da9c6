-- New numbers for the names of globals that are needed.
use Rattle.std.specs.Prelude.{◌≡◌, ℕ, ◌<◌, List, [], ◌∷◌, length, map, Option, None, IsSome, IfSome}
use Rattle.std.specs.Prelude.{slice_index_or, unwrap_or}
use Rattle.std.specs.FinMap.{get}
use Rattle.journal_entries.specs.State.{Globals}
use Rattle.journal_entries.specs.Exchange.{BatchView, name_at}
use Rattle.journal_entries.specs.declared.entry.Entry.{Entry}
use Rattle.journal_entries.specs.declared.entry.Entry.TheVariants.{Global, Current, Stack, External}

-- beside each old number the new one, if its name is needed, and the names that are needed, by their new numbers
pub record RenumberingView : Type 0 where
  pub numbers : List (Option ℕ)
  pub names : List (List ℕ)

-- the new number of an old one, if its name is needed
abbrev pub number_in : RenumberingView → ℕ → Option ℕ
number_in r i = slice_index_or r.numbers i None

abbrev pub new_number : RenumberingView → ℕ → ℕ
new_number r i = unwrap_or (number_in r i) 0

-- these are new numbers for these names: each new number has the name that the old one has
pub record IsOf (names : List (List ℕ)) (r : RenumberingView) : Type 0 where
  pub count : length r.numbers ≡ length names
  pub each : (i : ℕ) → IfSome (number_in r i) (λ n. (n < length r.names) × (name_at r.names n ≡ name_at names i))

-- each name that has a value is needed
abbrev pub HasValued : List (List ℕ) → Globals → RenumberingView → Type 0
HasValued names texts r =
    (i : ℕ) → i < length names → IsSome (get texts (name_at names i)) → IsSome (number_in r i)

-- what was needed still is
abbrev pub IsMore : (old new : RenumberingView) → Type 0
IsMore old new = (i : ℕ) → IsSome (number_in old i) → IsSome (number_in new i)

-- the name of the entry's global is needed
unfoldable pub IsNeeded : RenumberingView → Entry → Type 0
IsNeeded r (Global i v) = IsSome (number_in r i)
IsNeeded r (Current c) = Unit {0}
IsNeeded r (Stack e) = Unit {0}
IsNeeded r (External i p) = Unit {0}

abbrev pub AreNeeded : RenumberingView → List Entry → Type 0
AreNeeded r [] = Unit {0}
AreNeeded r (e ∷ es) = IsNeeded r e × AreNeeded r es

-- the entry with the new number of its global's name
unfoldable pub renumbered : RenumberingView → Entry → Entry
renumbered r (Global i v) = Global (new_number r i) v
renumbered r (Current c) = Current c
renumbered r (Stack e) = Stack e
renumbered r (External i p) = External i p

abbrev pub all_renumbered : RenumberingView → List Entry → List Entry
all_renumbered r = map (renumbered r)

abbrev pub batch_renumbered : RenumberingView → BatchView → BatchView
batch_renumbered r b = record b { entries = all_renumbered r b.entries }
