-- Cells of an external, patches of them, and their flips.
use Rattle.std.specs.Coded.{Coded, code_by, coded×, coded_ℕ, coded_bool, coded_list}
use Rattle.std.specs.Prelude.{refl, false, Bool, ◌≡◌, ◌≢◌, ℕ, ◌<◌, List, [], ◌∷◌, length}
use Rattle.std.specs.Prelude.{All, slice_set, slice_index_or, slice_get, Some}
use Rattle.ht_values.specs.Text.{IsText}

-- numbers of cells with texts
abbrev pub Changes : Type 0
Changes = List (ℕ × List ℕ)

-- no member names this cell
abbrev pub Avoids : ℕ → Changes → Type 0
Avoids i [] = Unit {0}
Avoids i (e ∷ p) = (i ≢ e.0) × Avoids i p

-- each cell is named once, and is one of the first n
abbrev pub IsProper : ℕ → Changes → Type 0
IsProper n [] = Unit {0}
IsProper n (e ∷ p) = (e.0 < n) × Avoids e.0 p × IsProper n p

-- the cells after the exchange of each named cell with its text
abbrev pub flipped : List (List ℕ) → Changes → List (List ℕ)
flipped cells [] = cells
flipped cells (e ∷ p) = flipped (slice_set cells e.0 e.1) p

-- the texts that come out, under the same cells
abbrev pub taken_out : List (List ℕ) → Changes → Changes
taken_out cells [] = []
taken_out cells (e ∷ p) = (e.0, slice_index_or cells e.0 e.1) ∷ taken_out (slice_set cells e.0 e.1) p

-- each named cell has this text
abbrev pub HasTexts : List (List ℕ) → Changes → Type 0
HasTexts cells [] = Unit {0}
HasTexts cells (e ∷ p) = (slice_get cells e.0 ≡ Some e.1) × HasTexts cells p

-- no named cell has this text
abbrev pub DiffersFrom : List (List ℕ) → Changes → Type 0
DiffersFrom cells [] = Unit {0}
DiffersFrom cells (e ∷ p) = (slice_get cells e.0 ≢ Some e.1) × DiffersFrom cells p

-- the patch names just the cells that changed, each once, with the old text
pub record IsPatch (old new : List (List ℕ)) (patch : Changes) : Type 0 where
  pub count : length new ≡ length old
  pub proper : IsProper (length old) patch
  pub old_texts : HasTexts old patch
  pub rest : (i : ℕ) → Avoids i patch → slice_get new i ≡ slice_get old i
  pub changed : DiffersFrom new patch

-- what is seen of an external: its name, kind, flag and cells
pub record Seen : Type 0 where
  pub title : List ℕ
  pub sort : ℕ
  pub answers_calls : Bool
  pub cells : List (List ℕ)

abbrev pub coded_seen : Coded Seen
coded_seen = code_by (List ℕ × (ℕ × (Bool × List (List ℕ))))
    (coded× (coded_list coded_ℕ) (coded× coded_ℕ (coded× coded_bool (coded_list (coded_list coded_ℕ)))))
    (λ e. (e.title, (e.sort, (e.answers_calls, e.cells))))
    (λ p. record { title = p.0; sort = p.1.0; answers_calls = p.1.1.0; cells = p.1.1.1 }) (λ _. refl)

-- what stands past the end of a list of externals
abbrev pub none_seen : Seen
none_seen = record { title = []; sort = 0; answers_calls = false; cells = [] }

-- what holds of an external: its name and its cells are texts
pub record IsExternal (e : Seen) : Type 0 where
  pub title : IsText e.title
  pub cells : All IsText e.cells
