-- A state: the stack, the globals, the current card, and the externals with their cells.
use Rattle.std.specs.Prelude.{◌≡◌, ℕ, suc, Option, Some, None, IfSome, option_map, if◌then◌else◌, Bool, true, false}
use Rattle.std.specs.Prelude.{not, ◌&&◌, ◌||◌, List, [], ◌∷◌, map, All, refl, slice_index_or}
use Rattle.std.specs.Ordering.{nat_cmp}
use Rattle.std.specs.Cmp.Lexicographic.{slice_cmp}
use Rattle.std.specs.FinMap.{FinMap, get, empty, code as map_code}
use Rattle.std.specs.Coded.{Coded, code_by, coded×, coded_ℕ, coded_list}
use Rattle.ht_values.specs.Text.{IsText, is_folded, same}
use Rattle.externals.specs.Cells.{Seen, coded_seen, none_seen, IsExternal}
use Rattle.object_table.specs.Content.{Content, coded_content}
use Rattle.object_table.specs.WellFormed.{IsWellFormed}
use Rattle.object_table.specs.Objects.{has_kind, is_card}

-- texts by folded name
abbrev pub Globals : Type 0
Globals = FinMap (slice_cmp nat_cmp) (List ℕ)

abbrev pub coded_globals : Coded Globals
coded_globals = map_code (coded_list coded_ℕ) (coded_list coded_ℕ)

pub record State : Type 0 where
  pub stack : Content
  pub globals : Globals
  pub current : ℕ
  pub externals : List Seen

abbrev pub coded_state : Coded State
coded_state = code_by (Content × (Globals × (ℕ × List Seen)))
    (coded× coded_content (coded× coded_globals (coded× coded_ℕ (coded_list coded_seen))))
    (λ s. (s.stack, (s.globals, (s.current, s.externals))))
    (λ p. record { stack = p.0; globals = p.1.0; current = p.1.1.0; externals = p.1.1.1 }) (λ _. refl)

-- what is seen of an external, by its members
abbrev pub seen_by : {X : Type 0} (title : X → List ℕ) (sort : X → ℕ) (answers_calls : X → Bool)
    (cells : X → List (List ℕ)) → X → Seen
seen_by title sort answers_calls cells x =
    record { title = title x; sort = sort x; answers_calls = answers_calls x; cells = cells x }

-- what is seen of the i-th external
abbrev pub seen_at : State → ℕ → Seen
seen_at s i = slice_index_or s.externals i none_seen

abbrev pub titles_of : List Seen → List (List ℕ)
titles_of = map (λ e. e.title)

-- whether the name is the same as one of these
abbrev pub has_name : List ℕ → List (List ℕ) → Bool
has_name n [] = false
has_name n (m ∷ ms) = same m n || has_name n ms

-- the number of the first name that is the same
abbrev pub index_of : List ℕ → List (List ℕ) → Option ℕ
index_of n [] = None
index_of n (m ∷ ms) = if same m n then Some 0 else option_map suc (index_of n ms)

-- whether no two names are the same
abbrev pub are_apart : List (List ℕ) → Bool
are_apart [] = true
are_apart (n ∷ ns) = not (has_name n ns) && are_apart ns

-- the first state of a stack: no global, the first card
abbrev pub first_state : Content → List Seen → State
first_state stack externals =
    record { stack = stack; globals = empty; current = slice_index_or stack.cards 0 0; externals = externals }

-- what holds of a global: its name is a folded text, and its value is a text
pub record IsGlobal (n v : List ℕ) : Type 0 where
  pub folded : is_folded n ≡ true
  pub name : IsText n
  pub value : IsText v

-- this holds of each name with its value
abbrev pub AreGlobals : Globals → Type 0
AreGlobals m = (name : List ℕ) → IfSome (get m name) (λ value. IsGlobal name value)

-- what holds of each state: the stack is well formed, the globals have folded names and are texts, the current
-- card is a card of the stack, and the externals are as their kinds fix it, no two with names that are the same
pub record IsState (s : State) : Type 0 where
  pub stack : IsWellFormed s.stack
  pub globals : AreGlobals s.globals
  pub current : has_kind is_card s.stack s.current ≡ true
  pub externals : All IsExternal s.externals
  pub apart : are_apart (titles_of s.externals) ≡ true
