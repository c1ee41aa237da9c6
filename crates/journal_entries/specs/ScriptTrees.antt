-- Trees of scripts that were parsed, by the ids of their objects.
use Rattle.std.specs.Prelude.{◌≡◌, ℕ, ◌+◌, ◌<◌, ◌≤◌, List, [], length, Option, Some, None, IfSome, option_map}
use Rattle.std.specs.Prelude.{option_and_then, sum_by, unwrap_or}
use Rattle.std.specs.BTreeMap.{get, values, btree_map_len}
use Rattle.std.specs.Ordering.{nat_cmp}
use Rattle.ht_grammar.specs.Statements.{Handlers}
use Rattle.ht_grammar.specs.Reads.{Reads, ReadsScript}
use Rattle.ht_tree.specs.ScriptView.{script_of}
use Rattle.object_table.specs.Content.{Content}
use Rattle.object_table.specs.Objects.{object_at}
use Rattle.object_table.specs.declared.property.PropValue.TheVariants.{ScriptIs}
use Rattle.stack_places.specs.declared.entry.StackEntry.{StackEntry}
use Rattle.stack_places.specs.declared.entry.StackEntry.TheVariants.{Prop, Object}
use Rattle.journal_entries.specs.declared.script_trees.KeptTree.{KeptTree}
use Rattle.journal_entries.specs.declared.script_trees.ScriptTrees.{ScriptTrees}
use Rattle.journal_entries.specs.declared.script_trees.TheConstants.{MOST_KEPT_BYTES}

-- the script of an object; what isn't there has an empty one
abbrev pub object_script : Content → ℕ → List ℕ
object_script s id = unwrap_or (option_map (λ o. o.script) (object_at s id)) []

-- a tree that is kept, and how many bytes are counted for it
pub record Kept : Type 0 where
  pub handlers : Handlers
  pub bytes : ℕ

abbrev pub kept_of : KeptTree → Kept
kept_of k = record { handlers = script_of k.tree.value; bytes = k.bytes }

-- the tree of a reading
abbrev pub tree_read : ScriptTrees → ℕ → Option Kept
tree_read t n = option_map kept_of (get nat_cmp t.trees n)

-- the last reading of an object's script
abbrev pub last_reading : ScriptTrees → ℕ → Option ℕ
last_reading t id = option_map (λ r. r.last) (get nat_cmp t.readings id)

-- what is kept for each object, by its last reading
abbrev pub trees_by : (ℕ → Option ℕ) → (ℕ → Option Kept) → ℕ → Option Kept
trees_by readings trees id = option_and_then trees (readings id)

abbrev pub trees_in : ScriptTrees → ℕ → Option Kept
trees_in t = trees_by (last_reading t) (tree_read t)

-- the tree is that of a script, whose bytes are counted
pub record IsTreeOf (script : List ℕ) (kept : Kept) : Type 0 where
  pub reads : Reads ReadsScript script kept.handlers
  pub bytes : kept.bytes ≡ length script

-- each tree that is kept is that of its object's script
unfoldable pub AreTrees : Content → (ℕ → Option Kept) → Type 0
AreTrees s trees = (id : ℕ) → IfSome (trees id) (λ k. IsTreeOf (object_script s id) k)

-- The bytes of what is kept are counted, and not too many. No reading has a number that is still to come.
pub record IsCounted (t : ScriptTrees) : Type 0 where
  pub counted : t.bytes ≡ sum_by (λ k. k.bytes) (values t.trees)
  pub few : t.bytes ≤ MOST_KEPT_BYTES
  pub read : (n : ℕ) (k : Kept) → tree_read t n ≡ Some k → n < t.next_reading
  pub noted : (id n : ℕ) → last_reading t id ≡ Some n → n < t.next_reading

-- some trees went, and nothing else changed
pub record KeepsFewer (old new : ScriptTrees) : Type 0 where
  pub readings : new.readings ≡ old.readings
  pub next : new.next_reading ≡ old.next_reading
  pub trees : (n : ℕ) (k : Kept) → tree_read new n ≡ Some k → tree_read old n ≡ Some k

-- how many trees are kept
abbrev pub how_many : ScriptTrees → ℕ
how_many t = btree_map_len t.trees

-- there is room for the tree of a script of so many bytes
abbrev pub HasRoomFor : ℕ → ScriptTrees → Type 0
HasRoomFor bytes t = t.bytes + bytes ≤ MOST_KEPT_BYTES

-- the object whose script an exchange may change
abbrev pub changes_script_of : StackEntry → Option ℕ
changes_script_of (Prop id (ScriptIs t)) = Some id
changes_script_of (Object id o) = Some id
changes_script_of _ = None
