-- How a text of `value` is met: its value, why it has none, or a tree that is left to compute.
use Rattle.std.specs.Prelude.{ℕ, ◌+◌, List, Option, Some, None, Result, Ok, Err}
use Rattle.ht_grammar.specs.Trees.{Expr}
use Rattle.change_journal.specs.History.{History}
use Rattle.meaning.specs.declared.end.Stop.{Stop}
use Rattle.meaning.specs.declared.frame.Frame.{Frame}
use Rattle.meaning.specs.Meaning.{TextVal, Val}
use Rattle.meaning.specs.State.{RunState}

-- The value stands in the place, or the run stops, or a tree is left to compute: what it gives, the text gives.
pub data MeetsText (w : History) (r : RunState) (f : Frame) (d : ℕ) (t : List ℕ) : Result (Option Expr) Stop → List ℕ
    → History → RunState → Type 0 where
  has_value : {v : List ℕ} {w1 : History} {r1 : RunState} → TextVal w r f d t (Ok v) w1 r1
      → MeetsText w r f d t (Ok None) v w1 r1
  stops : {v : List ℕ} {w1 : History} {r1 : RunState} {z : Stop} → TextVal w r f d t (Err z) w1 r1
      → MeetsText w r f d t (Err z) v w1 r1
  has_tree : {v : List ℕ} {w1 : History} {r1 : RunState} {e : Expr}
      → ((o : Result (List ℕ) Stop) (w2 : History) (r2 : RunState) → Val w1 r1 f (d + 1) e o w2 r2
      → TextVal w r f d t o w2 r2)
      → MeetsText w r f d t (Ok (Some e)) v w1 r1

-- the tree that is left, as the plain tree
abbrev pub tree_met : {C T : Type 0} → (C → T) → Result (Option C) Stop → Result (Option T) Stop
tree_met view (Ok None) = Ok None
tree_met view (Ok (Some x)) = Ok (Some (view x))
tree_met view (Err z) = Err z
