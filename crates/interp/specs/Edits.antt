-- Edits of containers that are named by trees.
use Rattle.std.specs.Prelude.{◌≡◌, ℕ, Result, Ok, Err}
use Rattle.ht_grammar.specs.Trees as tree
use Rattle.change_journal.specs.History.{History}
use Rattle.containers.specs.declared.edit.Edit.{Edit}
use Rattle.containers.specs.Places.{PlaceView}
use Rattle.meaning.specs.declared.end.Stop.{Stop}
use Rattle.meaning.specs.declared.frame.Frame.{Frame}
use Rattle.meaning.specs.Meaning.{Resolves}
use Rattle.meaning.specs.Places.{Edits}
use Rattle.meaning.specs.State.{RunState}

-- A container is found, and then it is edited; or its reference stops.
pub data EditsContainer : History → RunState → Frame → ℕ → tree.Container → Edit → Result (Unit {0}) Stop → History
    → RunState → Frame → Type 0 where
  nowhere : {w w1 : History} {r r1 : RunState} {f f1 : Frame} {d : ℕ} {ct : tree.Container} {e : Edit} {z : Stop} →
      Resolves w r f d ct (Err z) w1 r1 →
      f1 ≡ f →
      EditsContainer w r f d ct e (Err z) w1 r1 f1
  there : {w w1 w2 : History} {r r1 : RunState} {f f1 : Frame} {d : ℕ} {ct : tree.Container} {pl : PlaceView} {e : Edit}
      {o : Result (Unit {0}) Stop} →
      Resolves w r f d ct (Ok pl) w1 r1 →
      Edits w1 f r1.delimiter pl e o w2 f1 →
      EditsContainer w r f d ct e o w2 r1 f1
