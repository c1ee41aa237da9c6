-- Which of several is meant, by the value of the expression that says it.
use Rattle.std.proofs.Common.{◌≡◌, ℕ, List, Ok, Err, refl}
use Rattle.ht_grammar.specs.Trees as tree
use Rattle.change_journal.specs.History.{History}
use Rattle.object_references.specs.declared.referent.Pick.{Pick}
use Rattle.object_references.specs.declared.referent.Pick.TheVariants as pick
use Rattle.meaning.specs.declared.end.Stop.{Stop}
use Rattle.meaning.specs.declared.frame.Frame.{Frame}
use Rattle.meaning.specs.Meaning.{Picks, Val}
use Rattle.meaning.specs.State.{RunState}
use Rattle.interp.specs.Picks.{expr_in}

module _ {w w1 : History} {r r1 : RunState} {f : Frame} {d : ℕ} where
  pub pick_stops : {wh : tree.Which} {z : Stop} → Val w r f d (expr_in wh) (Err z) w1 r1
      → Picks w r f d wh (Err z) w1 r1
  pick_stops {wh = tree.by_id x} h = Picks.pick_id_stops refl h
  pick_stops {wh = tree.by_text x} h = Picks.pick_text_stops refl h

  pub pick_id : {wh : tree.Which} {x : tree.Expr} {v : List ℕ} {pi : Pick} → wh ≡ tree.by_id x
      → Val w r f d (expr_in wh) (Ok v) w1 r1 → pi ≡ pick.ById v → Picks w r f d wh (Ok pi) w1 r1
  pick_id is h picks = Picks.pick_id is (rw is at h) picks

  pub pick_text : {wh : tree.Which} {x : tree.Expr} {v : List ℕ} {pi : Pick} → wh ≡ tree.by_text x
      → Val w r f d (expr_in wh) (Ok v) w1 r1 → pi ≡ pick.ByText v → Picks w r f d wh (Ok pi) w1 r1
  pick_text is h picks = Picks.pick_text is (rw is at h) picks

pub ruleset pick_rules = (Picks.pick_memory, pick_stops, pick_id, pick_text)
