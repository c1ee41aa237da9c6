-- Which parts of a run have an outcome while fewer than so many steps are left.
use Rattle.std.specs.Prelude.{ℕ, ◌<◌, ◌≤◌, List, length, Bool, Option}
use Rattle.ht_grammar.specs.declared.vocabulary.HandlerKind.{HandlerKind}
use Rattle.ht_grammar.specs.Laws.{TextsAreReadExactly}
use Rattle.ht_grammar.specs.Statements as stm
use Rattle.ht_grammar.specs.Trees as tree
use Rattle.externals.specs.declared.external.Ask.{Ask}
use Rattle.externals.specs.declared.external.Input.{Input}
use Rattle.change_journal.specs.History.{History}
use Rattle.meaning.specs.declared.frame.Frame.{Frame}
use Rattle.meaning.specs.Meaning.{Val, Form, Block, Endless, While, Counts, Along, Talks, CallsBack}
use Rattle.meaning.specs.Repeats.{CounterState}
use Rattle.meaning.specs.State.{RunState}
use Rattle.preservation.proofs.CallBacks.{IsCall}
use Rattle.totality.proofs.Chain.{Begun, Underway, Has, HasRun}

-- how texts are read, and the parts that begin behind a step
pub record Level (begun : Begun) (n : ℕ) : Type 0 where
  pub texts : TextsAreReadExactly
  pub val : (w : History) (r : RunState) (f : Frame) (d : ℕ) (e : tree.Expr) → d ≤ 100 → Underway begun n w r →
      Has begun n (Val w r f d e)
  pub form : (w : History) (r : RunState) (f : Frame) (d : ℕ) (s : stm.Stmt) → d ≤ 100 → Underway begun n w r →
      HasRun begun n (Form w r f d s)
  pub block : (w : History) (r : RunState) (f : Frame) (d : ℕ) (ss : stm.Stmts) → d ≤ 100 → Underway begun n w r →
      HasRun begun n (Block w r f d ss)
  pub endless : (w : History) (r : RunState) (f : Frame) (d : ℕ) (ss : stm.Stmts) → d ≤ 100 → Underway begun n w r →
      HasRun begun n (Endless w r f d ss)
  pub while : (w : History) (r : RunState) (f : Frame) (d : ℕ) (wanted : Bool) (x : tree.Expr) (ss : stm.Stmts) →
      d ≤ 100 → Underway begun n w r → HasRun begun n (While w r f d wanted x ss)
  pub counts : (w : History) (r : RunState) (f : Frame) (d : ℕ) (name : Option (List ℕ)) (c : CounterState)
      (ss : stm.Stmts) → d ≤ 100 → Underway begun n w r → HasRun begun n (Counts w r f d name c ss)
  pub along : (w : History) (r : RunState) (f : Frame) (d i : ℕ) (is name : List ℕ) (vs : List (List ℕ))
      (kind : HandlerKind) → d ≤ 100 → Underway begun n w r → Has begun n (Along w r f d i is name vs kind)
  pub talks : (w : History) (r : RunState) (d e : ℕ) (input : Input) → e < length w.now.externals → d ≤ 100 →
      Underway begun n w r → Has begun n (Talks w r d e input)
  pub calls_back : (w : History) (r : RunState) (d : ℕ) (ask : Ask) → IsCall ask → d ≤ 100 → Underway begun n w r →
      Has begun n (CallsBack w r d ask)
