-- Written by tools/meaning/outcomes.py from tools/meaning/meaning.rules.
-- What each family of rules comes to, computed: from a state, a run, a frame and a tree.
use Rattle.definitional_interpreter.specs.Told.{Visible, Told, ToldIn}
use Rattle.std.specs.Prelude.{ℕ, ℤ, List, Bool, Option}
use Rattle.ht_values.specs.declared.operator.Op.{Op}
use Rattle.ht_grammar.specs.declared.vocabulary.HandlerKind.{HandlerKind}
use Rattle.ht_grammar.specs.declared.vocabulary.Layer.{Layer}
use Rattle.ht_grammar.specs.Statements as stm
use Rattle.ht_grammar.specs.Trees as tree
use Rattle.chunks.specs.declared.chunk.Chunk.{Chunk}
use Rattle.externals.specs.declared.external.Ask.{Ask}
use Rattle.externals.specs.declared.external.Input.{Input}
use Rattle.object_references.specs.declared.referent.PartScope.{PartScope}
use Rattle.object_references.specs.declared.referent.Pick.{Pick}
use Rattle.object_references.specs.declared.referent.Referent.{Referent}
use Rattle.object_references.specs.declared.referent.Sought.{Sought}
use Rattle.containers.specs.Places.{PlaceView}
use Rattle.meaning.specs.declared.end.Conversed.{Conversed}
use Rattle.meaning.specs.declared.frame.Frame.{Frame}
use Rattle.meaning.specs.declared.end.How.{How}
use Rattle.meaning.specs.declared.system.SystemMessage.{SystemMessage}
use Rattle.meaning.specs.declared.item.Item.{Item}
use Rattle.meaning.specs.Actions.{Action}
use Rattle.meaning.specs.State.{RunState}
use Rattle.meaning.specs.Repeats.{CounterState}

pub record Meanings : Type 0 where
  pub val : Visible → RunState → Frame → ℕ → tree.Expr → Told (List ℕ)
  pub vals : Visible → RunState → Frame → ℕ → tree.Exprs → List (List ℕ) → Told (List (List ℕ))
  pub number_val : Visible → RunState → Frame → ℕ → tree.Expr → Told ℤ
  pub truth_val : Visible → RunState → Frame → ℕ → tree.Expr → Told Bool
  pub text_val : Visible → RunState → Frame → ℕ → List ℕ → Told (List ℕ)
  pub chunk_of : Visible → RunState → Frame → ℕ → tree.Chunk → Told Chunk
  pub resolves : Visible → RunState → Frame → ℕ → tree.Container → Told PlaceView
  pub picks : Visible → RunState → Frame → ℕ → tree.Which → Told Pick
  pub seeks : Visible → RunState → Frame → ℕ → tree.Selector → Told Sought
  pub owns : Visible → RunState → Frame → ℕ → Layer → tree.Owner → Told PartScope
  pub part_met : Visible → RunState → Frame → ℕ → tree.Part → Told Referent
  pub meets : Visible → RunState → Frame → ℕ → tree.Ref → Told Referent
  pub leads : Visible → RunState → Frame → ℕ → stm.Destination → Told ℕ
  pub form : Visible → RunState → Frame → ℕ → stm.Stmt → ToldIn How
  pub alters : Visible → RunState → Frame → ℕ → Op → tree.Expr → tree.Container → ToldIn How
  pub block : Visible → RunState → Frame → ℕ → stm.Stmts → ToldIn How
  pub do_text : Visible → RunState → Frame → ℕ → List ℕ → ToldIn How
  pub endless : Visible → RunState → Frame → ℕ → stm.Stmts → ToldIn How
  pub while : Visible → RunState → Frame → ℕ → Bool → tree.Expr → stm.Stmts → ToldIn How
  pub bounds : Visible → RunState → Frame → ℕ → tree.Expr → tree.Expr → Bool → Told CounterState
  pub counts : Visible → RunState → Frame → ℕ → Option (List ℕ) → CounterState → stm.Stmts → ToldIn How
  pub calls : Visible → RunState → Frame → ℕ → ℕ → List ℕ → tree.Exprs → HandlerKind → Told (List ℕ)
  pub sends_text : Visible → RunState → Frame → ℕ → ℕ → List ℕ → Told (List ℕ)
  pub sends : Visible → RunState → Frame → ℕ → ℕ → List ℕ → List (List ℕ) → HandlerKind → Told (List ℕ)
  pub along : Visible → RunState → Frame → ℕ → ℕ → List ℕ → List ℕ → List (List ℕ) → HandlerKind → Told (List ℕ)
  pub outside : Visible → RunState → Frame → ℕ → List ℕ → List (List ℕ) → HandlerKind → Told (List ℕ)
  pub built_in_gives : Visible → RunState → Frame → ℕ → List ℕ → List (List ℕ) → HandlerKind → Told (List ℕ)
  pub system : Visible → RunState → Frame → ℕ → ℕ → SystemMessage → Told (List ℕ)
  pub systems : Visible → RunState → Frame → ℕ → List SystemMessage → Told (List ℕ)
  pub goes : Visible → RunState → Frame → ℕ → ℕ → Told (List ℕ)
  pub menu : Visible → RunState → Frame → ℕ → Item → Told (List ℕ)
  pub converses : Visible → RunState → ℕ → ℕ → List (List ℕ) → Told Conversed
  pub talks : Visible → RunState → ℕ → ℕ → Input → Told Conversed
  pub calls_back : Visible → RunState → ℕ → Ask → Told Input
  pub line : Visible → RunState → stm.Stmts → Told (Unit {0})
  pub message : Visible → RunState → ℕ → List ℕ → List (List ℕ) → Told (Unit {0})
  pub refers : Visible → RunState → tree.Part → Told ℕ
  pub tells : Visible → RunState → ℕ → SystemMessage → Told (Unit {0})
  pub tells_all : Visible → RunState → List SystemMessage → Told (Unit {0})
  pub clicks : Visible → RunState → tree.Part → Told (Unit {0})
  pub types_over : Visible → RunState → Referent → List ℕ → Told (Unit {0})
  pub types_into : Visible → RunState → List ℕ → tree.Part → Told (Unit {0})
  pub acts : Visible → RunState → Action → Told (Unit {0})
