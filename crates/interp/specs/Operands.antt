-- Operands that are met before their text is read.
use Rattle.std.specs.Prelude.{ℕ, ℤ, List, Result, Ok, Err}
use Rattle.chunks.specs.declared.chunk.Chunk.{Chunk}
use Rattle.ht_grammar.specs.Trees as tree
use Rattle.change_journal.specs.History.{History}
use Rattle.meaning.specs.declared.end.Stop.{Stop}
use Rattle.meaning.specs.declared.frame.Frame.{Frame}
use Rattle.meaning.specs.Meaning.{ChunkOf, NumberVal, Val}
use Rattle.meaning.specs.State.{RunState}
use Rattle.meaning.specs.Values.{Yields}
use Rattle.primitives.specs.declared.operands.Operand.{Operand}
use Rattle.primitives.specs.Operands.{operand_text}

-- an operand of an expression is met: whatever its text yields in the state that it leaves, the expression gives
abbrev pub MeetsOperand : History → RunState → Frame → ℕ → tree.Expr → Result Operand Stop → History → RunState → Type 0
MeetsOperand w r f d e (Ok x) w1 r1 =
    (o : Result (List ℕ) Stop) → Yields (operand_text w1.now f.variables r1.delimiter x) o → Val w r f d e o w1 r1
MeetsOperand w r f d e (Err z) w1 r1 = Val w r f d e (Err z) w1 r1

-- the rest of a chunk, once its pieces are computed: the text is computed, and what they read of it is taken
pub data TakesPart : History → RunState → Frame → ℕ → Chunk → tree.Expr → Result (List ℕ) Stop → History → RunState
    → Type 0 where
  takes_part : {w1 w2 : History} {r1 r2 : RunState} {f : Frame} {d : ℕ} {c : Chunk} {x : tree.Expr}
      {o : Result (List ℕ) Stop} →
      ((w : History) (r : RunState) (hd : tree.Chunk) → ChunkOf w r f d hd (Ok c) w1 r1
      → Val w r f d (tree.chunk hd x) o w2 r2) →
      TakesPart w1 r1 f d c x o w2 r2

-- the same where what they read is converted to a number
pub data TakesNumber : History → RunState → Frame → ℕ → Chunk → tree.Expr → Result ℤ Stop → History → RunState
    → Type 0 where
  takes_number : {w1 w2 : History} {r1 r2 : RunState} {f : Frame} {d : ℕ} {c : Chunk} {x : tree.Expr}
      {ou : Result ℤ Stop} →
      ((w : History) (r : RunState) (hd : tree.Chunk) → ChunkOf w r f d hd (Ok c) w1 r1
      → NumberVal w r f d (tree.chunk hd x) ou w2 r2) →
      TakesNumber w1 r1 f d c x ou w2 r2
