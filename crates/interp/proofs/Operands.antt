-- What an expression makes of an operand's text, once the operand is met.
use Rattle.std.proofs.Common.{◌≡◌, ℕ, ℤ, pos, List, [], ◌∷◌, Some, Result, Ok, Err, refl, sym, ap, subst, IfOk}
use Rattle.std.proofs.lemmas.Result.{IfOk-at_ok}
use Rattle.ht_values.specs.declared.fault.Fault.{Fault}
use Rattle.ht_values.specs.declared.operator.Func.{Func}
use Rattle.ht_values.specs.declared.word.ChunkKind.{ChunkKind}
use Rattle.ht_values.specs.Functions.{built_in}
use Rattle.ht_values.specs.Number.{number_of}
use Rattle.ht_values.specs.Outcome.{and_then}
use Rattle.ht_values.specs.Text.{numeral}
use Rattle.ht_lex.specs.declared.key.Ordinal.{Ordinal}
use Rattle.chunks.specs.declared.chunk.Chunk.{Chunk}
use Rattle.chunks.specs.Pieces.{count, read}
use Rattle.ht_grammar.specs.declared.vocabulary.FunctionWord.{FunctionWord}
use Rattle.ht_grammar.specs.Functions.{func_of}
use Rattle.ht_grammar.specs.Trees as tree
use Rattle.change_journal.specs.History.{History}
use Rattle.containers.specs.Places.{read_name}
use Rattle.meaning.specs.declared.end.Stop.{Stop}
use Rattle.meaning.specs.declared.end.Stop.TheVariants as stop
use Rattle.meaning.specs.declared.frame.Frame.{Frame}
use Rattle.meaning.specs.Meaning.{Val, ChunkOf, NumberVal}
use Rattle.meaning.specs.Places.{pieces_at, nth_piece}
use Rattle.meaning.specs.State.{RunState}
use Rattle.meaning.specs.Values.{Yields}
use Rattle.primitives.specs.declared.operands.Operand.{Operand}
use Rattle.primitives.specs.Operands.{operand_text}
use Rattle.interp.specs.Operands.{MeetsOperand, TakesNumber, TakesPart}

-- A computation with a second part: it goes on with the value of the first, or the fault of the first is its own.
data Steps {A B : Type 0} (c : Result A Fault) (g : A → Result B Fault) : Result B Stop → Type 0 where
  forgotten : Steps c g (Err stop.Memory)
  failed : {n : Fault} → c ≡ Err n → Steps c g (Err (stop.Fault n))
  went_on : {a : A} {o : Result B Stop} → c ≡ Ok a → Yields (g a) o → Steps c g o

abbrev same_fault : {A B : Type 0} → Fault → Result B Fault → Result A Fault
same_fault n (Ok b) = Err n
same_fault n (Err m) = Err m

failing : {A B : Type 0} {g : A → Result B Fault} (n : Fault) {o : Result B Stop} → Yields {A = B} (Err n) o
    → Steps (Err n) g o
failing n Yields.yields_memory = forgotten
failing n (Yields.yields is) = cc
failing n (Yields.faults is) = failed (ap (same_fault n) is)

steps : {A B : Type 0} (c : Result A Fault) (g : A → Result B Fault) {o : Result B Stop} → Yields (and_then c g) o
    → Steps c g o
steps (Ok a) g h = went_on refl h
steps (Err n) g h = failing n h

same_value : {A : Type 0} {a b : A} (r : Result A Fault) → r ≡ Ok a → r ≡ Ok b → b ≡ a
same_value {a = a} r is was = IfOk-at_ok (λ x. x ≡ a) was (subst (λ q. IfOk q (λ x. x ≡ a)) (sym is) refl)

-- a value that was computed, and a name, as operands
pub computed_met : {w w1 : History} {r r1 : RunState} {f : Frame} {d : ℕ} {e : tree.Expr} {v : List ℕ}
    → Val w r f d e (Ok v) w1 r1 →
    (o : Result (List ℕ) Stop) → Yields (Ok v) o → Val w r f d e o w1 r1
computed_met h o Yields.yields_memory = Val.memory
computed_met h o (Yields.yields value) = rw (same_value _ refl value) h
computed_met h o (Yields.faults fault) = cc

pub name_met : {w : History} {r : RunState} {f : Frame} {d : ℕ} {e : tree.Expr} {n : List ℕ} → e ≡ tree.name n →
    (o : Result (List ℕ) Stop) → Yields (Ok (read_name w.now f.variables n)) o → Val w r f d e o w r
name_met is = computed_met (Val.name is refl)

module _ {w w1 : History} {r r1 : RunState} {f : Frame} {d : ℕ} {x : tree.Expr} (operand : Operand)
    (met : MeetsOperand w r f d x (Ok operand) w1 r1) where
  pub counted : {e : tree.Expr} {kind : ChunkKind} {o : Result (List ℕ) Stop}
      → e ≡ tree.number_of (tree.pieces_of kind x)
      → Yields (and_then (operand_text w1.now f.variables r1.delimiter operand)
      (λ t. Ok (numeral (pos (count r1.delimiter kind t))))) o → Val w r f d e o w1 r1
  counted form h = of_steps form (steps _ _ h)
    where
      of_steps : {e : tree.Expr} {kind : ChunkKind} {o : Result (List ℕ) Stop}
          → e ≡ tree.number_of (tree.pieces_of kind x)
          → Steps (operand_text w1.now f.variables r1.delimiter operand)
          (λ t. Ok (numeral (pos (count r1.delimiter kind t)))) o → Val w r f d e o w1 r1
      of_steps form forgotten = Val.memory
      of_steps form (failed is) = Val.pieces_stop form (met _ (Yields.faults is))
      of_steps form (went_on is Yields.yields_memory) = Val.memory
      of_steps form (went_on is (Yields.yields value)) =
          Val.pieces form (met _ (Yields.yields is)) (same_value _ refl value)
      of_steps form (went_on is (Yields.faults fault)) = cc

  pub computed : {word : FunctionWord} {function : Func} {o : Result (List ℕ) Stop} → func_of word ≡ Some function
      → Yields (and_then (operand_text w1.now f.variables r1.delimiter operand) (λ t. built_in function (t ∷ []))) o
      → Val w r f d (tree.function word x) o w1 r1
  computed named h = of_steps named (steps _ _ h)
    where
      of_steps : {word : FunctionWord} {function : Func} {o : Result (List ℕ) Stop} → func_of word ≡ Some function
          → Steps (operand_text w1.now f.variables r1.delimiter operand) (λ t. built_in function (t ∷ [])) o
          → Val w r f d (tree.function word x) o w1 r1
      of_steps named forgotten = Val.memory
      of_steps named (failed is) = Val.the_stops refl (met _ (Yields.faults is))
      of_steps named (went_on is h) = Val.the_function refl (met _ (Yields.yields is)) named h

  pub taken : {w0 : History} {r0 : RunState} {chunk : tree.Chunk} {pieces : Chunk} {o : Result (List ℕ) Stop}
      → ChunkOf w0 r0 f d chunk (Ok pieces) w r
      → Yields (and_then (operand_text w1.now f.variables r1.delimiter operand) (λ t. Ok (read r1.delimiter pieces t)))
      o → Val w0 r0 f d (tree.chunk chunk x) o w1 r1
  taken found h = of_steps found (steps _ _ h)
    where
      of_steps : {w0 : History} {r0 : RunState} {chunk : tree.Chunk} {pieces : Chunk} {o : Result (List ℕ) Stop}
          → ChunkOf w0 r0 f d chunk (Ok pieces) w r
          → Steps (operand_text w1.now f.variables r1.delimiter operand) (λ t. Ok (read r1.delimiter pieces t)) o
          → Val w0 r0 f d (tree.chunk chunk x) o w1 r1
      of_steps found forgotten = Val.memory
      of_steps found (failed is) = Val.chunk_of_stops refl found (met _ (Yields.faults is))
      of_steps found (went_on is Yields.yields_memory) = Val.memory
      of_steps found (went_on is (Yields.yields value)) =
          Val.chunk refl found (met _ (Yields.yields is)) (same_value _ refl value)
      of_steps found (went_on is (Yields.faults fault)) = cc

  pub nth_taken : {od : Ordinal} {kd : ChunkKind} {pieces : Chunk} {o : Result (List ℕ) Stop} → pieces ≡ nth_piece od kd
      → Yields (and_then (operand_text w1.now f.variables r1.delimiter operand) (λ t. Ok (read r1.delimiter pieces t)))
      o → Val w r f d (tree.chunk (tree.nth_piece od kd) x) o w1 r1
  nth_taken is h = taken (ChunkOf.ordinal refl is) h

  pub taken_part : {kd : ChunkKind} {from to : ℤ} {pieces : Chunk} {o : Result (List ℕ) Stop}
      → pieces ≡ pieces_at kd from to
      → Yields (and_then (operand_text w1.now f.variables r1.delimiter operand) (λ t. Ok (read r1.delimiter pieces t)))
      o → TakesPart w r f d (pieces_at kd from to) x o w1 r1
  taken_part is h = TakesPart.takes_part (λ w0 r0 hd found. taken (rw (← is) at found) h)

-- how the rest of a chunk ends
module _ {w w1 : History} {r r1 : RunState} {f : Frame} {d : ℕ} {x : tree.Expr} {c : Chunk} where
  pub part_memory : TakesPart w r f d c x (Err stop.Memory) w1 r1
  part_memory = TakesPart.takes_part (λ w0 r0 hd found. Val.memory)

  pub part_stops : {z : Stop} → Val w r f d x (Err z) w1 r1 → TakesPart w r f d c x (Err z) w1 r1
  part_stops h = TakesPart.takes_part (λ w0 r0 hd found. Val.chunk_of_stops refl found h)

  pub part_read : {v : List ℕ} {o : Result (List ℕ) Stop} → Val w r f d x (Ok v) w1 r1
      → Yields (Ok (read r1.delimiter c v)) o → TakesPart w r f d c x o w1 r1
  part_read h Yields.yields_memory = part_memory
  part_read h (Yields.yields value) =
      TakesPart.takes_part (λ w0 r0 hd found. Val.chunk refl found h (same_value _ refl value))
  part_read h (Yields.faults fault) = cc

  pub of_part : {w0 : History} {r0 : RunState} {hd : tree.Chunk} {o : Result (List ℕ) Stop}
      → ChunkOf w0 r0 f d hd (Ok c) w r → TakesPart w r f d c x o w1 r1 → Val w0 r0 f d (tree.chunk hd x) o w1 r1
  of_part found (TakesPart.takes_part rest) = rest _ _ _ found

-- a chunk by its numbers, and what it reads of a text
module _ {w w1 : History} {r r1 : RunState} {f : Frame} {d : ℕ} {kd : ChunkKind} {x y : tree.Expr} where
  pub piece_stops : {z : Stop} → NumberVal w r f d x (Err z) w1 r1
      → Val w r f d (tree.chunk (tree.piece kd x) y) (Err z) w1 r1
  piece_stops h = Val.chunk_stops refl (ChunkOf.one_stops refl h)

  pub piece_taken : {w2 : History} {r2 : RunState} {u : ℤ} {o : Result (List ℕ) Stop} → NumberVal w r f d x (Ok u) w1 r1
      → TakesPart w1 r1 f d (pieces_at kd u u) y o w2 r2 → Val w r f d (tree.chunk (tree.piece kd x) y) o w2 r2
  piece_taken h part = of_part (ChunkOf.one refl h refl) part

module _ {w w1 : History} {r r1 : RunState} {f : Frame} {d : ℕ} {kd : ChunkKind} {x x1 y : tree.Expr} where
  pub from_stops : {z : Stop} → NumberVal w r f d x (Err z) w1 r1
      → Val w r f d (tree.chunk (tree.pieces kd x x1) y) (Err z) w1 r1
  from_stops h = Val.chunk_stops refl (ChunkOf.from_stops refl h)

  pub to_stops : {w2 : History} {r2 : RunState} {u : ℤ} {z : Stop} → NumberVal w r f d x (Ok u) w1 r1
      → NumberVal w1 r1 f d x1 (Err z) w2 r2 → Val w r f d (tree.chunk (tree.pieces kd x x1) y) (Err z) w2 r2
  to_stops h h1 = Val.chunk_stops refl (ChunkOf.to_stops refl h h1)

  pub pieces_taken : {w2 w3 : History} {r2 r3 : RunState} {u u1 : ℤ} {o : Result (List ℕ) Stop}
      → NumberVal w r f d x (Ok u) w1 r1 → NumberVal w1 r1 f d x1 (Ok u1) w2 r2
      → TakesPart w2 r2 f d (pieces_at kd u u1) y o w3 r3 → Val w r f d (tree.chunk (tree.pieces kd x x1) y) o w3 r3
  pieces_taken h h1 part = of_part (ChunkOf.range refl h h1 refl) part

-- how the rest of a chunk ends that is converted to a number
module _ {w w1 : History} {r r1 : RunState} {f : Frame} {d : ℕ} {x : tree.Expr} {c : Chunk} where
  pub number_memory : TakesNumber w r f d c x (Err stop.Memory) w1 r1
  number_memory = TakesNumber.takes_number (λ w0 r0 hd found. NumberVal.number_memory)

  pub number_stops : {z : Stop} → TakesPart w r f d c x (Err z) w1 r1 → TakesNumber w r f d c x (Err z) w1 r1
  number_stops (TakesPart.takes_part rest) =
      TakesNumber.takes_number (λ w0 r0 hd found. NumberVal.no_number (rest w0 r0 hd found))

  pub number_read : {v : List ℕ} {ou : Result ℤ Stop} → TakesPart w r f d c x (Ok v) w1 r1 → Yields (number_of v) ou
      → TakesNumber w r f d c x ou w1 r1
  number_read (TakesPart.takes_part rest) is =
      TakesNumber.takes_number (λ w0 r0 hd found. NumberVal.a_number (rest w0 r0 hd found) is)

  pub of_number : {w0 : History} {r0 : RunState} {hd : tree.Chunk} {ou : Result ℤ Stop}
      → ChunkOf w0 r0 f d hd (Ok c) w r → TakesNumber w r f d c x ou w1 r1
      → NumberVal w0 r0 f d (tree.chunk hd x) ou w1 r1
  of_number found (TakesNumber.takes_number rest) = rest _ _ _ found

-- a chunk by its numbers that is converted to a number
module _ {w w1 : History} {r r1 : RunState} {f : Frame} {d : ℕ} {kd : ChunkKind} {x y : tree.Expr} where
  pub piece_no_number : {z : Stop} → NumberVal w r f d x (Err z) w1 r1
      → NumberVal w r f d (tree.chunk (tree.piece kd x) y) (Err z) w1 r1
  piece_no_number h = NumberVal.no_number (piece_stops h)

  pub piece_number : {w2 : History} {r2 : RunState} {u : ℤ} {ou : Result ℤ Stop} → NumberVal w r f d x (Ok u) w1 r1
      → TakesNumber w1 r1 f d (pieces_at kd u u) y ou w2 r2
      → NumberVal w r f d (tree.chunk (tree.piece kd x) y) ou w2 r2
  piece_number h part = of_number (ChunkOf.one refl h refl) part

module _ {w w1 : History} {r r1 : RunState} {f : Frame} {d : ℕ} {kd : ChunkKind} {x x1 y : tree.Expr} where
  pub from_no_number : {z : Stop} → NumberVal w r f d x (Err z) w1 r1
      → NumberVal w r f d (tree.chunk (tree.pieces kd x x1) y) (Err z) w1 r1
  from_no_number h = NumberVal.no_number (from_stops h)

  pub to_no_number : {w2 : History} {r2 : RunState} {u : ℤ} {z : Stop} → NumberVal w r f d x (Ok u) w1 r1
      → NumberVal w1 r1 f d x1 (Err z) w2 r2 → NumberVal w r f d (tree.chunk (tree.pieces kd x x1) y) (Err z) w2 r2
  to_no_number h h1 = NumberVal.no_number (to_stops h h1)

  pub pieces_number : {w2 w3 : History} {r2 r3 : RunState} {u u1 : ℤ} {ou : Result ℤ Stop}
      → NumberVal w r f d x (Ok u) w1 r1 → NumberVal w1 r1 f d x1 (Ok u1) w2 r2
      → TakesNumber w2 r2 f d (pieces_at kd u u1) y ou w3 r3
      → NumberVal w r f d (tree.chunk (tree.pieces kd x x1) y) ou w3 r3
  pieces_number h h1 part = of_number (ChunkOf.range refl h h1 refl) part

pub ruleset text_rules = (Val.memory, computed_met)

pub ruleset met_rules = (Val.memory, name_met, computed_met, Val.field_stops, Val.field)

pub ruleset count_rules = (Val.memory, Val.pieces_stop)

pub ruleset function_rules = (Val.memory, Val.the_stops, Val.the_value)

pub nth_stops : {w w1 : History} {r r1 : RunState} {f : Frame} {d : ℕ} {od : Ordinal} {kd : ChunkKind} {y : tree.Expr}
    {z : Stop} → Val w r f d y (Err z) w1 r1 → Val w r f d (tree.chunk (tree.nth_piece od kd) y) (Err z) w1 r1
nth_stops h = Val.chunk_of_stops refl (ChunkOf.ordinal refl refl) h

pub ruleset chunk_rules = (Val.memory, piece_stops, piece_taken, from_stops, to_stops, pieces_taken, nth_stops)

pub ruleset part_rules = (part_memory, part_stops, part_read, taken_part)

pub ruleset part_number_rules = (number_memory, number_stops, number_read)

pub ruleset chunk_number_rules =
    (NumberVal.number_memory, piece_no_number, piece_number, from_no_number, to_no_number, pieces_number)
