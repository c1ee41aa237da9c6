-- Written by tools/meaning/outcomes.py from tools/meaning/meaning.rules.
-- What the rules allow is what the meanings come to.
use Rattle.std.proofs.Common.{◌≡◌, refl, sym, subst}
use Rattle.preservation.specs.Laws.{HasMemory}
use Rattle.preservation.proofs.Ends.{given, stopped, faulted}
use Rattle.definitional_interpreter.specs.Told.{told, told_in}
use Rattle.definitional_interpreter.specs.Changes.{yielded, edit, store, add_objects, turn}
use Rattle.definitional_interpreter.proofs.Comes.{Sight, sight, Comes, HasExternal}
use Rattle.definitional_interpreter.proofs.Chain.{done, later, after_ok, after_stop, after_in_ok, after_in_stop}
use Rattle.definitional_interpreter.proofs.Chain.{after_run_ok, after_run_stop, after_lines_ok, after_lines_stop}
use Rattle.definitional_interpreter.proofs.Chain.{after_next_ok, after_next_stop, after_next_leaves, choose_true}
use Rattle.definitional_interpreter.proofs.Chain.{choose_false, maybe_some, maybe_none, computed_ok, computed_err}
use Rattle.definitional_interpreter.proofs.Chain.{below, at_least, gives_outcome, there_ok, there_none, there_stop}
use Rattle.definitional_interpreter.proofs.Leaves.{yields, parses_expression, parses_typed_lines, parses_sent_message}
use Rattle.definitional_interpreter.proofs.Leaves.{steps, finds, makes, takes_turn, sets, adds, edits, stores, assigns}
use Rattle.definitional_interpreter.proofs.Leaves.{declares_all, named_there, there_after, asks_back, talk_back}
use Rattle.meaning.specs.Meaning.{Val, Vals, NumberVal, TruthVal, TextVal, ChunkOf, Resolves, Picks, Seeks, Owns}
use Rattle.meaning.specs.Meaning.{PartMet, Meets, Leads, Form, Alters, Block, DoText, Endless, While, Bounds, Counts}
use Rattle.meaning.specs.Meaning.{Calls, SendsText, Sends, Along, Outside, BuiltInGives, System, Systems, Goes, Menu}
use Rattle.meaning.specs.Meaning.{Converses, Talks, CallsBack, Line, Message, Refers, Tells, TellsAll, Clicks}
use Rattle.meaning.specs.Meaning.{TypesOver, TypesInto, Acts}
use Rattle.std.specs.Prelude.{ℕ, ◌+◌, ℤ, List, [], Bool, Option, None, Result, Ok, Err}
use Rattle.ht_values.specs.declared.fault.Fault.TheVariants.{TooDeep, CantDelete, BadArgument}
use Rattle.ht_values.specs.declared.operator.Op.{Op}
use Rattle.ht_grammar.specs.declared.vocabulary.HandlerKind.{HandlerKind}
use Rattle.ht_grammar.specs.declared.vocabulary.HandlerKind.TheVariants.{Command, Function}
use Rattle.ht_grammar.specs.declared.vocabulary.Layer.{Layer}
use Rattle.ht_grammar.specs.Statements as stm
use Rattle.ht_grammar.specs.Trees as tree
use Rattle.chunks.specs.declared.chunk.Chunk.{Chunk}
use Rattle.object_table.specs.declared.object.LayerId.{LayerId}
use Rattle.externals.specs.declared.external.Ask.{Ask}
use Rattle.externals.specs.declared.external.Ask.TheVariants.{SendCardMessage, EvalExpr, SetGlobal, SetFieldByName}
use Rattle.externals.specs.declared.external.Input.{Input}
use Rattle.journal_entries.specs.declared.change.Change.TheVariants.{NewPart}
use Rattle.change_journal.specs.History.{History}
use Rattle.object_references.specs.declared.referent.PartScope.{PartScope}
use Rattle.object_references.specs.declared.referent.Pick.{Pick}
use Rattle.object_references.specs.declared.referent.Referent.{Referent}
use Rattle.object_references.specs.declared.referent.Sought.{Sought}
use Rattle.containers.specs.declared.edit.Edit.TheVariants.{Delete}
use Rattle.containers.specs.Places.{PlaceView, named}
use Rattle.meaning.specs.declared.end.Conversed.{Conversed}
use Rattle.meaning.specs.declared.frame.Frame.{Frame}
use Rattle.meaning.specs.declared.end.How.{How}
use Rattle.meaning.specs.declared.end.How.TheVariants.{Next, ExitRepeat, NextRepeat, Exit, Pass, Returns}
use Rattle.meaning.specs.declared.end.Stop.{Stop}
use Rattle.meaning.specs.declared.end.Stop.TheVariants.{Fault as Faults, Exited}
use Rattle.meaning.specs.declared.system.SystemMessage.{SystemMessage}
use Rattle.meaning.specs.declared.item.Item.{Item}
use Rattle.meaning.specs.Actions.{Action}
use Rattle.meaning.specs.State.{RunState, noted}
use Rattle.meaning.specs.Places.{field_text, field_named_place}
use Rattle.meaning.specs.Repeats.{CounterState}
use Rattle.meaning.specs.Menu.{closing, opening}
use Rattle.meaning.specs.Messages.{lines_of}

mutual
  pub val_comes : {g : Sight} {w w2 : History} {r r2 : RunState} {f : Frame} {d : ℕ} {e : tree.Expr}
      {o : Result (List ℕ) Stop} → Val w r f d e o w2 r2 → HasMemory o
      → Comes g w (λ parts. parts.val (sight g w) r f d e) (told o (sight g w2) r2) w2
  val_comes Val.memory has = absurd (has refl)
  val_comes {g} (Val.number {e = e} {v = v} {w = w} {r = r} {f = f} {d = d} p1) has = subst
      (λ (e : tree.Expr). Comes g w (λ parts. parts.val (sight g w) r f d e) (told (Ok v) (sight g w) r) w) (sym p1)
      (later (done))
  val_comes {g} (Val.quoted {e = e} {v = v} {w = w} {r = r} {f = f} {d = d} p1) has = subst
      (λ (e : tree.Expr). Comes g w (λ parts. parts.val (sight g w) r f d e) (told (Ok v) (sight g w) r) w) (sym p1)
      (later (done))
  val_comes {g} (Val.constant {e = e} {cn = cn} {v = v} {w = w} {r = r} {f = f} {d = d} p1 p2) has = subst
      (λ (e : tree.Expr). Comes g w (λ parts. parts.val (sight g w) r f d e) (told (Ok v) (sight g w) r) w) (sym p1)
      (subst (λ (v : List ℕ). Comes g w (λ parts. parts.val (sight g w) r f d (tree.constant cn))
      (told (Ok v) (sight g w) r) w) (sym p2) (later (done)))
  val_comes {g} (Val.return_sign {e = e} {v = v} {w = w} {r = r} {f = f} {d = d} p1 p2) has = subst
      (λ (e : tree.Expr). Comes g w (λ parts. parts.val (sight g w) r f d e) (told (Ok v) (sight g w) r) w) (sym p1)
      (subst (λ (v : List ℕ). Comes g w (λ parts. parts.val (sight g w) r f d tree.return_) (told (Ok v) (sight g w) r)
      w) (sym p2) (later (done)))
  val_comes {g} (Val.name {e = e} {n = n} {v = v} {w = w} {f = f} {r = r} {d = d} p1 p2) has = subst
      (λ (e : tree.Expr). Comes g w (λ parts. parts.val (sight g w) r f d e) (told (Ok v) (sight g w) r) w) (sym p1)
      (subst (λ (v : List ℕ). Comes g w (λ parts. parts.val (sight g w) r f d (tree.name n)) (told (Ok v) (sight g w) r)
      w) (sym p2) (later (done)))
  val_comes {g} (Val.paren {e = e} {w = w} {w1 = w1} {r = r} {r1 = r1} {f = f} {d = d} {o = o} p1 p2) has = subst
      (λ (e : tree.Expr). Comes g w (λ parts. parts.val (sight g w) r f d e) (told o (sight g w1) r1) w1) (sym p1)
      (later (val_comes p2 has))
  val_comes {g} (Val.operand_stops {e = e} {w = w} {w1 = w1} {r = r} {r1 = r1} {f = f} {d = d} {z = z} p1 p2)
      has = subst (λ (e : tree.Expr). Comes g w (λ parts. parts.val (sight g w) r f d e) (told (Err z) (sight g w1) r1)
      w1) (sym p1) (later (after_stop _ (val_comes p2 has)))
  val_comes {g} (Val.one_operand {e = e} {w = w} {w1 = w1} {r = r} {r1 = r1} {f = f} {d = d} {o = o} p1 p2 p3)
      has = subst (λ (e : tree.Expr). Comes g w (λ parts. parts.val (sight g w) r f d e) (told o (sight g w1) r1) w1)
      (sym p1) (later (after_ok _ (val_comes p2 given) (yields p3 has)))
  val_comes {g} (Val.left_stops {e = e} {w = w} {w1 = w1} {r = r} {r1 = r1} {f = f} {d = d} {z = z} p1 p2) has = subst
      (λ (e : tree.Expr). Comes g w (λ parts. parts.val (sight g w) r f d e) (told (Err z) (sight g w1) r1) w1) (sym p1)
      (later (after_stop _ (val_comes p2 has)))
  val_comes {g} (Val.right_stops {e = e} {w = w} {w2 = w2} {r = r} {r2 = r2} {f = f} {d = d} {z = z} p1 p2 p3)
      has = subst (λ (e : tree.Expr). Comes g w (λ parts. parts.val (sight g w) r f d e) (told (Err z) (sight g w2) r2)
      w2) (sym p1) (later (after_ok _ (val_comes p2 given) (after_stop _ (val_comes p3 has))))
  val_comes {g} (Val.two_operands {e = e} {w = w} {w2 = w2} {r = r} {r2 = r2} {f = f} {d = d} {o = o} p1 p2 p3 p4)
      has = subst (λ (e : tree.Expr). Comes g w (λ parts. parts.val (sight g w) r f d e) (told o (sight g w2) r2) w2)
      (sym p1) (later (after_ok _ (val_comes p2 given) (after_ok _ (val_comes p3 given) (yields p4 has))))
  val_comes {g} (Val.there_is {e = e} {b = b} {rf = rf} {w = w} {w1 = w1} {r = r} {r1 = r1} {f = f} {d = d} {v = v} p1
      p2 p3) has = subst (λ (e : tree.Expr). Comes g w (λ parts. parts.val (sight g w) r f d e)
      (told (Ok v) (sight g w1) r1) w1) (sym p1)
      (subst (λ (v : List ℕ). Comes g w (λ parts. parts.val (sight g w) r f d (tree.there_is b rf))
      (told (Ok v) (sight g w1) r1) w1) (sym p3) (later (there_ok _ (meets_comes p2 given))))
  val_comes {g} (Val.there_is_none {e = e} {b = b} {rf = rf} {w = w} {w1 = w1} {r = r} {r1 = r1} {f = f} {d = d} {v = v}
      p1 p2 p3) has = subst (λ (e : tree.Expr). Comes g w (λ parts. parts.val (sight g w) r f d e)
      (told (Ok v) (sight g w1) r1) w1) (sym p1)
      (subst (λ (v : List ℕ). Comes g w (λ parts. parts.val (sight g w) r f d (tree.there_is b rf))
      (told (Ok v) (sight g w1) r1) w1) (sym p3) (later (there_none _ (meets_comes p2 faulted))))
  val_comes {g} (Val.there_stops {e = e} {w = w} {w1 = w1} {r = r} {r1 = r1} {f = f} {d = d} {z = z} p1 p2 p3)
      has = subst (λ (e : tree.Expr). Comes g w (λ parts. parts.val (sight g w) r f d e) (told (Err z) (sight g w1) r1)
      w1) (sym p1) (later (there_stop _ p3 (meets_comes p2 (stopped has))))
  val_comes {g} (Val.chunk_stops {e = e} {w = w} {w1 = w1} {r = r} {r1 = r1} {f = f} {d = d} {z = z} p1 p2) has = subst
      (λ (e : tree.Expr). Comes g w (λ parts. parts.val (sight g w) r f d e) (told (Err z) (sight g w1) r1) w1) (sym p1)
      (later (after_stop _ (chunk_of_comes p2 (stopped has))))
  val_comes {g} (Val.chunk_of_stops {e = e} {w = w} {w2 = w2} {r = r} {r2 = r2} {f = f} {d = d} {z = z} p1 p2 p3)
      has = subst (λ (e : tree.Expr). Comes g w (λ parts. parts.val (sight g w) r f d e) (told (Err z) (sight g w2) r2)
      w2) (sym p1) (later (after_ok _ (chunk_of_comes p2 given) (after_stop _ (val_comes p3 has))))
  val_comes {g} (Val.chunk {e = e} {x = x} {hd = hd} {w = w} {w2 = w2} {r = r} {r2 = r2} {f = f} {d = d} {v = v} p1 p2
      p3 p4) has = subst (λ (e : tree.Expr). Comes g w (λ parts. parts.val (sight g w) r f d e)
      (told (Ok v) (sight g w2) r2) w2) (sym p1)
      (subst (λ (v : List ℕ). Comes g w (λ parts. parts.val (sight g w) r f d (tree.chunk hd x))
      (told (Ok v) (sight g w2) r2) w2) (sym p4)
      (later (after_ok _ (chunk_of_comes p2 given) (after_ok _ (val_comes p3 given) (done)))))
  val_comes {g} (Val.field_stops {e = e} {w = w} {w1 = w1} {r = r} {r1 = r1} {f = f} {d = d} {z = z} p1 p2) has = subst
      (λ (e : tree.Expr). Comes g w (λ parts. parts.val (sight g w) r f d e) (told (Err z) (sight g w1) r1) w1) (sym p1)
      (later (after_stop _ (part_met_comes p2 (stopped has))))
  val_comes {g} (Val.field {e = e} {w = w} {w1 = w1} {r = r} {r1 = r1} {f = f} {d = d} {o = o} p1 p2 p3) has = subst
      (λ (e : tree.Expr). Comes g w (λ parts. parts.val (sight g w) r f d e) (told o (sight g w1) r1) w1) (sym p1)
      (later (after_ok _ (part_met_comes p2 given) (yields p3 has)))
  val_comes {g} (Val.the_result {e = e} {v = v} {r = r} {w = w} {f = f} {d = d} p1 p2) has = subst
      (λ (e : tree.Expr). Comes g w (λ parts. parts.val (sight g w) r f d e) (told (Ok v) (sight g w) r) w) (sym p1)
      (subst (λ (v : List ℕ). Comes g w (λ parts. parts.val (sight g w) r f d tree.result) (told (Ok v) (sight g w) r)
      w) (sym p2) (later (done)))
  val_comes {g} (Val.the_target {e = e} {w = w} {f = f} {o = o} {r = r} {d = d} p1 p2) has = subst
      (λ (e : tree.Expr). Comes g w (λ parts. parts.val (sight g w) r f d e) (told o (sight g w) r) w) (sym p1)
      (later (yields p2 has))
  val_comes {g} (Val.pieces_stop {e = e} {w = w} {w1 = w1} {r = r} {r1 = r1} {f = f} {d = d} {z = z} p1 p2) has = subst
      (λ (e : tree.Expr). Comes g w (λ parts. parts.val (sight g w) r f d e) (told (Err z) (sight g w1) r1) w1) (sym p1)
      (later (after_stop _ (val_comes p2 has)))
  val_comes {g} (Val.pieces {e = e} {x = x} {kd = kd} {w = w} {w1 = w1} {r = r} {r1 = r1} {f = f} {d = d} {v = v} p1 p2
      p3) has = subst (λ (e : tree.Expr). Comes g w (λ parts. parts.val (sight g w) r f d e)
      (told (Ok v) (sight g w1) r1) w1) (sym p1)
      (subst (λ (v : List ℕ). Comes g w (λ parts. parts.val (sight g w) r f d (tree.number_of (tree.pieces_of kd x)))
      (told (Ok v) (sight g w1) r1) w1) (sym p3) (later (after_ok _ (val_comes p2 given) (done))))
  val_comes {g} (Val.cards {e = e} {v = v} {w = w} {r = r} {f = f} {d = d} p1 p2) has = subst
      (λ (e : tree.Expr). Comes g w (λ parts. parts.val (sight g w) r f d e) (told (Ok v) (sight g w) r) w) (sym p1)
      (subst (λ (v : List ℕ). Comes g w (λ parts. parts.val (sight g w) r f d (tree.number_of tree.cards))
      (told (Ok v) (sight g w) r) w) (sym p2) (later (done)))
  val_comes {g} (Val.backgrounds {e = e} {v = v} {w = w} {r = r} {f = f} {d = d} p1 p2) has = subst
      (λ (e : tree.Expr). Comes g w (λ parts. parts.val (sight g w) r f d e) (told (Ok v) (sight g w) r) w) (sym p1)
      (subst (λ (v : List ℕ). Comes g w (λ parts. parts.val (sight g w) r f d (tree.number_of tree.backgrounds))
      (told (Ok v) (sight g w) r) w) (sym p2) (later (done)))
  val_comes {g} (Val.parts {e = e} {oly = oly} {pk = pk} {v = v} {w = w} {r = r} {f = f} {d = d} p1 p2) has = subst
      (λ (e : tree.Expr). Comes g w (λ parts. parts.val (sight g w) r f d e) (told (Ok v) (sight g w) r) w) (sym p1)
      (subst (λ (v : List ℕ). Comes g w (λ parts. parts.val (sight g w) r f d (tree.number_of (tree.parts oly pk)))
      (told (Ok v) (sight g w) r) w) (sym p2) (later (done)))
  val_comes {g} (Val.number_stops {e = e} {w = w} {w1 = w1} {r = r} {r1 = r1} {f = f} {d = d} {z = z} p1 p2) has = subst
      (λ (e : tree.Expr). Comes g w (λ parts. parts.val (sight g w) r f d e) (told (Err z) (sight g w1) r1) w1) (sym p1)
      (later (after_stop _ (meets_comes p2 (stopped has))))
  val_comes {g} (Val.number_of_object {e = e} {w = w} {w1 = w1} {r = r} {r1 = r1} {f = f} {d = d} {o = o} p1 p2 p3)
      has = subst (λ (e : tree.Expr). Comes g w (λ parts. parts.val (sight g w) r f d e) (told o (sight g w1) r1) w1)
      (sym p1) (later (after_ok _ (meets_comes p2 given) (yields p3 has)))
  val_comes {g} (Val.property_stops {e = e} {w = w} {w1 = w1} {r = r} {r1 = r1} {f = f} {d = d} {z = z} p1 p2)
      has = subst (λ (e : tree.Expr). Comes g w (λ parts. parts.val (sight g w) r f d e) (told (Err z) (sight g w1) r1)
      w1) (sym p1) (later (after_stop _ (meets_comes p2 (stopped has))))
  val_comes {g} (Val.property {e = e} {w = w} {w1 = w1} {r = r} {r1 = r1} {f = f} {d = d} {o = o} p1 p2 p3) has = subst
      (λ (e : tree.Expr). Comes g w (λ parts. parts.val (sight g w) r f d e) (told o (sight g w1) r1) w1) (sym p1)
      (later (after_ok _ (meets_comes p2 given) (yields p3 has)))
  val_comes {g} (Val.run_property_read {e = e} {rp = rp} {v = v} {r = r} {w = w} {f = f} {d = d} p1 p2) has = subst
      (λ (e : tree.Expr). Comes g w (λ parts. parts.val (sight g w) r f d e) (told (Ok v) (sight g w) r) w) (sym p1)
      (subst (λ (v : List ℕ). Comes g w (λ parts. parts.val (sight g w) r f d (tree.run_property rp))
      (told (Ok v) (sight g w) r) w) (sym p2) (later (done)))
  val_comes {g} (Val.the_stops {e = e} {w = w} {w1 = w1} {r = r} {r1 = r1} {f = f} {d = d} {z = z} p1 p2) has = subst
      (λ (e : tree.Expr). Comes g w (λ parts. parts.val (sight g w) r f d e) (told (Err z) (sight g w1) r1) w1) (sym p1)
      (later (after_stop _ (val_comes p2 has)))
  val_comes {g} (Val.the_function {e = e} {w = w} {w1 = w1} {r = r} {r1 = r1} {f = f} {d = d} {o = o} p1 p2 p3 p4)
      has = subst (λ (e : tree.Expr). Comes g w (λ parts. parts.val (sight g w) r f d e) (told o (sight g w1) r1) w1)
      (sym p1) (later (after_ok _ (val_comes p2 given) (maybe_some _ _ p3 (yields p4 has))))
  val_comes {g} (Val.the_value {e = e} {w = w} {w2 = w2} {r = r} {r2 = r2} {f = f} {d = d} {o = o} p1 p2 p3 p4)
      has = subst (λ (e : tree.Expr). Comes g w (λ parts. parts.val (sight g w) r f d e) (told o (sight g w2) r2) w2)
      (sym p1) (later (after_ok _ (val_comes p2 given) (maybe_none _ _ p3 (text_val_comes p4 has))))
  val_comes {g} (Val.call {e = e} {n = n} {es = es} {i = i} {d = d} {f = f} {w = w} {w1 = w1} {r = r} {r1 = r1} {o = o}
      p1 p2 p3) has = subst (λ (e : tree.Expr). Comes g w (λ parts. parts.val (sight g w) r f d e)
      (told o (sight g w1) r1) w1) (sym p1)
      (later (subst (λ (i : ℕ). Comes g w (λ parts. parts.calls (sight g w) r f d i n es Function)
      (told o (sight g w1) r1) w1) p2 (calls_comes p3 has)))

  pub vals_comes : {g : Sight} {w w2 : History} {r r2 : RunState} {f : Frame} {d : ℕ} {es : tree.Exprs}
      {vs : List (List ℕ)} {os : Result (List (List ℕ)) Stop} → Vals w r f d es vs os w2 r2 → HasMemory os
      → Comes g w (λ parts. parts.vals (sight g w) r f d es vs) (told os (sight g w2) r2) w2
  vals_comes Vals.vals_memory has = absurd (has refl)
  vals_comes {g} (Vals.vals_done {es = es} {w = w} {r = r} {f = f} {d = d} {vs = vs} p1) has = subst
      (λ (es : tree.Exprs). Comes g w (λ parts. parts.vals (sight g w) r f d es vs) (told (Ok vs) (sight g w) r) w)
      (sym p1) (later (done))
  vals_comes {g} (Vals.vals_stop {es = es} {w = w} {w1 = w1} {r = r} {r1 = r1} {f = f} {d = d} {z = z} {vs = vs} p1 p2)
      has = subst (λ (es : tree.Exprs). Comes g w (λ parts. parts.vals (sight g w) r f d es vs)
      (told (Err z) (sight g w1) r1) w1) (sym p1) (later (after_stop _ (val_comes p2 (stopped has))))
  vals_comes {g} (Vals.vals_more {es = es} {w = w} {w2 = w2} {r = r} {r2 = r2} {f = f} {d = d} {vs = vs} {os = os} p1 p2
      p3) has = subst (λ (es : tree.Exprs). Comes g w (λ parts. parts.vals (sight g w) r f d es vs)
      (told os (sight g w2) r2) w2) (sym p1) (later (after_ok _ (val_comes p2 given) (vals_comes p3 has)))

  pub number_val_comes : {g : Sight} {w w2 : History} {r r2 : RunState} {f : Frame} {d : ℕ} {e : tree.Expr}
      {ou : Result ℤ Stop} → NumberVal w r f d e ou w2 r2 → HasMemory ou
      → Comes g w (λ parts. parts.number_val (sight g w) r f d e) (told ou (sight g w2) r2) w2
  number_val_comes NumberVal.number_memory has = absurd (has refl)
  number_val_comes (NumberVal.no_number p1) has = later (after_stop _ (val_comes p1 (stopped has)))
  number_val_comes (NumberVal.a_number p1 p2) has = later (after_ok _ (val_comes p1 given) (yields p2 has))

  pub truth_val_comes : {g : Sight} {w w2 : History} {r r2 : RunState} {f : Frame} {d : ℕ} {e : tree.Expr}
      {ob : Result Bool Stop} → TruthVal w r f d e ob w2 r2 → HasMemory ob
      → Comes g w (λ parts. parts.truth_val (sight g w) r f d e) (told ob (sight g w2) r2) w2
  truth_val_comes TruthVal.truth_memory has = absurd (has refl)
  truth_val_comes (TruthVal.no_truth p1) has = later (after_stop _ (val_comes p1 (stopped has)))
  truth_val_comes (TruthVal.a_truth p1 p2) has = later (after_ok _ (val_comes p1 given) (yields p2 has))

  pub text_val_comes : {g : Sight} {w w2 : History} {r r2 : RunState} {f : Frame} {d : ℕ} {t : List ℕ}
      {o : Result (List ℕ) Stop} → TextVal w r f d t o w2 r2 → HasMemory o
      → Comes g w (λ parts. parts.text_val (sight g w) r f d t) (told o (sight g w2) r2) w2
  text_val_comes TextVal.value_memory has = absurd (has refl)
  text_val_comes (TextVal.value_no_step p1) has = later (after_stop _ (steps p1 (stopped has)))
  text_val_comes {g} (TextVal.value_too_deep {r = r} {r1 = r1} {d = d} {w = w} {f = f} {t = t} p1 p2) has = subst
      (λ (d : ℕ). Comes g w (λ parts. parts.text_val (sight g w) r f d t) (told (Err (Faults TooDeep)) (sight g w) r1)
      w) (sym p2) (later (after_ok _ (steps p1 given) (done)))
  text_val_comes (TextVal.value_syntax p1 p2 p3) has = later
      (after_ok _ (steps p1 given) (choose_true _ _ (below p2) (after_stop _ (parses_expression p3 (stopped has)))))
  text_val_comes (TextVal.value p1 p2 p3 p4) has = later
      (after_ok _ (steps p1 given) (choose_true _ _ (below p2)
      (after_ok _ (parses_expression p3 given) (val_comes p4 has))))

  pub chunk_of_comes : {g : Sight} {w w2 : History} {r r2 : RunState} {f : Frame} {d : ℕ} {hd : tree.Chunk}
      {oc : Result Chunk Stop} → ChunkOf w r f d hd oc w2 r2 → HasMemory oc
      → Comes g w (λ parts. parts.chunk_of (sight g w) r f d hd) (told oc (sight g w2) r2) w2
  chunk_of_comes ChunkOf.chunk_memory has = absurd (has refl)
  chunk_of_comes {g} (ChunkOf.one_stops {hd = hd} {w = w} {w1 = w1} {r = r} {r1 = r1} {f = f} {d = d} {z = z} p1 p2)
      has = subst (λ (hd : tree.Chunk). Comes g w (λ parts. parts.chunk_of (sight g w) r f d hd)
      (told (Err z) (sight g w1) r1) w1) (sym p1) (later (after_stop _ (number_val_comes p2 (stopped has))))
  chunk_of_comes {g} (ChunkOf.one {hd = hd} {kd = kd} {x = x} {w = w} {w1 = w1} {r = r} {r1 = r1} {f = f} {d = d}
      {c = c} p1 p2 p3) has = subst (λ (hd : tree.Chunk). Comes g w (λ parts. parts.chunk_of (sight g w) r f d hd)
      (told (Ok c) (sight g w1) r1) w1) (sym p1)
      (subst (λ (c : Chunk). Comes g w (λ parts. parts.chunk_of (sight g w) r f d (tree.piece kd x))
      (told (Ok c) (sight g w1) r1) w1) (sym p3) (later (after_ok _ (number_val_comes p2 given) (done))))
  chunk_of_comes {g} (ChunkOf.from_stops {hd = hd} {w = w} {w1 = w1} {r = r} {r1 = r1} {f = f} {d = d} {z = z} p1 p2)
      has = subst (λ (hd : tree.Chunk). Comes g w (λ parts. parts.chunk_of (sight g w) r f d hd)
      (told (Err z) (sight g w1) r1) w1) (sym p1) (later (after_stop _ (number_val_comes p2 (stopped has))))
  chunk_of_comes {g} (ChunkOf.to_stops {hd = hd} {w = w} {w2 = w2} {r = r} {r2 = r2} {f = f} {d = d} {z = z} p1 p2 p3)
      has = subst (λ (hd : tree.Chunk). Comes g w (λ parts. parts.chunk_of (sight g w) r f d hd)
      (told (Err z) (sight g w2) r2) w2) (sym p1)
      (later (after_ok _ (number_val_comes p2 given) (after_stop _ (number_val_comes p3 (stopped has)))))
  chunk_of_comes {g} (ChunkOf.range {hd = hd} {kd = kd} {x = x} {y = y} {w = w} {w2 = w2} {r = r} {r2 = r2} {f = f}
      {d = d} {c = c} p1 p2 p3 p4) has = subst
      (λ (hd : tree.Chunk). Comes g w (λ parts. parts.chunk_of (sight g w) r f d hd) (told (Ok c) (sight g w2) r2) w2)
      (sym p1) (subst (λ (c : Chunk). Comes g w (λ parts. parts.chunk_of (sight g w) r f d (tree.pieces kd x y))
      (told (Ok c) (sight g w2) r2) w2) (sym p4)
      (later (after_ok _ (number_val_comes p2 given) (after_ok _ (number_val_comes p3 given) (done)))))
  chunk_of_comes {g} (ChunkOf.ordinal {hd = hd} {od = od} {kd = kd} {c = c} {w = w} {r = r} {f = f} {d = d} p1 p2)
      has = subst (λ (hd : tree.Chunk). Comes g w (λ parts. parts.chunk_of (sight g w) r f d hd)
      (told (Ok c) (sight g w) r) w) (sym p1)
      (subst (λ (c : Chunk). Comes g w (λ parts. parts.chunk_of (sight g w) r f d (tree.nth_piece od kd))
      (told (Ok c) (sight g w) r) w) (sym p2) (later (done)))

  pub resolves_comes : {g : Sight} {w w2 : History} {r r2 : RunState} {f : Frame} {d : ℕ} {ct : tree.Container}
      {opl : Result PlaceView Stop} → Resolves w r f d ct opl w2 r2 → HasMemory opl
      → Comes g w (λ parts. parts.resolves (sight g w) r f d ct) (told opl (sight g w2) r2) w2
  resolves_comes Resolves.place_memory has = absurd (has refl)
  resolves_comes {g} (Resolves.place_variable {ct = ct} {n = n} {pl = pl} {f = f} {w = w} {r = r} {d = d} p1 p2)
      has = subst (λ (ct : tree.Container). Comes g w (λ parts. parts.resolves (sight g w) r f d ct)
      (told (Ok pl) (sight g w) r) w) (sym p1)
      (subst (λ (pl : PlaceView). Comes g w (λ parts. parts.resolves (sight g w) r f d (tree.variable n))
      (told (Ok pl) (sight g w) r) w) (sym p2) (later (done)))
  resolves_comes {g} (Resolves.place_field_stops {ct = ct} {w = w} {w1 = w1} {r = r} {r1 = r1} {f = f} {d = d} {z = z}
      p1 p2) has = subst (λ (ct : tree.Container). Comes g w (λ parts. parts.resolves (sight g w) r f d ct)
      (told (Err z) (sight g w1) r1) w1) (sym p1) (later (after_stop _ (part_met_comes p2 (stopped has))))
  resolves_comes {g} (Resolves.place_field {ct = ct} {w = w} {w1 = w1} {r = r} {r1 = r1} {f = f} {d = d} {opl = opl} p1
      p2 p3) has = subst (λ (ct : tree.Container). Comes g w (λ parts. parts.resolves (sight g w) r f d ct)
      (told opl (sight g w1) r1) w1) (sym p1) (later (after_ok _ (part_met_comes p2 given) (yields p3 has)))
  resolves_comes {g} (Resolves.place_chunk_stops {ct = ct} {w = w} {w1 = w1} {r = r} {r1 = r1} {f = f} {d = d} {z = z}
      p1 p2) has = subst (λ (ct : tree.Container). Comes g w (λ parts. parts.resolves (sight g w) r f d ct)
      (told (Err z) (sight g w1) r1) w1) (sym p1) (later (after_stop _ (chunk_of_comes p2 (stopped has))))
  resolves_comes {g} (Resolves.place_chunk_of_stops {ct = ct} {w = w} {w2 = w2} {r = r} {r2 = r2} {f = f} {d = d}
      {z = z} p1 p2 p3) has = subst (λ (ct : tree.Container). Comes g w (λ parts. parts.resolves (sight g w) r f d ct)
      (told (Err z) (sight g w2) r2) w2) (sym p1)
      (later (after_ok _ (chunk_of_comes p2 given) (after_stop _ (resolves_comes p3 has))))
  resolves_comes {g} (Resolves.place_chunk {ct = ct} {ct1 = ct1} {hd = hd} {w = w} {w2 = w2} {r = r} {r2 = r2} {f = f}
      {d = d} {pl1 = pl1} p1 p2 p3 p4) has = subst
      (λ (ct : tree.Container). Comes g w (λ parts. parts.resolves (sight g w) r f d ct) (told (Ok pl1) (sight g w2) r2)
      w2) (sym p1) (subst (λ (pl1 : PlaceView). Comes g w
      (λ parts. parts.resolves (sight g w) r f d (tree.in_chunk hd ct1)) (told (Ok pl1) (sight g w2) r2) w2) (sym p4)
      (later (after_ok _ (chunk_of_comes p2 given) (after_ok _ (resolves_comes p3 given) (done)))))

  pub picks_comes : {g : Sight} {w w2 : History} {r r2 : RunState} {f : Frame} {d : ℕ} {wh : tree.Which}
      {opi : Result Pick Stop} → Picks w r f d wh opi w2 r2 → HasMemory opi
      → Comes g w (λ parts. parts.picks (sight g w) r f d wh) (told opi (sight g w2) r2) w2
  picks_comes Picks.pick_memory has = absurd (has refl)
  picks_comes {g} (Picks.pick_id_stops {wh = wh} {w = w} {w1 = w1} {r = r} {r1 = r1} {f = f} {d = d} {z = z} p1 p2)
      has = subst (λ (wh : tree.Which). Comes g w (λ parts. parts.picks (sight g w) r f d wh)
      (told (Err z) (sight g w1) r1) w1) (sym p1) (later (after_stop _ (val_comes p2 (stopped has))))
  picks_comes {g} (Picks.pick_id {wh = wh} {x = x} {w = w} {w1 = w1} {r = r} {r1 = r1} {f = f} {d = d} {pi = pi} p1 p2
      p3) has = subst (λ (wh : tree.Which). Comes g w (λ parts. parts.picks (sight g w) r f d wh)
      (told (Ok pi) (sight g w1) r1) w1) (sym p1)
      (subst (λ (pi : Pick). Comes g w (λ parts. parts.picks (sight g w) r f d (tree.by_id x))
      (told (Ok pi) (sight g w1) r1) w1) (sym p3) (later (after_ok _ (val_comes p2 given) (done))))
  picks_comes {g} (Picks.pick_text_stops {wh = wh} {w = w} {w1 = w1} {r = r} {r1 = r1} {f = f} {d = d} {z = z} p1 p2)
      has = subst (λ (wh : tree.Which). Comes g w (λ parts. parts.picks (sight g w) r f d wh)
      (told (Err z) (sight g w1) r1) w1) (sym p1) (later (after_stop _ (val_comes p2 (stopped has))))
  picks_comes {g} (Picks.pick_text {wh = wh} {x = x} {w = w} {w1 = w1} {r = r} {r1 = r1} {f = f} {d = d} {pi = pi} p1 p2
      p3) has = subst (λ (wh : tree.Which). Comes g w (λ parts. parts.picks (sight g w) r f d wh)
      (told (Ok pi) (sight g w1) r1) w1) (sym p1)
      (subst (λ (pi : Pick). Comes g w (λ parts. parts.picks (sight g w) r f d (tree.by_text x))
      (told (Ok pi) (sight g w1) r1) w1) (sym p3) (later (after_ok _ (val_comes p2 given) (done))))

  pub seeks_comes : {g : Sight} {w w2 : History} {r r2 : RunState} {f : Frame} {d : ℕ} {sl : tree.Selector}
      {osk : Result Sought Stop} → Seeks w r f d sl osk w2 r2 → HasMemory osk
      → Comes g w (λ parts. parts.seeks (sight g w) r f d sl) (told osk (sight g w2) r2) w2
  seeks_comes Seeks.seek_memory has = absurd (has refl)
  seeks_comes {g} (Seeks.seek_this {sl = sl} {sk = sk} {w = w} {r = r} {f = f} {d = d} p1 p2) has = subst
      (λ (sl : tree.Selector). Comes g w (λ parts. parts.seeks (sight g w) r f d sl) (told (Ok sk) (sight g w) r) w)
      (sym p1) (subst (λ (sk : Sought). Comes g w (λ parts. parts.seeks (sight g w) r f d tree.this)
      (told (Ok sk) (sight g w) r) w) (sym p2) (later (done)))
  seeks_comes {g} (Seeks.seek_next {sl = sl} {sk = sk} {w = w} {r = r} {f = f} {d = d} p1 p2) has = subst
      (λ (sl : tree.Selector). Comes g w (λ parts. parts.seeks (sight g w) r f d sl) (told (Ok sk) (sight g w) r) w)
      (sym p1) (subst (λ (sk : Sought). Comes g w (λ parts. parts.seeks (sight g w) r f d tree.next)
      (told (Ok sk) (sight g w) r) w) (sym p2) (later (done)))
  seeks_comes {g} (Seeks.seek_previous {sl = sl} {sk = sk} {w = w} {r = r} {f = f} {d = d} p1 p2) has = subst
      (λ (sl : tree.Selector). Comes g w (λ parts. parts.seeks (sight g w) r f d sl) (told (Ok sk) (sight g w) r) w)
      (sym p1) (subst (λ (sk : Sought). Comes g w (λ parts. parts.seeks (sight g w) r f d tree.previous)
      (told (Ok sk) (sight g w) r) w) (sym p2) (later (done)))
  seeks_comes {g} (Seeks.seek_nth {sl = sl} {od = od} {sk = sk} {w = w} {r = r} {f = f} {d = d} p1 p2) has = subst
      (λ (sl : tree.Selector). Comes g w (λ parts. parts.seeks (sight g w) r f d sl) (told (Ok sk) (sight g w) r) w)
      (sym p1) (subst (λ (sk : Sought). Comes g w (λ parts. parts.seeks (sight g w) r f d (tree.nth od))
      (told (Ok sk) (sight g w) r) w) (sym p2) (later (done)))
  seeks_comes {g} (Seeks.seek_stops {sl = sl} {w = w} {w1 = w1} {r = r} {r1 = r1} {f = f} {d = d} {z = z} p1 p2)
      has = subst (λ (sl : tree.Selector). Comes g w (λ parts. parts.seeks (sight g w) r f d sl)
      (told (Err z) (sight g w1) r1) w1) (sym p1) (later (after_stop _ (picks_comes p2 (stopped has))))
  seeks_comes {g} (Seeks.seek_which {sl = sl} {wh = wh} {w = w} {w1 = w1} {r = r} {r1 = r1} {f = f} {d = d} {sk = sk} p1
      p2 p3) has = subst (λ (sl : tree.Selector). Comes g w (λ parts. parts.seeks (sight g w) r f d sl)
      (told (Ok sk) (sight g w1) r1) w1) (sym p1)
      (subst (λ (sk : Sought). Comes g w (λ parts. parts.seeks (sight g w) r f d (tree.which wh))
      (told (Ok sk) (sight g w1) r1) w1) (sym p3) (later (after_ok _ (picks_comes p2 given) (done))))

  pub owns_comes : {g : Sight} {w w2 : History} {r r2 : RunState} {f : Frame} {d : ℕ} {ly : Layer} {ow : tree.Owner}
      {osc : Result PartScope Stop} → Owns w r f d ly ow osc w2 r2 → HasMemory osc
      → Comes g w (λ parts. parts.owns (sight g w) r f d ly ow) (told osc (sight g w2) r2) w2
  owns_comes Owns.own_memory has = absurd (has refl)
  owns_comes {g} (Owns.no_owner {ow = ow} {sc = sc} {w = w} {ly = ly} {r = r} {f = f} {d = d} p1 p2) has = subst
      (λ (ow : tree.Owner). Comes g w (λ parts. parts.owns (sight g w) r f d ly ow) (told (Ok sc) (sight g w) r) w)
      (sym p1) (subst (λ (sc : PartScope). Comes g w (λ parts. parts.owns (sight g w) r f d ly tree.no_owner)
      (told (Ok sc) (sight g w) r) w) (sym p2) (later (done)))
  owns_comes {g} (Owns.owner_card_stops {ow = ow} {w = w} {w1 = w1} {r = r} {r1 = r1} {f = f} {d = d} {z = z} {ly = ly}
      p1 p2) has = subst (λ (ow : tree.Owner). Comes g w (λ parts. parts.owns (sight g w) r f d ly ow)
      (told (Err z) (sight g w1) r1) w1) (sym p1) (later (after_stop _ (seeks_comes p2 (stopped has))))
  owns_comes {g} (Owns.owner_card {ow = ow} {w = w} {w1 = w1} {r = r} {r1 = r1} {f = f} {d = d} {ly = ly} {osc = osc} p1
      p2 p3) has = subst (λ (ow : tree.Owner). Comes g w (λ parts. parts.owns (sight g w) r f d ly ow)
      (told osc (sight g w1) r1) w1) (sym p1) (later (after_ok _ (seeks_comes p2 given) (yields p3 has)))
  owns_comes {g} (Owns.owner_background_stops {ow = ow} {w = w} {w1 = w1} {r = r} {r1 = r1} {f = f} {d = d} {z = z}
      {ly = ly} p1 p2) has = subst (λ (ow : tree.Owner). Comes g w (λ parts. parts.owns (sight g w) r f d ly ow)
      (told (Err z) (sight g w1) r1) w1) (sym p1) (later (after_stop _ (seeks_comes p2 (stopped has))))
  owns_comes {g} (Owns.owner_background {ow = ow} {w = w} {w1 = w1} {r = r} {r1 = r1} {f = f} {d = d} {ly = ly}
      {osc = osc} p1 p2 p3) has = subst
      (λ (ow : tree.Owner). Comes g w (λ parts. parts.owns (sight g w) r f d ly ow) (told osc (sight g w1) r1) w1)
      (sym p1) (later (after_ok _ (seeks_comes p2 given) (yields p3 has)))

  pub part_met_comes : {g : Sight} {w w2 : History} {r r2 : RunState} {f : Frame} {d : ℕ} {pa : tree.Part}
      {om : Result Referent Stop} → PartMet w r f d pa om w2 r2 → HasMemory om
      → Comes g w (λ parts. parts.part_met (sight g w) r f d pa) (told om (sight g w2) r2) w2
  part_met_comes PartMet.part_memory has = absurd (has refl)
  part_met_comes {g} (PartMet.part_stops {pa = pa} {w = w} {w1 = w1} {r = r} {r1 = r1} {f = f} {d = d} {z = z} p1 p2)
      has = subst (λ (pa : tree.Part). Comes g w (λ parts. parts.part_met (sight g w) r f d pa)
      (told (Err z) (sight g w1) r1) w1) (sym p1) (later (after_stop _ (picks_comes p2 (stopped has))))
  part_met_comes {g} (PartMet.part_owner_stops {pa = pa} {ow = ow} {w = w} {w1 = w1} {w2 = w2} {r = r} {r1 = r1}
      {r2 = r2} {f = f} {d = d} {ly = ly} {z = z} p1 p2 p3 p4) has = subst
      (λ (pa : tree.Part). Comes g w (λ parts. parts.part_met (sight g w) r f d pa) (told (Err z) (sight g w2) r2) w2)
      (sym p1) (later (after_ok _ (picks_comes p2 given)
      (after_stop _ (subst (λ (ly : Layer). Comes g w1 (λ parts. parts.owns (sight g w1) r1 f d ly ow)
      (told (Err z) (sight g w2) r2) w2) p3 (owns_comes p4 (stopped has))))))
  part_met_comes {g} (PartMet.part_of_owner {pa = pa} {ow = ow} {w = w} {w1 = w1} {w2 = w2} {r = r} {r1 = r1} {r2 = r2}
      {f = f} {d = d} {ly = ly} {sc = sc} {om = om} p1 p2 p3 p4 p5) has = subst
      (λ (pa : tree.Part). Comes g w (λ parts. parts.part_met (sight g w) r f d pa) (told om (sight g w2) r2) w2)
      (sym p1) (later (after_ok _ (picks_comes p2 given)
      (after_ok _ (subst (λ (ly : Layer). Comes g w1 (λ parts. parts.owns (sight g w1) r1 f d ly ow)
      (told (Ok sc) (sight g w2) r2) w2) p3 (owns_comes p4 given)) (yields p5 has))))
  part_met_comes {g} (PartMet.nth_owner_stops {pa = pa} {ow = ow} {ly = ly} {w = w} {w1 = w1} {r = r} {r1 = r1} {f = f}
      {d = d} {z = z} p1 p2 p3) has = subst
      (λ (pa : tree.Part). Comes g w (λ parts. parts.part_met (sight g w) r f d pa) (told (Err z) (sight g w1) r1) w1)
      (sym p1) (later (after_stop _ (subst
      (λ (ly : Layer). Comes g w (λ parts. parts.owns (sight g w) r f d ly ow) (told (Err z) (sight g w1) r1) w1) p2
      (owns_comes p3 (stopped has)))))
  part_met_comes {g} (PartMet.nth_of_owner {pa = pa} {ow = ow} {ly = ly} {w = w} {w1 = w1} {r = r} {r1 = r1} {f = f}
      {d = d} {sc = sc} {om = om} p1 p2 p3 p4) has = subst
      (λ (pa : tree.Part). Comes g w (λ parts. parts.part_met (sight g w) r f d pa) (told om (sight g w1) r1) w1)
      (sym p1) (later (after_ok _ (subst
      (λ (ly : Layer). Comes g w (λ parts. parts.owns (sight g w) r f d ly ow) (told (Ok sc) (sight g w1) r1) w1) p2
      (owns_comes p3 given)) (yields p4 has)))

  pub meets_comes : {g : Sight} {w w2 : History} {r r2 : RunState} {f : Frame} {d : ℕ} {rf : tree.Ref}
      {om : Result Referent Stop} → Meets w r f d rf om w2 r2 → HasMemory om
      → Comes g w (λ parts. parts.meets (sight g w) r f d rf) (told om (sight g w2) r2) w2
  meets_comes Meets.meet_memory has = absurd (has refl)
  meets_comes {g} (Meets.meet_me {rf = rf} {w = w} {f = f} {om = om} {r = r} {d = d} p1 p2) has = subst
      (λ (rf : tree.Ref). Comes g w (λ parts. parts.meets (sight g w) r f d rf) (told om (sight g w) r) w) (sym p1)
      (later (yields p2 has))
  meets_comes {g} (Meets.meet_target {rf = rf} {w = w} {f = f} {om = om} {r = r} {d = d} p1 p2) has = subst
      (λ (rf : tree.Ref). Comes g w (λ parts. parts.meets (sight g w) r f d rf) (told om (sight g w) r) w) (sym p1)
      (later (yields p2 has))
  meets_comes {g} (Meets.meet_stack {rf = rf} {m = m} {w = w} {r = r} {f = f} {d = d} p1 p2) has = subst
      (λ (rf : tree.Ref). Comes g w (λ parts. parts.meets (sight g w) r f d rf) (told (Ok m) (sight g w) r) w) (sym p1)
      (subst (λ (m : Referent). Comes g w (λ parts. parts.meets (sight g w) r f d tree.this_stack)
      (told (Ok m) (sight g w) r) w) (sym p2) (later (done)))
  meets_comes {g} (Meets.card_stops {rf = rf} {w = w} {w1 = w1} {r = r} {r1 = r1} {f = f} {d = d} {z = z} p1 p2)
      has = subst (λ (rf : tree.Ref). Comes g w (λ parts. parts.meets (sight g w) r f d rf)
      (told (Err z) (sight g w1) r1) w1) (sym p1) (later (after_stop _ (seeks_comes p2 (stopped has))))
  meets_comes {g} (Meets.meet_card {rf = rf} {w = w} {w1 = w1} {r = r} {r1 = r1} {f = f} {d = d} {om = om} p1 p2 p3)
      has = subst (λ (rf : tree.Ref). Comes g w (λ parts. parts.meets (sight g w) r f d rf) (told om (sight g w1) r1)
      w1) (sym p1) (later (after_ok _ (seeks_comes p2 given) (yields p3 has)))
  meets_comes {g} (Meets.background_stops {rf = rf} {w = w} {w1 = w1} {r = r} {r1 = r1} {f = f} {d = d} {z = z} p1 p2)
      has = subst (λ (rf : tree.Ref). Comes g w (λ parts. parts.meets (sight g w) r f d rf)
      (told (Err z) (sight g w1) r1) w1) (sym p1) (later (after_stop _ (seeks_comes p2 (stopped has))))
  meets_comes {g} (Meets.meet_background {rf = rf} {w = w} {w1 = w1} {r = r} {r1 = r1} {f = f} {d = d} {om = om} p1 p2
      p3) has = subst (λ (rf : tree.Ref). Comes g w (λ parts. parts.meets (sight g w) r f d rf)
      (told om (sight g w1) r1) w1) (sym p1) (later (after_ok _ (seeks_comes p2 given) (yields p3 has)))
  meets_comes {g} (Meets.meet_part {rf = rf} {w = w} {w1 = w1} {r = r} {r1 = r1} {f = f} {d = d} {om = om} p1 p2)
      has = subst (λ (rf : tree.Ref). Comes g w (λ parts. parts.meets (sight g w) r f d rf) (told om (sight g w1) r1)
      w1) (sym p1) (later (part_met_comes p2 has))

  pub leads_comes : {g : Sight} {w w2 : History} {r r2 : RunState} {f : Frame} {d : ℕ} {de : stm.Destination}
      {oi : Result ℕ Stop} → Leads w r f d de oi w2 r2 → HasMemory oi
      → Comes g w (λ parts. parts.leads (sight g w) r f d de) (told oi (sight g w2) r2) w2
  leads_comes Leads.lead_memory has = absurd (has refl)
  leads_comes {g} (Leads.lead_card_stops {de = de} {w = w} {w1 = w1} {r = r} {r1 = r1} {f = f} {d = d} {z = z} p1 p2)
      has = subst (λ (de : stm.Destination). Comes g w (λ parts. parts.leads (sight g w) r f d de)
      (told (Err z) (sight g w1) r1) w1) (sym p1) (later (after_stop _ (seeks_comes p2 (stopped has))))
  leads_comes {g} (Leads.lead_card {de = de} {w = w} {w1 = w1} {r = r} {r1 = r1} {f = f} {d = d} {oi = oi} p1 p2 p3)
      has = subst (λ (de : stm.Destination). Comes g w (λ parts. parts.leads (sight g w) r f d de)
      (told oi (sight g w1) r1) w1) (sym p1) (later (after_ok _ (seeks_comes p2 given) (yields p3 has)))
  leads_comes {g} (Leads.lead_background_stops {de = de} {w = w} {w1 = w1} {r = r} {r1 = r1} {f = f} {d = d} {z = z} p1
      p2) has = subst (λ (de : stm.Destination). Comes g w (λ parts. parts.leads (sight g w) r f d de)
      (told (Err z) (sight g w1) r1) w1) (sym p1) (later (after_stop _ (seeks_comes p2 (stopped has))))
  leads_comes {g} (Leads.lead_background {de = de} {w = w} {w1 = w1} {r = r} {r1 = r1} {f = f} {d = d} {oi = oi} p1 p2
      p3) has = subst (λ (de : stm.Destination). Comes g w (λ parts. parts.leads (sight g w) r f d de)
      (told oi (sight g w1) r1) w1) (sym p1) (later (after_ok _ (seeks_comes p2 given) (yields p3 has)))

  pub form_comes : {g : Sight} {w w2 : History} {r r2 : RunState} {f f2 : Frame} {d : ℕ} {s : stm.Stmt}
      {oh : Result How Stop} → Form w r f d s oh w2 r2 f2 → HasMemory oh
      → Comes g w (λ parts. parts.form (sight g w) r f d s) (told_in oh (sight g w2) r2 f2) w2
  form_comes Form.form_memory has = absurd (has refl)
  form_comes {g} (Form.show_stops {s = s} {w = w} {w1 = w1} {r = r} {r1 = r1} {f = f} {d = d} {z = z} p1 p2) has = subst
      (λ (s : stm.Stmt). Comes g w (λ parts. parts.form (sight g w) r f d s) (told_in (Err z) (sight g w1) r1 f) w1)
      (sym p1) (later (after_in_stop _ _ (val_comes p2 (stopped has))))
  form_comes {g} (Form.show {s = s} {e = e} {w = w} {w1 = w1} {r = r} {r2 = r2} {f = f} {d = d} p1 p2 p3) has = subst
      (λ (s : stm.Stmt). Comes g w (λ parts. parts.form (sight g w) r f d s) (told_in (Ok Next) (sight g w1) r2 f) w1)
      (sym p1) (subst (λ (r2 : RunState). Comes g w (λ parts. parts.form (sight g w) r f d (stm.put e))
      (told_in (Ok Next) (sight g w1) r2 f) w1) (sym p3) (later (after_in_ok _ _ (val_comes p2 given) (done))))
  form_comes {g} (Form.put_stops {s = s} {w = w} {w1 = w1} {r = r} {r1 = r1} {f = f} {d = d} {z = z} p1 p2) has = subst
      (λ (s : stm.Stmt). Comes g w (λ parts. parts.form (sight g w) r f d s) (told_in (Err z) (sight g w1) r1 f) w1)
      (sym p1) (later (after_in_stop _ _ (val_comes p2 (stopped has))))
  form_comes {g} (Form.put_nowhere {s = s} {w = w} {w2 = w2} {r = r} {r2 = r2} {f = f} {d = d} {z = z} p1 p2 p3)
      has = subst (λ (s : stm.Stmt). Comes g w (λ parts. parts.form (sight g w) r f d s)
      (told_in (Err z) (sight g w2) r2 f) w2) (sym p1)
      (later (after_in_ok _ _ (val_comes p2 given) (after_in_stop _ _ (resolves_comes p3 (stopped has)))))
  form_comes {g} (Form.put_fails {s = s} {w = w} {w3 = w3} {r = r} {r2 = r2} {f = f} {f1 = f1} {d = d} {z = z} p1 p2 p3
      p4) has = subst (λ (s : stm.Stmt). Comes g w (λ parts. parts.form (sight g w) r f d s)
      (told_in (Err z) (sight g w3) r2 f1) w3) (sym p1)
      (later (after_in_ok _ _ (val_comes p2 given)
      (after_in_ok _ _ (resolves_comes p3 given) (after_run_stop _ (edits p4 (stopped has))))))
  form_comes {g} (Form.put {s = s} {w = w} {w3 = w3} {r = r} {r2 = r2} {f = f} {f1 = f1} {d = d} p1 p2 p3 p4)
      has = subst (λ (s : stm.Stmt). Comes g w (λ parts. parts.form (sight g w) r f d s)
      (told_in (Ok Next) (sight g w3) r2 f1) w3) (sym p1)
      (later (after_in_ok _ _ (val_comes p2 given)
      (after_in_ok _ _ (resolves_comes p3 given) (after_run_ok _ (edits p4 given) (done)))))
  form_comes {g} (Form.get_stops {s = s} {w = w} {w1 = w1} {r = r} {r1 = r1} {f = f} {d = d} {z = z} p1 p2) has = subst
      (λ (s : stm.Stmt). Comes g w (λ parts. parts.form (sight g w) r f d s) (told_in (Err z) (sight g w1) r1 f) w1)
      (sym p1) (later (after_in_stop _ _ (val_comes p2 (stopped has))))
  form_comes {g} (Form.get {s = s} {w = w} {w2 = w2} {r = r} {r1 = r1} {f = f} {f1 = f1} {d = d} p1 p2 p3) has = subst
      (λ (s : stm.Stmt). Comes g w (λ parts. parts.form (sight g w) r f d s) (told_in (Ok Next) (sight g w2) r1 f1) w2)
      (sym p1) (later (after_in_ok _ _ (val_comes p2 given) (after_run_ok _ (stores p3) (done))))
  form_comes {g} (Form.set_stops {s = s} {w = w} {w1 = w1} {r = r} {r1 = r1} {f = f} {d = d} {z = z} p1 p2) has = subst
      (λ (s : stm.Stmt). Comes g w (λ parts. parts.form (sight g w) r f d s) (told_in (Err z) (sight g w1) r1 f) w1)
      (sym p1) (later (after_in_stop _ _ (val_comes p2 (stopped has))))
  form_comes {g} (Form.set_nowhere {s = s} {w = w} {w2 = w2} {r = r} {r2 = r2} {f = f} {d = d} {z = z} p1 p2 p3)
      has = subst (λ (s : stm.Stmt). Comes g w (λ parts. parts.form (sight g w) r f d s)
      (told_in (Err z) (sight g w2) r2 f) w2) (sym p1)
      (later (after_in_ok _ _ (val_comes p2 given) (after_in_stop _ _ (meets_comes p3 (stopped has)))))
  form_comes {g} (Form.set_fails {s = s} {w = w} {w3 = w3} {r = r} {r2 = r2} {f = f} {d = d} {z = z} p1 p2 p3 p4)
      has = subst (λ (s : stm.Stmt). Comes g w (λ parts. parts.form (sight g w) r f d s)
      (told_in (Err z) (sight g w3) r2 f) w3) (sym p1)
      (later (after_in_ok _ _ (val_comes p2 given)
      (after_in_ok _ _ (meets_comes p3 given) (after_in_stop _ _ (sets p4 (stopped has))))))
  form_comes {g} (Form.set {s = s} {w = w} {w3 = w3} {r = r} {r2 = r2} {f = f} {d = d} p1 p2 p3 p4) has = subst
      (λ (s : stm.Stmt). Comes g w (λ parts. parts.form (sight g w) r f d s) (told_in (Ok Next) (sight g w3) r2 f) w3)
      (sym p1) (later (after_in_ok _ _ (val_comes p2 given)
      (after_in_ok _ _ (meets_comes p3 given) (after_in_ok _ _ (sets p4 given) (done)))))
  form_comes {g} (Form.set_run_stops {s = s} {w = w} {w1 = w1} {r = r} {r1 = r1} {f = f} {d = d} {z = z} p1 p2)
      has = subst (λ (s : stm.Stmt). Comes g w (λ parts. parts.form (sight g w) r f d s)
      (told_in (Err z) (sight g w1) r1 f) w1) (sym p1) (later (after_in_stop _ _ (val_comes p2 (stopped has))))
  form_comes {g} (Form.set_run_fails {s = s} {w = w} {w1 = w1} {r = r} {r1 = r1} {f = f} {d = d} {fa = fa} p1 p2 p3)
      has = subst (λ (s : stm.Stmt). Comes g w (λ parts. parts.form (sight g w) r f d s)
      (told_in (Err (Faults fa)) (sight g w1) r1 f) w1) (sym p1)
      (later (after_in_ok _ _ (val_comes p2 given) (computed_err _ _ p3 (done))))
  form_comes {g} (Form.set_run {s = s} {w = w} {w1 = w1} {r = r} {r2 = r2} {f = f} {d = d} p1 p2 p3) has = subst
      (λ (s : stm.Stmt). Comes g w (λ parts. parts.form (sight g w) r f d s) (told_in (Ok Next) (sight g w1) r2 f) w1)
      (sym p1) (later (after_in_ok _ _ (val_comes p2 given) (computed_ok _ _ p3 (done))))
  form_comes {g} (Form.add {s = s} {w = w} {w1 = w1} {r = r} {r1 = r1} {f = f} {f1 = f1} {d = d} {oh = oh} p1 p2)
      has = subst (λ (s : stm.Stmt). Comes g w (λ parts. parts.form (sight g w) r f d s) (told_in oh (sight g w1) r1 f1)
      w1) (sym p1) (later (alters_comes p2 has))
  form_comes {g} (Form.subtract {s = s} {w = w} {w1 = w1} {r = r} {r1 = r1} {f = f} {f1 = f1} {d = d} {oh = oh} p1 p2)
      has = subst (λ (s : stm.Stmt). Comes g w (λ parts. parts.form (sight g w) r f d s) (told_in oh (sight g w1) r1 f1)
      w1) (sym p1) (later (alters_comes p2 has))
  form_comes {g} (Form.multiply {s = s} {w = w} {w1 = w1} {r = r} {r1 = r1} {f = f} {f1 = f1} {d = d} {oh = oh} p1 p2)
      has = subst (λ (s : stm.Stmt). Comes g w (λ parts. parts.form (sight g w) r f d s) (told_in oh (sight g w1) r1 f1)
      w1) (sym p1) (later (alters_comes p2 has))
  form_comes {g} (Form.divide {s = s} {w = w} {w1 = w1} {r = r} {r1 = r1} {f = f} {f1 = f1} {d = d} {oh = oh} p1 p2)
      has = subst (λ (s : stm.Stmt). Comes g w (λ parts. parts.form (sight g w) r f d s) (told_in oh (sight g w1) r1 f1)
      w1) (sym p1) (later (alters_comes p2 has))
  form_comes {g} (Form.delete_stops {s = s} {w = w} {w1 = w1} {r = r} {r1 = r1} {f = f} {d = d} {z = z} p1 p2)
      has = subst (λ (s : stm.Stmt). Comes g w (λ parts. parts.form (sight g w) r f d s)
      (told_in (Err z) (sight g w1) r1 f) w1) (sym p1) (later (after_in_stop _ _ (chunk_of_comes p2 (stopped has))))
  form_comes {g} (Form.delete_nowhere {s = s} {w = w} {w2 = w2} {r = r} {r2 = r2} {f = f} {d = d} {z = z} p1 p2 p3)
      has = subst (λ (s : stm.Stmt). Comes g w (λ parts. parts.form (sight g w) r f d s)
      (told_in (Err z) (sight g w2) r2 f) w2) (sym p1)
      (later (after_in_ok _ _ (chunk_of_comes p2 given) (after_in_stop _ _ (resolves_comes p3 (stopped has)))))
  form_comes {g} (Form.delete_fails {s = s} {w = w} {w2 = w2} {w3 = w3} {r = r} {r2 = r2} {f = f} {f1 = f1} {d = d}
      {pl1 = pl1} {z = z} p1 p2 p3 p4 p5) has = subst
      (λ (s : stm.Stmt). Comes g w (λ parts. parts.form (sight g w) r f d s) (told_in (Err z) (sight g w3) r2 f1) w3)
      (sym p1) (later (after_in_ok _ _ (chunk_of_comes p2 given)
      (after_in_ok _ _ (resolves_comes p3 given)
      (after_run_stop _ (subst (λ (pl1 : PlaceView). Comes g w2 (λ parts. edit (sight g w2) r2 f pl1 Delete)
      (told_in (Err z) (sight g w3) r2 f1) w3) p4 (edits p5 (stopped has)))))))
  form_comes {g} (Form.delete {s = s} {w = w} {w2 = w2} {w3 = w3} {r = r} {r2 = r2} {f = f} {f1 = f1} {d = d}
      {pl1 = pl1} p1 p2 p3 p4 p5) has = subst
      (λ (s : stm.Stmt). Comes g w (λ parts. parts.form (sight g w) r f d s) (told_in (Ok Next) (sight g w3) r2 f1) w3)
      (sym p1) (later (after_in_ok _ _ (chunk_of_comes p2 given)
      (after_in_ok _ _ (resolves_comes p3 given)
      (after_run_ok _ (subst (λ (pl1 : PlaceView). Comes g w2 (λ parts. edit (sight g w2) r2 f pl1 Delete)
      (told_in (Ok tt) (sight g w3) r2 f1) w3) p4 (edits p5 given)) (done)))))
  form_comes {g} (Form.do_stops {s = s} {w = w} {w1 = w1} {r = r} {r1 = r1} {f = f} {d = d} {z = z} p1 p2) has = subst
      (λ (s : stm.Stmt). Comes g w (λ parts. parts.form (sight g w) r f d s) (told_in (Err z) (sight g w1) r1 f) w1)
      (sym p1) (later (after_in_stop _ _ (val_comes p2 (stopped has))))
  form_comes {g} (Form.do_value {s = s} {w = w} {w2 = w2} {r = r} {r2 = r2} {f = f} {f1 = f1} {d = d} {oh = oh} p1 p2
      p3) has = subst (λ (s : stm.Stmt). Comes g w (λ parts. parts.form (sight g w) r f d s)
      (told_in oh (sight g w2) r2 f1) w2) (sym p1) (later (after_in_ok _ _ (val_comes p2 given) (do_text_comes p3 has)))
  form_comes {g} (Form.send_text_stops {s = s} {w = w} {w1 = w1} {r = r} {r1 = r1} {f = f} {d = d} {z = z} p1 p2)
      has = subst (λ (s : stm.Stmt). Comes g w (λ parts. parts.form (sight g w) r f d s)
      (told_in (Err z) (sight g w1) r1 f) w1) (sym p1) (later (after_in_stop _ _ (val_comes p2 (stopped has))))
  form_comes {g} (Form.send_nowhere {s = s} {w = w} {w2 = w2} {r = r} {r2 = r2} {f = f} {d = d} {z = z} p1 p2 p3)
      has = subst (λ (s : stm.Stmt). Comes g w (λ parts. parts.form (sight g w) r f d s)
      (told_in (Err z) (sight g w2) r2 f) w2) (sym p1)
      (later (after_in_ok _ _ (val_comes p2 given) (after_in_stop _ _ (meets_comes p3 (stopped has)))))
  form_comes {g} (Form.send_stops {s = s} {w = w} {w3 = w3} {r = r} {r3 = r3} {f = f} {d = d} {z = z} p1 p2 p3 p4)
      has = subst (λ (s : stm.Stmt). Comes g w (λ parts. parts.form (sight g w) r f d s)
      (told_in (Err z) (sight g w3) r3 f) w3) (sym p1)
      (later (after_in_ok _ _ (val_comes p2 given)
      (after_in_ok _ _ (meets_comes p3 given) (after_in_stop _ _ (sends_text_comes p4 (stopped has))))))
  form_comes {g} (Form.send {s = s} {w = w} {w3 = w3} {r = r} {r3 = r3} {f = f} {d = d} p1 p2 p3 p4) has = subst
      (λ (s : stm.Stmt). Comes g w (λ parts. parts.form (sight g w) r f d s) (told_in (Ok Next) (sight g w3) r3 f) w3)
      (sym p1) (later (after_in_ok _ _ (val_comes p2 given)
      (after_in_ok _ _ (meets_comes p3 given) (after_in_ok _ _ (sends_text_comes p4 given) (done)))))
  form_comes {g} (Form.go_nowhere {s = s} {w = w} {w1 = w1} {r = r} {r1 = r1} {f = f} {d = d} {z = z} p1 p2) has = subst
      (λ (s : stm.Stmt). Comes g w (λ parts. parts.form (sight g w) r f d s) (told_in (Err z) (sight g w1) r1 f) w1)
      (sym p1) (later (after_in_stop _ _ (leads_comes p2 (stopped has))))
  form_comes {g} (Form.go_stops {s = s} {w = w} {w2 = w2} {r = r} {r2 = r2} {f = f} {d = d} {z = z} p1 p2 p3)
      has = subst (λ (s : stm.Stmt). Comes g w (λ parts. parts.form (sight g w) r f d s)
      (told_in (Err z) (sight g w2) r2 f) w2) (sym p1)
      (later (after_in_ok _ _ (leads_comes p2 given) (after_in_stop _ _ (goes_comes p3 (stopped has)))))
  form_comes {g} (Form.go {s = s} {w = w} {w2 = w2} {r = r} {r2 = r2} {f = f} {d = d} p1 p2 p3) has = subst
      (λ (s : stm.Stmt). Comes g w (λ parts. parts.form (sight g w) r f d s) (told_in (Ok Next) (sight g w2) r2 f) w2)
      (sym p1) (later (after_in_ok _ _ (leads_comes p2 given) (after_in_ok _ _ (goes_comes p3 given) (done))))
  form_comes {g} (Form.global {s = s} {w = w} {w1 = w1} {f = f} {f1 = f1} {r = r} {d = d} p1 p2) has = subst
      (λ (s : stm.Stmt). Comes g w (λ parts. parts.form (sight g w) r f d s) (told_in (Ok Next) (sight g w1) r f1) w1)
      (sym p1) (later (after_run_ok _ (declares_all p2) (done)))
  form_comes {g} (Form.exit_repeat {s = s} {w = w} {r = r} {f = f} {d = d} p1) has = subst
      (λ (s : stm.Stmt). Comes g w (λ parts. parts.form (sight g w) r f d s) (told_in (Ok ExitRepeat) (sight g w) r f)
      w) (sym p1) (later (done))
  form_comes {g} (Form.next_repeat {s = s} {w = w} {r = r} {f = f} {d = d} p1) has = subst
      (λ (s : stm.Stmt). Comes g w (λ parts. parts.form (sight g w) r f d s) (told_in (Ok NextRepeat) (sight g w) r f)
      w) (sym p1) (later (done))
  form_comes {g} (Form.exit_to_hypercard {s = s} {w = w} {r = r} {f = f} {d = d} p1) has = subst
      (λ (s : stm.Stmt). Comes g w (λ parts. parts.form (sight g w) r f d s) (told_in (Err Exited) (sight g w) r f) w)
      (sym p1) (later (done))
  form_comes {g} (Form.exit_handler {s = s} {w = w} {r = r} {f = f} {d = d} p1) has = subst
      (λ (s : stm.Stmt). Comes g w (λ parts. parts.form (sight g w) r f d s) (told_in (Ok Exit) (sight g w) r f) w)
      (sym p1) (later (done))
  form_comes {g} (Form.pass {s = s} {w = w} {r = r} {f = f} {d = d} p1) has = subst
      (λ (s : stm.Stmt). Comes g w (λ parts. parts.form (sight g w) r f d s) (told_in (Ok Pass) (sight g w) r f) w)
      (sym p1) (later (done))
  form_comes {g} (Form.return_nothing {s = s} {w = w} {r = r} {f = f} {d = d} p1) has = subst
      (λ (s : stm.Stmt). Comes g w (λ parts. parts.form (sight g w) r f d s) (told_in (Ok (Returns [])) (sight g w) r f)
      w) (sym p1) (later (done))
  form_comes {g} (Form.return_stops {s = s} {w = w} {w1 = w1} {r = r} {r1 = r1} {f = f} {d = d} {z = z} p1 p2)
      has = subst (λ (s : stm.Stmt). Comes g w (λ parts. parts.form (sight g w) r f d s)
      (told_in (Err z) (sight g w1) r1 f) w1) (sym p1) (later (after_in_stop _ _ (val_comes p2 (stopped has))))
  form_comes {g} (Form.return_value {s = s} {w = w} {w1 = w1} {r = r} {r1 = r1} {f = f} {d = d} {v = v} p1 p2)
      has = subst (λ (s : stm.Stmt). Comes g w (λ parts. parts.form (sight g w) r f d s)
      (told_in (Ok (Returns v)) (sight g w1) r1 f) w1) (sym p1) (later (after_in_ok _ _ (val_comes p2 given) (done)))
  form_comes {g} (Form.command_stops {s = s} {n = n} {es = es} {i = i} {d = d} {f = f} {w = w} {w1 = w1} {r = r}
      {r1 = r1} {z = z} p1 p2 p3) has = subst
      (λ (s : stm.Stmt). Comes g w (λ parts. parts.form (sight g w) r f d s) (told_in (Err z) (sight g w1) r1 f) w1)
      (sym p1) (later (after_in_stop _ _
      (subst (λ (i : ℕ). Comes g w (λ parts. parts.calls (sight g w) r f d i n es Command)
      (told (Err z) (sight g w1) r1) w1) p2 (calls_comes p3 (stopped has)))))
  form_comes {g} (Form.command {s = s} {n = n} {v = v} {es = es} {i = i} {d = d} {f = f} {w = w} {w1 = w1} {r = r}
      {r1 = r1} p1 p2 p3) has = subst
      (λ (s : stm.Stmt). Comes g w (λ parts. parts.form (sight g w) r f d s) (told_in (Ok Next) (sight g w1) r1 f) w1)
      (sym p1) (later (after_in_ok _ _
      (subst (λ (i : ℕ). Comes g w (λ parts. parts.calls (sight g w) r f d i n es Command) (told (Ok v) (sight g w1) r1)
      w1) p2 (calls_comes p3 given)) (done)))
  form_comes {g} (Form.if_stops {s = s} {w = w} {w1 = w1} {r = r} {r1 = r1} {f = f} {d = d} {z = z} p1 p2) has = subst
      (λ (s : stm.Stmt). Comes g w (λ parts. parts.form (sight g w) r f d s) (told_in (Err z) (sight g w1) r1 f) w1)
      (sym p1) (later (after_in_stop _ _ (truth_val_comes p2 (stopped has))))
  form_comes {g} (Form.if_true {s = s} {w = w} {w2 = w2} {r = r} {r2 = r2} {f = f} {f1 = f1} {d = d} {oh = oh} p1 p2 p3
      p4) has = subst (λ (s : stm.Stmt). Comes g w (λ parts. parts.form (sight g w) r f d s)
      (told_in oh (sight g w2) r2 f1) w2) (sym p1)
      (later (after_in_ok _ _ (truth_val_comes p2 given) (choose_true _ _ p3 (block_comes p4 has))))
  form_comes {g} (Form.if_false {s = s} {w = w} {w2 = w2} {r = r} {r2 = r2} {f = f} {f1 = f1} {d = d} {oh = oh} p1 p2 p3
      p4) has = subst (λ (s : stm.Stmt). Comes g w (λ parts. parts.form (sight g w) r f d s)
      (told_in oh (sight g w2) r2 f1) w2) (sym p1)
      (later (after_in_ok _ _ (truth_val_comes p2 given) (choose_false _ _ p3 (block_comes p4 has))))
  form_comes {g} (Form.forever {s = s} {w = w} {w1 = w1} {r = r} {r1 = r1} {f = f} {f1 = f1} {d = d} {oh = oh} p1 p2)
      has = subst (λ (s : stm.Stmt). Comes g w (λ parts. parts.form (sight g w) r f d s) (told_in oh (sight g w1) r1 f1)
      w1) (sym p1) (later (endless_comes p2 has))
  form_comes {g} (Form.times_stops {s = s} {w = w} {w1 = w1} {r = r} {r1 = r1} {f = f} {d = d} {z = z} p1 p2)
      has = subst (λ (s : stm.Stmt). Comes g w (λ parts. parts.form (sight g w) r f d s)
      (told_in (Err z) (sight g w1) r1 f) w1) (sym p1) (later (after_in_stop _ _ (number_val_comes p2 (stopped has))))
  form_comes {g} (Form.times {s = s} {ss = ss} {w = w} {w1 = w1} {w2 = w2} {r = r} {r1 = r1} {r2 = r2} {f = f} {f1 = f1}
      {d = d} {co = co} {oh = oh} p1 p2 p3 p4) has = subst
      (λ (s : stm.Stmt). Comes g w (λ parts. parts.form (sight g w) r f d s) (told_in oh (sight g w2) r2 f1) w2)
      (sym p1) (later (after_in_ok _ _ (number_val_comes p2 given)
      (subst (λ (co : CounterState). Comes g w1 (λ parts. parts.counts (sight g w1) r1 f d None co ss)
      (told_in oh (sight g w2) r2 f1) w2) p3 (counts_comes p4 has))))
  form_comes {g} (Form.while {s = s} {w = w} {w1 = w1} {r = r} {r1 = r1} {f = f} {f1 = f1} {d = d} {oh = oh} p1 p2)
      has = subst (λ (s : stm.Stmt). Comes g w (λ parts. parts.form (sight g w) r f d s) (told_in oh (sight g w1) r1 f1)
      w1) (sym p1) (later (while_comes p2 has))
  form_comes {g} (Form.until {s = s} {w = w} {w1 = w1} {r = r} {r1 = r1} {f = f} {f1 = f1} {d = d} {oh = oh} p1 p2)
      has = subst (λ (s : stm.Stmt). Comes g w (λ parts. parts.form (sight g w) r f d s) (told_in oh (sight g w1) r1 f1)
      w1) (sym p1) (later (while_comes p2 has))
  form_comes {g} (Form.up_stops {s = s} {w = w} {w1 = w1} {r = r} {r1 = r1} {f = f} {d = d} {z = z} p1 p2) has = subst
      (λ (s : stm.Stmt). Comes g w (λ parts. parts.form (sight g w) r f d s) (told_in (Err z) (sight g w1) r1 f) w1)
      (sym p1) (later (after_in_stop _ _ (bounds_comes p2 (stopped has))))
  form_comes {g} (Form.up {s = s} {w = w} {w2 = w2} {r = r} {r2 = r2} {f = f} {f1 = f1} {d = d} {oh = oh} p1 p2 p3)
      has = subst (λ (s : stm.Stmt). Comes g w (λ parts. parts.form (sight g w) r f d s) (told_in oh (sight g w2) r2 f1)
      w2) (sym p1) (later (after_in_ok _ _ (bounds_comes p2 given) (counts_comes p3 has)))
  form_comes {g} (Form.down_stops {s = s} {w = w} {w1 = w1} {r = r} {r1 = r1} {f = f} {d = d} {z = z} p1 p2) has = subst
      (λ (s : stm.Stmt). Comes g w (λ parts. parts.form (sight g w) r f d s) (told_in (Err z) (sight g w1) r1 f) w1)
      (sym p1) (later (after_in_stop _ _ (bounds_comes p2 (stopped has))))
  form_comes {g} (Form.down {s = s} {w = w} {w2 = w2} {r = r} {r2 = r2} {f = f} {f1 = f1} {d = d} {oh = oh} p1 p2 p3)
      has = subst (λ (s : stm.Stmt). Comes g w (λ parts. parts.form (sight g w) r f d s) (told_in oh (sight g w2) r2 f1)
      w2) (sym p1) (later (after_in_ok _ _ (bounds_comes p2 given) (counts_comes p3 has)))

  pub alters_comes : {g : Sight} {w w2 : History} {r r2 : RunState} {f f2 : Frame} {d : ℕ} {op : Op} {e : tree.Expr}
      {ct : tree.Container} {oh : Result How Stop} → Alters w r f d op e ct oh w2 r2 f2 → HasMemory oh
      → Comes g w (λ parts. parts.alters (sight g w) r f d op e ct) (told_in oh (sight g w2) r2 f2) w2
  alters_comes Alters.alter_memory has = absurd (has refl)
  alters_comes (Alters.alter_stops p1) has = later (after_in_stop _ _ (val_comes p1 (stopped has)))
  alters_comes (Alters.alter_nowhere p1 p2) has =
      later (after_in_ok _ _ (val_comes p1 given) (after_in_stop _ _ (resolves_comes p2 (stopped has))))
  alters_comes (Alters.alter_fails p1 p2 p3) has = later
      (after_in_ok _ _ (val_comes p1 given)
      (after_in_ok _ _ (resolves_comes p2 given) (after_run_stop _ (edits p3 (stopped has)))))
  alters_comes (Alters.alter p1 p2 p3) has = later
      (after_in_ok _ _ (val_comes p1 given)
      (after_in_ok _ _ (resolves_comes p2 given) (after_run_ok _ (edits p3 given) (done))))

  pub block_comes : {g : Sight} {w w2 : History} {r r2 : RunState} {f f2 : Frame} {d : ℕ} {ss : stm.Stmts}
      {oh : Result How Stop} → Block w r f d ss oh w2 r2 f2 → HasMemory oh
      → Comes g w (λ parts. parts.block (sight g w) r f d ss) (told_in oh (sight g w2) r2 f2) w2
  block_comes Block.block_memory has = absurd (has refl)
  block_comes {g} (Block.block_end {ss = ss} {w = w} {r = r} {f = f} {d = d} p1) has = subst
      (λ (ss : stm.Stmts). Comes g w (λ parts. parts.block (sight g w) r f d ss) (told_in (Ok Next) (sight g w) r f) w)
      (sym p1) (later (done))
  block_comes {g} (Block.block_no_step {ss = ss} {r = r} {r1 = r1} {z = z} {w = w} {f = f} {d = d} p1 p2) has = subst
      (λ (ss : stm.Stmts). Comes g w (λ parts. parts.block (sight g w) r f d ss) (told_in (Err z) (sight g w) r1 f) w)
      (sym p1) (later (after_in_stop _ _ (steps p2 (stopped has))))
  block_comes {g} (Block.block_stops {ss = ss} {r = r} {r2 = r2} {w = w} {w1 = w1} {f = f} {f1 = f1} {d = d} {z = z} p1
      p2 p3) has = subst (λ (ss : stm.Stmts). Comes g w (λ parts. parts.block (sight g w) r f d ss)
      (told_in (Err z) (sight g w1) r2 f1) w1) (sym p1)
      (later (after_in_ok _ _ (steps p2 given) (after_next_stop _ (form_comes p3 has))))
  block_comes {g} (Block.block_leaves {ss = ss} {r = r} {r2 = r2} {w = w} {w1 = w1} {f = f} {f1 = f1} {d = d} {h = h} p1
      p2 p3 p4) has = subst (λ (ss : stm.Stmts). Comes g w (λ parts. parts.block (sight g w) r f d ss)
      (told_in (Ok h) (sight g w1) r2 f1) w1) (sym p1)
      (later (after_in_ok _ _ (steps p2 given) (after_next_leaves _ p4 (form_comes p3 given))))
  block_comes {g} (Block.block_goes_on {ss = ss} {r = r} {r3 = r3} {w = w} {w2 = w2} {f = f} {f2 = f2} {d = d} {oh = oh}
      p1 p2 p3 p4) has = subst (λ (ss : stm.Stmts). Comes g w (λ parts. parts.block (sight g w) r f d ss)
      (told_in oh (sight g w2) r3 f2) w2) (sym p1)
      (later (after_in_ok _ _ (steps p2 given) (after_next_ok _ (form_comes p3 given) (block_comes p4 has))))

  pub do_text_comes : {g : Sight} {w w2 : History} {r r2 : RunState} {f f2 : Frame} {d : ℕ} {t : List ℕ}
      {oh : Result How Stop} → DoText w r f d t oh w2 r2 f2 → HasMemory oh
      → Comes g w (λ parts. parts.do_text (sight g w) r f d t) (told_in oh (sight g w2) r2 f2) w2
  do_text_comes DoText.do_memory has = absurd (has refl)
  do_text_comes {g} (DoText.do_too_deep {d = d} {w = w} {r = r} {f = f} {t = t} p1) has = subst
      (λ (d : ℕ). Comes g w (λ parts. parts.do_text (sight g w) r f d t)
      (told_in (Err (Faults TooDeep)) (sight g w) r f) w) (sym p1) (later (done))
  do_text_comes (DoText.do_syntax p1 p2) has =
      later (choose_true _ _ (below p1) (after_in_stop _ _ (parses_typed_lines p2 (stopped has))))
  do_text_comes (DoText.do_lines p1 p2 p3) has =
      later (choose_true _ _ (below p1) (after_in_ok _ _ (parses_typed_lines p2 given) (block_comes p3 has)))

  pub endless_comes : {g : Sight} {w w2 : History} {r r2 : RunState} {f f2 : Frame} {d : ℕ} {ss : stm.Stmts}
      {oh : Result How Stop} → Endless w r f d ss oh w2 r2 f2 → HasMemory oh
      → Comes g w (λ parts. parts.endless (sight g w) r f d ss) (told_in oh (sight g w2) r2 f2) w2
  endless_comes Endless.endless_memory has = absurd (has refl)
  endless_comes (Endless.endless_no_step p1) has = later (after_in_stop _ _ (steps p1 (stopped has)))
  endless_comes (Endless.endless_stops p1 p2) has =
      later (after_in_ok _ _ (steps p1 given) (after_run_stop _ (block_comes p2 has)))
  endless_comes (Endless.endless_leaves p1 p2 p3) has =
      later (after_in_ok _ _ (steps p1 given) (after_run_ok _ (block_comes p2 given) (maybe_some _ _ p3 (done))))
  endless_comes (Endless.endless_goes_on p1 p2 p3 p4) has = later
      (after_in_ok _ _ (steps p1 given)
      (after_run_ok _ (block_comes p2 given) (maybe_none _ _ p3 (endless_comes p4 has))))

  pub while_comes : {g : Sight} {w w2 : History} {r r2 : RunState} {f f2 : Frame} {d : ℕ} {b : Bool} {e : tree.Expr}
      {ss : stm.Stmts} {oh : Result How Stop} → While w r f d b e ss oh w2 r2 f2 → HasMemory oh
      → Comes g w (λ parts. parts.while (sight g w) r f d b e ss) (told_in oh (sight g w2) r2 f2) w2
  while_comes While.while_memory has = absurd (has refl)
  while_comes (While.while_no_step p1) has = later (after_in_stop _ _ (steps p1 (stopped has)))
  while_comes (While.while_test_stops p1 p2) has =
      later (after_in_ok _ _ (steps p1 given) (after_in_stop _ _ (truth_val_comes p2 (stopped has))))
  while_comes (While.while_ends p1 p2 p3) has = later
      (after_in_ok _ _ (steps p1 given) (after_in_ok _ _ (truth_val_comes p2 given) (choose_false _ _ p3 (done))))
  while_comes (While.while_stops p1 p2 p3 p4) has = later
      (after_in_ok _ _ (steps p1 given)
      (after_in_ok _ _ (truth_val_comes p2 given) (choose_true _ _ p3 (after_run_stop _ (block_comes p4 has)))))
  while_comes (While.while_leaves p1 p2 p3 p4 p5) has = later
      (after_in_ok _ _ (steps p1 given)
      (after_in_ok _ _ (truth_val_comes p2 given)
      (choose_true _ _ p3 (after_run_ok _ (block_comes p4 given) (maybe_some _ _ p5 (done))))))
  while_comes (While.while_goes_on p1 p2 p3 p4 p5 p6) has = later
      (after_in_ok _ _ (steps p1 given)
      (after_in_ok _ _ (truth_val_comes p2 given)
      (choose_true _ _ p3 (after_run_ok _ (block_comes p4 given) (maybe_none _ _ p5 (while_comes p6 has))))))

  pub bounds_comes : {g : Sight} {w w2 : History} {r r2 : RunState} {f : Frame} {d : ℕ} {e e2 : tree.Expr} {b : Bool}
      {oco : Result CounterState Stop} → Bounds w r f d e e2 b oco w2 r2 → HasMemory oco
      → Comes g w (λ parts. parts.bounds (sight g w) r f d e e2 b) (told oco (sight g w2) r2) w2
  bounds_comes Bounds.bounds_memory has = absurd (has refl)
  bounds_comes (Bounds.start_stops p1) has = later (after_stop _ (val_comes p1 (stopped has)))
  bounds_comes (Bounds.bound_stops p1 p2) has =
      later (after_ok _ (val_comes p1 given) (after_stop _ (val_comes p2 (stopped has))))
  bounds_comes (Bounds.bounds p1 p2 p3) has =
      later (after_ok _ (val_comes p1 given) (after_ok _ (val_comes p2 given) (yields p3 has)))

  pub counts_comes : {g : Sight} {w w2 : History} {r r2 : RunState} {f f2 : Frame} {d : ℕ} {on : Option (List ℕ)}
      {co : CounterState} {ss : stm.Stmts} {oh : Result How Stop} → Counts w r f d on co ss oh w2 r2 f2 → HasMemory oh
      → Comes g w (λ parts. parts.counts (sight g w) r f d on co ss) (told_in oh (sight g w2) r2 f2) w2
  counts_comes Counts.counts_memory has = absurd (has refl)
  counts_comes (Counts.counts_no_step p1) has = later (after_in_stop _ _ (steps p1 (stopped has)))
  counts_comes (Counts.counts_end p1 p2) has = later (after_in_ok _ _ (steps p1 given) (choose_true _ _ p2 (done)))
  counts_comes (Counts.counts_stop p1 p2 p3 p4) has = later
      (after_in_ok _ _ (steps p1 given)
      (choose_false _ _ p2 (after_run_ok _ (assigns p3) (after_run_stop _ (block_comes p4 has)))))
  counts_comes (Counts.counts_leave p1 p2 p3 p4 p5) has = later
      (after_in_ok _ _ (steps p1 given)
      (choose_false _ _ p2 (after_run_ok _ (assigns p3)
      (after_run_ok _ (block_comes p4 given) (maybe_some _ _ p5 (done))))))
  counts_comes {g} (Counts.counts_go_on {r2 = r2} {r3 = r3} {co1 = co1} {w2 = w2} {w3 = w3} {f2 = f2} {f3 = f3}
      {on = on} {d = d} {ss = ss} {oh = oh} p1 p2 p3 p4 p5 p6 p7) has = later
      (after_in_ok _ _ (steps p1 given)
      (choose_false _ _ p2 (after_run_ok _ (assigns p3)
      (after_run_ok _ (block_comes p4 given)
      (maybe_none _ _ p5 (subst (λ (co1 : CounterState). Comes g w2
      (λ parts. parts.counts (sight g w2) r2 f2 d on co1 ss) (told_in oh (sight g w3) r3 f3) w3) p6
      (counts_comes p7 has)))))))

  pub calls_comes : {g : Sight} {w w2 : History} {r r2 : RunState} {f : Frame} {d i : ℕ} {n : List ℕ} {es : tree.Exprs}
      {cl : HandlerKind} {o : Result (List ℕ) Stop} → Calls w r f d i n es cl o w2 r2 → HasMemory o
      → Comes g w (λ parts. parts.calls (sight g w) r f d i n es cl) (told o (sight g w2) r2) w2
  calls_comes Calls.calls_memory has = absurd (has refl)
  calls_comes (Calls.calls_stop p1) has = later (after_stop _ (vals_comes p1 (stopped has)))
  calls_comes (Calls.calls p1 p2) has = later (after_ok _ (vals_comes p1 given) (sends_comes p2 has))

  pub sends_text_comes : {g : Sight} {w w2 : History} {r r2 : RunState} {f : Frame} {d i : ℕ} {t : List ℕ}
      {o : Result (List ℕ) Stop} → SendsText w r f d i t o w2 r2 → HasMemory o
      → Comes g w (λ parts. parts.sends_text (sight g w) r f d i t) (told o (sight g w2) r2) w2
  sends_text_comes SendsText.send_memory has = absurd (has refl)
  sends_text_comes (SendsText.send_syntax p1) has = later (after_stop _ (parses_sent_message p1 (stopped has)))
  sends_text_comes (SendsText.sends_text p1 p2) has =
      later (after_ok _ (parses_sent_message p1 given) (calls_comes p2 has))

  pub sends_comes : {g : Sight} {w w2 : History} {r r2 : RunState} {f : Frame} {d i : ℕ} {n : List ℕ}
      {vs : List (List ℕ)} {cl : HandlerKind} {o : Result (List ℕ) Stop} → Sends w r f d i n vs cl o w2 r2 → HasMemory o
      → Comes g w (λ parts. parts.sends (sight g w) r f d i n vs cl) (told o (sight g w2) r2) w2
  sends_comes Sends.sends_memory has = absurd (has refl)
  sends_comes (Sends.sends_no_step p1) has = later (after_stop _ (steps p1 (stopped has)))
  sends_comes {g} (Sends.sends {r1 = r1} {r2 = r2} {r3 = r3} {n = n} {is = is} {i = i} {d = d} {w = w} {w1 = w1} {f = f}
      {vs = vs} {cl = cl} {o = o} p1 p2 p3 p4) has = later
      (after_ok _ (steps p1 given) (subst
      (λ (is : List ℕ). Comes g w (λ parts. parts.along (sight g w) (noted r1 n i) f d i is n vs cl)
      (told o (sight g w1) r3) w1) p3
      (subst (λ (r2 : RunState). Comes g w (λ parts. parts.along (sight g w) r2 f d i is n vs cl)
      (told o (sight g w1) r3) w1) p2 (along_comes p4 has))))

  pub along_comes : {g : Sight} {w w2 : History} {r r2 : RunState} {f : Frame} {d i : ℕ} {is n : List ℕ}
      {vs : List (List ℕ)} {cl : HandlerKind} {o : Result (List ℕ) Stop} → Along w r f d i is n vs cl o w2 r2
      → HasMemory o → Comes g w (λ parts. parts.along (sight g w) r f d i is n vs cl) (told o (sight g w2) r2) w2
  along_comes Along.along_memory has = absurd (has refl)
  along_comes (Along.along_broken p1) has = later (after_stop _ (finds p1 (stopped has)))
  along_comes {g} (Along.along_too_deep {w = w} {is = is} {n = n} {cl = cl} {d = d} {i = i} {r = r} {f = f} {vs = vs} p1
      p2) has = subst (λ (d : ℕ). Comes g w (λ parts. parts.along (sight g w) r f d i is n vs cl)
      (told (Err (Faults TooDeep)) (sight g w) r) w) (sym p2) (later (after_ok _ (finds p1 given) (done)))
  along_comes {g} (Along.along_stops {w = w} {w1 = w1} {fd = fd} {d = d} {f1 = f1} {f2 = f2} {r = r} {r1 = r1} {z = z}
      p1 p2 p3 p4) has = later (after_ok _ (finds p1 given)
      (choose_true _ _ (below p2) (after_lines_stop _
      (subst (λ (f1 : Frame). Comes g w (λ parts. parts.block (sight g w) r f1 (d + 1) (lines_of fd.handler))
      (told_in (Err z) (sight g w1) r1 f2) w1) p3 (block_comes p4 (stopped has))))))
  along_comes {g} (Along.along_ends {w = w} {w1 = w1} {fd = fd} {d = d} {f1 = f1} {f2 = f2} {r = r} {r1 = r1} {h = h} p1
      p2 p3 p4 p5) has = later (after_ok _ (finds p1 given)
      (choose_true _ _ (below p2) (after_lines_ok _
      (subst (λ (f1 : Frame). Comes g w (λ parts. parts.block (sight g w) r f1 (d + 1) (lines_of fd.handler))
      (told_in (Ok h) (sight g w1) r1 f2) w1) p3 (block_comes p4 given)) (maybe_some _ _ p5 (done)))))
  along_comes {g} (Along.along_passes {w = w} {w1 = w1} {w2 = w2} {n = n} {is1 = is1} {cl = cl} {fd = fd} {d = d}
      {i = i} {f1 = f1} {f2 = f2} {f = f} {vs = vs} {r = r} {r1 = r1} {r2 = r2} {o = o} p1 p2 p3 p4 p5 p6) has = later
      (after_ok _ (finds p1 given) (choose_true _ _ (below p2)
      (after_lines_ok _ (subst (λ (f1 : Frame). Comes g w
      (λ parts. parts.block (sight g w) r f1 (d + 1) (lines_of fd.handler)) (told_in (Ok Pass) (sight g w1) r1 f2) w1)
      p3 (block_comes p4 given)) (subst
      (λ (is1 : List ℕ). Comes g w1 (λ parts. parts.along (sight g w1) r1 f d i is1 n vs cl) (told o (sight g w2) r2)
      w2) p5 (along_comes p6 has)))))
  along_comes (Along.along_unhandled p1 p2) has = later (after_ok _ (finds p1 given) (outside_comes p2 has))

  pub outside_comes : {g : Sight} {w w2 : History} {r r2 : RunState} {f : Frame} {d : ℕ} {n : List ℕ}
      {vs : List (List ℕ)} {cl : HandlerKind} {o : Result (List ℕ) Stop} → Outside w r f d n vs cl o w2 r2 → HasMemory o
      → Comes g w (λ parts. parts.outside (sight g w) r f d n vs cl) (told o (sight g w2) r2) w2
  outside_comes Outside.outside_memory has = absurd (has refl)
  outside_comes (Outside.no_external p1 p2) has = later (maybe_none _ _ p1 (built_in_gives_comes p2 has))
  outside_comes (Outside.external_stops p1 p2) has =
      later (maybe_some _ _ p1 (after_stop _ (converses_comes p2 (stopped has) (named_there _ _ _ p1))))
  outside_comes (Outside.external_ends p1 p2 p3 p4) has = later
      (maybe_some _ _ p1 (after_ok _ (converses_comes p2 given (named_there _ _ _ p1))
      (choose_false _ _ p3 (gives_outcome p4))))
  outside_comes (Outside.external_passes p1 p2 p3 p4) has = later
      (maybe_some _ _ p1 (after_ok _ (converses_comes p2 given (named_there _ _ _ p1))
      (choose_true _ _ p3 (built_in_gives_comes p4 has))))

  pub built_in_gives_comes : {g : Sight} {w w2 : History} {r r2 : RunState} {f : Frame} {d : ℕ} {n : List ℕ}
      {vs : List (List ℕ)} {cl : HandlerKind} {o : Result (List ℕ) Stop} → BuiltInGives w r f d n vs cl o w2 r2
      → HasMemory o → Comes g w (λ parts. parts.built_in_gives (sight g w) r f d n vs cl) (told o (sight g w2) r2) w2
  built_in_gives_comes BuiltInGives.built_in_memory has = absurd (has refl)
  built_in_gives_comes (BuiltInGives.value_call p1 p2 p3) has =
      later (maybe_some _ _ p1 (maybe_some _ _ p2 (text_val_comes p3 has)))
  built_in_gives_comes (BuiltInGives.value_arguments p1 p2) has = later (maybe_some _ _ p1 (maybe_none _ _ p2 (done)))
  built_in_gives_comes (BuiltInGives.function_call p1 p2) has = later (maybe_some _ _ p1 (yields p2 has))
  built_in_gives_comes (BuiltInGives.menu_unknown p1 p2) has = later (maybe_some _ _ p1 (maybe_none _ _ p2 (done)))
  built_in_gives_comes (BuiltInGives.menu_item p1 p2 p3) has =
      later (maybe_some _ _ p1 (maybe_some _ _ p2 (menu_comes p3 has)))
  built_in_gives_comes (BuiltInGives.ignored_message p1 p2) has = later (maybe_none _ _ p1 (choose_true _ _ p2 (done)))
  built_in_gives_comes (BuiltInGives.not_understood p1 p2) has = later (maybe_none _ _ p1 (choose_false _ _ p2 (done)))

  pub system_comes : {g : Sight} {w w2 : History} {r r2 : RunState} {f : Frame} {d i : ℕ} {mg : SystemMessage}
      {o : Result (List ℕ) Stop} → System w r f d i mg o w2 r2 → HasMemory o
      → Comes g w (λ parts. parts.system (sight g w) r f d i mg) (told o (sight g w2) r2) w2
  system_comes System.system_memory has = absurd (has refl)
  system_comes (System.system_locked p1) has = later (choose_true _ _ p1 (done))
  system_comes {g} (System.system {r = r} {r1 = r1} {n = n} {w = w} {w1 = w1} {f = f} {d = d} {i = i} {o = o} p1 p2 p3)
      has = later (choose_false _ _ p1
      (subst (λ (n : List ℕ). Comes g w (λ parts. parts.sends (sight g w) r f d i n [] Command) (told o (sight g w1) r1)
      w1) p2 (sends_comes p3 has)))

  pub systems_comes : {g : Sight} {w w2 : History} {r r2 : RunState} {f : Frame} {d : ℕ} {ms : List SystemMessage}
      {o : Result (List ℕ) Stop} → Systems w r f d ms o w2 r2 → HasMemory o
      → Comes g w (λ parts. parts.systems (sight g w) r f d ms) (told o (sight g w2) r2) w2
  systems_comes Systems.systems_memory has = absurd (has refl)
  systems_comes {g} (Systems.systems_done {ms = ms} {w = w} {r = r} {f = f} {d = d} p1) has = subst
      (λ (ms : List SystemMessage). Comes g w (λ parts. parts.systems (sight g w) r f d ms) (told (Ok []) (sight g w) r)
      w) (sym p1) (later (done))
  systems_comes {g} (Systems.systems_stop {ms = ms} {mg = mg} {i = i} {d = d} {w = w} {w1 = w1} {r = r} {r1 = r1}
      {f = f} {z = z} p1 p2 p3) has = subst
      (λ (ms : List SystemMessage). Comes g w (λ parts. parts.systems (sight g w) r f d ms)
      (told (Err z) (sight g w1) r1) w1) (sym p1)
      (later (after_stop _ (subst (λ (i : ℕ). Comes g w (λ parts. parts.system (sight g w) r f d i mg)
      (told (Err z) (sight g w1) r1) w1) p2 (system_comes p3 has))))
  systems_comes {g} (Systems.systems_more {ms = ms} {mg = mg} {i = i} {d = d} {w = w} {w1 = w1} {w2 = w2} {r = r}
      {r1 = r1} {r2 = r2} {f = f} {v = v} {o = o} p1 p2 p3 p4) has = subst
      (λ (ms : List SystemMessage). Comes g w (λ parts. parts.systems (sight g w) r f d ms) (told o (sight g w2) r2) w2)
      (sym p1) (later (after_ok _ (subst
      (λ (i : ℕ). Comes g w (λ parts. parts.system (sight g w) r f d i mg) (told (Ok v) (sight g w1) r1) w1) p2
      (system_comes p3 given)) (systems_comes p4 has)))

  pub goes_comes : {g : Sight} {w w2 : History} {r r2 : RunState} {f : Frame} {d i : ℕ} {o : Result (List ℕ) Stop}
      → Goes w r f d i o w2 r2 → HasMemory o
      → Comes g w (λ parts. parts.goes (sight g w) r f d i) (told o (sight g w2) r2) w2
  goes_comes Goes.go_memory has = absurd (has refl)
  goes_comes (Goes.go_stays p1) has = later (choose_true _ _ p1 (done))
  goes_comes {g} (Goes.go_close_stops {d = d} {w = w} {w1 = w1} {b = b} {r = r} {r1 = r1} {f = f} {z = z} p1 p2 p3)
      has = later (choose_false _ _ p1
      (after_stop _ (subst (λ (b : Bool). Comes g w (λ parts. parts.systems (sight g w) r f d (closing b))
      (told (Err z) (sight g w1) r1) w1) p2 (systems_comes p3 has))))
  goes_comes {g} (Goes.go_gone {d = d} {w = w} {w1 = w1} {b = b} {r = r} {r1 = r1} {f = f} {v = v} p1 p2 p3 p4)
      has = later (choose_false _ _ p1
      (after_ok _ (subst (λ (b : Bool). Comes g w (λ parts. parts.systems (sight g w) r f d (closing b))
      (told (Ok v) (sight g w1) r1) w1) p2 (systems_comes p3 given)) (choose_false _ _ p4 (done))))
  goes_comes {g} (Goes.go_arrives {d = d} {w = w} {w1 = w1} {w2 = w2} {w3 = w3} {b = b} {r = r} {r1 = r1} {r2 = r2}
      {f = f} {v = v} {o = o} p1 p2 p3 p4 p5 p6) has = later
      (choose_false _ _ p1 (after_ok _
      (subst (λ (b : Bool). Comes g w (λ parts. parts.systems (sight g w) r f d (closing b))
      (told (Ok v) (sight g w1) r1) w1) p2 (systems_comes p3 given))
      (choose_true _ _ p4 (after_ok _ (makes {r = r1} p5)
      (subst (λ (b : Bool). Comes g w2 (λ parts. parts.systems (sight g w2) r1 f d (opening b)) (told o (sight g w3) r2)
      w3) p2 (systems_comes p6 has))))))

  pub menu_comes : {g : Sight} {w w2 : History} {r r2 : RunState} {f : Frame} {d : ℕ} {it : Item}
      {o : Result (List ℕ) Stop} → Menu w r f d it o w2 r2 → HasMemory o
      → Comes g w (λ parts. parts.menu (sight g w) r f d it) (told o (sight g w2) r2) w2
  menu_comes Menu.menu_memory has = absurd (has refl)
  menu_comes {g} (Menu.card_close_stops {it = it} {w = w} {w1 = w1} {r = r} {r1 = r1} {f = f} {d = d} {z = z} p1 p2)
      has = subst (λ (it : Item). Comes g w (λ parts. parts.menu (sight g w) r f d it) (told (Err z) (sight g w1) r1)
      w1) (sym p1) (later (after_stop _ (systems_comes p2 has)))
  menu_comes {g} (Menu.card_full {it = it} {w = w} {w2 = w2} {r = r} {r1 = r1} {f = f} {d = d} {z = z} p1 p2 p3)
      has = subst (λ (it : Item). Comes g w (λ parts. parts.menu (sight g w) r f d it) (told (Err z) (sight g w2) r1)
      w2) (sym p1) (later (after_ok _ (systems_comes p2 given) (after_stop _ (adds p3 (stopped has)))))
  menu_comes {g} (Menu.new_card {it = it} {w = w} {w3 = w3} {r = r} {r2 = r2} {f = f} {d = d} {o = o} p1 p2 p3 p4)
      has = subst (λ (it : Item). Comes g w (λ parts. parts.menu (sight g w) r f d it) (told o (sight g w3) r2) w3)
      (sym p1) (later (after_ok _ (systems_comes p2 given) (after_ok _ (adds p3 given) (systems_comes p4 has))))
  menu_comes {g} (Menu.background_close_stops {it = it} {w = w} {w1 = w1} {r = r} {r1 = r1} {f = f} {d = d} {z = z} p1
      p2) has = subst (λ (it : Item). Comes g w (λ parts. parts.menu (sight g w) r f d it)
      (told (Err z) (sight g w1) r1) w1) (sym p1) (later (after_stop _ (systems_comes p2 has)))
  menu_comes {g} (Menu.background_full {it = it} {w = w} {w2 = w2} {r = r} {r1 = r1} {f = f} {d = d} {z = z} p1 p2 p3)
      has = subst (λ (it : Item). Comes g w (λ parts. parts.menu (sight g w) r f d it) (told (Err z) (sight g w2) r1)
      w2) (sym p1) (later (after_ok _ (systems_comes p2 given) (after_stop _ (adds p3 (stopped has)))))
  menu_comes {g} (Menu.new_background {it = it} {w = w} {w3 = w3} {r = r} {r2 = r2} {f = f} {d = d} {o = o} p1 p2 p3 p4)
      has = subst (λ (it : Item). Comes g w (λ parts. parts.menu (sight g w) r f d it) (told o (sight g w3) r2) w3)
      (sym p1) (later (after_ok _ (systems_comes p2 given) (after_ok _ (adds p3 given) (systems_comes p4 has))))
  menu_comes {g} (Menu.part_full {it = it} {pk = pk} {la = la} {w = w} {w1 = w1} {r = r} {z = z} {f = f} {d = d} p1 p2
      p3) has = subst (λ (it : Item). Comes g w (λ parts. parts.menu (sight g w) r f d it) (told (Err z) (sight g w1) r)
      w1) (sym p1) (later (after_stop _
      (subst (λ (la : LayerId). Comes g w (λ parts. add_objects (sight g w) r (NewPart la pk))
      (told (Err z) (sight g w1) r) w1) p2 (adds p3 (stopped has)))))
  menu_comes {g} (Menu.new_part {it = it} {pk = pk} {la = la} {w = w} {w1 = w1} {r = r} {f = f} {d = d} p1 p2 p3)
      has = subst (λ (it : Item). Comes g w (λ parts. parts.menu (sight g w) r f d it) (told (Ok []) (sight g w1) r) w1)
      (sym p1) (later (after_ok _ (subst
      (λ (la : LayerId). Comes g w (λ parts. add_objects (sight g w) r (NewPart la pk)) (told (Ok tt) (sight g w1) r)
      w1) p2 (adds p3 given)) (done)))
  menu_comes {g} (Menu.delete_refused {it = it} {w = w} {r = r} {f = f} {d = d} p1 p2) has = subst
      (λ (it : Item). Comes g w (λ parts. parts.menu (sight g w) r f d it)
      (told (Err (Faults CantDelete)) (sight g w) r) w) (sym p1) (later (choose_false _ _ p2 (done)))
  menu_comes {g} (Menu.delete_card {it = it} {w = w} {w1 = w1} {w2 = w2} {b = b} {r = r} {r1 = r1} {f = f} {d = d}
      {o = o} p1 p2 p3 p4 p5) has = subst
      (λ (it : Item). Comes g w (λ parts. parts.menu (sight g w) r f d it) (told o (sight g w2) r1) w2) (sym p1)
      (later (choose_true _ _ p2 (after_ok _ (makes {r = r} p3)
      (subst (λ (b : Bool). Comes g w1 (λ parts. parts.systems (sight g w1) r f d (opening b)) (told o (sight g w2) r1)
      w2) p4 (systems_comes p5 has)))))

  pub converses_comes : {g : Sight} {w w2 : History} {r r2 : RunState} {d k : ℕ} {vs : List (List ℕ)}
      {odn : Result Conversed Stop} → Converses w r d k vs odn w2 r2 → HasMemory odn → HasExternal w k
      → Comes g w (λ parts. parts.converses (sight g w) r d k vs) (told odn (sight g w2) r2) w2
  converses_comes Converses.converse_memory has there = absurd (has refl)
  converses_comes (Converses.too_many_arguments p1) has there = later (choose_true _ _ (below p1) (done))
  converses_comes {g} (Converses.conversation_too_deep {vs = vs} {d = d} {k = k} {w = w} {r = r} p1 p2) has
      there = subst (λ (d : ℕ). Comes g w (λ parts. parts.converses (sight g w) r d k vs)
      (told (Err (Faults TooDeep)) (sight g w) r) w) (sym p2) (later (choose_false _ _ (at_least p1) (done)))
  converses_comes {g} (Converses.converses {d = d} {k = k} {inp = inp} {w = w} {w1 = w1} {r = r} {r1 = r1} {odn = odn}
      p1 p2 p3 p4) has there = later (choose_false _ _ (at_least p1)
      (choose_true _ _ (below p2) (subst
      (λ (inp : Input). Comes g w (λ parts. parts.talks (sight g w) r (d + 1) k inp) (told odn (sight g w1) r1) w1) p3
      (talks_comes p4 has there))))

  pub talks_comes : {g : Sight} {w w2 : History} {r r2 : RunState} {d k : ℕ} {inp : Input} {odn : Result Conversed Stop}
      → Talks w r d k inp odn w2 r2 → HasMemory odn → HasExternal w k
      → Comes g w (λ parts. parts.talks (sight g w) r d k inp) (told odn (sight g w2) r2) w2
  talks_comes Talks.talk_memory has there = absurd (has refl)
  talks_comes (Talks.talk_no_step p1) has there = later (after_stop _ (steps p1 (stopped has)))
  talks_comes {g} (Talks.talk_done {r = r} {r1 = r1} {w = w} {w1 = w1} {k = k} {d = d} {inp = inp} {ask = ask} {dn = dn}
      p1 p2 p3 p4) has there = subst (λ (dn : Conversed). Comes g w (λ parts. parts.talks (sight g w) r d k inp)
      (told (Ok dn) (sight g w1) r1) w1) (sym p4)
      (later (after_ok _ (steps p1 given)
      (after_ok _ (subst (λ (ask : Ask). Comes g w (λ parts. turn (sight g w) r1 k inp) (told (Ok ask) (sight g w1) r1)
      w1) p3 (takes_turn p2 there)) (done))))
  talks_comes {g} (Talks.talk_fails {r1 = r1} {w = w} {w1 = w1} {k = k} {inp = inp} {ask = ask} p1 p2 p3) has
      there = later (after_ok _ (steps p1 given)
      (after_ok _ (subst (λ (ask : Ask). Comes g w (λ parts. turn (sight g w) r1 k inp) (told (Ok ask) (sight g w1) r1)
      w1) p3 (takes_turn p2 there)) (done)))
  talks_comes (Talks.talk_stops p1 p2 p3) has there = later
      (after_ok _ (steps p1 given) (after_ok _ (takes_turn p2 there)
      (talk_back (asks_back p3 (stopped has)) (after_stop _ (calls_back_comes p3 (stopped has))))))
  talks_comes {g} (Talks.talk_goes_on p1 p2 p3 p4) has there = later
      (after_ok _ (steps p1 given) (after_ok _ (takes_turn p2 there)
      (talk_back (asks_back p3 given)
      (after_ok _ (calls_back_comes p3 given)
      (talks_comes p4 has (there_after there p2 (calls_back_comes {g = g} p3 given).kept))))))

  pub calls_back_comes : {g : Sight} {w w2 : History} {r r2 : RunState} {d : ℕ} {ask : Ask} {oin : Result Input Stop}
      → CallsBack w r d ask oin w2 r2 → HasMemory oin
      → Comes g w (λ parts. parts.calls_back (sight g w) r d ask) (told oin (sight g w2) r2) w2
  calls_back_comes CallsBack.call_back_memory has = absurd (has refl)
  calls_back_comes {g} (CallsBack.message_syntax {ask = ask} {z = z} {w = w} {r = r} {d = d} p1 p2) has = subst
      (λ (ask : Ask). Comes g w (λ parts. parts.calls_back (sight g w) r d ask) (told (Err z) (sight g w) r) w) (sym p1)
      (later (after_stop _ (parses_typed_lines p2 (stopped has))))
  calls_back_comes {g} (CallsBack.message_stops {ask = ask} {ss = ss} {f = f} {f1 = f1} {w = w} {w1 = w1} {r = r}
      {r1 = r1} {d = d} {z = z} p1 p2 p3 p4) has = subst
      (λ (ask : Ask). Comes g w (λ parts. parts.calls_back (sight g w) r d ask) (told (Err z) (sight g w1) r1) w1)
      (sym p1) (later (after_ok _ (parses_typed_lines p2 given)
      (after_lines_stop _ (subst (λ (f : Frame). Comes g w (λ parts. parts.block (sight g w) r f d ss)
      (told_in (Err z) (sight g w1) r1 f1) w1) p3 (block_comes p4 (stopped has))))))
  calls_back_comes {g} (CallsBack.message_runs {ask = ask} {vs = vs} {t = t} {ss = ss} {f = f} {f1 = f1} {w = w}
      {w1 = w1} {r = r} {r1 = r1} {d = d} {h = h} {inp = inp} p1 p2 p3 p4 p5) has = subst
      (λ (ask : Ask). Comes g w (λ parts. parts.calls_back (sight g w) r d ask) (told (Ok inp) (sight g w1) r1) w1)
      (sym p1) (subst (λ (inp : Input). Comes g w (λ parts. parts.calls_back (sight g w) r d (SendCardMessage vs t))
      (told (Ok inp) (sight g w1) r1) w1) (sym p5)
      (later (after_ok _ (parses_typed_lines p2 given)
      (after_lines_ok _ (subst (λ (f : Frame). Comes g w (λ parts. parts.block (sight g w) r f d ss)
      (told_in (Ok h) (sight g w1) r1 f1) w1) p3 (block_comes p4 given)) (done)))))
  calls_back_comes {g} (CallsBack.eval_syntax {ask = ask} {z = z} {w = w} {r = r} {d = d} p1 p2) has = subst
      (λ (ask : Ask). Comes g w (λ parts. parts.calls_back (sight g w) r d ask) (told (Err z) (sight g w) r) w) (sym p1)
      (later (after_stop _ (parses_expression p2 (stopped has))))
  calls_back_comes {g} (CallsBack.eval_stops {ask = ask} {e = e} {f = f} {w = w} {w1 = w1} {r = r} {r1 = r1} {d = d}
      {z = z} p1 p2 p3 p4) has = subst
      (λ (ask : Ask). Comes g w (λ parts. parts.calls_back (sight g w) r d ask) (told (Err z) (sight g w1) r1) w1)
      (sym p1) (later (after_ok _ (parses_expression p2 given)
      (after_stop _ (subst (λ (f : Frame). Comes g w (λ parts. parts.val (sight g w) r f d e)
      (told (Err z) (sight g w1) r1) w1) p3 (val_comes p4 (stopped has))))))
  calls_back_comes {g} (CallsBack.evaluates {ask = ask} {vs = vs} {t = t} {v = v} {e = e} {f = f} {w = w} {w1 = w1}
      {r = r} {r1 = r1} {d = d} {inp = inp} p1 p2 p3 p4 p5) has = subst
      (λ (ask : Ask). Comes g w (λ parts. parts.calls_back (sight g w) r d ask) (told (Ok inp) (sight g w1) r1) w1)
      (sym p1) (subst (λ (inp : Input). Comes g w (λ parts. parts.calls_back (sight g w) r d (EvalExpr vs t))
      (told (Ok inp) (sight g w1) r1) w1) (sym p5)
      (later (after_ok _ (parses_expression p2 given)
      (after_ok _ (subst (λ (f : Frame). Comes g w (λ parts. parts.val (sight g w) r f d e)
      (told (Ok v) (sight g w1) r1) w1) p3 (val_comes p4 given)) (done)))))
  calls_back_comes {g} (CallsBack.bad_global {ask = ask} {w = w} {r = r} {d = d} p1 p2) has = subst
      (λ (ask : Ask). Comes g w (λ parts. parts.calls_back (sight g w) r d ask)
      (told (Err (Faults BadArgument)) (sight g w) r) w) (sym p1) (later (choose_false _ _ p2 (done)))
  calls_back_comes {g} (CallsBack.global_set {ask = ask} {vs = vs} {n = n} {v = v} {f = f} {f1 = f1} {w = w} {w1 = w1}
      {inp = inp} {r = r} {d = d} p1 p2 p3 p4 p5) has = subst
      (λ (ask : Ask). Comes g w (λ parts. parts.calls_back (sight g w) r d ask) (told (Ok inp) (sight g w1) r) w1)
      (sym p1) (subst (λ (inp : Input). Comes g w (λ parts. parts.calls_back (sight g w) r d (SetGlobal vs n v))
      (told (Ok inp) (sight g w1) r) w1) (sym p5)
      (later (choose_true _ _ p2 (after_lines_ok _
      (subst (λ (f : Frame). Comes g w (λ parts. store (sight g w) r f (named f.variables n) v)
      (told_in (Ok tt) (sight g w1) r f1) w1) p3 (stores p4)) (done)))))
  calls_back_comes {g} (CallsBack.no_such_field {ask = ask} {b = b} {n = n} {f = f} {w = w} {z = z} {r = r} {d = d} p1
      p2 p3) has = subst (λ (ask : Ask). Comes g w (λ parts. parts.calls_back (sight g w) r d ask)
      (told (Err z) (sight g w) r) w) (sym p1)
      (later (after_stop _ (subst (λ (f : Frame). Comes g w
      (λ parts. told (yielded (field_named_place w.now f.variables b n)) (sight g w) r) (told (Err z) (sight g w) r) w)
      p2 (yields p3 (stopped has)))))
  calls_back_comes {g} (CallsBack.field_set {ask = ask} {vs = vs} {b = b} {n = n} {v = v} {f = f} {f1 = f1} {w = w}
      {w1 = w1} {pl = pl} {inp = inp} {r = r} {d = d} p1 p2 p3 p4 p5) has = subst
      (λ (ask : Ask). Comes g w (λ parts. parts.calls_back (sight g w) r d ask) (told (Ok inp) (sight g w1) r) w1)
      (sym p1) (subst (λ (inp : Input). Comes g w (λ parts. parts.calls_back (sight g w) r d (SetFieldByName vs b n v))
      (told (Ok inp) (sight g w1) r) w1) (sym p5)
      (later (after_ok _ (subst (λ (f : Frame). Comes g w
      (λ parts. told (yielded (field_named_place w.now f.variables b n)) (sight g w) r) (told (Ok pl) (sight g w) r) w)
      p2 (yields p3 given)) (after_lines_ok _
      (subst (λ (f : Frame). Comes g w (λ parts. store (sight g w) r f pl.storage v) (told_in (Ok tt) (sight g w1) r f1)
      w1) p2 (stores p4)) (done)))))

  pub line_comes : {g : Sight} {w w2 : History} {r r2 : RunState} {ss : stm.Stmts} {ot : Result (Unit {0}) Stop}
      → Line w r ss ot w2 r2 → HasMemory ot
      → Comes g w (λ parts. parts.line (sight g w) r ss) (told ot (sight g w2) r2) w2
  line_comes Line.line_memory has = absurd (has refl)
  line_comes {g} (Line.line_stops {f = f} {f1 = f1} {w = w} {w1 = w1} {r = r} {r1 = r1} {ss = ss} {z = z} p1 p2)
      has = later (after_lines_stop _
      (subst (λ (f : Frame). Comes g w (λ parts. parts.block (sight g w) r f 0 ss) (told_in (Err z) (sight g w1) r1 f1)
      w1) p1 (block_comes p2 (stopped has))))
  line_comes {g} (Line.line {f = f} {f1 = f1} {w = w} {w1 = w1} {r = r} {r1 = r1} {ss = ss} {h = h} p1 p2) has = later
      (after_lines_ok _ (subst (λ (f : Frame). Comes g w (λ parts. parts.block (sight g w) r f 0 ss)
      (told_in (Ok h) (sight g w1) r1 f1) w1) p1 (block_comes p2 given)) (done))

  pub message_comes : {g : Sight} {w w2 : History} {r r2 : RunState} {i : ℕ} {n : List ℕ} {vs : List (List ℕ)}
      {ot : Result (Unit {0}) Stop} → Message w r i n vs ot w2 r2 → HasMemory ot
      → Comes g w (λ parts. parts.message (sight g w) r i n vs) (told ot (sight g w2) r2) w2
  message_comes Message.message_memory has = absurd (has refl)
  message_comes {g} (Message.sent_alone_stops {f = f} {w = w} {w1 = w1} {r = r} {r1 = r1} {i = i} {n = n} {vs = vs}
      {z = z} p1 p2) has = later (after_stop _
      (subst (λ (f : Frame). Comes g w (λ parts. parts.sends (sight g w) r f 0 i n vs Command)
      (told (Err z) (sight g w1) r1) w1) p1 (sends_comes p2 (stopped has))))
  message_comes {g} (Message.sent_alone {f = f} {w = w} {w1 = w1} {r = r} {r1 = r1} {i = i} {n = n} {v = v} {vs = vs} p1
      p2) has = later (after_ok _ (subst
      (λ (f : Frame). Comes g w (λ parts. parts.sends (sight g w) r f 0 i n vs Command) (told (Ok v) (sight g w1) r1)
      w1) p1 (sends_comes p2 given)) (done))

mutual
  pub refers_comes : {g : Sight} {w w2 : History} {r r2 : RunState} {pa : tree.Part} {oi : Result ℕ Stop}
      → Refers w r pa oi w2 r2 → HasMemory oi
      → Comes g w (λ parts. parts.refers (sight g w) r pa) (told oi (sight g w2) r2) w2
  refers_comes Refers.refer_memory has = absurd (has refl)
  refers_comes {g} (Refers.refer_stops {f = f} {w = w} {w1 = w1} {r = r} {r1 = r1} {pa = pa} {z = z} p1 p2) has = later
      (after_stop _ (subst (λ (f : Frame). Comes g w (λ parts. parts.part_met (sight g w) r f 0 pa)
      (told (Err z) (sight g w1) r1) w1) p1 (part_met_comes p2 (stopped has))))
  refers_comes {g} (Refers.refers {f = f} {w = w} {w1 = w1} {r = r} {r1 = r1} {pa = pa} {m = m} {i = i} p1 p2 p3)
      has = subst (λ (i : ℕ). Comes g w (λ parts. parts.refers (sight g w) r pa) (told (Ok i) (sight g w1) r1) w1)
      (sym p3) (later (after_ok _ (subst
      (λ (f : Frame). Comes g w (λ parts. parts.part_met (sight g w) r f 0 pa) (told (Ok m) (sight g w1) r1) w1) p1
      (part_met_comes p2 given)) (done)))

  pub tells_comes : {g : Sight} {w w2 : History} {r r2 : RunState} {i : ℕ} {mg : SystemMessage}
      {ot : Result (Unit {0}) Stop} → Tells w r i mg ot w2 r2 → HasMemory ot
      → Comes g w (λ parts. parts.tells (sight g w) r i mg) (told ot (sight g w2) r2) w2
  tells_comes Tells.tell_memory has = absurd (has refl)
  tells_comes (Tells.tells_nothing p1) has = later (choose_true _ _ p1 (done))
  tells_comes {g} (Tells.tells {r = r} {r1 = r1} {n = n} {w = w} {w1 = w1} {i = i} {ot = ot} p1 p2 p3) has = later
      (choose_false _ _ p1 (subst (λ (n : List ℕ). Comes g w (λ parts. parts.message (sight g w) r i n [])
      (told ot (sight g w1) r1) w1) p2 (message_comes p3 has)))

  pub tells_all_comes : {g : Sight} {w w2 : History} {r r2 : RunState} {ms : List SystemMessage}
      {ot : Result (Unit {0}) Stop} → TellsAll w r ms ot w2 r2 → HasMemory ot
      → Comes g w (λ parts. parts.tells_all (sight g w) r ms) (told ot (sight g w2) r2) w2
  tells_all_comes TellsAll.tell_all_memory has = absurd (has refl)
  tells_all_comes {g} (TellsAll.none_to_tell {ms = ms} {w = w} {r = r} p1) has = subst
      (λ (ms : List SystemMessage). Comes g w (λ parts. parts.tells_all (sight g w) r ms) (told (Ok tt) (sight g w) r)
      w) (sym p1) (later (done))
  tells_all_comes {g} (TellsAll.tell_stops {ms = ms} {w = w} {w1 = w1} {r = r} {r1 = r1} {z = z} p1 p2) has = subst
      (λ (ms : List SystemMessage). Comes g w (λ parts. parts.tells_all (sight g w) r ms) (told (Err z) (sight g w1) r1)
      w1) (sym p1) (later (after_stop _ (tells_comes p2 has)))
  tells_all_comes {g} (TellsAll.tells_on {ms = ms} {w = w} {w2 = w2} {r = r} {r2 = r2} {ot = ot} p1 p2 p3) has = subst
      (λ (ms : List SystemMessage). Comes g w (λ parts. parts.tells_all (sight g w) r ms) (told ot (sight g w2) r2) w2)
      (sym p1) (later (after_ok _ (tells_comes p2 given) (tells_all_comes p3 has)))

  pub clicks_comes : {g : Sight} {w w2 : History} {r r2 : RunState} {pa : tree.Part} {ot : Result (Unit {0}) Stop}
      → Clicks w r pa ot w2 r2 → HasMemory ot
      → Comes g w (λ parts. parts.clicks (sight g w) r pa) (told ot (sight g w2) r2) w2
  clicks_comes Clicks.click_memory has = absurd (has refl)
  clicks_comes (Clicks.click_misses p1) has = later (after_stop _ (refers_comes p1 (stopped has)))
  clicks_comes (Clicks.press_stops p1 p2) has =
      later (after_ok _ (refers_comes p1 given) (after_stop _ (tells_comes p2 has)))
  clicks_comes (Clicks.part_goes p1 p2 p3) has =
      later (after_ok _ (refers_comes p1 given) (after_ok _ (tells_comes p2 given) (choose_false _ _ p3 (done))))
  clicks_comes (Clicks.clicks p1 p2 p3 p4) has = later
      (after_ok _ (refers_comes p1 given) (after_ok _ (tells_comes p2 given) (choose_true _ _ p3 (tells_comes p4 has))))

  pub types_over_comes : {g : Sight} {w w2 : History} {r r2 : RunState} {m : Referent} {t : List ℕ}
      {ot : Result (Unit {0}) Stop} → TypesOver w r m t ot w2 r2 → HasMemory ot
      → Comes g w (λ parts. parts.types_over (sight g w) r m t) (told ot (sight g w2) r2) w2
  types_over_comes TypesOver.type_over_memory has = absurd (has refl)
  types_over_comes (TypesOver.typed_field_goes {f = f} {w = w} {r = r} {m = m} {fa = fa} p1 p2) has = later
      (computed_err _ _ (subst (λ (f : Frame). field_text w.now f.variables r.delimiter m ≡ Err fa) p1 p2) (done))
  types_over_comes {g} (TypesOver.types_over {f = f} {f1 = f1} {w = w} {w1 = w1} {w2 = w2} {r = r} {r1 = r1} {m = m}
      {v = v} {t = t} {pl = pl} {i = i} {mg = mg} {ot = ot} p1 p2 p3 p4 p5 p6 p7) has = later
      (computed_ok _ _ (subst (λ (f : Frame). field_text w.now f.variables r.delimiter m ≡ Ok v) p1 p2)
      (computed_ok _ _ p3 (after_lines_ok _
      (subst (λ (f : Frame). Comes g w (λ parts. store (sight g w) r f pl.storage t) (told_in (Ok tt) (sight g w1) r f1)
      w1) p1 (stores p4)) (subst (λ (mg : SystemMessage). Comes g w1 (λ parts. parts.tells (sight g w1) r m.object mg)
      (told ot (sight g w2) r1) w2) p6
      (subst (λ (i : ℕ). Comes g w1 (λ parts. parts.tells (sight g w1) r i mg) (told ot (sight g w2) r1) w2) p5
      (tells_comes p7 has))))))

  pub types_into_comes : {g : Sight} {w w2 : History} {r r2 : RunState} {t : List ℕ} {pa : tree.Part}
      {ot : Result (Unit {0}) Stop} → TypesInto w r t pa ot w2 r2 → HasMemory ot
      → Comes g w (λ parts. parts.types_into (sight g w) r t pa) (told ot (sight g w2) r2) w2
  types_into_comes TypesInto.type_memory has = absurd (has refl)
  types_into_comes (TypesInto.type_misses p1) has = later (after_stop _ (refers_comes p1 (stopped has)))
  types_into_comes (TypesInto.field_open_stops p1 p2 p3) has =
      later (after_ok _ (refers_comes p1 given) (choose_false _ _ p2 (after_stop _ (tells_comes p3 has))))
  types_into_comes {g} (TypesInto.types_into {w2 = w2} {w3 = w3} {r2 = r2} {r3 = r3} {m = m} {t = t} {ot = ot} p1 p2 p3
      p4 p5) has = later (after_ok _ (refers_comes p1 given)
      (choose_false _ _ p2 (after_ok _ (tells_comes p3 given)
      (subst (λ (m : Referent). Comes g w2 (λ parts. parts.types_over (sight g w2) r2 m t) (told ot (sight g w3) r3) w3)
      p4 (types_over_comes p5 has)))))

  pub acts_comes : {g : Sight} {w w2 : History} {r r2 : RunState} {ac : Action} {ot : Result (Unit {0}) Stop}
      → Acts w r ac ot w2 r2 → HasMemory ot
      → Comes g w (λ parts. parts.acts (sight g w) r ac) (told ot (sight g w2) r2) w2
  acts_comes {g} (Acts.acts_by_lines {ac = ac} {w = w} {w1 = w1} {r = r} {r1 = r1} {ot = ot} p1 p2) has = subst
      (λ (ac : Action). Comes g w (λ parts. parts.acts (sight g w) r ac) (told ot (sight g w1) r1) w1) (sym p1)
      (later (line_comes p2 has))
  acts_comes {g} (Acts.acts_by_opening {ac = ac} {w = w} {w1 = w1} {r = r} {r1 = r1} {ot = ot} p1 p2) has = subst
      (λ (ac : Action). Comes g w (λ parts. parts.acts (sight g w) r ac) (told ot (sight g w1) r1) w1) (sym p1)
      (later (tells_all_comes p2 has))
  acts_comes {g} (Acts.acts_by_click {ac = ac} {w = w} {w1 = w1} {r = r} {r1 = r1} {ot = ot} p1 p2) has = subst
      (λ (ac : Action). Comes g w (λ parts. parts.acts (sight g w) r ac) (told ot (sight g w1) r1) w1) (sym p1)
      (later (clicks_comes p2 has))
  acts_comes {g} (Acts.acts_by_typing {ac = ac} {w = w} {w1 = w1} {r = r} {r1 = r1} {ot = ot} p1 p2) has = subst
      (λ (ac : Action). Comes g w (λ parts. parts.acts (sight g w) r ac) (told ot (sight g w1) r1) w1) (sym p1)
      (later (types_into_comes p2 has))
