-- Written by tools/meaning/laws.py from tools/meaning/meaning.rules.
-- A run goes on: no step comes back, and what is shown and sent only grows.
use Rattle.std.proofs.Common.{refl}
use Rattle.preservation.specs.Laws.{HasMemory, GoesOn}
use Rattle.preservation.proofs.Ends.{given, stopped, faulted}
use Rattle.preservation.proofs.Going.{goes_nowhere, goes_trans, goes_by_step, goes_by_shows, goes_by_noted}
use Rattle.preservation.proofs.Going.{goes_by_property, goes_by_ends, goes_by_returned}
use Rattle.std.specs.Prelude.{ℕ, ℤ, List, Bool, Option, Result}
use Rattle.ht_values.specs.declared.operator.Op.{Op}
use Rattle.ht_grammar.specs.declared.vocabulary.HandlerKind.{HandlerKind}
use Rattle.ht_grammar.specs.declared.vocabulary.Layer.{Layer}
use Rattle.ht_grammar.specs.Statements as stm
use Rattle.ht_grammar.specs.Trees as tree
use Rattle.chunks.specs.declared.chunk.Chunk.{Chunk}
use Rattle.externals.specs.declared.external.Ask.{Ask}
use Rattle.externals.specs.declared.external.Input.{Input}
use Rattle.change_journal.specs.History.{History}
use Rattle.object_references.specs.declared.referent.PartScope.{PartScope}
use Rattle.object_references.specs.declared.referent.Pick.{Pick}
use Rattle.object_references.specs.declared.referent.Referent.{Referent}
use Rattle.object_references.specs.declared.referent.Sought.{Sought}
use Rattle.containers.specs.Places.{PlaceView}
use Rattle.meaning.specs.declared.end.Conversed.{Conversed}
use Rattle.meaning.specs.declared.frame.Frame.{Frame}
use Rattle.meaning.specs.declared.end.How.{How}
use Rattle.meaning.specs.declared.end.Stop.{Stop}
use Rattle.meaning.specs.declared.system.SystemMessage.{SystemMessage}
use Rattle.meaning.specs.declared.item.Item.{Item}
use Rattle.meaning.specs.Actions.{Action}
use Rattle.meaning.specs.State.{RunState}
use Rattle.meaning.specs.Repeats.{CounterState}
use Rattle.meaning.specs.Meaning.{Val, Vals, NumberVal, TruthVal, TextVal, ChunkOf, Resolves, Picks, Seeks, Owns}
use Rattle.meaning.specs.Meaning.{PartMet, Meets, Leads, Form, Alters, Block, DoText, Endless, While, Bounds, Counts}
use Rattle.meaning.specs.Meaning.{Calls, SendsText, Sends, Along, Outside, BuiltInGives, System, Systems, Goes, Menu}
use Rattle.meaning.specs.Meaning.{Converses, Talks, CallsBack, Line, Message, Refers, Tells, TellsAll, Clicks}
use Rattle.meaning.specs.Meaning.{TypesOver, TypesInto, Acts}

mutual
  pub goes_val : {w w2 : History} {r r2 : RunState} {f : Frame} {d : ℕ} {e : tree.Expr} {o : Result (List ℕ) Stop}
      → Val w r f d e o w2 r2 → HasMemory o → GoesOn r r2
  goes_val Val.memory has = absurd (has refl)
  goes_val (Val.number _) has = goes_nowhere
  goes_val (Val.quoted _) has = goes_nowhere
  goes_val (Val.constant _ _) has = goes_nowhere
  goes_val (Val.return_sign _ _) has = goes_nowhere
  goes_val (Val.name _ _) has = goes_nowhere
  goes_val (Val.paren _ p2) has = goes_val p2 has
  goes_val (Val.operand_stops _ p2) has = goes_val p2 has
  goes_val (Val.one_operand _ p2 _) has = goes_val p2 given
  goes_val (Val.left_stops _ p2) has = goes_val p2 has
  goes_val (Val.right_stops _ p2 p3) has = goes_trans (goes_val p2 given) (goes_val p3 has)
  goes_val (Val.two_operands _ p2 p3 _) has = goes_trans (goes_val p2 given) (goes_val p3 given)
  goes_val (Val.there_is _ p2 _) has = goes_meets p2 given
  goes_val (Val.there_is_none _ p2 _) has = goes_meets p2 faulted
  goes_val (Val.there_stops _ p2 _) has = goes_meets p2 (stopped has)
  goes_val (Val.chunk_stops _ p2) has = goes_chunk_of p2 (stopped has)
  goes_val (Val.chunk_of_stops _ p2 p3) has = goes_trans (goes_chunk_of p2 given) (goes_val p3 has)
  goes_val (Val.chunk _ p2 p3 _) has = goes_trans (goes_chunk_of p2 given) (goes_val p3 given)
  goes_val (Val.field_stops _ p2) has = goes_part_met p2 (stopped has)
  goes_val (Val.field _ p2 _) has = goes_part_met p2 given
  goes_val (Val.the_result _ _) has = goes_nowhere
  goes_val (Val.the_target _ _) has = goes_nowhere
  goes_val (Val.pieces_stop _ p2) has = goes_val p2 has
  goes_val (Val.pieces _ p2 _) has = goes_val p2 given
  goes_val (Val.cards _ _) has = goes_nowhere
  goes_val (Val.backgrounds _ _) has = goes_nowhere
  goes_val (Val.parts _ _) has = goes_nowhere
  goes_val (Val.number_stops _ p2) has = goes_meets p2 (stopped has)
  goes_val (Val.number_of_object _ p2 _) has = goes_meets p2 given
  goes_val (Val.property_stops _ p2) has = goes_meets p2 (stopped has)
  goes_val (Val.property _ p2 _) has = goes_meets p2 given
  goes_val (Val.run_property_read _ _) has = goes_nowhere
  goes_val (Val.the_stops _ p2) has = goes_val p2 has
  goes_val (Val.the_function _ p2 _ _) has = goes_val p2 given
  goes_val (Val.the_value _ p2 _ p4) has = goes_trans (goes_val p2 given) (goes_text_val p4 has)
  goes_val (Val.call _ _ p3) has = goes_calls p3 has

  pub goes_vals : {w w2 : History} {r r2 : RunState} {f : Frame} {d : ℕ} {es : tree.Exprs} {vs : List (List ℕ)}
      {os : Result (List (List ℕ)) Stop} → Vals w r f d es vs os w2 r2 → HasMemory os → GoesOn r r2
  goes_vals Vals.vals_memory has = absurd (has refl)
  goes_vals (Vals.vals_done _) has = goes_nowhere
  goes_vals (Vals.vals_stop _ p2) has = goes_val p2 (stopped has)
  goes_vals (Vals.vals_more _ p2 p3) has = goes_trans (goes_val p2 given) (goes_vals p3 has)

  pub goes_number_val : {w w2 : History} {r r2 : RunState} {f : Frame} {d : ℕ} {e : tree.Expr} {ou : Result ℤ Stop}
      → NumberVal w r f d e ou w2 r2 → HasMemory ou → GoesOn r r2
  goes_number_val NumberVal.number_memory has = absurd (has refl)
  goes_number_val (NumberVal.no_number p1) has = goes_val p1 (stopped has)
  goes_number_val (NumberVal.a_number p1 _) has = goes_val p1 given

  pub goes_truth_val : {w w2 : History} {r r2 : RunState} {f : Frame} {d : ℕ} {e : tree.Expr} {ob : Result Bool Stop}
      → TruthVal w r f d e ob w2 r2 → HasMemory ob → GoesOn r r2
  goes_truth_val TruthVal.truth_memory has = absurd (has refl)
  goes_truth_val (TruthVal.no_truth p1) has = goes_val p1 (stopped has)
  goes_truth_val (TruthVal.a_truth p1 _) has = goes_val p1 given

  pub goes_text_val : {w w2 : History} {r r2 : RunState} {f : Frame} {d : ℕ} {t : List ℕ} {o : Result (List ℕ) Stop}
      → TextVal w r f d t o w2 r2 → HasMemory o → GoesOn r r2
  goes_text_val TextVal.value_memory has = absurd (has refl)
  goes_text_val (TextVal.value_no_step p1) has = goes_by_step p1
  goes_text_val (TextVal.value_too_deep p1 _) has = goes_by_step p1
  goes_text_val (TextVal.value_syntax p1 _ _) has = goes_by_step p1
  goes_text_val (TextVal.value p1 _ _ p4) has = goes_trans (goes_by_step p1) (goes_val p4 has)

  pub goes_chunk_of : {w w2 : History} {r r2 : RunState} {f : Frame} {d : ℕ} {hd : tree.Chunk} {oc : Result Chunk Stop}
      → ChunkOf w r f d hd oc w2 r2 → HasMemory oc → GoesOn r r2
  goes_chunk_of ChunkOf.chunk_memory has = absurd (has refl)
  goes_chunk_of (ChunkOf.one_stops _ p2) has = goes_number_val p2 (stopped has)
  goes_chunk_of (ChunkOf.one _ p2 _) has = goes_number_val p2 given
  goes_chunk_of (ChunkOf.from_stops _ p2) has = goes_number_val p2 (stopped has)
  goes_chunk_of (ChunkOf.to_stops _ p2 p3) has =
      goes_trans (goes_number_val p2 given) (goes_number_val p3 (stopped has))
  goes_chunk_of (ChunkOf.range _ p2 p3 _) has = goes_trans (goes_number_val p2 given) (goes_number_val p3 given)
  goes_chunk_of (ChunkOf.ordinal _ _) has = goes_nowhere

  pub goes_resolves : {w w2 : History} {r r2 : RunState} {f : Frame} {d : ℕ} {ct : tree.Container}
      {opl : Result PlaceView Stop} → Resolves w r f d ct opl w2 r2 → HasMemory opl → GoesOn r r2
  goes_resolves Resolves.place_memory has = absurd (has refl)
  goes_resolves (Resolves.place_variable _ _) has = goes_nowhere
  goes_resolves (Resolves.place_field_stops _ p2) has = goes_part_met p2 (stopped has)
  goes_resolves (Resolves.place_field _ p2 _) has = goes_part_met p2 given
  goes_resolves (Resolves.place_chunk_stops _ p2) has = goes_chunk_of p2 (stopped has)
  goes_resolves (Resolves.place_chunk_of_stops _ p2 p3) has = goes_trans (goes_chunk_of p2 given) (goes_resolves p3 has)
  goes_resolves (Resolves.place_chunk _ p2 p3 _) has = goes_trans (goes_chunk_of p2 given) (goes_resolves p3 given)

  pub goes_picks : {w w2 : History} {r r2 : RunState} {f : Frame} {d : ℕ} {wh : tree.Which} {opi : Result Pick Stop}
      → Picks w r f d wh opi w2 r2 → HasMemory opi → GoesOn r r2
  goes_picks Picks.pick_memory has = absurd (has refl)
  goes_picks (Picks.pick_id_stops _ p2) has = goes_val p2 (stopped has)
  goes_picks (Picks.pick_id _ p2 _) has = goes_val p2 given
  goes_picks (Picks.pick_text_stops _ p2) has = goes_val p2 (stopped has)
  goes_picks (Picks.pick_text _ p2 _) has = goes_val p2 given

  pub goes_seeks : {w w2 : History} {r r2 : RunState} {f : Frame} {d : ℕ} {sl : tree.Selector}
      {osk : Result Sought Stop} → Seeks w r f d sl osk w2 r2 → HasMemory osk → GoesOn r r2
  goes_seeks Seeks.seek_memory has = absurd (has refl)
  goes_seeks (Seeks.seek_this _ _) has = goes_nowhere
  goes_seeks (Seeks.seek_next _ _) has = goes_nowhere
  goes_seeks (Seeks.seek_previous _ _) has = goes_nowhere
  goes_seeks (Seeks.seek_nth _ _) has = goes_nowhere
  goes_seeks (Seeks.seek_stops _ p2) has = goes_picks p2 (stopped has)
  goes_seeks (Seeks.seek_which _ p2 _) has = goes_picks p2 given

  pub goes_owns : {w w2 : History} {r r2 : RunState} {f : Frame} {d : ℕ} {ly : Layer} {ow : tree.Owner}
      {osc : Result PartScope Stop} → Owns w r f d ly ow osc w2 r2 → HasMemory osc → GoesOn r r2
  goes_owns Owns.own_memory has = absurd (has refl)
  goes_owns (Owns.no_owner _ _) has = goes_nowhere
  goes_owns (Owns.owner_card_stops _ p2) has = goes_seeks p2 (stopped has)
  goes_owns (Owns.owner_card _ p2 _) has = goes_seeks p2 given
  goes_owns (Owns.owner_background_stops _ p2) has = goes_seeks p2 (stopped has)
  goes_owns (Owns.owner_background _ p2 _) has = goes_seeks p2 given

  pub goes_part_met : {w w2 : History} {r r2 : RunState} {f : Frame} {d : ℕ} {pa : tree.Part}
      {om : Result Referent Stop} → PartMet w r f d pa om w2 r2 → HasMemory om → GoesOn r r2
  goes_part_met PartMet.part_memory has = absurd (has refl)
  goes_part_met (PartMet.part_stops _ p2) has = goes_picks p2 (stopped has)
  goes_part_met (PartMet.part_owner_stops _ p2 _ p4) has = goes_trans (goes_picks p2 given) (goes_owns p4 (stopped has))
  goes_part_met (PartMet.part_of_owner _ p2 _ p4 _) has = goes_trans (goes_picks p2 given) (goes_owns p4 given)
  goes_part_met (PartMet.nth_owner_stops _ _ p3) has = goes_owns p3 (stopped has)
  goes_part_met (PartMet.nth_of_owner _ _ p3 _) has = goes_owns p3 given

  pub goes_meets : {w w2 : History} {r r2 : RunState} {f : Frame} {d : ℕ} {rf : tree.Ref} {om : Result Referent Stop}
      → Meets w r f d rf om w2 r2 → HasMemory om → GoesOn r r2
  goes_meets Meets.meet_memory has = absurd (has refl)
  goes_meets (Meets.meet_me _ _) has = goes_nowhere
  goes_meets (Meets.meet_target _ _) has = goes_nowhere
  goes_meets (Meets.meet_stack _ _) has = goes_nowhere
  goes_meets (Meets.card_stops _ p2) has = goes_seeks p2 (stopped has)
  goes_meets (Meets.meet_card _ p2 _) has = goes_seeks p2 given
  goes_meets (Meets.background_stops _ p2) has = goes_seeks p2 (stopped has)
  goes_meets (Meets.meet_background _ p2 _) has = goes_seeks p2 given
  goes_meets (Meets.meet_part _ p2) has = goes_part_met p2 has

  pub goes_leads : {w w2 : History} {r r2 : RunState} {f : Frame} {d : ℕ} {de : stm.Destination} {oi : Result ℕ Stop}
      → Leads w r f d de oi w2 r2 → HasMemory oi → GoesOn r r2
  goes_leads Leads.lead_memory has = absurd (has refl)
  goes_leads (Leads.lead_card_stops _ p2) has = goes_seeks p2 (stopped has)
  goes_leads (Leads.lead_card _ p2 _) has = goes_seeks p2 given
  goes_leads (Leads.lead_background_stops _ p2) has = goes_seeks p2 (stopped has)
  goes_leads (Leads.lead_background _ p2 _) has = goes_seeks p2 given

  pub goes_form : {w w2 : History} {r r2 : RunState} {f f2 : Frame} {d : ℕ} {s : stm.Stmt} {oh : Result How Stop}
      → Form w r f d s oh w2 r2 f2 → HasMemory oh → GoesOn r r2
  goes_form Form.form_memory has = absurd (has refl)
  goes_form (Form.show_stops _ p2) has = goes_val p2 (stopped has)
  goes_form (Form.show {v = v} _ p2 p3) has = goes_trans (goes_val p2 given) (goes_by_shows v p3)
  goes_form (Form.put_stops _ p2) has = goes_val p2 (stopped has)
  goes_form (Form.put_nowhere _ p2 p3) has = goes_trans (goes_val p2 given) (goes_resolves p3 (stopped has))
  goes_form (Form.put_fails _ p2 p3 _) has = goes_trans (goes_val p2 given) (goes_resolves p3 given)
  goes_form (Form.put _ p2 p3 _) has = goes_trans (goes_val p2 given) (goes_resolves p3 given)
  goes_form (Form.get_stops _ p2) has = goes_val p2 (stopped has)
  goes_form (Form.get _ p2 _) has = goes_val p2 given
  goes_form (Form.set_stops _ p2) has = goes_val p2 (stopped has)
  goes_form (Form.set_nowhere _ p2 p3) has = goes_trans (goes_val p2 given) (goes_meets p3 (stopped has))
  goes_form (Form.set_fails _ p2 p3 _) has = goes_trans (goes_val p2 given) (goes_meets p3 given)
  goes_form (Form.set _ p2 p3 _) has = goes_trans (goes_val p2 given) (goes_meets p3 given)
  goes_form (Form.set_run_stops _ p2) has = goes_val p2 (stopped has)
  goes_form (Form.set_run_fails _ p2 _) has = goes_val p2 given
  goes_form (Form.set_run {rp = rp} {v = v} _ p2 p3) has = goes_trans (goes_val p2 given) (goes_by_property rp v p3)
  goes_form (Form.add _ p2) has = goes_alters p2 has
  goes_form (Form.subtract _ p2) has = goes_alters p2 has
  goes_form (Form.multiply _ p2) has = goes_alters p2 has
  goes_form (Form.divide _ p2) has = goes_alters p2 has
  goes_form (Form.delete_stops _ p2) has = goes_chunk_of p2 (stopped has)
  goes_form (Form.delete_nowhere _ p2 p3) has = goes_trans (goes_chunk_of p2 given) (goes_resolves p3 (stopped has))
  goes_form (Form.delete_fails _ p2 p3 _ _) has = goes_trans (goes_chunk_of p2 given) (goes_resolves p3 given)
  goes_form (Form.delete _ p2 p3 _ _) has = goes_trans (goes_chunk_of p2 given) (goes_resolves p3 given)
  goes_form (Form.do_stops _ p2) has = goes_val p2 (stopped has)
  goes_form (Form.do_value _ p2 p3) has = goes_trans (goes_val p2 given) (goes_do_text p3 has)
  goes_form (Form.send_text_stops _ p2) has = goes_val p2 (stopped has)
  goes_form (Form.send_nowhere _ p2 p3) has = goes_trans (goes_val p2 given) (goes_meets p3 (stopped has))
  goes_form (Form.send_stops _ p2 p3 p4) has =
      goes_trans (goes_val p2 given) (goes_trans (goes_meets p3 given) (goes_sends_text p4 (stopped has)))
  goes_form (Form.send _ p2 p3 p4) has =
      goes_trans (goes_val p2 given) (goes_trans (goes_meets p3 given) (goes_sends_text p4 given))
  goes_form (Form.go_nowhere _ p2) has = goes_leads p2 (stopped has)
  goes_form (Form.go_stops _ p2 p3) has = goes_trans (goes_leads p2 given) (goes_goes p3 (stopped has))
  goes_form (Form.go _ p2 p3) has = goes_trans (goes_leads p2 given) (goes_goes p3 given)
  goes_form (Form.global _ _) has = goes_nowhere
  goes_form (Form.exit_repeat _) has = goes_nowhere
  goes_form (Form.next_repeat _) has = goes_nowhere
  goes_form (Form.exit_to_hypercard _) has = goes_nowhere
  goes_form (Form.exit_handler _) has = goes_nowhere
  goes_form (Form.pass _) has = goes_nowhere
  goes_form (Form.return_nothing _) has = goes_nowhere
  goes_form (Form.return_stops _ p2) has = goes_val p2 (stopped has)
  goes_form (Form.return_value _ p2) has = goes_val p2 given
  goes_form (Form.command_stops _ _ p3) has = goes_calls p3 (stopped has)
  goes_form (Form.command _ _ p3) has = goes_calls p3 given
  goes_form (Form.if_stops _ p2) has = goes_truth_val p2 (stopped has)
  goes_form (Form.if_true _ p2 _ p4) has = goes_trans (goes_truth_val p2 given) (goes_block p4 has)
  goes_form (Form.if_false _ p2 _ p4) has = goes_trans (goes_truth_val p2 given) (goes_block p4 has)
  goes_form (Form.forever _ p2) has = goes_endless p2 has
  goes_form (Form.times_stops _ p2) has = goes_number_val p2 (stopped has)
  goes_form (Form.times _ p2 _ p4) has = goes_trans (goes_number_val p2 given) (goes_counts p4 has)
  goes_form (Form.while _ p2) has = goes_while p2 has
  goes_form (Form.until _ p2) has = goes_while p2 has
  goes_form (Form.up_stops _ p2) has = goes_bounds p2 (stopped has)
  goes_form (Form.up _ p2 p3) has = goes_trans (goes_bounds p2 given) (goes_counts p3 has)
  goes_form (Form.down_stops _ p2) has = goes_bounds p2 (stopped has)
  goes_form (Form.down _ p2 p3) has = goes_trans (goes_bounds p2 given) (goes_counts p3 has)

  pub goes_alters : {w w2 : History} {r r2 : RunState} {f f2 : Frame} {d : ℕ} {op : Op} {e : tree.Expr}
      {ct : tree.Container} {oh : Result How Stop} → Alters w r f d op e ct oh w2 r2 f2 → HasMemory oh → GoesOn r r2
  goes_alters Alters.alter_memory has = absurd (has refl)
  goes_alters (Alters.alter_stops p1) has = goes_val p1 (stopped has)
  goes_alters (Alters.alter_nowhere p1 p2) has = goes_trans (goes_val p1 given) (goes_resolves p2 (stopped has))
  goes_alters (Alters.alter_fails p1 p2 _) has = goes_trans (goes_val p1 given) (goes_resolves p2 given)
  goes_alters (Alters.alter p1 p2 _) has = goes_trans (goes_val p1 given) (goes_resolves p2 given)

  pub goes_block : {w w2 : History} {r r2 : RunState} {f f2 : Frame} {d : ℕ} {ss : stm.Stmts} {oh : Result How Stop}
      → Block w r f d ss oh w2 r2 f2 → HasMemory oh → GoesOn r r2
  goes_block Block.block_memory has = absurd (has refl)
  goes_block (Block.block_end _) has = goes_nowhere
  goes_block (Block.block_no_step _ p2) has = goes_by_step p2
  goes_block (Block.block_stops _ p2 p3) has = goes_trans (goes_by_step p2) (goes_form p3 has)
  goes_block (Block.block_leaves _ p2 p3 _) has = goes_trans (goes_by_step p2) (goes_form p3 given)
  goes_block (Block.block_goes_on _ p2 p3 p4) has =
      goes_trans (goes_by_step p2) (goes_trans (goes_form p3 given) (goes_block p4 has))

  pub goes_do_text : {w w2 : History} {r r2 : RunState} {f f2 : Frame} {d : ℕ} {t : List ℕ} {oh : Result How Stop}
      → DoText w r f d t oh w2 r2 f2 → HasMemory oh → GoesOn r r2
  goes_do_text DoText.do_memory has = absurd (has refl)
  goes_do_text (DoText.do_too_deep _) has = goes_nowhere
  goes_do_text (DoText.do_syntax _ _) has = goes_nowhere
  goes_do_text (DoText.do_lines _ _ p3) has = goes_block p3 has

  pub goes_endless : {w w2 : History} {r r2 : RunState} {f f2 : Frame} {d : ℕ} {ss : stm.Stmts} {oh : Result How Stop}
      → Endless w r f d ss oh w2 r2 f2 → HasMemory oh → GoesOn r r2
  goes_endless Endless.endless_memory has = absurd (has refl)
  goes_endless (Endless.endless_no_step p1) has = goes_by_step p1
  goes_endless (Endless.endless_stops p1 p2) has = goes_trans (goes_by_step p1) (goes_block p2 has)
  goes_endless (Endless.endless_leaves p1 p2 _) has = goes_trans (goes_by_step p1) (goes_block p2 given)
  goes_endless (Endless.endless_goes_on p1 p2 _ p4) has =
      goes_trans (goes_by_step p1) (goes_trans (goes_block p2 given) (goes_endless p4 has))

  pub goes_while : {w w2 : History} {r r2 : RunState} {f f2 : Frame} {d : ℕ} {b : Bool} {e : tree.Expr} {ss : stm.Stmts}
      {oh : Result How Stop} → While w r f d b e ss oh w2 r2 f2 → HasMemory oh → GoesOn r r2
  goes_while While.while_memory has = absurd (has refl)
  goes_while (While.while_no_step p1) has = goes_by_step p1
  goes_while (While.while_test_stops p1 p2) has = goes_trans (goes_by_step p1) (goes_truth_val p2 (stopped has))
  goes_while (While.while_ends p1 p2 _) has = goes_trans (goes_by_step p1) (goes_truth_val p2 given)
  goes_while (While.while_stops p1 p2 _ p4) has =
      goes_trans (goes_by_step p1) (goes_trans (goes_truth_val p2 given) (goes_block p4 has))
  goes_while (While.while_leaves p1 p2 _ p4 _) has =
      goes_trans (goes_by_step p1) (goes_trans (goes_truth_val p2 given) (goes_block p4 given))
  goes_while (While.while_goes_on p1 p2 _ p4 _ p6) has = goes_trans (goes_by_step p1)
      (goes_trans (goes_truth_val p2 given) (goes_trans (goes_block p4 given) (goes_while p6 has)))

  pub goes_bounds : {w w2 : History} {r r2 : RunState} {f : Frame} {d : ℕ} {e e2 : tree.Expr} {b : Bool}
      {oco : Result CounterState Stop} → Bounds w r f d e e2 b oco w2 r2 → HasMemory oco → GoesOn r r2
  goes_bounds Bounds.bounds_memory has = absurd (has refl)
  goes_bounds (Bounds.start_stops p1) has = goes_val p1 (stopped has)
  goes_bounds (Bounds.bound_stops p1 p2) has = goes_trans (goes_val p1 given) (goes_val p2 (stopped has))
  goes_bounds (Bounds.bounds p1 p2 _) has = goes_trans (goes_val p1 given) (goes_val p2 given)

  pub goes_counts : {w w2 : History} {r r2 : RunState} {f f2 : Frame} {d : ℕ} {on : Option (List ℕ)} {co : CounterState}
      {ss : stm.Stmts} {oh : Result How Stop} → Counts w r f d on co ss oh w2 r2 f2 → HasMemory oh → GoesOn r r2
  goes_counts Counts.counts_memory has = absurd (has refl)
  goes_counts (Counts.counts_no_step p1) has = goes_by_step p1
  goes_counts (Counts.counts_end p1 _) has = goes_by_step p1
  goes_counts (Counts.counts_stop p1 _ _ p4) has = goes_trans (goes_by_step p1) (goes_block p4 has)
  goes_counts (Counts.counts_leave p1 _ _ p4 _) has = goes_trans (goes_by_step p1) (goes_block p4 given)
  goes_counts (Counts.counts_go_on p1 _ _ p4 _ _ p7) has =
      goes_trans (goes_by_step p1) (goes_trans (goes_block p4 given) (goes_counts p7 has))

  pub goes_calls : {w w2 : History} {r r2 : RunState} {f : Frame} {d i : ℕ} {n : List ℕ} {es : tree.Exprs}
      {cl : HandlerKind} {o : Result (List ℕ) Stop} → Calls w r f d i n es cl o w2 r2 → HasMemory o → GoesOn r r2
  goes_calls Calls.calls_memory has = absurd (has refl)
  goes_calls (Calls.calls_stop p1) has = goes_vals p1 (stopped has)
  goes_calls (Calls.calls p1 p2) has = goes_trans (goes_vals p1 given) (goes_sends p2 has)

  pub goes_sends_text : {w w2 : History} {r r2 : RunState} {f : Frame} {d i : ℕ} {t : List ℕ} {o : Result (List ℕ) Stop}
      → SendsText w r f d i t o w2 r2 → HasMemory o → GoesOn r r2
  goes_sends_text SendsText.send_memory has = absurd (has refl)
  goes_sends_text (SendsText.send_syntax _) has = goes_nowhere
  goes_sends_text (SendsText.sends_text _ p2) has = goes_calls p2 has

  pub goes_sends : {w w2 : History} {r r2 : RunState} {f : Frame} {d i : ℕ} {n : List ℕ} {vs : List (List ℕ)}
      {cl : HandlerKind} {o : Result (List ℕ) Stop} → Sends w r f d i n vs cl o w2 r2 → HasMemory o → GoesOn r r2
  goes_sends Sends.sends_memory has = absurd (has refl)
  goes_sends (Sends.sends_no_step p1) has = goes_by_step p1
  goes_sends (Sends.sends {n = n} {i = i} p1 p2 _ p4) has =
      goes_trans (goes_by_step p1) (goes_trans (goes_by_noted n i p2) (goes_along p4 has))

  pub goes_along : {w w2 : History} {r r2 : RunState} {f : Frame} {d i : ℕ} {is n : List ℕ} {vs : List (List ℕ)}
      {cl : HandlerKind} {o : Result (List ℕ) Stop} → Along w r f d i is n vs cl o w2 r2 → HasMemory o → GoesOn r r2
  goes_along Along.along_memory has = absurd (has refl)
  goes_along (Along.along_broken _) has = goes_nowhere
  goes_along (Along.along_too_deep _ _) has = goes_nowhere
  goes_along (Along.along_stops _ _ _ p4) has = goes_block p4 (stopped has)
  goes_along (Along.along_ends {cl = cl} {h = h} _ _ _ p4 p5) has =
      goes_trans (goes_block p4 given) (goes_by_ends cl h p5)
  goes_along (Along.along_passes _ _ _ p4 _ p6) has = goes_trans (goes_block p4 given) (goes_along p6 has)
  goes_along (Along.along_unhandled _ p2) has = goes_outside p2 has

  pub goes_outside : {w w2 : History} {r r2 : RunState} {f : Frame} {d : ℕ} {n : List ℕ} {vs : List (List ℕ)}
      {cl : HandlerKind} {o : Result (List ℕ) Stop} → Outside w r f d n vs cl o w2 r2 → HasMemory o → GoesOn r r2
  goes_outside Outside.outside_memory has = absurd (has refl)
  goes_outside (Outside.no_external _ p2) has = goes_built_in_gives p2 has
  goes_outside (Outside.external_stops _ p2) has = goes_converses p2 (stopped has)
  goes_outside (Outside.external_ends {cl = cl} {dn = dn} _ p2 _ p4) has =
      goes_trans (goes_converses p2 given) (goes_by_returned cl dn.value p4)
  goes_outside (Outside.external_passes _ p2 _ p4) has =
      goes_trans (goes_converses p2 given) (goes_built_in_gives p4 has)

  pub goes_built_in_gives : {w w2 : History} {r r2 : RunState} {f : Frame} {d : ℕ} {n : List ℕ} {vs : List (List ℕ)}
      {cl : HandlerKind} {o : Result (List ℕ) Stop} → BuiltInGives w r f d n vs cl o w2 r2 → HasMemory o → GoesOn r r2
  goes_built_in_gives BuiltInGives.built_in_memory has = absurd (has refl)
  goes_built_in_gives (BuiltInGives.value_call _ _ p3) has = goes_text_val p3 has
  goes_built_in_gives (BuiltInGives.value_arguments _ _) has = goes_nowhere
  goes_built_in_gives (BuiltInGives.function_call _ _) has = goes_nowhere
  goes_built_in_gives (BuiltInGives.menu_unknown _ _) has = goes_nowhere
  goes_built_in_gives (BuiltInGives.menu_item _ _ p3) has = goes_menu p3 has
  goes_built_in_gives (BuiltInGives.ignored_message _ _) has = goes_nowhere
  goes_built_in_gives (BuiltInGives.not_understood _ _) has = goes_nowhere

  pub goes_system : {w w2 : History} {r r2 : RunState} {f : Frame} {d i : ℕ} {mg : SystemMessage}
      {o : Result (List ℕ) Stop} → System w r f d i mg o w2 r2 → HasMemory o → GoesOn r r2
  goes_system System.system_memory has = absurd (has refl)
  goes_system (System.system_locked _) has = goes_nowhere
  goes_system (System.system _ _ p3) has = goes_sends p3 has

  pub goes_systems : {w w2 : History} {r r2 : RunState} {f : Frame} {d : ℕ} {ms : List SystemMessage}
      {o : Result (List ℕ) Stop} → Systems w r f d ms o w2 r2 → HasMemory o → GoesOn r r2
  goes_systems Systems.systems_memory has = absurd (has refl)
  goes_systems (Systems.systems_done _) has = goes_nowhere
  goes_systems (Systems.systems_stop _ _ p3) has = goes_system p3 has
  goes_systems (Systems.systems_more _ _ p3 p4) has = goes_trans (goes_system p3 given) (goes_systems p4 has)

  pub goes_goes : {w w2 : History} {r r2 : RunState} {f : Frame} {d i : ℕ} {o : Result (List ℕ) Stop}
      → Goes w r f d i o w2 r2 → HasMemory o → GoesOn r r2
  goes_goes Goes.go_memory has = absurd (has refl)
  goes_goes (Goes.go_stays _) has = goes_nowhere
  goes_goes (Goes.go_close_stops _ _ p3) has = goes_systems p3 has
  goes_goes (Goes.go_gone _ _ p3 _) has = goes_systems p3 given
  goes_goes (Goes.go_arrives _ _ p3 _ _ p6) has = goes_trans (goes_systems p3 given) (goes_systems p6 has)

  pub goes_menu : {w w2 : History} {r r2 : RunState} {f : Frame} {d : ℕ} {it : Item} {o : Result (List ℕ) Stop}
      → Menu w r f d it o w2 r2 → HasMemory o → GoesOn r r2
  goes_menu Menu.menu_memory has = absurd (has refl)
  goes_menu (Menu.card_close_stops _ p2) has = goes_systems p2 has
  goes_menu (Menu.card_full _ p2 _) has = goes_systems p2 given
  goes_menu (Menu.new_card _ p2 _ p4) has = goes_trans (goes_systems p2 given) (goes_systems p4 has)
  goes_menu (Menu.background_close_stops _ p2) has = goes_systems p2 has
  goes_menu (Menu.background_full _ p2 _) has = goes_systems p2 given
  goes_menu (Menu.new_background _ p2 _ p4) has = goes_trans (goes_systems p2 given) (goes_systems p4 has)
  goes_menu (Menu.part_full _ _ _) has = goes_nowhere
  goes_menu (Menu.new_part _ _ _) has = goes_nowhere
  goes_menu (Menu.delete_refused _ _) has = goes_nowhere
  goes_menu (Menu.delete_card _ _ _ _ p5) has = goes_systems p5 has

  pub goes_converses : {w w2 : History} {r r2 : RunState} {d k : ℕ} {vs : List (List ℕ)} {odn : Result Conversed Stop}
      → Converses w r d k vs odn w2 r2 → HasMemory odn → GoesOn r r2
  goes_converses Converses.converse_memory has = absurd (has refl)
  goes_converses (Converses.too_many_arguments _) has = goes_nowhere
  goes_converses (Converses.conversation_too_deep _ _) has = goes_nowhere
  goes_converses (Converses.converses _ _ _ p4) has = goes_talks p4 has

  pub goes_talks : {w w2 : History} {r r2 : RunState} {d k : ℕ} {inp : Input} {odn : Result Conversed Stop}
      → Talks w r d k inp odn w2 r2 → HasMemory odn → GoesOn r r2
  goes_talks Talks.talk_memory has = absurd (has refl)
  goes_talks (Talks.talk_no_step p1) has = goes_by_step p1
  goes_talks (Talks.talk_done p1 _ _ _) has = goes_by_step p1
  goes_talks (Talks.talk_fails p1 _ _) has = goes_by_step p1
  goes_talks (Talks.talk_stops p1 _ p3) has = goes_trans (goes_by_step p1) (goes_calls_back p3 (stopped has))
  goes_talks (Talks.talk_goes_on p1 _ p3 p4) has =
      goes_trans (goes_by_step p1) (goes_trans (goes_calls_back p3 given) (goes_talks p4 has))

  pub goes_calls_back : {w w2 : History} {r r2 : RunState} {d : ℕ} {ask : Ask} {oin : Result Input Stop}
      → CallsBack w r d ask oin w2 r2 → HasMemory oin → GoesOn r r2
  goes_calls_back CallsBack.call_back_memory has = absurd (has refl)
  goes_calls_back (CallsBack.message_syntax _ _) has = goes_nowhere
  goes_calls_back (CallsBack.message_stops _ _ _ p4) has = goes_block p4 (stopped has)
  goes_calls_back (CallsBack.message_runs _ _ _ p4 _) has = goes_block p4 given
  goes_calls_back (CallsBack.eval_syntax _ _) has = goes_nowhere
  goes_calls_back (CallsBack.eval_stops _ _ _ p4) has = goes_val p4 (stopped has)
  goes_calls_back (CallsBack.evaluates _ _ _ p4 _) has = goes_val p4 given
  goes_calls_back (CallsBack.bad_global _ _) has = goes_nowhere
  goes_calls_back (CallsBack.global_set _ _ _ _ _) has = goes_nowhere
  goes_calls_back (CallsBack.no_such_field _ _ _) has = goes_nowhere
  goes_calls_back (CallsBack.field_set _ _ _ _ _) has = goes_nowhere

  pub goes_line : {w w2 : History} {r r2 : RunState} {ss : stm.Stmts} {ot : Result (Unit {0}) Stop}
      → Line w r ss ot w2 r2 → HasMemory ot → GoesOn r r2
  goes_line Line.line_memory has = absurd (has refl)
  goes_line (Line.line_stops _ p2) has = goes_block p2 (stopped has)
  goes_line (Line.line _ p2) has = goes_block p2 given

  pub goes_message : {w w2 : History} {r r2 : RunState} {i : ℕ} {n : List ℕ} {vs : List (List ℕ)}
      {ot : Result (Unit {0}) Stop} → Message w r i n vs ot w2 r2 → HasMemory ot → GoesOn r r2
  goes_message Message.message_memory has = absurd (has refl)
  goes_message (Message.sent_alone_stops _ p2) has = goes_sends p2 (stopped has)
  goes_message (Message.sent_alone _ p2) has = goes_sends p2 given

mutual
  pub goes_refers : {w w2 : History} {r r2 : RunState} {pa : tree.Part} {oi : Result ℕ Stop} → Refers w r pa oi w2 r2
      → HasMemory oi → GoesOn r r2
  goes_refers Refers.refer_memory has = absurd (has refl)
  goes_refers (Refers.refer_stops _ p2) has = goes_part_met p2 (stopped has)
  goes_refers (Refers.refers _ p2 _) has = goes_part_met p2 given

  pub goes_tells : {w w2 : History} {r r2 : RunState} {i : ℕ} {mg : SystemMessage} {ot : Result (Unit {0}) Stop}
      → Tells w r i mg ot w2 r2 → HasMemory ot → GoesOn r r2
  goes_tells Tells.tell_memory has = absurd (has refl)
  goes_tells (Tells.tells_nothing _) has = goes_nowhere
  goes_tells (Tells.tells _ _ p3) has = goes_message p3 has

  pub goes_tells_all : {w w2 : History} {r r2 : RunState} {ms : List SystemMessage} {ot : Result (Unit {0}) Stop}
      → TellsAll w r ms ot w2 r2 → HasMemory ot → GoesOn r r2
  goes_tells_all TellsAll.tell_all_memory has = absurd (has refl)
  goes_tells_all (TellsAll.none_to_tell _) has = goes_nowhere
  goes_tells_all (TellsAll.tell_stops _ p2) has = goes_tells p2 has
  goes_tells_all (TellsAll.tells_on _ p2 p3) has = goes_trans (goes_tells p2 given) (goes_tells_all p3 has)

  pub goes_clicks : {w w2 : History} {r r2 : RunState} {pa : tree.Part} {ot : Result (Unit {0}) Stop}
      → Clicks w r pa ot w2 r2 → HasMemory ot → GoesOn r r2
  goes_clicks Clicks.click_memory has = absurd (has refl)
  goes_clicks (Clicks.click_misses p1) has = goes_refers p1 (stopped has)
  goes_clicks (Clicks.press_stops p1 p2) has = goes_trans (goes_refers p1 given) (goes_tells p2 has)
  goes_clicks (Clicks.part_goes p1 p2 _) has = goes_trans (goes_refers p1 given) (goes_tells p2 given)
  goes_clicks (Clicks.clicks p1 p2 _ p4) has =
      goes_trans (goes_refers p1 given) (goes_trans (goes_tells p2 given) (goes_tells p4 has))

  pub goes_types_over : {w w2 : History} {r r2 : RunState} {m : Referent} {t : List ℕ} {ot : Result (Unit {0}) Stop}
      → TypesOver w r m t ot w2 r2 → HasMemory ot → GoesOn r r2
  goes_types_over TypesOver.type_over_memory has = absurd (has refl)
  goes_types_over (TypesOver.typed_field_goes _ _) has = goes_nowhere
  goes_types_over (TypesOver.types_over _ _ _ _ _ _ p7) has = goes_tells p7 has

  pub goes_types_into : {w w2 : History} {r r2 : RunState} {t : List ℕ} {pa : tree.Part} {ot : Result (Unit {0}) Stop}
      → TypesInto w r t pa ot w2 r2 → HasMemory ot → GoesOn r r2
  goes_types_into TypesInto.type_memory has = absurd (has refl)
  goes_types_into (TypesInto.type_misses p1) has = goes_refers p1 (stopped has)
  goes_types_into (TypesInto.field_open_stops p1 _ p3) has = goes_trans (goes_refers p1 given) (goes_tells p3 has)
  goes_types_into (TypesInto.types_into p1 _ p3 _ p5) has =
      goes_trans (goes_refers p1 given) (goes_trans (goes_tells p3 given) (goes_types_over p5 has))

  pub goes_acts : {w w2 : History} {r r2 : RunState} {ac : Action} {ot : Result (Unit {0}) Stop} → Acts w r ac ot w2 r2
      → HasMemory ot → GoesOn r r2
  goes_acts (Acts.acts_by_lines _ p2) has = goes_line p2 has
  goes_acts (Acts.acts_by_opening _ p2) has = goes_tells_all p2 has
  goes_acts (Acts.acts_by_click _ p2) has = goes_clicks p2 has
  goes_acts (Acts.acts_by_typing _ p2) has = goes_types_into p2 has
