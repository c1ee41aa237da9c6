-- Written by tools/meaning/laws.py from tools/meaning/meaning.rules.
-- The history round the open batch is kept.
use Rattle.std.proofs.Common.{◌≡◌, refl, ◌∙◌}
use Rattle.containers.specs.Base.{base}
use Rattle.containers.proofs.Bases.{made_keeps as base_made, took_keeps as base_turn}
use Rattle.preservation.specs.Laws.{HasMemory}
use Rattle.preservation.proofs.Ends.{given, stopped, faulted}
use Rattle.preservation.proofs.Kept.{base_edits, base_stores, base_assigns, base_declares_all, base_sets, base_adds}
use Rattle.std.specs.Prelude.{ℕ, ℤ, List, Bool, Option, Result}
use Rattle.ht_values.specs.declared.operator.Op.{Op}
use Rattle.ht_grammar.specs.declared.vocabulary.HandlerKind.{HandlerKind}
use Rattle.ht_grammar.specs.declared.vocabulary.Layer.{Layer}
use Rattle.ht_grammar.specs.Statements as stm
use Rattle.ht_grammar.specs.Trees as tree
use Rattle.chunks.specs.declared.chunk.Chunk.{Chunk}
use Rattle.externals.specs.declared.external.Ask.{Ask}
use Rattle.externals.specs.declared.external.Input.{Input}
use Rattle.change_journal.specs.History.{History}
use Rattle.object_references.specs.declared.referent.PartScope.{PartScope}
use Rattle.object_references.specs.declared.referent.Pick.{Pick}
use Rattle.object_references.specs.declared.referent.Referent.{Referent}
use Rattle.object_references.specs.declared.referent.Sought.{Sought}
use Rattle.containers.specs.Places.{PlaceView}
use Rattle.meaning.specs.declared.end.Conversed.{Conversed}
use Rattle.meaning.specs.declared.frame.Frame.{Frame}
use Rattle.meaning.specs.declared.end.How.{How}
use Rattle.meaning.specs.declared.end.Stop.{Stop}
use Rattle.meaning.specs.declared.system.SystemMessage.{SystemMessage}
use Rattle.meaning.specs.declared.item.Item.{Item}
use Rattle.meaning.specs.Actions.{Action}
use Rattle.meaning.specs.State.{RunState}
use Rattle.meaning.specs.Repeats.{CounterState}
use Rattle.meaning.specs.Meaning.{Val, Vals, NumberVal, TruthVal, TextVal, ChunkOf, Resolves, Picks, Seeks, Owns}
use Rattle.meaning.specs.Meaning.{PartMet, Meets, Leads, Form, Alters, Block, DoText, Endless, While, Bounds, Counts}
use Rattle.meaning.specs.Meaning.{Calls, SendsText, Sends, Along, Outside, BuiltInGives, System, Systems, Goes, Menu}
use Rattle.meaning.specs.Meaning.{Converses, Talks, CallsBack, Line, Message, Refers, Tells, TellsAll, Clicks}
use Rattle.meaning.specs.Meaning.{TypesOver, TypesInto, Acts}

mutual
  pub base_val : {w w2 : History} {r r2 : RunState} {f : Frame} {d : ℕ} {e : tree.Expr} {o : Result (List ℕ) Stop}
      → Val w r f d e o w2 r2 → HasMemory o → base w2 ≡ base w
  base_val Val.memory has = absurd (has refl)
  base_val (Val.number _) has = refl
  base_val (Val.quoted _) has = refl
  base_val (Val.constant _ _) has = refl
  base_val (Val.return_sign _ _) has = refl
  base_val (Val.name _ _) has = refl
  base_val (Val.paren _ p2) has = base_val p2 has
  base_val (Val.operand_stops _ p2) has = base_val p2 has
  base_val (Val.one_operand _ p2 _) has = base_val p2 given
  base_val (Val.left_stops _ p2) has = base_val p2 has
  base_val (Val.right_stops _ p2 p3) has = base_val p3 has ∙ base_val p2 given
  base_val (Val.two_operands _ p2 p3 _) has = base_val p3 given ∙ base_val p2 given
  base_val (Val.there_is _ p2 _) has = base_meets p2 given
  base_val (Val.there_is_none _ p2 _) has = base_meets p2 faulted
  base_val (Val.there_stops _ p2 _) has = base_meets p2 (stopped has)
  base_val (Val.chunk_stops _ p2) has = base_chunk_of p2 (stopped has)
  base_val (Val.chunk_of_stops _ p2 p3) has = base_val p3 has ∙ base_chunk_of p2 given
  base_val (Val.chunk _ p2 p3 _) has = base_val p3 given ∙ base_chunk_of p2 given
  base_val (Val.field_stops _ p2) has = base_part_met p2 (stopped has)
  base_val (Val.field _ p2 _) has = base_part_met p2 given
  base_val (Val.the_result _ _) has = refl
  base_val (Val.the_target _ _) has = refl
  base_val (Val.pieces_stop _ p2) has = base_val p2 has
  base_val (Val.pieces _ p2 _) has = base_val p2 given
  base_val (Val.cards _ _) has = refl
  base_val (Val.backgrounds _ _) has = refl
  base_val (Val.parts _ _) has = refl
  base_val (Val.number_stops _ p2) has = base_meets p2 (stopped has)
  base_val (Val.number_of_object _ p2 _) has = base_meets p2 given
  base_val (Val.property_stops _ p2) has = base_meets p2 (stopped has)
  base_val (Val.property _ p2 _) has = base_meets p2 given
  base_val (Val.run_property_read _ _) has = refl
  base_val (Val.the_stops _ p2) has = base_val p2 has
  base_val (Val.the_function _ p2 _ _) has = base_val p2 given
  base_val (Val.the_value _ p2 _ p4) has = base_text_val p4 has ∙ base_val p2 given
  base_val (Val.call _ _ p3) has = base_calls p3 has

  pub base_vals : {w w2 : History} {r r2 : RunState} {f : Frame} {d : ℕ} {es : tree.Exprs} {vs : List (List ℕ)}
      {os : Result (List (List ℕ)) Stop} → Vals w r f d es vs os w2 r2 → HasMemory os → base w2 ≡ base w
  base_vals Vals.vals_memory has = absurd (has refl)
  base_vals (Vals.vals_done _) has = refl
  base_vals (Vals.vals_stop _ p2) has = base_val p2 (stopped has)
  base_vals (Vals.vals_more _ p2 p3) has = base_vals p3 has ∙ base_val p2 given

  pub base_number_val : {w w2 : History} {r r2 : RunState} {f : Frame} {d : ℕ} {e : tree.Expr} {ou : Result ℤ Stop}
      → NumberVal w r f d e ou w2 r2 → HasMemory ou → base w2 ≡ base w
  base_number_val NumberVal.number_memory has = absurd (has refl)
  base_number_val (NumberVal.no_number p1) has = base_val p1 (stopped has)
  base_number_val (NumberVal.a_number p1 _) has = base_val p1 given

  pub base_truth_val : {w w2 : History} {r r2 : RunState} {f : Frame} {d : ℕ} {e : tree.Expr} {ob : Result Bool Stop}
      → TruthVal w r f d e ob w2 r2 → HasMemory ob → base w2 ≡ base w
  base_truth_val TruthVal.truth_memory has = absurd (has refl)
  base_truth_val (TruthVal.no_truth p1) has = base_val p1 (stopped has)
  base_truth_val (TruthVal.a_truth p1 _) has = base_val p1 given

  pub base_text_val : {w w2 : History} {r r2 : RunState} {f : Frame} {d : ℕ} {t : List ℕ} {o : Result (List ℕ) Stop}
      → TextVal w r f d t o w2 r2 → HasMemory o → base w2 ≡ base w
  base_text_val TextVal.value_memory has = absurd (has refl)
  base_text_val (TextVal.value_no_step _) has = refl
  base_text_val (TextVal.value_too_deep _ _) has = refl
  base_text_val (TextVal.value_syntax _ _ _) has = refl
  base_text_val (TextVal.value _ _ _ p4) has = base_val p4 has

  pub base_chunk_of : {w w2 : History} {r r2 : RunState} {f : Frame} {d : ℕ} {hd : tree.Chunk} {oc : Result Chunk Stop}
      → ChunkOf w r f d hd oc w2 r2 → HasMemory oc → base w2 ≡ base w
  base_chunk_of ChunkOf.chunk_memory has = absurd (has refl)
  base_chunk_of (ChunkOf.one_stops _ p2) has = base_number_val p2 (stopped has)
  base_chunk_of (ChunkOf.one _ p2 _) has = base_number_val p2 given
  base_chunk_of (ChunkOf.from_stops _ p2) has = base_number_val p2 (stopped has)
  base_chunk_of (ChunkOf.to_stops _ p2 p3) has = base_number_val p3 (stopped has) ∙ base_number_val p2 given
  base_chunk_of (ChunkOf.range _ p2 p3 _) has = base_number_val p3 given ∙ base_number_val p2 given
  base_chunk_of (ChunkOf.ordinal _ _) has = refl

  pub base_resolves : {w w2 : History} {r r2 : RunState} {f : Frame} {d : ℕ} {ct : tree.Container}
      {opl : Result PlaceView Stop} → Resolves w r f d ct opl w2 r2 → HasMemory opl → base w2 ≡ base w
  base_resolves Resolves.place_memory has = absurd (has refl)
  base_resolves (Resolves.place_variable _ _) has = refl
  base_resolves (Resolves.place_field_stops _ p2) has = base_part_met p2 (stopped has)
  base_resolves (Resolves.place_field _ p2 _) has = base_part_met p2 given
  base_resolves (Resolves.place_chunk_stops _ p2) has = base_chunk_of p2 (stopped has)
  base_resolves (Resolves.place_chunk_of_stops _ p2 p3) has = base_resolves p3 has ∙ base_chunk_of p2 given
  base_resolves (Resolves.place_chunk _ p2 p3 _) has = base_resolves p3 given ∙ base_chunk_of p2 given

  pub base_picks : {w w2 : History} {r r2 : RunState} {f : Frame} {d : ℕ} {wh : tree.Which} {opi : Result Pick Stop}
      → Picks w r f d wh opi w2 r2 → HasMemory opi → base w2 ≡ base w
  base_picks Picks.pick_memory has = absurd (has refl)
  base_picks (Picks.pick_id_stops _ p2) has = base_val p2 (stopped has)
  base_picks (Picks.pick_id _ p2 _) has = base_val p2 given
  base_picks (Picks.pick_text_stops _ p2) has = base_val p2 (stopped has)
  base_picks (Picks.pick_text _ p2 _) has = base_val p2 given

  pub base_seeks : {w w2 : History} {r r2 : RunState} {f : Frame} {d : ℕ} {sl : tree.Selector}
      {osk : Result Sought Stop} → Seeks w r f d sl osk w2 r2 → HasMemory osk → base w2 ≡ base w
  base_seeks Seeks.seek_memory has = absurd (has refl)
  base_seeks (Seeks.seek_this _ _) has = refl
  base_seeks (Seeks.seek_next _ _) has = refl
  base_seeks (Seeks.seek_previous _ _) has = refl
  base_seeks (Seeks.seek_nth _ _) has = refl
  base_seeks (Seeks.seek_stops _ p2) has = base_picks p2 (stopped has)
  base_seeks (Seeks.seek_which _ p2 _) has = base_picks p2 given

  pub base_owns : {w w2 : History} {r r2 : RunState} {f : Frame} {d : ℕ} {ly : Layer} {ow : tree.Owner}
      {osc : Result PartScope Stop} → Owns w r f d ly ow osc w2 r2 → HasMemory osc → base w2 ≡ base w
  base_owns Owns.own_memory has = absurd (has refl)
  base_owns (Owns.no_owner _ _) has = refl
  base_owns (Owns.owner_card_stops _ p2) has = base_seeks p2 (stopped has)
  base_owns (Owns.owner_card _ p2 _) has = base_seeks p2 given
  base_owns (Owns.owner_background_stops _ p2) has = base_seeks p2 (stopped has)
  base_owns (Owns.owner_background _ p2 _) has = base_seeks p2 given

  pub base_part_met : {w w2 : History} {r r2 : RunState} {f : Frame} {d : ℕ} {pa : tree.Part}
      {om : Result Referent Stop} → PartMet w r f d pa om w2 r2 → HasMemory om → base w2 ≡ base w
  base_part_met PartMet.part_memory has = absurd (has refl)
  base_part_met (PartMet.part_stops _ p2) has = base_picks p2 (stopped has)
  base_part_met (PartMet.part_owner_stops _ p2 _ p4) has = base_owns p4 (stopped has) ∙ base_picks p2 given
  base_part_met (PartMet.part_of_owner _ p2 _ p4 _) has = base_owns p4 given ∙ base_picks p2 given
  base_part_met (PartMet.nth_owner_stops _ _ p3) has = base_owns p3 (stopped has)
  base_part_met (PartMet.nth_of_owner _ _ p3 _) has = base_owns p3 given

  pub base_meets : {w w2 : History} {r r2 : RunState} {f : Frame} {d : ℕ} {rf : tree.Ref} {om : Result Referent Stop}
      → Meets w r f d rf om w2 r2 → HasMemory om → base w2 ≡ base w
  base_meets Meets.meet_memory has = absurd (has refl)
  base_meets (Meets.meet_me _ _) has = refl
  base_meets (Meets.meet_target _ _) has = refl
  base_meets (Meets.meet_stack _ _) has = refl
  base_meets (Meets.card_stops _ p2) has = base_seeks p2 (stopped has)
  base_meets (Meets.meet_card _ p2 _) has = base_seeks p2 given
  base_meets (Meets.background_stops _ p2) has = base_seeks p2 (stopped has)
  base_meets (Meets.meet_background _ p2 _) has = base_seeks p2 given
  base_meets (Meets.meet_part _ p2) has = base_part_met p2 has

  pub base_leads : {w w2 : History} {r r2 : RunState} {f : Frame} {d : ℕ} {de : stm.Destination} {oi : Result ℕ Stop}
      → Leads w r f d de oi w2 r2 → HasMemory oi → base w2 ≡ base w
  base_leads Leads.lead_memory has = absurd (has refl)
  base_leads (Leads.lead_card_stops _ p2) has = base_seeks p2 (stopped has)
  base_leads (Leads.lead_card _ p2 _) has = base_seeks p2 given
  base_leads (Leads.lead_background_stops _ p2) has = base_seeks p2 (stopped has)
  base_leads (Leads.lead_background _ p2 _) has = base_seeks p2 given

  pub base_form : {w w2 : History} {r r2 : RunState} {f f2 : Frame} {d : ℕ} {s : stm.Stmt} {oh : Result How Stop}
      → Form w r f d s oh w2 r2 f2 → HasMemory oh → base w2 ≡ base w
  base_form Form.form_memory has = absurd (has refl)
  base_form (Form.show_stops _ p2) has = base_val p2 (stopped has)
  base_form (Form.show _ p2 _) has = base_val p2 given
  base_form (Form.put_stops _ p2) has = base_val p2 (stopped has)
  base_form (Form.put_nowhere _ p2 p3) has = base_resolves p3 (stopped has) ∙ base_val p2 given
  base_form (Form.put_fails _ p2 p3 p4) has = base_edits p4 (stopped has) ∙ base_resolves p3 given ∙ base_val p2 given
  base_form (Form.put _ p2 p3 p4) has = base_edits p4 given ∙ base_resolves p3 given ∙ base_val p2 given
  base_form (Form.get_stops _ p2) has = base_val p2 (stopped has)
  base_form (Form.get _ p2 p3) has = base_stores p3 ∙ base_val p2 given
  base_form (Form.set_stops _ p2) has = base_val p2 (stopped has)
  base_form (Form.set_nowhere _ p2 p3) has = base_meets p3 (stopped has) ∙ base_val p2 given
  base_form (Form.set_fails _ p2 p3 p4) has = base_sets p4 (stopped has) ∙ base_meets p3 given ∙ base_val p2 given
  base_form (Form.set _ p2 p3 p4) has = base_sets p4 given ∙ base_meets p3 given ∙ base_val p2 given
  base_form (Form.set_run_stops _ p2) has = base_val p2 (stopped has)
  base_form (Form.set_run_fails _ p2 _) has = base_val p2 given
  base_form (Form.set_run _ p2 _) has = base_val p2 given
  base_form (Form.add _ p2) has = base_alters p2 has
  base_form (Form.subtract _ p2) has = base_alters p2 has
  base_form (Form.multiply _ p2) has = base_alters p2 has
  base_form (Form.divide _ p2) has = base_alters p2 has
  base_form (Form.delete_stops _ p2) has = base_chunk_of p2 (stopped has)
  base_form (Form.delete_nowhere _ p2 p3) has = base_resolves p3 (stopped has) ∙ base_chunk_of p2 given
  base_form (Form.delete_fails _ p2 p3 _ p5) has =
      base_edits p5 (stopped has) ∙ base_resolves p3 given ∙ base_chunk_of p2 given
  base_form (Form.delete _ p2 p3 _ p5) has = base_edits p5 given ∙ base_resolves p3 given ∙ base_chunk_of p2 given
  base_form (Form.do_stops _ p2) has = base_val p2 (stopped has)
  base_form (Form.do_value _ p2 p3) has = base_do_text p3 has ∙ base_val p2 given
  base_form (Form.send_text_stops _ p2) has = base_val p2 (stopped has)
  base_form (Form.send_nowhere _ p2 p3) has = base_meets p3 (stopped has) ∙ base_val p2 given
  base_form (Form.send_stops _ p2 p3 p4) has =
      base_sends_text p4 (stopped has) ∙ base_meets p3 given ∙ base_val p2 given
  base_form (Form.send _ p2 p3 p4) has = base_sends_text p4 given ∙ base_meets p3 given ∙ base_val p2 given
  base_form (Form.go_nowhere _ p2) has = base_leads p2 (stopped has)
  base_form (Form.go_stops _ p2 p3) has = base_goes p3 (stopped has) ∙ base_leads p2 given
  base_form (Form.go _ p2 p3) has = base_goes p3 given ∙ base_leads p2 given
  base_form (Form.global _ p2) has = base_declares_all p2
  base_form (Form.exit_repeat _) has = refl
  base_form (Form.next_repeat _) has = refl
  base_form (Form.exit_to_hypercard _) has = refl
  base_form (Form.exit_handler _) has = refl
  base_form (Form.pass _) has = refl
  base_form (Form.return_nothing _) has = refl
  base_form (Form.return_stops _ p2) has = base_val p2 (stopped has)
  base_form (Form.return_value _ p2) has = base_val p2 given
  base_form (Form.command_stops _ _ p3) has = base_calls p3 (stopped has)
  base_form (Form.command _ _ p3) has = base_calls p3 given
  base_form (Form.if_stops _ p2) has = base_truth_val p2 (stopped has)
  base_form (Form.if_true _ p2 _ p4) has = base_block p4 has ∙ base_truth_val p2 given
  base_form (Form.if_false _ p2 _ p4) has = base_block p4 has ∙ base_truth_val p2 given
  base_form (Form.forever _ p2) has = base_endless p2 has
  base_form (Form.times_stops _ p2) has = base_number_val p2 (stopped has)
  base_form (Form.times _ p2 _ p4) has = base_counts p4 has ∙ base_number_val p2 given
  base_form (Form.while _ p2) has = base_while p2 has
  base_form (Form.until _ p2) has = base_while p2 has
  base_form (Form.up_stops _ p2) has = base_bounds p2 (stopped has)
  base_form (Form.up _ p2 p3) has = base_counts p3 has ∙ base_bounds p2 given
  base_form (Form.down_stops _ p2) has = base_bounds p2 (stopped has)
  base_form (Form.down _ p2 p3) has = base_counts p3 has ∙ base_bounds p2 given

  pub base_alters : {w w2 : History} {r r2 : RunState} {f f2 : Frame} {d : ℕ} {op : Op} {e : tree.Expr}
      {ct : tree.Container} {oh : Result How Stop} → Alters w r f d op e ct oh w2 r2 f2 → HasMemory oh
      → base w2 ≡ base w
  base_alters Alters.alter_memory has = absurd (has refl)
  base_alters (Alters.alter_stops p1) has = base_val p1 (stopped has)
  base_alters (Alters.alter_nowhere p1 p2) has = base_resolves p2 (stopped has) ∙ base_val p1 given
  base_alters (Alters.alter_fails p1 p2 p3) has =
      base_edits p3 (stopped has) ∙ base_resolves p2 given ∙ base_val p1 given
  base_alters (Alters.alter p1 p2 p3) has = base_edits p3 given ∙ base_resolves p2 given ∙ base_val p1 given

  pub base_block : {w w2 : History} {r r2 : RunState} {f f2 : Frame} {d : ℕ} {ss : stm.Stmts} {oh : Result How Stop}
      → Block w r f d ss oh w2 r2 f2 → HasMemory oh → base w2 ≡ base w
  base_block Block.block_memory has = absurd (has refl)
  base_block (Block.block_end _) has = refl
  base_block (Block.block_no_step _ _) has = refl
  base_block (Block.block_stops _ _ p3) has = base_form p3 has
  base_block (Block.block_leaves _ _ p3 _) has = base_form p3 given
  base_block (Block.block_goes_on _ _ p3 p4) has = base_block p4 has ∙ base_form p3 given

  pub base_do_text : {w w2 : History} {r r2 : RunState} {f f2 : Frame} {d : ℕ} {t : List ℕ} {oh : Result How Stop}
      → DoText w r f d t oh w2 r2 f2 → HasMemory oh → base w2 ≡ base w
  base_do_text DoText.do_memory has = absurd (has refl)
  base_do_text (DoText.do_too_deep _) has = refl
  base_do_text (DoText.do_syntax _ _) has = refl
  base_do_text (DoText.do_lines _ _ p3) has = base_block p3 has

  pub base_endless : {w w2 : History} {r r2 : RunState} {f f2 : Frame} {d : ℕ} {ss : stm.Stmts} {oh : Result How Stop}
      → Endless w r f d ss oh w2 r2 f2 → HasMemory oh → base w2 ≡ base w
  base_endless Endless.endless_memory has = absurd (has refl)
  base_endless (Endless.endless_no_step _) has = refl
  base_endless (Endless.endless_stops _ p2) has = base_block p2 has
  base_endless (Endless.endless_leaves _ p2 _) has = base_block p2 given
  base_endless (Endless.endless_goes_on _ p2 _ p4) has = base_endless p4 has ∙ base_block p2 given

  pub base_while : {w w2 : History} {r r2 : RunState} {f f2 : Frame} {d : ℕ} {b : Bool} {e : tree.Expr} {ss : stm.Stmts}
      {oh : Result How Stop} → While w r f d b e ss oh w2 r2 f2 → HasMemory oh → base w2 ≡ base w
  base_while While.while_memory has = absurd (has refl)
  base_while (While.while_no_step _) has = refl
  base_while (While.while_test_stops _ p2) has = base_truth_val p2 (stopped has)
  base_while (While.while_ends _ p2 _) has = base_truth_val p2 given
  base_while (While.while_stops _ p2 _ p4) has = base_block p4 has ∙ base_truth_val p2 given
  base_while (While.while_leaves _ p2 _ p4 _) has = base_block p4 given ∙ base_truth_val p2 given
  base_while (While.while_goes_on _ p2 _ p4 _ p6) has =
      base_while p6 has ∙ base_block p4 given ∙ base_truth_val p2 given

  pub base_bounds : {w w2 : History} {r r2 : RunState} {f : Frame} {d : ℕ} {e e2 : tree.Expr} {b : Bool}
      {oco : Result CounterState Stop} → Bounds w r f d e e2 b oco w2 r2 → HasMemory oco → base w2 ≡ base w
  base_bounds Bounds.bounds_memory has = absurd (has refl)
  base_bounds (Bounds.start_stops p1) has = base_val p1 (stopped has)
  base_bounds (Bounds.bound_stops p1 p2) has = base_val p2 (stopped has) ∙ base_val p1 given
  base_bounds (Bounds.bounds p1 p2 _) has = base_val p2 given ∙ base_val p1 given

  pub base_counts : {w w2 : History} {r r2 : RunState} {f f2 : Frame} {d : ℕ} {on : Option (List ℕ)} {co : CounterState}
      {ss : stm.Stmts} {oh : Result How Stop} → Counts w r f d on co ss oh w2 r2 f2 → HasMemory oh → base w2 ≡ base w
  base_counts Counts.counts_memory has = absurd (has refl)
  base_counts (Counts.counts_no_step _) has = refl
  base_counts (Counts.counts_end _ _) has = refl
  base_counts (Counts.counts_stop _ _ p3 p4) has = base_block p4 has ∙ base_assigns p3
  base_counts (Counts.counts_leave _ _ p3 p4 _) has = base_block p4 given ∙ base_assigns p3
  base_counts (Counts.counts_go_on _ _ p3 p4 _ _ p7) has = base_counts p7 has ∙ base_block p4 given ∙ base_assigns p3

  pub base_calls : {w w2 : History} {r r2 : RunState} {f : Frame} {d i : ℕ} {n : List ℕ} {es : tree.Exprs}
      {cl : HandlerKind} {o : Result (List ℕ) Stop} → Calls w r f d i n es cl o w2 r2 → HasMemory o → base w2 ≡ base w
  base_calls Calls.calls_memory has = absurd (has refl)
  base_calls (Calls.calls_stop p1) has = base_vals p1 (stopped has)
  base_calls (Calls.calls p1 p2) has = base_sends p2 has ∙ base_vals p1 given

  pub base_sends_text : {w w2 : History} {r r2 : RunState} {f : Frame} {d i : ℕ} {t : List ℕ} {o : Result (List ℕ) Stop}
      → SendsText w r f d i t o w2 r2 → HasMemory o → base w2 ≡ base w
  base_sends_text SendsText.send_memory has = absurd (has refl)
  base_sends_text (SendsText.send_syntax _) has = refl
  base_sends_text (SendsText.sends_text _ p2) has = base_calls p2 has

  pub base_sends : {w w2 : History} {r r2 : RunState} {f : Frame} {d i : ℕ} {n : List ℕ} {vs : List (List ℕ)}
      {cl : HandlerKind} {o : Result (List ℕ) Stop} → Sends w r f d i n vs cl o w2 r2 → HasMemory o → base w2 ≡ base w
  base_sends Sends.sends_memory has = absurd (has refl)
  base_sends (Sends.sends_no_step _) has = refl
  base_sends (Sends.sends _ _ _ p4) has = base_along p4 has

  pub base_along : {w w2 : History} {r r2 : RunState} {f : Frame} {d i : ℕ} {is n : List ℕ} {vs : List (List ℕ)}
      {cl : HandlerKind} {o : Result (List ℕ) Stop} → Along w r f d i is n vs cl o w2 r2 → HasMemory o
      → base w2 ≡ base w
  base_along Along.along_memory has = absurd (has refl)
  base_along (Along.along_broken _) has = refl
  base_along (Along.along_too_deep _ _) has = refl
  base_along (Along.along_stops _ _ _ p4) has = base_block p4 (stopped has)
  base_along (Along.along_ends _ _ _ p4 _) has = base_block p4 given
  base_along (Along.along_passes _ _ _ p4 _ p6) has = base_along p6 has ∙ base_block p4 given
  base_along (Along.along_unhandled _ p2) has = base_outside p2 has

  pub base_outside : {w w2 : History} {r r2 : RunState} {f : Frame} {d : ℕ} {n : List ℕ} {vs : List (List ℕ)}
      {cl : HandlerKind} {o : Result (List ℕ) Stop} → Outside w r f d n vs cl o w2 r2 → HasMemory o → base w2 ≡ base w
  base_outside Outside.outside_memory has = absurd (has refl)
  base_outside (Outside.no_external _ p2) has = base_built_in_gives p2 has
  base_outside (Outside.external_stops _ p2) has = base_converses p2 (stopped has)
  base_outside (Outside.external_ends _ p2 _ _) has = base_converses p2 given
  base_outside (Outside.external_passes _ p2 _ p4) has = base_built_in_gives p4 has ∙ base_converses p2 given

  pub base_built_in_gives : {w w2 : History} {r r2 : RunState} {f : Frame} {d : ℕ} {n : List ℕ} {vs : List (List ℕ)}
      {cl : HandlerKind} {o : Result (List ℕ) Stop} → BuiltInGives w r f d n vs cl o w2 r2 → HasMemory o
      → base w2 ≡ base w
  base_built_in_gives BuiltInGives.built_in_memory has = absurd (has refl)
  base_built_in_gives (BuiltInGives.value_call _ _ p3) has = base_text_val p3 has
  base_built_in_gives (BuiltInGives.value_arguments _ _) has = refl
  base_built_in_gives (BuiltInGives.function_call _ _) has = refl
  base_built_in_gives (BuiltInGives.menu_unknown _ _) has = refl
  base_built_in_gives (BuiltInGives.menu_item _ _ p3) has = base_menu p3 has
  base_built_in_gives (BuiltInGives.ignored_message _ _) has = refl
  base_built_in_gives (BuiltInGives.not_understood _ _) has = refl

  pub base_system : {w w2 : History} {r r2 : RunState} {f : Frame} {d i : ℕ} {mg : SystemMessage}
      {o : Result (List ℕ) Stop} → System w r f d i mg o w2 r2 → HasMemory o → base w2 ≡ base w
  base_system System.system_memory has = absurd (has refl)
  base_system (System.system_locked _) has = refl
  base_system (System.system _ _ p3) has = base_sends p3 has

  pub base_systems : {w w2 : History} {r r2 : RunState} {f : Frame} {d : ℕ} {ms : List SystemMessage}
      {o : Result (List ℕ) Stop} → Systems w r f d ms o w2 r2 → HasMemory o → base w2 ≡ base w
  base_systems Systems.systems_memory has = absurd (has refl)
  base_systems (Systems.systems_done _) has = refl
  base_systems (Systems.systems_stop _ _ p3) has = base_system p3 has
  base_systems (Systems.systems_more _ _ p3 p4) has = base_systems p4 has ∙ base_system p3 given

  pub base_goes : {w w2 : History} {r r2 : RunState} {f : Frame} {d i : ℕ} {o : Result (List ℕ) Stop}
      → Goes w r f d i o w2 r2 → HasMemory o → base w2 ≡ base w
  base_goes Goes.go_memory has = absurd (has refl)
  base_goes (Goes.go_stays _) has = refl
  base_goes (Goes.go_close_stops _ _ p3) has = base_systems p3 has
  base_goes (Goes.go_gone _ _ p3 _) has = base_systems p3 given
  base_goes (Goes.go_arrives _ _ p3 _ p5 p6) has = base_systems p6 has ∙ base_made p5 ∙ base_systems p3 given

  pub base_menu : {w w2 : History} {r r2 : RunState} {f : Frame} {d : ℕ} {it : Item} {o : Result (List ℕ) Stop}
      → Menu w r f d it o w2 r2 → HasMemory o → base w2 ≡ base w
  base_menu Menu.menu_memory has = absurd (has refl)
  base_menu (Menu.card_close_stops _ p2) has = base_systems p2 has
  base_menu (Menu.card_full _ p2 p3) has = base_adds p3 (stopped has) ∙ base_systems p2 given
  base_menu (Menu.new_card _ p2 p3 p4) has = base_systems p4 has ∙ base_adds p3 given ∙ base_systems p2 given
  base_menu (Menu.background_close_stops _ p2) has = base_systems p2 has
  base_menu (Menu.background_full _ p2 p3) has = base_adds p3 (stopped has) ∙ base_systems p2 given
  base_menu (Menu.new_background _ p2 p3 p4) has = base_systems p4 has ∙ base_adds p3 given ∙ base_systems p2 given
  base_menu (Menu.part_full _ _ p3) has = base_adds p3 (stopped has)
  base_menu (Menu.new_part _ _ p3) has = base_adds p3 given
  base_menu (Menu.delete_refused _ _) has = refl
  base_menu (Menu.delete_card _ _ p3 _ p5) has = base_systems p5 has ∙ base_made p3

  pub base_converses : {w w2 : History} {r r2 : RunState} {d k : ℕ} {vs : List (List ℕ)} {odn : Result Conversed Stop}
      → Converses w r d k vs odn w2 r2 → HasMemory odn → base w2 ≡ base w
  base_converses Converses.converse_memory has = absurd (has refl)
  base_converses (Converses.too_many_arguments _) has = refl
  base_converses (Converses.conversation_too_deep _ _) has = refl
  base_converses (Converses.converses _ _ _ p4) has = base_talks p4 has

  pub base_talks : {w w2 : History} {r r2 : RunState} {d k : ℕ} {inp : Input} {odn : Result Conversed Stop}
      → Talks w r d k inp odn w2 r2 → HasMemory odn → base w2 ≡ base w
  base_talks Talks.talk_memory has = absurd (has refl)
  base_talks (Talks.talk_no_step _) has = refl
  base_talks (Talks.talk_done _ p2 _ _) has = base_turn p2
  base_talks (Talks.talk_fails _ p2 _) has = base_turn p2
  base_talks (Talks.talk_stops _ p2 p3) has = base_calls_back p3 (stopped has) ∙ base_turn p2
  base_talks (Talks.talk_goes_on _ p2 p3 p4) has = base_talks p4 has ∙ base_calls_back p3 given ∙ base_turn p2

  pub base_calls_back : {w w2 : History} {r r2 : RunState} {d : ℕ} {ask : Ask} {oin : Result Input Stop}
      → CallsBack w r d ask oin w2 r2 → HasMemory oin → base w2 ≡ base w
  base_calls_back CallsBack.call_back_memory has = absurd (has refl)
  base_calls_back (CallsBack.message_syntax _ _) has = refl
  base_calls_back (CallsBack.message_stops _ _ _ p4) has = base_block p4 (stopped has)
  base_calls_back (CallsBack.message_runs _ _ _ p4 _) has = base_block p4 given
  base_calls_back (CallsBack.eval_syntax _ _) has = refl
  base_calls_back (CallsBack.eval_stops _ _ _ p4) has = base_val p4 (stopped has)
  base_calls_back (CallsBack.evaluates _ _ _ p4 _) has = base_val p4 given
  base_calls_back (CallsBack.bad_global _ _) has = refl
  base_calls_back (CallsBack.global_set _ _ _ p4 _) has = base_stores p4
  base_calls_back (CallsBack.no_such_field _ _ _) has = refl
  base_calls_back (CallsBack.field_set _ _ _ p4 _) has = base_stores p4

  pub base_line : {w w2 : History} {r r2 : RunState} {ss : stm.Stmts} {ot : Result (Unit {0}) Stop}
      → Line w r ss ot w2 r2 → HasMemory ot → base w2 ≡ base w
  base_line Line.line_memory has = absurd (has refl)
  base_line (Line.line_stops _ p2) has = base_block p2 (stopped has)
  base_line (Line.line _ p2) has = base_block p2 given

  pub base_message : {w w2 : History} {r r2 : RunState} {i : ℕ} {n : List ℕ} {vs : List (List ℕ)}
      {ot : Result (Unit {0}) Stop} → Message w r i n vs ot w2 r2 → HasMemory ot → base w2 ≡ base w
  base_message Message.message_memory has = absurd (has refl)
  base_message (Message.sent_alone_stops _ p2) has = base_sends p2 (stopped has)
  base_message (Message.sent_alone _ p2) has = base_sends p2 given

mutual
  pub base_refers : {w w2 : History} {r r2 : RunState} {pa : tree.Part} {oi : Result ℕ Stop} → Refers w r pa oi w2 r2
      → HasMemory oi → base w2 ≡ base w
  base_refers Refers.refer_memory has = absurd (has refl)
  base_refers (Refers.refer_stops _ p2) has = base_part_met p2 (stopped has)
  base_refers (Refers.refers _ p2 _) has = base_part_met p2 given

  pub base_tells : {w w2 : History} {r r2 : RunState} {i : ℕ} {mg : SystemMessage} {ot : Result (Unit {0}) Stop}
      → Tells w r i mg ot w2 r2 → HasMemory ot → base w2 ≡ base w
  base_tells Tells.tell_memory has = absurd (has refl)
  base_tells (Tells.tells_nothing _) has = refl
  base_tells (Tells.tells _ _ p3) has = base_message p3 has

  pub base_tells_all : {w w2 : History} {r r2 : RunState} {ms : List SystemMessage} {ot : Result (Unit {0}) Stop}
      → TellsAll w r ms ot w2 r2 → HasMemory ot → base w2 ≡ base w
  base_tells_all TellsAll.tell_all_memory has = absurd (has refl)
  base_tells_all (TellsAll.none_to_tell _) has = refl
  base_tells_all (TellsAll.tell_stops _ p2) has = base_tells p2 has
  base_tells_all (TellsAll.tells_on _ p2 p3) has = base_tells_all p3 has ∙ base_tells p2 given

  pub base_clicks : {w w2 : History} {r r2 : RunState} {pa : tree.Part} {ot : Result (Unit {0}) Stop}
      → Clicks w r pa ot w2 r2 → HasMemory ot → base w2 ≡ base w
  base_clicks Clicks.click_memory has = absurd (has refl)
  base_clicks (Clicks.click_misses p1) has = base_refers p1 (stopped has)
  base_clicks (Clicks.press_stops p1 p2) has = base_tells p2 has ∙ base_refers p1 given
  base_clicks (Clicks.part_goes p1 p2 _) has = base_tells p2 given ∙ base_refers p1 given
  base_clicks (Clicks.clicks p1 p2 _ p4) has = base_tells p4 has ∙ base_tells p2 given ∙ base_refers p1 given

  pub base_types_over : {w w2 : History} {r r2 : RunState} {m : Referent} {t : List ℕ} {ot : Result (Unit {0}) Stop}
      → TypesOver w r m t ot w2 r2 → HasMemory ot → base w2 ≡ base w
  base_types_over TypesOver.type_over_memory has = absurd (has refl)
  base_types_over (TypesOver.typed_field_goes _ _) has = refl
  base_types_over (TypesOver.types_over _ _ _ p4 _ _ p7) has = base_tells p7 has ∙ base_stores p4

  pub base_types_into : {w w2 : History} {r r2 : RunState} {t : List ℕ} {pa : tree.Part} {ot : Result (Unit {0}) Stop}
      → TypesInto w r t pa ot w2 r2 → HasMemory ot → base w2 ≡ base w
  base_types_into TypesInto.type_memory has = absurd (has refl)
  base_types_into (TypesInto.type_misses p1) has = base_refers p1 (stopped has)
  base_types_into (TypesInto.field_open_stops p1 _ p3) has = base_tells p3 has ∙ base_refers p1 given
  base_types_into (TypesInto.types_into p1 _ p3 _ p5) has =
      base_types_over p5 has ∙ base_tells p3 given ∙ base_refers p1 given

  pub base_acts : {w w2 : History} {r r2 : RunState} {ac : Action} {ot : Result (Unit {0}) Stop} → Acts w r ac ot w2 r2
      → HasMemory ot → base w2 ≡ base w
  base_acts (Acts.acts_by_lines _ p2) has = base_line p2 has
  base_acts (Acts.acts_by_opening _ p2) has = base_tells_all p2 has
  base_acts (Acts.acts_by_click _ p2) has = base_clicks p2 has
  base_acts (Acts.acts_by_typing _ p2) has = base_types_into p2 has
