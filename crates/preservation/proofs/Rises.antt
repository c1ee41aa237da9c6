-- Written by tools/meaning/laws.py from tools/meaning/meaning.rules.
-- What is open rises by what is replaced.
use Rattle.std.proofs.Common.{refl}
use Rattle.preservation.specs.Laws.{HasMemory}
use Rattle.preservation.specs.Rising.{RisesBy}
use Rattle.preservation.specs.Replaced.{replaced_val, replaced_vals, replaced_number_val, replaced_truth_val}
use Rattle.preservation.specs.Replaced.{replaced_text_val, replaced_chunk_of, replaced_resolves, replaced_picks}
use Rattle.preservation.specs.Replaced.{replaced_seeks, replaced_owns, replaced_part_met, replaced_meets}
use Rattle.preservation.specs.Replaced.{replaced_leads, replaced_form, replaced_alters, replaced_block}
use Rattle.preservation.specs.Replaced.{replaced_do_text, replaced_endless, replaced_while, replaced_bounds}
use Rattle.preservation.specs.Replaced.{replaced_counts, replaced_calls, replaced_sends_text, replaced_sends}
use Rattle.preservation.specs.Replaced.{replaced_along, replaced_outside, replaced_built_in_gives, replaced_system}
use Rattle.preservation.specs.Replaced.{replaced_systems, replaced_goes, replaced_menu, replaced_converses}
use Rattle.preservation.specs.Replaced.{replaced_talks, replaced_calls_back, replaced_line, replaced_message}
use Rattle.preservation.specs.Replaced.{replaced_refers, replaced_tells, replaced_tells_all, replaced_clicks}
use Rattle.preservation.specs.Replaced.{replaced_types_over, replaced_types_into, replaced_acts}
use Rattle.preservation.proofs.Ends.{given, stopped, faulted}
use Rattle.preservation.proofs.Risen.{rises_nothing, rises_trans, rises_made, rises_turn, rises_edits, rises_stores}
use Rattle.preservation.proofs.Risen.{rises_assigns, rises_declares_all, rises_sets, rises_adds}
use Rattle.std.specs.Prelude.{ℕ, ℤ, List, Bool, Option, Result}
use Rattle.ht_values.specs.declared.operator.Op.{Op}
use Rattle.ht_grammar.specs.declared.vocabulary.HandlerKind.{HandlerKind}
use Rattle.ht_grammar.specs.declared.vocabulary.Layer.{Layer}
use Rattle.ht_grammar.specs.Statements as stm
use Rattle.ht_grammar.specs.Trees as tree
use Rattle.chunks.specs.declared.chunk.Chunk.{Chunk}
use Rattle.externals.specs.declared.external.Ask.{Ask}
use Rattle.externals.specs.declared.external.Input.{Input}
use Rattle.change_journal.specs.History.{History}
use Rattle.object_references.specs.declared.referent.PartScope.{PartScope}
use Rattle.object_references.specs.declared.referent.Pick.{Pick}
use Rattle.object_references.specs.declared.referent.Referent.{Referent}
use Rattle.object_references.specs.declared.referent.Sought.{Sought}
use Rattle.containers.specs.Places.{PlaceView}
use Rattle.meaning.specs.declared.end.Conversed.{Conversed}
use Rattle.meaning.specs.declared.frame.Frame.{Frame}
use Rattle.meaning.specs.declared.end.How.{How}
use Rattle.meaning.specs.declared.end.Stop.{Stop}
use Rattle.meaning.specs.declared.system.SystemMessage.{SystemMessage}
use Rattle.meaning.specs.declared.item.Item.{Item}
use Rattle.meaning.specs.Actions.{Action}
use Rattle.meaning.specs.State.{RunState}
use Rattle.meaning.specs.Repeats.{CounterState}
use Rattle.meaning.specs.Meaning.{Val, Vals, NumberVal, TruthVal, TextVal, ChunkOf, Resolves, Picks, Seeks, Owns}
use Rattle.meaning.specs.Meaning.{PartMet, Meets, Leads, Form, Alters, Block, DoText, Endless, While, Bounds, Counts}
use Rattle.meaning.specs.Meaning.{Calls, SendsText, Sends, Along, Outside, BuiltInGives, System, Systems, Goes, Menu}
use Rattle.meaning.specs.Meaning.{Converses, Talks, CallsBack, Line, Message, Refers, Tells, TellsAll, Clicks}
use Rattle.meaning.specs.Meaning.{TypesOver, TypesInto, Acts}

mutual
  pub rises_val : {w w2 : History} {r r2 : RunState} {f : Frame} {d : ℕ} {e : tree.Expr} {o : Result (List ℕ) Stop}
      (v : Val w r f d e o w2 r2) → HasMemory o → RisesBy (replaced_val v) w.start w2.start
  rises_val Val.memory has = absurd (has refl)
  rises_val (Val.number _) has = rises_nothing
  rises_val (Val.quoted _) has = rises_nothing
  rises_val (Val.constant _ _) has = rises_nothing
  rises_val (Val.return_sign _ _) has = rises_nothing
  rises_val (Val.name _ _) has = rises_nothing
  rises_val (Val.paren _ p2) has = rises_val p2 has
  rises_val (Val.operand_stops _ p2) has = rises_val p2 has
  rises_val (Val.one_operand _ p2 _) has = rises_val p2 given
  rises_val (Val.left_stops _ p2) has = rises_val p2 has
  rises_val (Val.right_stops _ p2 p3) has = rises_trans (rises_val p2 given) (rises_val p3 has)
  rises_val (Val.two_operands _ p2 p3 _) has = rises_trans (rises_val p2 given) (rises_val p3 given)
  rises_val (Val.there_is _ p2 _) has = rises_meets p2 given
  rises_val (Val.there_is_none _ p2 _) has = rises_meets p2 faulted
  rises_val (Val.there_stops _ p2 _) has = rises_meets p2 (stopped has)
  rises_val (Val.chunk_stops _ p2) has = rises_chunk_of p2 (stopped has)
  rises_val (Val.chunk_of_stops _ p2 p3) has = rises_trans (rises_chunk_of p2 given) (rises_val p3 has)
  rises_val (Val.chunk _ p2 p3 _) has = rises_trans (rises_chunk_of p2 given) (rises_val p3 given)
  rises_val (Val.field_stops _ p2) has = rises_part_met p2 (stopped has)
  rises_val (Val.field _ p2 _) has = rises_part_met p2 given
  rises_val (Val.the_result _ _) has = rises_nothing
  rises_val (Val.the_target _ _) has = rises_nothing
  rises_val (Val.pieces_stop _ p2) has = rises_val p2 has
  rises_val (Val.pieces _ p2 _) has = rises_val p2 given
  rises_val (Val.cards _ _) has = rises_nothing
  rises_val (Val.backgrounds _ _) has = rises_nothing
  rises_val (Val.parts _ _) has = rises_nothing
  rises_val (Val.number_stops _ p2) has = rises_meets p2 (stopped has)
  rises_val (Val.number_of_object _ p2 _) has = rises_meets p2 given
  rises_val (Val.property_stops _ p2) has = rises_meets p2 (stopped has)
  rises_val (Val.property _ p2 _) has = rises_meets p2 given
  rises_val (Val.run_property_read _ _) has = rises_nothing
  rises_val (Val.the_stops _ p2) has = rises_val p2 has
  rises_val (Val.the_function _ p2 _ _) has = rises_val p2 given
  rises_val (Val.the_value _ p2 _ p4) has = rises_trans (rises_val p2 given) (rises_text_val p4 has)
  rises_val (Val.call _ _ p3) has = rises_calls p3 has

  pub rises_vals : {w w2 : History} {r r2 : RunState} {f : Frame} {d : ℕ} {es : tree.Exprs} {vs : List (List ℕ)}
      {os : Result (List (List ℕ)) Stop} (v : Vals w r f d es vs os w2 r2) → HasMemory os
      → RisesBy (replaced_vals v) w.start w2.start
  rises_vals Vals.vals_memory has = absurd (has refl)
  rises_vals (Vals.vals_done _) has = rises_nothing
  rises_vals (Vals.vals_stop _ p2) has = rises_val p2 (stopped has)
  rises_vals (Vals.vals_more _ p2 p3) has = rises_trans (rises_val p2 given) (rises_vals p3 has)

  pub rises_number_val : {w w2 : History} {r r2 : RunState} {f : Frame} {d : ℕ} {e : tree.Expr} {ou : Result ℤ Stop}
      (v : NumberVal w r f d e ou w2 r2) → HasMemory ou → RisesBy (replaced_number_val v) w.start w2.start
  rises_number_val NumberVal.number_memory has = absurd (has refl)
  rises_number_val (NumberVal.no_number p1) has = rises_val p1 (stopped has)
  rises_number_val (NumberVal.a_number p1 _) has = rises_val p1 given

  pub rises_truth_val : {w w2 : History} {r r2 : RunState} {f : Frame} {d : ℕ} {e : tree.Expr} {ob : Result Bool Stop}
      (v : TruthVal w r f d e ob w2 r2) → HasMemory ob → RisesBy (replaced_truth_val v) w.start w2.start
  rises_truth_val TruthVal.truth_memory has = absurd (has refl)
  rises_truth_val (TruthVal.no_truth p1) has = rises_val p1 (stopped has)
  rises_truth_val (TruthVal.a_truth p1 _) has = rises_val p1 given

  pub rises_text_val : {w w2 : History} {r r2 : RunState} {f : Frame} {d : ℕ} {t : List ℕ} {o : Result (List ℕ) Stop}
      (v : TextVal w r f d t o w2 r2) → HasMemory o → RisesBy (replaced_text_val v) w.start w2.start
  rises_text_val TextVal.value_memory has = absurd (has refl)
  rises_text_val (TextVal.value_no_step _) has = rises_nothing
  rises_text_val (TextVal.value_too_deep _ _) has = rises_nothing
  rises_text_val (TextVal.value_syntax _ _ _) has = rises_nothing
  rises_text_val (TextVal.value _ _ _ p4) has = rises_val p4 has

  pub rises_chunk_of : {w w2 : History} {r r2 : RunState} {f : Frame} {d : ℕ} {hd : tree.Chunk} {oc : Result Chunk Stop}
      (v : ChunkOf w r f d hd oc w2 r2) → HasMemory oc → RisesBy (replaced_chunk_of v) w.start w2.start
  rises_chunk_of ChunkOf.chunk_memory has = absurd (has refl)
  rises_chunk_of (ChunkOf.one_stops _ p2) has = rises_number_val p2 (stopped has)
  rises_chunk_of (ChunkOf.one _ p2 _) has = rises_number_val p2 given
  rises_chunk_of (ChunkOf.from_stops _ p2) has = rises_number_val p2 (stopped has)
  rises_chunk_of (ChunkOf.to_stops _ p2 p3) has =
      rises_trans (rises_number_val p2 given) (rises_number_val p3 (stopped has))
  rises_chunk_of (ChunkOf.range _ p2 p3 _) has = rises_trans (rises_number_val p2 given) (rises_number_val p3 given)
  rises_chunk_of (ChunkOf.ordinal _ _) has = rises_nothing

  pub rises_resolves : {w w2 : History} {r r2 : RunState} {f : Frame} {d : ℕ} {ct : tree.Container}
      {opl : Result PlaceView Stop} (v : Resolves w r f d ct opl w2 r2) → HasMemory opl
      → RisesBy (replaced_resolves v) w.start w2.start
  rises_resolves Resolves.place_memory has = absurd (has refl)
  rises_resolves (Resolves.place_variable _ _) has = rises_nothing
  rises_resolves (Resolves.place_field_stops _ p2) has = rises_part_met p2 (stopped has)
  rises_resolves (Resolves.place_field _ p2 _) has = rises_part_met p2 given
  rises_resolves (Resolves.place_chunk_stops _ p2) has = rises_chunk_of p2 (stopped has)
  rises_resolves (Resolves.place_chunk_of_stops _ p2 p3) has =
      rises_trans (rises_chunk_of p2 given) (rises_resolves p3 has)
  rises_resolves (Resolves.place_chunk _ p2 p3 _) has = rises_trans (rises_chunk_of p2 given) (rises_resolves p3 given)

  pub rises_picks : {w w2 : History} {r r2 : RunState} {f : Frame} {d : ℕ} {wh : tree.Which} {opi : Result Pick Stop}
      (v : Picks w r f d wh opi w2 r2) → HasMemory opi → RisesBy (replaced_picks v) w.start w2.start
  rises_picks Picks.pick_memory has = absurd (has refl)
  rises_picks (Picks.pick_id_stops _ p2) has = rises_val p2 (stopped has)
  rises_picks (Picks.pick_id _ p2 _) has = rises_val p2 given
  rises_picks (Picks.pick_text_stops _ p2) has = rises_val p2 (stopped has)
  rises_picks (Picks.pick_text _ p2 _) has = rises_val p2 given

  pub rises_seeks : {w w2 : History} {r r2 : RunState} {f : Frame} {d : ℕ} {sl : tree.Selector}
      {osk : Result Sought Stop} (v : Seeks w r f d sl osk w2 r2) → HasMemory osk
      → RisesBy (replaced_seeks v) w.start w2.start
  rises_seeks Seeks.seek_memory has = absurd (has refl)
  rises_seeks (Seeks.seek_this _ _) has = rises_nothing
  rises_seeks (Seeks.seek_next _ _) has = rises_nothing
  rises_seeks (Seeks.seek_previous _ _) has = rises_nothing
  rises_seeks (Seeks.seek_nth _ _) has = rises_nothing
  rises_seeks (Seeks.seek_stops _ p2) has = rises_picks p2 (stopped has)
  rises_seeks (Seeks.seek_which _ p2 _) has = rises_picks p2 given

  pub rises_owns : {w w2 : History} {r r2 : RunState} {f : Frame} {d : ℕ} {ly : Layer} {ow : tree.Owner}
      {osc : Result PartScope Stop} (v : Owns w r f d ly ow osc w2 r2) → HasMemory osc
      → RisesBy (replaced_owns v) w.start w2.start
  rises_owns Owns.own_memory has = absurd (has refl)
  rises_owns (Owns.no_owner _ _) has = rises_nothing
  rises_owns (Owns.owner_card_stops _ p2) has = rises_seeks p2 (stopped has)
  rises_owns (Owns.owner_card _ p2 _) has = rises_seeks p2 given
  rises_owns (Owns.owner_background_stops _ p2) has = rises_seeks p2 (stopped has)
  rises_owns (Owns.owner_background _ p2 _) has = rises_seeks p2 given

  pub rises_part_met : {w w2 : History} {r r2 : RunState} {f : Frame} {d : ℕ} {pa : tree.Part}
      {om : Result Referent Stop} (v : PartMet w r f d pa om w2 r2) → HasMemory om
      → RisesBy (replaced_part_met v) w.start w2.start
  rises_part_met PartMet.part_memory has = absurd (has refl)
  rises_part_met (PartMet.part_stops _ p2) has = rises_picks p2 (stopped has)
  rises_part_met (PartMet.part_owner_stops _ p2 _ p4) has =
      rises_trans (rises_picks p2 given) (rises_owns p4 (stopped has))
  rises_part_met (PartMet.part_of_owner _ p2 _ p4 _) has = rises_trans (rises_picks p2 given) (rises_owns p4 given)
  rises_part_met (PartMet.nth_owner_stops _ _ p3) has = rises_owns p3 (stopped has)
  rises_part_met (PartMet.nth_of_owner _ _ p3 _) has = rises_owns p3 given

  pub rises_meets : {w w2 : History} {r r2 : RunState} {f : Frame} {d : ℕ} {rf : tree.Ref} {om : Result Referent Stop}
      (v : Meets w r f d rf om w2 r2) → HasMemory om → RisesBy (replaced_meets v) w.start w2.start
  rises_meets Meets.meet_memory has = absurd (has refl)
  rises_meets (Meets.meet_me _ _) has = rises_nothing
  rises_meets (Meets.meet_target _ _) has = rises_nothing
  rises_meets (Meets.meet_stack _ _) has = rises_nothing
  rises_meets (Meets.card_stops _ p2) has = rises_seeks p2 (stopped has)
  rises_meets (Meets.meet_card _ p2 _) has = rises_seeks p2 given
  rises_meets (Meets.background_stops _ p2) has = rises_seeks p2 (stopped has)
  rises_meets (Meets.meet_background _ p2 _) has = rises_seeks p2 given
  rises_meets (Meets.meet_part _ p2) has = rises_part_met p2 has

  pub rises_leads : {w w2 : History} {r r2 : RunState} {f : Frame} {d : ℕ} {de : stm.Destination} {oi : Result ℕ Stop}
      (v : Leads w r f d de oi w2 r2) → HasMemory oi → RisesBy (replaced_leads v) w.start w2.start
  rises_leads Leads.lead_memory has = absurd (has refl)
  rises_leads (Leads.lead_card_stops _ p2) has = rises_seeks p2 (stopped has)
  rises_leads (Leads.lead_card _ p2 _) has = rises_seeks p2 given
  rises_leads (Leads.lead_background_stops _ p2) has = rises_seeks p2 (stopped has)
  rises_leads (Leads.lead_background _ p2 _) has = rises_seeks p2 given

  pub rises_form : {w w2 : History} {r r2 : RunState} {f f2 : Frame} {d : ℕ} {s : stm.Stmt} {oh : Result How Stop}
      (v : Form w r f d s oh w2 r2 f2) → HasMemory oh → RisesBy (replaced_form v) w.start w2.start
  rises_form Form.form_memory has = absurd (has refl)
  rises_form (Form.show_stops _ p2) has = rises_val p2 (stopped has)
  rises_form (Form.show _ p2 _) has = rises_val p2 given
  rises_form (Form.put_stops _ p2) has = rises_val p2 (stopped has)
  rises_form (Form.put_nowhere _ p2 p3) has = rises_trans (rises_val p2 given) (rises_resolves p3 (stopped has))
  rises_form (Form.put_fails _ p2 p3 p4) has =
      rises_trans (rises_val p2 given) (rises_trans (rises_resolves p3 given) (rises_edits p4 (stopped has)))
  rises_form (Form.put _ p2 p3 p4) has =
      rises_trans (rises_val p2 given) (rises_trans (rises_resolves p3 given) (rises_edits p4 given))
  rises_form (Form.get_stops _ p2) has = rises_val p2 (stopped has)
  rises_form (Form.get _ p2 p3) has = rises_trans (rises_val p2 given) (rises_stores p3)
  rises_form (Form.set_stops _ p2) has = rises_val p2 (stopped has)
  rises_form (Form.set_nowhere _ p2 p3) has = rises_trans (rises_val p2 given) (rises_meets p3 (stopped has))
  rises_form (Form.set_fails _ p2 p3 p4) has =
      rises_trans (rises_val p2 given) (rises_trans (rises_meets p3 given) (rises_sets p4 (stopped has)))
  rises_form (Form.set _ p2 p3 p4) has =
      rises_trans (rises_val p2 given) (rises_trans (rises_meets p3 given) (rises_sets p4 given))
  rises_form (Form.set_run_stops _ p2) has = rises_val p2 (stopped has)
  rises_form (Form.set_run_fails _ p2 _) has = rises_val p2 given
  rises_form (Form.set_run _ p2 _) has = rises_val p2 given
  rises_form (Form.add _ p2) has = rises_alters p2 has
  rises_form (Form.subtract _ p2) has = rises_alters p2 has
  rises_form (Form.multiply _ p2) has = rises_alters p2 has
  rises_form (Form.divide _ p2) has = rises_alters p2 has
  rises_form (Form.delete_stops _ p2) has = rises_chunk_of p2 (stopped has)
  rises_form (Form.delete_nowhere _ p2 p3) has = rises_trans (rises_chunk_of p2 given) (rises_resolves p3 (stopped has))
  rises_form (Form.delete_fails _ p2 p3 _ p5) has =
      rises_trans (rises_chunk_of p2 given) (rises_trans (rises_resolves p3 given) (rises_edits p5 (stopped has)))
  rises_form (Form.delete _ p2 p3 _ p5) has =
      rises_trans (rises_chunk_of p2 given) (rises_trans (rises_resolves p3 given) (rises_edits p5 given))
  rises_form (Form.do_stops _ p2) has = rises_val p2 (stopped has)
  rises_form (Form.do_value _ p2 p3) has = rises_trans (rises_val p2 given) (rises_do_text p3 has)
  rises_form (Form.send_text_stops _ p2) has = rises_val p2 (stopped has)
  rises_form (Form.send_nowhere _ p2 p3) has = rises_trans (rises_val p2 given) (rises_meets p3 (stopped has))
  rises_form (Form.send_stops _ p2 p3 p4) has =
      rises_trans (rises_val p2 given) (rises_trans (rises_meets p3 given) (rises_sends_text p4 (stopped has)))
  rises_form (Form.send _ p2 p3 p4) has =
      rises_trans (rises_val p2 given) (rises_trans (rises_meets p3 given) (rises_sends_text p4 given))
  rises_form (Form.go_nowhere _ p2) has = rises_leads p2 (stopped has)
  rises_form (Form.go_stops _ p2 p3) has = rises_trans (rises_leads p2 given) (rises_goes p3 (stopped has))
  rises_form (Form.go _ p2 p3) has = rises_trans (rises_leads p2 given) (rises_goes p3 given)
  rises_form (Form.global _ p2) has = rises_declares_all p2
  rises_form (Form.exit_repeat _) has = rises_nothing
  rises_form (Form.next_repeat _) has = rises_nothing
  rises_form (Form.exit_to_hypercard _) has = rises_nothing
  rises_form (Form.exit_handler _) has = rises_nothing
  rises_form (Form.pass _) has = rises_nothing
  rises_form (Form.return_nothing _) has = rises_nothing
  rises_form (Form.return_stops _ p2) has = rises_val p2 (stopped has)
  rises_form (Form.return_value _ p2) has = rises_val p2 given
  rises_form (Form.command_stops _ _ p3) has = rises_calls p3 (stopped has)
  rises_form (Form.command _ _ p3) has = rises_calls p3 given
  rises_form (Form.if_stops _ p2) has = rises_truth_val p2 (stopped has)
  rises_form (Form.if_true _ p2 _ p4) has = rises_trans (rises_truth_val p2 given) (rises_block p4 has)
  rises_form (Form.if_false _ p2 _ p4) has = rises_trans (rises_truth_val p2 given) (rises_block p4 has)
  rises_form (Form.forever _ p2) has = rises_endless p2 has
  rises_form (Form.times_stops _ p2) has = rises_number_val p2 (stopped has)
  rises_form (Form.times _ p2 _ p4) has = rises_trans (rises_number_val p2 given) (rises_counts p4 has)
  rises_form (Form.while _ p2) has = rises_while p2 has
  rises_form (Form.until _ p2) has = rises_while p2 has
  rises_form (Form.up_stops _ p2) has = rises_bounds p2 (stopped has)
  rises_form (Form.up _ p2 p3) has = rises_trans (rises_bounds p2 given) (rises_counts p3 has)
  rises_form (Form.down_stops _ p2) has = rises_bounds p2 (stopped has)
  rises_form (Form.down _ p2 p3) has = rises_trans (rises_bounds p2 given) (rises_counts p3 has)

  pub rises_alters : {w w2 : History} {r r2 : RunState} {f f2 : Frame} {d : ℕ} {op : Op} {e : tree.Expr}
      {ct : tree.Container} {oh : Result How Stop} (v : Alters w r f d op e ct oh w2 r2 f2) → HasMemory oh
      → RisesBy (replaced_alters v) w.start w2.start
  rises_alters Alters.alter_memory has = absurd (has refl)
  rises_alters (Alters.alter_stops p1) has = rises_val p1 (stopped has)
  rises_alters (Alters.alter_nowhere p1 p2) has = rises_trans (rises_val p1 given) (rises_resolves p2 (stopped has))
  rises_alters (Alters.alter_fails p1 p2 p3) has =
      rises_trans (rises_val p1 given) (rises_trans (rises_resolves p2 given) (rises_edits p3 (stopped has)))
  rises_alters (Alters.alter p1 p2 p3) has =
      rises_trans (rises_val p1 given) (rises_trans (rises_resolves p2 given) (rises_edits p3 given))

  pub rises_block : {w w2 : History} {r r2 : RunState} {f f2 : Frame} {d : ℕ} {ss : stm.Stmts} {oh : Result How Stop}
      (v : Block w r f d ss oh w2 r2 f2) → HasMemory oh → RisesBy (replaced_block v) w.start w2.start
  rises_block Block.block_memory has = absurd (has refl)
  rises_block (Block.block_end _) has = rises_nothing
  rises_block (Block.block_no_step _ _) has = rises_nothing
  rises_block (Block.block_stops _ _ p3) has = rises_form p3 has
  rises_block (Block.block_leaves _ _ p3 _) has = rises_form p3 given
  rises_block (Block.block_goes_on _ _ p3 p4) has = rises_trans (rises_form p3 given) (rises_block p4 has)

  pub rises_do_text : {w w2 : History} {r r2 : RunState} {f f2 : Frame} {d : ℕ} {t : List ℕ} {oh : Result How Stop}
      (v : DoText w r f d t oh w2 r2 f2) → HasMemory oh → RisesBy (replaced_do_text v) w.start w2.start
  rises_do_text DoText.do_memory has = absurd (has refl)
  rises_do_text (DoText.do_too_deep _) has = rises_nothing
  rises_do_text (DoText.do_syntax _ _) has = rises_nothing
  rises_do_text (DoText.do_lines _ _ p3) has = rises_block p3 has

  pub rises_endless : {w w2 : History} {r r2 : RunState} {f f2 : Frame} {d : ℕ} {ss : stm.Stmts} {oh : Result How Stop}
      (v : Endless w r f d ss oh w2 r2 f2) → HasMemory oh → RisesBy (replaced_endless v) w.start w2.start
  rises_endless Endless.endless_memory has = absurd (has refl)
  rises_endless (Endless.endless_no_step _) has = rises_nothing
  rises_endless (Endless.endless_stops _ p2) has = rises_block p2 has
  rises_endless (Endless.endless_leaves _ p2 _) has = rises_block p2 given
  rises_endless (Endless.endless_goes_on _ p2 _ p4) has = rises_trans (rises_block p2 given) (rises_endless p4 has)

  pub rises_while : {w w2 : History} {r r2 : RunState} {f f2 : Frame} {d : ℕ} {b : Bool} {e : tree.Expr}
      {ss : stm.Stmts} {oh : Result How Stop} (v : While w r f d b e ss oh w2 r2 f2) → HasMemory oh
      → RisesBy (replaced_while v) w.start w2.start
  rises_while While.while_memory has = absurd (has refl)
  rises_while (While.while_no_step _) has = rises_nothing
  rises_while (While.while_test_stops _ p2) has = rises_truth_val p2 (stopped has)
  rises_while (While.while_ends _ p2 _) has = rises_truth_val p2 given
  rises_while (While.while_stops _ p2 _ p4) has = rises_trans (rises_truth_val p2 given) (rises_block p4 has)
  rises_while (While.while_leaves _ p2 _ p4 _) has = rises_trans (rises_truth_val p2 given) (rises_block p4 given)
  rises_while (While.while_goes_on _ p2 _ p4 _ p6) has =
      rises_trans (rises_truth_val p2 given) (rises_trans (rises_block p4 given) (rises_while p6 has))

  pub rises_bounds : {w w2 : History} {r r2 : RunState} {f : Frame} {d : ℕ} {e e2 : tree.Expr} {b : Bool}
      {oco : Result CounterState Stop} (v : Bounds w r f d e e2 b oco w2 r2) → HasMemory oco
      → RisesBy (replaced_bounds v) w.start w2.start
  rises_bounds Bounds.bounds_memory has = absurd (has refl)
  rises_bounds (Bounds.start_stops p1) has = rises_val p1 (stopped has)
  rises_bounds (Bounds.bound_stops p1 p2) has = rises_trans (rises_val p1 given) (rises_val p2 (stopped has))
  rises_bounds (Bounds.bounds p1 p2 _) has = rises_trans (rises_val p1 given) (rises_val p2 given)

  pub rises_counts : {w w2 : History} {r r2 : RunState} {f f2 : Frame} {d : ℕ} {on : Option (List ℕ)}
      {co : CounterState} {ss : stm.Stmts} {oh : Result How Stop} (v : Counts w r f d on co ss oh w2 r2 f2)
      → HasMemory oh → RisesBy (replaced_counts v) w.start w2.start
  rises_counts Counts.counts_memory has = absurd (has refl)
  rises_counts (Counts.counts_no_step _) has = rises_nothing
  rises_counts (Counts.counts_end _ _) has = rises_nothing
  rises_counts (Counts.counts_stop _ _ p3 p4) has = rises_trans (rises_assigns p3) (rises_block p4 has)
  rises_counts (Counts.counts_leave _ _ p3 p4 _) has = rises_trans (rises_assigns p3) (rises_block p4 given)
  rises_counts (Counts.counts_go_on _ _ p3 p4 _ _ p7) has =
      rises_trans (rises_assigns p3) (rises_trans (rises_block p4 given) (rises_counts p7 has))

  pub rises_calls : {w w2 : History} {r r2 : RunState} {f : Frame} {d i : ℕ} {n : List ℕ} {es : tree.Exprs}
      {cl : HandlerKind} {o : Result (List ℕ) Stop} (v : Calls w r f d i n es cl o w2 r2) → HasMemory o
      → RisesBy (replaced_calls v) w.start w2.start
  rises_calls Calls.calls_memory has = absurd (has refl)
  rises_calls (Calls.calls_stop p1) has = rises_vals p1 (stopped has)
  rises_calls (Calls.calls p1 p2) has = rises_trans (rises_vals p1 given) (rises_sends p2 has)

  pub rises_sends_text : {w w2 : History} {r r2 : RunState} {f : Frame} {d i : ℕ} {t : List ℕ}
      {o : Result (List ℕ) Stop} (v : SendsText w r f d i t o w2 r2) → HasMemory o
      → RisesBy (replaced_sends_text v) w.start w2.start
  rises_sends_text SendsText.send_memory has = absurd (has refl)
  rises_sends_text (SendsText.send_syntax _) has = rises_nothing
  rises_sends_text (SendsText.sends_text _ p2) has = rises_calls p2 has

  pub rises_sends : {w w2 : History} {r r2 : RunState} {f : Frame} {d i : ℕ} {n : List ℕ} {vs : List (List ℕ)}
      {cl : HandlerKind} {o : Result (List ℕ) Stop} (v : Sends w r f d i n vs cl o w2 r2) → HasMemory o
      → RisesBy (replaced_sends v) w.start w2.start
  rises_sends Sends.sends_memory has = absurd (has refl)
  rises_sends (Sends.sends_no_step _) has = rises_nothing
  rises_sends (Sends.sends _ _ _ p4) has = rises_along p4 has

  pub rises_along : {w w2 : History} {r r2 : RunState} {f : Frame} {d i : ℕ} {is n : List ℕ} {vs : List (List ℕ)}
      {cl : HandlerKind} {o : Result (List ℕ) Stop} (v : Along w r f d i is n vs cl o w2 r2) → HasMemory o
      → RisesBy (replaced_along v) w.start w2.start
  rises_along Along.along_memory has = absurd (has refl)
  rises_along (Along.along_broken _) has = rises_nothing
  rises_along (Along.along_too_deep _ _) has = rises_nothing
  rises_along (Along.along_stops _ _ _ p4) has = rises_block p4 (stopped has)
  rises_along (Along.along_ends _ _ _ p4 _) has = rises_block p4 given
  rises_along (Along.along_passes _ _ _ p4 _ p6) has = rises_trans (rises_block p4 given) (rises_along p6 has)
  rises_along (Along.along_unhandled _ p2) has = rises_outside p2 has

  pub rises_outside : {w w2 : History} {r r2 : RunState} {f : Frame} {d : ℕ} {n : List ℕ} {vs : List (List ℕ)}
      {cl : HandlerKind} {o : Result (List ℕ) Stop} (v : Outside w r f d n vs cl o w2 r2) → HasMemory o
      → RisesBy (replaced_outside v) w.start w2.start
  rises_outside Outside.outside_memory has = absurd (has refl)
  rises_outside (Outside.no_external _ p2) has = rises_built_in_gives p2 has
  rises_outside (Outside.external_stops _ p2) has = rises_converses p2 (stopped has)
  rises_outside (Outside.external_ends _ p2 _ _) has = rises_converses p2 given
  rises_outside (Outside.external_passes _ p2 _ p4) has =
      rises_trans (rises_converses p2 given) (rises_built_in_gives p4 has)

  pub rises_built_in_gives : {w w2 : History} {r r2 : RunState} {f : Frame} {d : ℕ} {n : List ℕ} {vs : List (List ℕ)}
      {cl : HandlerKind} {o : Result (List ℕ) Stop} (v : BuiltInGives w r f d n vs cl o w2 r2) → HasMemory o
      → RisesBy (replaced_built_in_gives v) w.start w2.start
  rises_built_in_gives BuiltInGives.built_in_memory has = absurd (has refl)
  rises_built_in_gives (BuiltInGives.value_call _ _ p3) has = rises_text_val p3 has
  rises_built_in_gives (BuiltInGives.value_arguments _ _) has = rises_nothing
  rises_built_in_gives (BuiltInGives.function_call _ _) has = rises_nothing
  rises_built_in_gives (BuiltInGives.menu_unknown _ _) has = rises_nothing
  rises_built_in_gives (BuiltInGives.menu_item _ _ p3) has = rises_menu p3 has
  rises_built_in_gives (BuiltInGives.ignored_message _ _) has = rises_nothing
  rises_built_in_gives (BuiltInGives.not_understood _ _) has = rises_nothing

  pub rises_system : {w w2 : History} {r r2 : RunState} {f : Frame} {d i : ℕ} {mg : SystemMessage}
      {o : Result (List ℕ) Stop} (v : System w r f d i mg o w2 r2) → HasMemory o
      → RisesBy (replaced_system v) w.start w2.start
  rises_system System.system_memory has = absurd (has refl)
  rises_system (System.system_locked _) has = rises_nothing
  rises_system (System.system _ _ p3) has = rises_sends p3 has

  pub rises_systems : {w w2 : History} {r r2 : RunState} {f : Frame} {d : ℕ} {ms : List SystemMessage}
      {o : Result (List ℕ) Stop} (v : Systems w r f d ms o w2 r2) → HasMemory o
      → RisesBy (replaced_systems v) w.start w2.start
  rises_systems Systems.systems_memory has = absurd (has refl)
  rises_systems (Systems.systems_done _) has = rises_nothing
  rises_systems (Systems.systems_stop _ _ p3) has = rises_system p3 has
  rises_systems (Systems.systems_more _ _ p3 p4) has = rises_trans (rises_system p3 given) (rises_systems p4 has)

  pub rises_goes : {w w2 : History} {r r2 : RunState} {f : Frame} {d i : ℕ} {o : Result (List ℕ) Stop}
      (v : Goes w r f d i o w2 r2) → HasMemory o → RisesBy (replaced_goes v) w.start w2.start
  rises_goes Goes.go_memory has = absurd (has refl)
  rises_goes (Goes.go_stays _) has = rises_nothing
  rises_goes (Goes.go_close_stops _ _ p3) has = rises_systems p3 has
  rises_goes (Goes.go_gone _ _ p3 _) has = rises_systems p3 given
  rises_goes (Goes.go_arrives _ _ p3 _ p5 p6) has =
      rises_trans (rises_systems p3 given) (rises_trans (rises_made p5) (rises_systems p6 has))

  pub rises_menu : {w w2 : History} {r r2 : RunState} {f : Frame} {d : ℕ} {it : Item} {o : Result (List ℕ) Stop}
      (v : Menu w r f d it o w2 r2) → HasMemory o → RisesBy (replaced_menu v) w.start w2.start
  rises_menu Menu.menu_memory has = absurd (has refl)
  rises_menu (Menu.card_close_stops _ p2) has = rises_systems p2 has
  rises_menu (Menu.card_full _ p2 p3) has = rises_trans (rises_systems p2 given) (rises_adds p3 (stopped has))
  rises_menu (Menu.new_card _ p2 p3 p4) has =
      rises_trans (rises_systems p2 given) (rises_trans (rises_adds p3 given) (rises_systems p4 has))
  rises_menu (Menu.background_close_stops _ p2) has = rises_systems p2 has
  rises_menu (Menu.background_full _ p2 p3) has = rises_trans (rises_systems p2 given) (rises_adds p3 (stopped has))
  rises_menu (Menu.new_background _ p2 p3 p4) has =
      rises_trans (rises_systems p2 given) (rises_trans (rises_adds p3 given) (rises_systems p4 has))
  rises_menu (Menu.part_full _ _ p3) has = rises_adds p3 (stopped has)
  rises_menu (Menu.new_part _ _ p3) has = rises_adds p3 given
  rises_menu (Menu.delete_refused _ _) has = rises_nothing
  rises_menu (Menu.delete_card _ _ p3 _ p5) has = rises_trans (rises_made p3) (rises_systems p5 has)

  pub rises_converses : {w w2 : History} {r r2 : RunState} {d k : ℕ} {vs : List (List ℕ)} {odn : Result Conversed Stop}
      (v : Converses w r d k vs odn w2 r2) → HasMemory odn → RisesBy (replaced_converses v) w.start w2.start
  rises_converses Converses.converse_memory has = absurd (has refl)
  rises_converses (Converses.too_many_arguments _) has = rises_nothing
  rises_converses (Converses.conversation_too_deep _ _) has = rises_nothing
  rises_converses (Converses.converses _ _ _ p4) has = rises_talks p4 has

  pub rises_talks : {w w2 : History} {r r2 : RunState} {d k : ℕ} {inp : Input} {odn : Result Conversed Stop}
      (v : Talks w r d k inp odn w2 r2) → HasMemory odn → RisesBy (replaced_talks v) w.start w2.start
  rises_talks Talks.talk_memory has = absurd (has refl)
  rises_talks (Talks.talk_no_step _) has = rises_nothing
  rises_talks (Talks.talk_done _ p2 _ _) has = rises_turn p2
  rises_talks (Talks.talk_fails _ p2 _) has = rises_turn p2
  rises_talks (Talks.talk_stops _ p2 p3) has = rises_trans (rises_turn p2) (rises_calls_back p3 (stopped has))
  rises_talks (Talks.talk_goes_on _ p2 p3 p4) has =
      rises_trans (rises_turn p2) (rises_trans (rises_calls_back p3 given) (rises_talks p4 has))

  pub rises_calls_back : {w w2 : History} {r r2 : RunState} {d : ℕ} {ask : Ask} {oin : Result Input Stop}
      (v : CallsBack w r d ask oin w2 r2) → HasMemory oin → RisesBy (replaced_calls_back v) w.start w2.start
  rises_calls_back CallsBack.call_back_memory has = absurd (has refl)
  rises_calls_back (CallsBack.message_syntax _ _) has = rises_nothing
  rises_calls_back (CallsBack.message_stops _ _ _ p4) has = rises_block p4 (stopped has)
  rises_calls_back (CallsBack.message_runs _ _ _ p4 _) has = rises_block p4 given
  rises_calls_back (CallsBack.eval_syntax _ _) has = rises_nothing
  rises_calls_back (CallsBack.eval_stops _ _ _ p4) has = rises_val p4 (stopped has)
  rises_calls_back (CallsBack.evaluates _ _ _ p4 _) has = rises_val p4 given
  rises_calls_back (CallsBack.bad_global _ _) has = rises_nothing
  rises_calls_back (CallsBack.global_set _ _ _ p4 _) has = rises_stores p4
  rises_calls_back (CallsBack.no_such_field _ _ _) has = rises_nothing
  rises_calls_back (CallsBack.field_set _ _ _ p4 _) has = rises_stores p4

  pub rises_line : {w w2 : History} {r r2 : RunState} {ss : stm.Stmts} {ot : Result (Unit {0}) Stop}
      (v : Line w r ss ot w2 r2) → HasMemory ot → RisesBy (replaced_line v) w.start w2.start
  rises_line Line.line_memory has = absurd (has refl)
  rises_line (Line.line_stops _ p2) has = rises_block p2 (stopped has)
  rises_line (Line.line _ p2) has = rises_block p2 given

  pub rises_message : {w w2 : History} {r r2 : RunState} {i : ℕ} {n : List ℕ} {vs : List (List ℕ)}
      {ot : Result (Unit {0}) Stop} (v : Message w r i n vs ot w2 r2) → HasMemory ot
      → RisesBy (replaced_message v) w.start w2.start
  rises_message Message.message_memory has = absurd (has refl)
  rises_message (Message.sent_alone_stops _ p2) has = rises_sends p2 (stopped has)
  rises_message (Message.sent_alone _ p2) has = rises_sends p2 given

mutual
  pub rises_refers : {w w2 : History} {r r2 : RunState} {pa : tree.Part} {oi : Result ℕ Stop}
      (v : Refers w r pa oi w2 r2) → HasMemory oi → RisesBy (replaced_refers v) w.start w2.start
  rises_refers Refers.refer_memory has = absurd (has refl)
  rises_refers (Refers.refer_stops _ p2) has = rises_part_met p2 (stopped has)
  rises_refers (Refers.refers _ p2 _) has = rises_part_met p2 given

  pub rises_tells : {w w2 : History} {r r2 : RunState} {i : ℕ} {mg : SystemMessage} {ot : Result (Unit {0}) Stop}
      (v : Tells w r i mg ot w2 r2) → HasMemory ot → RisesBy (replaced_tells v) w.start w2.start
  rises_tells Tells.tell_memory has = absurd (has refl)
  rises_tells (Tells.tells_nothing _) has = rises_nothing
  rises_tells (Tells.tells _ _ p3) has = rises_message p3 has

  pub rises_tells_all : {w w2 : History} {r r2 : RunState} {ms : List SystemMessage} {ot : Result (Unit {0}) Stop}
      (v : TellsAll w r ms ot w2 r2) → HasMemory ot → RisesBy (replaced_tells_all v) w.start w2.start
  rises_tells_all TellsAll.tell_all_memory has = absurd (has refl)
  rises_tells_all (TellsAll.none_to_tell _) has = rises_nothing
  rises_tells_all (TellsAll.tell_stops _ p2) has = rises_tells p2 has
  rises_tells_all (TellsAll.tells_on _ p2 p3) has = rises_trans (rises_tells p2 given) (rises_tells_all p3 has)

  pub rises_clicks : {w w2 : History} {r r2 : RunState} {pa : tree.Part} {ot : Result (Unit {0}) Stop}
      (v : Clicks w r pa ot w2 r2) → HasMemory ot → RisesBy (replaced_clicks v) w.start w2.start
  rises_clicks Clicks.click_memory has = absurd (has refl)
  rises_clicks (Clicks.click_misses p1) has = rises_refers p1 (stopped has)
  rises_clicks (Clicks.press_stops p1 p2) has = rises_trans (rises_refers p1 given) (rises_tells p2 has)
  rises_clicks (Clicks.part_goes p1 p2 _) has = rises_trans (rises_refers p1 given) (rises_tells p2 given)
  rises_clicks (Clicks.clicks p1 p2 _ p4) has =
      rises_trans (rises_refers p1 given) (rises_trans (rises_tells p2 given) (rises_tells p4 has))

  pub rises_types_over : {w w2 : History} {r r2 : RunState} {m : Referent} {t : List ℕ} {ot : Result (Unit {0}) Stop}
      (v : TypesOver w r m t ot w2 r2) → HasMemory ot → RisesBy (replaced_types_over v) w.start w2.start
  rises_types_over TypesOver.type_over_memory has = absurd (has refl)
  rises_types_over (TypesOver.typed_field_goes _ _) has = rises_nothing
  rises_types_over (TypesOver.types_over _ _ _ p4 _ _ p7) has = rises_trans (rises_stores p4) (rises_tells p7 has)

  pub rises_types_into : {w w2 : History} {r r2 : RunState} {t : List ℕ} {pa : tree.Part} {ot : Result (Unit {0}) Stop}
      (v : TypesInto w r t pa ot w2 r2) → HasMemory ot → RisesBy (replaced_types_into v) w.start w2.start
  rises_types_into TypesInto.type_memory has = absurd (has refl)
  rises_types_into (TypesInto.type_misses p1) has = rises_refers p1 (stopped has)
  rises_types_into (TypesInto.field_open_stops p1 _ p3) has = rises_trans (rises_refers p1 given) (rises_tells p3 has)
  rises_types_into (TypesInto.types_into p1 _ p3 _ p5) has =
      rises_trans (rises_refers p1 given) (rises_trans (rises_tells p3 given) (rises_types_over p5 has))

  pub rises_acts : {w w2 : History} {r r2 : RunState} {ac : Action} {ot : Result (Unit {0}) Stop}
      (v : Acts w r ac ot w2 r2) → HasMemory ot → RisesBy (replaced_acts v) w.start w2.start
  rises_acts (Acts.acts_by_lines _ p2) has = rises_line p2 has
  rises_acts (Acts.acts_by_opening _ p2) has = rises_tells_all p2 has
  rises_acts (Acts.acts_by_click _ p2) has = rises_clicks p2 has
  rises_acts (Acts.acts_by_typing _ p2) has = rises_types_into p2 has
