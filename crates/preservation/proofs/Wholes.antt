-- Written by tools/meaning/laws.py from tools/meaning/meaning.rules.
-- Whole states lead to whole ones.
use Rattle.std.proofs.Common.{refl}
use Rattle.preservation.specs.Laws.{HasMemory}
use Rattle.preservation.specs.Whole.{KeepsWhole}
use Rattle.preservation.specs.Replaced.{replaced_val, replaced_vals, replaced_number_val, replaced_truth_val}
use Rattle.preservation.specs.Replaced.{replaced_text_val, replaced_chunk_of, replaced_resolves, replaced_picks}
use Rattle.preservation.specs.Replaced.{replaced_seeks, replaced_owns, replaced_part_met, replaced_meets}
use Rattle.preservation.specs.Replaced.{replaced_leads, replaced_form, replaced_alters, replaced_block}
use Rattle.preservation.specs.Replaced.{replaced_do_text, replaced_endless, replaced_while, replaced_bounds}
use Rattle.preservation.specs.Replaced.{replaced_counts, replaced_calls, replaced_sends_text, replaced_sends}
use Rattle.preservation.specs.Replaced.{replaced_along, replaced_outside, replaced_built_in_gives, replaced_system}
use Rattle.preservation.specs.Replaced.{replaced_systems, replaced_goes, replaced_menu, replaced_converses}
use Rattle.preservation.specs.Replaced.{replaced_talks, replaced_calls_back, replaced_line, replaced_message}
use Rattle.preservation.specs.Replaced.{replaced_refers, replaced_tells, replaced_tells_all, replaced_clicks}
use Rattle.preservation.specs.Replaced.{replaced_types_over, replaced_types_into, replaced_acts}
use Rattle.preservation.proofs.Ends.{given, stopped, faulted}
use Rattle.meaning.specs.Places.{it_name}
use Rattle.preservation.proofs.Placed.{placed_variable, placed, placed_at, placed_by_name, placed_part}
use Rattle.preservation.proofs.StaysWhole.{whole_nothing, whole_trans, may_go, whole_made, whole_turn, whole_edits}
use Rattle.preservation.proofs.StaysWhole.{whole_stores, whole_assigns, whole_declares_all, whole_sets, whole_adds}
use Rattle.std.specs.Prelude.{ℕ, ℤ, List, Bool, Option, Result}
use Rattle.ht_values.specs.declared.operator.Op.{Op}
use Rattle.ht_grammar.specs.declared.vocabulary.HandlerKind.{HandlerKind}
use Rattle.ht_grammar.specs.declared.vocabulary.Layer.{Layer}
use Rattle.ht_grammar.specs.Statements as stm
use Rattle.ht_grammar.specs.Trees as tree
use Rattle.chunks.specs.declared.chunk.Chunk.{Chunk}
use Rattle.externals.specs.declared.external.Ask.{Ask}
use Rattle.externals.specs.declared.external.Input.{Input}
use Rattle.change_journal.specs.History.{History}
use Rattle.object_references.specs.declared.referent.PartScope.{PartScope}
use Rattle.object_references.specs.declared.referent.Pick.{Pick}
use Rattle.object_references.specs.declared.referent.Referent.{Referent}
use Rattle.object_references.specs.declared.referent.Sought.{Sought}
use Rattle.containers.specs.Places.{PlaceView}
use Rattle.meaning.specs.declared.end.Conversed.{Conversed}
use Rattle.meaning.specs.declared.frame.Frame.{Frame}
use Rattle.meaning.specs.declared.end.How.{How}
use Rattle.meaning.specs.declared.end.Stop.{Stop}
use Rattle.meaning.specs.declared.system.SystemMessage.{SystemMessage}
use Rattle.meaning.specs.declared.item.Item.{Item}
use Rattle.meaning.specs.Actions.{Action}
use Rattle.meaning.specs.State.{RunState}
use Rattle.meaning.specs.Repeats.{CounterState}
use Rattle.meaning.specs.Meaning.{Val, Vals, NumberVal, TruthVal, TextVal, ChunkOf, Resolves, Picks, Seeks, Owns}
use Rattle.meaning.specs.Meaning.{PartMet, Meets, Leads, Form, Alters, Block, DoText, Endless, While, Bounds, Counts}
use Rattle.meaning.specs.Meaning.{Calls, SendsText, Sends, Along, Outside, BuiltInGives, System, Systems, Goes, Menu}
use Rattle.meaning.specs.Meaning.{Converses, Talks, CallsBack, Line, Message, Refers, Tells, TellsAll, Clicks}
use Rattle.meaning.specs.Meaning.{TypesOver, TypesInto, Acts}

mutual
  pub whole_val : {w w2 : History} {r r2 : RunState} {f : Frame} {d : ℕ} {e : tree.Expr} {o : Result (List ℕ) Stop}
      (v : Val w r f d e o w2 r2) → HasMemory o → KeepsWhole (replaced_val v) w w2
  whole_val Val.memory has = absurd (has refl)
  whole_val (Val.number _) has = whole_nothing
  whole_val (Val.quoted _) has = whole_nothing
  whole_val (Val.constant _ _) has = whole_nothing
  whole_val (Val.return_sign _ _) has = whole_nothing
  whole_val (Val.name _ _) has = whole_nothing
  whole_val (Val.paren _ p2) has = whole_val p2 has
  whole_val (Val.operand_stops _ p2) has = whole_val p2 has
  whole_val (Val.one_operand _ p2 _) has = whole_val p2 given
  whole_val (Val.left_stops _ p2) has = whole_val p2 has
  whole_val (Val.right_stops _ p2 p3) has = whole_trans (whole_val p2 given) (whole_val p3 has)
  whole_val (Val.two_operands _ p2 p3 _) has = whole_trans (whole_val p2 given) (whole_val p3 given)
  whole_val (Val.there_is _ p2 _) has = whole_meets p2 given
  whole_val (Val.there_is_none _ p2 _) has = whole_meets p2 faulted
  whole_val (Val.there_stops _ p2 _) has = whole_meets p2 (stopped has)
  whole_val (Val.chunk_stops _ p2) has = whole_chunk_of p2 (stopped has)
  whole_val (Val.chunk_of_stops _ p2 p3) has = whole_trans (whole_chunk_of p2 given) (whole_val p3 has)
  whole_val (Val.chunk _ p2 p3 _) has = whole_trans (whole_chunk_of p2 given) (whole_val p3 given)
  whole_val (Val.field_stops _ p2) has = whole_part_met p2 (stopped has)
  whole_val (Val.field _ p2 _) has = whole_part_met p2 given
  whole_val (Val.the_result _ _) has = whole_nothing
  whole_val (Val.the_target _ _) has = whole_nothing
  whole_val (Val.pieces_stop _ p2) has = whole_val p2 has
  whole_val (Val.pieces _ p2 _) has = whole_val p2 given
  whole_val (Val.cards _ _) has = whole_nothing
  whole_val (Val.backgrounds _ _) has = whole_nothing
  whole_val (Val.parts _ _) has = whole_nothing
  whole_val (Val.number_stops _ p2) has = whole_meets p2 (stopped has)
  whole_val (Val.number_of_object _ p2 _) has = whole_meets p2 given
  whole_val (Val.property_stops _ p2) has = whole_meets p2 (stopped has)
  whole_val (Val.property _ p2 _) has = whole_meets p2 given
  whole_val (Val.run_property_read _ _) has = whole_nothing
  whole_val (Val.the_stops _ p2) has = whole_val p2 has
  whole_val (Val.the_function _ p2 _ _) has = whole_val p2 given
  whole_val (Val.the_value _ p2 _ p4) has = whole_trans (whole_val p2 given) (whole_text_val p4 has)
  whole_val (Val.call _ _ p3) has = whole_calls p3 has

  pub whole_vals : {w w2 : History} {r r2 : RunState} {f : Frame} {d : ℕ} {es : tree.Exprs} {vs : List (List ℕ)}
      {os : Result (List (List ℕ)) Stop} (v : Vals w r f d es vs os w2 r2) → HasMemory os
      → KeepsWhole (replaced_vals v) w w2
  whole_vals Vals.vals_memory has = absurd (has refl)
  whole_vals (Vals.vals_done _) has = whole_nothing
  whole_vals (Vals.vals_stop _ p2) has = whole_val p2 (stopped has)
  whole_vals (Vals.vals_more _ p2 p3) has = whole_trans (whole_val p2 given) (whole_vals p3 has)

  pub whole_number_val : {w w2 : History} {r r2 : RunState} {f : Frame} {d : ℕ} {e : tree.Expr} {ou : Result ℤ Stop}
      (v : NumberVal w r f d e ou w2 r2) → HasMemory ou → KeepsWhole (replaced_number_val v) w w2
  whole_number_val NumberVal.number_memory has = absurd (has refl)
  whole_number_val (NumberVal.no_number p1) has = whole_val p1 (stopped has)
  whole_number_val (NumberVal.a_number p1 _) has = whole_val p1 given

  pub whole_truth_val : {w w2 : History} {r r2 : RunState} {f : Frame} {d : ℕ} {e : tree.Expr} {ob : Result Bool Stop}
      (v : TruthVal w r f d e ob w2 r2) → HasMemory ob → KeepsWhole (replaced_truth_val v) w w2
  whole_truth_val TruthVal.truth_memory has = absurd (has refl)
  whole_truth_val (TruthVal.no_truth p1) has = whole_val p1 (stopped has)
  whole_truth_val (TruthVal.a_truth p1 _) has = whole_val p1 given

  pub whole_text_val : {w w2 : History} {r r2 : RunState} {f : Frame} {d : ℕ} {t : List ℕ} {o : Result (List ℕ) Stop}
      (v : TextVal w r f d t o w2 r2) → HasMemory o → KeepsWhole (replaced_text_val v) w w2
  whole_text_val TextVal.value_memory has = absurd (has refl)
  whole_text_val (TextVal.value_no_step _) has = whole_nothing
  whole_text_val (TextVal.value_too_deep _ _) has = whole_nothing
  whole_text_val (TextVal.value_syntax _ _ _) has = whole_nothing
  whole_text_val (TextVal.value _ _ _ p4) has = whole_val p4 has

  pub whole_chunk_of : {w w2 : History} {r r2 : RunState} {f : Frame} {d : ℕ} {hd : tree.Chunk} {oc : Result Chunk Stop}
      (v : ChunkOf w r f d hd oc w2 r2) → HasMemory oc → KeepsWhole (replaced_chunk_of v) w w2
  whole_chunk_of ChunkOf.chunk_memory has = absurd (has refl)
  whole_chunk_of (ChunkOf.one_stops _ p2) has = whole_number_val p2 (stopped has)
  whole_chunk_of (ChunkOf.one _ p2 _) has = whole_number_val p2 given
  whole_chunk_of (ChunkOf.from_stops _ p2) has = whole_number_val p2 (stopped has)
  whole_chunk_of (ChunkOf.to_stops _ p2 p3) has =
      whole_trans (whole_number_val p2 given) (whole_number_val p3 (stopped has))
  whole_chunk_of (ChunkOf.range _ p2 p3 _) has = whole_trans (whole_number_val p2 given) (whole_number_val p3 given)
  whole_chunk_of (ChunkOf.ordinal _ _) has = whole_nothing

  pub whole_resolves : {w w2 : History} {r r2 : RunState} {f : Frame} {d : ℕ} {ct : tree.Container}
      {opl : Result PlaceView Stop} (v : Resolves w r f d ct opl w2 r2) → HasMemory opl
      → KeepsWhole (replaced_resolves v) w w2
  whole_resolves Resolves.place_memory has = absurd (has refl)
  whole_resolves (Resolves.place_variable _ _) has = whole_nothing
  whole_resolves (Resolves.place_field_stops _ p2) has = whole_part_met p2 (stopped has)
  whole_resolves (Resolves.place_field _ p2 _) has = whole_part_met p2 given
  whole_resolves (Resolves.place_chunk_stops _ p2) has = whole_chunk_of p2 (stopped has)
  whole_resolves (Resolves.place_chunk_of_stops _ p2 p3) has =
      whole_trans (whole_chunk_of p2 given) (whole_resolves p3 has)
  whole_resolves (Resolves.place_chunk _ p2 p3 _) has = whole_trans (whole_chunk_of p2 given) (whole_resolves p3 given)

  pub whole_picks : {w w2 : History} {r r2 : RunState} {f : Frame} {d : ℕ} {wh : tree.Which} {opi : Result Pick Stop}
      (v : Picks w r f d wh opi w2 r2) → HasMemory opi → KeepsWhole (replaced_picks v) w w2
  whole_picks Picks.pick_memory has = absurd (has refl)
  whole_picks (Picks.pick_id_stops _ p2) has = whole_val p2 (stopped has)
  whole_picks (Picks.pick_id _ p2 _) has = whole_val p2 given
  whole_picks (Picks.pick_text_stops _ p2) has = whole_val p2 (stopped has)
  whole_picks (Picks.pick_text _ p2 _) has = whole_val p2 given

  pub whole_seeks : {w w2 : History} {r r2 : RunState} {f : Frame} {d : ℕ} {sl : tree.Selector}
      {osk : Result Sought Stop} (v : Seeks w r f d sl osk w2 r2) → HasMemory osk → KeepsWhole (replaced_seeks v) w w2
  whole_seeks Seeks.seek_memory has = absurd (has refl)
  whole_seeks (Seeks.seek_this _ _) has = whole_nothing
  whole_seeks (Seeks.seek_next _ _) has = whole_nothing
  whole_seeks (Seeks.seek_previous _ _) has = whole_nothing
  whole_seeks (Seeks.seek_nth _ _) has = whole_nothing
  whole_seeks (Seeks.seek_stops _ p2) has = whole_picks p2 (stopped has)
  whole_seeks (Seeks.seek_which _ p2 _) has = whole_picks p2 given

  pub whole_owns : {w w2 : History} {r r2 : RunState} {f : Frame} {d : ℕ} {ly : Layer} {ow : tree.Owner}
      {osc : Result PartScope Stop} (v : Owns w r f d ly ow osc w2 r2) → HasMemory osc
      → KeepsWhole (replaced_owns v) w w2
  whole_owns Owns.own_memory has = absurd (has refl)
  whole_owns (Owns.no_owner _ _) has = whole_nothing
  whole_owns (Owns.owner_card_stops _ p2) has = whole_seeks p2 (stopped has)
  whole_owns (Owns.owner_card _ p2 _) has = whole_seeks p2 given
  whole_owns (Owns.owner_background_stops _ p2) has = whole_seeks p2 (stopped has)
  whole_owns (Owns.owner_background _ p2 _) has = whole_seeks p2 given

  pub whole_part_met : {w w2 : History} {r r2 : RunState} {f : Frame} {d : ℕ} {pa : tree.Part}
      {om : Result Referent Stop} (v : PartMet w r f d pa om w2 r2) → HasMemory om
      → KeepsWhole (replaced_part_met v) w w2
  whole_part_met PartMet.part_memory has = absurd (has refl)
  whole_part_met (PartMet.part_stops _ p2) has = whole_picks p2 (stopped has)
  whole_part_met (PartMet.part_owner_stops _ p2 _ p4) has =
      whole_trans (whole_picks p2 given) (whole_owns p4 (stopped has))
  whole_part_met (PartMet.part_of_owner _ p2 _ p4 _) has = whole_trans (whole_picks p2 given) (whole_owns p4 given)
  whole_part_met (PartMet.nth_owner_stops _ _ p3) has = whole_owns p3 (stopped has)
  whole_part_met (PartMet.nth_of_owner _ _ p3 _) has = whole_owns p3 given

  pub whole_meets : {w w2 : History} {r r2 : RunState} {f : Frame} {d : ℕ} {rf : tree.Ref} {om : Result Referent Stop}
      (v : Meets w r f d rf om w2 r2) → HasMemory om → KeepsWhole (replaced_meets v) w w2
  whole_meets Meets.meet_memory has = absurd (has refl)
  whole_meets (Meets.meet_me _ _) has = whole_nothing
  whole_meets (Meets.meet_target _ _) has = whole_nothing
  whole_meets (Meets.meet_stack _ _) has = whole_nothing
  whole_meets (Meets.card_stops _ p2) has = whole_seeks p2 (stopped has)
  whole_meets (Meets.meet_card _ p2 _) has = whole_seeks p2 given
  whole_meets (Meets.background_stops _ p2) has = whole_seeks p2 (stopped has)
  whole_meets (Meets.meet_background _ p2 _) has = whole_seeks p2 given
  whole_meets (Meets.meet_part _ p2) has = whole_part_met p2 has

  pub whole_leads : {w w2 : History} {r r2 : RunState} {f : Frame} {d : ℕ} {de : stm.Destination} {oi : Result ℕ Stop}
      (v : Leads w r f d de oi w2 r2) → HasMemory oi → KeepsWhole (replaced_leads v) w w2
  whole_leads Leads.lead_memory has = absurd (has refl)
  whole_leads (Leads.lead_card_stops _ p2) has = whole_seeks p2 (stopped has)
  whole_leads (Leads.lead_card _ p2 _) has = whole_seeks p2 given
  whole_leads (Leads.lead_background_stops _ p2) has = whole_seeks p2 (stopped has)
  whole_leads (Leads.lead_background _ p2 _) has = whole_seeks p2 given

  pub whole_form : {w w2 : History} {r r2 : RunState} {f f2 : Frame} {d : ℕ} {s : stm.Stmt} {oh : Result How Stop}
      (v : Form w r f d s oh w2 r2 f2) → HasMemory oh → KeepsWhole (replaced_form v) w w2
  whole_form Form.form_memory has = absurd (has refl)
  whole_form (Form.show_stops _ p2) has = whole_val p2 (stopped has)
  whole_form (Form.show _ p2 _) has = whole_val p2 given
  whole_form (Form.put_stops _ p2) has = whole_val p2 (stopped has)
  whole_form (Form.put_nowhere _ p2 p3) has = whole_trans (whole_val p2 given) (whole_resolves p3 (stopped has))
  whole_form (Form.put_fails _ p2 p3 p4) has = whole_trans (whole_val p2 given)
      (whole_trans (whole_resolves p3 given) (whole_edits (placed p3) p4 (stopped has)))
  whole_form (Form.put _ p2 p3 p4) has =
      whole_trans (whole_val p2 given) (whole_trans (whole_resolves p3 given) (whole_edits (placed p3) p4 given))
  whole_form (Form.get_stops _ p2) has = whole_val p2 (stopped has)
  whole_form (Form.get {f = f} _ p2 p3) has =
      whole_trans (whole_val p2 given) (whole_stores (placed_variable f.variables it_name) p3)
  whole_form (Form.set_stops _ p2) has = whole_val p2 (stopped has)
  whole_form (Form.set_nowhere _ p2 p3) has = whole_trans (whole_val p2 given) (whole_meets p3 (stopped has))
  whole_form (Form.set_fails _ p2 p3 p4) has =
      whole_trans (whole_val p2 given) (whole_trans (whole_meets p3 given) (whole_sets p4 (stopped has)))
  whole_form (Form.set _ p2 p3 p4) has =
      whole_trans (whole_val p2 given) (whole_trans (whole_meets p3 given) (whole_sets p4 given))
  whole_form (Form.set_run_stops _ p2) has = whole_val p2 (stopped has)
  whole_form (Form.set_run_fails _ p2 _) has = whole_val p2 given
  whole_form (Form.set_run _ p2 _) has = whole_val p2 given
  whole_form (Form.add _ p2) has = whole_alters p2 has
  whole_form (Form.subtract _ p2) has = whole_alters p2 has
  whole_form (Form.multiply _ p2) has = whole_alters p2 has
  whole_form (Form.divide _ p2) has = whole_alters p2 has
  whole_form (Form.delete_stops _ p2) has = whole_chunk_of p2 (stopped has)
  whole_form (Form.delete_nowhere _ p2 p3) has = whole_trans (whole_chunk_of p2 given) (whole_resolves p3 (stopped has))
  whole_form (Form.delete_fails {c = c} {pl = pl} _ p2 p3 p4 p5) has = whole_trans (whole_chunk_of p2 given)
      (whole_trans (whole_resolves p3 given) (whole_edits (placed_part pl c p4 (placed p3)) p5 (stopped has)))
  whole_form (Form.delete {c = c} {pl = pl} _ p2 p3 p4 p5) has = whole_trans (whole_chunk_of p2 given)
      (whole_trans (whole_resolves p3 given) (whole_edits (placed_part pl c p4 (placed p3)) p5 given))
  whole_form (Form.do_stops _ p2) has = whole_val p2 (stopped has)
  whole_form (Form.do_value _ p2 p3) has = whole_trans (whole_val p2 given) (whole_do_text p3 has)
  whole_form (Form.send_text_stops _ p2) has = whole_val p2 (stopped has)
  whole_form (Form.send_nowhere _ p2 p3) has = whole_trans (whole_val p2 given) (whole_meets p3 (stopped has))
  whole_form (Form.send_stops _ p2 p3 p4) has =
      whole_trans (whole_val p2 given) (whole_trans (whole_meets p3 given) (whole_sends_text p4 (stopped has)))
  whole_form (Form.send _ p2 p3 p4) has =
      whole_trans (whole_val p2 given) (whole_trans (whole_meets p3 given) (whole_sends_text p4 given))
  whole_form (Form.go_nowhere _ p2) has = whole_leads p2 (stopped has)
  whole_form (Form.go_stops _ p2 p3) has = whole_trans (whole_leads p2 given) (whole_goes p3 (stopped has))
  whole_form (Form.go _ p2 p3) has = whole_trans (whole_leads p2 given) (whole_goes p3 given)
  whole_form (Form.global _ p2) has = whole_declares_all p2
  whole_form (Form.exit_repeat _) has = whole_nothing
  whole_form (Form.next_repeat _) has = whole_nothing
  whole_form (Form.exit_to_hypercard _) has = whole_nothing
  whole_form (Form.exit_handler _) has = whole_nothing
  whole_form (Form.pass _) has = whole_nothing
  whole_form (Form.return_nothing _) has = whole_nothing
  whole_form (Form.return_stops _ p2) has = whole_val p2 (stopped has)
  whole_form (Form.return_value _ p2) has = whole_val p2 given
  whole_form (Form.command_stops _ _ p3) has = whole_calls p3 (stopped has)
  whole_form (Form.command _ _ p3) has = whole_calls p3 given
  whole_form (Form.if_stops _ p2) has = whole_truth_val p2 (stopped has)
  whole_form (Form.if_true _ p2 _ p4) has = whole_trans (whole_truth_val p2 given) (whole_block p4 has)
  whole_form (Form.if_false _ p2 _ p4) has = whole_trans (whole_truth_val p2 given) (whole_block p4 has)
  whole_form (Form.forever _ p2) has = whole_endless p2 has
  whole_form (Form.times_stops _ p2) has = whole_number_val p2 (stopped has)
  whole_form (Form.times _ p2 _ p4) has = whole_trans (whole_number_val p2 given) (whole_counts p4 has)
  whole_form (Form.while _ p2) has = whole_while p2 has
  whole_form (Form.until _ p2) has = whole_while p2 has
  whole_form (Form.up_stops _ p2) has = whole_bounds p2 (stopped has)
  whole_form (Form.up _ p2 p3) has = whole_trans (whole_bounds p2 given) (whole_counts p3 has)
  whole_form (Form.down_stops _ p2) has = whole_bounds p2 (stopped has)
  whole_form (Form.down _ p2 p3) has = whole_trans (whole_bounds p2 given) (whole_counts p3 has)

  pub whole_alters : {w w2 : History} {r r2 : RunState} {f f2 : Frame} {d : ℕ} {op : Op} {e : tree.Expr}
      {ct : tree.Container} {oh : Result How Stop} (v : Alters w r f d op e ct oh w2 r2 f2) → HasMemory oh
      → KeepsWhole (replaced_alters v) w w2
  whole_alters Alters.alter_memory has = absurd (has refl)
  whole_alters (Alters.alter_stops p1) has = whole_val p1 (stopped has)
  whole_alters (Alters.alter_nowhere p1 p2) has = whole_trans (whole_val p1 given) (whole_resolves p2 (stopped has))
  whole_alters (Alters.alter_fails p1 p2 p3) has = whole_trans (whole_val p1 given)
      (whole_trans (whole_resolves p2 given) (whole_edits (placed p2) p3 (stopped has)))
  whole_alters (Alters.alter p1 p2 p3) has =
      whole_trans (whole_val p1 given) (whole_trans (whole_resolves p2 given) (whole_edits (placed p2) p3 given))

  pub whole_block : {w w2 : History} {r r2 : RunState} {f f2 : Frame} {d : ℕ} {ss : stm.Stmts} {oh : Result How Stop}
      (v : Block w r f d ss oh w2 r2 f2) → HasMemory oh → KeepsWhole (replaced_block v) w w2
  whole_block Block.block_memory has = absurd (has refl)
  whole_block (Block.block_end _) has = whole_nothing
  whole_block (Block.block_no_step _ _) has = whole_nothing
  whole_block (Block.block_stops _ _ p3) has = whole_form p3 has
  whole_block (Block.block_leaves _ _ p3 _) has = whole_form p3 given
  whole_block (Block.block_goes_on _ _ p3 p4) has = whole_trans (whole_form p3 given) (whole_block p4 has)

  pub whole_do_text : {w w2 : History} {r r2 : RunState} {f f2 : Frame} {d : ℕ} {t : List ℕ} {oh : Result How Stop}
      (v : DoText w r f d t oh w2 r2 f2) → HasMemory oh → KeepsWhole (replaced_do_text v) w w2
  whole_do_text DoText.do_memory has = absurd (has refl)
  whole_do_text (DoText.do_too_deep _) has = whole_nothing
  whole_do_text (DoText.do_syntax _ _) has = whole_nothing
  whole_do_text (DoText.do_lines _ _ p3) has = whole_block p3 has

  pub whole_endless : {w w2 : History} {r r2 : RunState} {f f2 : Frame} {d : ℕ} {ss : stm.Stmts} {oh : Result How Stop}
      (v : Endless w r f d ss oh w2 r2 f2) → HasMemory oh → KeepsWhole (replaced_endless v) w w2
  whole_endless Endless.endless_memory has = absurd (has refl)
  whole_endless (Endless.endless_no_step _) has = whole_nothing
  whole_endless (Endless.endless_stops _ p2) has = whole_block p2 has
  whole_endless (Endless.endless_leaves _ p2 _) has = whole_block p2 given
  whole_endless (Endless.endless_goes_on _ p2 _ p4) has = whole_trans (whole_block p2 given) (whole_endless p4 has)

  pub whole_while : {w w2 : History} {r r2 : RunState} {f f2 : Frame} {d : ℕ} {b : Bool} {e : tree.Expr}
      {ss : stm.Stmts} {oh : Result How Stop} (v : While w r f d b e ss oh w2 r2 f2) → HasMemory oh
      → KeepsWhole (replaced_while v) w w2
  whole_while While.while_memory has = absurd (has refl)
  whole_while (While.while_no_step _) has = whole_nothing
  whole_while (While.while_test_stops _ p2) has = whole_truth_val p2 (stopped has)
  whole_while (While.while_ends _ p2 _) has = whole_truth_val p2 given
  whole_while (While.while_stops _ p2 _ p4) has = whole_trans (whole_truth_val p2 given) (whole_block p4 has)
  whole_while (While.while_leaves _ p2 _ p4 _) has = whole_trans (whole_truth_val p2 given) (whole_block p4 given)
  whole_while (While.while_goes_on _ p2 _ p4 _ p6) has =
      whole_trans (whole_truth_val p2 given) (whole_trans (whole_block p4 given) (whole_while p6 has))

  pub whole_bounds : {w w2 : History} {r r2 : RunState} {f : Frame} {d : ℕ} {e e2 : tree.Expr} {b : Bool}
      {oco : Result CounterState Stop} (v : Bounds w r f d e e2 b oco w2 r2) → HasMemory oco
      → KeepsWhole (replaced_bounds v) w w2
  whole_bounds Bounds.bounds_memory has = absurd (has refl)
  whole_bounds (Bounds.start_stops p1) has = whole_val p1 (stopped has)
  whole_bounds (Bounds.bound_stops p1 p2) has = whole_trans (whole_val p1 given) (whole_val p2 (stopped has))
  whole_bounds (Bounds.bounds p1 p2 _) has = whole_trans (whole_val p1 given) (whole_val p2 given)

  pub whole_counts : {w w2 : History} {r r2 : RunState} {f f2 : Frame} {d : ℕ} {on : Option (List ℕ)}
      {co : CounterState} {ss : stm.Stmts} {oh : Result How Stop} (v : Counts w r f d on co ss oh w2 r2 f2)
      → HasMemory oh → KeepsWhole (replaced_counts v) w w2
  whole_counts Counts.counts_memory has = absurd (has refl)
  whole_counts (Counts.counts_no_step _) has = whole_nothing
  whole_counts (Counts.counts_end _ _) has = whole_nothing
  whole_counts (Counts.counts_stop _ _ p3 p4) has = whole_trans (whole_assigns p3) (whole_block p4 has)
  whole_counts (Counts.counts_leave _ _ p3 p4 _) has = whole_trans (whole_assigns p3) (whole_block p4 given)
  whole_counts (Counts.counts_go_on _ _ p3 p4 _ _ p7) has =
      whole_trans (whole_assigns p3) (whole_trans (whole_block p4 given) (whole_counts p7 has))

  pub whole_calls : {w w2 : History} {r r2 : RunState} {f : Frame} {d i : ℕ} {n : List ℕ} {es : tree.Exprs}
      {cl : HandlerKind} {o : Result (List ℕ) Stop} (v : Calls w r f d i n es cl o w2 r2) → HasMemory o
      → KeepsWhole (replaced_calls v) w w2
  whole_calls Calls.calls_memory has = absurd (has refl)
  whole_calls (Calls.calls_stop p1) has = whole_vals p1 (stopped has)
  whole_calls (Calls.calls p1 p2) has = whole_trans (whole_vals p1 given) (whole_sends p2 has)

  pub whole_sends_text : {w w2 : History} {r r2 : RunState} {f : Frame} {d i : ℕ} {t : List ℕ}
      {o : Result (List ℕ) Stop} (v : SendsText w r f d i t o w2 r2) → HasMemory o
      → KeepsWhole (replaced_sends_text v) w w2
  whole_sends_text SendsText.send_memory has = absurd (has refl)
  whole_sends_text (SendsText.send_syntax _) has = whole_nothing
  whole_sends_text (SendsText.sends_text _ p2) has = whole_calls p2 has

  pub whole_sends : {w w2 : History} {r r2 : RunState} {f : Frame} {d i : ℕ} {n : List ℕ} {vs : List (List ℕ)}
      {cl : HandlerKind} {o : Result (List ℕ) Stop} (v : Sends w r f d i n vs cl o w2 r2) → HasMemory o
      → KeepsWhole (replaced_sends v) w w2
  whole_sends Sends.sends_memory has = absurd (has refl)
  whole_sends (Sends.sends_no_step _) has = whole_nothing
  whole_sends (Sends.sends _ _ _ p4) has = whole_along p4 has

  pub whole_along : {w w2 : History} {r r2 : RunState} {f : Frame} {d i : ℕ} {is n : List ℕ} {vs : List (List ℕ)}
      {cl : HandlerKind} {o : Result (List ℕ) Stop} (v : Along w r f d i is n vs cl o w2 r2) → HasMemory o
      → KeepsWhole (replaced_along v) w w2
  whole_along Along.along_memory has = absurd (has refl)
  whole_along (Along.along_broken _) has = whole_nothing
  whole_along (Along.along_too_deep _ _) has = whole_nothing
  whole_along (Along.along_stops _ _ _ p4) has = whole_block p4 (stopped has)
  whole_along (Along.along_ends _ _ _ p4 _) has = whole_block p4 given
  whole_along (Along.along_passes _ _ _ p4 _ p6) has = whole_trans (whole_block p4 given) (whole_along p6 has)
  whole_along (Along.along_unhandled _ p2) has = whole_outside p2 has

  pub whole_outside : {w w2 : History} {r r2 : RunState} {f : Frame} {d : ℕ} {n : List ℕ} {vs : List (List ℕ)}
      {cl : HandlerKind} {o : Result (List ℕ) Stop} (v : Outside w r f d n vs cl o w2 r2) → HasMemory o
      → KeepsWhole (replaced_outside v) w w2
  whole_outside Outside.outside_memory has = absurd (has refl)
  whole_outside (Outside.no_external _ p2) has = whole_built_in_gives p2 has
  whole_outside (Outside.external_stops _ p2) has = whole_converses p2 (stopped has)
  whole_outside (Outside.external_ends _ p2 _ _) has = whole_converses p2 given
  whole_outside (Outside.external_passes _ p2 _ p4) has =
      whole_trans (whole_converses p2 given) (whole_built_in_gives p4 has)

  pub whole_built_in_gives : {w w2 : History} {r r2 : RunState} {f : Frame} {d : ℕ} {n : List ℕ} {vs : List (List ℕ)}
      {cl : HandlerKind} {o : Result (List ℕ) Stop} (v : BuiltInGives w r f d n vs cl o w2 r2) → HasMemory o
      → KeepsWhole (replaced_built_in_gives v) w w2
  whole_built_in_gives BuiltInGives.built_in_memory has = absurd (has refl)
  whole_built_in_gives (BuiltInGives.value_call _ _ p3) has = whole_text_val p3 has
  whole_built_in_gives (BuiltInGives.value_arguments _ _) has = whole_nothing
  whole_built_in_gives (BuiltInGives.function_call _ _) has = whole_nothing
  whole_built_in_gives (BuiltInGives.menu_unknown _ _) has = whole_nothing
  whole_built_in_gives (BuiltInGives.menu_item _ _ p3) has = whole_menu p3 has
  whole_built_in_gives (BuiltInGives.ignored_message _ _) has = whole_nothing
  whole_built_in_gives (BuiltInGives.not_understood _ _) has = whole_nothing

  pub whole_system : {w w2 : History} {r r2 : RunState} {f : Frame} {d i : ℕ} {mg : SystemMessage}
      {o : Result (List ℕ) Stop} (v : System w r f d i mg o w2 r2) → HasMemory o → KeepsWhole (replaced_system v) w w2
  whole_system System.system_memory has = absurd (has refl)
  whole_system (System.system_locked _) has = whole_nothing
  whole_system (System.system _ _ p3) has = whole_sends p3 has

  pub whole_systems : {w w2 : History} {r r2 : RunState} {f : Frame} {d : ℕ} {ms : List SystemMessage}
      {o : Result (List ℕ) Stop} (v : Systems w r f d ms o w2 r2) → HasMemory o → KeepsWhole (replaced_systems v) w w2
  whole_systems Systems.systems_memory has = absurd (has refl)
  whole_systems (Systems.systems_done _) has = whole_nothing
  whole_systems (Systems.systems_stop _ _ p3) has = whole_system p3 has
  whole_systems (Systems.systems_more _ _ p3 p4) has = whole_trans (whole_system p3 given) (whole_systems p4 has)

  pub whole_goes : {w w2 : History} {r r2 : RunState} {f : Frame} {d i : ℕ} {o : Result (List ℕ) Stop}
      (v : Goes w r f d i o w2 r2) → HasMemory o → KeepsWhole (replaced_goes v) w w2
  whole_goes Goes.go_memory has = absurd (has refl)
  whole_goes (Goes.go_stays _) has = whole_nothing
  whole_goes (Goes.go_close_stops _ _ p3) has = whole_systems p3 has
  whole_goes (Goes.go_gone _ _ p3 _) has = whole_systems p3 given
  whole_goes (Goes.go_arrives _ _ p3 p4 p5 p6) has =
      whole_trans (whole_systems p3 given) (whole_trans (whole_made p4 p5) (whole_systems p6 has))

  pub whole_menu : {w w2 : History} {r r2 : RunState} {f : Frame} {d : ℕ} {it : Item} {o : Result (List ℕ) Stop}
      (v : Menu w r f d it o w2 r2) → HasMemory o → KeepsWhole (replaced_menu v) w w2
  whole_menu Menu.menu_memory has = absurd (has refl)
  whole_menu (Menu.card_close_stops _ p2) has = whole_systems p2 has
  whole_menu (Menu.card_full _ p2 p3) has = whole_trans (whole_systems p2 given) (whole_adds p3 (stopped has))
  whole_menu (Menu.new_card _ p2 p3 p4) has =
      whole_trans (whole_systems p2 given) (whole_trans (whole_adds p3 given) (whole_systems p4 has))
  whole_menu (Menu.background_close_stops _ p2) has = whole_systems p2 has
  whole_menu (Menu.background_full _ p2 p3) has = whole_trans (whole_systems p2 given) (whole_adds p3 (stopped has))
  whole_menu (Menu.new_background _ p2 p3 p4) has =
      whole_trans (whole_systems p2 given) (whole_trans (whole_adds p3 given) (whole_systems p4 has))
  whole_menu (Menu.part_full _ _ p3) has = whole_adds p3 (stopped has)
  whole_menu (Menu.new_part _ _ p3) has = whole_adds p3 given
  whole_menu (Menu.delete_refused _ _) has = whole_nothing
  whole_menu (Menu.delete_card {w = w} _ p2 p3 _ p5) has =
      whole_trans (whole_made (may_go w.now p2) p3) (whole_systems p5 has)

  pub whole_converses : {w w2 : History} {r r2 : RunState} {d k : ℕ} {vs : List (List ℕ)} {odn : Result Conversed Stop}
      (v : Converses w r d k vs odn w2 r2) → HasMemory odn → KeepsWhole (replaced_converses v) w w2
  whole_converses Converses.converse_memory has = absurd (has refl)
  whole_converses (Converses.too_many_arguments _) has = whole_nothing
  whole_converses (Converses.conversation_too_deep _ _) has = whole_nothing
  whole_converses (Converses.converses _ _ _ p4) has = whole_talks p4 has

  pub whole_talks : {w w2 : History} {r r2 : RunState} {d k : ℕ} {inp : Input} {odn : Result Conversed Stop}
      (v : Talks w r d k inp odn w2 r2) → HasMemory odn → KeepsWhole (replaced_talks v) w w2
  whole_talks Talks.talk_memory has = absurd (has refl)
  whole_talks (Talks.talk_no_step _) has = whole_nothing
  whole_talks (Talks.talk_done _ p2 _ _) has = whole_turn p2
  whole_talks (Talks.talk_fails _ p2 _) has = whole_turn p2
  whole_talks (Talks.talk_stops _ p2 p3) has = whole_trans (whole_turn p2) (whole_calls_back p3 (stopped has))
  whole_talks (Talks.talk_goes_on _ p2 p3 p4) has =
      whole_trans (whole_turn p2) (whole_trans (whole_calls_back p3 given) (whole_talks p4 has))

  pub whole_calls_back : {w w2 : History} {r r2 : RunState} {d : ℕ} {ask : Ask} {oin : Result Input Stop}
      (v : CallsBack w r d ask oin w2 r2) → HasMemory oin → KeepsWhole (replaced_calls_back v) w w2
  whole_calls_back CallsBack.call_back_memory has = absurd (has refl)
  whole_calls_back (CallsBack.message_syntax _ _) has = whole_nothing
  whole_calls_back (CallsBack.message_stops _ _ _ p4) has = whole_block p4 (stopped has)
  whole_calls_back (CallsBack.message_runs _ _ _ p4 _) has = whole_block p4 given
  whole_calls_back (CallsBack.eval_syntax _ _) has = whole_nothing
  whole_calls_back (CallsBack.eval_stops _ _ _ p4) has = whole_val p4 (stopped has)
  whole_calls_back (CallsBack.evaluates _ _ _ p4 _) has = whole_val p4 given
  whole_calls_back (CallsBack.bad_global _ _) has = whole_nothing
  whole_calls_back (CallsBack.global_set {n = n} {f = f} _ _ _ p4 _) has =
      whole_stores (placed_variable f.variables n) p4
  whole_calls_back (CallsBack.no_such_field _ _ _) has = whole_nothing
  whole_calls_back (CallsBack.field_set {b = b} {n = n} {f = f} {w = w} _ _ p3 p4 _) has =
      whole_stores (placed_by_name w.now f.variables b n p3) p4

  pub whole_line : {w w2 : History} {r r2 : RunState} {ss : stm.Stmts} {ot : Result (Unit {0}) Stop}
      (v : Line w r ss ot w2 r2) → HasMemory ot → KeepsWhole (replaced_line v) w w2
  whole_line Line.line_memory has = absurd (has refl)
  whole_line (Line.line_stops _ p2) has = whole_block p2 (stopped has)
  whole_line (Line.line _ p2) has = whole_block p2 given

  pub whole_message : {w w2 : History} {r r2 : RunState} {i : ℕ} {n : List ℕ} {vs : List (List ℕ)}
      {ot : Result (Unit {0}) Stop} (v : Message w r i n vs ot w2 r2) → HasMemory ot
      → KeepsWhole (replaced_message v) w w2
  whole_message Message.message_memory has = absurd (has refl)
  whole_message (Message.sent_alone_stops _ p2) has = whole_sends p2 (stopped has)
  whole_message (Message.sent_alone _ p2) has = whole_sends p2 given

mutual
  pub whole_refers : {w w2 : History} {r r2 : RunState} {pa : tree.Part} {oi : Result ℕ Stop}
      (v : Refers w r pa oi w2 r2) → HasMemory oi → KeepsWhole (replaced_refers v) w w2
  whole_refers Refers.refer_memory has = absurd (has refl)
  whole_refers (Refers.refer_stops _ p2) has = whole_part_met p2 (stopped has)
  whole_refers (Refers.refers _ p2 _) has = whole_part_met p2 given

  pub whole_tells : {w w2 : History} {r r2 : RunState} {i : ℕ} {mg : SystemMessage} {ot : Result (Unit {0}) Stop}
      (v : Tells w r i mg ot w2 r2) → HasMemory ot → KeepsWhole (replaced_tells v) w w2
  whole_tells Tells.tell_memory has = absurd (has refl)
  whole_tells (Tells.tells_nothing _) has = whole_nothing
  whole_tells (Tells.tells _ _ p3) has = whole_message p3 has

  pub whole_tells_all : {w w2 : History} {r r2 : RunState} {ms : List SystemMessage} {ot : Result (Unit {0}) Stop}
      (v : TellsAll w r ms ot w2 r2) → HasMemory ot → KeepsWhole (replaced_tells_all v) w w2
  whole_tells_all TellsAll.tell_all_memory has = absurd (has refl)
  whole_tells_all (TellsAll.none_to_tell _) has = whole_nothing
  whole_tells_all (TellsAll.tell_stops _ p2) has = whole_tells p2 has
  whole_tells_all (TellsAll.tells_on _ p2 p3) has = whole_trans (whole_tells p2 given) (whole_tells_all p3 has)

  pub whole_clicks : {w w2 : History} {r r2 : RunState} {pa : tree.Part} {ot : Result (Unit {0}) Stop}
      (v : Clicks w r pa ot w2 r2) → HasMemory ot → KeepsWhole (replaced_clicks v) w w2
  whole_clicks Clicks.click_memory has = absurd (has refl)
  whole_clicks (Clicks.click_misses p1) has = whole_refers p1 (stopped has)
  whole_clicks (Clicks.press_stops p1 p2) has = whole_trans (whole_refers p1 given) (whole_tells p2 has)
  whole_clicks (Clicks.part_goes p1 p2 _) has = whole_trans (whole_refers p1 given) (whole_tells p2 given)
  whole_clicks (Clicks.clicks p1 p2 _ p4) has =
      whole_trans (whole_refers p1 given) (whole_trans (whole_tells p2 given) (whole_tells p4 has))

  pub whole_types_over : {w w2 : History} {r r2 : RunState} {m : Referent} {t : List ℕ} {ot : Result (Unit {0}) Stop}
      (v : TypesOver w r m t ot w2 r2) → HasMemory ot → KeepsWhole (replaced_types_over v) w w2
  whole_types_over TypesOver.type_over_memory has = absurd (has refl)
  whole_types_over (TypesOver.typed_field_goes _ _) has = whole_nothing
  whole_types_over (TypesOver.types_over {w = w} {m = m} _ _ p3 p4 _ _ p7) has =
      whole_trans (whole_stores (placed_at w.now m p3) p4) (whole_tells p7 has)

  pub whole_types_into : {w w2 : History} {r r2 : RunState} {t : List ℕ} {pa : tree.Part} {ot : Result (Unit {0}) Stop}
      (v : TypesInto w r t pa ot w2 r2) → HasMemory ot → KeepsWhole (replaced_types_into v) w w2
  whole_types_into TypesInto.type_memory has = absurd (has refl)
  whole_types_into (TypesInto.type_misses p1) has = whole_refers p1 (stopped has)
  whole_types_into (TypesInto.field_open_stops p1 _ p3) has = whole_trans (whole_refers p1 given) (whole_tells p3 has)
  whole_types_into (TypesInto.types_into p1 _ p3 _ p5) has =
      whole_trans (whole_refers p1 given) (whole_trans (whole_tells p3 given) (whole_types_over p5 has))

  pub whole_acts : {w w2 : History} {r r2 : RunState} {ac : Action} {ot : Result (Unit {0}) Stop}
      (v : Acts w r ac ot w2 r2) → HasMemory ot → KeepsWhole (replaced_acts v) w w2
  whole_acts (Acts.acts_by_lines _ p2) has = whole_line p2 has
  whole_acts (Acts.acts_by_opening _ p2) has = whole_tells_all p2 has
  whole_acts (Acts.acts_by_click _ p2) has = whole_clicks p2 has
  whole_acts (Acts.acts_by_typing _ p2) has = whole_types_into p2 has
