-- Written by tools/meaning/laws.py from tools/meaning/meaning.rules.
-- What a run replaces, in order: its derivation says it.
pub use Rattle.preservation.specs.Rising.{RisesBy}
use Rattle.std.specs.Prelude.{List, [], ◌++◌, ℕ, ℤ, Bool, Option, Result}
use Rattle.journal_entries.specs.Replaced.{Replacement}
use Rattle.preservation.specs.Changes.{replaced_made, replaced_turn, replaced_edits, replaced_stores, replaced_assigns}
use Rattle.preservation.specs.Changes.{replaced_declares_all, replaced_sets, replaced_adds}
use Rattle.ht_values.specs.declared.operator.Op.{Op}
use Rattle.ht_grammar.specs.declared.vocabulary.HandlerKind.{HandlerKind}
use Rattle.ht_grammar.specs.declared.vocabulary.Layer.{Layer}
use Rattle.ht_grammar.specs.Statements as stm
use Rattle.ht_grammar.specs.Trees as tree
use Rattle.chunks.specs.declared.chunk.Chunk.{Chunk}
use Rattle.externals.specs.declared.external.Ask.{Ask}
use Rattle.externals.specs.declared.external.Input.{Input}
use Rattle.change_journal.specs.History.{History}
use Rattle.object_references.specs.declared.referent.PartScope.{PartScope}
use Rattle.object_references.specs.declared.referent.Pick.{Pick}
use Rattle.object_references.specs.declared.referent.Referent.{Referent}
use Rattle.object_references.specs.declared.referent.Sought.{Sought}
use Rattle.containers.specs.Places.{PlaceView}
use Rattle.meaning.specs.declared.end.Conversed.{Conversed}
use Rattle.meaning.specs.declared.frame.Frame.{Frame}
use Rattle.meaning.specs.declared.end.How.{How}
use Rattle.meaning.specs.declared.end.Stop.{Stop}
use Rattle.meaning.specs.declared.system.SystemMessage.{SystemMessage}
use Rattle.meaning.specs.declared.item.Item.{Item}
use Rattle.meaning.specs.Actions.{Action}
use Rattle.meaning.specs.State.{RunState}
use Rattle.meaning.specs.Repeats.{CounterState}
use Rattle.meaning.specs.Meaning.{Val, Vals, NumberVal, TruthVal, TextVal, ChunkOf, Resolves, Picks, Seeks, Owns}
use Rattle.meaning.specs.Meaning.{PartMet, Meets, Leads, Form, Alters, Block, DoText, Endless, While, Bounds, Counts}
use Rattle.meaning.specs.Meaning.{Calls, SendsText, Sends, Along, Outside, BuiltInGives, System, Systems, Goes, Menu}
use Rattle.meaning.specs.Meaning.{Converses, Talks, CallsBack, Line, Message, Refers, Tells, TellsAll, Clicks}
use Rattle.meaning.specs.Meaning.{TypesOver, TypesInto, Acts}

abbrev mutual
  pub replaced_val : {w w2 : History} {r r2 : RunState} {f : Frame} {d : ℕ} {e : tree.Expr} {o : Result (List ℕ) Stop}
      → Val w r f d e o w2 r2 → List Replacement
  replaced_val Val.memory = []
  replaced_val (Val.number _) = []
  replaced_val (Val.quoted _) = []
  replaced_val (Val.constant _ _) = []
  replaced_val (Val.return_sign _ _) = []
  replaced_val (Val.name _ _) = []
  replaced_val (Val.paren _ p2) = replaced_val p2
  replaced_val (Val.operand_stops _ p2) = replaced_val p2
  replaced_val (Val.one_operand _ p2 _) = replaced_val p2
  replaced_val (Val.left_stops _ p2) = replaced_val p2
  replaced_val (Val.right_stops _ p2 p3) = replaced_val p2 ++ replaced_val p3
  replaced_val (Val.two_operands _ p2 p3 _) = replaced_val p2 ++ replaced_val p3
  replaced_val (Val.there_is _ p2 _) = replaced_meets p2
  replaced_val (Val.there_is_none _ p2 _) = replaced_meets p2
  replaced_val (Val.there_stops _ p2 _) = replaced_meets p2
  replaced_val (Val.chunk_stops _ p2) = replaced_chunk_of p2
  replaced_val (Val.chunk_of_stops _ p2 p3) = replaced_chunk_of p2 ++ replaced_val p3
  replaced_val (Val.chunk _ p2 p3 _) = replaced_chunk_of p2 ++ replaced_val p3
  replaced_val (Val.field_stops _ p2) = replaced_part_met p2
  replaced_val (Val.field _ p2 _) = replaced_part_met p2
  replaced_val (Val.the_result _ _) = []
  replaced_val (Val.the_target _ _) = []
  replaced_val (Val.pieces_stop _ p2) = replaced_val p2
  replaced_val (Val.pieces _ p2 _) = replaced_val p2
  replaced_val (Val.cards _ _) = []
  replaced_val (Val.backgrounds _ _) = []
  replaced_val (Val.parts _ _) = []
  replaced_val (Val.number_stops _ p2) = replaced_meets p2
  replaced_val (Val.number_of_object _ p2 _) = replaced_meets p2
  replaced_val (Val.property_stops _ p2) = replaced_meets p2
  replaced_val (Val.property _ p2 _) = replaced_meets p2
  replaced_val (Val.run_property_read _ _) = []
  replaced_val (Val.the_stops _ p2) = replaced_val p2
  replaced_val (Val.the_function _ p2 _ _) = replaced_val p2
  replaced_val (Val.the_value _ p2 _ p4) = replaced_val p2 ++ replaced_text_val p4
  replaced_val (Val.call _ _ p3) = replaced_calls p3

  pub replaced_vals : {w w2 : History} {r r2 : RunState} {f : Frame} {d : ℕ} {es : tree.Exprs} {vs : List (List ℕ)}
      {os : Result (List (List ℕ)) Stop} → Vals w r f d es vs os w2 r2 → List Replacement
  replaced_vals Vals.vals_memory = []
  replaced_vals (Vals.vals_done _) = []
  replaced_vals (Vals.vals_stop _ p2) = replaced_val p2
  replaced_vals (Vals.vals_more _ p2 p3) = replaced_val p2 ++ replaced_vals p3

  pub replaced_number_val : {w w2 : History} {r r2 : RunState} {f : Frame} {d : ℕ} {e : tree.Expr} {ou : Result ℤ Stop}
      → NumberVal w r f d e ou w2 r2 → List Replacement
  replaced_number_val NumberVal.number_memory = []
  replaced_number_val (NumberVal.no_number p1) = replaced_val p1
  replaced_number_val (NumberVal.a_number p1 _) = replaced_val p1

  pub replaced_truth_val : {w w2 : History} {r r2 : RunState} {f : Frame} {d : ℕ} {e : tree.Expr}
      {ob : Result Bool Stop} → TruthVal w r f d e ob w2 r2 → List Replacement
  replaced_truth_val TruthVal.truth_memory = []
  replaced_truth_val (TruthVal.no_truth p1) = replaced_val p1
  replaced_truth_val (TruthVal.a_truth p1 _) = replaced_val p1

  pub replaced_text_val : {w w2 : History} {r r2 : RunState} {f : Frame} {d : ℕ} {t : List ℕ} {o : Result (List ℕ) Stop}
      → TextVal w r f d t o w2 r2 → List Replacement
  replaced_text_val TextVal.value_memory = []
  replaced_text_val (TextVal.value_no_step _) = []
  replaced_text_val (TextVal.value_too_deep _ _) = []
  replaced_text_val (TextVal.value_syntax _ _ _) = []
  replaced_text_val (TextVal.value _ _ _ p4) = replaced_val p4

  pub replaced_chunk_of : {w w2 : History} {r r2 : RunState} {f : Frame} {d : ℕ} {hd : tree.Chunk}
      {oc : Result Chunk Stop} → ChunkOf w r f d hd oc w2 r2 → List Replacement
  replaced_chunk_of ChunkOf.chunk_memory = []
  replaced_chunk_of (ChunkOf.one_stops _ p2) = replaced_number_val p2
  replaced_chunk_of (ChunkOf.one _ p2 _) = replaced_number_val p2
  replaced_chunk_of (ChunkOf.from_stops _ p2) = replaced_number_val p2
  replaced_chunk_of (ChunkOf.to_stops _ p2 p3) = replaced_number_val p2 ++ replaced_number_val p3
  replaced_chunk_of (ChunkOf.range _ p2 p3 _) = replaced_number_val p2 ++ replaced_number_val p3
  replaced_chunk_of (ChunkOf.ordinal _ _) = []

  pub replaced_resolves : {w w2 : History} {r r2 : RunState} {f : Frame} {d : ℕ} {ct : tree.Container}
      {opl : Result PlaceView Stop} → Resolves w r f d ct opl w2 r2 → List Replacement
  replaced_resolves Resolves.place_memory = []
  replaced_resolves (Resolves.place_variable _ _) = []
  replaced_resolves (Resolves.place_field_stops _ p2) = replaced_part_met p2
  replaced_resolves (Resolves.place_field _ p2 _) = replaced_part_met p2
  replaced_resolves (Resolves.place_chunk_stops _ p2) = replaced_chunk_of p2
  replaced_resolves (Resolves.place_chunk_of_stops _ p2 p3) = replaced_chunk_of p2 ++ replaced_resolves p3
  replaced_resolves (Resolves.place_chunk _ p2 p3 _) = replaced_chunk_of p2 ++ replaced_resolves p3

  pub replaced_picks : {w w2 : History} {r r2 : RunState} {f : Frame} {d : ℕ} {wh : tree.Which} {opi : Result Pick Stop}
      → Picks w r f d wh opi w2 r2 → List Replacement
  replaced_picks Picks.pick_memory = []
  replaced_picks (Picks.pick_id_stops _ p2) = replaced_val p2
  replaced_picks (Picks.pick_id _ p2 _) = replaced_val p2
  replaced_picks (Picks.pick_text_stops _ p2) = replaced_val p2
  replaced_picks (Picks.pick_text _ p2 _) = replaced_val p2

  pub replaced_seeks : {w w2 : History} {r r2 : RunState} {f : Frame} {d : ℕ} {sl : tree.Selector}
      {osk : Result Sought Stop} → Seeks w r f d sl osk w2 r2 → List Replacement
  replaced_seeks Seeks.seek_memory = []
  replaced_seeks (Seeks.seek_this _ _) = []
  replaced_seeks (Seeks.seek_next _ _) = []
  replaced_seeks (Seeks.seek_previous _ _) = []
  replaced_seeks (Seeks.seek_nth _ _) = []
  replaced_seeks (Seeks.seek_stops _ p2) = replaced_picks p2
  replaced_seeks (Seeks.seek_which _ p2 _) = replaced_picks p2

  pub replaced_owns : {w w2 : History} {r r2 : RunState} {f : Frame} {d : ℕ} {ly : Layer} {ow : tree.Owner}
      {osc : Result PartScope Stop} → Owns w r f d ly ow osc w2 r2 → List Replacement
  replaced_owns Owns.own_memory = []
  replaced_owns (Owns.no_owner _ _) = []
  replaced_owns (Owns.owner_card_stops _ p2) = replaced_seeks p2
  replaced_owns (Owns.owner_card _ p2 _) = replaced_seeks p2
  replaced_owns (Owns.owner_background_stops _ p2) = replaced_seeks p2
  replaced_owns (Owns.owner_background _ p2 _) = replaced_seeks p2

  pub replaced_part_met : {w w2 : History} {r r2 : RunState} {f : Frame} {d : ℕ} {pa : tree.Part}
      {om : Result Referent Stop} → PartMet w r f d pa om w2 r2 → List Replacement
  replaced_part_met PartMet.part_memory = []
  replaced_part_met (PartMet.part_stops _ p2) = replaced_picks p2
  replaced_part_met (PartMet.part_owner_stops _ p2 _ p4) = replaced_picks p2 ++ replaced_owns p4
  replaced_part_met (PartMet.part_of_owner _ p2 _ p4 _) = replaced_picks p2 ++ replaced_owns p4
  replaced_part_met (PartMet.nth_owner_stops _ _ p3) = replaced_owns p3
  replaced_part_met (PartMet.nth_of_owner _ _ p3 _) = replaced_owns p3

  pub replaced_meets : {w w2 : History} {r r2 : RunState} {f : Frame} {d : ℕ} {rf : tree.Ref}
      {om : Result Referent Stop} → Meets w r f d rf om w2 r2 → List Replacement
  replaced_meets Meets.meet_memory = []
  replaced_meets (Meets.meet_me _ _) = []
  replaced_meets (Meets.meet_target _ _) = []
  replaced_meets (Meets.meet_stack _ _) = []
  replaced_meets (Meets.card_stops _ p2) = replaced_seeks p2
  replaced_meets (Meets.meet_card _ p2 _) = replaced_seeks p2
  replaced_meets (Meets.background_stops _ p2) = replaced_seeks p2
  replaced_meets (Meets.meet_background _ p2 _) = replaced_seeks p2
  replaced_meets (Meets.meet_part _ p2) = replaced_part_met p2

  pub replaced_leads : {w w2 : History} {r r2 : RunState} {f : Frame} {d : ℕ} {de : stm.Destination}
      {oi : Result ℕ Stop} → Leads w r f d de oi w2 r2 → List Replacement
  replaced_leads Leads.lead_memory = []
  replaced_leads (Leads.lead_card_stops _ p2) = replaced_seeks p2
  replaced_leads (Leads.lead_card _ p2 _) = replaced_seeks p2
  replaced_leads (Leads.lead_background_stops _ p2) = replaced_seeks p2
  replaced_leads (Leads.lead_background _ p2 _) = replaced_seeks p2

  pub replaced_form : {w w2 : History} {r r2 : RunState} {f f2 : Frame} {d : ℕ} {s : stm.Stmt} {oh : Result How Stop}
      → Form w r f d s oh w2 r2 f2 → List Replacement
  replaced_form Form.form_memory = []
  replaced_form (Form.show_stops _ p2) = replaced_val p2
  replaced_form (Form.show _ p2 _) = replaced_val p2
  replaced_form (Form.put_stops _ p2) = replaced_val p2
  replaced_form (Form.put_nowhere _ p2 p3) = replaced_val p2 ++ replaced_resolves p3
  replaced_form (Form.put_fails _ p2 p3 p4) = replaced_val p2 ++ (replaced_resolves p3 ++ replaced_edits p4)
  replaced_form (Form.put _ p2 p3 p4) = replaced_val p2 ++ (replaced_resolves p3 ++ replaced_edits p4)
  replaced_form (Form.get_stops _ p2) = replaced_val p2
  replaced_form (Form.get _ p2 p3) = replaced_val p2 ++ replaced_stores p3
  replaced_form (Form.set_stops _ p2) = replaced_val p2
  replaced_form (Form.set_nowhere _ p2 p3) = replaced_val p2 ++ replaced_meets p3
  replaced_form (Form.set_fails _ p2 p3 p4) = replaced_val p2 ++ (replaced_meets p3 ++ replaced_sets p4)
  replaced_form (Form.set _ p2 p3 p4) = replaced_val p2 ++ (replaced_meets p3 ++ replaced_sets p4)
  replaced_form (Form.set_run_stops _ p2) = replaced_val p2
  replaced_form (Form.set_run_fails _ p2 _) = replaced_val p2
  replaced_form (Form.set_run _ p2 _) = replaced_val p2
  replaced_form (Form.add _ p2) = replaced_alters p2
  replaced_form (Form.subtract _ p2) = replaced_alters p2
  replaced_form (Form.multiply _ p2) = replaced_alters p2
  replaced_form (Form.divide _ p2) = replaced_alters p2
  replaced_form (Form.delete_stops _ p2) = replaced_chunk_of p2
  replaced_form (Form.delete_nowhere _ p2 p3) = replaced_chunk_of p2 ++ replaced_resolves p3
  replaced_form (Form.delete_fails _ p2 p3 _ p5) = replaced_chunk_of p2 ++ (replaced_resolves p3 ++ replaced_edits p5)
  replaced_form (Form.delete _ p2 p3 _ p5) = replaced_chunk_of p2 ++ (replaced_resolves p3 ++ replaced_edits p5)
  replaced_form (Form.do_stops _ p2) = replaced_val p2
  replaced_form (Form.do_value _ p2 p3) = replaced_val p2 ++ replaced_do_text p3
  replaced_form (Form.send_text_stops _ p2) = replaced_val p2
  replaced_form (Form.send_nowhere _ p2 p3) = replaced_val p2 ++ replaced_meets p3
  replaced_form (Form.send_stops _ p2 p3 p4) = replaced_val p2 ++ (replaced_meets p3 ++ replaced_sends_text p4)
  replaced_form (Form.send _ p2 p3 p4) = replaced_val p2 ++ (replaced_meets p3 ++ replaced_sends_text p4)
  replaced_form (Form.go_nowhere _ p2) = replaced_leads p2
  replaced_form (Form.go_stops _ p2 p3) = replaced_leads p2 ++ replaced_goes p3
  replaced_form (Form.go _ p2 p3) = replaced_leads p2 ++ replaced_goes p3
  replaced_form (Form.global _ p2) = replaced_declares_all p2
  replaced_form (Form.exit_repeat _) = []
  replaced_form (Form.next_repeat _) = []
  replaced_form (Form.exit_to_hypercard _) = []
  replaced_form (Form.exit_handler _) = []
  replaced_form (Form.pass _) = []
  replaced_form (Form.return_nothing _) = []
  replaced_form (Form.return_stops _ p2) = replaced_val p2
  replaced_form (Form.return_value _ p2) = replaced_val p2
  replaced_form (Form.command_stops _ _ p3) = replaced_calls p3
  replaced_form (Form.command _ _ p3) = replaced_calls p3
  replaced_form (Form.if_stops _ p2) = replaced_truth_val p2
  replaced_form (Form.if_true _ p2 _ p4) = replaced_truth_val p2 ++ replaced_block p4
  replaced_form (Form.if_false _ p2 _ p4) = replaced_truth_val p2 ++ replaced_block p4
  replaced_form (Form.forever _ p2) = replaced_endless p2
  replaced_form (Form.times_stops _ p2) = replaced_number_val p2
  replaced_form (Form.times _ p2 _ p4) = replaced_number_val p2 ++ replaced_counts p4
  replaced_form (Form.while _ p2) = replaced_while p2
  replaced_form (Form.until _ p2) = replaced_while p2
  replaced_form (Form.up_stops _ p2) = replaced_bounds p2
  replaced_form (Form.up _ p2 p3) = replaced_bounds p2 ++ replaced_counts p3
  replaced_form (Form.down_stops _ p2) = replaced_bounds p2
  replaced_form (Form.down _ p2 p3) = replaced_bounds p2 ++ replaced_counts p3

  pub replaced_alters : {w w2 : History} {r r2 : RunState} {f f2 : Frame} {d : ℕ} {op : Op} {e : tree.Expr}
      {ct : tree.Container} {oh : Result How Stop} → Alters w r f d op e ct oh w2 r2 f2 → List Replacement
  replaced_alters Alters.alter_memory = []
  replaced_alters (Alters.alter_stops p1) = replaced_val p1
  replaced_alters (Alters.alter_nowhere p1 p2) = replaced_val p1 ++ replaced_resolves p2
  replaced_alters (Alters.alter_fails p1 p2 p3) = replaced_val p1 ++ (replaced_resolves p2 ++ replaced_edits p3)
  replaced_alters (Alters.alter p1 p2 p3) = replaced_val p1 ++ (replaced_resolves p2 ++ replaced_edits p3)

  pub replaced_block : {w w2 : History} {r r2 : RunState} {f f2 : Frame} {d : ℕ} {ss : stm.Stmts} {oh : Result How Stop}
      → Block w r f d ss oh w2 r2 f2 → List Replacement
  replaced_block Block.block_memory = []
  replaced_block (Block.block_end _) = []
  replaced_block (Block.block_no_step _ _) = []
  replaced_block (Block.block_stops _ _ p3) = replaced_form p3
  replaced_block (Block.block_leaves _ _ p3 _) = replaced_form p3
  replaced_block (Block.block_goes_on _ _ p3 p4) = replaced_form p3 ++ replaced_block p4

  pub replaced_do_text : {w w2 : History} {r r2 : RunState} {f f2 : Frame} {d : ℕ} {t : List ℕ} {oh : Result How Stop}
      → DoText w r f d t oh w2 r2 f2 → List Replacement
  replaced_do_text DoText.do_memory = []
  replaced_do_text (DoText.do_too_deep _) = []
  replaced_do_text (DoText.do_syntax _ _) = []
  replaced_do_text (DoText.do_lines _ _ p3) = replaced_block p3

  pub replaced_endless : {w w2 : History} {r r2 : RunState} {f f2 : Frame} {d : ℕ} {ss : stm.Stmts}
      {oh : Result How Stop} → Endless w r f d ss oh w2 r2 f2 → List Replacement
  replaced_endless Endless.endless_memory = []
  replaced_endless (Endless.endless_no_step _) = []
  replaced_endless (Endless.endless_stops _ p2) = replaced_block p2
  replaced_endless (Endless.endless_leaves _ p2 _) = replaced_block p2
  replaced_endless (Endless.endless_goes_on _ p2 _ p4) = replaced_block p2 ++ replaced_endless p4

  pub replaced_while : {w w2 : History} {r r2 : RunState} {f f2 : Frame} {d : ℕ} {b : Bool} {e : tree.Expr}
      {ss : stm.Stmts} {oh : Result How Stop} → While w r f d b e ss oh w2 r2 f2 → List Replacement
  replaced_while While.while_memory = []
  replaced_while (While.while_no_step _) = []
  replaced_while (While.while_test_stops _ p2) = replaced_truth_val p2
  replaced_while (While.while_ends _ p2 _) = replaced_truth_val p2
  replaced_while (While.while_stops _ p2 _ p4) = replaced_truth_val p2 ++ replaced_block p4
  replaced_while (While.while_leaves _ p2 _ p4 _) = replaced_truth_val p2 ++ replaced_block p4
  replaced_while (While.while_goes_on _ p2 _ p4 _ p6) =
      replaced_truth_val p2 ++ (replaced_block p4 ++ replaced_while p6)

  pub replaced_bounds : {w w2 : History} {r r2 : RunState} {f : Frame} {d : ℕ} {e e2 : tree.Expr} {b : Bool}
      {oco : Result CounterState Stop} → Bounds w r f d e e2 b oco w2 r2 → List Replacement
  replaced_bounds Bounds.bounds_memory = []
  replaced_bounds (Bounds.start_stops p1) = replaced_val p1
  replaced_bounds (Bounds.bound_stops p1 p2) = replaced_val p1 ++ replaced_val p2
  replaced_bounds (Bounds.bounds p1 p2 _) = replaced_val p1 ++ replaced_val p2

  pub replaced_counts : {w w2 : History} {r r2 : RunState} {f f2 : Frame} {d : ℕ} {on : Option (List ℕ)}
      {co : CounterState} {ss : stm.Stmts} {oh : Result How Stop} → Counts w r f d on co ss oh w2 r2 f2
      → List Replacement
  replaced_counts Counts.counts_memory = []
  replaced_counts (Counts.counts_no_step _) = []
  replaced_counts (Counts.counts_end _ _) = []
  replaced_counts (Counts.counts_stop _ _ p3 p4) = replaced_assigns p3 ++ replaced_block p4
  replaced_counts (Counts.counts_leave _ _ p3 p4 _) = replaced_assigns p3 ++ replaced_block p4
  replaced_counts (Counts.counts_go_on _ _ p3 p4 _ _ p7) =
      replaced_assigns p3 ++ (replaced_block p4 ++ replaced_counts p7)

  pub replaced_calls : {w w2 : History} {r r2 : RunState} {f : Frame} {d i : ℕ} {n : List ℕ} {es : tree.Exprs}
      {cl : HandlerKind} {o : Result (List ℕ) Stop} → Calls w r f d i n es cl o w2 r2 → List Replacement
  replaced_calls Calls.calls_memory = []
  replaced_calls (Calls.calls_stop p1) = replaced_vals p1
  replaced_calls (Calls.calls p1 p2) = replaced_vals p1 ++ replaced_sends p2

  pub replaced_sends_text : {w w2 : History} {r r2 : RunState} {f : Frame} {d i : ℕ} {t : List ℕ}
      {o : Result (List ℕ) Stop} → SendsText w r f d i t o w2 r2 → List Replacement
  replaced_sends_text SendsText.send_memory = []
  replaced_sends_text (SendsText.send_syntax _) = []
  replaced_sends_text (SendsText.sends_text _ p2) = replaced_calls p2

  pub replaced_sends : {w w2 : History} {r r2 : RunState} {f : Frame} {d i : ℕ} {n : List ℕ} {vs : List (List ℕ)}
      {cl : HandlerKind} {o : Result (List ℕ) Stop} → Sends w r f d i n vs cl o w2 r2 → List Replacement
  replaced_sends Sends.sends_memory = []
  replaced_sends (Sends.sends_no_step _) = []
  replaced_sends (Sends.sends _ _ _ p4) = replaced_along p4

  pub replaced_along : {w w2 : History} {r r2 : RunState} {f : Frame} {d i : ℕ} {is n : List ℕ} {vs : List (List ℕ)}
      {cl : HandlerKind} {o : Result (List ℕ) Stop} → Along w r f d i is n vs cl o w2 r2 → List Replacement
  replaced_along Along.along_memory = []
  replaced_along (Along.along_broken _) = []
  replaced_along (Along.along_too_deep _ _) = []
  replaced_along (Along.along_stops _ _ _ p4) = replaced_block p4
  replaced_along (Along.along_ends _ _ _ p4 _) = replaced_block p4
  replaced_along (Along.along_passes _ _ _ p4 _ p6) = replaced_block p4 ++ replaced_along p6
  replaced_along (Along.along_unhandled _ p2) = replaced_outside p2

  pub replaced_outside : {w w2 : History} {r r2 : RunState} {f : Frame} {d : ℕ} {n : List ℕ} {vs : List (List ℕ)}
      {cl : HandlerKind} {o : Result (List ℕ) Stop} → Outside w r f d n vs cl o w2 r2 → List Replacement
  replaced_outside Outside.outside_memory = []
  replaced_outside (Outside.no_external _ p2) = replaced_built_in_gives p2
  replaced_outside (Outside.external_stops _ p2) = replaced_converses p2
  replaced_outside (Outside.external_ends _ p2 _ _) = replaced_converses p2
  replaced_outside (Outside.external_passes _ p2 _ p4) = replaced_converses p2 ++ replaced_built_in_gives p4

  pub replaced_built_in_gives : {w w2 : History} {r r2 : RunState} {f : Frame} {d : ℕ} {n : List ℕ} {vs : List (List ℕ)}
      {cl : HandlerKind} {o : Result (List ℕ) Stop} → BuiltInGives w r f d n vs cl o w2 r2 → List Replacement
  replaced_built_in_gives BuiltInGives.built_in_memory = []
  replaced_built_in_gives (BuiltInGives.value_call _ _ p3) = replaced_text_val p3
  replaced_built_in_gives (BuiltInGives.value_arguments _ _) = []
  replaced_built_in_gives (BuiltInGives.function_call _ _) = []
  replaced_built_in_gives (BuiltInGives.menu_unknown _ _) = []
  replaced_built_in_gives (BuiltInGives.menu_item _ _ p3) = replaced_menu p3
  replaced_built_in_gives (BuiltInGives.ignored_message _ _) = []
  replaced_built_in_gives (BuiltInGives.not_understood _ _) = []

  pub replaced_system : {w w2 : History} {r r2 : RunState} {f : Frame} {d i : ℕ} {mg : SystemMessage}
      {o : Result (List ℕ) Stop} → System w r f d i mg o w2 r2 → List Replacement
  replaced_system System.system_memory = []
  replaced_system (System.system_locked _) = []
  replaced_system (System.system _ _ p3) = replaced_sends p3

  pub replaced_systems : {w w2 : History} {r r2 : RunState} {f : Frame} {d : ℕ} {ms : List SystemMessage}
      {o : Result (List ℕ) Stop} → Systems w r f d ms o w2 r2 → List Replacement
  replaced_systems Systems.systems_memory = []
  replaced_systems (Systems.systems_done _) = []
  replaced_systems (Systems.systems_stop _ _ p3) = replaced_system p3
  replaced_systems (Systems.systems_more _ _ p3 p4) = replaced_system p3 ++ replaced_systems p4

  pub replaced_goes : {w w2 : History} {r r2 : RunState} {f : Frame} {d i : ℕ} {o : Result (List ℕ) Stop}
      → Goes w r f d i o w2 r2 → List Replacement
  replaced_goes Goes.go_memory = []
  replaced_goes (Goes.go_stays _) = []
  replaced_goes (Goes.go_close_stops _ _ p3) = replaced_systems p3
  replaced_goes (Goes.go_gone _ _ p3 _) = replaced_systems p3
  replaced_goes (Goes.go_arrives _ _ p3 _ p5 p6) = replaced_systems p3 ++ (replaced_made p5 ++ replaced_systems p6)

  pub replaced_menu : {w w2 : History} {r r2 : RunState} {f : Frame} {d : ℕ} {it : Item} {o : Result (List ℕ) Stop}
      → Menu w r f d it o w2 r2 → List Replacement
  replaced_menu Menu.menu_memory = []
  replaced_menu (Menu.card_close_stops _ p2) = replaced_systems p2
  replaced_menu (Menu.card_full _ p2 p3) = replaced_systems p2 ++ replaced_adds p3
  replaced_menu (Menu.new_card _ p2 p3 p4) = replaced_systems p2 ++ (replaced_adds p3 ++ replaced_systems p4)
  replaced_menu (Menu.background_close_stops _ p2) = replaced_systems p2
  replaced_menu (Menu.background_full _ p2 p3) = replaced_systems p2 ++ replaced_adds p3
  replaced_menu (Menu.new_background _ p2 p3 p4) = replaced_systems p2 ++ (replaced_adds p3 ++ replaced_systems p4)
  replaced_menu (Menu.part_full _ _ p3) = replaced_adds p3
  replaced_menu (Menu.new_part _ _ p3) = replaced_adds p3
  replaced_menu (Menu.delete_refused _ _) = []
  replaced_menu (Menu.delete_card _ _ p3 _ p5) = replaced_made p3 ++ replaced_systems p5

  pub replaced_converses : {w w2 : History} {r r2 : RunState} {d k : ℕ} {vs : List (List ℕ)}
      {odn : Result Conversed Stop} → Converses w r d k vs odn w2 r2 → List Replacement
  replaced_converses Converses.converse_memory = []
  replaced_converses (Converses.too_many_arguments _) = []
  replaced_converses (Converses.conversation_too_deep _ _) = []
  replaced_converses (Converses.converses _ _ _ p4) = replaced_talks p4

  pub replaced_talks : {w w2 : History} {r r2 : RunState} {d k : ℕ} {inp : Input} {odn : Result Conversed Stop}
      → Talks w r d k inp odn w2 r2 → List Replacement
  replaced_talks Talks.talk_memory = []
  replaced_talks (Talks.talk_no_step _) = []
  replaced_talks (Talks.talk_done _ p2 _ _) = replaced_turn p2
  replaced_talks (Talks.talk_fails _ p2 _) = replaced_turn p2
  replaced_talks (Talks.talk_stops _ p2 p3) = replaced_turn p2 ++ replaced_calls_back p3
  replaced_talks (Talks.talk_goes_on _ p2 p3 p4) = replaced_turn p2 ++ (replaced_calls_back p3 ++ replaced_talks p4)

  pub replaced_calls_back : {w w2 : History} {r r2 : RunState} {d : ℕ} {ask : Ask} {oin : Result Input Stop}
      → CallsBack w r d ask oin w2 r2 → List Replacement
  replaced_calls_back CallsBack.call_back_memory = []
  replaced_calls_back (CallsBack.message_syntax _ _) = []
  replaced_calls_back (CallsBack.message_stops _ _ _ p4) = replaced_block p4
  replaced_calls_back (CallsBack.message_runs _ _ _ p4 _) = replaced_block p4
  replaced_calls_back (CallsBack.eval_syntax _ _) = []
  replaced_calls_back (CallsBack.eval_stops _ _ _ p4) = replaced_val p4
  replaced_calls_back (CallsBack.evaluates _ _ _ p4 _) = replaced_val p4
  replaced_calls_back (CallsBack.bad_global _ _) = []
  replaced_calls_back (CallsBack.global_set _ _ _ p4 _) = replaced_stores p4
  replaced_calls_back (CallsBack.no_such_field _ _ _) = []
  replaced_calls_back (CallsBack.field_set _ _ _ p4 _) = replaced_stores p4

  pub replaced_line : {w w2 : History} {r r2 : RunState} {ss : stm.Stmts} {ot : Result (Unit {0}) Stop}
      → Line w r ss ot w2 r2 → List Replacement
  replaced_line Line.line_memory = []
  replaced_line (Line.line_stops _ p2) = replaced_block p2
  replaced_line (Line.line _ p2) = replaced_block p2

  pub replaced_message : {w w2 : History} {r r2 : RunState} {i : ℕ} {n : List ℕ} {vs : List (List ℕ)}
      {ot : Result (Unit {0}) Stop} → Message w r i n vs ot w2 r2 → List Replacement
  replaced_message Message.message_memory = []
  replaced_message (Message.sent_alone_stops _ p2) = replaced_sends p2
  replaced_message (Message.sent_alone _ p2) = replaced_sends p2

abbrev mutual
  pub replaced_refers : {w w2 : History} {r r2 : RunState} {pa : tree.Part} {oi : Result ℕ Stop}
      → Refers w r pa oi w2 r2 → List Replacement
  replaced_refers Refers.refer_memory = []
  replaced_refers (Refers.refer_stops _ p2) = replaced_part_met p2
  replaced_refers (Refers.refers _ p2 _) = replaced_part_met p2

  pub replaced_tells : {w w2 : History} {r r2 : RunState} {i : ℕ} {mg : SystemMessage} {ot : Result (Unit {0}) Stop}
      → Tells w r i mg ot w2 r2 → List Replacement
  replaced_tells Tells.tell_memory = []
  replaced_tells (Tells.tells_nothing _) = []
  replaced_tells (Tells.tells _ _ p3) = replaced_message p3

  pub replaced_tells_all : {w w2 : History} {r r2 : RunState} {ms : List SystemMessage} {ot : Result (Unit {0}) Stop}
      → TellsAll w r ms ot w2 r2 → List Replacement
  replaced_tells_all TellsAll.tell_all_memory = []
  replaced_tells_all (TellsAll.none_to_tell _) = []
  replaced_tells_all (TellsAll.tell_stops _ p2) = replaced_tells p2
  replaced_tells_all (TellsAll.tells_on _ p2 p3) = replaced_tells p2 ++ replaced_tells_all p3

  pub replaced_clicks : {w w2 : History} {r r2 : RunState} {pa : tree.Part} {ot : Result (Unit {0}) Stop}
      → Clicks w r pa ot w2 r2 → List Replacement
  replaced_clicks Clicks.click_memory = []
  replaced_clicks (Clicks.click_misses p1) = replaced_refers p1
  replaced_clicks (Clicks.press_stops p1 p2) = replaced_refers p1 ++ replaced_tells p2
  replaced_clicks (Clicks.part_goes p1 p2 _) = replaced_refers p1 ++ replaced_tells p2
  replaced_clicks (Clicks.clicks p1 p2 _ p4) = replaced_refers p1 ++ (replaced_tells p2 ++ replaced_tells p4)

  pub replaced_types_over : {w w2 : History} {r r2 : RunState} {m : Referent} {t : List ℕ} {ot : Result (Unit {0}) Stop}
      → TypesOver w r m t ot w2 r2 → List Replacement
  replaced_types_over TypesOver.type_over_memory = []
  replaced_types_over (TypesOver.typed_field_goes _ _) = []
  replaced_types_over (TypesOver.types_over _ _ _ p4 _ _ p7) = replaced_stores p4 ++ replaced_tells p7

  pub replaced_types_into : {w w2 : History} {r r2 : RunState} {t : List ℕ} {pa : tree.Part}
      {ot : Result (Unit {0}) Stop} → TypesInto w r t pa ot w2 r2 → List Replacement
  replaced_types_into TypesInto.type_memory = []
  replaced_types_into (TypesInto.type_misses p1) = replaced_refers p1
  replaced_types_into (TypesInto.field_open_stops p1 _ p3) = replaced_refers p1 ++ replaced_tells p3
  replaced_types_into (TypesInto.types_into p1 _ p3 _ p5) =
      replaced_refers p1 ++ (replaced_tells p3 ++ replaced_types_over p5)

  pub replaced_acts : {w w2 : History} {r r2 : RunState} {ac : Action} {ot : Result (Unit {0}) Stop}
      → Acts w r ac ot w2 r2 → List Replacement
  replaced_acts (Acts.acts_by_lines _ p2) = replaced_line p2
  replaced_acts (Acts.acts_by_opening _ p2) = replaced_tells_all p2
  replaced_acts (Acts.acts_by_click _ p2) = replaced_clicks p2
  replaced_acts (Acts.acts_by_typing _ p2) = replaced_types_into p2
