-- Written by tools/meaning/whole.py from tools/meaning/meaning.rules.
-- Each run leads from whole states to whole states, where its lines are texts: an induction over the rules.
use Rattle.std.specs.Prelude.{IfSome, ℕ, ℤ, pos, List, Bool, not, Option, Result}
use Rattle.std.proofs.Common.{◌<◌, length, refl, sym, subst, IfOk, [], ◌∷◌}
use Rattle.ht_values.specs.Text.{IsText}
use Rattle.chunks.specs.Laws.{PartsCut}
use Rattle.meaning.specs.Places.{it_name}
use Rattle.meaning.specs.Messages.{parameters_of}
use Rattle.preservation.specs.Laws.{HasMemory}
use Rattle.preservation.proofs.Bases.{base_calls_back}
use Rattle.containers.proofs.Bases.{took_keeps as base_turn}
use Rattle.preservation.proofs.Ends.{given, stopped, faulted}
use Rattle.preservation.proofs.StaysWhole.{may_go}
use Rattle.change_journal.specs.History.{History}
use Rattle.externals.specs.Turns.{AskTexts}
use Rattle.whole_states.specs.Texts.{AreTexts, RunTexts, FrameTexts, StorageTexts, HowTexts, InputTexts, ActionTexts}
use Rattle.whole_states.specs.Texts.{ExprTexts, ExprsTexts, ChunkTexts, ContainerTexts, WhichTexts, SelectorTexts}
use Rattle.whole_states.specs.Texts.{OwnerTexts, PartTexts, RefTexts, StmtTexts, StmtsTexts, DestinationTexts}
use Rattle.whole_states.specs.Texts.{MessageTexts}
use Rattle.whole_states.proofs.TreeTexts.{expressions_have_texts, lines_have_texts, messages_have_texts}
use Rattle.object_table.proofs.Empty.{no_bytes}
use Rattle.whole_states.proofs.ValueTexts.{word_text, constant_is, numeral_text, binary_text, unary_text, built_in_text}
use Rattle.whole_states.proofs.ValueTexts.{read_text}
use Rattle.whole_states.proofs.StateTexts.{named_texts, read_name_text, field_is_text, property_text, name_text}
use Rattle.whole_states.proofs.Leaves.{IsWhole, sound_made, sound_turn, stands_after, named_stands, same_frame}
use Rattle.whole_states.proofs.Leaves.{sound_edits, sound_stores, sound_assigns, sound_declares_all, sound_sets}
use Rattle.whole_states.proofs.Leaves.{sound_adds, sound_step, sound_shows, sound_noted, sound_property, property_read}
use Rattle.whole_states.proofs.Leaves.{sound_returned, sound_ends, sound_leaves, sound_yields, sound_parses}
use Rattle.whole_states.proofs.Leaves.{sound_finds, sound_handler_frame, sound_only, field_place_texts}
use Rattle.whole_states.proofs.Leaves.{named_place_texts, lines_texts, texts_push, it_text, return_text}
use Rattle.ht_values.specs.declared.operator.Op.{Op}
use Rattle.ht_values.specs.declared.word.Prop.TheVariants.{Number}
use Rattle.ht_grammar.specs.declared.vocabulary.HandlerKind.{HandlerKind}
use Rattle.ht_grammar.specs.declared.vocabulary.Layer.{Layer}
use Rattle.ht_grammar.specs.Statements as stm
use Rattle.ht_grammar.specs.Trees as tree
use Rattle.chunks.specs.declared.chunk.Chunk.{Chunk}
use Rattle.chunks.specs.Pieces.{count}
use Rattle.externals.specs.declared.external.Ask.{Ask}
use Rattle.externals.specs.declared.external.Input.{Input}
use Rattle.object_references.specs.declared.referent.PartScope.{PartScope}
use Rattle.object_references.specs.declared.referent.Pick.{Pick}
use Rattle.object_references.specs.declared.referent.Referent.{Referent}
use Rattle.object_references.specs.declared.referent.Sought.{Sought}
use Rattle.object_references.specs.Settings.{parts_here}
use Rattle.containers.specs.Places.{PlaceView}
use Rattle.msg_path.specs.BuiltIns.{calls_function}
use Rattle.meaning.specs.declared.end.Conversed.{Conversed}
use Rattle.meaning.specs.declared.frame.Frame.{Frame}
use Rattle.meaning.specs.declared.end.How.{How}
use Rattle.meaning.specs.declared.end.Stop.{Stop}
use Rattle.meaning.specs.declared.system.SystemMessage.{SystemMessage}
use Rattle.meaning.specs.declared.item.Item.{Item}
use Rattle.meaning.specs.Actions.{Action}
use Rattle.meaning.specs.State.{RunState}
use Rattle.meaning.specs.Repeats.{CounterState}
use Rattle.meaning.specs.Meaning.{Val, Vals, NumberVal, TruthVal, TextVal, ChunkOf, Resolves, Picks, Seeks, Owns}
use Rattle.meaning.specs.Meaning.{PartMet, Meets, Leads, Form, Alters, Block, DoText, Endless, While, Bounds, Counts}
use Rattle.meaning.specs.Meaning.{Calls, SendsText, Sends, Along, Outside, BuiltInGives, System, Systems, Goes, Menu}
use Rattle.meaning.specs.Meaning.{Converses, Talks, CallsBack, Line, Message, Refers, Tells, TellsAll, Clicks}
use Rattle.meaning.specs.Meaning.{TypesOver, TypesInto, Acts}

module _ (begin : History) (cut : PartsCut) where
  mutual
    pub sound_val : {w w2 : History} {r r2 : RunState} {f : Frame} {d : ℕ} {e : tree.Expr} {o : Result (List ℕ) Stop}
        → Val w r f d e o w2 r2 → HasMemory o → IsWhole begin w → RunTexts r → FrameTexts f → ExprTexts e
        → IsWhole begin w2 × RunTexts r2 × IfOk o IsText
    sound_val Val.memory has _ _ _ _ = absurd (has refl)
    sound_val (Val.number p1) has whole run given1 given2 = (whole, run, (subst ExprTexts p1 given2))
    sound_val (Val.quoted p1) has whole run given1 given2 = (whole, run, (subst ExprTexts p1 given2))
    sound_val (Val.constant {cn = cn} p1 p2) has whole run given1 given2 =
        (whole, run, (subst IsText (sym p2) (constant_is cn)))
    sound_val (Val.return_sign p1 p2) has whole run given1 given2 = (whole, run, (subst IsText (sym p2) return_text))
    sound_val (Val.name {n = n} {w = w} {f = f} p1 p2) has whole run given1 given2 = (
      whole,
      run,
      (subst IsText (sym p2) (read_name_text w.now f.variables n whole.history.now.state given1
          (subst ExprTexts p1 given2))),
    )
    sound_val (Val.paren p1 p2) has whole run given1 given2 =
        sound_val p2 has whole run given1 (subst ExprTexts p1 given2)
    sound_val (Val.operand_stops p1 p2) has whole run given1 given2 =
        let after2 = sound_val p2 has whole run given1 (subst ExprTexts p1 given2) in
        (after2.0, after2.1, tt)
    sound_val (Val.one_operand {un = un} {p = p} p1 p2 p3) has whole run given1 given2 =
        let after2 = sound_val p2 given whole run given1 (subst ExprTexts p1 given2) in
        (after2.0, after2.1, (sound_yields IsText (unary_text un p) p3))
    sound_val (Val.left_stops p1 p2) has whole run given1 given2 =
        let after2 = sound_val p2 has whole run given1 (subst ExprTexts p1 given2).0 in
        (after2.0, after2.1, tt)
    sound_val (Val.right_stops p1 p2 p3) has whole run given1 given2 =
        let after2 = sound_val p2 given whole run given1 (subst ExprTexts p1 given2).0 in
        let after3 = sound_val p3 has after2.0 after2.1 given1 (subst ExprTexts p1 given2).1 in
        (after3.0, after3.1, tt)
    sound_val (Val.two_operands {op = op} {p = p} {q = q} p1 p2 p3 p4) has whole run given1 given2 =
        let after2 = sound_val p2 given whole run given1 (subst ExprTexts p1 given2).0 in
        let after3 = sound_val p3 given after2.0 after2.1 given1 (subst ExprTexts p1 given2).1 in
        (after3.0, after3.1, (sound_yields IsText (binary_text op p q after2.2 after3.2) p4))
    sound_val (Val.there_is {b = b} p1 p2 p3) has whole run given1 given2 =
        let after2 = sound_meets p2 given whole run given1 (subst ExprTexts p1 given2) in
        (after2.0, after2.1, (subst IsText (sym p3) (word_text (not b))))
    sound_val (Val.there_is_none {b = b} p1 p2 p3) has whole run given1 given2 =
        let after2 = sound_meets p2 faulted whole run given1 (subst ExprTexts p1 given2) in
        (after2.0, after2.1, (subst IsText (sym p3) (word_text b)))
    sound_val (Val.there_stops p1 p2 _) has whole run given1 given2 =
        let after2 = sound_meets p2 (stopped has) whole run given1 (subst ExprTexts p1 given2) in
        (after2.0, after2.1, tt)
    sound_val (Val.chunk_stops p1 p2) has whole run given1 given2 =
        let after2 = sound_chunk_of p2 (stopped has) whole run given1 (subst ExprTexts p1 given2).0 in
        (after2.0, after2.1, tt)
    sound_val (Val.chunk_of_stops p1 p2 p3) has whole run given1 given2 =
        let after2 = sound_chunk_of p2 given whole run given1 (subst ExprTexts p1 given2).0 in
        let after3 = sound_val p3 has after2.0 after2.1 given1 (subst ExprTexts p1 given2).1 in
        (after3.0, after3.1, tt)
    sound_val (Val.chunk {r2 = r2} {c = c} {p = p} p1 p2 p3 p4) has whole run given1 given2 =
        let after2 = sound_chunk_of p2 given whole run given1 (subst ExprTexts p1 given2).0 in
        let after3 = sound_val p3 given after2.0 after2.1 given1 (subst ExprTexts p1 given2).1 in
        (after3.0, after3.1, (subst IsText (sym p4) (read_text r2.delimiter c p after3.2)))
    sound_val (Val.field_stops p1 p2) has whole run given1 given2 =
        let after2 = sound_part_met p2 (stopped has) whole run given1 (subst ExprTexts p1 given2) in
        (after2.0, after2.1, tt)
    sound_val (Val.field {w1 = w1} {r1 = r1} {f = f} {m = m} p1 p2 p3) has whole run given1 given2 =
        let after2 = sound_part_met p2 given whole run given1 (subst ExprTexts p1 given2) in (
          after2.0,
          after2.1,
          (sound_yields IsText (field_is_text w1.now f.variables r1.delimiter m after2.0.history.now.state given1) p3),
        )
    sound_val (Val.the_result p1 p2) has whole run given1 given2 = (whole, run, (subst IsText (sym p2) run.result))
    sound_val (Val.the_target {w = w} {f = f} p1 p2) has whole run given1 given2 = (
      whole,
      run,
      (sound_yields IsText (name_text w.now.stack w.now.current f.target whole.history.now.state.stack) p2),
    )
    sound_val (Val.pieces_stop p1 p2) has whole run given1 given2 =
        let after2 = sound_val p2 has whole run given1 (subst ExprTexts p1 given2) in
        (after2.0, after2.1, tt)
    sound_val (Val.pieces {kd = kd} {r1 = r1} {p = p} p1 p2 p3) has whole run given1 given2 =
        let after2 = sound_val p2 given whole run given1 (subst ExprTexts p1 given2) in
        (after2.0, after2.1, (subst IsText (sym p3) (numeral_text (pos (count r1.delimiter kd p)))))
    sound_val (Val.cards {w = w} p1 p2) has whole run given1 given2 =
        (whole, run, (subst IsText (sym p2) (numeral_text (pos (length w.now.stack.cards)))))
    sound_val (Val.backgrounds {w = w} p1 p2) has whole run given1 given2 =
        (whole, run, (subst IsText (sym p2) (numeral_text (pos (length w.now.stack.backgrounds)))))
    sound_val (Val.parts {oly = oly} {pk = pk} {w = w} p1 p2) has whole run given1 given2 = (
      whole,
      run,
      (subst IsText (sym p2) (numeral_text (pos (length (parts_here w.now.stack w.now.current oly pk))))),
    )
    sound_val (Val.number_stops p1 p2) has whole run given1 given2 =
        let after2 = sound_meets p2 (stopped has) whole run given1 (subst ExprTexts p1 given2) in
        (after2.0, after2.1, tt)
    sound_val (Val.number_of_object {w1 = w1} {m = m} p1 p2 p3) has whole run given1 given2 =
        let after2 = sound_meets p2 given whole run given1 (subst ExprTexts p1 given2) in (
          after2.0,
          after2.1,
          (sound_yields IsText (property_text w1.now.stack m.card m.object Number after2.0.history.now.state.stack) p3),
        )
    sound_val (Val.property_stops p1 p2) has whole run given1 given2 =
        let after2 = sound_meets p2 (stopped has) whole run given1 (subst ExprTexts p1 given2) in
        (after2.0, after2.1, tt)
    sound_val (Val.property {pr = pr} {w1 = w1} {m = m} p1 p2 p3) has whole run given1 given2 =
        let after2 = sound_meets p2 given whole run given1 (subst ExprTexts p1 given2) in (
          after2.0,
          after2.1,
          (sound_yields IsText (property_text w1.now.stack m.card m.object pr after2.0.history.now.state.stack) p3),
        )
    sound_val (Val.run_property_read {rp = rp} {r = r} p1 p2) has whole run given1 given2 =
        (whole, run, (subst IsText (sym p2) (property_read r rp run)))
    sound_val (Val.the_stops p1 p2) has whole run given1 given2 =
        let after2 = sound_val p2 has whole run given1 (subst ExprTexts p1 given2) in
        (after2.0, after2.1, tt)
    sound_val (Val.the_function {p = p} {fu = fu} p1 p2 _ p4) has whole run given1 given2 =
        let after2 = sound_val p2 given whole run given1 (subst ExprTexts p1 given2) in
        (after2.0, after2.1, (sound_yields IsText (built_in_text fu (p ∷ [])) p4))
    sound_val (Val.the_value p1 p2 _ p4) has whole run given1 given2 =
        let after2 = sound_val p2 given whole run given1 (subst ExprTexts p1 given2) in
        sound_text_val p4 has after2.0 after2.1 given1 after2.2
    sound_val (Val.call p1 _ p3) has whole run given1 given2 =
        sound_calls p3 has whole run given1 (subst ExprTexts p1 given2).1

    pub sound_vals : {w w2 : History} {r r2 : RunState} {f : Frame} {d : ℕ} {es : tree.Exprs} {vs : List (List ℕ)}
        {os : Result (List (List ℕ)) Stop} → Vals w r f d es vs os w2 r2 → HasMemory os → IsWhole begin w → RunTexts r
        → FrameTexts f → ExprsTexts es → AreTexts vs → IsWhole begin w2 × RunTexts r2 × IfOk os AreTexts
    sound_vals Vals.vals_memory has _ _ _ _ _ = absurd (has refl)
    sound_vals (Vals.vals_done p1) has whole run given1 given2 given3 = (whole, run, given3)
    sound_vals (Vals.vals_stop p1 p2) has whole run given1 given2 given3 =
        let after2 = sound_val p2 (stopped has) whole run given1 (subst ExprsTexts p1 given2).0 in
        (after2.0, after2.1, tt)
    sound_vals (Vals.vals_more {v = v} {vs = vs} p1 p2 p3) has whole run given1 given2 given3 =
        let after2 = sound_val p2 given whole run given1 (subst ExprsTexts p1 given2).0 in
        sound_vals p3 has after2.0 after2.1 given1 (subst ExprsTexts p1 given2).1 (texts_push vs v given3 after2.2)

    pub sound_number_val : {w w2 : History} {r r2 : RunState} {f : Frame} {d : ℕ} {e : tree.Expr} {ou : Result ℤ Stop}
        → NumberVal w r f d e ou w2 r2 → HasMemory ou → IsWhole begin w → RunTexts r → FrameTexts f → ExprTexts e
        → IsWhole begin w2 × RunTexts r2
    sound_number_val NumberVal.number_memory has _ _ _ _ = absurd (has refl)
    sound_number_val (NumberVal.no_number p1) has whole run given1 given2 =
        let after1 = sound_val p1 (stopped has) whole run given1 given2 in
        (after1.0, after1.1)
    sound_number_val (NumberVal.a_number p1 _) has whole run given1 given2 =
        let after1 = sound_val p1 given whole run given1 given2 in
        (after1.0, after1.1)

    pub sound_truth_val : {w w2 : History} {r r2 : RunState} {f : Frame} {d : ℕ} {e : tree.Expr} {ob : Result Bool Stop}
        → TruthVal w r f d e ob w2 r2 → HasMemory ob → IsWhole begin w → RunTexts r → FrameTexts f → ExprTexts e
        → IsWhole begin w2 × RunTexts r2
    sound_truth_val TruthVal.truth_memory has _ _ _ _ = absurd (has refl)
    sound_truth_val (TruthVal.no_truth p1) has whole run given1 given2 =
        let after1 = sound_val p1 (stopped has) whole run given1 given2 in
        (after1.0, after1.1)
    sound_truth_val (TruthVal.a_truth p1 _) has whole run given1 given2 =
        let after1 = sound_val p1 given whole run given1 given2 in
        (after1.0, after1.1)

    pub sound_text_val : {w w2 : History} {r r2 : RunState} {f : Frame} {d : ℕ} {t : List ℕ} {o : Result (List ℕ) Stop}
        → TextVal w r f d t o w2 r2 → HasMemory o → IsWhole begin w → RunTexts r → FrameTexts f → IsText t
        → IsWhole begin w2 × RunTexts r2 × IfOk o IsText
    sound_text_val TextVal.value_memory has _ _ _ _ = absurd (has refl)
    sound_text_val (TextVal.value_no_step p1) has whole run given1 given2 = (whole, (sound_step p1 run), tt)
    sound_text_val (TextVal.value_too_deep p1 _) has whole run given1 given2 = (whole, (sound_step p1 run), tt)
    sound_text_val (TextVal.value_syntax p1 _ _) has whole run given1 given2 = (whole, (sound_step p1 run), tt)
    sound_text_val (TextVal.value p1 _ p3 p4) has whole run given1 given2 =
        sound_val p4 has whole (sound_step p1 run) given1
        (sound_parses {P = ExprTexts} expressions_have_texts p3 given2)

    pub sound_chunk_of : {w w2 : History} {r r2 : RunState} {f : Frame} {d : ℕ} {hd : tree.Chunk}
        {oc : Result Chunk Stop} → ChunkOf w r f d hd oc w2 r2 → HasMemory oc → IsWhole begin w → RunTexts r
        → FrameTexts f → ChunkTexts hd → IsWhole begin w2 × RunTexts r2
    sound_chunk_of ChunkOf.chunk_memory has _ _ _ _ = absurd (has refl)
    sound_chunk_of (ChunkOf.one_stops p1 p2) has whole run given1 given2 =
        sound_number_val p2 (stopped has) whole run given1 (subst ChunkTexts p1 given2)
    sound_chunk_of (ChunkOf.one p1 p2 _) has whole run given1 given2 =
        sound_number_val p2 given whole run given1 (subst ChunkTexts p1 given2)
    sound_chunk_of (ChunkOf.from_stops p1 p2) has whole run given1 given2 =
        sound_number_val p2 (stopped has) whole run given1 (subst ChunkTexts p1 given2).0
    sound_chunk_of (ChunkOf.to_stops p1 p2 p3) has whole run given1 given2 =
        let after2 = sound_number_val p2 given whole run given1 (subst ChunkTexts p1 given2).0 in
        sound_number_val p3 (stopped has) after2.0 after2.1 given1 (subst ChunkTexts p1 given2).1
    sound_chunk_of (ChunkOf.range p1 p2 p3 _) has whole run given1 given2 =
        let after2 = sound_number_val p2 given whole run given1 (subst ChunkTexts p1 given2).0 in
        sound_number_val p3 given after2.0 after2.1 given1 (subst ChunkTexts p1 given2).1
    sound_chunk_of (ChunkOf.ordinal p1 _) has whole run given1 given2 = (whole, run)

    pub sound_resolves : {w w2 : History} {r r2 : RunState} {f : Frame} {d : ℕ} {ct : tree.Container}
        {opl : Result PlaceView Stop} → Resolves w r f d ct opl w2 r2 → HasMemory opl → IsWhole begin w → RunTexts r
        → FrameTexts f → ContainerTexts ct → IsWhole begin w2 × RunTexts r2 × IfOk opl (λ p. StorageTexts p.storage)
    sound_resolves Resolves.place_memory has _ _ _ _ = absurd (has refl)
    sound_resolves (Resolves.place_variable {n = n} {f = f} p1 p2) has whole run given1 given2 = (
      whole,
      run,
      (subst (λ (x : PlaceView). StorageTexts x.storage) (sym p2)
          (named_texts f.variables n (subst ContainerTexts p1 given2))),
    )
    sound_resolves (Resolves.place_field_stops p1 p2) has whole run given1 given2 =
        let after2 = sound_part_met p2 (stopped has) whole run given1 (subst ContainerTexts p1 given2) in
        (after2.0, after2.1, tt)
    sound_resolves (Resolves.place_field {w1 = w1} {m = m} p1 p2 p3) has whole run given1 given2 =
        let after2 = sound_part_met p2 given whole run given1 (subst ContainerTexts p1 given2) in
        (after2.0, after2.1, (sound_yields (λ p. StorageTexts p.storage) (field_place_texts w1.now m) p3))
    sound_resolves (Resolves.place_chunk_stops p1 p2) has whole run given1 given2 =
        let after2 = sound_chunk_of p2 (stopped has) whole run given1 (subst ContainerTexts p1 given2).0 in
        (after2.0, after2.1, tt)
    sound_resolves (Resolves.place_chunk_of_stops p1 p2 p3) has whole run given1 given2 =
        let after2 = sound_chunk_of p2 given whole run given1 (subst ContainerTexts p1 given2).0 in
        let after3 = sound_resolves p3 has after2.0 after2.1 given1 (subst ContainerTexts p1 given2).1 in
        (after3.0, after3.1, tt)
    sound_resolves (Resolves.place_chunk p1 p2 p3 p4) has whole run given1 given2 =
        let after2 = sound_chunk_of p2 given whole run given1 (subst ContainerTexts p1 given2).0 in
        let after3 = sound_resolves p3 given after2.0 after2.1 given1 (subst ContainerTexts p1 given2).1 in
        (after3.0, after3.1, (subst (λ (x : PlaceView). StorageTexts x.storage) (sym p4) after3.2))

    pub sound_picks : {w w2 : History} {r r2 : RunState} {f : Frame} {d : ℕ} {wh : tree.Which} {opi : Result Pick Stop}
        → Picks w r f d wh opi w2 r2 → HasMemory opi → IsWhole begin w → RunTexts r → FrameTexts f → WhichTexts wh
        → IsWhole begin w2 × RunTexts r2
    sound_picks Picks.pick_memory has _ _ _ _ = absurd (has refl)
    sound_picks (Picks.pick_id_stops p1 p2) has whole run given1 given2 =
        let after2 = sound_val p2 (stopped has) whole run given1 (subst WhichTexts p1 given2) in
        (after2.0, after2.1)
    sound_picks (Picks.pick_id p1 p2 _) has whole run given1 given2 =
        let after2 = sound_val p2 given whole run given1 (subst WhichTexts p1 given2) in
        (after2.0, after2.1)
    sound_picks (Picks.pick_text_stops p1 p2) has whole run given1 given2 =
        let after2 = sound_val p2 (stopped has) whole run given1 (subst WhichTexts p1 given2) in
        (after2.0, after2.1)
    sound_picks (Picks.pick_text p1 p2 _) has whole run given1 given2 =
        let after2 = sound_val p2 given whole run given1 (subst WhichTexts p1 given2) in
        (after2.0, after2.1)

    pub sound_seeks : {w w2 : History} {r r2 : RunState} {f : Frame} {d : ℕ} {sl : tree.Selector}
        {osk : Result Sought Stop} → Seeks w r f d sl osk w2 r2 → HasMemory osk → IsWhole begin w → RunTexts r
        → FrameTexts f → SelectorTexts sl → IsWhole begin w2 × RunTexts r2
    sound_seeks Seeks.seek_memory has _ _ _ _ = absurd (has refl)
    sound_seeks (Seeks.seek_this p1 _) has whole run given1 given2 = (whole, run)
    sound_seeks (Seeks.seek_next p1 _) has whole run given1 given2 = (whole, run)
    sound_seeks (Seeks.seek_previous p1 _) has whole run given1 given2 = (whole, run)
    sound_seeks (Seeks.seek_nth p1 _) has whole run given1 given2 = (whole, run)
    sound_seeks (Seeks.seek_stops p1 p2) has whole run given1 given2 =
        sound_picks p2 (stopped has) whole run given1 (subst SelectorTexts p1 given2)
    sound_seeks (Seeks.seek_which p1 p2 _) has whole run given1 given2 =
        sound_picks p2 given whole run given1 (subst SelectorTexts p1 given2)

    pub sound_owns : {w w2 : History} {r r2 : RunState} {f : Frame} {d : ℕ} {ly : Layer} {ow : tree.Owner}
        {osc : Result PartScope Stop} → Owns w r f d ly ow osc w2 r2 → HasMemory osc → IsWhole begin w → RunTexts r
        → FrameTexts f → OwnerTexts ow → IsWhole begin w2 × RunTexts r2
    sound_owns Owns.own_memory has _ _ _ _ = absurd (has refl)
    sound_owns (Owns.no_owner p1 _) has whole run given1 given2 = (whole, run)
    sound_owns (Owns.owner_card_stops p1 p2) has whole run given1 given2 =
        sound_seeks p2 (stopped has) whole run given1 (subst OwnerTexts p1 given2)
    sound_owns (Owns.owner_card p1 p2 _) has whole run given1 given2 =
        sound_seeks p2 given whole run given1 (subst OwnerTexts p1 given2)
    sound_owns (Owns.owner_background_stops p1 p2) has whole run given1 given2 =
        sound_seeks p2 (stopped has) whole run given1 (subst OwnerTexts p1 given2)
    sound_owns (Owns.owner_background p1 p2 _) has whole run given1 given2 =
        sound_seeks p2 given whole run given1 (subst OwnerTexts p1 given2)

    pub sound_part_met : {w w2 : History} {r r2 : RunState} {f : Frame} {d : ℕ} {pa : tree.Part}
        {om : Result Referent Stop} → PartMet w r f d pa om w2 r2 → HasMemory om → IsWhole begin w → RunTexts r
        → FrameTexts f → PartTexts pa → IsWhole begin w2 × RunTexts r2
    sound_part_met PartMet.part_memory has _ _ _ _ = absurd (has refl)
    sound_part_met (PartMet.part_stops p1 p2) has whole run given1 given2 =
        sound_picks p2 (stopped has) whole run given1 (subst PartTexts p1 given2).0
    sound_part_met (PartMet.part_owner_stops p1 p2 _ p4) has whole run given1 given2 =
        let after2 = sound_picks p2 given whole run given1 (subst PartTexts p1 given2).0 in
        sound_owns p4 (stopped has) after2.0 after2.1 given1 (subst PartTexts p1 given2).1
    sound_part_met (PartMet.part_of_owner p1 p2 _ p4 _) has whole run given1 given2 =
        let after2 = sound_picks p2 given whole run given1 (subst PartTexts p1 given2).0 in
        sound_owns p4 given after2.0 after2.1 given1 (subst PartTexts p1 given2).1
    sound_part_met (PartMet.nth_owner_stops p1 _ p3) has whole run given1 given2 =
        sound_owns p3 (stopped has) whole run given1 (subst PartTexts p1 given2)
    sound_part_met (PartMet.nth_of_owner p1 _ p3 _) has whole run given1 given2 =
        sound_owns p3 given whole run given1 (subst PartTexts p1 given2)

    pub sound_meets : {w w2 : History} {r r2 : RunState} {f : Frame} {d : ℕ} {rf : tree.Ref} {om : Result Referent Stop}
        → Meets w r f d rf om w2 r2 → HasMemory om → IsWhole begin w → RunTexts r → FrameTexts f → RefTexts rf
        → IsWhole begin w2 × RunTexts r2
    sound_meets Meets.meet_memory has _ _ _ _ = absurd (has refl)
    sound_meets (Meets.meet_me p1 _) has whole run given1 given2 = (whole, run)
    sound_meets (Meets.meet_target p1 _) has whole run given1 given2 = (whole, run)
    sound_meets (Meets.meet_stack p1 _) has whole run given1 given2 = (whole, run)
    sound_meets (Meets.card_stops p1 p2) has whole run given1 given2 =
        sound_seeks p2 (stopped has) whole run given1 (subst RefTexts p1 given2)
    sound_meets (Meets.meet_card p1 p2 _) has whole run given1 given2 =
        sound_seeks p2 given whole run given1 (subst RefTexts p1 given2)
    sound_meets (Meets.background_stops p1 p2) has whole run given1 given2 =
        sound_seeks p2 (stopped has) whole run given1 (subst RefTexts p1 given2)
    sound_meets (Meets.meet_background p1 p2 _) has whole run given1 given2 =
        sound_seeks p2 given whole run given1 (subst RefTexts p1 given2)
    sound_meets (Meets.meet_part p1 p2) has whole run given1 given2 =
        sound_part_met p2 has whole run given1 (subst RefTexts p1 given2)

    pub sound_leads : {w w2 : History} {r r2 : RunState} {f : Frame} {d : ℕ} {de : stm.Destination} {oi : Result ℕ Stop}
        → Leads w r f d de oi w2 r2 → HasMemory oi → IsWhole begin w → RunTexts r → FrameTexts f → DestinationTexts de
        → IsWhole begin w2 × RunTexts r2
    sound_leads Leads.lead_memory has _ _ _ _ = absurd (has refl)
    sound_leads (Leads.lead_card_stops p1 p2) has whole run given1 given2 =
        sound_seeks p2 (stopped has) whole run given1 (subst DestinationTexts p1 given2)
    sound_leads (Leads.lead_card p1 p2 _) has whole run given1 given2 =
        sound_seeks p2 given whole run given1 (subst DestinationTexts p1 given2)
    sound_leads (Leads.lead_background_stops p1 p2) has whole run given1 given2 =
        sound_seeks p2 (stopped has) whole run given1 (subst DestinationTexts p1 given2)
    sound_leads (Leads.lead_background p1 p2 _) has whole run given1 given2 =
        sound_seeks p2 given whole run given1 (subst DestinationTexts p1 given2)

    pub sound_form : {w w2 : History} {r r2 : RunState} {f f2 : Frame} {d : ℕ} {s : stm.Stmt} {oh : Result How Stop}
        → Form w r f d s oh w2 r2 f2 → HasMemory oh → IsWhole begin w → RunTexts r → FrameTexts f → StmtTexts s
        → IsWhole begin w2 × RunTexts r2 × FrameTexts f2 × IfOk oh HowTexts
    sound_form Form.form_memory has _ _ _ _ = absurd (has refl)
    sound_form (Form.show_stops p1 p2) has whole run given1 given2 =
        let after2 = sound_val p2 (stopped has) whole run given1 (subst StmtTexts p1 given2) in
        (after2.0, after2.1, given1, tt)
    sound_form (Form.show {v = v} p1 p2 p3) has whole run given1 given2 =
        let after2 = sound_val p2 given whole run given1 (subst StmtTexts p1 given2) in
        (after2.0, (sound_shows v p3 after2.1), given1, tt)
    sound_form (Form.put_stops p1 p2) has whole run given1 given2 =
        let after2 = sound_val p2 (stopped has) whole run given1 (subst StmtTexts p1 given2).0 in
        (after2.0, after2.1, given1, tt)
    sound_form (Form.put_nowhere p1 p2 p3) has whole run given1 given2 =
        let after2 = sound_val p2 given whole run given1 (subst StmtTexts p1 given2).0 in
        let after3 = sound_resolves p3 (stopped has) after2.0 after2.1 given1 (subst StmtTexts p1 given2).1 in
        (after3.0, after3.1, given1, tt)
    sound_form (Form.put_fails p1 p2 p3 p4) has whole run given1 given2 =
        let after2 = sound_val p2 given whole run given1 (subst StmtTexts p1 given2).0 in
        let after3 = sound_resolves p3 given after2.0 after2.1 given1 (subst StmtTexts p1 given2).1 in
        let after4 = sound_edits cut after3.2 after2.2 after3.1.delimiter p4 (stopped has) after3.0 given1 in
        (after4.0, after3.1, after4.1, tt)
    sound_form (Form.put p1 p2 p3 p4) has whole run given1 given2 =
        let after2 = sound_val p2 given whole run given1 (subst StmtTexts p1 given2).0 in
        let after3 = sound_resolves p3 given after2.0 after2.1 given1 (subst StmtTexts p1 given2).1 in
        let after4 = sound_edits cut after3.2 after2.2 after3.1.delimiter p4 given after3.0 given1 in
        (after4.0, after3.1, after4.1, tt)
    sound_form (Form.get_stops p1 p2) has whole run given1 given2 =
        let after2 = sound_val p2 (stopped has) whole run given1 (subst StmtTexts p1 given2) in
        (after2.0, after2.1, given1, tt)
    sound_form (Form.get {f = f} p1 p2 p3) has whole run given1 given2 =
        let after2 = sound_val p2 given whole run given1 (subst StmtTexts p1 given2) in
        let after3 = sound_stores (named_texts f.variables it_name it_text) after2.2 p3 after2.0 given1 in
        (after3.0, after2.1, after3.1, tt)
    sound_form (Form.set_stops p1 p2) has whole run given1 given2 =
        let after2 = sound_val p2 (stopped has) whole run given1 (subst StmtTexts p1 given2).1 in
        (after2.0, after2.1, given1, tt)
    sound_form (Form.set_nowhere p1 p2 p3) has whole run given1 given2 =
        let after2 = sound_val p2 given whole run given1 (subst StmtTexts p1 given2).1 in
        let after3 = sound_meets p3 (stopped has) after2.0 after2.1 given1 (subst StmtTexts p1 given2).0 in
        (after3.0, after3.1, given1, tt)
    sound_form (Form.set_fails p1 p2 p3 p4) has whole run given1 given2 =
        let after2 = sound_val p2 given whole run given1 (subst StmtTexts p1 given2).1 in
        let after3 = sound_meets p3 given after2.0 after2.1 given1 (subst StmtTexts p1 given2).0 in
        ((sound_sets after2.2 p4 (stopped has) after3.0), after3.1, given1, tt)
    sound_form (Form.set p1 p2 p3 p4) has whole run given1 given2 =
        let after2 = sound_val p2 given whole run given1 (subst StmtTexts p1 given2).1 in
        let after3 = sound_meets p3 given after2.0 after2.1 given1 (subst StmtTexts p1 given2).0 in
        ((sound_sets after2.2 p4 given after3.0), after3.1, given1, tt)
    sound_form (Form.set_run_stops p1 p2) has whole run given1 given2 =
        let after2 = sound_val p2 (stopped has) whole run given1 (subst StmtTexts p1 given2) in
        (after2.0, after2.1, given1, tt)
    sound_form (Form.set_run_fails p1 p2 _) has whole run given1 given2 =
        let after2 = sound_val p2 given whole run given1 (subst StmtTexts p1 given2) in
        (after2.0, after2.1, given1, tt)
    sound_form (Form.set_run {rp = rp} {v = v} p1 p2 p3) has whole run given1 given2 =
        let after2 = sound_val p2 given whole run given1 (subst StmtTexts p1 given2) in
        (after2.0, (sound_property rp v p3 after2.2 after2.1), given1, tt)
    sound_form (Form.add p1 p2) has whole run given1 given2 =
        sound_alters p2 has whole run given1 (subst StmtTexts p1 given2).0 (subst StmtTexts p1 given2).1
    sound_form (Form.subtract p1 p2) has whole run given1 given2 =
        sound_alters p2 has whole run given1 (subst StmtTexts p1 given2).0 (subst StmtTexts p1 given2).1
    sound_form (Form.multiply p1 p2) has whole run given1 given2 =
        sound_alters p2 has whole run given1 (subst StmtTexts p1 given2).1 (subst StmtTexts p1 given2).0
    sound_form (Form.divide p1 p2) has whole run given1 given2 =
        sound_alters p2 has whole run given1 (subst StmtTexts p1 given2).1 (subst StmtTexts p1 given2).0
    sound_form (Form.delete_stops p1 p2) has whole run given1 given2 =
        let after2 = sound_chunk_of p2 (stopped has) whole run given1 (subst StmtTexts p1 given2).0 in
        (after2.0, after2.1, given1, tt)
    sound_form (Form.delete_nowhere p1 p2 p3) has whole run given1 given2 =
        let after2 = sound_chunk_of p2 given whole run given1 (subst StmtTexts p1 given2).0 in
        let after3 = sound_resolves p3 (stopped has) after2.0 after2.1 given1 (subst StmtTexts p1 given2).1 in
        (after3.0, after3.1, given1, tt)
    sound_form (Form.delete_fails p1 p2 p3 p4 p5) has whole run given1 given2 =
        let after2 = sound_chunk_of p2 given whole run given1 (subst StmtTexts p1 given2).0 in
        let after3 = sound_resolves p3 given after2.0 after2.1 given1 (subst StmtTexts p1 given2).1 in
        let after5 = sound_edits cut (subst (λ (x : PlaceView). StorageTexts x.storage) (sym p4) after3.2) tt
        after3.1.delimiter p5 (stopped has) after3.0 given1 in
        (after5.0, after3.1, after5.1, tt)
    sound_form (Form.delete p1 p2 p3 p4 p5) has whole run given1 given2 =
        let after2 = sound_chunk_of p2 given whole run given1 (subst StmtTexts p1 given2).0 in
        let after3 = sound_resolves p3 given after2.0 after2.1 given1 (subst StmtTexts p1 given2).1 in
        let after5 = sound_edits cut (subst (λ (x : PlaceView). StorageTexts x.storage) (sym p4) after3.2) tt
        after3.1.delimiter p5 given after3.0 given1 in
        (after5.0, after3.1, after5.1, tt)
    sound_form (Form.do_stops p1 p2) has whole run given1 given2 =
        let after2 = sound_val p2 (stopped has) whole run given1 (subst StmtTexts p1 given2) in
        (after2.0, after2.1, given1, tt)
    sound_form (Form.do_value p1 p2 p3) has whole run given1 given2 =
        let after2 = sound_val p2 given whole run given1 (subst StmtTexts p1 given2) in
        sound_do_text p3 has after2.0 after2.1 given1 after2.2
    sound_form (Form.send_text_stops p1 p2) has whole run given1 given2 =
        let after2 = sound_val p2 (stopped has) whole run given1 (subst StmtTexts p1 given2).0 in
        (after2.0, after2.1, given1, tt)
    sound_form (Form.send_nowhere p1 p2 p3) has whole run given1 given2 =
        let after2 = sound_val p2 given whole run given1 (subst StmtTexts p1 given2).0 in
        let after3 = sound_meets p3 (stopped has) after2.0 after2.1 given1 (subst StmtTexts p1 given2).1 in
        (after3.0, after3.1, given1, tt)
    sound_form (Form.send_stops p1 p2 p3 p4) has whole run given1 given2 =
        let after2 = sound_val p2 given whole run given1 (subst StmtTexts p1 given2).0 in
        let after3 = sound_meets p3 given after2.0 after2.1 given1 (subst StmtTexts p1 given2).1 in
        let after4 = sound_sends_text p4 (stopped has) after3.0 after3.1 given1 after2.2 in
        (after4.0, after4.1, given1, tt)
    sound_form (Form.send p1 p2 p3 p4) has whole run given1 given2 =
        let after2 = sound_val p2 given whole run given1 (subst StmtTexts p1 given2).0 in
        let after3 = sound_meets p3 given after2.0 after2.1 given1 (subst StmtTexts p1 given2).1 in
        let after4 = sound_sends_text p4 given after3.0 after3.1 given1 after2.2 in
        (after4.0, after4.1, given1, tt)
    sound_form (Form.go_nowhere p1 p2) has whole run given1 given2 =
        let after2 = sound_leads p2 (stopped has) whole run given1 (subst StmtTexts p1 given2) in
        (after2.0, after2.1, given1, tt)
    sound_form (Form.go_stops p1 p2 p3) has whole run given1 given2 =
        let after2 = sound_leads p2 given whole run given1 (subst StmtTexts p1 given2) in
        let after3 = sound_goes p3 (stopped has) after2.0 after2.1 given1 in
        (after3.0, after3.1, given1, tt)
    sound_form (Form.go p1 p2 p3) has whole run given1 given2 =
        let after2 = sound_leads p2 given whole run given1 (subst StmtTexts p1 given2) in
        let after3 = sound_goes p3 given after2.0 after2.1 given1 in
        (after3.0, after3.1, given1, tt)
    sound_form (Form.global p1 p2) has whole run given1 given2 =
        let after2 = sound_declares_all (subst StmtTexts p1 given2) p2 whole given1 in
        (after2.0, run, after2.1, tt)
    sound_form (Form.exit_repeat p1) has whole run given1 given2 = (whole, run, given1, tt)
    sound_form (Form.next_repeat p1) has whole run given1 given2 = (whole, run, given1, tt)
    sound_form (Form.exit_to_hypercard p1) has whole run given1 given2 = (whole, run, given1, tt)
    sound_form (Form.exit_handler p1) has whole run given1 given2 = (whole, run, given1, tt)
    sound_form (Form.pass p1) has whole run given1 given2 = (whole, run, given1, tt)
    sound_form (Form.return_nothing p1) has whole run given1 given2 = (whole, run, given1, no_bytes)
    sound_form (Form.return_stops p1 p2) has whole run given1 given2 =
        let after2 = sound_val p2 (stopped has) whole run given1 (subst StmtTexts p1 given2) in
        (after2.0, after2.1, given1, tt)
    sound_form (Form.return_value p1 p2) has whole run given1 given2 =
        let after2 = sound_val p2 given whole run given1 (subst StmtTexts p1 given2) in
        (after2.0, after2.1, given1, after2.2)
    sound_form (Form.command_stops p1 _ p3) has whole run given1 given2 =
        let after3 = sound_calls p3 (stopped has) whole run given1 (subst StmtTexts p1 given2).1 in
        (after3.0, after3.1, given1, tt)
    sound_form (Form.command p1 _ p3) has whole run given1 given2 =
        let after3 = sound_calls p3 given whole run given1 (subst StmtTexts p1 given2).1 in
        (after3.0, after3.1, given1, tt)
    sound_form (Form.if_stops p1 p2) has whole run given1 given2 =
        let after2 = sound_truth_val p2 (stopped has) whole run given1 (subst StmtTexts p1 given2).0 in
        (after2.0, after2.1, given1, tt)
    sound_form (Form.if_true p1 p2 _ p4) has whole run given1 given2 =
        let after2 = sound_truth_val p2 given whole run given1 (subst StmtTexts p1 given2).0 in
        sound_block p4 has after2.0 after2.1 given1 (subst StmtTexts p1 given2).1
    sound_form (Form.if_false p1 p2 _ p4) has whole run given1 given2 =
        let after2 = sound_truth_val p2 given whole run given1 (subst StmtTexts p1 given2).0 in
        sound_block p4 has after2.0 after2.1 given1 (subst StmtTexts p1 given2).2
    sound_form (Form.forever p1 p2) has whole run given1 given2 =
        sound_endless p2 has whole run given1 (subst StmtTexts p1 given2).1
    sound_form (Form.times_stops p1 p2) has whole run given1 given2 =
        let after2 = sound_number_val p2 (stopped has) whole run given1 (subst StmtTexts p1 given2).0 in
        (after2.0, after2.1, given1, tt)
    sound_form (Form.times p1 p2 _ p4) has whole run given1 given2 =
        let after2 = sound_number_val p2 given whole run given1 (subst StmtTexts p1 given2).0 in
        sound_counts p4 has after2.0 after2.1 given1 tt (subst StmtTexts p1 given2).1
    sound_form (Form.while p1 p2) has whole run given1 given2 =
        sound_while p2 has whole run given1 (subst StmtTexts p1 given2).0 (subst StmtTexts p1 given2).1
    sound_form (Form.until p1 p2) has whole run given1 given2 =
        sound_while p2 has whole run given1 (subst StmtTexts p1 given2).0 (subst StmtTexts p1 given2).1
    sound_form (Form.up_stops p1 p2) has whole run given1 given2 =
        let after2 = sound_bounds p2 (stopped has) whole run given1 (subst StmtTexts p1 given2).0.1
        (subst StmtTexts p1 given2).0.2 in
        (after2.0, after2.1, given1, tt)
    sound_form (Form.up p1 p2 p3) has whole run given1 given2 =
        let after2 =
        sound_bounds p2 given whole run given1 (subst StmtTexts p1 given2).0.1 (subst StmtTexts p1 given2).0.2 in
        sound_counts p3 has after2.0 after2.1 given1 (subst StmtTexts p1 given2).0.0 (subst StmtTexts p1 given2).1
    sound_form (Form.down_stops p1 p2) has whole run given1 given2 =
        let after2 = sound_bounds p2 (stopped has) whole run given1 (subst StmtTexts p1 given2).0.1
        (subst StmtTexts p1 given2).0.2 in
        (after2.0, after2.1, given1, tt)
    sound_form (Form.down p1 p2 p3) has whole run given1 given2 =
        let after2 =
        sound_bounds p2 given whole run given1 (subst StmtTexts p1 given2).0.1 (subst StmtTexts p1 given2).0.2 in
        sound_counts p3 has after2.0 after2.1 given1 (subst StmtTexts p1 given2).0.0 (subst StmtTexts p1 given2).1

    pub sound_alters : {w w2 : History} {r r2 : RunState} {f f2 : Frame} {d : ℕ} {op : Op} {e : tree.Expr}
        {ct : tree.Container} {oh : Result How Stop} → Alters w r f d op e ct oh w2 r2 f2 → HasMemory oh
        → IsWhole begin w → RunTexts r → FrameTexts f → ExprTexts e → ContainerTexts ct
        → IsWhole begin w2 × RunTexts r2 × FrameTexts f2 × IfOk oh HowTexts
    sound_alters Alters.alter_memory has _ _ _ _ _ = absurd (has refl)
    sound_alters (Alters.alter_stops p1) has whole run given1 given2 given3 =
        let after1 = sound_val p1 (stopped has) whole run given1 given2 in
        (after1.0, after1.1, given1, tt)
    sound_alters (Alters.alter_nowhere p1 p2) has whole run given1 given2 given3 =
        let after1 = sound_val p1 given whole run given1 given2 in
        let after2 = sound_resolves p2 (stopped has) after1.0 after1.1 given1 given3 in
        (after2.0, after2.1, given1, tt)
    sound_alters (Alters.alter_fails p1 p2 p3) has whole run given1 given2 given3 =
        let after1 = sound_val p1 given whole run given1 given2 in
        let after2 = sound_resolves p2 given after1.0 after1.1 given1 given3 in
        let after3 = sound_edits cut after2.2 after1.2 after2.1.delimiter p3 (stopped has) after2.0 given1 in
        (after3.0, after2.1, after3.1, tt)
    sound_alters (Alters.alter p1 p2 p3) has whole run given1 given2 given3 =
        let after1 = sound_val p1 given whole run given1 given2 in
        let after2 = sound_resolves p2 given after1.0 after1.1 given1 given3 in
        let after3 = sound_edits cut after2.2 after1.2 after2.1.delimiter p3 given after2.0 given1 in
        (after3.0, after2.1, after3.1, tt)

    pub sound_block : {w w2 : History} {r r2 : RunState} {f f2 : Frame} {d : ℕ} {ss : stm.Stmts} {oh : Result How Stop}
        → Block w r f d ss oh w2 r2 f2 → HasMemory oh → IsWhole begin w → RunTexts r → FrameTexts f → StmtsTexts ss
        → IsWhole begin w2 × RunTexts r2 × FrameTexts f2 × IfOk oh HowTexts
    sound_block Block.block_memory has _ _ _ _ = absurd (has refl)
    sound_block (Block.block_end p1) has whole run given1 given2 = (whole, run, given1, tt)
    sound_block (Block.block_no_step p1 p2) has whole run given1 given2 = (whole, (sound_step p2 run), given1, tt)
    sound_block (Block.block_stops p1 p2 p3) has whole run given1 given2 =
        let after3 = sound_form p3 has whole (sound_step p2 run) given1 (subst StmtsTexts p1 given2).0 in
        (after3.0, after3.1, after3.2, tt)
    sound_block (Block.block_leaves p1 p2 p3 _) has whole run given1 given2 =
        sound_form p3 given whole (sound_step p2 run) given1 (subst StmtsTexts p1 given2).0
    sound_block (Block.block_goes_on p1 p2 p3 p4) has whole run given1 given2 =
        let after3 = sound_form p3 given whole (sound_step p2 run) given1 (subst StmtsTexts p1 given2).0 in
        sound_block p4 has after3.0 after3.1 after3.2 (subst StmtsTexts p1 given2).1

    pub sound_do_text : {w w2 : History} {r r2 : RunState} {f f2 : Frame} {d : ℕ} {t : List ℕ} {oh : Result How Stop}
        → DoText w r f d t oh w2 r2 f2 → HasMemory oh → IsWhole begin w → RunTexts r → FrameTexts f → IsText t
        → IsWhole begin w2 × RunTexts r2 × FrameTexts f2 × IfOk oh HowTexts
    sound_do_text DoText.do_memory has _ _ _ _ = absurd (has refl)
    sound_do_text (DoText.do_too_deep _) has whole run given1 given2 = (whole, run, given1, tt)
    sound_do_text (DoText.do_syntax _ _) has whole run given1 given2 = (whole, run, given1, tt)
    sound_do_text (DoText.do_lines _ p2 p3) has whole run given1 given2 =
        sound_block p3 has whole run given1 (sound_parses {P = StmtsTexts} lines_have_texts p2 given2)

    pub sound_endless : {w w2 : History} {r r2 : RunState} {f f2 : Frame} {d : ℕ} {ss : stm.Stmts}
        {oh : Result How Stop} → Endless w r f d ss oh w2 r2 f2 → HasMemory oh → IsWhole begin w → RunTexts r
        → FrameTexts f → StmtsTexts ss → IsWhole begin w2 × RunTexts r2 × FrameTexts f2 × IfOk oh HowTexts
    sound_endless Endless.endless_memory has _ _ _ _ = absurd (has refl)
    sound_endless (Endless.endless_no_step p1) has whole run given1 given2 = (whole, (sound_step p1 run), given1, tt)
    sound_endless (Endless.endless_stops p1 p2) has whole run given1 given2 =
        let after2 = sound_block p2 has whole (sound_step p1 run) given1 given2 in
        (after2.0, after2.1, after2.2, tt)
    sound_endless (Endless.endless_leaves {h = h} p1 p2 p3) has whole run given1 given2 =
        let after2 = sound_block p2 given whole (sound_step p1 run) given1 given2 in
        (after2.0, after2.1, after2.2, (sound_leaves h p3 after2.3))
    sound_endless (Endless.endless_goes_on p1 p2 _ p4) has whole run given1 given2 =
        let after2 = sound_block p2 given whole (sound_step p1 run) given1 given2 in
        sound_endless p4 has after2.0 after2.1 after2.2 given2

    pub sound_while : {w w2 : History} {r r2 : RunState} {f f2 : Frame} {d : ℕ} {b : Bool} {e : tree.Expr}
        {ss : stm.Stmts} {oh : Result How Stop} → While w r f d b e ss oh w2 r2 f2 → HasMemory oh → IsWhole begin w
        → RunTexts r → FrameTexts f → ExprTexts e → StmtsTexts ss
        → IsWhole begin w2 × RunTexts r2 × FrameTexts f2 × IfOk oh HowTexts
    sound_while While.while_memory has _ _ _ _ _ = absurd (has refl)
    sound_while (While.while_no_step p1) has whole run given1 given2 given3 = (whole, (sound_step p1 run), given1, tt)
    sound_while (While.while_test_stops p1 p2) has whole run given1 given2 given3 =
        let after2 = sound_truth_val p2 (stopped has) whole (sound_step p1 run) given1 given2 in
        (after2.0, after2.1, given1, tt)
    sound_while (While.while_ends p1 p2 _) has whole run given1 given2 given3 =
        let after2 = sound_truth_val p2 given whole (sound_step p1 run) given1 given2 in
        (after2.0, after2.1, given1, tt)
    sound_while (While.while_stops p1 p2 _ p4) has whole run given1 given2 given3 =
        let after2 = sound_truth_val p2 given whole (sound_step p1 run) given1 given2 in
        let after4 = sound_block p4 has after2.0 after2.1 given1 given3 in
        (after4.0, after4.1, after4.2, tt)
    sound_while (While.while_leaves {h = h} p1 p2 _ p4 p5) has whole run given1 given2 given3 =
        let after2 = sound_truth_val p2 given whole (sound_step p1 run) given1 given2 in
        let after4 = sound_block p4 given after2.0 after2.1 given1 given3 in
        (after4.0, after4.1, after4.2, (sound_leaves h p5 after4.3))
    sound_while (While.while_goes_on p1 p2 _ p4 _ p6) has whole run given1 given2 given3 =
        let after2 = sound_truth_val p2 given whole (sound_step p1 run) given1 given2 in
        let after4 = sound_block p4 given after2.0 after2.1 given1 given3 in
        sound_while p6 has after4.0 after4.1 after4.2 given2 given3

    pub sound_bounds : {w w2 : History} {r r2 : RunState} {f : Frame} {d : ℕ} {e e2 : tree.Expr} {b : Bool}
        {oco : Result CounterState Stop} → Bounds w r f d e e2 b oco w2 r2 → HasMemory oco → IsWhole begin w
        → RunTexts r → FrameTexts f → ExprTexts e → ExprTexts e2 → IsWhole begin w2 × RunTexts r2
    sound_bounds Bounds.bounds_memory has _ _ _ _ _ = absurd (has refl)
    sound_bounds (Bounds.start_stops p1) has whole run given1 given2 given3 =
        let after1 = sound_val p1 (stopped has) whole run given1 given2 in
        (after1.0, after1.1)
    sound_bounds (Bounds.bound_stops p1 p2) has whole run given1 given2 given3 =
        let after1 = sound_val p1 given whole run given1 given2 in
        let after2 = sound_val p2 (stopped has) after1.0 after1.1 given1 given3 in
        (after2.0, after2.1)
    sound_bounds (Bounds.bounds p1 p2 _) has whole run given1 given2 given3 =
        let after1 = sound_val p1 given whole run given1 given2 in
        let after2 = sound_val p2 given after1.0 after1.1 given1 given3 in
        (after2.0, after2.1)

    pub sound_counts : {w w2 : History} {r r2 : RunState} {f f2 : Frame} {d : ℕ} {on : Option (List ℕ)}
        {co : CounterState} {ss : stm.Stmts} {oh : Result How Stop} → Counts w r f d on co ss oh w2 r2 f2 → HasMemory oh
        → IsWhole begin w → RunTexts r → FrameTexts f → IfSome on IsText → StmtsTexts ss
        → IsWhole begin w2 × RunTexts r2 × FrameTexts f2 × IfOk oh HowTexts
    sound_counts Counts.counts_memory has _ _ _ _ _ = absurd (has refl)
    sound_counts (Counts.counts_no_step p1) has whole run given1 given2 given3 =
        (whole, (sound_step p1 run), given1, tt)
    sound_counts (Counts.counts_end p1 _) has whole run given1 given2 given3 = (whole, (sound_step p1 run), given1, tt)
    sound_counts (Counts.counts_stop {co = co} p1 _ p3 p4) has whole run given1 given2 given3 =
        let after3 = sound_assigns given2 (numeral_text co.at) p3 whole given1 in
        let after4 = sound_block p4 has after3.0 (sound_step p1 run) after3.1 given3 in
        (after4.0, after4.1, after4.2, tt)
    sound_counts (Counts.counts_leave {co = co} {h = h} p1 _ p3 p4 p5) has whole run given1 given2 given3 =
        let after3 = sound_assigns given2 (numeral_text co.at) p3 whole given1 in
        let after4 = sound_block p4 given after3.0 (sound_step p1 run) after3.1 given3 in
        (after4.0, after4.1, after4.2, (sound_leaves h p5 after4.3))
    sound_counts (Counts.counts_go_on {co = co} p1 _ p3 p4 _ _ p7) has whole run given1 given2 given3 =
        let after3 = sound_assigns given2 (numeral_text co.at) p3 whole given1 in
        let after4 = sound_block p4 given after3.0 (sound_step p1 run) after3.1 given3 in
        sound_counts p7 has after4.0 after4.1 after4.2 given2 given3

    pub sound_calls : {w w2 : History} {r r2 : RunState} {f : Frame} {d i : ℕ} {n : List ℕ} {es : tree.Exprs}
        {cl : HandlerKind} {o : Result (List ℕ) Stop} → Calls w r f d i n es cl o w2 r2 → HasMemory o → IsWhole begin w
        → RunTexts r → FrameTexts f → ExprsTexts es → IsWhole begin w2 × RunTexts r2 × IfOk o IsText
    sound_calls Calls.calls_memory has _ _ _ _ = absurd (has refl)
    sound_calls (Calls.calls_stop p1) has whole run given1 given2 =
        let after1 = sound_vals p1 (stopped has) whole run given1 given2 tt in
        (after1.0, after1.1, tt)
    sound_calls (Calls.calls p1 p2) has whole run given1 given2 =
        let after1 = sound_vals p1 given whole run given1 given2 tt in
        sound_sends p2 has after1.0 after1.1 given1 after1.2

    pub sound_sends_text : {w w2 : History} {r r2 : RunState} {f : Frame} {d i : ℕ} {t : List ℕ}
        {o : Result (List ℕ) Stop} → SendsText w r f d i t o w2 r2 → HasMemory o → IsWhole begin w → RunTexts r
        → FrameTexts f → IsText t → IsWhole begin w2 × RunTexts r2 × IfOk o IsText
    sound_sends_text SendsText.send_memory has _ _ _ _ = absurd (has refl)
    sound_sends_text (SendsText.send_syntax _) has whole run given1 given2 = (whole, run, tt)
    sound_sends_text (SendsText.sends_text p1 p2) has whole run given1 given2 =
        sound_calls p2 has whole run given1 (sound_parses {P = MessageTexts} messages_have_texts p1 given2).1

    pub sound_sends : {w w2 : History} {r r2 : RunState} {f : Frame} {d i : ℕ} {n : List ℕ} {vs : List (List ℕ)}
        {cl : HandlerKind} {o : Result (List ℕ) Stop} → Sends w r f d i n vs cl o w2 r2 → HasMemory o → IsWhole begin w
        → RunTexts r → FrameTexts f → AreTexts vs → IsWhole begin w2 × RunTexts r2 × IfOk o IsText
    sound_sends Sends.sends_memory has _ _ _ _ = absurd (has refl)
    sound_sends (Sends.sends_no_step p1) has whole run given1 given2 = (whole, (sound_step p1 run), tt)
    sound_sends (Sends.sends {n = n} {i = i} p1 p2 _ p4) has whole run given1 given2 =
        sound_along p4 has whole (sound_noted n i p2 (sound_step p1 run)) given1 given2

    pub sound_along : {w w2 : History} {r r2 : RunState} {f : Frame} {d i : ℕ} {is n : List ℕ} {vs : List (List ℕ)}
        {cl : HandlerKind} {o : Result (List ℕ) Stop} → Along w r f d i is n vs cl o w2 r2 → HasMemory o
        → IsWhole begin w → RunTexts r → FrameTexts f → AreTexts vs → IsWhole begin w2 × RunTexts r2 × IfOk o IsText
    sound_along Along.along_memory has _ _ _ _ = absurd (has refl)
    sound_along (Along.along_broken _) has whole run given1 given2 = (whole, run, tt)
    sound_along (Along.along_too_deep p1 _) has whole run given1 given2 = (whole, run, tt)
    sound_along (Along.along_stops {fd = fd} {i = i} {vs = vs} p1 _ p3 p4) has whole run given1 given2 =
        let after4 = sound_block p4 (stopped has) whole run
        (sound_handler_frame fd.object i (parameters_of fd.handler) vs p3 given2)
        (lines_texts fd.handler (sound_finds p1 whole.history.now.state.stack)) in
        (after4.0, after4.1, tt)
    sound_along (Along.along_ends {cl = cl} {fd = fd} {i = i} {vs = vs} {h = h} p1 _ p3 p4 p5) has whole run given1
        given2 =
        let after4 = sound_block p4 given whole run
        (sound_handler_frame fd.object i (parameters_of fd.handler) vs p3 given2)
        (lines_texts fd.handler (sound_finds p1 whole.history.now.state.stack)) in
        let after5 = sound_ends cl h p5 after4.3 after4.1 in
        (after4.0, after5.1, after5.0)
    sound_along (Along.along_passes {fd = fd} {i = i} {vs = vs} p1 _ p3 p4 _ p6) has whole run given1 given2 =
        let after4 = sound_block p4 given whole run
        (sound_handler_frame fd.object i (parameters_of fd.handler) vs p3 given2)
        (lines_texts fd.handler (sound_finds p1 whole.history.now.state.stack)) in
        sound_along p6 has after4.0 after4.1 given1 given2
    sound_along (Along.along_unhandled _ p2) has whole run given1 given2 = sound_outside p2 has whole run given1 given2

    pub sound_outside : {w w2 : History} {r r2 : RunState} {f : Frame} {d : ℕ} {n : List ℕ} {vs : List (List ℕ)}
        {cl : HandlerKind} {o : Result (List ℕ) Stop} → Outside w r f d n vs cl o w2 r2 → HasMemory o → IsWhole begin w
        → RunTexts r → FrameTexts f → AreTexts vs → IsWhole begin w2 × RunTexts r2 × IfOk o IsText
    sound_outside Outside.outside_memory has _ _ _ _ = absurd (has refl)
    sound_outside (Outside.no_external _ p2) has whole run given1 given2 =
        sound_built_in_gives p2 has whole run given1 given2
    sound_outside (Outside.external_stops {w = w} {cl = cl} {n = n} p1 p2) has whole run given1 given2 =
        let after2 = sound_converses p2 (stopped has) whole run (named_stands w (calls_function cl) n p1) given2 in
        (after2.0, after2.1, tt)
    sound_outside (Outside.external_ends {w = w} {cl = cl} {n = n} {dn = dn} p1 p2 _ p4) has whole run given1 given2 =
        let after2 = sound_converses p2 given whole run (named_stands w (calls_function cl) n p1) given2 in
        let after4 = sound_returned cl dn.value p4 after2.2 after2.1 in
        (after2.0, after4.1, after4.0)
    sound_outside (Outside.external_passes {w = w} {cl = cl} {n = n} p1 p2 _ p4) has whole run given1 given2 =
        let after2 = sound_converses p2 given whole run (named_stands w (calls_function cl) n p1) given2 in
        sound_built_in_gives p4 has after2.0 after2.1 given1 given2

    pub sound_built_in_gives : {w w2 : History} {r r2 : RunState} {f : Frame} {d : ℕ} {n : List ℕ} {vs : List (List ℕ)}
        {cl : HandlerKind} {o : Result (List ℕ) Stop} → BuiltInGives w r f d n vs cl o w2 r2 → HasMemory o
        → IsWhole begin w → RunTexts r → FrameTexts f → AreTexts vs → IsWhole begin w2 × RunTexts r2 × IfOk o IsText
    sound_built_in_gives BuiltInGives.built_in_memory has _ _ _ _ = absurd (has refl)
    sound_built_in_gives (BuiltInGives.value_call {vs = vs} _ p2 p3) has whole run given1 given2 =
        sound_text_val p3 has whole run given1 (sound_only vs p2 given2)
    sound_built_in_gives (BuiltInGives.value_arguments _ _) has whole run given1 given2 = (whole, run, tt)
    sound_built_in_gives (BuiltInGives.function_call {fu = fu} {vs = vs} _ p2) has whole run given1 given2 =
        (whole, run, (sound_yields IsText (built_in_text fu vs) p2))
    sound_built_in_gives (BuiltInGives.menu_unknown _ _) has whole run given1 given2 = (whole, run, tt)
    sound_built_in_gives (BuiltInGives.menu_item _ _ p3) has whole run given1 given2 =
        sound_menu p3 has whole run given1
    sound_built_in_gives (BuiltInGives.ignored_message _ _) has whole run given1 given2 = (whole, run, no_bytes)
    sound_built_in_gives (BuiltInGives.not_understood _ _) has whole run given1 given2 = (whole, run, tt)

    pub sound_system : {w w2 : History} {r r2 : RunState} {f : Frame} {d i : ℕ} {mg : SystemMessage}
        {o : Result (List ℕ) Stop} → System w r f d i mg o w2 r2 → HasMemory o → IsWhole begin w → RunTexts r
        → FrameTexts f → IsWhole begin w2 × RunTexts r2 × IfOk o IsText
    sound_system System.system_memory has _ _ _ = absurd (has refl)
    sound_system (System.system_locked _) has whole run given1 = (whole, run, no_bytes)
    sound_system (System.system _ _ p3) has whole run given1 = sound_sends p3 has whole run given1 tt

    pub sound_systems : {w w2 : History} {r r2 : RunState} {f : Frame} {d : ℕ} {ms : List SystemMessage}
        {o : Result (List ℕ) Stop} → Systems w r f d ms o w2 r2 → HasMemory o → IsWhole begin w → RunTexts r
        → FrameTexts f → IsWhole begin w2 × RunTexts r2 × IfOk o IsText
    sound_systems Systems.systems_memory has _ _ _ = absurd (has refl)
    sound_systems (Systems.systems_done _) has whole run given1 = (whole, run, no_bytes)
    sound_systems (Systems.systems_stop _ _ p3) has whole run given1 =
        let after3 = sound_system p3 has whole run given1 in
        (after3.0, after3.1, tt)
    sound_systems (Systems.systems_more _ _ p3 p4) has whole run given1 =
        let after3 = sound_system p3 given whole run given1 in
        sound_systems p4 has after3.0 after3.1 given1

    pub sound_goes : {w w2 : History} {r r2 : RunState} {f : Frame} {d i : ℕ} {o : Result (List ℕ) Stop}
        → Goes w r f d i o w2 r2 → HasMemory o → IsWhole begin w → RunTexts r → FrameTexts f
        → IsWhole begin w2 × RunTexts r2 × IfOk o IsText
    sound_goes Goes.go_memory has _ _ _ = absurd (has refl)
    sound_goes (Goes.go_stays _) has whole run given1 = (whole, run, no_bytes)
    sound_goes (Goes.go_close_stops _ _ p3) has whole run given1 =
        let after3 = sound_systems p3 has whole run given1 in
        (after3.0, after3.1, tt)
    sound_goes (Goes.go_gone _ _ p3 _) has whole run given1 =
        let after3 = sound_systems p3 given whole run given1 in
        (after3.0, after3.1, tt)
    sound_goes (Goes.go_arrives _ _ p3 p4 p5 p6) has whole run given1 =
        let after3 = sound_systems p3 given whole run given1 in
        sound_systems p6 has (sound_made p4 tt p5 after3.0) after3.1 given1

    pub sound_menu : {w w2 : History} {r r2 : RunState} {f : Frame} {d : ℕ} {it : Item} {o : Result (List ℕ) Stop}
        → Menu w r f d it o w2 r2 → HasMemory o → IsWhole begin w → RunTexts r → FrameTexts f
        → IsWhole begin w2 × RunTexts r2 × IfOk o IsText
    sound_menu Menu.menu_memory has _ _ _ = absurd (has refl)
    sound_menu (Menu.card_close_stops _ p2) has whole run given1 =
        let after2 = sound_systems p2 has whole run given1 in
        (after2.0, after2.1, tt)
    sound_menu (Menu.card_full _ p2 p3) has whole run given1 =
        let after2 = sound_systems p2 given whole run given1 in
        ((sound_adds tt p3 (stopped has) after2.0), after2.1, tt)
    sound_menu (Menu.new_card _ p2 p3 p4) has whole run given1 =
        let after2 = sound_systems p2 given whole run given1 in
        sound_systems p4 has (sound_adds tt p3 given after2.0) after2.1 given1
    sound_menu (Menu.background_close_stops _ p2) has whole run given1 =
        let after2 = sound_systems p2 has whole run given1 in
        (after2.0, after2.1, tt)
    sound_menu (Menu.background_full _ p2 p3) has whole run given1 =
        let after2 = sound_systems p2 given whole run given1 in
        ((sound_adds tt p3 (stopped has) after2.0), after2.1, tt)
    sound_menu (Menu.new_background _ p2 p3 p4) has whole run given1 =
        let after2 = sound_systems p2 given whole run given1 in
        sound_systems p4 has (sound_adds tt p3 given after2.0) after2.1 given1
    sound_menu (Menu.part_full _ _ p3) has whole run given1 = ((sound_adds tt p3 (stopped has) whole), run, tt)
    sound_menu (Menu.new_part _ _ p3) has whole run given1 = ((sound_adds tt p3 given whole), run, no_bytes)
    sound_menu (Menu.delete_refused _ _) has whole run given1 = (whole, run, tt)
    sound_menu (Menu.delete_card {w = w} _ p2 p3 _ p5) has whole run given1 =
        sound_systems p5 has (sound_made (may_go w.now p2) tt p3 whole) run given1

    pub sound_converses : {w w2 : History} {r r2 : RunState} {d k : ℕ} {vs : List (List ℕ)}
        {odn : Result Conversed Stop} → Converses w r d k vs odn w2 r2 → HasMemory odn → IsWhole begin w → RunTexts r
        → k < length w.now.externals → AreTexts vs → IsWhole begin w2 × RunTexts r2 × IfOk odn (λ dn. IsText dn.value)
    sound_converses Converses.converse_memory has _ _ _ _ = absurd (has refl)
    sound_converses (Converses.too_many_arguments _) has whole run given1 given2 = (whole, run, tt)
    sound_converses (Converses.conversation_too_deep _ _) has whole run given1 given2 = (whole, run, tt)
    sound_converses (Converses.converses _ _ p3 p4) has whole run given1 given2 =
        sound_talks p4 has whole run given1 (subst InputTexts (sym p3) given2)

    pub sound_talks : {w w2 : History} {r r2 : RunState} {d k : ℕ} {inp : Input} {odn : Result Conversed Stop}
        → Talks w r d k inp odn w2 r2 → HasMemory odn → IsWhole begin w → RunTexts r → k < length w.now.externals
        → InputTexts inp → IsWhole begin w2 × RunTexts r2 × IfOk odn (λ dn. IsText dn.value)
    sound_talks Talks.talk_memory has _ _ _ _ = absurd (has refl)
    sound_talks (Talks.talk_no_step p1) has whole run given1 given2 = (whole, (sound_step p1 run), tt)
    sound_talks (Talks.talk_done p1 p2 p3 p4) has whole run given1 given2 =
        let after2 = sound_turn given1 given2 p2 whole in (
          after2.0,
          (sound_step p1 run),
          (subst (λ (x : Conversed). IsText x.value) (sym p4) (subst AskTexts p3 after2.1)),
        )
    sound_talks (Talks.talk_fails p1 p2 p3) has whole run given1 given2 =
        let after2 = sound_turn given1 given2 p2 whole in
        (after2.0, (sound_step p1 run), tt)
    sound_talks (Talks.talk_stops p1 p2 p3) has whole run given1 given2 =
        let after2 = sound_turn given1 given2 p2 whole in
        let after3 = sound_calls_back p3 (stopped has) after2.0 (sound_step p1 run) after2.1 in
        (after3.0, after3.1, tt)
    sound_talks (Talks.talk_goes_on {w = w} {w1 = w1} {w2 = w2} p1 p2 p3 p4) has whole run given1 given2 =
        let after2 = sound_turn given1 given2 p2 whole in
        let after3 = sound_calls_back p3 given after2.0 (sound_step p1 run) after2.1 in
        sound_talks p4 has after3.0 after3.1
        (stands_after w1 w2 (base_calls_back p3 given) (stands_after w w1 (base_turn p2) given1)) after3.2

    pub sound_calls_back : {w w2 : History} {r r2 : RunState} {d : ℕ} {ask : Ask} {oin : Result Input Stop}
        → CallsBack w r d ask oin w2 r2 → HasMemory oin → IsWhole begin w → RunTexts r → AskTexts ask
        → IsWhole begin w2 × RunTexts r2 × IfOk oin InputTexts
    sound_calls_back CallsBack.call_back_memory has _ _ _ = absurd (has refl)
    sound_calls_back (CallsBack.message_syntax p1 _) has whole run given1 = (whole, run, tt)
    sound_calls_back (CallsBack.message_stops p1 p2 p3 p4) has whole run given1 =
        let after4 = sound_block p4 (stopped has) whole run (same_frame p3 tt)
        (sound_parses {P = StmtsTexts} lines_have_texts p2 (subst AskTexts p1 given1).1) in
        (after4.0, after4.1, tt)
    sound_calls_back (CallsBack.message_runs p1 p2 p3 p4 p5) has whole run given1 =
        let after4 = sound_block p4 given whole run (same_frame p3 tt)
        (sound_parses {P = StmtsTexts} lines_have_texts p2 (subst AskTexts p1 given1).1) in
        (after4.0, after4.1, (subst InputTexts (sym p5) ((subst AskTexts p1 given1).0, no_bytes)))
    sound_calls_back (CallsBack.eval_syntax p1 _) has whole run given1 = (whole, run, tt)
    sound_calls_back (CallsBack.eval_stops p1 p2 p3 p4) has whole run given1 =
        let after4 = sound_val p4 (stopped has) whole run (same_frame p3 tt)
        (sound_parses {P = ExprTexts} expressions_have_texts p2 (subst AskTexts p1 given1).1) in
        (after4.0, after4.1, tt)
    sound_calls_back (CallsBack.evaluates p1 p2 p3 p4 p5) has whole run given1 =
        let after4 = sound_val p4 given whole run (same_frame p3 tt)
        (sound_parses {P = ExprTexts} expressions_have_texts p2 (subst AskTexts p1 given1).1) in
        (after4.0, after4.1, (subst InputTexts (sym p5) ((subst AskTexts p1 given1).0, after4.2)))
    sound_calls_back (CallsBack.bad_global p1 _) has whole run given1 = (whole, run, tt)
    sound_calls_back (CallsBack.global_set {n = n} {f = f} p1 _ p3 p4 p5) has whole run given1 =
        let after4 = sound_stores (named_texts f.variables n (subst AskTexts p1 given1).1) (subst AskTexts p1 given1).2
        p4 whole (same_frame p3 tt) in
        (after4.0, run, (subst InputTexts (sym p5) ((subst AskTexts p1 given1).0, no_bytes)))
    sound_calls_back (CallsBack.no_such_field p1 p2 p3) has whole run given1 = (whole, run, tt)
    sound_calls_back (CallsBack.field_set {b = b} {n = n} {f = f} {w = w} p1 p2 p3 p4 p5) has whole run given1 =
        let after4 = sound_stores (sound_yields (λ p. StorageTexts p.storage) (named_place_texts w.now f.variables b n)
        p3) (subst AskTexts p1 given1).2 p4 whole (same_frame p2 tt) in
        (after4.0, run, (subst InputTexts (sym p5) ((subst AskTexts p1 given1).0, no_bytes)))

    pub sound_line : {w w2 : History} {r r2 : RunState} {ss : stm.Stmts} {ot : Result (Unit {0}) Stop}
        → Line w r ss ot w2 r2 → HasMemory ot → IsWhole begin w → RunTexts r → StmtsTexts ss
        → IsWhole begin w2 × RunTexts r2
    sound_line Line.line_memory has _ _ _ = absurd (has refl)
    sound_line (Line.line_stops p1 p2) has whole run given1 =
        let after2 = sound_block p2 (stopped has) whole run (same_frame p1 tt) given1 in
        (after2.0, after2.1)
    sound_line (Line.line p1 p2) has whole run given1 =
        let after2 = sound_block p2 given whole run (same_frame p1 tt) given1 in
        (after2.0, after2.1)

    pub sound_message : {w w2 : History} {r r2 : RunState} {i : ℕ} {n : List ℕ} {vs : List (List ℕ)}
        {ot : Result (Unit {0}) Stop} → Message w r i n vs ot w2 r2 → HasMemory ot → IsWhole begin w → RunTexts r
        → AreTexts vs → IsWhole begin w2 × RunTexts r2
    sound_message Message.message_memory has _ _ _ = absurd (has refl)
    sound_message (Message.sent_alone_stops p1 p2) has whole run given1 =
        let after2 = sound_sends p2 (stopped has) whole run (same_frame p1 tt) given1 in
        (after2.0, after2.1)
    sound_message (Message.sent_alone p1 p2) has whole run given1 =
        let after2 = sound_sends p2 given whole run (same_frame p1 tt) given1 in
        (after2.0, after2.1)

  mutual
    pub sound_refers : {w w2 : History} {r r2 : RunState} {pa : tree.Part} {oi : Result ℕ Stop} → Refers w r pa oi w2 r2
        → HasMemory oi → IsWhole begin w → RunTexts r → PartTexts pa → IsWhole begin w2 × RunTexts r2
    sound_refers Refers.refer_memory has _ _ _ = absurd (has refl)
    sound_refers (Refers.refer_stops p1 p2) has whole run given1 =
        sound_part_met p2 (stopped has) whole run (same_frame p1 tt) given1
    sound_refers (Refers.refers p1 p2 _) has whole run given1 =
        sound_part_met p2 given whole run (same_frame p1 tt) given1

    pub sound_tells : {w w2 : History} {r r2 : RunState} {i : ℕ} {mg : SystemMessage} {ot : Result (Unit {0}) Stop}
        → Tells w r i mg ot w2 r2 → HasMemory ot → IsWhole begin w → RunTexts r → IsWhole begin w2 × RunTexts r2
    sound_tells Tells.tell_memory has _ _ = absurd (has refl)
    sound_tells (Tells.tells_nothing _) has whole run = (whole, run)
    sound_tells (Tells.tells _ _ p3) has whole run = sound_message p3 has whole run tt

    pub sound_tells_all : {w w2 : History} {r r2 : RunState} {ms : List SystemMessage} {ot : Result (Unit {0}) Stop}
        → TellsAll w r ms ot w2 r2 → HasMemory ot → IsWhole begin w → RunTexts r → IsWhole begin w2 × RunTexts r2
    sound_tells_all TellsAll.tell_all_memory has _ _ = absurd (has refl)
    sound_tells_all (TellsAll.none_to_tell _) has whole run = (whole, run)
    sound_tells_all (TellsAll.tell_stops _ p2) has whole run = sound_tells p2 has whole run
    sound_tells_all (TellsAll.tells_on _ p2 p3) has whole run =
        let after2 = sound_tells p2 given whole run in
        sound_tells_all p3 has after2.0 after2.1

    pub sound_clicks : {w w2 : History} {r r2 : RunState} {pa : tree.Part} {ot : Result (Unit {0}) Stop}
        → Clicks w r pa ot w2 r2 → HasMemory ot → IsWhole begin w → RunTexts r → PartTexts pa
        → IsWhole begin w2 × RunTexts r2
    sound_clicks Clicks.click_memory has _ _ _ = absurd (has refl)
    sound_clicks (Clicks.click_misses p1) has whole run given1 = sound_refers p1 (stopped has) whole run given1
    sound_clicks (Clicks.press_stops p1 p2) has whole run given1 =
        let after1 = sound_refers p1 given whole run given1 in
        sound_tells p2 has after1.0 after1.1
    sound_clicks (Clicks.part_goes p1 p2 _) has whole run given1 =
        let after1 = sound_refers p1 given whole run given1 in
        sound_tells p2 given after1.0 after1.1
    sound_clicks (Clicks.clicks p1 p2 _ p4) has whole run given1 =
        let after1 = sound_refers p1 given whole run given1 in
        let after2 = sound_tells p2 given after1.0 after1.1 in
        sound_tells p4 has after2.0 after2.1

    pub sound_types_over : {w w2 : History} {r r2 : RunState} {m : Referent} {t : List ℕ} {ot : Result (Unit {0}) Stop}
        → TypesOver w r m t ot w2 r2 → HasMemory ot → IsWhole begin w → RunTexts r → IsText t
        → IsWhole begin w2 × RunTexts r2
    sound_types_over TypesOver.type_over_memory has _ _ _ = absurd (has refl)
    sound_types_over (TypesOver.typed_field_goes p1 _) has whole run given1 = (whole, run)
    sound_types_over (TypesOver.types_over {w = w} {m = m} p1 _ p3 p4 _ _ p7) has whole run given1 =
        let after4 = sound_stores (subst (λ o. IfOk o (λ p. StorageTexts p.storage)) p3 (field_place_texts w.now m))
        given1 p4 whole (same_frame p1 tt) in
        sound_tells p7 has after4.0 run

    pub sound_types_into : {w w2 : History} {r r2 : RunState} {t : List ℕ} {pa : tree.Part}
        {ot : Result (Unit {0}) Stop} → TypesInto w r t pa ot w2 r2 → HasMemory ot → IsWhole begin w → RunTexts r
        → IsText t → PartTexts pa → IsWhole begin w2 × RunTexts r2
    sound_types_into TypesInto.type_memory has _ _ _ _ = absurd (has refl)
    sound_types_into (TypesInto.type_misses p1) has whole run given1 given2 =
        sound_refers p1 (stopped has) whole run given2
    sound_types_into (TypesInto.field_open_stops p1 _ p3) has whole run given1 given2 =
        let after1 = sound_refers p1 given whole run given2 in
        sound_tells p3 has after1.0 after1.1
    sound_types_into (TypesInto.types_into p1 _ p3 _ p5) has whole run given1 given2 =
        let after1 = sound_refers p1 given whole run given2 in
        let after3 = sound_tells p3 given after1.0 after1.1 in
        sound_types_over p5 has after3.0 after3.1 given1

    pub sound_acts : {w w2 : History} {r r2 : RunState} {ac : Action} {ot : Result (Unit {0}) Stop}
        → Acts w r ac ot w2 r2 → HasMemory ot → IsWhole begin w → RunTexts r → ActionTexts ac
        → IsWhole begin w2 × RunTexts r2
    sound_acts (Acts.acts_by_lines p1 p2) has whole run given1 =
        sound_line p2 has whole run (subst ActionTexts p1 given1)
    sound_acts (Acts.acts_by_opening p1 p2) has whole run given1 = sound_tells_all p2 has whole run
    sound_acts (Acts.acts_by_click p1 p2) has whole run given1 =
        sound_clicks p2 has whole run (subst ActionTexts p1 given1)
    sound_acts (Acts.acts_by_typing p1 p2) has whole run given1 =
        sound_types_into p2 has whole run (subst ActionTexts p1 given1).0 (subst ActionTexts p1 given1).1
