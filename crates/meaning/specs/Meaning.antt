-- Written by tools/meaning/gen.py from tools/meaning/meaning.rules and meaning.head.
-- What HyperTalk means: a rule for each form of the language and each way in which it ends.
--
-- A rule reads: where the premises hold, so does the conclusion, which stands last. Premises stand in the order of
-- time.
-- `w` is the history, whose present state the rules read, `r` the run, `f` the frame; those after a part follow before
-- the next. `d` counts the calls that are nested. A part that stops hands on why, with what was done up to there. Where
-- a growth of memory was refused nothing is said of what is left: the command is given up as a whole.
use Rattle.std.specs.Prelude.{◌≡◌, ◌≢◌, ℕ, ◌+◌, ◌≤◌, ◌<◌, ℤ, pos, List, [], ◌∷◌, ◌++◌, length, nat_eq, Bool, true}
use Rattle.std.specs.Prelude.{false, not, Option, Some, None, is_some, Result, Ok, Err}
use Rattle.ht_values.specs.declared.fault.Fault.{Fault}
use Rattle.ht_values.specs.declared.fault.Fault.TheVariants.{CantUnderstand, NoSuchObject, TooDeep, ExternalFault}
use Rattle.ht_values.specs.declared.fault.Fault.TheVariants.{CantDelete, BadArgument}
use Rattle.ht_values.specs.declared.operator.Func.{Func}
use Rattle.ht_values.specs.declared.operator.Op.{Op}
use Rattle.ht_values.specs.declared.operator.Op.TheVariants.{Add, Subtract, Multiply, Divide}
use Rattle.ht_values.specs.declared.operator.UnOp.{UnOp}
use Rattle.ht_values.specs.declared.word.ChunkKind.{ChunkKind}
use Rattle.ht_values.specs.declared.word.PartKind.{PartKind}
use Rattle.ht_values.specs.declared.word.Prop.{Prop}
use Rattle.ht_values.specs.declared.word.Prop.TheVariants.{Number}
use Rattle.ht_values.specs.declared.word.Where.{Where}
use Rattle.ht_values.specs.Functions.{built_in}
use Rattle.ht_values.specs.Number.{number_of}
use Rattle.ht_values.specs.Operators.{binary, unary, truth_of, word_of}
use Rattle.ht_values.specs.Text.{numeral}
use Rattle.ht_lex.specs.declared.key.Constant.{Constant}
use Rattle.ht_lex.specs.declared.key.Ordinal.{Ordinal}
use Rattle.ht_lex.specs.Constants.{constant_text}
use Rattle.ht_lex.specs.Words.{is_name}
use Rattle.ht_grammar.specs.declared.vocabulary.FunctionWord.{FunctionWord}
use Rattle.ht_grammar.specs.declared.vocabulary.HandlerKind.{HandlerKind}
use Rattle.ht_grammar.specs.declared.vocabulary.HandlerKind.TheVariants.{Command, Function}
use Rattle.ht_grammar.specs.declared.vocabulary.Layer.{Layer}
use Rattle.ht_grammar.specs.declared.vocabulary.RunProp.{RunProp}
use Rattle.ht_grammar.specs.Functions.{func_of}
use Rattle.ht_grammar.specs.Reads.{ReadsExpr, ReadsLines, ReadsMessage}
use Rattle.ht_grammar.specs.Statements as stm
use Rattle.ht_grammar.specs.Trees as tree
use Rattle.chunks.specs.declared.chunk.Chunk.{Chunk}
use Rattle.chunks.specs.Pieces.{count, read}
use Rattle.object_table.specs.declared.object.LayerId.{LayerId}
use Rattle.object_table.specs.Objects.{object_at, has_kind, is_card}
use Rattle.properties.specs.PropertyText.{property_of}
use Rattle.externals.specs.declared.external.Ask.{Ask}
use Rattle.externals.specs.declared.external.Ask.TheVariants.{SendCardMessage, EvalExpr, SetGlobal, SetFieldByName}
use Rattle.externals.specs.declared.external.Ask.TheVariants.{Done, Fail}
use Rattle.externals.specs.declared.external.Input.{Input}
use Rattle.externals.specs.declared.external.Input.TheVariants.{Start, Answer}
use Rattle.journal_entries.specs.declared.change.Change.TheVariants.{Current, NewCard, NewBackground, NewPart}
use Rattle.journal_entries.specs.declared.change.Change.TheVariants.{DeleteCard}
use Rattle.change_journal.specs.History.{History}
use Rattle.change_journal.specs.Rising.{Made, TookTurn}
use Rattle.object_references.specs.declared.referent.PartScope.{PartScope}
use Rattle.object_references.specs.declared.referent.Pick.{Pick}
use Rattle.object_references.specs.declared.referent.Pick.TheVariants as pick
use Rattle.object_references.specs.declared.referent.Referent.{Referent}
use Rattle.object_references.specs.declared.referent.Sought.{Sought}
use Rattle.object_references.specs.declared.referent.Sought.TheVariants as sought
use Rattle.object_references.specs.References.{card_found, first_card_found, met_here, met_if_there, card_met}
use Rattle.object_references.specs.References.{background_met, layer_meant, scope_by, scope_of_card}
use Rattle.object_references.specs.References.{scope_of_background, part_met}
use Rattle.object_references.specs.Deletion.{may_delete}
use Rattle.object_references.specs.Settings.{name_of, parts_here}
use Rattle.containers.specs.declared.edit.Edit.TheVariants.{Put, Alter, Delete}
use Rattle.containers.specs.Places.{PlaceView, named, read_name}
use Rattle.msg_path.specs.BuiltIns.{calls_function, external_named, built_in_named}
use Rattle.msg_path.specs.declared.built_in.BuiltIn.TheVariants.{DoMenu, Value, Function as BuiltInFunction}
use Rattle.msg_path.specs.Handlers.{HandlerFound}
use Rattle.msg_path.specs.Path.{path, path_after}
use Rattle.meaning.specs.declared.end.Conversed.{Conversed}
use Rattle.meaning.specs.declared.frame.Frame.{Frame}
use Rattle.meaning.specs.declared.end.How.{How}
use Rattle.meaning.specs.declared.end.How.TheVariants.{Next, ExitRepeat, NextRepeat, Exit, Pass, Returns}
use Rattle.meaning.specs.declared.end.Stop.{Stop}
use Rattle.meaning.specs.declared.end.Stop.TheVariants.{Fault as Faults, Exited, Memory}
use Rattle.meaning.specs.declared.system.SystemMessage.{SystemMessage}
use Rattle.meaning.specs.declared.system.SystemMessage.TheVariants.{MouseDown, MouseUp, OpenField}
use Rattle.meaning.specs.declared.item.Item.{Item}
use Rattle.meaning.specs.declared.item.Item.TheVariants.{NewCard as NewCardItem, NewBackground as NewBackgroundItem}
use Rattle.meaning.specs.declared.item.Item.TheVariants.{NewPart as NewPartItem, DeleteCard as DeleteCardItem}
use Rattle.meaning.specs.Actions as act
use Rattle.meaning.specs.Actions.{Action, opening_stack, locks_text, leaving_message}
use Rattle.meaning.specs.Values.{Yields, Parses}
use Rattle.meaning.specs.State.{RunState, Step, shows, noted, run_property, run_property_set, typed_frame}
use Rattle.meaning.specs.State.{handler_frame}
use Rattle.meaning.specs.Places.{pieces_at, nth_piece, variable_place, field_place, field_text, field_named_place}
use Rattle.meaning.specs.Places.{it_name, chunk_of_place, Edits, Stores, Assigns, DeclaresAll, Sets, Adds}
use Rattle.meaning.specs.Repeats.{leaves_repeat, goes_on, CounterState, counter_of, is_over, stepped, turns, returned}
use Rattle.meaning.specs.Repeats.{ends}
use Rattle.meaning.specs.Menu.{item_named, new_layer, closing, opening, differ, new_card_messages}
use Rattle.meaning.specs.Menu.{new_background_messages, message_name}
use Rattle.meaning.specs.Messages.{Finds, parameters_of, lines_of, is_ignored, only}

mutual
  -- ---- expressions

  -- The value of an expression, in a frame, so many calls deep.
  pub data Val : History → RunState → Frame → ℕ → tree.Expr → Result (List ℕ) Stop → History → RunState → Type 0 where
    memory : {w w1 : History} {r r1 : RunState} {f : Frame} {d : ℕ} {e : tree.Expr} →
        Val w r f d e (Err Memory) w1 r1
    number : {e : tree.Expr} {v : List ℕ} {w : History} {r : RunState} {f : Frame} {d : ℕ} →
        e ≡ tree.number v →
        Val w r f d e (Ok v) w r
    quoted : {e : tree.Expr} {v : List ℕ} {w : History} {r : RunState} {f : Frame} {d : ℕ} →
        e ≡ tree.quoted v →
        Val w r f d e (Ok v) w r
    constant : {e : tree.Expr} {cn : Constant} {v : List ℕ} {w : History} {r : RunState} {f : Frame} {d : ℕ} →
        e ≡ tree.constant cn →
        v ≡ constant_text cn →
        Val w r f d e (Ok v) w r
    return_sign : {e : tree.Expr} {v : List ℕ} {w : History} {r : RunState} {f : Frame} {d : ℕ} →
        e ≡ tree.return_ →
        v ≡ 13 ∷ [] →
        Val w r f d e (Ok v) w r
    name : {e : tree.Expr} {n v : List ℕ} {w : History} {f : Frame} {r : RunState} {d : ℕ} →
        e ≡ tree.name n →
        v ≡ read_name w.now f.variables n →
        Val w r f d e (Ok v) w r
    paren : {e x : tree.Expr} {w w1 : History} {r r1 : RunState} {f : Frame} {d : ℕ} {o : Result (List ℕ) Stop} →
        e ≡ tree.paren x →
        Val w r f d x o w1 r1 →
        Val w r f d e o w1 r1
    operand_stops : {e x : tree.Expr} {un : UnOp} {w w1 : History} {r r1 : RunState} {f : Frame} {d : ℕ} {z : Stop} →
        e ≡ tree.unary un x →
        Val w r f d x (Err z) w1 r1 →
        Val w r f d e (Err z) w1 r1
    one_operand : {e x : tree.Expr} {un : UnOp} {w w1 : History} {r r1 : RunState} {f : Frame} {d : ℕ} {p : List ℕ}
        {o : Result (List ℕ) Stop} →
        e ≡ tree.unary un x →
        Val w r f d x (Ok p) w1 r1 →
        Yields (unary un p) o →
        Val w r f d e o w1 r1
    left_stops : {e x y : tree.Expr} {op : Op} {w w1 : History} {r r1 : RunState} {f : Frame} {d : ℕ} {z : Stop} →
        e ≡ tree.binary op x y →
        Val w r f d x (Err z) w1 r1 →
        Val w r f d e (Err z) w1 r1
    right_stops : {e x y : tree.Expr} {op : Op} {w w1 w2 : History} {r r1 r2 : RunState} {f : Frame} {d : ℕ}
        {p : List ℕ} {z : Stop} →
        e ≡ tree.binary op x y →
        Val w r f d x (Ok p) w1 r1 →
        Val w1 r1 f d y (Err z) w2 r2 →
        Val w r f d e (Err z) w2 r2
    two_operands : {e x y : tree.Expr} {op : Op} {w w1 w2 : History} {r r1 r2 : RunState} {f : Frame} {d : ℕ}
        {p q : List ℕ} {o : Result (List ℕ) Stop} →
        e ≡ tree.binary op x y →
        Val w r f d x (Ok p) w1 r1 →
        Val w1 r1 f d y (Ok q) w2 r2 →
        Yields (binary op p q) o →
        Val w r f d e o w2 r2
    there_is : {e : tree.Expr} {b : Bool} {rf : tree.Ref} {w w1 : History} {r r1 : RunState} {f : Frame} {d : ℕ}
        {m : Referent} {v : List ℕ} →
        e ≡ tree.there_is b rf →
        Meets w r f d rf (Ok m) w1 r1 →
        v ≡ word_of (not b) →
        Val w r f d e (Ok v) w1 r1
    there_is_none : {e : tree.Expr} {b : Bool} {rf : tree.Ref} {w w1 : History} {r r1 : RunState} {f : Frame} {d : ℕ}
        {v : List ℕ} →
        e ≡ tree.there_is b rf →
        Meets w r f d rf (Err (Faults NoSuchObject)) w1 r1 →
        v ≡ word_of b →
        Val w r f d e (Ok v) w1 r1
    there_stops : {e : tree.Expr} {b : Bool} {rf : tree.Ref} {w w1 : History} {r r1 : RunState} {f : Frame} {d : ℕ}
        {z : Stop} →
        e ≡ tree.there_is b rf →
        Meets w r f d rf (Err z) w1 r1 →
        z ≢ Faults NoSuchObject →
        Val w r f d e (Err z) w1 r1
    chunk_stops : {e x : tree.Expr} {hd : tree.Chunk} {w w1 : History} {r r1 : RunState} {f : Frame} {d : ℕ} {z : Stop}
        →
        e ≡ tree.chunk hd x →
        ChunkOf w r f d hd (Err z) w1 r1 →
        Val w r f d e (Err z) w1 r1
    chunk_of_stops : {e x : tree.Expr} {hd : tree.Chunk} {w w1 w2 : History} {r r1 r2 : RunState} {f : Frame} {d : ℕ}
        {c : Chunk} {z : Stop} →
        e ≡ tree.chunk hd x →
        ChunkOf w r f d hd (Ok c) w1 r1 →
        Val w1 r1 f d x (Err z) w2 r2 →
        Val w r f d e (Err z) w2 r2
    chunk : {e x : tree.Expr} {hd : tree.Chunk} {w w1 w2 : History} {r r1 r2 : RunState} {f : Frame} {d : ℕ} {c : Chunk}
        {p v : List ℕ} →
        e ≡ tree.chunk hd x →
        ChunkOf w r f d hd (Ok c) w1 r1 →
        Val w1 r1 f d x (Ok p) w2 r2 →
        v ≡ read r2.delimiter c p →
        Val w r f d e (Ok v) w2 r2
    field_stops : {e : tree.Expr} {pa : tree.Part} {w w1 : History} {r r1 : RunState} {f : Frame} {d : ℕ} {z : Stop} →
        e ≡ tree.field pa →
        PartMet w r f d pa (Err z) w1 r1 →
        Val w r f d e (Err z) w1 r1
    field : {e : tree.Expr} {pa : tree.Part} {w w1 : History} {r r1 : RunState} {f : Frame} {d : ℕ} {m : Referent}
        {o : Result (List ℕ) Stop} →
        e ≡ tree.field pa →
        PartMet w r f d pa (Ok m) w1 r1 →
        Yields (field_text w1.now f.variables r1.delimiter m) o →
        Val w r f d e o w1 r1
    the_result : {e : tree.Expr} {v : List ℕ} {r : RunState} {w : History} {f : Frame} {d : ℕ} →
        e ≡ tree.result →
        v ≡ r.result →
        Val w r f d e (Ok v) w r
    the_target : {e : tree.Expr} {w : History} {f : Frame} {o : Result (List ℕ) Stop} {r : RunState} {d : ℕ} →
        e ≡ tree.target →
        Yields (name_of w.now.stack w.now.current f.target) o →
        Val w r f d e o w r
    pieces_stop : {e x : tree.Expr} {kd : ChunkKind} {w w1 : History} {r r1 : RunState} {f : Frame} {d : ℕ} {z : Stop} →
        e ≡ tree.number_of (tree.pieces_of kd x) →
        Val w r f d x (Err z) w1 r1 →
        Val w r f d e (Err z) w1 r1
    pieces : {e x : tree.Expr} {kd : ChunkKind} {w w1 : History} {r r1 : RunState} {f : Frame} {d : ℕ} {p v : List ℕ} →
        e ≡ tree.number_of (tree.pieces_of kd x) →
        Val w r f d x (Ok p) w1 r1 →
        v ≡ numeral (pos (count r1.delimiter kd p)) →
        Val w r f d e (Ok v) w1 r1
    cards : {e : tree.Expr} {v : List ℕ} {w : History} {r : RunState} {f : Frame} {d : ℕ} →
        e ≡ tree.number_of tree.cards →
        v ≡ numeral (pos (length w.now.stack.cards)) →
        Val w r f d e (Ok v) w r
    backgrounds : {e : tree.Expr} {v : List ℕ} {w : History} {r : RunState} {f : Frame} {d : ℕ} →
        e ≡ tree.number_of tree.backgrounds →
        v ≡ numeral (pos (length w.now.stack.backgrounds)) →
        Val w r f d e (Ok v) w r
    parts : {e : tree.Expr} {oly : Option Layer} {pk : PartKind} {v : List ℕ} {w : History} {r : RunState} {f : Frame}
        {d : ℕ} →
        e ≡ tree.number_of (tree.parts oly pk) →
        v ≡ numeral (pos (length (parts_here w.now.stack w.now.current oly pk))) →
        Val w r f d e (Ok v) w r
    number_stops : {e : tree.Expr} {rf : tree.Ref} {w w1 : History} {r r1 : RunState} {f : Frame} {d : ℕ} {z : Stop} →
        e ≡ tree.number_of (tree.of_object rf) →
        Meets w r f d rf (Err z) w1 r1 →
        Val w r f d e (Err z) w1 r1
    number_of_object : {e : tree.Expr} {rf : tree.Ref} {w w1 : History} {r r1 : RunState} {f : Frame} {d : ℕ}
        {m : Referent} {o : Result (List ℕ) Stop} →
        e ≡ tree.number_of (tree.of_object rf) →
        Meets w r f d rf (Ok m) w1 r1 →
        Yields (property_of w1.now.stack m.card m.object Number) o →
        Val w r f d e o w1 r1
    property_stops : {e : tree.Expr} {pr : Prop} {rf : tree.Ref} {w w1 : History} {r r1 : RunState} {f : Frame} {d : ℕ}
        {z : Stop} →
        e ≡ tree.property pr rf →
        Meets w r f d rf (Err z) w1 r1 →
        Val w r f d e (Err z) w1 r1
    property : {e : tree.Expr} {pr : Prop} {rf : tree.Ref} {w w1 : History} {r r1 : RunState} {f : Frame} {d : ℕ}
        {m : Referent} {o : Result (List ℕ) Stop} →
        e ≡ tree.property pr rf →
        Meets w r f d rf (Ok m) w1 r1 →
        Yields (property_of w1.now.stack m.card m.object pr) o →
        Val w r f d e o w1 r1
    run_property_read : {e : tree.Expr} {rp : RunProp} {v : List ℕ} {r : RunState} {w : History} {f : Frame} {d : ℕ} →
        e ≡ tree.run_property rp →
        v ≡ run_property r rp →
        Val w r f d e (Ok v) w r
    the_stops : {e x : tree.Expr} {fw : FunctionWord} {w w1 : History} {r r1 : RunState} {f : Frame} {d : ℕ} {z : Stop}
        →
        e ≡ tree.function fw x →
        Val w r f d x (Err z) w1 r1 →
        Val w r f d e (Err z) w1 r1
    the_function : {e x : tree.Expr} {fw : FunctionWord} {w w1 : History} {r r1 : RunState} {f : Frame} {d : ℕ}
        {p : List ℕ} {fu : Func} {o : Result (List ℕ) Stop} →
        e ≡ tree.function fw x →
        Val w r f d x (Ok p) w1 r1 →
        func_of fw ≡ Some fu →
        Yields (built_in fu (p ∷ [])) o →
        Val w r f d e o w1 r1
    the_value : {e x : tree.Expr} {fw : FunctionWord} {w w1 w2 : History} {r r1 r2 : RunState} {f : Frame} {d : ℕ}
        {p : List ℕ} {o : Result (List ℕ) Stop} →
        e ≡ tree.function fw x →
        Val w r f d x (Ok p) w1 r1 →
        func_of fw ≡ None →
        TextVal w1 r1 f d p o w2 r2 →
        Val w r f d e o w2 r2
    call : {e : tree.Expr} {n : List ℕ} {es : tree.Exprs} {i d : ℕ} {f : Frame} {w w1 : History} {r r1 : RunState}
        {o : Result (List ℕ) Stop} →
        e ≡ tree.call n es →
        i ≡ f.me →
        Calls w r f d i n es Function o w1 r1 →
        Val w r f d e o w1 r1

  -- The values of expressions from left to right, after those that are computed.
  pub data Vals : History → RunState → Frame → ℕ → tree.Exprs → List (List ℕ) → Result (List (List ℕ)) Stop → History
      → RunState → Type 0 where
    vals_memory : {w w1 : History} {r r1 : RunState} {f : Frame} {d : ℕ} {es : tree.Exprs} {vs : List (List ℕ)} →
        Vals w r f d es vs (Err Memory) w1 r1
    vals_done : {es : tree.Exprs} {w : History} {r : RunState} {f : Frame} {d : ℕ} {vs : List (List ℕ)} →
        es ≡ tree.none →
        Vals w r f d es vs (Ok vs) w r
    vals_stop : {es es1 : tree.Exprs} {e : tree.Expr} {w w1 : History} {r r1 : RunState} {f : Frame} {d : ℕ} {z : Stop}
        {vs : List (List ℕ)} →
        es ≡ tree.more e es1 →
        Val w r f d e (Err z) w1 r1 →
        Vals w r f d es vs (Err z) w1 r1
    vals_more : {es es1 : tree.Exprs} {e : tree.Expr} {w w1 w2 : History} {r r1 r2 : RunState} {f : Frame} {d : ℕ}
        {v : List ℕ} {vs : List (List ℕ)} {os : Result (List (List ℕ)) Stop} →
        es ≡ tree.more e es1 →
        Val w r f d e (Ok v) w1 r1 →
        Vals w1 r1 f d es1 (vs ++ v ∷ []) os w2 r2 →
        Vals w r f d es vs os w2 r2

  -- An expression is computed, and then converted to a number.
  pub data NumberVal : History → RunState → Frame → ℕ → tree.Expr → Result ℤ Stop → History → RunState → Type 0 where
    number_memory : {w w1 : History} {r r1 : RunState} {f : Frame} {d : ℕ} {e : tree.Expr} →
        NumberVal w r f d e (Err Memory) w1 r1
    no_number : {w w1 : History} {r r1 : RunState} {f : Frame} {d : ℕ} {e : tree.Expr} {z : Stop} →
        Val w r f d e (Err z) w1 r1 →
        NumberVal w r f d e (Err z) w1 r1
    a_number : {w w1 : History} {r r1 : RunState} {f : Frame} {d : ℕ} {e : tree.Expr} {p : List ℕ} {ou : Result ℤ Stop}
        →
        Val w r f d e (Ok p) w1 r1 →
        Yields (number_of p) ou →
        NumberVal w r f d e ou w1 r1

  -- A condition is computed, and then converted.
  pub data TruthVal : History → RunState → Frame → ℕ → tree.Expr → Result Bool Stop → History → RunState → Type 0 where
    truth_memory : {w w1 : History} {r r1 : RunState} {f : Frame} {d : ℕ} {e : tree.Expr} →
        TruthVal w r f d e (Err Memory) w1 r1
    no_truth : {w w1 : History} {r r1 : RunState} {f : Frame} {d : ℕ} {e : tree.Expr} {z : Stop} →
        Val w r f d e (Err z) w1 r1 →
        TruthVal w r f d e (Err z) w1 r1
    a_truth : {w w1 : History} {r r1 : RunState} {f : Frame} {d : ℕ} {e : tree.Expr} {p : List ℕ}
        {ob : Result Bool Stop} →
        Val w r f d e (Ok p) w1 r1 →
        Yields (truth_of p) ob →
        TruthVal w r f d e ob w1 r1

  -- `value` of a text: a step, then the depth, then the text is computed as an expression.
  pub data TextVal : History → RunState → Frame → ℕ → List ℕ → Result (List ℕ) Stop → History → RunState → Type 0 where
    value_memory : {w w1 : History} {r r1 : RunState} {f : Frame} {d : ℕ} {t : List ℕ} →
        TextVal w r f d t (Err Memory) w1 r1
    value_no_step : {r r1 : RunState} {z : Stop} {w : History} {f : Frame} {d : ℕ} {t : List ℕ} →
        Step r (Err z) r1 →
        TextVal w r f d t (Err z) w r1
    value_too_deep : {r r1 : RunState} {d : ℕ} {w : History} {f : Frame} {t : List ℕ} →
        Step r (Ok tt) r1 →
        d ≡ 100 →
        TextVal w r f d t (Err (Faults TooDeep)) w r1
    value_syntax : {r r1 : RunState} {d : ℕ} {t : List ℕ} {z : Stop} {w : History} {f : Frame} →
        Step r (Ok tt) r1 →
        d < 100 →
        Parses ReadsExpr t (Err z) →
        TextVal w r f d t (Err z) w r1
    value : {r r1 r2 : RunState} {d : ℕ} {t : List ℕ} {e : tree.Expr} {w w1 : History} {f : Frame}
        {o : Result (List ℕ) Stop} →
        Step r (Ok tt) r1 →
        d < 100 →
        Parses ReadsExpr t (Ok e) →
        Val w r1 f (d + 1) e o w1 r2 →
        TextVal w r f d t o w1 r2

  -- ---- chunks and containers

  -- Which pieces are meant: each index is converted as soon as it is computed.
  pub data ChunkOf : History → RunState → Frame → ℕ → tree.Chunk → Result Chunk Stop → History → RunState → Type 0 where
    chunk_memory : {w w1 : History} {r r1 : RunState} {f : Frame} {d : ℕ} {hd : tree.Chunk} →
        ChunkOf w r f d hd (Err Memory) w1 r1
    one_stops : {hd : tree.Chunk} {kd : ChunkKind} {x : tree.Expr} {w w1 : History} {r r1 : RunState} {f : Frame}
        {d : ℕ} {z : Stop} →
        hd ≡ tree.piece kd x →
        NumberVal w r f d x (Err z) w1 r1 →
        ChunkOf w r f d hd (Err z) w1 r1
    one : {hd : tree.Chunk} {kd : ChunkKind} {x : tree.Expr} {w w1 : History} {r r1 : RunState} {f : Frame} {d : ℕ}
        {u : ℤ} {c : Chunk} →
        hd ≡ tree.piece kd x →
        NumberVal w r f d x (Ok u) w1 r1 →
        c ≡ pieces_at kd u u →
        ChunkOf w r f d hd (Ok c) w1 r1
    from_stops : {hd : tree.Chunk} {kd : ChunkKind} {x y : tree.Expr} {w w1 : History} {r r1 : RunState} {f : Frame}
        {d : ℕ} {z : Stop} →
        hd ≡ tree.pieces kd x y →
        NumberVal w r f d x (Err z) w1 r1 →
        ChunkOf w r f d hd (Err z) w1 r1
    to_stops : {hd : tree.Chunk} {kd : ChunkKind} {x y : tree.Expr} {w w1 w2 : History} {r r1 r2 : RunState} {f : Frame}
        {d : ℕ} {u : ℤ} {z : Stop} →
        hd ≡ tree.pieces kd x y →
        NumberVal w r f d x (Ok u) w1 r1 →
        NumberVal w1 r1 f d y (Err z) w2 r2 →
        ChunkOf w r f d hd (Err z) w2 r2
    range : {hd : tree.Chunk} {kd : ChunkKind} {x y : tree.Expr} {w w1 w2 : History} {r r1 r2 : RunState} {f : Frame}
        {d : ℕ} {u u1 : ℤ} {c : Chunk} →
        hd ≡ tree.pieces kd x y →
        NumberVal w r f d x (Ok u) w1 r1 →
        NumberVal w1 r1 f d y (Ok u1) w2 r2 →
        c ≡ pieces_at kd u u1 →
        ChunkOf w r f d hd (Ok c) w2 r2
    ordinal : {hd : tree.Chunk} {od : Ordinal} {kd : ChunkKind} {c : Chunk} {w : History} {r : RunState} {f : Frame}
        {d : ℕ} →
        hd ≡ tree.nth_piece od kd →
        c ≡ nth_piece od kd →
        ChunkOf w r f d hd (Ok c) w r

  -- The place of a container: chunks are computed as they are written, the last one is nearest to the variable or
  -- field.
  pub data Resolves : History → RunState → Frame → ℕ → tree.Container → Result PlaceView Stop → History → RunState
      → Type 0 where
    place_memory : {w w1 : History} {r r1 : RunState} {f : Frame} {d : ℕ} {ct : tree.Container} →
        Resolves w r f d ct (Err Memory) w1 r1
    place_variable : {ct : tree.Container} {n : List ℕ} {pl : PlaceView} {f : Frame} {w : History} {r : RunState}
        {d : ℕ} →
        ct ≡ tree.variable n →
        pl ≡ variable_place f.variables n →
        Resolves w r f d ct (Ok pl) w r
    place_field_stops : {ct : tree.Container} {pa : tree.Part} {w w1 : History} {r r1 : RunState} {f : Frame} {d : ℕ}
        {z : Stop} →
        ct ≡ tree.in_field pa →
        PartMet w r f d pa (Err z) w1 r1 →
        Resolves w r f d ct (Err z) w1 r1
    place_field : {ct : tree.Container} {pa : tree.Part} {w w1 : History} {r r1 : RunState} {f : Frame} {d : ℕ}
        {m : Referent} {opl : Result PlaceView Stop} →
        ct ≡ tree.in_field pa →
        PartMet w r f d pa (Ok m) w1 r1 →
        Yields (field_place w1.now m) opl →
        Resolves w r f d ct opl w1 r1
    place_chunk_stops : {ct ct1 : tree.Container} {hd : tree.Chunk} {w w1 : History} {r r1 : RunState} {f : Frame}
        {d : ℕ} {z : Stop} →
        ct ≡ tree.in_chunk hd ct1 →
        ChunkOf w r f d hd (Err z) w1 r1 →
        Resolves w r f d ct (Err z) w1 r1
    place_chunk_of_stops : {ct ct1 : tree.Container} {hd : tree.Chunk} {w w1 w2 : History} {r r1 r2 : RunState}
        {f : Frame} {d : ℕ} {c : Chunk} {z : Stop} →
        ct ≡ tree.in_chunk hd ct1 →
        ChunkOf w r f d hd (Ok c) w1 r1 →
        Resolves w1 r1 f d ct1 (Err z) w2 r2 →
        Resolves w r f d ct (Err z) w2 r2
    place_chunk : {ct ct1 : tree.Container} {hd : tree.Chunk} {w w1 w2 : History} {r r1 r2 : RunState} {f : Frame}
        {d : ℕ} {c : Chunk} {pl pl1 : PlaceView} →
        ct ≡ tree.in_chunk hd ct1 →
        ChunkOf w r f d hd (Ok c) w1 r1 →
        Resolves w1 r1 f d ct1 (Ok pl) w2 r2 →
        pl1 ≡ chunk_of_place pl c →
        Resolves w r f d ct (Ok pl1) w2 r2

  -- ---- references

  -- Which of several is meant: by an id, or by a number or name.
  pub data Picks : History → RunState → Frame → ℕ → tree.Which → Result Pick Stop → History → RunState → Type 0 where
    pick_memory : {w w1 : History} {r r1 : RunState} {f : Frame} {d : ℕ} {wh : tree.Which} →
        Picks w r f d wh (Err Memory) w1 r1
    pick_id_stops : {wh : tree.Which} {x : tree.Expr} {w w1 : History} {r r1 : RunState} {f : Frame} {d : ℕ} {z : Stop}
        →
        wh ≡ tree.by_id x →
        Val w r f d x (Err z) w1 r1 →
        Picks w r f d wh (Err z) w1 r1
    pick_id : {wh : tree.Which} {x : tree.Expr} {w w1 : History} {r r1 : RunState} {f : Frame} {d : ℕ} {t : List ℕ}
        {pi : Pick} →
        wh ≡ tree.by_id x →
        Val w r f d x (Ok t) w1 r1 →
        pi ≡ pick.ById t →
        Picks w r f d wh (Ok pi) w1 r1
    pick_text_stops : {wh : tree.Which} {x : tree.Expr} {w w1 : History} {r r1 : RunState} {f : Frame} {d : ℕ}
        {z : Stop} →
        wh ≡ tree.by_text x →
        Val w r f d x (Err z) w1 r1 →
        Picks w r f d wh (Err z) w1 r1
    pick_text : {wh : tree.Which} {x : tree.Expr} {w w1 : History} {r r1 : RunState} {f : Frame} {d : ℕ} {t : List ℕ}
        {pi : Pick} →
        wh ≡ tree.by_text x →
        Val w r f d x (Ok t) w1 r1 →
        pi ≡ pick.ByText t →
        Picks w r f d wh (Ok pi) w1 r1

  -- What a reference to a card or a background looks for.
  pub data Seeks : History → RunState → Frame → ℕ → tree.Selector → Result Sought Stop → History → RunState
      → Type 0 where
    seek_memory : {w w1 : History} {r r1 : RunState} {f : Frame} {d : ℕ} {sl : tree.Selector} →
        Seeks w r f d sl (Err Memory) w1 r1
    seek_this : {sl : tree.Selector} {sk : Sought} {w : History} {r : RunState} {f : Frame} {d : ℕ} →
        sl ≡ tree.this →
        sk ≡ sought.This →
        Seeks w r f d sl (Ok sk) w r
    seek_next : {sl : tree.Selector} {sk : Sought} {w : History} {r : RunState} {f : Frame} {d : ℕ} →
        sl ≡ tree.next →
        sk ≡ sought.Next →
        Seeks w r f d sl (Ok sk) w r
    seek_previous : {sl : tree.Selector} {sk : Sought} {w : History} {r : RunState} {f : Frame} {d : ℕ} →
        sl ≡ tree.previous →
        sk ≡ sought.Previous →
        Seeks w r f d sl (Ok sk) w r
    seek_nth : {sl : tree.Selector} {od : Ordinal} {sk : Sought} {w : History} {r : RunState} {f : Frame} {d : ℕ} →
        sl ≡ tree.nth od →
        sk ≡ sought.Picked (pick.Nth od) →
        Seeks w r f d sl (Ok sk) w r
    seek_stops : {sl : tree.Selector} {wh : tree.Which} {w w1 : History} {r r1 : RunState} {f : Frame} {d : ℕ}
        {z : Stop} →
        sl ≡ tree.which wh →
        Picks w r f d wh (Err z) w1 r1 →
        Seeks w r f d sl (Err z) w1 r1
    seek_which : {sl : tree.Selector} {wh : tree.Which} {w w1 : History} {r r1 : RunState} {f : Frame} {d : ℕ}
        {pi : Pick} {sk : Sought} →
        sl ≡ tree.which wh →
        Picks w r f d wh (Ok pi) w1 r1 →
        sk ≡ sought.Picked pi →
        Seeks w r f d sl (Ok sk) w1 r1

  -- Where a part is looked for: on a layer of the owner, or of the current card.
  pub data Owns : History → RunState → Frame → ℕ → Layer → tree.Owner → Result PartScope Stop → History → RunState
      → Type 0 where
    own_memory : {w w1 : History} {r r1 : RunState} {f : Frame} {d : ℕ} {ly : Layer} {ow : tree.Owner} →
        Owns w r f d ly ow (Err Memory) w1 r1
    no_owner : {ow : tree.Owner} {sc : PartScope} {w : History} {ly : Layer} {r : RunState} {f : Frame} {d : ℕ} →
        ow ≡ tree.no_owner →
        sc ≡ scope_by w.now.stack ly w.now.current →
        Owns w r f d ly ow (Ok sc) w r
    owner_card_stops : {ow : tree.Owner} {sl : tree.Selector} {w w1 : History} {r r1 : RunState} {f : Frame} {d : ℕ}
        {z : Stop} {ly : Layer} →
        ow ≡ tree.on_card sl →
        Seeks w r f d sl (Err z) w1 r1 →
        Owns w r f d ly ow (Err z) w1 r1
    owner_card : {ow : tree.Owner} {sl : tree.Selector} {w w1 : History} {r r1 : RunState} {f : Frame} {d : ℕ}
        {sk : Sought} {ly : Layer} {osc : Result PartScope Stop} →
        ow ≡ tree.on_card sl →
        Seeks w r f d sl (Ok sk) w1 r1 →
        Yields (scope_of_card w1.now.stack w1.now.current ly sk) osc →
        Owns w r f d ly ow osc w1 r1
    owner_background_stops : {ow : tree.Owner} {sl : tree.Selector} {w w1 : History} {r r1 : RunState} {f : Frame}
        {d : ℕ} {z : Stop} {ly : Layer} →
        ow ≡ tree.on_background sl →
        Seeks w r f d sl (Err z) w1 r1 →
        Owns w r f d ly ow (Err z) w1 r1
    owner_background : {ow : tree.Owner} {sl : tree.Selector} {w w1 : History} {r r1 : RunState} {f : Frame} {d : ℕ}
        {sk : Sought} {ly : Layer} {osc : Result PartScope Stop} →
        ow ≡ tree.on_background sl →
        Seeks w r f d sl (Ok sk) w1 r1 →
        Yields (scope_of_background w1.now.stack w1.now.current ly sk) osc →
        Owns w r f d ly ow osc w1 r1

  -- A button or a field: what is looked for, then its owner, then the part.
  pub data PartMet : History → RunState → Frame → ℕ → tree.Part → Result Referent Stop → History → RunState
      → Type 0 where
    part_memory : {w w1 : History} {r r1 : RunState} {f : Frame} {d : ℕ} {pa : tree.Part} →
        PartMet w r f d pa (Err Memory) w1 r1
    part_stops : {pa : tree.Part} {oly : Option Layer} {pk : PartKind} {wh : tree.Which} {ow : tree.Owner}
        {w w1 : History} {r r1 : RunState} {f : Frame} {d : ℕ} {z : Stop} →
        pa ≡ tree.part oly pk wh ow →
        Picks w r f d wh (Err z) w1 r1 →
        PartMet w r f d pa (Err z) w1 r1
    part_owner_stops : {pa : tree.Part} {oly : Option Layer} {pk : PartKind} {wh : tree.Which} {ow : tree.Owner}
        {w w1 w2 : History} {r r1 r2 : RunState} {f : Frame} {d : ℕ} {pi : Pick} {ly : Layer} {z : Stop} →
        pa ≡ tree.part oly pk wh ow →
        Picks w r f d wh (Ok pi) w1 r1 →
        ly ≡ layer_meant oly pk →
        Owns w1 r1 f d ly ow (Err z) w2 r2 →
        PartMet w r f d pa (Err z) w2 r2
    part_of_owner : {pa : tree.Part} {oly : Option Layer} {pk : PartKind} {wh : tree.Which} {ow : tree.Owner}
        {w w1 w2 : History} {r r1 r2 : RunState} {f : Frame} {d : ℕ} {pi : Pick} {ly : Layer} {sc : PartScope}
        {om : Result Referent Stop} →
        pa ≡ tree.part oly pk wh ow →
        Picks w r f d wh (Ok pi) w1 r1 →
        ly ≡ layer_meant oly pk →
        Owns w1 r1 f d ly ow (Ok sc) w2 r2 →
        Yields (part_met w2.now.stack pk sc pi) om →
        PartMet w r f d pa om w2 r2
    nth_owner_stops : {pa : tree.Part} {od : Ordinal} {oly : Option Layer} {pk : PartKind} {ow : tree.Owner}
        {ly : Layer} {w w1 : History} {r r1 : RunState} {f : Frame} {d : ℕ} {z : Stop} →
        pa ≡ tree.nth_part od oly pk ow →
        ly ≡ layer_meant oly pk →
        Owns w r f d ly ow (Err z) w1 r1 →
        PartMet w r f d pa (Err z) w1 r1
    nth_of_owner : {pa : tree.Part} {od : Ordinal} {oly : Option Layer} {pk : PartKind} {ow : tree.Owner} {ly : Layer}
        {w w1 : History} {r r1 : RunState} {f : Frame} {d : ℕ} {sc : PartScope} {om : Result Referent Stop} →
        pa ≡ tree.nth_part od oly pk ow →
        ly ≡ layer_meant oly pk →
        Owns w r f d ly ow (Ok sc) w1 r1 →
        Yields (part_met w1.now.stack pk sc (pick.Nth od)) om →
        PartMet w r f d pa om w1 r1

  -- The object of a reference, and the card that is meant with it.
  pub data Meets : History → RunState → Frame → ℕ → tree.Ref → Result Referent Stop → History → RunState → Type 0 where
    meet_memory : {w w1 : History} {r r1 : RunState} {f : Frame} {d : ℕ} {rf : tree.Ref} →
        Meets w r f d rf (Err Memory) w1 r1
    meet_me : {rf : tree.Ref} {w : History} {f : Frame} {om : Result Referent Stop} {r : RunState} {d : ℕ} →
        rf ≡ tree.me →
        Yields (met_if_there w.now.stack w.now.current f.me) om →
        Meets w r f d rf om w r
    meet_target : {rf : tree.Ref} {w : History} {f : Frame} {om : Result Referent Stop} {r : RunState} {d : ℕ} →
        rf ≡ tree.the_target →
        Yields (met_if_there w.now.stack w.now.current f.target) om →
        Meets w r f d rf om w r
    meet_stack : {rf : tree.Ref} {m : Referent} {w : History} {r : RunState} {f : Frame} {d : ℕ} →
        rf ≡ tree.this_stack →
        m ≡ met_here w.now.current 0 →
        Meets w r f d rf (Ok m) w r
    card_stops : {rf : tree.Ref} {sl : tree.Selector} {w w1 : History} {r r1 : RunState} {f : Frame} {d : ℕ} {z : Stop}
        →
        rf ≡ tree.card sl →
        Seeks w r f d sl (Err z) w1 r1 →
        Meets w r f d rf (Err z) w1 r1
    meet_card : {rf : tree.Ref} {sl : tree.Selector} {w w1 : History} {r r1 : RunState} {f : Frame} {d : ℕ}
        {sk : Sought} {om : Result Referent Stop} →
        rf ≡ tree.card sl →
        Seeks w r f d sl (Ok sk) w1 r1 →
        Yields (card_met w1.now.stack w1.now.current sk) om →
        Meets w r f d rf om w1 r1
    background_stops : {rf : tree.Ref} {sl : tree.Selector} {w w1 : History} {r r1 : RunState} {f : Frame} {d : ℕ}
        {z : Stop} →
        rf ≡ tree.background sl →
        Seeks w r f d sl (Err z) w1 r1 →
        Meets w r f d rf (Err z) w1 r1
    meet_background : {rf : tree.Ref} {sl : tree.Selector} {w w1 : History} {r r1 : RunState} {f : Frame} {d : ℕ}
        {sk : Sought} {om : Result Referent Stop} →
        rf ≡ tree.background sl →
        Seeks w r f d sl (Ok sk) w1 r1 →
        Yields (background_met w1.now.stack w1.now.current sk) om →
        Meets w r f d rf om w1 r1
    meet_part : {rf : tree.Ref} {pa : tree.Part} {w w1 : History} {r r1 : RunState} {f : Frame} {d : ℕ}
        {om : Result Referent Stop} →
        rf ≡ tree.a_part pa →
        PartMet w r f d pa om w1 r1 →
        Meets w r f d rf om w1 r1

  -- The card that `go` leads to.
  pub data Leads : History → RunState → Frame → ℕ → stm.Destination → Result ℕ Stop → History → RunState → Type 0 where
    lead_memory : {w w1 : History} {r r1 : RunState} {f : Frame} {d : ℕ} {de : stm.Destination} →
        Leads w r f d de (Err Memory) w1 r1
    lead_card_stops : {de : stm.Destination} {sl : tree.Selector} {w w1 : History} {r r1 : RunState} {f : Frame} {d : ℕ}
        {z : Stop} →
        de ≡ stm.to_card sl →
        Seeks w r f d sl (Err z) w1 r1 →
        Leads w r f d de (Err z) w1 r1
    lead_card : {de : stm.Destination} {sl : tree.Selector} {w w1 : History} {r r1 : RunState} {f : Frame} {d : ℕ}
        {sk : Sought} {oi : Result ℕ Stop} →
        de ≡ stm.to_card sl →
        Seeks w r f d sl (Ok sk) w1 r1 →
        Yields (card_found w1.now.stack w1.now.current sk) oi →
        Leads w r f d de oi w1 r1
    lead_background_stops : {de : stm.Destination} {sl : tree.Selector} {w w1 : History} {r r1 : RunState} {f : Frame}
        {d : ℕ} {z : Stop} →
        de ≡ stm.to_background sl →
        Seeks w r f d sl (Err z) w1 r1 →
        Leads w r f d de (Err z) w1 r1
    lead_background : {de : stm.Destination} {sl : tree.Selector} {w w1 : History} {r r1 : RunState} {f : Frame} {d : ℕ}
        {sk : Sought} {oi : Result ℕ Stop} →
        de ≡ stm.to_background sl →
        Seeks w r f d sl (Ok sk) w1 r1 →
        Yields (first_card_found w1.now.stack w1.now.current sk) oi →
        Leads w r f d de oi w1 r1

  -- ---- statements

  -- How a statement ends, whose step was taken.
  pub data Form : History → RunState → Frame → ℕ → stm.Stmt → Result How Stop → History → RunState → Frame
      → Type 0 where
    form_memory : {w w1 : History} {r r1 : RunState} {f f1 : Frame} {d : ℕ} {s : stm.Stmt} →
        Form w r f d s (Err Memory) w1 r1 f1
    show_stops : {s : stm.Stmt} {e : tree.Expr} {w w1 : History} {r r1 : RunState} {f : Frame} {d : ℕ} {z : Stop} →
        s ≡ stm.put e →
        Val w r f d e (Err z) w1 r1 →
        Form w r f d s (Err z) w1 r1 f
    show : {s : stm.Stmt} {e : tree.Expr} {w w1 : History} {r r1 r2 : RunState} {f : Frame} {d : ℕ} {v : List ℕ} →
        s ≡ stm.put e →
        Val w r f d e (Ok v) w1 r1 →
        r2 ≡ shows r1 v →
        Form w r f d s (Ok Next) w1 r2 f
    put_stops : {s : stm.Stmt} {wr : Where} {e : tree.Expr} {ct : tree.Container} {w w1 : History} {r r1 : RunState}
        {f : Frame} {d : ℕ} {z : Stop} →
        s ≡ stm.put_in wr e ct →
        Val w r f d e (Err z) w1 r1 →
        Form w r f d s (Err z) w1 r1 f
    put_nowhere : {s : stm.Stmt} {wr : Where} {e : tree.Expr} {ct : tree.Container} {w w1 w2 : History}
        {r r1 r2 : RunState} {f : Frame} {d : ℕ} {v : List ℕ} {z : Stop} →
        s ≡ stm.put_in wr e ct →
        Val w r f d e (Ok v) w1 r1 →
        Resolves w1 r1 f d ct (Err z) w2 r2 →
        Form w r f d s (Err z) w2 r2 f
    put_fails : {s : stm.Stmt} {wr : Where} {e : tree.Expr} {ct : tree.Container} {w w1 w2 w3 : History}
        {r r1 r2 : RunState} {f f1 : Frame} {d : ℕ} {v : List ℕ} {pl : PlaceView} {z : Stop} →
        s ≡ stm.put_in wr e ct →
        Val w r f d e (Ok v) w1 r1 →
        Resolves w1 r1 f d ct (Ok pl) w2 r2 →
        Edits w2 f r2.delimiter pl (Put wr v) (Err z) w3 f1 →
        Form w r f d s (Err z) w3 r2 f1
    put : {s : stm.Stmt} {wr : Where} {e : tree.Expr} {ct : tree.Container} {w w1 w2 w3 : History} {r r1 r2 : RunState}
        {f f1 : Frame} {d : ℕ} {v : List ℕ} {pl : PlaceView} →
        s ≡ stm.put_in wr e ct →
        Val w r f d e (Ok v) w1 r1 →
        Resolves w1 r1 f d ct (Ok pl) w2 r2 →
        Edits w2 f r2.delimiter pl (Put wr v) (Ok tt) w3 f1 →
        Form w r f d s (Ok Next) w3 r2 f1
    get_stops : {s : stm.Stmt} {e : tree.Expr} {w w1 : History} {r r1 : RunState} {f : Frame} {d : ℕ} {z : Stop} →
        s ≡ stm.get e →
        Val w r f d e (Err z) w1 r1 →
        Form w r f d s (Err z) w1 r1 f
    get : {s : stm.Stmt} {e : tree.Expr} {w w1 w2 : History} {r r1 : RunState} {f f1 : Frame} {d : ℕ} {v : List ℕ} →
        s ≡ stm.get e →
        Val w r f d e (Ok v) w1 r1 →
        Stores w1 f (named f.variables it_name) v w2 f1 →
        Form w r f d s (Ok Next) w2 r1 f1
    set_stops : {s : stm.Stmt} {pr : Prop} {rf : tree.Ref} {e : tree.Expr} {w w1 : History} {r r1 : RunState}
        {f : Frame} {d : ℕ} {z : Stop} →
        s ≡ stm.set pr rf e →
        Val w r f d e (Err z) w1 r1 →
        Form w r f d s (Err z) w1 r1 f
    set_nowhere : {s : stm.Stmt} {pr : Prop} {rf : tree.Ref} {e : tree.Expr} {w w1 w2 : History} {r r1 r2 : RunState}
        {f : Frame} {d : ℕ} {v : List ℕ} {z : Stop} →
        s ≡ stm.set pr rf e →
        Val w r f d e (Ok v) w1 r1 →
        Meets w1 r1 f d rf (Err z) w2 r2 →
        Form w r f d s (Err z) w2 r2 f
    set_fails : {s : stm.Stmt} {pr : Prop} {rf : tree.Ref} {e : tree.Expr} {w w1 w2 w3 : History} {r r1 r2 : RunState}
        {f : Frame} {d : ℕ} {v : List ℕ} {m : Referent} {z : Stop} →
        s ≡ stm.set pr rf e →
        Val w r f d e (Ok v) w1 r1 →
        Meets w1 r1 f d rf (Ok m) w2 r2 →
        Sets w2 m pr v (Err z) w3 →
        Form w r f d s (Err z) w3 r2 f
    set : {s : stm.Stmt} {pr : Prop} {rf : tree.Ref} {e : tree.Expr} {w w1 w2 w3 : History} {r r1 r2 : RunState}
        {f : Frame} {d : ℕ} {v : List ℕ} {m : Referent} →
        s ≡ stm.set pr rf e →
        Val w r f d e (Ok v) w1 r1 →
        Meets w1 r1 f d rf (Ok m) w2 r2 →
        Sets w2 m pr v (Ok tt) w3 →
        Form w r f d s (Ok Next) w3 r2 f
    set_run_stops : {s : stm.Stmt} {rp : RunProp} {e : tree.Expr} {w w1 : History} {r r1 : RunState} {f : Frame} {d : ℕ}
        {z : Stop} →
        s ≡ stm.set_run rp e →
        Val w r f d e (Err z) w1 r1 →
        Form w r f d s (Err z) w1 r1 f
    set_run_fails : {s : stm.Stmt} {rp : RunProp} {e : tree.Expr} {w w1 : History} {r r1 : RunState} {f : Frame} {d : ℕ}
        {v : List ℕ} {fa : Fault} →
        s ≡ stm.set_run rp e →
        Val w r f d e (Ok v) w1 r1 →
        run_property_set r1 rp v ≡ Err fa →
        Form w r f d s (Err (Faults fa)) w1 r1 f
    set_run : {s : stm.Stmt} {rp : RunProp} {e : tree.Expr} {w w1 : History} {r r1 r2 : RunState} {f : Frame} {d : ℕ}
        {v : List ℕ} →
        s ≡ stm.set_run rp e →
        Val w r f d e (Ok v) w1 r1 →
        run_property_set r1 rp v ≡ Ok r2 →
        Form w r f d s (Ok Next) w1 r2 f
    add : {s : stm.Stmt} {e : tree.Expr} {ct : tree.Container} {w w1 : History} {r r1 : RunState} {f f1 : Frame} {d : ℕ}
        {oh : Result How Stop} →
        s ≡ stm.add e ct →
        Alters w r f d Add e ct oh w1 r1 f1 →
        Form w r f d s oh w1 r1 f1
    subtract : {s : stm.Stmt} {e : tree.Expr} {ct : tree.Container} {w w1 : History} {r r1 : RunState} {f f1 : Frame}
        {d : ℕ} {oh : Result How Stop} →
        s ≡ stm.subtract e ct →
        Alters w r f d Subtract e ct oh w1 r1 f1 →
        Form w r f d s oh w1 r1 f1
    multiply : {s : stm.Stmt} {ct : tree.Container} {e : tree.Expr} {w w1 : History} {r r1 : RunState} {f f1 : Frame}
        {d : ℕ} {oh : Result How Stop} →
        s ≡ stm.multiply ct e →
        Alters w r f d Multiply e ct oh w1 r1 f1 →
        Form w r f d s oh w1 r1 f1
    divide : {s : stm.Stmt} {ct : tree.Container} {e : tree.Expr} {w w1 : History} {r r1 : RunState} {f f1 : Frame}
        {d : ℕ} {oh : Result How Stop} →
        s ≡ stm.divide ct e →
        Alters w r f d Divide e ct oh w1 r1 f1 →
        Form w r f d s oh w1 r1 f1
    delete_stops : {s : stm.Stmt} {hd : tree.Chunk} {ct : tree.Container} {w w1 : History} {r r1 : RunState} {f : Frame}
        {d : ℕ} {z : Stop} →
        s ≡ stm.delete hd ct →
        ChunkOf w r f d hd (Err z) w1 r1 →
        Form w r f d s (Err z) w1 r1 f
    delete_nowhere : {s : stm.Stmt} {hd : tree.Chunk} {ct : tree.Container} {w w1 w2 : History} {r r1 r2 : RunState}
        {f : Frame} {d : ℕ} {c : Chunk} {z : Stop} →
        s ≡ stm.delete hd ct →
        ChunkOf w r f d hd (Ok c) w1 r1 →
        Resolves w1 r1 f d ct (Err z) w2 r2 →
        Form w r f d s (Err z) w2 r2 f
    delete_fails : {s : stm.Stmt} {hd : tree.Chunk} {ct : tree.Container} {w w1 w2 w3 : History} {r r1 r2 : RunState}
        {f f1 : Frame} {d : ℕ} {c : Chunk} {pl pl1 : PlaceView} {z : Stop} →
        s ≡ stm.delete hd ct →
        ChunkOf w r f d hd (Ok c) w1 r1 →
        Resolves w1 r1 f d ct (Ok pl) w2 r2 →
        pl1 ≡ chunk_of_place pl c →
        Edits w2 f r2.delimiter pl1 Delete (Err z) w3 f1 →
        Form w r f d s (Err z) w3 r2 f1
    delete : {s : stm.Stmt} {hd : tree.Chunk} {ct : tree.Container} {w w1 w2 w3 : History} {r r1 r2 : RunState}
        {f f1 : Frame} {d : ℕ} {c : Chunk} {pl pl1 : PlaceView} →
        s ≡ stm.delete hd ct →
        ChunkOf w r f d hd (Ok c) w1 r1 →
        Resolves w1 r1 f d ct (Ok pl) w2 r2 →
        pl1 ≡ chunk_of_place pl c →
        Edits w2 f r2.delimiter pl1 Delete (Ok tt) w3 f1 →
        Form w r f d s (Ok Next) w3 r2 f1
    do_stops : {s : stm.Stmt} {e : tree.Expr} {w w1 : History} {r r1 : RunState} {f : Frame} {d : ℕ} {z : Stop} →
        s ≡ stm.do_ e →
        Val w r f d e (Err z) w1 r1 →
        Form w r f d s (Err z) w1 r1 f
    do_value : {s : stm.Stmt} {e : tree.Expr} {w w1 w2 : History} {r r1 r2 : RunState} {f f1 : Frame} {d : ℕ}
        {t : List ℕ} {oh : Result How Stop} →
        s ≡ stm.do_ e →
        Val w r f d e (Ok t) w1 r1 →
        DoText w1 r1 f d t oh w2 r2 f1 →
        Form w r f d s oh w2 r2 f1
    send_text_stops : {s : stm.Stmt} {e : tree.Expr} {rf : tree.Ref} {w w1 : History} {r r1 : RunState} {f : Frame}
        {d : ℕ} {z : Stop} →
        s ≡ stm.send e rf →
        Val w r f d e (Err z) w1 r1 →
        Form w r f d s (Err z) w1 r1 f
    send_nowhere : {s : stm.Stmt} {e : tree.Expr} {rf : tree.Ref} {w w1 w2 : History} {r r1 r2 : RunState} {f : Frame}
        {d : ℕ} {t : List ℕ} {z : Stop} →
        s ≡ stm.send e rf →
        Val w r f d e (Ok t) w1 r1 →
        Meets w1 r1 f d rf (Err z) w2 r2 →
        Form w r f d s (Err z) w2 r2 f
    send_stops : {s : stm.Stmt} {e : tree.Expr} {rf : tree.Ref} {w w1 w2 w3 : History} {r r1 r2 r3 : RunState}
        {f : Frame} {d : ℕ} {t : List ℕ} {m : Referent} {z : Stop} →
        s ≡ stm.send e rf →
        Val w r f d e (Ok t) w1 r1 →
        Meets w1 r1 f d rf (Ok m) w2 r2 →
        SendsText w2 r2 f d m.object t (Err z) w3 r3 →
        Form w r f d s (Err z) w3 r3 f
    send : {s : stm.Stmt} {e : tree.Expr} {rf : tree.Ref} {w w1 w2 w3 : History} {r r1 r2 r3 : RunState} {f : Frame}
        {d : ℕ} {t v : List ℕ} {m : Referent} →
        s ≡ stm.send e rf →
        Val w r f d e (Ok t) w1 r1 →
        Meets w1 r1 f d rf (Ok m) w2 r2 →
        SendsText w2 r2 f d m.object t (Ok v) w3 r3 →
        Form w r f d s (Ok Next) w3 r3 f
    go_nowhere : {s : stm.Stmt} {de : stm.Destination} {w w1 : History} {r r1 : RunState} {f : Frame} {d : ℕ} {z : Stop}
        →
        s ≡ stm.go de →
        Leads w r f d de (Err z) w1 r1 →
        Form w r f d s (Err z) w1 r1 f
    go_stops : {s : stm.Stmt} {de : stm.Destination} {w w1 w2 : History} {r r1 r2 : RunState} {f : Frame} {d i : ℕ}
        {z : Stop} →
        s ≡ stm.go de →
        Leads w r f d de (Ok i) w1 r1 →
        Goes w1 r1 f d i (Err z) w2 r2 →
        Form w r f d s (Err z) w2 r2 f
    go : {s : stm.Stmt} {de : stm.Destination} {w w1 w2 : History} {r r1 r2 : RunState} {f : Frame} {d i : ℕ}
        {v : List ℕ} →
        s ≡ stm.go de →
        Leads w r f d de (Ok i) w1 r1 →
        Goes w1 r1 f d i (Ok v) w2 r2 →
        Form w r f d s (Ok Next) w2 r2 f
    global : {s : stm.Stmt} {vs : List (List ℕ)} {w w1 : History} {f f1 : Frame} {r : RunState} {d : ℕ} →
        s ≡ stm.global vs →
        DeclaresAll w f vs w1 f1 →
        Form w r f d s (Ok Next) w1 r f1
    exit_repeat : {s : stm.Stmt} {w : History} {r : RunState} {f : Frame} {d : ℕ} →
        s ≡ stm.exit_repeat →
        Form w r f d s (Ok ExitRepeat) w r f
    next_repeat : {s : stm.Stmt} {w : History} {r : RunState} {f : Frame} {d : ℕ} →
        s ≡ stm.next_repeat →
        Form w r f d s (Ok NextRepeat) w r f
    exit_to_hypercard : {s : stm.Stmt} {w : History} {r : RunState} {f : Frame} {d : ℕ} →
        s ≡ stm.exit_to_hypercard →
        Form w r f d s (Err Exited) w r f
    exit_handler : {s : stm.Stmt} {n : List ℕ} {w : History} {r : RunState} {f : Frame} {d : ℕ} →
        s ≡ stm.exit n →
        Form w r f d s (Ok Exit) w r f
    pass : {s : stm.Stmt} {n : List ℕ} {w : History} {r : RunState} {f : Frame} {d : ℕ} →
        s ≡ stm.pass n →
        Form w r f d s (Ok Pass) w r f
    return_nothing : {s : stm.Stmt} {w : History} {r : RunState} {f : Frame} {d : ℕ} →
        s ≡ stm.return_nothing →
        Form w r f d s (Ok (Returns [])) w r f
    return_stops : {s : stm.Stmt} {e : tree.Expr} {w w1 : History} {r r1 : RunState} {f : Frame} {d : ℕ} {z : Stop} →
        s ≡ stm.return_value e →
        Val w r f d e (Err z) w1 r1 →
        Form w r f d s (Err z) w1 r1 f
    return_value : {s : stm.Stmt} {e : tree.Expr} {w w1 : History} {r r1 : RunState} {f : Frame} {d : ℕ} {v : List ℕ} →
        s ≡ stm.return_value e →
        Val w r f d e (Ok v) w1 r1 →
        Form w r f d s (Ok (Returns v)) w1 r1 f
    command_stops : {s : stm.Stmt} {n : List ℕ} {es : tree.Exprs} {i d : ℕ} {f : Frame} {w w1 : History}
        {r r1 : RunState} {z : Stop} →
        s ≡ stm.command n es →
        i ≡ f.me →
        Calls w r f d i n es Command (Err z) w1 r1 →
        Form w r f d s (Err z) w1 r1 f
    command : {s : stm.Stmt} {n v : List ℕ} {es : tree.Exprs} {i d : ℕ} {f : Frame} {w w1 : History} {r r1 : RunState} →
        s ≡ stm.command n es →
        i ≡ f.me →
        Calls w r f d i n es Command (Ok v) w1 r1 →
        Form w r f d s (Ok Next) w1 r1 f
    if_stops : {s : stm.Stmt} {e : tree.Expr} {ss ss1 : stm.Stmts} {w w1 : History} {r r1 : RunState} {f : Frame}
        {d : ℕ} {z : Stop} →
        s ≡ stm.when e ss ss1 →
        TruthVal w r f d e (Err z) w1 r1 →
        Form w r f d s (Err z) w1 r1 f
    if_true : {s : stm.Stmt} {e : tree.Expr} {ss ss1 : stm.Stmts} {w w1 w2 : History} {r r1 r2 : RunState}
        {f f1 : Frame} {d : ℕ} {b : Bool} {oh : Result How Stop} →
        s ≡ stm.when e ss ss1 →
        TruthVal w r f d e (Ok b) w1 r1 →
        b ≡ true →
        Block w1 r1 f d ss oh w2 r2 f1 →
        Form w r f d s oh w2 r2 f1
    if_false : {s : stm.Stmt} {e : tree.Expr} {ss ss1 : stm.Stmts} {w w1 w2 : History} {r r1 r2 : RunState}
        {f f1 : Frame} {d : ℕ} {b : Bool} {oh : Result How Stop} →
        s ≡ stm.when e ss ss1 →
        TruthVal w r f d e (Ok b) w1 r1 →
        b ≡ false →
        Block w1 r1 f d ss1 oh w2 r2 f1 →
        Form w r f d s oh w2 r2 f1
    forever : {s : stm.Stmt} {ss : stm.Stmts} {w w1 : History} {r r1 : RunState} {f f1 : Frame} {d : ℕ}
        {oh : Result How Stop} →
        s ≡ stm.repeat stm.forever ss →
        Endless w r f d ss oh w1 r1 f1 →
        Form w r f d s oh w1 r1 f1
    times_stops : {s : stm.Stmt} {e : tree.Expr} {ss : stm.Stmts} {w w1 : History} {r r1 : RunState} {f : Frame} {d : ℕ}
        {z : Stop} →
        s ≡ stm.repeat (stm.times e) ss →
        NumberVal w r f d e (Err z) w1 r1 →
        Form w r f d s (Err z) w1 r1 f
    times : {s : stm.Stmt} {e : tree.Expr} {ss : stm.Stmts} {w w1 w2 : History} {r r1 r2 : RunState} {f f1 : Frame}
        {d : ℕ} {u : ℤ} {co : CounterState} {oh : Result How Stop} →
        s ≡ stm.repeat (stm.times e) ss →
        NumberVal w r f d e (Ok u) w1 r1 →
        co ≡ turns u →
        Counts w1 r1 f d None co ss oh w2 r2 f1 →
        Form w r f d s oh w2 r2 f1
    while : {s : stm.Stmt} {e : tree.Expr} {ss : stm.Stmts} {w w1 : History} {r r1 : RunState} {f f1 : Frame} {d : ℕ}
        {oh : Result How Stop} →
        s ≡ stm.repeat (stm.while e) ss →
        While w r f d true e ss oh w1 r1 f1 →
        Form w r f d s oh w1 r1 f1
    until : {s : stm.Stmt} {e : tree.Expr} {ss : stm.Stmts} {w w1 : History} {r r1 : RunState} {f f1 : Frame} {d : ℕ}
        {oh : Result How Stop} →
        s ≡ stm.repeat (stm.until e) ss →
        While w r f d false e ss oh w1 r1 f1 →
        Form w r f d s oh w1 r1 f1
    up_stops : {s : stm.Stmt} {n : List ℕ} {e e1 : tree.Expr} {ss : stm.Stmts} {w w1 : History} {r r1 : RunState}
        {f : Frame} {d : ℕ} {z : Stop} →
        s ≡ stm.repeat (stm.counted_up n e e1) ss →
        Bounds w r f d e e1 false (Err z) w1 r1 →
        Form w r f d s (Err z) w1 r1 f
    up : {s : stm.Stmt} {n : List ℕ} {e e1 : tree.Expr} {ss : stm.Stmts} {w w1 w2 : History} {r r1 r2 : RunState}
        {f f1 : Frame} {d : ℕ} {co : CounterState} {oh : Result How Stop} →
        s ≡ stm.repeat (stm.counted_up n e e1) ss →
        Bounds w r f d e e1 false (Ok co) w1 r1 →
        Counts w1 r1 f d (Some n) co ss oh w2 r2 f1 →
        Form w r f d s oh w2 r2 f1
    down_stops : {s : stm.Stmt} {n : List ℕ} {e e1 : tree.Expr} {ss : stm.Stmts} {w w1 : History} {r r1 : RunState}
        {f : Frame} {d : ℕ} {z : Stop} →
        s ≡ stm.repeat (stm.counted_down n e e1) ss →
        Bounds w r f d e e1 true (Err z) w1 r1 →
        Form w r f d s (Err z) w1 r1 f
    down : {s : stm.Stmt} {n : List ℕ} {e e1 : tree.Expr} {ss : stm.Stmts} {w w1 w2 : History} {r r1 r2 : RunState}
        {f f1 : Frame} {d : ℕ} {co : CounterState} {oh : Result How Stop} →
        s ≡ stm.repeat (stm.counted_down n e e1) ss →
        Bounds w r f d e e1 true (Ok co) w1 r1 →
        Counts w1 r1 f d (Some n) co ss oh w2 r2 f1 →
        Form w r f d s oh w2 r2 f1

  -- Arithmetic on a container: the expression, then the container, then both are converted.
  pub data Alters : History → RunState → Frame → ℕ → Op → tree.Expr → tree.Container → Result How Stop → History
      → RunState → Frame → Type 0 where
    alter_memory : {w w1 : History} {r r1 : RunState} {f f1 : Frame} {d : ℕ} {op : Op} {e : tree.Expr}
        {ct : tree.Container} →
        Alters w r f d op e ct (Err Memory) w1 r1 f1
    alter_stops : {w w1 : History} {r r1 : RunState} {f : Frame} {d : ℕ} {e : tree.Expr} {z : Stop} {op : Op}
        {ct : tree.Container} →
        Val w r f d e (Err z) w1 r1 →
        Alters w r f d op e ct (Err z) w1 r1 f
    alter_nowhere : {w w1 w2 : History} {r r1 r2 : RunState} {f : Frame} {d : ℕ} {e : tree.Expr} {v : List ℕ}
        {ct : tree.Container} {z : Stop} {op : Op} →
        Val w r f d e (Ok v) w1 r1 →
        Resolves w1 r1 f d ct (Err z) w2 r2 →
        Alters w r f d op e ct (Err z) w2 r2 f
    alter_fails : {w w1 w2 w3 : History} {r r1 r2 : RunState} {f f1 : Frame} {d : ℕ} {e : tree.Expr} {v : List ℕ}
        {ct : tree.Container} {pl : PlaceView} {op : Op} {z : Stop} →
        Val w r f d e (Ok v) w1 r1 →
        Resolves w1 r1 f d ct (Ok pl) w2 r2 →
        Edits w2 f r2.delimiter pl (Alter op v) (Err z) w3 f1 →
        Alters w r f d op e ct (Err z) w3 r2 f1
    alter : {w w1 w2 w3 : History} {r r1 r2 : RunState} {f f1 : Frame} {d : ℕ} {e : tree.Expr} {v : List ℕ}
        {ct : tree.Container} {pl : PlaceView} {op : Op} →
        Val w r f d e (Ok v) w1 r1 →
        Resolves w1 r1 f d ct (Ok pl) w2 r2 →
        Edits w2 f r2.delimiter pl (Alter op v) (Ok tt) w3 f1 →
        Alters w r f d op e ct (Ok Next) w3 r2 f1

  -- How statements end, a step before each.
  pub data Block : History → RunState → Frame → ℕ → stm.Stmts → Result How Stop → History → RunState → Frame
      → Type 0 where
    block_memory : {w w1 : History} {r r1 : RunState} {f f1 : Frame} {d : ℕ} {ss : stm.Stmts} →
        Block w r f d ss (Err Memory) w1 r1 f1
    block_end : {ss : stm.Stmts} {w : History} {r : RunState} {f : Frame} {d : ℕ} →
        ss ≡ stm.stop →
        Block w r f d ss (Ok Next) w r f
    block_no_step : {ss ss1 : stm.Stmts} {s : stm.Stmt} {r r1 : RunState} {z : Stop} {w : History} {f : Frame} {d : ℕ} →
        ss ≡ stm.also s ss1 →
        Step r (Err z) r1 →
        Block w r f d ss (Err z) w r1 f
    block_stops : {ss ss1 : stm.Stmts} {s : stm.Stmt} {r r1 r2 : RunState} {w w1 : History} {f f1 : Frame} {d : ℕ}
        {z : Stop} →
        ss ≡ stm.also s ss1 →
        Step r (Ok tt) r1 →
        Form w r1 f d s (Err z) w1 r2 f1 →
        Block w r f d ss (Err z) w1 r2 f1
    block_leaves : {ss ss1 : stm.Stmts} {s : stm.Stmt} {r r1 r2 : RunState} {w w1 : History} {f f1 : Frame} {d : ℕ}
        {h : How} →
        ss ≡ stm.also s ss1 →
        Step r (Ok tt) r1 →
        Form w r1 f d s (Ok h) w1 r2 f1 →
        h ≢ Next →
        Block w r f d ss (Ok h) w1 r2 f1
    block_goes_on : {ss ss1 : stm.Stmts} {s : stm.Stmt} {r r1 r2 r3 : RunState} {w w1 w2 : History} {f f1 f2 : Frame}
        {d : ℕ} {oh : Result How Stop} →
        ss ≡ stm.also s ss1 →
        Step r (Ok tt) r1 →
        Form w r1 f d s (Ok Next) w1 r2 f1 →
        Block w1 r2 f1 d ss1 oh w2 r3 f2 →
        Block w r f d ss oh w2 r3 f2

  -- `do`: the depth, then the text runs as lines, with the variables of the handler.
  pub data DoText : History → RunState → Frame → ℕ → List ℕ → Result How Stop → History → RunState → Frame
      → Type 0 where
    do_memory : {w w1 : History} {r r1 : RunState} {f f1 : Frame} {d : ℕ} {t : List ℕ} →
        DoText w r f d t (Err Memory) w1 r1 f1
    do_too_deep : {d : ℕ} {w : History} {r : RunState} {f : Frame} {t : List ℕ} →
        d ≡ 100 →
        DoText w r f d t (Err (Faults TooDeep)) w r f
    do_syntax : {d : ℕ} {t : List ℕ} {z : Stop} {w : History} {r : RunState} {f : Frame} →
        d < 100 →
        Parses ReadsLines t (Err z) →
        DoText w r f d t (Err z) w r f
    do_lines : {d : ℕ} {t : List ℕ} {ss : stm.Stmts} {w w1 : History} {r r1 : RunState} {f f1 : Frame}
        {oh : Result How Stop} →
        d < 100 →
        Parses ReadsLines t (Ok ss) →
        Block w r f (d + 1) ss oh w1 r1 f1 →
        DoText w r f d t oh w1 r1 f1

  -- ---- repeats

  -- A repeat without a condition, a step before each turn.
  pub data Endless : History → RunState → Frame → ℕ → stm.Stmts → Result How Stop → History → RunState → Frame
      → Type 0 where
    endless_memory : {w w1 : History} {r r1 : RunState} {f f1 : Frame} {d : ℕ} {ss : stm.Stmts} →
        Endless w r f d ss (Err Memory) w1 r1 f1
    endless_no_step : {r r1 : RunState} {z : Stop} {w : History} {f : Frame} {d : ℕ} {ss : stm.Stmts} →
        Step r (Err z) r1 →
        Endless w r f d ss (Err z) w r1 f
    endless_stops : {r r1 r2 : RunState} {w w1 : History} {f f1 : Frame} {d : ℕ} {ss : stm.Stmts} {z : Stop} →
        Step r (Ok tt) r1 →
        Block w r1 f d ss (Err z) w1 r2 f1 →
        Endless w r f d ss (Err z) w1 r2 f1
    endless_leaves : {r r1 r2 : RunState} {w w1 : History} {f f1 : Frame} {d : ℕ} {ss : stm.Stmts} {h h1 : How} →
        Step r (Ok tt) r1 →
        Block w r1 f d ss (Ok h) w1 r2 f1 →
        leaves_repeat h ≡ Some h1 →
        Endless w r f d ss (Ok h1) w1 r2 f1
    endless_goes_on : {r r1 r2 r3 : RunState} {w w1 w2 : History} {f f1 f2 : Frame} {d : ℕ} {ss : stm.Stmts} {h : How}
        {oh : Result How Stop} →
        Step r (Ok tt) r1 →
        Block w r1 f d ss (Ok h) w1 r2 f1 →
        leaves_repeat h ≡ None →
        Endless w1 r2 f1 d ss oh w2 r3 f2 →
        Endless w r f d ss oh w2 r3 f2

  -- A repeat as long as a condition is so, a step and a test before each turn.
  pub data While : History → RunState → Frame → ℕ → Bool → tree.Expr → stm.Stmts → Result How Stop → History → RunState
      → Frame → Type 0 where
    while_memory : {w w1 : History} {r r1 : RunState} {f f1 : Frame} {d : ℕ} {b : Bool} {e : tree.Expr} {ss : stm.Stmts}
        →
        While w r f d b e ss (Err Memory) w1 r1 f1
    while_no_step : {r r1 : RunState} {z : Stop} {w : History} {f : Frame} {d : ℕ} {b : Bool} {e : tree.Expr}
        {ss : stm.Stmts} →
        Step r (Err z) r1 →
        While w r f d b e ss (Err z) w r1 f
    while_test_stops : {r r1 r2 : RunState} {w w1 : History} {f : Frame} {d : ℕ} {e : tree.Expr} {z : Stop} {b : Bool}
        {ss : stm.Stmts} →
        Step r (Ok tt) r1 →
        TruthVal w r1 f d e (Err z) w1 r2 →
        While w r f d b e ss (Err z) w1 r2 f
    while_ends : {r r1 r2 : RunState} {w w1 : History} {f : Frame} {d : ℕ} {e : tree.Expr} {b1 b : Bool}
        {ss : stm.Stmts} →
        Step r (Ok tt) r1 →
        TruthVal w r1 f d e (Ok b1) w1 r2 →
        goes_on b b1 ≡ false →
        While w r f d b e ss (Ok Next) w1 r2 f
    while_stops : {r r1 r2 r3 : RunState} {w w1 w2 : History} {f f1 : Frame} {d : ℕ} {e : tree.Expr} {b1 b : Bool}
        {ss : stm.Stmts} {z : Stop} →
        Step r (Ok tt) r1 →
        TruthVal w r1 f d e (Ok b1) w1 r2 →
        goes_on b b1 ≡ true →
        Block w1 r2 f d ss (Err z) w2 r3 f1 →
        While w r f d b e ss (Err z) w2 r3 f1
    while_leaves : {r r1 r2 r3 : RunState} {w w1 w2 : History} {f f1 : Frame} {d : ℕ} {e : tree.Expr} {b1 b : Bool}
        {ss : stm.Stmts} {h h1 : How} →
        Step r (Ok tt) r1 →
        TruthVal w r1 f d e (Ok b1) w1 r2 →
        goes_on b b1 ≡ true →
        Block w1 r2 f d ss (Ok h) w2 r3 f1 →
        leaves_repeat h ≡ Some h1 →
        While w r f d b e ss (Ok h1) w2 r3 f1
    while_goes_on : {r r1 r2 r3 r4 : RunState} {w w1 w2 w3 : History} {f f1 f2 : Frame} {d : ℕ} {e : tree.Expr}
        {b1 b : Bool} {ss : stm.Stmts} {h : How} {oh : Result How Stop} →
        Step r (Ok tt) r1 →
        TruthVal w r1 f d e (Ok b1) w1 r2 →
        goes_on b b1 ≡ true →
        Block w1 r2 f d ss (Ok h) w2 r3 f1 →
        leaves_repeat h ≡ None →
        While w2 r3 f1 d b e ss oh w3 r4 f2 →
        While w r f d b e ss oh w3 r4 f2

  -- The bounds of a repeat: both are computed, then both are converted.
  pub data Bounds : History → RunState → Frame → ℕ → tree.Expr → tree.Expr → Bool → Result CounterState Stop → History
      → RunState → Type 0 where
    bounds_memory : {w w1 : History} {r r1 : RunState} {f : Frame} {d : ℕ} {e e1 : tree.Expr} {b : Bool} →
        Bounds w r f d e e1 b (Err Memory) w1 r1
    start_stops : {w w1 : History} {r r1 : RunState} {f : Frame} {d : ℕ} {e e1 : tree.Expr} {z : Stop} {b : Bool} →
        Val w r f d e (Err z) w1 r1 →
        Bounds w r f d e e1 b (Err z) w1 r1
    bound_stops : {w w1 w2 : History} {r r1 r2 : RunState} {f : Frame} {d : ℕ} {e e1 : tree.Expr} {p : List ℕ}
        {z : Stop} {b : Bool} →
        Val w r f d e (Ok p) w1 r1 →
        Val w1 r1 f d e1 (Err z) w2 r2 →
        Bounds w r f d e e1 b (Err z) w2 r2
    bounds : {w w1 w2 : History} {r r1 r2 : RunState} {f : Frame} {d : ℕ} {e e1 : tree.Expr} {p q : List ℕ} {b : Bool}
        {oco : Result CounterState Stop} →
        Val w r f d e (Ok p) w1 r1 →
        Val w1 r1 f d e1 (Ok q) w2 r2 →
        Yields (counter_of p q b) oco →
        Bounds w r f d e e1 b oco w2 r2

  -- A repeat over numbers, with a variable or without one, a step before each turn.
  pub data Counts : History → RunState → Frame → ℕ → Option (List ℕ) → CounterState → stm.Stmts → Result How Stop
      → History → RunState → Frame → Type 0 where
    counts_memory : {w w1 : History} {r r1 : RunState} {f f1 : Frame} {d : ℕ} {on : Option (List ℕ)} {co : CounterState}
        {ss : stm.Stmts} →
        Counts w r f d on co ss (Err Memory) w1 r1 f1
    counts_no_step : {r r1 : RunState} {z : Stop} {w : History} {f : Frame} {d : ℕ} {on : Option (List ℕ)}
        {co : CounterState} {ss : stm.Stmts} →
        Step r (Err z) r1 →
        Counts w r f d on co ss (Err z) w r1 f
    counts_end : {r r1 : RunState} {co : CounterState} {w : History} {f : Frame} {d : ℕ} {on : Option (List ℕ)}
        {ss : stm.Stmts} →
        Step r (Ok tt) r1 →
        is_over co ≡ true →
        Counts w r f d on co ss (Ok Next) w r1 f
    counts_stop : {r r1 r2 : RunState} {co : CounterState} {w w1 w2 : History} {f f1 f2 : Frame} {on : Option (List ℕ)}
        {d : ℕ} {ss : stm.Stmts} {z : Stop} →
        Step r (Ok tt) r1 →
        is_over co ≡ false →
        Assigns w f on (numeral co.at) w1 f1 →
        Block w1 r1 f1 d ss (Err z) w2 r2 f2 →
        Counts w r f d on co ss (Err z) w2 r2 f2
    counts_leave : {r r1 r2 : RunState} {co : CounterState} {w w1 w2 : History} {f f1 f2 : Frame} {on : Option (List ℕ)}
        {d : ℕ} {ss : stm.Stmts} {h h1 : How} →
        Step r (Ok tt) r1 →
        is_over co ≡ false →
        Assigns w f on (numeral co.at) w1 f1 →
        Block w1 r1 f1 d ss (Ok h) w2 r2 f2 →
        leaves_repeat h ≡ Some h1 →
        Counts w r f d on co ss (Ok h1) w2 r2 f2
    counts_go_on : {r r1 r2 r3 : RunState} {co co1 : CounterState} {w w1 w2 w3 : History} {f f1 f2 f3 : Frame}
        {on : Option (List ℕ)} {d : ℕ} {ss : stm.Stmts} {h : How} {oh : Result How Stop} →
        Step r (Ok tt) r1 →
        is_over co ≡ false →
        Assigns w f on (numeral co.at) w1 f1 →
        Block w1 r1 f1 d ss (Ok h) w2 r2 f2 →
        leaves_repeat h ≡ None →
        co1 ≡ stepped co →
        Counts w2 r2 f2 d on co1 ss oh w3 r3 f3 →
        Counts w r f d on co ss oh w3 r3 f3

  -- ---- messages

  -- The arguments are computed, then the message is sent.
  pub data Calls : History → RunState → Frame → ℕ → ℕ → List ℕ → tree.Exprs → HandlerKind → Result (List ℕ) Stop
      → History → RunState → Type 0 where
    calls_memory : {w w1 : History} {r r1 : RunState} {f : Frame} {d i : ℕ} {n : List ℕ} {es : tree.Exprs}
        {cl : HandlerKind} →
        Calls w r f d i n es cl (Err Memory) w1 r1
    calls_stop : {w w1 : History} {r r1 : RunState} {f : Frame} {d i : ℕ} {es : tree.Exprs} {z : Stop} {n : List ℕ}
        {cl : HandlerKind} →
        Vals w r f d es [] (Err z) w1 r1 →
        Calls w r f d i n es cl (Err z) w1 r1
    calls : {w w1 w2 : History} {r r1 r2 : RunState} {f : Frame} {d i : ℕ} {es : tree.Exprs} {vs : List (List ℕ)}
        {n : List ℕ} {cl : HandlerKind} {o : Result (List ℕ) Stop} →
        Vals w r f d es [] (Ok vs) w1 r1 →
        Sends w1 r1 f d i n vs cl o w2 r2 →
        Calls w r f d i n es cl o w2 r2

  -- A text is sent as a message, its arguments computed where it is sent.
  pub data SendsText : History → RunState → Frame → ℕ → ℕ → List ℕ → Result (List ℕ) Stop → History → RunState
      → Type 0 where
    send_memory : {w w1 : History} {r r1 : RunState} {f : Frame} {d i : ℕ} {t : List ℕ} →
        SendsText w r f d i t (Err Memory) w1 r1
    send_syntax : {t : List ℕ} {z : Stop} {w : History} {r : RunState} {f : Frame} {d i : ℕ} →
        Parses ReadsMessage t (Err z) →
        SendsText w r f d i t (Err z) w r
    sends_text : {t n : List ℕ} {es : tree.Exprs} {w w1 : History} {r r1 : RunState} {f : Frame} {d i : ℕ}
        {o : Result (List ℕ) Stop} →
        Parses ReadsMessage t (Ok (stm.message n es)) →
        Calls w r f d i n es Command o w1 r1 →
        SendsText w r f d i t o w1 r1

  -- A message to an object: a step, then along its path.
  pub data Sends : History → RunState → Frame → ℕ → ℕ → List ℕ → List (List ℕ) → HandlerKind → Result (List ℕ) Stop
      → History → RunState → Type 0 where
    sends_memory : {w w1 : History} {r r1 : RunState} {f : Frame} {d i : ℕ} {n : List ℕ} {vs : List (List ℕ)}
        {cl : HandlerKind} →
        Sends w r f d i n vs cl (Err Memory) w1 r1
    sends_no_step : {r r1 : RunState} {z : Stop} {w : History} {f : Frame} {d i : ℕ} {n : List ℕ} {vs : List (List ℕ)}
        {cl : HandlerKind} →
        Step r (Err z) r1 →
        Sends w r f d i n vs cl (Err z) w r1
    sends : {r r1 r2 r3 : RunState} {n is : List ℕ} {i d : ℕ} {w w1 : History} {f : Frame} {vs : List (List ℕ)}
        {cl : HandlerKind} {o : Result (List ℕ) Stop} →
        Step r (Ok tt) r1 →
        r2 ≡ noted r1 n i →
        is ≡ path w.now.stack w.now.current i →
        Along w r2 f d i is n vs cl o w1 r3 →
        Sends w r f d i n vs cl o w1 r3

  -- A message to an object, from a place of its path on; frame and depth are the sender's.
  pub data Along : History → RunState → Frame → ℕ → ℕ → List ℕ → List ℕ → List (List ℕ) → HandlerKind
      → Result (List ℕ) Stop → History → RunState → Type 0 where
    along_memory : {w w1 : History} {r r1 : RunState} {f : Frame} {d i : ℕ} {is n : List ℕ} {vs : List (List ℕ)}
        {cl : HandlerKind} →
        Along w r f d i is n vs cl (Err Memory) w1 r1
    along_broken : {w : History} {is n : List ℕ} {cl : HandlerKind} {z : Stop} {r : RunState} {f : Frame} {d i : ℕ}
        {vs : List (List ℕ)} →
        Finds w.now.stack is cl n (Err z) →
        Along w r f d i is n vs cl (Err z) w r
    along_too_deep : {w : History} {is n : List ℕ} {cl : HandlerKind} {fd : HandlerFound} {d i : ℕ} {r : RunState}
        {f : Frame} {vs : List (List ℕ)} →
        Finds w.now.stack is cl n (Ok (Some fd)) →
        d ≡ 100 →
        Along w r f d i is n vs cl (Err (Faults TooDeep)) w r
    along_stops : {w w1 : History} {is n : List ℕ} {cl : HandlerKind} {fd : HandlerFound} {d i : ℕ} {f1 f2 f : Frame}
        {vs : List (List ℕ)} {r r1 : RunState} {z : Stop} →
        Finds w.now.stack is cl n (Ok (Some fd)) →
        d < 100 →
        f1 ≡ handler_frame fd.object i (parameters_of fd.handler) vs →
        Block w r f1 (d + 1) (lines_of fd.handler) (Err z) w1 r1 f2 →
        Along w r f d i is n vs cl (Err z) w1 r1
    along_ends : {w w1 : History} {is n v : List ℕ} {cl : HandlerKind} {fd : HandlerFound} {d i : ℕ} {f1 f2 f : Frame}
        {vs : List (List ℕ)} {r r1 r2 : RunState} {h : How} →
        Finds w.now.stack is cl n (Ok (Some fd)) →
        d < 100 →
        f1 ≡ handler_frame fd.object i (parameters_of fd.handler) vs →
        Block w r f1 (d + 1) (lines_of fd.handler) (Ok h) w1 r1 f2 →
        ends cl h r1 ≡ Some (record { value = v; run = r2 }) →
        Along w r f d i is n vs cl (Ok v) w1 r2
    along_passes : {w w1 w2 : History} {is n is1 : List ℕ} {cl : HandlerKind} {fd : HandlerFound} {d i : ℕ}
        {f1 f2 f : Frame} {vs : List (List ℕ)} {r r1 r2 : RunState} {o : Result (List ℕ) Stop} →
        Finds w.now.stack is cl n (Ok (Some fd)) →
        d < 100 →
        f1 ≡ handler_frame fd.object i (parameters_of fd.handler) vs →
        Block w r f1 (d + 1) (lines_of fd.handler) (Ok Pass) w1 r1 f2 →
        is1 ≡ path_after w1.now.stack w1.now.current fd.object →
        Along w1 r1 f d i is1 n vs cl o w2 r2 →
        Along w r f d i is n vs cl o w2 r2
    along_unhandled : {w w1 : History} {is n : List ℕ} {cl : HandlerKind} {r r1 : RunState} {f : Frame} {d i : ℕ}
        {vs : List (List ℕ)} {o : Result (List ℕ) Stop} →
        Finds w.now.stack is cl n (Ok None) →
        Outside w r f d n vs cl o w1 r1 →
        Along w r f d i is n vs cl o w1 r1

  -- A message that no script handles: an external, then what is built in.
  pub data Outside : History → RunState → Frame → ℕ → List ℕ → List (List ℕ) → HandlerKind → Result (List ℕ) Stop
      → History → RunState → Type 0 where
    outside_memory : {w w1 : History} {r r1 : RunState} {f : Frame} {d : ℕ} {n : List ℕ} {vs : List (List ℕ)}
        {cl : HandlerKind} →
        Outside w r f d n vs cl (Err Memory) w1 r1
    no_external : {w w1 : History} {cl : HandlerKind} {n : List ℕ} {r r1 : RunState} {f : Frame} {d : ℕ}
        {vs : List (List ℕ)} {o : Result (List ℕ) Stop} →
        external_named w.now.externals (calls_function cl) n ≡ None →
        BuiltInGives w r f d n vs cl o w1 r1 →
        Outside w r f d n vs cl o w1 r1
    external_stops : {w w1 : History} {cl : HandlerKind} {n : List ℕ} {k d : ℕ} {r r1 : RunState} {vs : List (List ℕ)}
        {z : Stop} {f : Frame} →
        external_named w.now.externals (calls_function cl) n ≡ Some k →
        Converses w r d k vs (Err z) w1 r1 →
        Outside w r f d n vs cl (Err z) w1 r1
    external_ends : {w w1 : History} {cl : HandlerKind} {n v : List ℕ} {k d : ℕ} {r r1 r2 : RunState}
        {vs : List (List ℕ)} {dn : Conversed} {f : Frame} →
        external_named w.now.externals (calls_function cl) n ≡ Some k →
        Converses w r d k vs (Ok dn) w1 r1 →
        dn.passes ≡ false →
        returned cl dn.value r1 ≡ record { value = v; run = r2 } →
        Outside w r f d n vs cl (Ok v) w1 r2
    external_passes : {w w1 w2 : History} {cl : HandlerKind} {n : List ℕ} {k d : ℕ} {r r1 r2 : RunState}
        {vs : List (List ℕ)} {dn : Conversed} {f : Frame} {o : Result (List ℕ) Stop} →
        external_named w.now.externals (calls_function cl) n ≡ Some k →
        Converses w r d k vs (Ok dn) w1 r1 →
        dn.passes ≡ true →
        BuiltInGives w1 r1 f d n vs cl o w2 r2 →
        Outside w r f d n vs cl o w2 r2

  -- What is built in, what is ignored, and what nobody understands.
  pub data BuiltInGives : History → RunState → Frame → ℕ → List ℕ → List (List ℕ) → HandlerKind → Result (List ℕ) Stop
      → History → RunState → Type 0 where
    built_in_memory : {w w1 : History} {r r1 : RunState} {f : Frame} {d : ℕ} {n : List ℕ} {vs : List (List ℕ)}
        {cl : HandlerKind} →
        BuiltInGives w r f d n vs cl (Err Memory) w1 r1
    value_call : {cl : HandlerKind} {n t : List ℕ} {vs : List (List ℕ)} {w w1 : History} {r r1 : RunState} {f : Frame}
        {d : ℕ} {o : Result (List ℕ) Stop} →
        built_in_named cl n ≡ Some Value →
        only vs ≡ Some t →
        TextVal w r f d t o w1 r1 →
        BuiltInGives w r f d n vs cl o w1 r1
    value_arguments : {cl : HandlerKind} {n : List ℕ} {vs : List (List ℕ)} {w : History} {r : RunState} {f : Frame}
        {d : ℕ} →
        built_in_named cl n ≡ Some Value →
        only vs ≡ None →
        BuiltInGives w r f d n vs cl (Err (Faults BadArgument)) w r
    function_call : {cl : HandlerKind} {n : List ℕ} {fu : Func} {vs : List (List ℕ)} {o : Result (List ℕ) Stop}
        {w : History} {r : RunState} {f : Frame} {d : ℕ} →
        built_in_named cl n ≡ Some (BuiltInFunction fu) →
        Yields (built_in fu vs) o →
        BuiltInGives w r f d n vs cl o w r
    menu_unknown : {cl : HandlerKind} {n : List ℕ} {vs : List (List ℕ)} {w : History} {r : RunState} {f : Frame} {d : ℕ}
        →
        built_in_named cl n ≡ Some DoMenu →
        item_named vs ≡ None →
        BuiltInGives w r f d n vs cl (Err (Faults BadArgument)) w r
    menu_item : {cl : HandlerKind} {n : List ℕ} {vs : List (List ℕ)} {it : Item} {w w1 : History} {r r1 : RunState}
        {f : Frame} {d : ℕ} {o : Result (List ℕ) Stop} →
        built_in_named cl n ≡ Some DoMenu →
        item_named vs ≡ Some it →
        Menu w r f d it o w1 r1 →
        BuiltInGives w r f d n vs cl o w1 r1
    ignored_message : {cl : HandlerKind} {n : List ℕ} {w : History} {r : RunState} {f : Frame} {d : ℕ}
        {vs : List (List ℕ)} →
        built_in_named cl n ≡ None →
        is_ignored cl n ≡ true →
        BuiltInGives w r f d n vs cl (Ok []) w r
    not_understood : {cl : HandlerKind} {n : List ℕ} {w : History} {r : RunState} {f : Frame} {d : ℕ}
        {vs : List (List ℕ)} →
        built_in_named cl n ≡ None →
        is_ignored cl n ≡ false →
        BuiltInGives w r f d n vs cl (Err (Faults CantUnderstand)) w r

  -- ---- messages of the system, go and the menu

  -- A message of the system to an object; none is sent while lockMessages is true.
  pub data System : History → RunState → Frame → ℕ → ℕ → SystemMessage → Result (List ℕ) Stop → History → RunState
      → Type 0 where
    system_memory : {w w1 : History} {r r1 : RunState} {f : Frame} {d i : ℕ} {mg : SystemMessage} →
        System w r f d i mg (Err Memory) w1 r1
    system_locked : {r : RunState} {w : History} {f : Frame} {d i : ℕ} {mg : SystemMessage} →
        r.lock_messages ≡ true →
        System w r f d i mg (Ok []) w r
    system : {r r1 : RunState} {n : List ℕ} {mg : SystemMessage} {w w1 : History} {f : Frame} {d i : ℕ}
        {o : Result (List ℕ) Stop} →
        r.lock_messages ≡ false →
        n ≡ message_name mg →
        Sends w r f d i n [] Command o w1 r1 →
        System w r f d i mg o w1 r1

  -- Messages of the system, each to the card that is current at that moment.
  pub data Systems : History → RunState → Frame → ℕ → List SystemMessage → Result (List ℕ) Stop → History → RunState
      → Type 0 where
    systems_memory : {w w1 : History} {r r1 : RunState} {f : Frame} {d : ℕ} {ms : List SystemMessage} →
        Systems w r f d ms (Err Memory) w1 r1
    systems_done : {ms : List SystemMessage} {w : History} {r : RunState} {f : Frame} {d : ℕ} →
        ms ≡ [] →
        Systems w r f d ms (Ok []) w r
    systems_stop : {ms ms1 : List SystemMessage} {mg : SystemMessage} {i d : ℕ} {w w1 : History} {r r1 : RunState}
        {f : Frame} {z : Stop} →
        ms ≡ mg ∷ ms1 →
        i ≡ w.now.current →
        System w r f d i mg (Err z) w1 r1 →
        Systems w r f d ms (Err z) w1 r1
    systems_more : {ms ms1 : List SystemMessage} {mg : SystemMessage} {i d : ℕ} {w w1 w2 : History} {r r1 r2 : RunState}
        {f : Frame} {v : List ℕ} {o : Result (List ℕ) Stop} →
        ms ≡ mg ∷ ms1 →
        i ≡ w.now.current →
        System w r f d i mg (Ok v) w1 r1 →
        Systems w1 r1 f d ms1 o w2 r2 →
        Systems w r f d ms o w2 r2

  -- To go to a card: its background is compared before the messages.
  pub data Goes : History → RunState → Frame → ℕ → ℕ → Result (List ℕ) Stop → History → RunState → Type 0 where
    go_memory : {w w1 : History} {r r1 : RunState} {f : Frame} {d i : ℕ} →
        Goes w r f d i (Err Memory) w1 r1
    go_stays : {i d : ℕ} {w : History} {r : RunState} {f : Frame} →
        nat_eq i w.now.current ≡ true →
        Goes w r f d i (Ok []) w r
    go_close_stops : {i d : ℕ} {w w1 : History} {b : Bool} {r r1 : RunState} {f : Frame} {z : Stop} →
        nat_eq i w.now.current ≡ false →
        b ≡ differ w.now.stack w.now.current w.now.stack i →
        Systems w r f d (closing b) (Err z) w1 r1 →
        Goes w r f d i (Err z) w1 r1
    go_gone : {i d : ℕ} {w w1 : History} {b : Bool} {r r1 : RunState} {f : Frame} {v : List ℕ} →
        nat_eq i w.now.current ≡ false →
        b ≡ differ w.now.stack w.now.current w.now.stack i →
        Systems w r f d (closing b) (Ok v) w1 r1 →
        has_kind is_card w1.now.stack i ≡ false →
        Goes w r f d i (Err (Faults NoSuchObject)) w1 r1
    go_arrives : {i d : ℕ} {w w1 w2 w3 : History} {b : Bool} {r r1 r2 : RunState} {f : Frame} {v : List ℕ}
        {o : Result (List ℕ) Stop} →
        nat_eq i w.now.current ≡ false →
        b ≡ differ w.now.stack w.now.current w.now.stack i →
        Systems w r f d (closing b) (Ok v) w1 r1 →
        has_kind is_card w1.now.stack i ≡ true →
        Made w1 w2 (Current i) →
        Systems w2 r1 f d (opening b) o w3 r2 →
        Goes w r f d i o w3 r2

  -- The items of `doMenu`.
  pub data Menu : History → RunState → Frame → ℕ → Item → Result (List ℕ) Stop → History → RunState → Type 0 where
    menu_memory : {w w1 : History} {r r1 : RunState} {f : Frame} {d : ℕ} {it : Item} →
        Menu w r f d it (Err Memory) w1 r1
    card_close_stops : {it : Item} {w w1 : History} {r r1 : RunState} {f : Frame} {d : ℕ} {z : Stop} →
        it ≡ NewCardItem →
        Systems w r f d (closing false) (Err z) w1 r1 →
        Menu w r f d it (Err z) w1 r1
    card_full : {it : Item} {w w1 w2 : History} {r r1 : RunState} {f : Frame} {d : ℕ} {v : List ℕ} {z : Stop} →
        it ≡ NewCardItem →
        Systems w r f d (closing false) (Ok v) w1 r1 →
        Adds w1 NewCard (Err z) w2 →
        Menu w r f d it (Err z) w2 r1
    new_card : {it : Item} {w w1 w2 w3 : History} {r r1 r2 : RunState} {f : Frame} {d : ℕ} {v : List ℕ}
        {o : Result (List ℕ) Stop} →
        it ≡ NewCardItem →
        Systems w r f d (closing false) (Ok v) w1 r1 →
        Adds w1 NewCard (Ok tt) w2 →
        Systems w2 r1 f d new_card_messages o w3 r2 →
        Menu w r f d it o w3 r2
    background_close_stops : {it : Item} {w w1 : History} {r r1 : RunState} {f : Frame} {d : ℕ} {z : Stop} →
        it ≡ NewBackgroundItem →
        Systems w r f d (closing true) (Err z) w1 r1 →
        Menu w r f d it (Err z) w1 r1
    background_full : {it : Item} {w w1 w2 : History} {r r1 : RunState} {f : Frame} {d : ℕ} {v : List ℕ} {z : Stop} →
        it ≡ NewBackgroundItem →
        Systems w r f d (closing true) (Ok v) w1 r1 →
        Adds w1 NewBackground (Err z) w2 →
        Menu w r f d it (Err z) w2 r1
    new_background : {it : Item} {w w1 w2 w3 : History} {r r1 r2 : RunState} {f : Frame} {d : ℕ} {v : List ℕ}
        {o : Result (List ℕ) Stop} →
        it ≡ NewBackgroundItem →
        Systems w r f d (closing true) (Ok v) w1 r1 →
        Adds w1 NewBackground (Ok tt) w2 →
        Systems w2 r1 f d new_background_messages o w3 r2 →
        Menu w r f d it o w3 r2
    part_full : {it : Item} {pk : PartKind} {la : LayerId} {w w1 : History} {r : RunState} {z : Stop} {f : Frame}
        {d : ℕ} →
        it ≡ NewPartItem pk →
        la ≡ new_layer w.now r →
        Adds w (NewPart la pk) (Err z) w1 →
        Menu w r f d it (Err z) w1 r
    new_part : {it : Item} {pk : PartKind} {la : LayerId} {w w1 : History} {r : RunState} {f : Frame} {d : ℕ} →
        it ≡ NewPartItem pk →
        la ≡ new_layer w.now r →
        Adds w (NewPart la pk) (Ok tt) w1 →
        Menu w r f d it (Ok []) w1 r
    delete_refused : {it : Item} {w : History} {r : RunState} {f : Frame} {d : ℕ} →
        it ≡ DeleteCardItem →
        may_delete w.now.stack w.now.current ≡ false →
        Menu w r f d it (Err (Faults CantDelete)) w r
    delete_card : {it : Item} {w w1 w2 : History} {b : Bool} {r r1 : RunState} {f : Frame} {d : ℕ}
        {o : Result (List ℕ) Stop} →
        it ≡ DeleteCardItem →
        may_delete w.now.stack w.now.current ≡ true →
        Made w w1 DeleteCard →
        b ≡ differ w.now.stack w.now.current w1.now.stack w1.now.current →
        Systems w1 r f d (opening b) o w2 r1 →
        Menu w r f d it o w2 r1

  -- ---- externals

  -- A conversation with an external: its arguments are counted, then the depth is tested.
  pub data Converses : History → RunState → ℕ → ℕ → List (List ℕ) → Result Conversed Stop → History → RunState
      → Type 0 where
    converse_memory : {w w1 : History} {r r1 : RunState} {d k : ℕ} {vs : List (List ℕ)} →
        Converses w r d k vs (Err Memory) w1 r1
    too_many_arguments : {vs : List (List ℕ)} {w : History} {r : RunState} {d k : ℕ} →
        16 < length vs →
        Converses w r d k vs (Err (Faults BadArgument)) w r
    conversation_too_deep : {vs : List (List ℕ)} {d k : ℕ} {w : History} {r : RunState} →
        length vs ≤ 16 →
        d ≡ 100 →
        Converses w r d k vs (Err (Faults TooDeep)) w r
    converses : {vs : List (List ℕ)} {d k : ℕ} {inp : Input} {w w1 : History} {r r1 : RunState}
        {odn : Result Conversed Stop} →
        length vs ≤ 16 →
        d < 100 →
        inp ≡ Start vs →
        Talks w r (d + 1) k inp odn w1 r1 →
        Converses w r d k vs odn w1 r1

  -- The turns of a conversation, a step before each.
  pub data Talks : History → RunState → ℕ → ℕ → Input → Result Conversed Stop → History → RunState → Type 0 where
    talk_memory : {w w1 : History} {r r1 : RunState} {d k : ℕ} {inp : Input} →
        Talks w r d k inp (Err Memory) w1 r1
    talk_no_step : {r r1 : RunState} {z : Stop} {w : History} {d k : ℕ} {inp : Input} →
        Step r (Err z) r1 →
        Talks w r d k inp (Err z) w r1
    talk_done : {r r1 : RunState} {w w1 : History} {k d : ℕ} {inp : Input} {ask : Ask} {v : List ℕ} {b : Bool}
        {dn : Conversed} →
        Step r (Ok tt) r1 →
        TookTurn w w1 k inp ask →
        ask ≡ Done v b →
        dn ≡ record { value = v; passes = b } →
        Talks w r d k inp (Ok dn) w1 r1
    talk_fails : {r r1 : RunState} {w w1 : History} {k d : ℕ} {inp : Input} {ask : Ask} →
        Step r (Ok tt) r1 →
        TookTurn w w1 k inp ask →
        ask ≡ Fail →
        Talks w r d k inp (Err (Faults ExternalFault)) w1 r1
    talk_stops : {r r1 r2 : RunState} {w w1 w2 : History} {k d : ℕ} {inp : Input} {ask : Ask} {z : Stop} →
        Step r (Ok tt) r1 →
        TookTurn w w1 k inp ask →
        CallsBack w1 r1 d ask (Err z) w2 r2 →
        Talks w r d k inp (Err z) w2 r2
    talk_goes_on : {r r1 r2 r3 : RunState} {w w1 w2 w3 : History} {k d : ℕ} {inp inp1 : Input} {ask : Ask}
        {odn : Result Conversed Stop} →
        Step r (Ok tt) r1 →
        TookTurn w w1 k inp ask →
        CallsBack w1 r1 d ask (Ok inp1) w2 r2 →
        Talks w2 r2 d k inp1 odn w3 r3 →
        Talks w r d k inp odn w3 r3

  -- A call-back, and the answer that is handed in at the next turn.
  pub data CallsBack : History → RunState → ℕ → Ask → Result Input Stop → History → RunState → Type 0 where
    call_back_memory : {w w1 : History} {r r1 : RunState} {d : ℕ} {ask : Ask} →
        CallsBack w r d ask (Err Memory) w1 r1
    message_syntax : {ask : Ask} {vs : List (List ℕ)} {t : List ℕ} {z : Stop} {w : History} {r : RunState} {d : ℕ} →
        ask ≡ SendCardMessage vs t →
        Parses ReadsLines t (Err z) →
        CallsBack w r d ask (Err z) w r
    message_stops : {ask : Ask} {vs : List (List ℕ)} {t : List ℕ} {ss : stm.Stmts} {f f1 : Frame} {w w1 : History}
        {r r1 : RunState} {d : ℕ} {z : Stop} →
        ask ≡ SendCardMessage vs t →
        Parses ReadsLines t (Ok ss) →
        f ≡ typed_frame w →
        Block w r f d ss (Err z) w1 r1 f1 →
        CallsBack w r d ask (Err z) w1 r1
    message_runs : {ask : Ask} {vs : List (List ℕ)} {t : List ℕ} {ss : stm.Stmts} {f f1 : Frame} {w w1 : History}
        {r r1 : RunState} {d : ℕ} {h : How} {inp : Input} →
        ask ≡ SendCardMessage vs t →
        Parses ReadsLines t (Ok ss) →
        f ≡ typed_frame w →
        Block w r f d ss (Ok h) w1 r1 f1 →
        inp ≡ Answer vs [] →
        CallsBack w r d ask (Ok inp) w1 r1
    eval_syntax : {ask : Ask} {vs : List (List ℕ)} {t : List ℕ} {z : Stop} {w : History} {r : RunState} {d : ℕ} →
        ask ≡ EvalExpr vs t →
        Parses ReadsExpr t (Err z) →
        CallsBack w r d ask (Err z) w r
    eval_stops : {ask : Ask} {vs : List (List ℕ)} {t : List ℕ} {e : tree.Expr} {f : Frame} {w w1 : History}
        {r r1 : RunState} {d : ℕ} {z : Stop} →
        ask ≡ EvalExpr vs t →
        Parses ReadsExpr t (Ok e) →
        f ≡ typed_frame w →
        Val w r f d e (Err z) w1 r1 →
        CallsBack w r d ask (Err z) w1 r1
    evaluates : {ask : Ask} {vs : List (List ℕ)} {t v : List ℕ} {e : tree.Expr} {f : Frame} {w w1 : History}
        {r r1 : RunState} {d : ℕ} {inp : Input} →
        ask ≡ EvalExpr vs t →
        Parses ReadsExpr t (Ok e) →
        f ≡ typed_frame w →
        Val w r f d e (Ok v) w1 r1 →
        inp ≡ Answer vs v →
        CallsBack w r d ask (Ok inp) w1 r1
    bad_global : {ask : Ask} {vs : List (List ℕ)} {n v : List ℕ} {w : History} {r : RunState} {d : ℕ} →
        ask ≡ SetGlobal vs n v →
        is_name n ≡ false →
        CallsBack w r d ask (Err (Faults BadArgument)) w r
    global_set : {ask : Ask} {vs : List (List ℕ)} {n v : List ℕ} {f f1 : Frame} {w w1 : History} {inp : Input}
        {r : RunState} {d : ℕ} →
        ask ≡ SetGlobal vs n v →
        is_name n ≡ true →
        f ≡ typed_frame w →
        Stores w f (named f.variables n) v w1 f1 →
        inp ≡ Answer vs [] →
        CallsBack w r d ask (Ok inp) w1 r
    no_such_field : {ask : Ask} {vs : List (List ℕ)} {b : Bool} {n v : List ℕ} {f : Frame} {w : History} {z : Stop}
        {r : RunState} {d : ℕ} →
        ask ≡ SetFieldByName vs b n v →
        f ≡ typed_frame w →
        Yields (field_named_place w.now f.variables b n) (Err z) →
        CallsBack w r d ask (Err z) w r
    field_set : {ask : Ask} {vs : List (List ℕ)} {b : Bool} {n v : List ℕ} {f f1 : Frame} {w w1 : History}
        {pl : PlaceView} {inp : Input} {r : RunState} {d : ℕ} →
        ask ≡ SetFieldByName vs b n v →
        f ≡ typed_frame w →
        Yields (field_named_place w.now f.variables b n) (Ok pl) →
        Stores w f pl.storage v w1 f1 →
        inp ≡ Answer vs [] →
        CallsBack w r d ask (Ok inp) w1 r

  -- ---- commands

  -- The lines of a typed command: the card that is current as it begins is `me`.
  pub data Line : History → RunState → stm.Stmts → Result (Unit {0}) Stop → History → RunState → Type 0 where
    line_memory : {w w1 : History} {r r1 : RunState} {ss : stm.Stmts} →
        Line w r ss (Err Memory) w1 r1
    line_stops : {f f1 : Frame} {w w1 : History} {r r1 : RunState} {ss : stm.Stmts} {z : Stop} →
        f ≡ typed_frame w →
        Block w r f 0 ss (Err z) w1 r1 f1 →
        Line w r ss (Err z) w1 r1
    line : {f f1 : Frame} {w w1 : History} {r r1 : RunState} {ss : stm.Stmts} {h : How} →
        f ≡ typed_frame w →
        Block w r f 0 ss (Ok h) w1 r1 f1 →
        Line w r ss (Ok tt) w1 r1

  -- A message that is sent to an object by itself.
  pub data Message : History → RunState → ℕ → List ℕ → List (List ℕ) → Result (Unit {0}) Stop → History → RunState
      → Type 0 where
    message_memory : {w w1 : History} {r r1 : RunState} {i : ℕ} {n : List ℕ} {vs : List (List ℕ)} →
        Message w r i n vs (Err Memory) w1 r1
    sent_alone_stops : {f : Frame} {w w1 : History} {r r1 : RunState} {i : ℕ} {n : List ℕ} {vs : List (List ℕ)}
        {z : Stop} →
        f ≡ typed_frame w →
        Sends w r f 0 i n vs Command (Err z) w1 r1 →
        Message w r i n vs (Err z) w1 r1
    sent_alone : {f : Frame} {w w1 : History} {r r1 : RunState} {i : ℕ} {n v : List ℕ} {vs : List (List ℕ)} →
        f ≡ typed_frame w →
        Sends w r f 0 i n vs Command (Ok v) w1 r1 →
        Message w r i n vs (Ok tt) w1 r1

  -- ---- dot lines that send messages

  -- The object of a reference in a dot line. The card that is current as it begins is `me`.
  pub data Refers : History → RunState → tree.Part → Result ℕ Stop → History → RunState → Type 0 where
    refer_memory : {w w1 : History} {r r1 : RunState} {pa : tree.Part} →
        Refers w r pa (Err Memory) w1 r1
    refer_stops : {f : Frame} {w w1 : History} {r r1 : RunState} {pa : tree.Part} {z : Stop} →
        f ≡ typed_frame w →
        PartMet w r f 0 pa (Err z) w1 r1 →
        Refers w r pa (Err z) w1 r1
    refers : {f : Frame} {w w1 : History} {r r1 : RunState} {pa : tree.Part} {m : Referent} {i : ℕ} →
        f ≡ typed_frame w →
        PartMet w r f 0 pa (Ok m) w1 r1 →
        i ≡ m.object →
        Refers w r pa (Ok i) w1 r1

  -- A message of the system that a dot line sends to an object; none while lockMessages is true.
  pub data Tells : History → RunState → ℕ → SystemMessage → Result (Unit {0}) Stop → History → RunState → Type 0 where
    tell_memory : {w w1 : History} {r r1 : RunState} {i : ℕ} {mg : SystemMessage} →
        Tells w r i mg (Err Memory) w1 r1
    tells_nothing : {r : RunState} {w : History} {i : ℕ} {mg : SystemMessage} →
        r.lock_messages ≡ true →
        Tells w r i mg (Ok tt) w r
    tells : {r r1 : RunState} {n : List ℕ} {mg : SystemMessage} {w w1 : History} {i : ℕ} {ot : Result (Unit {0}) Stop} →
        r.lock_messages ≡ false →
        n ≡ message_name mg →
        Message w r i n [] ot w1 r1 →
        Tells w r i mg ot w1 r1

  -- Messages of the system, each to the card that is current at that moment, up to the first that doesn't end well.
  pub data TellsAll : History → RunState → List SystemMessage → Result (Unit {0}) Stop → History → RunState
      → Type 0 where
    tell_all_memory : {w w1 : History} {r r1 : RunState} {ms : List SystemMessage} →
        TellsAll w r ms (Err Memory) w1 r1
    none_to_tell : {ms : List SystemMessage} {w : History} {r : RunState} →
        ms ≡ [] →
        TellsAll w r ms (Ok tt) w r
    tell_stops : {ms ms1 : List SystemMessage} {mg : SystemMessage} {w w1 : History} {r r1 : RunState} {z : Stop} →
        ms ≡ mg ∷ ms1 →
        Tells w r w.now.current mg (Err z) w1 r1 →
        TellsAll w r ms (Err z) w1 r1
    tells_on : {ms ms1 : List SystemMessage} {mg : SystemMessage} {w w1 w2 : History} {r r1 r2 : RunState}
        {ot : Result (Unit {0}) Stop} →
        ms ≡ mg ∷ ms1 →
        Tells w r w.now.current mg (Ok tt) w1 r1 →
        TellsAll w1 r1 ms1 ot w2 r2 →
        TellsAll w r ms ot w2 r2

  -- `.click`: mouseDown to the part, then mouseUp where it is still there.
  pub data Clicks : History → RunState → tree.Part → Result (Unit {0}) Stop → History → RunState → Type 0 where
    click_memory : {w w1 : History} {r r1 : RunState} {pa : tree.Part} →
        Clicks w r pa (Err Memory) w1 r1
    click_misses : {w w1 : History} {r r1 : RunState} {pa : tree.Part} {z : Stop} →
        Refers w r pa (Err z) w1 r1 →
        Clicks w r pa (Err z) w1 r1
    press_stops : {w w1 w2 : History} {r r1 r2 : RunState} {pa : tree.Part} {i : ℕ} {z : Stop} →
        Refers w r pa (Ok i) w1 r1 →
        Tells w1 r1 i MouseDown (Err z) w2 r2 →
        Clicks w r pa (Err z) w2 r2
    part_goes : {w w1 w2 : History} {r r1 r2 : RunState} {pa : tree.Part} {i : ℕ} →
        Refers w r pa (Ok i) w1 r1 →
        Tells w1 r1 i MouseDown (Ok tt) w2 r2 →
        is_some (object_at w2.now.stack i) ≡ false →
        Clicks w r pa (Ok tt) w2 r2
    clicks : {w w1 w2 w3 : History} {r r1 r2 r3 : RunState} {pa : tree.Part} {i : ℕ} {ot : Result (Unit {0}) Stop} →
        Refers w r pa (Ok i) w1 r1 →
        Tells w1 r1 i MouseDown (Ok tt) w2 r2 →
        is_some (object_at w2.now.stack i) ≡ true →
        Tells w2 r2 i MouseUp ot w3 r3 →
        Clicks w r pa ot w3 r3

  -- A text takes the place of the text that a field has for a card, and the field is left; nothing happens where the
  -- field or the card is gone.
  pub data TypesOver : History → RunState → Referent → List ℕ → Result (Unit {0}) Stop → History → RunState
      → Type 0 where
    type_over_memory : {w w1 : History} {r r1 : RunState} {m : Referent} {t : List ℕ} →
        TypesOver w r m t (Err Memory) w1 r1
    typed_field_goes : {f : Frame} {w : History} {r : RunState} {m : Referent} {fa : Fault} {t : List ℕ} →
        f ≡ typed_frame w →
        field_text w.now f.variables r.delimiter m ≡ Err fa →
        TypesOver w r m t (Ok tt) w r
    types_over : {f f1 : Frame} {w w1 w2 : History} {r r1 : RunState} {m : Referent} {v t : List ℕ} {pl : PlaceView}
        {i : ℕ} {mg : SystemMessage} {ot : Result (Unit {0}) Stop} →
        f ≡ typed_frame w →
        field_text w.now f.variables r.delimiter m ≡ Ok v →
        field_place w.now m ≡ Ok pl →
        Stores w f pl.storage t w1 f1 →
        i ≡ m.object →
        mg ≡ leaving_message v t →
        Tells w1 r i mg ot w2 r1 →
        TypesOver w r m t ot w2 r1

  -- `.type` into a field that isn't locked: openField to it, then the text for the card that was current as it was
  -- found.
  pub data TypesInto : History → RunState → List ℕ → tree.Part → Result (Unit {0}) Stop → History → RunState
      → Type 0 where
    type_memory : {w w1 : History} {r r1 : RunState} {t : List ℕ} {pa : tree.Part} →
        TypesInto w r t pa (Err Memory) w1 r1
    type_misses : {w w1 : History} {r r1 : RunState} {pa : tree.Part} {z : Stop} {t : List ℕ} →
        Refers w r pa (Err z) w1 r1 →
        TypesInto w r t pa (Err z) w1 r1
    field_open_stops : {w w1 w2 : History} {r r1 r2 : RunState} {pa : tree.Part} {i : ℕ} {z : Stop} {t : List ℕ} →
        Refers w r pa (Ok i) w1 r1 →
        locks_text w1.now.stack i ≡ false →
        Tells w1 r1 i OpenField (Err z) w2 r2 →
        TypesInto w r t pa (Err z) w2 r2
    types_into : {w w1 w2 w3 : History} {r r1 r2 r3 : RunState} {pa : tree.Part} {i : ℕ} {m : Referent} {t : List ℕ}
        {ot : Result (Unit {0}) Stop} →
        Refers w r pa (Ok i) w1 r1 →
        locks_text w1.now.stack i ≡ false →
        Tells w1 r1 i OpenField (Ok tt) w2 r2 →
        m ≡ met_here w1.now.current i →
        TypesOver w2 r2 m t ot w3 r3 →
        TypesInto w r t pa ot w3 r3

  -- What a user does: a typed command, `.open`, `.click` or `.type`.
  pub data Acts : History → RunState → Action → Result (Unit {0}) Stop → History → RunState → Type 0 where
    acts_by_lines : {ac : Action} {ss : stm.Stmts} {w w1 : History} {r r1 : RunState} {ot : Result (Unit {0}) Stop} →
        ac ≡ act.run_lines ss →
        Line w r ss ot w1 r1 →
        Acts w r ac ot w1 r1
    acts_by_opening : {ac : Action} {w w1 : History} {r r1 : RunState} {ot : Result (Unit {0}) Stop} →
        ac ≡ act.open_stack →
        TellsAll w r opening_stack ot w1 r1 →
        Acts w r ac ot w1 r1
    acts_by_click : {ac : Action} {pa : tree.Part} {w w1 : History} {r r1 : RunState} {ot : Result (Unit {0}) Stop} →
        ac ≡ act.click pa →
        Clicks w r pa ot w1 r1 →
        Acts w r ac ot w1 r1
    acts_by_typing : {ac : Action} {t : List ℕ} {pa : tree.Part} {w w1 : History} {r r1 : RunState}
        {ot : Result (Unit {0}) Stop} →
        ac ≡ act.type_text t pa →
        TypesInto w r t pa ot w1 r1 →
        Acts w r ac ot w1 r1
