-- Messages, what is built in, the messages of the system, `go` and the menu, and conversations with externals,
-- computed.
use Rattle.std.specs.Prelude.{ℕ, ◌+◌, List, [], ◌∷◌, length, nat_lt, nat_eq, Bool, true, false, Option, Some, None, Ok}
use Rattle.std.specs.Prelude.{Err}
use Rattle.ht_values.specs.declared.fault.Fault.TheVariants.{CantUnderstand, NoSuchObject, TooDeep, ExternalFault}
use Rattle.ht_values.specs.declared.fault.Fault.TheVariants.{CantDelete, BadArgument}
use Rattle.ht_values.specs.Functions.{built_in}
use Rattle.ht_lex.specs.Words.{is_name}
use Rattle.ht_grammar.specs.declared.vocabulary.HandlerKind.{HandlerKind}
use Rattle.ht_grammar.specs.declared.vocabulary.HandlerKind.TheVariants.{Command}
use Rattle.ht_grammar.specs.Lines.{typed_lines}
use Rattle.ht_grammar.specs.Reading.{expression}
use Rattle.ht_grammar.specs.Statements as stm
use Rattle.ht_grammar.specs.Trees as tree
use Rattle.ht_grammar.specs.Whole.{sent_message}
use Rattle.object_table.specs.Objects.{has_kind, is_card}
use Rattle.externals.specs.declared.external.Ask.{Ask}
use Rattle.externals.specs.declared.external.Ask.TheVariants.{SendCardMessage, EvalExpr, SetGlobal, SetFieldByName}
use Rattle.externals.specs.declared.external.Ask.TheVariants.{Done, Fail}
use Rattle.externals.specs.declared.external.Input.{Input}
use Rattle.externals.specs.declared.external.Input.TheVariants.{Start, Answer}
use Rattle.journal_entries.specs.declared.change.Change.TheVariants.{Current, NewCard, NewBackground, NewPart}
use Rattle.journal_entries.specs.declared.change.Change.TheVariants.{DeleteCard}
use Rattle.object_references.specs.Deletion.{may_delete}
use Rattle.containers.specs.Places.{named}
use Rattle.msg_path.specs.BuiltIns.{calls_function, external_named, built_in_named}
use Rattle.msg_path.specs.declared.built_in.BuiltIn.{BuiltIn}
use Rattle.msg_path.specs.declared.built_in.BuiltIn.TheVariants.{DoMenu, Value, Function as BuiltInFunction}
use Rattle.msg_path.specs.Handlers.{HandlerFound}
use Rattle.msg_path.specs.Path.{path, path_after}
use Rattle.meaning.specs.declared.end.Conversed.{Conversed}
use Rattle.meaning.specs.declared.frame.Frame.{Frame}
use Rattle.meaning.specs.declared.end.Stop.TheVariants.{Fault as Faults}
use Rattle.meaning.specs.declared.system.SystemMessage.{SystemMessage}
use Rattle.meaning.specs.declared.item.Item.{Item}
use Rattle.meaning.specs.declared.item.Item.TheVariants.{NewCard as NewCardItem, NewBackground as NewBackgroundItem}
use Rattle.meaning.specs.declared.item.Item.TheVariants.{NewPart as NewPartItem, DeleteCard as DeleteCardItem}
use Rattle.meaning.specs.Places.{field_named_place}
use Rattle.meaning.specs.Repeats.{returned, ends}
use Rattle.meaning.specs.Menu.{item_named, new_layer, closing, opening, differ, new_card_messages}
use Rattle.meaning.specs.Menu.{new_background_messages, message_name}
use Rattle.meaning.specs.Messages.{parameters_of, lines_of, is_ignored, only}
use Rattle.meaning.specs.State.{RunState, noted, typed_frame_at, handler_frame}
use Rattle.definitional_interpreter.specs.Told.{Visible, Told, unknown, told, after, after_lines, choose, maybe, gave}
use Rattle.definitional_interpreter.specs.Changes.{yielded, step, make, store, add_objects, turn}
use Rattle.definitional_interpreter.specs.Texts.{parsed, first_found}
use Rattle.definitional_interpreter.specs.Families.{Meanings}

-- ---- messages

abbrev pub calls_of : Meanings → Visible → RunState → Frame → ℕ → ℕ → List ℕ → tree.Exprs → HandlerKind → Told (List ℕ)
calls_of m w r f d i n es kind = after (m.vals w r f d es []) (λ vs w r. m.sends w r f d i n vs kind)

abbrev pub called : Meanings → Visible → RunState → Frame → ℕ → ℕ → stm.Message → Told (List ℕ)
called m w r f d i (stm.message n es) = m.calls w r f d i n es Command

abbrev pub sends_text_of : Meanings → Visible → RunState → Frame → ℕ → ℕ → List ℕ → Told (List ℕ)
sends_text_of m w r f d i t = after (told (parsed sent_message t) w r) (λ message w r. called m w r f d i message)

-- a message: a step, then along the path
abbrev pub sends_of : Meanings → Visible → RunState → Frame → ℕ → ℕ → List ℕ → List (List ℕ) → HandlerKind →
    Told (List ℕ)
sends_of m w r f d i n vs kind =
    after (step w r) (λ _ w r. m.along w (noted r n i) f d i (path w.now.stack w.now.current i) n vs kind)

-- the handler that a message met on its path, and where it passes the message the path after it
abbrev pub met_by : Meanings → Visible → RunState → Frame → ℕ → ℕ → List ℕ → List (List ℕ) → HandlerKind →
    Option HandlerFound → Told (List ℕ)
met_by m w r f d i n vs kind (Some handler) =
    choose (nat_lt d 100)
    (λ _. after_lines
    (m.block w r (handler_frame handler.object i (parameters_of handler.handler) vs) (d + 1)
    (lines_of handler.handler)) (λ h w r.
    maybe (ends kind h r)
    (λ out. gave w out)
    (λ _. m.along w r f d i (path_after w.now.stack w.now.current handler.object) n vs kind)))
    (λ _. told (Err (Faults TooDeep)) w r)
met_by m w r f d i n vs kind None = m.outside w r f d n vs kind

abbrev pub along_of : Meanings → Visible → RunState → Frame → ℕ → ℕ → List ℕ → List ℕ → List (List ℕ) → HandlerKind →
    Told (List ℕ)
along_of m w r f d i is n vs kind =
    after (told (first_found w.now.stack is kind n) w r) (λ found w r. met_by m w r f d i n vs kind found)

abbrev pub outside_of : Meanings → Visible → RunState → Frame → ℕ → List ℕ → List (List ℕ) → HandlerKind → Told (List ℕ)
outside_of m w r f d n vs kind =
    maybe (external_named w.now.externals (calls_function kind) n)
    (λ k. after (m.converses w r d k vs)
    (λ c w r. choose c.passes (λ _. m.built_in_gives w r f d n vs kind) (λ _. gave w (returned kind c.value r))))
    (λ _. m.built_in_gives w r f d n vs kind)

abbrev pub built_in_by : Meanings → Visible → RunState → Frame → ℕ → BuiltIn → List (List ℕ) → Told (List ℕ)
built_in_by m w r f d Value vs = maybe (only vs) (λ t. m.text_val w r f d t) (λ _. told (Err (Faults BadArgument)) w r)
built_in_by m w r f d (BuiltInFunction fu) vs = told (yielded (built_in fu vs)) w r
built_in_by m w r f d DoMenu vs =
    maybe (item_named vs) (λ item. m.menu w r f d item) (λ _. told (Err (Faults BadArgument)) w r)

abbrev pub built_in_gives_of : Meanings → Visible → RunState → Frame → ℕ → List ℕ → List (List ℕ) → HandlerKind →
    Told (List ℕ)
built_in_gives_of m w r f d n vs kind =
    maybe (built_in_named kind n) (λ b. built_in_by m w r f d b vs)
    (λ _. choose (is_ignored kind n) (λ _. told (Ok []) w r) (λ _. told (Err (Faults CantUnderstand)) w r))

-- ---- messages of the system, go and the menu

abbrev pub system_of : Meanings → Visible → RunState → Frame → ℕ → ℕ → SystemMessage → Told (List ℕ)
system_of m w r f d i message =
    choose r.lock_messages (λ _. told (Ok []) w r) (λ _. m.sends w r f d i (message_name message) [] Command)

abbrev pub systems_of : Meanings → Visible → RunState → Frame → ℕ → List SystemMessage → Told (List ℕ)
systems_of m w r f d [] = told (Ok []) w r
systems_of m w r f d (message ∷ messages) =
    after (m.system w r f d w.now.current message) (λ _ w r. m.systems w r f d messages)

-- the background is compared before the messages
abbrev pub go_by : Meanings → Visible → RunState → Frame → ℕ → ℕ → Bool → Told (List ℕ)
go_by m w r f d card differs =
    after (m.systems w r f d (closing differs)) (λ _ w r. choose (has_kind is_card w.now.stack card)
    (λ _. after (make w r (Current card)) (λ _ w r. m.systems w r f d (opening differs)))
    (λ _. told (Err (Faults NoSuchObject)) w r))

abbrev pub goes_of : Meanings → Visible → RunState → Frame → ℕ → ℕ → Told (List ℕ)
goes_of m w r f d card =
    choose (nat_eq card w.now.current) (λ _. told (Ok []) w r)
    (λ _. go_by m w r f d card (differ w.now.stack w.now.current w.now.stack card))

abbrev pub menu_of : Meanings → Visible → RunState → Frame → ℕ → Item → Told (List ℕ)
menu_of m w r f d NewCardItem =
    after (m.systems w r f d (closing false))
    (λ _ w r. after (add_objects w r NewCard) (λ _ w r. m.systems w r f d new_card_messages))
menu_of m w r f d NewBackgroundItem =
    after (m.systems w r f d (closing true))
    (λ _ w r. after (add_objects w r NewBackground) (λ _ w r. m.systems w r f d new_background_messages))
menu_of m w r f d (NewPartItem kind) =
    after (add_objects w r (NewPart (new_layer w.now r) kind)) (λ _ w r. told (Ok []) w r)
menu_of m w r f d DeleteCardItem =
    choose (may_delete w.now.stack w.now.current)
    (λ _. after (make w r DeleteCard)
    (λ _ w2 r. m.systems w2 r f d (opening (differ w.now.stack w.now.current w2.now.stack w2.now.current))))
    (λ _. told (Err (Faults CantDelete)) w r)

-- ---- externals

abbrev pub converses_of : Meanings → Visible → RunState → ℕ → ℕ → List (List ℕ) → Told Conversed
converses_of m w r d k vs =
    choose (nat_lt 16 (length vs))
    (λ _. told (Err (Faults BadArgument)) w r)
    (λ _. choose (nat_lt d 100) (λ _. m.talks w r (d + 1) k (Start vs)) (λ _. told (Err (Faults TooDeep)) w r))

-- what a turn asks: it is done, fails, or calls back, and the answer is handed in at the next turn
abbrev pub talk_by : Meanings → Visible → RunState → ℕ → ℕ → Ask → Told Conversed
talk_by m w r d k (Done v passes) = told (Ok (record { value = v; passes = passes })) w r
talk_by m w r d k Fail = told (Err (Faults ExternalFault)) w r
talk_by m w r d k (SendCardMessage note t) =
    after (m.calls_back w r d (SendCardMessage note t)) (λ input w r. m.talks w r d k input)
talk_by m w r d k (EvalExpr note t) = after (m.calls_back w r d (EvalExpr note t)) (λ input w r. m.talks w r d k input)
talk_by m w r d k (SetGlobal note n v) =
    after (m.calls_back w r d (SetGlobal note n v)) (λ input w r. m.talks w r d k input)
talk_by m w r d k (SetFieldByName note on_card n v) =
    after (m.calls_back w r d (SetFieldByName note on_card n v)) (λ input w r. m.talks w r d k input)

abbrev pub talks_of : Meanings → Visible → RunState → ℕ → ℕ → Input → Told Conversed
talks_of m w r d k input = after (step w r) (λ _ w r. after (turn w r k input) (λ ask w r. talk_by m w r d k ask))

abbrev pub calls_back_of : Meanings → Visible → RunState → ℕ → Ask → Told Input
calls_back_of m w r d (SendCardMessage note t) =
    after (told (parsed typed_lines t) w r)
    (λ ss w r. after_lines (m.block w r (typed_frame_at w.now.current) d ss) (λ _ w r. told (Ok (Answer note [])) w r))
calls_back_of m w r d (EvalExpr note t) =
    after (told (parsed expression t) w r)
    (λ e w r. after (m.val w r (typed_frame_at w.now.current) d e) (λ v w r. told (Ok (Answer note v)) w r))
calls_back_of m w r d (SetGlobal note n v) =
    choose (is_name n)
    (λ _. after_lines
    (store w r (typed_frame_at w.now.current) (named (typed_frame_at w.now.current).variables n) v)
    (λ _ w r. told (Ok (Answer note [])) w r))
    (λ _. told (Err (Faults BadArgument)) w r)
calls_back_of m w r d (SetFieldByName note on_card n v) =
    after (told (yielded (field_named_place w.now (typed_frame_at w.now.current).variables on_card n)) w r) (λ p w r.
    after_lines (store w r (typed_frame_at w.now.current) p.storage v) (λ _ w r. told (Ok (Answer note [])) w r))
calls_back_of m w r d (Done v passes) = unknown
calls_back_of m w r d Fail = unknown
