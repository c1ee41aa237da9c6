-- Messages, the messages of the system, `go`, the menu and conversations with externals have an outcome.
use Rattle.std.proofs.Common.{◌≡◌, ℕ, suc, ◌+◌, ◌≤◌, ◌<◌, List, [], ◌∷◌, length, true, false, Option, Some, None, ◌∙◌}
use Rattle.std.proofs.Common.{Result, Ok, refl, ap, nat_eq, nat_lt, ltb-true, ltb-false}
use Rattle.ht_values.specs.Functions.{built_in}
use Rattle.ht_lex.specs.Words.{is_name}
use Rattle.ht_grammar.specs.declared.vocabulary.HandlerKind.{HandlerKind}
use Rattle.ht_grammar.specs.declared.vocabulary.HandlerKind.TheVariants.{Command, Function}
use Rattle.ht_grammar.specs.Lines.{typed_lines}
use Rattle.ht_grammar.specs.Reading.{expression}
use Rattle.ht_grammar.specs.Reads.{ReadsExpr, ReadsLines, ReadsMessage}
use Rattle.ht_grammar.specs.Statements as stm
use Rattle.ht_grammar.specs.Whole.{sent_message}
use Rattle.object_table.specs.Objects.{has_kind, is_card}
use Rattle.externals.specs.declared.external.Ask.{Ask}
use Rattle.externals.specs.declared.external.Ask.TheVariants.{SendCardMessage, EvalExpr, SetGlobal, SetFieldByName}
use Rattle.externals.specs.declared.external.Ask.TheVariants.{Done, Fail}
use Rattle.externals.specs.declared.external.Input.{Input}
use Rattle.externals.specs.declared.external.Input.TheVariants.{Start}
use Rattle.journal_entries.specs.declared.change.Change.TheVariants.{Current, NewCard, NewBackground, NewPart}
use Rattle.journal_entries.specs.declared.change.Change.TheVariants.{DeleteCard}
use Rattle.change_journal.specs.History.{History}
use Rattle.change_journal.specs.Rising.{TookTurn}
use Rattle.object_references.specs.Deletion.{may_delete}
use Rattle.msg_path.specs.BuiltIns.{calls_function, external_named, built_in_named}
use Rattle.msg_path.specs.declared.built_in.BuiltIn.{BuiltIn}
use Rattle.msg_path.specs.declared.built_in.BuiltIn.TheVariants.{DoMenu, Value, Function as BuiltInFunction}
use Rattle.msg_path.specs.Handlers.{HandlerFound}
use Rattle.msg_path.specs.Path.{path_after}
use Rattle.meaning.specs.declared.end.How.{How}
use Rattle.meaning.specs.declared.end.How.TheVariants.{Next, ExitRepeat, NextRepeat, Exit, Pass, Returns}
use Rattle.meaning.specs.declared.end.Stop.{Stop}
use Rattle.meaning.specs.declared.frame.Frame.{Frame}
use Rattle.meaning.specs.declared.item.Item.{Item}
use Rattle.meaning.specs.declared.item.Item.TheVariants.{NewCard as NewCardItem, NewBackground as NewBackgroundItem}
use Rattle.meaning.specs.declared.item.Item.TheVariants.{NewPart as NewPartItem, DeleteCard as DeleteCardItem}
use Rattle.meaning.specs.declared.system.SystemMessage.{SystemMessage}
use Rattle.meaning.specs.Meaning.{Block, SendsText, Along, Outside, BuiltInGives, System, Systems, Goes, Menu}
use Rattle.meaning.specs.Meaning.{Converses, Talks, CallsBack}
use Rattle.meaning.specs.Menu.{item_named, new_layer, closing, opening, differ, new_card_messages}
use Rattle.meaning.specs.Menu.{new_background_messages, message_name}
use Rattle.meaning.specs.Messages.{Finds, parameters_of, lines_of, is_ignored, only}
use Rattle.meaning.specs.Places.{field_named_place}
use Rattle.meaning.specs.Repeats.{returned}
use Rattle.meaning.specs.State.{RunState, Step, typed_frame, handler_frame}
use Rattle.meaning.specs.Values.{Parses}
use Rattle.totality.proofs.Chain.{Begun, Underway, Has, has, ok, fault, yield, same, then, then_lines, choose, maybe}
use Rattle.totality.proofs.Chain.{deep, nested}
use Rattle.totality.proofs.Leaves.{then_step, lift, Passes, then_parsed, then_found, then_field, then_made, then_ends}
use Rattle.totality.proofs.Leaves.{then_done_lines, field_stands, stores, stores_named, adds}
use Rattle.containers.proofs.Bases.{took_keeps as base_turn}
use Rattle.preservation.proofs.Bases.{base_calls_back}
use Rattle.preservation.proofs.CallBacks.{IsCall}
use Rattle.preservation.proofs.Ends.{given}
use Rattle.whole_states.proofs.Leaves.{named_stands, stands_after}
use Rattle.totality.proofs.Turns.{then_turn}
use Rattle.totality.proofs.Levels.{Level}
use Rattle.totality.proofs.Expressions.{sends_has, text_val_has, val_has, calls_has}
use Rattle.totality.proofs.Blocks.{block_ends, block_has}

-- a value that is returned
ended : {begun : Begun} {n : ℕ} {Rule : Result (List ℕ) Stop → History → RunState → Type 0} {w : History} {r : RunState}
    (kind : HandlerKind) (v : List ℕ) → Underway begun n w r →
    ((given : List ℕ) (r2 : RunState) → returned kind v r ≡ record { value = given; run = r2 } → Rule (Ok given) w r2) →
    Has begun n Rule
ended Command v k rule = has (Ok []) _ _ (λ e. cc) (record { is_open = k.is_open; left = k.left }) (rule [] _ refl)
ended Function v k rule = has (Ok v) _ _ (λ e. cc) k (rule v _ refl)

-- ---- messages of the system, go and the menu

system_has : {begun : Begun} {n : ℕ} → Level begun n → (w : History) (r : RunState) (f : Frame) (d i : ℕ)
    (mg : SystemMessage) → d ≤ 100 → Underway begun (suc n) w r → Has begun (suc n) (System w r f d i mg)
system_has h w r f d i mg le k =
    choose r.lock_messages (λ locked. ok _ k (System.system_locked locked))
    (λ free. same (sends_has h w r f d i (message_name mg) [] Command le k)
    (λ o w1 r1 g. System.system free refl g))

systems_has : {begun : Begun} {n : ℕ} → Level begun n → (w : History) (r : RunState) (f : Frame) (d : ℕ)
    (ms : List SystemMessage) → d ≤ 100 → Underway begun (suc n) w r → Has begun (suc n) (Systems w r f d ms)
systems_has h w r f d [] le k = ok _ k (Systems.systems_done refl)
systems_has h w r f d (mg ∷ ms) le k =
    then (system_has h w r f d w.now.current mg le k) (λ z w1 r1 g. Systems.systems_stop refl refl g)
    (λ v w1 r1 k1 g. same (systems_has h w1 r1 f d ms le k1) (λ o w2 r2 g2. Systems.systems_more refl refl g g2))

pub goes_has : {begun : Begun} {n : ℕ} → Level begun n → (w : History) (r : RunState) (f : Frame) (d card : ℕ) →
    d ≤ 100 → Underway begun (suc n) w r → Has begun (suc n) (Goes w r f d card)
goes_has h w r f d card le k =
    choose (nat_eq card w.now.current) (λ here. ok _ k (Goes.go_stays here)) (λ away.
    then (systems_has h w r f d (closing (differ w.now.stack w.now.current w.now.stack card)) le k)
    (λ z w1 r1 g. Goes.go_close_stops away refl g) (λ v w1 r1 k1 g.
    choose (has_kind is_card w1.now.stack card)
    (λ there. then_made w1 (Current card) k1
    (λ w2 k2 made. same (systems_has h w2 r1 f d (opening (differ w.now.stack w.now.current w.now.stack card)) le
    k2) (λ o w3 r2 g2. Goes.go_arrives away refl g there made g2)))
    (λ gone. fault _ k1 (Goes.go_gone away refl g gone))))

menu_has : {begun : Begun} {n : ℕ} → Level begun n → (w : History) (r : RunState) (f : Frame) (d : ℕ) (it : Item) →
    d ≤ 100 → Underway begun (suc n) w r → Has begun (suc n) (Menu w r f d it)
menu_has h w r f d NewCardItem le k =
    then (systems_has h w r f d (closing false) le k) (λ z w1 r1 g. Menu.card_close_stops refl g) (λ v w1 r1 k1 g.
    then_ends k1 (adds w1 NewCard k1.is_open) (λ z w2 g2. Menu.card_full refl g g2)
    (λ w2 k2 g2. same (systems_has h w2 r1 f d new_card_messages le k2)
    (λ o w3 r2 g3. Menu.new_card refl g g2 g3)))
menu_has h w r f d NewBackgroundItem le k =
    then (systems_has h w r f d (closing true) le k) (λ z w1 r1 g. Menu.background_close_stops refl g)
    (λ v w1 r1 k1 g.
    then_ends k1 (adds w1 NewBackground k1.is_open) (λ z w2 g2. Menu.background_full refl g g2)
    (λ w2 k2 g2. same (systems_has h w2 r1 f d new_background_messages le k2)
    (λ o w3 r2 g3. Menu.new_background refl g g2 g3)))
menu_has h w r f d (NewPartItem kind) le k = then_ends k (adds w (NewPart (new_layer w.now r) kind) k.is_open)
    (λ z w1 g. Menu.part_full refl refl g) (λ w1 k1 g. ok _ k1 (Menu.new_part refl refl g))
menu_has h w r f d DeleteCardItem le k =
    choose (may_delete w.now.stack w.now.current) (λ may. then_made w DeleteCard k (λ w1 k1 made.
    same (systems_has h w1 r f d (opening (differ w.now.stack w.now.current w1.now.stack w1.now.current)) le k1)
    (λ o w2 r1 g. Menu.delete_card refl may made refl g)))
    (λ not. fault _ k (Menu.delete_refused refl not))

-- ---- externals

-- a call-back, and the turn that gets its answer
goes_on_talking : {begun : Begun} {n : ℕ} → Level begun n → (w : History) (r : RunState) (d e : ℕ) (input : Input)
    (ask : Ask) (r1 : RunState) (w1 : History) → e < length w.now.externals → IsCall ask → Step r (Ok tt) r1 →
    TookTurn w w1 e input ask → d ≤ 100 → Underway begun n w1 r1 → Has begun n (Talks w r d e input)
goes_on_talking h w r d e input ask r1 w1 there calls st took le k1 =
    then (h.calls_back w1 r1 d ask calls le k1) (λ z w2 r2 g. Talks.talk_stops st took g)
    (λ answer w2 r2 k2 g.
    same (h.talks w2 r2 d e answer (stands_after w w2 (base_calls_back g given ∙ base_turn took) there) le k2)
    (λ o w3 r3 g2. Talks.talk_goes_on st took g g2))

talk_by : {begun : Begun} {n : ℕ} → Level begun n → (w : History) (r : RunState) (d e : ℕ) (input : Input) (ask : Ask)
    (r1 : RunState) (w1 : History) → e < length w.now.externals → Step r (Ok tt) r1 → TookTurn w w1 e input ask →
    d ≤ 100 → Underway begun n w1 r1 → Has begun n (Talks w r d e input)
talk_by h w r d e input (Done v passes) r1 w1 there st took le k1 = ok _ k1 (Talks.talk_done st took refl refl)
talk_by h w r d e input Fail r1 w1 there st took le k1 = fault _ k1 (Talks.talk_fails st took refl)
talk_by h w r d e input (SendCardMessage note t) r1 w1 there st took le k1 = goes_on_talking h w r d e input _ r1 w1
    there tt st took le k1
talk_by h w r d e input (EvalExpr note t) r1 w1 there st took le k1 = goes_on_talking h w r d e input _ r1 w1 there tt
    st took le k1
talk_by h w r d e input (SetGlobal note name v) r1 w1 there st took le k1 = goes_on_talking h w r d e input _ r1 w1
    there tt st took le k1
talk_by h w r d e input (SetFieldByName note on_card name v) r1 w1 there st took le k1 = goes_on_talking h w r d e
    input _ r1 w1 there tt st took le k1

pub talks_has : {begun : Begun} {n : ℕ} → Level begun n → (w : History) (r : RunState) (d e : ℕ) (input : Input) →
    e < length w.now.externals → d ≤ 100 → Underway begun (suc n) w r → Has begun (suc n) (Talks w r d e input)
talks_has h w r d e input there le k =
    then_step w r k (λ z r1 st. Talks.talk_no_step st)
    (λ r1 k1 st. lift (then_turn w r1 e input there k1
    (λ ask w1 k2 took. talk_by h w r d e input ask r1 w1 there st took le k2)))

converses_has : {begun : Begun} {n : ℕ} → Level begun n → (w : History) (r : RunState) (d e : ℕ) (vs : List (List ℕ)) →
    e < length w.now.externals → d ≤ 100 → Underway begun (suc n) w r → Has begun (suc n) (Converses w r d e vs)
converses_has h w r d e vs there le k =
    choose (nat_lt 16 (length vs)) (λ many. fault _ k (Converses.too_many_arguments (ltb-true 16 (length vs) many)))
    (λ few. deep d le (λ lt. same (talks_has h w r (d + 1) e (Start vs) there (nested lt) k)
    (λ o w1 r1 g. Converses.converses (ltb-false 16 (length vs) few) lt refl g))
    (λ at. fault _ k (Converses.conversation_too_deep (ltb-false 16 (length vs) few) at)))

pub calls_back_has : {begun : Begun} {n : ℕ} → Level begun n → (w : History) (r : RunState) (d : ℕ) (ask : Ask) →
    IsCall ask → d ≤ 100 → Underway begun (suc n) w r → Has begun (suc n) (CallsBack w r d ask)
calls_back_has h w r d (SendCardMessage note t) calls le k =
    then_parsed typed_lines ReadsLines t h.texts.cuts h.texts.lines k (λ z p. CallsBack.message_syntax refl p) (λ ss p.
    then_lines (block_has h w r (typed_frame w) d ss le k) (λ z w1 r1 f1 g. CallsBack.message_stops refl p refl g)
    (λ how w1 r1 f1 k1 g. ok _ k1 (CallsBack.message_runs refl p refl g refl)))
calls_back_has h w r d (EvalExpr note t) calls le k =
    then_parsed expression ReadsExpr t h.texts.cuts h.texts.expressions k (λ z p. CallsBack.eval_syntax refl p) (λ e p.
    then (val_has h w r (typed_frame w) d e le k) (λ z w1 r1 g. CallsBack.eval_stops refl p refl g)
    (λ v w1 r1 k1 g. ok _ k1 (CallsBack.evaluates refl p refl g refl)))
calls_back_has h w r d (SetGlobal note name v) calls le k =
    choose (is_name name)
    (λ named. then_done_lines k (stores_named w (typed_frame w) name v k.is_open)
    (λ w1 f1 k1 g. ok _ k1 (CallsBack.global_set refl named refl g refl)))
    (λ bad. fault _ k (CallsBack.bad_global refl bad))
calls_back_has h w r d (SetFieldByName note on_card name v) calls le k =
    then_field (field_named_place w.now (typed_frame w).variables on_card name) k
    (λ z y. CallsBack.no_such_field refl refl y) (λ p y.
    let stands = field_stands w.now (typed_frame w).variables on_card name y in
    then_done_lines k (stores w (typed_frame w) p.storage v stands k.is_open)
    (λ w1 f1 k1 g. ok _ k1 (CallsBack.field_set refl refl y g refl)))
calls_back_has h w r d (Done v passes) calls le k = absurd calls
calls_back_has h w r d Fail calls le k = absurd calls

-- ---- messages

built_in_by : {begun : Begun} {n : ℕ} → Level begun n → (w : History) (r : RunState) (f : Frame) (d : ℕ) (name : List ℕ)
    (vs : List (List ℕ)) (kind : HandlerKind) (b : BuiltIn) → built_in_named kind name ≡ Some b → d ≤ 100 →
    Underway begun (suc n) w r → Has begun (suc n) (BuiltInGives w r f d name vs kind)
built_in_by h w r f d name vs kind Value is le k =
    maybe (only vs) (λ t one. same (text_val_has h w r f d t le k)
    (λ o w1 r1 g. BuiltInGives.value_call is one g)) (λ none. fault _ k (BuiltInGives.value_arguments is none))
built_in_by h w r f d name vs kind (BuiltInFunction fu) is le k = yield (built_in fu vs) k
    (λ o y. BuiltInGives.function_call is y)
built_in_by h w r f d name vs kind DoMenu is le k =
    maybe (item_named vs)
    (λ item named. same (menu_has h w r f d item le k) (λ o w1 r1 g. BuiltInGives.menu_item is named g))
    (λ none. fault _ k (BuiltInGives.menu_unknown is none))

built_in_has : {begun : Begun} {n : ℕ} → Level begun n → (w : History) (r : RunState) (f : Frame) (d : ℕ)
    (name : List ℕ) (vs : List (List ℕ)) (kind : HandlerKind) → d ≤ 100 → Underway begun (suc n) w r →
    Has begun (suc n) (BuiltInGives w r f d name vs kind)
built_in_has h w r f d name vs kind le k =
    maybe (built_in_named kind name) (λ b is. built_in_by h w r f d name vs kind b is le k)
    (λ isnt. choose (is_ignored kind name) (λ ignored. ok _ k (BuiltInGives.ignored_message isnt ignored))
    (λ unknown. fault _ k (BuiltInGives.not_understood isnt unknown)))

outside_has : {begun : Begun} {n : ℕ} → Level begun n → (w : History) (r : RunState) (f : Frame) (d : ℕ) (name : List ℕ)
    (vs : List (List ℕ)) (kind : HandlerKind) → d ≤ 100 → Underway begun (suc n) w r →
    Has begun (suc n) (Outside w r f d name vs kind)
outside_has h w r f d name vs kind le k =
    maybe (external_named w.now.externals (calls_function kind) name)
    (λ e is. then (converses_has h w r d e vs (named_stands w _ _ is) le k)
    (λ z w1 r1 g. Outside.external_stops is g) (λ c w1 r1 k1 g.
    choose c.passes (λ passes. same (built_in_has h w1 r1 f d name vs kind le k1)
    (λ o w2 r2 g2. Outside.external_passes is g passes g2))
    (λ ends. ended kind c.value k1 (λ v r2 gives. Outside.external_ends is g ends gives))))
    (λ isnt. same (built_in_has h w r f d name vs kind le k) (λ o w1 r1 g. Outside.no_external isnt g))

-- how the lines of a handler end, and what becomes of the message: those that pass it have taken a step
handler_ends : {begun : Begun} {n : ℕ} → Level begun n → (w : History) (r : RunState) (f : Frame) (d i : ℕ)
    (is name : List ℕ) (vs : List (List ℕ)) (kind : HandlerKind) (found : HandlerFound) (how : How) (w1 : History)
    (r1 : RunState) (f1 : Frame) → d ≤ 100 → Underway begun (suc n) w1 r1 →
    Finds w.now.stack is kind name (Ok (Some found)) → d < 100 →
    Passes n
    (Block w r (handler_frame found.object i (parameters_of found.handler) vs) (d + 1) (lines_of found.handler))
    (Ok how) w1 r1 f1 → Has begun (suc n) (Along w r f d i is name vs kind)
handler_ends h w r f d i is name vs kind found Pass w1 r1 f1 le k1 g lt b =
    lift (same (h.along w1 r1 f d i (path_after w1.now.stack w1.now.current found.object) name vs kind le
    (record { is_open = k1.is_open; left = b.fewer refl }))
    (λ o w2 r2 g2. Along.along_passes g lt refl b.ends refl g2))
handler_ends h w r f d i is name vs kind found Next w1 r1 f1 le k1 g lt b = ok _ k1
    (Along.along_ends g lt refl b.ends refl)
handler_ends h w r f d i is name vs kind found ExitRepeat w1 r1 f1 le k1 g lt b = ok _ k1
    (Along.along_ends g lt refl b.ends refl)
handler_ends h w r f d i is name vs kind found NextRepeat w1 r1 f1 le k1 g lt b = ok _ k1
    (Along.along_ends g lt refl b.ends refl)
handler_ends h w r f d i is name vs kind found Exit w1 r1 f1 le k1 g lt b = ok _ k1
    (Along.along_ends g lt refl b.ends refl)
handler_ends h w r f d i is name vs kind found (Returns v) w1 r1 f1 le k1 g lt b = ended kind v k1
    (λ v r2 gives. Along.along_ends g lt refl b.ends (ap Some gives))

met_by : {begun : Begun} {n : ℕ} → Level begun n → (w : History) (r : RunState) (f : Frame) (d i : ℕ) (is name : List ℕ)
    (vs : List (List ℕ)) (kind : HandlerKind) (found : Option HandlerFound) →
    Finds w.now.stack is kind name (Ok found) → d ≤ 100 → Underway begun (suc n) w r →
    Has begun (suc n) (Along w r f d i is name vs kind)
met_by h w r f d i is name vs kind (Some found) g le k =
    deep d le (λ lt. then_lines
    (block_ends h w r (handler_frame found.object i (parameters_of found.handler) vs) (d + 1)
    (lines_of found.handler) (nested lt) k) (λ z w1 r1 f1 b. Along.along_stops g lt refl b.ends)
    (λ how w1 r1 f1 k1 b. handler_ends h w r f d i is name vs kind found how w1 r1 f1 le k1 g lt b))
    (λ at. fault _ k (Along.along_too_deep g at))
met_by h w r f d i is name vs kind None g le k = same (outside_has h w r f d name vs kind le k)
    (λ o w1 r1 g2. Along.along_unhandled g g2)

pub along_has : {begun : Begun} {n : ℕ} → Level begun n → (w : History) (r : RunState) (f : Frame) (d i : ℕ)
    (is name : List ℕ) (vs : List (List ℕ)) (kind : HandlerKind) → d ≤ 100 → Underway begun (suc n) w r →
    Has begun (suc n) (Along w r f d i is name vs kind)
along_has h w r f d i is name vs kind le k = then_found w is kind name h.texts k (λ z g. Along.along_broken g)
    (λ met g. met_by h w r f d i is name vs kind met g le k)

called_by : {begun : Begun} {n : ℕ} → Level begun n → (w : History) (r : RunState) (f : Frame) (d i : ℕ) (t : List ℕ)
    (message : stm.Message) → Parses ReadsMessage t (Ok message) → d ≤ 100 → Underway begun (suc n) w r →
    Has begun (suc n) (SendsText w r f d i t)
called_by h w r f d i t (stm.message name es) p le k = same (calls_has h w r f d i name es Command le k)
    (λ o w1 r1 g. SendsText.sends_text p g)

pub sends_text_has : {begun : Begun} {n : ℕ} → Level begun n → (w : History) (r : RunState) (f : Frame) (d i : ℕ)
    (t : List ℕ) → d ≤ 100 → Underway begun (suc n) w r → Has begun (suc n) (SendsText w r f d i t)
sends_text_has h w r f d i t le k =
    then_parsed sent_message ReadsMessage t h.texts.cuts h.texts.messages k (λ z p. SendsText.send_syntax p)
    (λ message p. called_by h w r f d i t message p le k)
