-- The worked rows, by computation.
use Rattle.std.proofs.Common.{false, ◌≡◌, ℕ, List, [], ◌∷◌, codes, Option, Some, None, Result, Ok, refl, ap, ◌∙◌}
use Rattle.std.proofs.lemmas.Cmp.{nat_list_cmp_total}
use Rattle.std.specs.Cmp.Lexicographic.{slice_cmp}
use Rattle.std.specs.FinMap.{empty, get, insert, get-empty, get-insert}
use Rattle.std.specs.Ordering.{nat_cmp}
use Rattle.std.specs.Prelude.{unwrap_or}
use Rattle.ht_values.specs.declared.word.Where.TheVariants.{Into}
use Rattle.ht_grammar.specs.declared.vocabulary.HandlerKind.{HandlerKind}
use Rattle.journal_entries.specs.State.{Globals}
use Rattle.containers.specs.Variables.{declared}
use Rattle.msg_path.specs.Handlers.{HandlerFound}
use Rattle.meaning.specs.declared.end.How.{How}
use Rattle.meaning.specs.declared.end.Stop.{Stop}
use Rattle.meaning.specs.Sent.{SentMessage}
use Rattle.meaning.specs.Repeats.{ends}
use Rattle.ht_grammar.specs.declared.vocabulary.HandlerKind.TheVariants.{Command, Function}
use Rattle.ht_grammar.specs.Statements as stm
use Rattle.ht_grammar.specs.Trees as tree
use Rattle.meaning.specs.State.{RunState, noted, shows, typed_frame_at, handler_frame}
use Rattle.msg_path.specs.Path.{path_after}
use Rattle.externals.specs.Cells.{Seen}
use Rattle.meaning.specs.declared.end.How.TheVariants.{Next}
use Rattle.definitional_interpreter.specs.Told.{Visible, Told, told, ToldIn, told_in, after_in, after_next, after_lines}
use Rattle.definitional_interpreter.specs.Told.{maybe, gave, after_lines}
use Rattle.definitional_interpreter.specs.Changes.{with_variables, with_global, make, store}
use Rattle.definitional_interpreter.specs.Rows as rows
use Rattle.definitional_interpreter.specs.Texts.{parsed}
use Rattle.ht_grammar.specs.Lines.{typed_lines, container, names_at, destination_at, simple_at, head_at, stmt_at}
use Rattle.ht_grammar.specs.Lines.{lines_at, block_at, blocks}
use Rattle.meaning.specs.declared.frame.Frame.{Frame}
use Rattle.definitional_interpreter.proofs.Steps.{on_card, found_among, by_found, sent, passed_on, run_at, command_ends}
use Rattle.definitional_interpreter.proofs.Steps.{typed_command}
use Rattle.std.specs.Fmt.{digits}
use Rattle.ht_values.specs.Functions.{function_named, built_in}
use Rattle.ht_values.specs.Number.{number_of}
use Rattle.ht_values.specs.Operators.{binary, unary}
use Rattle.ht_values.specs.Search.{first_place}
use Rattle.chunks.specs.Change.{put, removed}
use Rattle.chunks.specs.Pieces.{spans, count, found}
use Rattle.chunks.specs.Scan.{scan}
use Rattle.ht_lex.specs.Cutting.{spans_of}
use Rattle.ht_lex.specs.Lexemes.{symbol_lexeme, other_lexeme}
use Rattle.ht_lex.specs.Token.{is_key}
use Rattle.ht_lex.specs.Words.{reserved_words, symbols, key_of}
use Rattle.ht_grammar.specs.Ends.{ended, past_times}
use Rattle.ht_grammar.specs.Fronts.{prop_front, run_prop, function_of, type_front, asked_type, operator_after_is_not}
use Rattle.ht_grammar.specs.Fronts.{operator_after_is, leading_operator}
use Rattle.ht_grammar.specs.Reading.{closed, referenced_layer, part_front, article, list_at, primary_at, which_at}
use Rattle.ht_grammar.specs.Reading.{selector_at, owner_at, part_end, nth_end, part_at, field_at, ref_at, inner_ref}
use Rattle.ht_grammar.specs.Reading.{count_at, chunk_at, chunk_form, number_form, factor_at, prefixed_at, power_end}
use Rattle.ht_grammar.specs.Reading.{power_at, join_at, asked_at, chain_at, rank_at, level_at, read}
use Rattle.ht_grammar.specs.Whole.{handlers_at}
use Rattle.stack_places.specs.Places.{put as put_in_stack}
use Rattle.stack_text.specs.Words.{unspelled_within}
use Rattle.externals.specs.Log.{Log, LoggedTurn}
use Rattle.externals.specs.declared.external.Ask.TheVariants.{Done}
use Rattle.externals.specs.declared.external.Input.TheVariants.{Start}
use Rattle.journal_entries.specs.Places.{put as put_in_state}
use Rattle.definitional_interpreter.specs.Meanings.{meanings}
use Rattle.definitional_interpreter.specs.Rows.{Sum, Quotient, NoNumber, FaultAfterLines, Choice, Repeated, Chunks}
use Rattle.definitional_interpreter.specs.Rows.{NoExpression, ExitToHyperCard, Delimiter, and_more, answers, answered}
use Rattle.definitional_interpreter.specs.Rows.{two_cards, gate, repeats_script, function_script, passing_script}
use Rattle.definitional_interpreter.specs.Rows.{last_script, deep_script, Repeats}

-- `unfolding computing` opens the definitions that a row computes through
unfoldable pub computing : Unit {0}
unfolding digits function_named built_in number_of binary unary first_place put removed spans count found scan
    spans_of symbol_lexeme other_lexeme is_key reserved_words symbols key_of ended past_times prop_front run_prop
    function_of type_front asked_type operator_after_is_not operator_after_is leading_operator container names_at
    destination_at simple_at head_at stmt_at lines_at block_at blocks closed referenced_layer part_front article
    list_at primary_at which_at selector_at owner_at part_end nth_end part_at field_at ref_at inner_ref count_at
    chunk_at chunk_form number_form factor_at prefixed_at power_end power_at join_at asked_at chain_at rank_at
    level_at read handlers_at put_in_stack unspelled_within put_in_state make meanings store
computing = tt

pub sum : Sum
unfolding computing
sum k w = refl

pub quotient : Quotient
unfolding computing
quotient k w = refl

pub no_number : NoNumber
unfolding computing
no_number k w = refl

pub fault_after_lines : FaultAfterLines
unfolding computing
fault_after_lines k w = refl

pub choice : Choice
unfolding computing
choice k w = refl

pub repeated : Repeated
unfolding computing
repeated k w = refl

pub chunk : Chunks
unfolding computing
chunk k w = refl

pub no_expression : NoExpression
unfolding computing
no_expression k w = refl

pub exit_to_hypercard : ExitToHyperCard
unfolding computing
exit_to_hypercard k w = refl

pub delimiter : Delimiter
unfolding computing
delimiter k w = refl

-- ---- rows of a state

repeats_read : parsed typed_lines (codes "repeats 9")
    ≡ Ok (stm.also (stm.command (codes "repeats") (tree.more (tree.number (codes "9")) tree.none)) stm.stop)
unfolding computing
repeats_read = refl

repeats_values : (k : ℕ) (w : Visible) (r : RunState) (f : Frame) →
    (meanings (and_more 36 k)).vals w r f 0 (tree.more (tree.number (codes "9")) tree.none) []
    ≡ told (Ok (codes "9" ∷ [])) w r
unfolding computing
repeats_values k w r f = refl

repeats_end : (k : ℕ) → answered (command_ends k (on_card [] [] repeats_script empty [] [])
    (by_found (and_more 34 k) (on_card [] [] repeats_script empty [] [])
    (noted (run_at 999998 [] []) (codes "repeats") 2)
    (typed_frame_at 2) 0 (codes "repeats") (codes "9" ∷ []) Command
    (found_among ((2, []) ∷ (1, []) ∷ (0, repeats_script) ∷ []) Command (codes "repeats")))) (λ w. [])
    ≡ codes "> 134321xxwwuff" ∷ codes "ok" ∷ []
unfolding computing
repeats_end k = refl

pub repeats : Repeats
repeats k =
    ap (λ t. answered t (λ w. []))
    (typed_command k [] [] repeats_script empty [] [] (codes "repeats 9") (codes "repeats")
    (tree.more (tree.number (codes "9")) tree.none) (codes "9" ∷ []) repeats_read (repeats_values k _ _ _))
    ∙ repeats_end k

-- ---- a function

abbrev h_line : List ℕ
h_line = codes "do \"put h()\" & return & \"put the result\""

-- the answer, by what the call comes to
abbrev by_call : (k : ℕ) → Told (List ℕ) → List (List ℕ)
by_call k x =
    answered
    (after_lines
    (after_next (after_next (after_in (typed_frame_at 2) x
    (λ v w r. told_in (Ok Next) w (shows r v) (typed_frame_at 2)))
    (λ w r f. (meanings (and_more 35 k)).block w r f 1 (stm.also (stm.put tree.result) stm.stop)))
    (λ w r f. (meanings (and_more 38 k)).block w r f 0 stm.stop)) (λ _ w r. told (Ok tt) w r)) (λ w. [])

function_calls : (k : ℕ) → answers (and_more 40 k) (on_card function_script [] [] empty [] []) (h_line ∷ [])
    ≡ by_call k
    ((meanings (and_more 32 k)).sends (on_card function_script [] [] empty [] []) (run_at 999998 [] [])
    (typed_frame_at 2) 1 2
    (codes "h") [] Function)
unfolding computing
function_calls k = refl

function_end : (k : ℕ) → by_call k
    (by_found (and_more 30 k) (on_card function_script [] [] empty [] []) (noted (run_at 999997 [] []) (codes "h") 2)
    (typed_frame_at 2) 1 (codes "h") [] Function
    (found_among ((2, function_script) ∷ (1, []) ∷ (0, []) ∷ []) Function (codes "h"))) ≡ codes "> 4" ∷ codes "> "
    ∷ codes "ok" ∷ []
unfolding computing
function_end k = refl

pub function : rows.Function
function k = function_calls k
    ∙ ap (by_call k)
    (sent (and_more 30 k) function_script [] [] empty [] [] (run_at 999998 [] []) (run_at 999997 [] [])
    (typed_frame_at 2) 1
    (codes "h") [] Function refl) ∙ function_end k

-- ---- a message that is passed

who_read : parsed typed_lines (codes "who") ≡ Ok (stm.also (stm.command (codes "who") tree.none) stm.stop)
unfolding computing
who_read = refl

no_values : (k : ℕ) (w : Visible) (r : RunState) (f : Frame)
    → (meanings (and_more 36 k)).vals w r f 0 tree.none [] ≡ told (Ok []) w r
unfolding computing
no_values k w r f = refl

passes : (k : ℕ) → by_found (and_more 34 k) (on_card [] passing_script last_script empty [] [])
    (noted (run_at 999998 [] []) (codes "who") 2)
    (typed_frame_at 2) 0 (codes "who") [] Command
    (found_among ((2, []) ∷ (1, passing_script) ∷ (0, last_script) ∷ []) Command (codes "who"))
    ≡ (meanings (and_more 34 k)).along (on_card [] passing_script last_script empty [] [])
    (noted (run_at 999996 (codes "bg" ∷ []) []) (codes "who") 2) (typed_frame_at 2) 0 2
    (path_after (two_cards [] passing_script last_script) 2 1) (codes "who") [] Command
unfolding computing
passes k = refl

passed_end : (k : ℕ) → answered (command_ends k (on_card [] passing_script last_script empty [] [])
    (by_found (and_more 33 k) (on_card [] passing_script last_script empty [] [])
    (noted (run_at 999996 (codes "bg" ∷ []) []) (codes "who") 2) (typed_frame_at 2) 0 (codes "who") [] Command
    (found_among ((0, last_script) ∷ []) Command (codes "who")))) (λ w. [])
    ≡ codes "> bg" ∷ codes "> stack" ∷ codes "ok" ∷ []
unfolding computing
passed_end k = refl

pub passed : rows.Passed
passed k =
    ap (λ t. answered t (λ w. []))
    (typed_command k [] passing_script last_script empty [] [] (codes "who") (codes "who") tree.none [] who_read
    (no_values k _ _ _))
    ∙ ap (λ x. answered (command_ends k (on_card [] passing_script last_script empty [] []) x) (λ w. []))
    (passes k
    ∙ passed_on (and_more 33 k) [] passing_script last_script empty [] []
    (noted (run_at 999996 (codes "bg" ∷ []) []) (codes "who") 2) (typed_frame_at 2) 0 (codes "who") [] Command)
    ∙ passed_end k

-- ---- a conversation

abbrev open_gate : Seen
open_gate = record gate { cells = codes "1" ∷ [] }

-- the turn by which it opens
abbrev opens : LoggedTurn
opens = record { before = gate.cells; input = Start []; ask = Done [] false; cells = open_gate.cells }

gate_read : parsed typed_lines (codes "Gate") ≡ Ok (stm.also (stm.command (codes "Gate") tree.none) stm.stop)
unfolding computing
gate_read = refl

-- the answer of Gate, which no script has, and then the rest
abbrev by_gate : (k : ℕ) → Seen → Log → (Visible → List (List ℕ)) → List (List ℕ)
by_gate k e log rest = answered (command_ends k (on_card [] [] [] empty (e ∷ []) (log ∷ []))
    (by_found (and_more 34 k) (on_card [] [] [] empty (e ∷ []) (log ∷ []))
    (noted (run_at 999998 [] []) (codes "Gate") 2)
    (typed_frame_at 2) 0 (codes "Gate") [] Command
    (found_among ((2, []) ∷ (1, []) ∷ (0, []) ∷ []) Command (codes "Gate")))) rest

gate_once : (k : ℕ) (rest : Visible → List (List ℕ)) → by_gate k gate [] rest ≡ codes "ok"
    ∷ rest (on_card [] [] [] empty (open_gate ∷ []) ((opens ∷ []) ∷ []))
unfolding computing
gate_once k rest = refl

gate_again : (k : ℕ) → by_gate k open_gate (opens ∷ []) (λ w. []) ≡ codes "fault 2" ∷ []
unfolding computing
gate_again k = refl

pub conversation : rows.Conversation
conversation k =
    ap (λ t. answered t (λ w. answers (and_more 40 k) w (codes "Gate" ∷ [])))
    (typed_command k [] [] [] empty (gate ∷ []) ([] ∷ []) (codes "Gate") (codes "Gate") tree.none [] gate_read
    (no_values k _ _ _))
    ∙ gate_once k (λ w. answers (and_more 40 k) w (codes "Gate" ∷ []))
    ∙ ap (λ t. codes "ok" ∷ answered t (λ w. []))
    (typed_command k [] [] [] empty (open_gate ∷ []) ((opens ∷ []) ∷ []) (codes "Gate") (codes "Gate") tree.none []
    gate_read (no_values k _ _ _))
    ∙ ap (λ rest. codes "ok" ∷ rest) (gate_again k)

-- ---- globals

-- a global's name that is shown, by its value
abbrev by_value : (k : ℕ) (c : List ℕ) → Globals → List ℕ → (Visible → List (List ℕ)) → Option (List ℕ) → List (List ℕ)
by_value k c globals name rest v =
    answered
    (after_lines
    (after_next
    (after_in (typed_frame_at 2) (told (Ok (unwrap_or v name)) (on_card c [] [] globals [] []) (run_at 999999 [] []))
    (λ v w r. told_in (Ok Next) w (shows r v) (typed_frame_at 2)))
    (λ w r f. (meanings (and_more 38 k)).block w r f 0 stm.stop)) (λ _ w r. told (Ok tt) w r)) rest

abbrev with_abc : Globals
with_abc = insert empty (codes "abc") (codes "1")

no_value : (k : ℕ) → answers (and_more 40 k) (on_card [] [] [] empty [] [])
    (codes "put Abc" ∷ codes "put 1 into ABC" ∷ codes "put abc" ∷ [])
    ≡ (by_value k) [] empty (codes "Abc")
    (λ w. answers (and_more 40 k) w (codes "put 1 into ABC" ∷ codes "put abc" ∷ []))
    (get {R = slice_cmp nat_cmp} empty (codes "abc"))
unfolding computing
no_value k = refl

a_value : (k : ℕ) → by_value k [] empty (codes "Abc")
    (λ w. answers (and_more 40 k) w (codes "put 1 into ABC" ∷ codes "put abc" ∷ [])) None
    ≡ codes "> Abc" ∷ codes "ok" ∷ codes "ok"
    ∷ by_value k [] with_abc (codes "abc") (λ w. []) (get with_abc (codes "abc"))
unfolding computing
a_value k = refl

its_value : get with_abc (codes "abc") ≡ Some (codes "1")
its_value = get-insert nat_list_cmp_total empty (codes "abc") (codes "1") (codes "abc")

value_shown : (k : ℕ) → by_value k [] with_abc (codes "abc") (λ w. []) (Some (codes "1")) ≡ codes "> 1" ∷ codes "ok"
    ∷ []
unfolding computing
value_shown k = refl

pub global_variable : rows.GlobalVariable
global_variable k =
    no_value k
    ∙ ap (by_value k [] empty (codes "Abc")
    (λ w. answers (and_more 40 k) w (codes "put 1 into ABC" ∷ codes "put abc" ∷ [])))
    (get-empty (slice_cmp nat_cmp) (codes "abc"))
    ∙ a_value k
    ∙ ap (λ v. codes "> Abc" ∷ codes "ok" ∷ codes "ok" ∷ by_value k [] with_abc (codes "abc") (λ w. []) v) its_value
    ∙ ap (λ rest. codes "> Abc" ∷ codes "ok" ∷ codes "ok" ∷ rest) (value_shown k)

-- ---- a fault three handlers deep

abbrev to_card : List ℕ → SentMessage
to_card n = record { name = n; object = 2 }

-- the frame of each handler, and that of `c` where `g` is a global
abbrev own_frame : Frame
own_frame = handler_frame 2 2 [] []

abbrev with_g : Frame
with_g = with_variables own_frame (declared own_frame.variables (codes "g"))

abbrev globals_g : Globals
globals_g = insert (insert empty (codes "g") []) (codes "g") (codes "5")

abbrev before_g : Visible
before_g = on_card deep_script [] [] empty [] []

abbrev after_g : Visible
after_g = on_card deep_script [] [] globals_g [] []

abbrev among : HandlerKind → List ℕ → Result (Option HandlerFound) Stop
among kind n = found_among ((2, deep_script) ∷ (1, []) ∷ (0, []) ∷ []) kind n

-- a handler ends, with so many nested parts, in the frame of the one that called it
abbrev handler_ends : ℕ → Frame → ℕ → List ℕ → ToldIn How → Told (List ℕ)
handler_ends parts f d n x =
    after_lines x
    (λ h w r. maybe (ends Command h r) (λ out. gave w out)
    (λ _. (meanings parts).along w r f d 2 (path_after w.now.stack w.now.current 2) n [] Command))

abbrev in_a : (k : ℕ) → Told (List ℕ) → Told (List ℕ)
in_a k x =
    handler_ends (and_more 34 k) (typed_frame_at 2) 0 (codes "a")
    (after_next (after_in own_frame x (λ _ w r. told_in (Ok Next) w r own_frame))
    (λ w r f. (meanings (and_more 32 k)).block w r f 1 (stm.also (stm.put (tree.number (codes "2"))) stm.stop)))

abbrev in_b : (k : ℕ) → Told (List ℕ) → Told (List ℕ)
in_b k x =
    handler_ends (and_more 28 k) own_frame 1 (codes "b")
    (after_next (after_in own_frame x (λ _ w r. told_in (Ok Next) w r own_frame))
    (λ w r f. (meanings (and_more 26 k)).block w r f 2 (stm.also (stm.put (tree.number (codes "4"))) stm.stop)))

abbrev last_line : stm.Stmts
last_line = stm.also (stm.put_in Into (tree.number (codes "6")) (tree.variable (codes "g"))) stm.stop

abbrev last_lines : stm.Stmts
last_lines =
    stm.also (stm.put_in Into (tree.number (codes "5")) (tree.variable (codes "g")))
    (stm.also (stm.put (tree.call (codes "foo") tree.none)) last_line)

abbrev declares_g : (k : ℕ) → Option (List ℕ) → Told (List ℕ)
declares_g k v = handler_ends (and_more 22 k) own_frame 2 (codes "c")
    (after_next
    (told_in (Ok Next) (with_global before_g (codes "g") v)
    (run_at 999991 (codes "1" ∷ codes "3" ∷ [])
    (to_card (codes "a") ∷ to_card (codes "b") ∷ to_card (codes "c") ∷ [])) with_g)
    (λ w r f. (meanings (and_more 21 k)).block w r f 3 last_lines))

abbrev in_c : (k : ℕ) → Told (List ℕ) → Told (List ℕ)
in_c k x =
    handler_ends (and_more 22 k) own_frame 2 (codes "c")
    (after_next (after_in with_g x (λ v w r. told_in (Ok Next) w (shows r v) with_g))
    (λ w r f. (meanings (and_more 19 k)).block w r f 3 last_line))

abbrev run_a : ℕ → RunState
run_a left = run_at left (codes "1" ∷ []) (to_card (codes "a") ∷ [])

abbrev run_b : ℕ → RunState
run_b left = run_at left (codes "1" ∷ codes "3" ∷ []) (to_card (codes "a") ∷ to_card (codes "b") ∷ [])

abbrev run_c : ℕ → RunState
run_c left =
    run_at left (codes "1" ∷ codes "3" ∷ []) (to_card (codes "a") ∷ to_card (codes "b") ∷ to_card (codes "c") ∷ [])

a_read : parsed typed_lines (codes "a") ≡ Ok (stm.also (stm.command (codes "a") tree.none) stm.stop)
unfolding computing
a_read = refl

a_calls : (k : ℕ) → by_found (and_more 34 k) before_g (noted (run_at 999998 [] []) (codes "a") 2) (typed_frame_at 2) 0
    (codes "a") [] Command
    (among Command (codes "a"))
    ≡ in_a k ((meanings (and_more 30 k)).sends before_g (run_a 999996) own_frame 1 2 (codes "b") [] Command)
unfolding computing
a_calls k = refl

b_calls : (k : ℕ) → by_found (and_more 28 k) before_g (noted (run_a 999995) (codes "b") 2) own_frame 1 (codes "b") []
    Command
    (among Command (codes "b"))
    ≡ in_b k ((meanings (and_more 24 k)).sends before_g (run_b 999993) own_frame 2 2 (codes "c") [] Command)
unfolding computing
b_calls k = refl

c_declares : (k : ℕ) → by_found (and_more 22 k) before_g (noted (run_b 999992) (codes "c") 2) own_frame 2 (codes "c") []
    Command
    (among Command (codes "c")) ≡ declares_g k (get {R = slice_cmp nat_cmp} empty (codes "g"))
unfolding computing
c_declares k = refl

c_calls : (k : ℕ) → declares_g k None
    ≡ in_c k ((meanings (and_more 16 k)).sends after_g (run_c 999989) with_g 3 2 (codes "foo") [] Function)
unfolding computing
c_calls k = refl

-- the answers of both lines, by what the message `a` comes to
abbrev by_a : (k : ℕ) → Told (List ℕ) → List (List ℕ)
by_a k x = answered (command_ends k before_g x) (λ w. answers (and_more 40 k) w (codes "put g" ∷ []))

fault_ends : (k : ℕ) → by_a k
    (in_a k
    (in_b k
    (in_c k
    (by_found (and_more 14 k) after_g (noted (run_c 999988) (codes "foo") 2) with_g 3 (codes "foo") [] Function
    (among Function (codes "foo"))))))
    ≡ codes "> 1" ∷ codes "> 3" ∷ codes "fault 2"
    ∷ by_value k deep_script globals_g (codes "g") (λ w. []) (get globals_g (codes "g"))
unfolding computing
fault_ends k = refl

value_of_g : get globals_g (codes "g") ≡ Some (codes "5")
value_of_g = get-insert nat_list_cmp_total (insert empty (codes "g") []) (codes "g") (codes "5") (codes "g")

g_shown : (k : ℕ) → by_value k deep_script globals_g (codes "g") (λ w. []) (Some (codes "5")) ≡ codes "> 5" ∷ codes "ok"
    ∷ []
unfolding computing
g_shown k = refl

pub fault_three_deep : rows.FaultThreeDeep
fault_three_deep k =
    ap (λ t. answered t (λ w. answers (and_more 40 k) w (codes "put g" ∷ [])))
    (typed_command k deep_script [] [] empty [] [] (codes "a") (codes "a") tree.none [] a_read (no_values k _ _ _))
    ∙ ap (by_a k)
    (a_calls k
    ∙ ap (in_a k)
    (sent (and_more 28 k) deep_script [] [] empty [] [] (run_a 999996) (run_a 999995) own_frame 1 (codes "b") [] Command
    refl
    ∙ b_calls k
    ∙ ap (in_b k)
    (sent (and_more 22 k) deep_script [] [] empty [] [] (run_b 999993) (run_b 999992) own_frame 2 (codes "c") [] Command
    refl
    ∙ c_declares k ∙ ap (declares_g k) (get-empty (slice_cmp nat_cmp) (codes "g"))
    ∙ c_calls k
    ∙ ap (in_c k)
    (sent (and_more 14 k) deep_script [] [] globals_g [] [] (run_c 999989) (run_c 999988) with_g 3 (codes "foo") []
    Function refl))))
    ∙ fault_ends k
    ∙ ap (λ v. codes "> 1" ∷ codes "> 3" ∷ codes "fault 2" ∷ by_value k deep_script globals_g (codes "g") (λ w. []) v)
    value_of_g
    ∙ ap (λ rest. codes "> 1" ∷ codes "> 3" ∷ codes "fault 2" ∷ rest) (g_shown k)
