-- Steps of the computed meaning on a stack of two cards. What a map answers doesn't compute: these are the equations
-- for it.
use Rattle.std.proofs.Common.{◌≡◌, ℕ, suc, List, [], ◌∷◌, Option, None, Result, Ok, Err, refl, ap, ◌∙◌}
use Rattle.std.specs.Ordering.{nat_cmp}
use Rattle.std.specs.FinMap.{find, get-from_sorted}
use Rattle.std.specs.Prelude.{option_map, unwrap_or}
use Rattle.ht_values.specs.declared.fault.Fault.TheVariants.{Syntax}
use Rattle.ht_grammar.specs.declared.vocabulary.HandlerKind.{HandlerKind}
use Rattle.ht_grammar.specs.declared.vocabulary.HandlerKind.TheVariants.{Command}
use Rattle.ht_grammar.specs.Handlers.{handler_in}
use Rattle.ht_grammar.specs.Lines.{typed_lines}
use Rattle.ht_grammar.specs.Statements as stm
use Rattle.ht_grammar.specs.Trees as tree
use Rattle.ht_grammar.specs.Whole.{script}
use Rattle.object_table.specs.Content.{Content}
use Rattle.object_table.specs.Objects.{object_at}
use Rattle.object_table.specs.declared.object.Object.{Object}
use Rattle.externals.specs.Cells.{Seen}
use Rattle.externals.specs.Log.{Log}
use Rattle.journal_entries.specs.State.{Globals}
use Rattle.journal_entries.specs.ScriptTrees.{object_script}
use Rattle.msg_path.specs.Handlers.{HandlerFound}
use Rattle.msg_path.specs.Path.{path, path_by, path_after}
use Rattle.meaning.specs.declared.end.How.TheVariants.{Next}
use Rattle.meaning.specs.declared.end.Stop.{Stop}
use Rattle.meaning.specs.declared.end.Stop.TheVariants.{Fault as Faults}
use Rattle.meaning.specs.declared.frame.Frame.{Frame}
use Rattle.meaning.specs.Sent.{SentMessage}
use Rattle.meaning.specs.State.{RunState, fresh_run, noted, typed_frame_at}
use Rattle.definitional_interpreter.specs.Told.{Visible, Told, told, told_in, after, after_in, after_next, maybe}
use Rattle.definitional_interpreter.specs.Told.{after_lines}
use Rattle.definitional_interpreter.specs.Changes.{step}
use Rattle.definitional_interpreter.specs.Texts.{read_by, parsed, handled, first_found}
use Rattle.definitional_interpreter.specs.Messages.{met_by}
use Rattle.definitional_interpreter.specs.Meanings.{meanings}
use Rattle.definitional_interpreter.specs.Rows.{and_more, objects_of, two_cards, every_other, typed}

-- the stack in a state, with its first card as the current one
abbrev pub on_card : (card background stack : List ℕ) → Globals → List Seen → List Log → Visible
on_card c b s globals externals logs =
    record {
      now = record { stack = two_cards c b s; globals = globals; current = 2; externals = externals };
      logs = logs;
      table = every_other;
      turns = λ i. [];
    }

object_is : (c b s : List ℕ) (id : ℕ) → object_at (two_cards c b s) id ≡ find nat_cmp id (objects_of c b s)
object_is c b s id = get-from_sorted nat_cmp (objects_of c b s) id tt

script_is : (c b s : List ℕ) (id : ℕ) → object_script (two_cards c b s) id
    ≡ unwrap_or (option_map (λ o. o.script) (find nat_cmp id (objects_of c b s))) []
script_is c b s id = ap (λ (o : Option Object). unwrap_or (option_map (λ o. o.script) o) []) (object_is c b s id)

pub path_is : (c b s : List ℕ) → path (two_cards c b s) 2 2 ≡ 2 ∷ 1 ∷ 0 ∷ []
path_is c b s = ap (path_by (two_cards c b s) 2 2) (object_is c b s 2)

-- ---- handlers

-- the first handler among scripts, each with the object that has it
abbrev pub found_among : List (ℕ × List ℕ) → HandlerKind → List ℕ → Result (Option HandlerFound) Stop
found_among [] kind n = Ok None
found_among (e ∷ es) kind n =
    maybe (read_by script e.1) (λ hs. handled e.0 (handler_in hs kind n) (λ _. found_among es kind n))
    (λ _. Err (Faults Syntax))

one_more_script : (s : Content) (id : ℕ) (t : List ℕ) (is : List ℕ) (kind : HandlerKind) (n : List ℕ)
    (y : Result (Option HandlerFound) Stop) → object_script s id ≡ t → first_found s is kind n ≡ y →
    first_found s (id ∷ is) kind n
    ≡ maybe (read_by script t) (λ hs. handled id (handler_in hs kind n) (λ _. y)) (λ _. Err (Faults Syntax))
one_more_script s id t is kind n y here later =
    ap (λ t. maybe (read_by script t) (λ hs. handled id (handler_in hs kind n) (λ _. first_found s is kind n))
    (λ _. Err (Faults Syntax))) here
    ∙ ap (λ y. maybe (read_by script t) (λ hs. handled id (handler_in hs kind n) (λ _. y)) (λ _. Err (Faults Syntax)))
    later

pub stack_script : (c b s : List ℕ) (kind : HandlerKind) (n : List ℕ) → first_found (two_cards c b s) (0 ∷ []) kind n
    ≡ found_among ((0, s) ∷ []) kind n
stack_script c b s kind n = one_more_script (two_cards c b s) 0 s [] kind n (Ok None) (script_is c b s 0) refl

pub all_scripts : (c b s : List ℕ) (kind : HandlerKind) (n : List ℕ) →
    first_found (two_cards c b s) (2 ∷ 1 ∷ 0 ∷ []) kind n ≡ found_among ((2, c) ∷ (1, b) ∷ (0, s) ∷ []) kind n
all_scripts c b s kind n =
    one_more_script (two_cards c b s) 2 c (1 ∷ 0 ∷ []) kind n (found_among ((1, b) ∷ (0, s) ∷ []) kind n)
    (script_is c b s 2)
    (one_more_script (two_cards c b s) 1 b (0 ∷ []) kind n (found_among ((0, s) ∷ []) kind n) (script_is c b s 1)
    (stack_script c b s kind n))

-- ---- messages

-- what a message comes to by what was found
abbrev pub by_found : ℕ → Visible → RunState → Frame → ℕ → List ℕ → List (List ℕ) → HandlerKind →
    Result (Option HandlerFound) Stop → Told (List ℕ)
by_found parts w r f d n vs kind y = after (told y w r) (λ found w r. met_by (meanings parts) w r f d 2 n vs kind found)

-- a message to the first card
pub sent : (parts : ℕ) (c b s : List ℕ) (globals : Globals) (externals : List Seen) (logs : List Log) (r r1 : RunState)
    (f : Frame) (d : ℕ) (n : List ℕ) (vs : List (List ℕ)) (kind : HandlerKind) →
    step (on_card c b s globals externals logs) r ≡ told (Ok tt) (on_card c b s globals externals logs) r1 →
    (meanings (suc (suc parts))).sends (on_card c b s globals externals logs) r f d 2 n vs kind
    ≡ by_found parts (on_card c b s globals externals logs) (noted r1 n 2) f d n vs kind
    (found_among ((2, c) ∷ (1, b) ∷ (0, s) ∷ []) kind n)
unfolding meanings
sent parts c b s globals externals logs r r1 f d n vs kind taken =
    let w = on_card c b s globals externals logs in
    ap (λ t. after t
    (λ _ w r. (meanings (suc parts)).along w (noted r n 2) f d 2 (path w.now.stack w.now.current 2) n vs kind)) taken
    ∙ ap (λ is. (meanings (suc parts)).along w (noted r1 n 2) f d 2 is n vs kind) (path_is c b s)
    ∙ ap (λ y. by_found parts w (noted r1 n 2) f d n vs kind y) (all_scripts c b s kind n)

-- a message that the background passes
pub passed_on : (parts : ℕ) (c b s : List ℕ) (globals : Globals) (externals : List Seen) (logs : List Log)
    (r : RunState) (f : Frame) (d : ℕ) (n : List ℕ) (vs : List (List ℕ)) (kind : HandlerKind) →
    (meanings (suc parts)).along (on_card c b s globals externals logs) r f d 2
    (path_after (two_cards c b s) 2 1) n vs kind
    ≡ by_found parts (on_card c b s globals externals logs) r f d n vs kind (found_among ((0, s) ∷ []) kind n)
unfolding meanings
passed_on parts c b s globals externals logs r f d n vs kind =
    let w = on_card c b s globals externals logs in
    ap (λ is. (meanings (suc parts)).along w r f d 2 is n vs kind) after_background
    ∙ ap (λ y. by_found parts w r f d n vs kind y) (stack_script c b s kind n)
  where
    after_background : path_after (two_cards c b s) 2 1 ≡ 0 ∷ []
    after_background = simp object_is refl

-- ---- typed lines

-- the run of a typed command with so many steps left, after these lines and messages
abbrev pub run_at : ℕ → List (List ℕ) → List SentMessage → RunState
run_at left shown sent = record (fresh_run 1000000) { left = left; shown = shown; sent = sent }

-- how a command that is typed alone ends, by what its message comes to
abbrev pub command_ends : (k : ℕ) → Visible → Told (List ℕ) → Told (Unit {0})
command_ends k w x =
    after_lines
    (after_next
    (after_in (typed_frame_at w.now.current) x (λ _ w2 r. told_in (Ok Next) w2 r (typed_frame_at w.now.current)))
    (λ w r f. (meanings (and_more 38 k)).block w r f 0 stm.stop)) (λ _ w r. told (Ok tt) w r)

-- a command that is typed alone, while the first card is the current one
pub typed_command : (k : ℕ) (c b s : List ℕ) (globals : Globals) (externals : List Seen) (logs : List Log)
    (line n : List ℕ)
    (es : tree.Exprs) (vs : List (List ℕ)) →
    parsed typed_lines line ≡ Ok (stm.also (stm.command n es) stm.stop) →
    (meanings (and_more 36 k)).vals (on_card c b s globals externals logs) (run_at 999999 [] []) (typed_frame_at 2) 0
    es []
    ≡ told (Ok vs) (on_card c b s globals externals logs) (run_at 999999 [] []) →
    typed (and_more 40 k) (on_card c b s globals externals logs) line
    ≡ command_ends k (on_card c b s globals externals logs)
    (by_found (and_more 34 k) (on_card c b s globals externals logs) (noted (run_at 999998 [] []) n 2)
    (typed_frame_at 2) 0 n vs Command (found_among ((2, c) ∷ (1, b) ∷ (0, s) ∷ []) Command n))
unfolding meanings
typed_command k c b s globals externals logs line n es vs read values =
    let w = on_card c b s globals externals logs in
    ap (λ t. after (told t w (fresh_run 1000000)) (λ ss w r. (meanings (and_more 40 k)).line w r ss)) read
    ∙ ap (λ t. command_ends k w (after t
    (λ vs w2 r. (meanings (and_more 36 k)).sends w2 r (typed_frame_at 2) 0 2 n vs Command)))
    values
    ∙ ap (command_ends k w)
    (sent (and_more 34 k) c b s globals externals logs (run_at 999999 [] []) (run_at 999998 [] [])
    (typed_frame_at 2) 0 n vs Command refl)
