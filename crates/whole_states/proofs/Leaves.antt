-- What the changes, turns and steps in a rule keep: whole states, and texts.
use Rattle.std.specs.Prelude.{IfSome, unwrap_or}
use Rattle.std.specs.List.{All, AllByRecursion}
use Rattle.std.proofs.Common.{◌≡◌, ◌<◌, ℕ, suc, List, [], ◌∷◌, ◌++◌, length, Bool, true, false, cond, Option, Some}
use Rattle.std.proofs.Common.{None, option_map, is_some, Result, Ok, Err, IfOk, refl, sym, ap, subst, ◌∙◌, arith}
use Rattle.std.proofs.lemmas.List.{append-nil, append_assoc, length-map}
use Rattle.std.proofs.lemmas.List.Elements.{All-append, All-cons, All-get_or, All-nil, recursion_from_All}
use Rattle.ht_values.specs.declared.fault.Fault.{Fault}
use Rattle.ht_values.specs.declared.word.Prop.{Prop}
use Rattle.ht_values.specs.Operators.{truth_of}
use Rattle.ht_values.specs.Outcome.{and_then}
use Rattle.ht_values.specs.Text.{IsText}
use Rattle.ht_values.proofs.Folding.{folded_is_folded}
use Rattle.ht_lex.specs.Token.{Token}
use Rattle.ht_grammar.specs.declared.vocabulary.HandlerKind.{HandlerKind}
use Rattle.ht_grammar.specs.declared.vocabulary.HandlerKind.TheVariants.{Command, Function}
use Rattle.ht_grammar.specs.declared.vocabulary.RunProp.{RunProp}
use Rattle.ht_grammar.specs.declared.vocabulary.RunProp.TheVariants.{ItemDelimiter, LockMessages, EditBkgnd}
use Rattle.ht_grammar.specs.Handlers.{takes, handler_in}
use Rattle.ht_grammar.specs.Statements as stm
use Rattle.chunks.specs.Laws.{PartsCut}
use Rattle.externals.specs.Cells.{Seen, none_seen, IsExternal}
use Rattle.externals.specs.Log.{Log, LoggedTurn}
use Rattle.externals.specs.Turns.{AskTexts}
use Rattle.externals.specs.declared.external.Ask.{Ask}
use Rattle.externals.specs.declared.external.Input.{Input}
use Rattle.object_table.specs.Content.{Content}
use Rattle.object_table.specs.Objects.{object_at}
use Rattle.object_table.specs.PartContents.{text_at}
use Rattle.object_table.specs.WellFormed.{IsWellFormed}
use Rattle.object_table.specs.declared.object.Object.{Object}
use Rattle.object_table.proofs.Empty.{no_bytes}
use Rattle.journal_entries.specs.ScriptTrees.{object_script}
use Rattle.journal_entries.specs.State.{State, seen_at, titles_of}
use Rattle.journal_entries.specs.Changes.{fits, HasTexts}
use Rattle.journal_entries.specs.declared.change.Change.{Change}
use Rattle.change_journal.specs.History.{History, IsHistory}
use Rattle.change_journal.specs.Logs.{log_at}
use Rattle.change_journal.specs.Rising.{Made, TookTurn}
use Rattle.change_journal.proofs.Making.{IsHistory-made, IsHistory-turned}
use Rattle.object_references.specs.declared.referent.Referent.{Referent}
use Rattle.object_references.specs.Settings.{FitsIn}
use Rattle.object_references.proofs.Fitting.{setting_fits}
use Rattle.containers.specs.Base.{base}
use Rattle.containers.specs.declared.edit.Edit.{Edit}
use Rattle.containers.specs.Places.{StorageView, PlaceView, field_text}
use Rattle.containers.specs.Variables.{VariablesView, bound, declared, with_local}
use Rattle.containers.specs.Writes.{Writes, Declares}
use Rattle.msg_path.specs.BuiltIns.{answers, external_named}
use Rattle.msg_path.specs.Handlers.{HandlerFound, First}
use Rattle.meaning.specs.declared.end.How.{How}
use Rattle.meaning.specs.declared.end.How.TheVariants.{Next, ExitRepeat, NextRepeat, Exit, Pass, Returns}
use Rattle.meaning.specs.declared.end.Stop.{Stop}
use Rattle.meaning.specs.declared.frame.Frame.{Frame}
use Rattle.meaning.specs.Messages.{Finds, only, lines_of}
use Rattle.meaning.specs.Places.{Edits, Stores, Assigns, DeclaresAll, Sets, Adds, field_place, field_named_place}
use Rattle.meaning.specs.Places.{it_name}
use Rattle.meaning.specs.Repeats.{Outcome, returned, ends, leaves_repeat}
use Rattle.meaning.specs.State.{RunState, Step, shows, noted, run_property_set, run_property, handler_frame}
use Rattle.meaning.specs.Values.{Yields, Parses}
use Rattle.preservation.specs.Laws.{HasMemory}
use Rattle.preservation.proofs.Logs.{set_keeps}
use Rattle.preservation.proofs.Placed.{of_field, of_field_named}
use Rattle.preservation.proofs.Prefixes.{rest_is}
use Rattle.preservation.proofs.StaysWhole.{due_stood, text_stood}
use Rattle.whole_states.specs.Texts.{RunTexts, LocalsTexts, FrameTexts, StorageTexts, HowTexts, InputTexts, AreTexts}
use Rattle.whole_states.specs.Texts.{HandlerTexts, HandlersTexts, LoggedTexts, StmtsTexts, TreesHaveTexts}
use Rattle.whole_states.specs.Laws.{LeadsToWhole}
use Rattle.whole_states.proofs.TreeTexts.{scripts_have_texts}
use Rattle.whole_states.proofs.ValueTexts.{given_text, word_text, byte_text, EditTexts}
use Rattle.whole_states.proofs.StateTexts.{folded_text, named_texts, due_is_text, with_value_texts, setting_texts}

-- ---- whole states from a history on

-- a log goes on with turns of texts
abbrev GoesOn : Log → Log → Type 0
GoesOn old new = (more : Log) × ((new ≡ old ++ more) × All LoggedTexts more)

-- each state is whole, and each external took turns of texts since
pub record IsWhole (begin w : History) : Type 0 where
  pub history : IsHistory w
  pub turns : (i : ℕ) → GoesOn (log_at begin.logs i) (log_at w.logs i)

pub whole_begins : {w : History} → IsHistory w → IsWhole w w
whole_begins {w} q =
    record { history = q; turns = λ i. ([], (sym (append-nil (log_at w.logs i)), All-nil LoggedTexts)) }

pub leads : {w w2 : History} → IsWhole w w2 → LeadsToWhole w w2
leads {w} {w2} h = record {
  whole = h.history;
  turns = λ i. let more = h.turns i in
      subst (All LoggedTexts) (sym (rest_is (log_at w.logs i) (log_at w2.logs i) more.0 more.1.0)) more.1.1;
}

-- ---- a change

pub sound_made : {begin w w2 : History} {c : Change} → fits w.now c ≡ true → HasTexts c → Made w w2 c → IsWhole begin w
    → IsWhole begin w2
sound_made {begin} {w} {w2} {c} fit texts made q = record {
  history = IsHistory-made w w2 c fit texts made q.history;
  turns = subst (λ (logs : List Log). (i : ℕ) → GoesOn (log_at begin.logs i) (log_at logs i))
      (sym (ap (λ h. h.logs) made.history)) q.turns;
}

same_world : {begin w w2 : History} → w2 ≡ w → IsWhole begin w → IsWhole begin w2
same_world {begin} same q = subst (IsWhole begin) (sym same) q

-- ---- a turn

among : (kind : Bool) (name : List ℕ) (es : List Seen) (k : ℕ) → external_named es kind name ≡ Some k → k < length es
among kind name [] k is = let no : ⊥ = cc in absurd no
among kind name (e ∷ es) k is = by (answers kind name e) (external_named es kind name) (among kind name es) is
  where
    by : (b : Bool) (rest : Option ℕ) → ((j : ℕ) → rest ≡ Some j → j < length es)
        → cond b (Some 0) (option_map suc rest) ≡ Some k → k < length (e ∷ es)
    by true rest h is = let first : 0 ≡ k = cc in omega (arith, first)
    by false None h is = let no : ⊥ = cc in absurd no
    by false (Some j) h is = let later : suc j ≡ k = cc in let less = h j refl in omega (arith, later, less)

-- the external of a number is there
pub named_stands : (w : History) (kind : Bool) (name : List ℕ) {k : ℕ}
    → external_named w.now.externals kind name ≡ Some k → k < length w.now.externals
named_stands w kind name {k} is = among kind name w.now.externals k is

pub stands_after : (w w2 : History) {k : ℕ} → base w2 ≡ base w → k < length w.now.externals
    → k < length w2.now.externals
unfolding base
stands_after w w2 kept there =
    let titles : length (titles_of w2.now.externals) ≡ length (titles_of w.now.externals) =
    ap (λ b. length b.titles) kept in
    omega (arith, there, titles, length-map w.now.externals (λ e. e.title), length-map w2.now.externals (λ e. e.title))

pub sound_turn : {begin w w2 : History} {k : ℕ} {input : Input} {ask : Ask} → k < length w.now.externals
    → InputTexts input → TookTurn w w2 k input ask → IsWhole begin w → IsWhole begin w2 × AskTexts ask
sound_turn {begin} {w} {w2} {k} {input} {ask} there texts took q =
    let old = seen_at w.now k in
    let was : IsExternal old = All-get_or IsExternal w.now.externals k none_seen there q.history.now.state.externals in
    let turn : LoggedTurn = record
    { before = old.cells; input = input; ask = ask; cells = (seen_at w2.now k).cells } in
    let logged : LoggedTexts turn = record
    { before = was.cells; input = texts; ask = took.asks; cells = took.cells } in
    let more = q.turns k in (
      record {
        history = IsHistory-turned w w2 k input ask there took q.history;
        turns = subst (λ (logs : List Log). (i : ℕ) → GoesOn (log_at begin.logs i) (log_at logs i))
            (sym (ap (λ h. h.logs) took.history))
            (set_keeps (λ i. GoesOn (log_at begin.logs i)) w.logs k (log_at w.logs k ++ turn ∷ []) q.turns (
              more.0 ++ turn ∷ [],
              (
                ap (λ log. log ++ turn ∷ []) more.1.0 ∙ append_assoc (log_at begin.logs k) more.0 (turn ∷ []),
                All-append LoggedTexts more.0 (turn ∷ []) more.1.1
                    (All-cons LoggedTexts turn [] logged (All-nil LoggedTexts)),
              ),
            ));
      },
      took.asks,
    )

-- ---- writes

pub same_frame : {f f2 : Frame} → f2 ≡ f → FrameTexts f → FrameTexts f2
same_frame same h = subst FrameTexts (sym same) h

-- a text that is due is a text, and a field's text in whose place it comes stands there
record IsDue (w : History) (h : StorageView) (due : Result (Option (List ℕ)) Fault) : Type 0 where
  texts : IfOk due (λ x. IfSome x IsText)
  stands : (field card : ℕ) (t : List ℕ) → h ≡ field_text field card → due ≡ Ok (Some t)
      → is_some (text_at w.now.stack field card) ≡ true

sound_writes : {begin w w2 : History} {v v2 : VariablesView} {h : StorageView} {due : Result (Option (List ℕ)) Fault}
    → StorageTexts h → IsDue w h due → Writes w v h due w2 v2 → IsWhole begin w → LocalsTexts v.locals
    → IsWhole begin w2 × LocalsTexts v2.locals
sound_writes {begin} {w} {v = v} {h = h} {due} placed is_due written q k = by written
  where
    is_text : (t : List ℕ) → due ≡ Ok (Some t) → IsText t
    is_text t is = subst (λ o. IfOk o (λ x. IfSome x IsText)) is is_due.texts

    by : {w2 : History} {v2 : VariablesView} → Writes w v h due w2 v2 → IsWhole begin w2 × LocalsTexts v2.locals
    by (Writes.nothing_due _) = (q, k)
    by (Writes.to_global {name = name} {t = t} at is made) =
        let named = subst StorageTexts at placed in (sound_made named.0 (named.1, is_text t is) made q, k)
    by (Writes.to_own {name = name} {t = t} _ is same) = (
      q,
      subst (λ (x : VariablesView). LocalsTexts x.locals)
          (sym same) (with_value_texts name (Some t) v.locals k (is_text t is)),
    )
    by (Writes.to_field {field = field} {card = card} {t = t} at is made) =
        (sound_made (is_due.stands field card t at is) (is_text t is) made q, k)

module _ (cut : PartsCut) where
  pub sound_edits : {begin w w2 : History} {f f2 : Frame} {delimiter : ℕ} {p : PlaceView} {e : Edit}
      {o : Result (Unit {0}) Stop} → StorageTexts p.storage → EditTexts e → delimiter < 256 →
      Edits w f delimiter p e o w2 f2 → HasMemory o → IsWhole begin w → FrameTexts f → IsWhole begin w2 × FrameTexts f2
  sound_edits placed texts byte Edits.edit_memory has q h = absurd (has refl)
  sound_edits placed texts byte (Edits.edit_faults _ same frame) has q h = (same_world same q, same_frame frame h)
  sound_edits {w = w} {f = f} {delimiter = delimiter} {p} {e} placed texts byte (Edits.edited written frame) has q h =
      let both = sound_writes placed (record {
        texts = due_is_text cut w.now f.variables delimiter p e q.history.now.state h byte texts;
        stands = λ field card t. due_stood w.now f.variables delimiter p e t field card;
      }) written q h in
      (both.0, same_frame frame both.1)

pub sound_stores : {begin w w2 : History} {f f2 : Frame} {h : StorageView} {t : List ℕ} → StorageTexts h → IsText t
    → Stores w f h t w2 f2 → IsWhole begin w → FrameTexts f → IsWhole begin w2 × FrameTexts f2
sound_stores {w = w} {f = f} {h = h} placed texts (Stores.stores {t1 = t1} stands written frame) q k =
    let both = sound_writes placed (record {
      texts = texts;
      stands = λ field card t at is. text_stood w.now f.variables h t1 field card at stands;
    }) written q k in
    (both.0, same_frame frame both.1)

pub sound_assigns : {begin w w2 : History} {f f2 : Frame} {variable : Option (List ℕ)} {t : List ℕ}
    → IfSome variable IsText → IsText t → Assigns w f variable t w2 f2 → IsWhole begin w → FrameTexts f
    → IsWhole begin w2 × FrameTexts f2
sound_assigns name texts (Assigns.no_variable _) q h = (q, h)
sound_assigns {f = f} name texts (Assigns.assigns {name = n} is stored) q h =
    let named = subst (λ o. IfSome o IsText) is name in
    sound_stores (named_texts f.variables n named) texts stored q h

declared_texts : (v : VariablesView) (name : List ℕ) → LocalsTexts v.locals → LocalsTexts (declared v name).locals
declared_texts v name h = by v.all_global
  where
    by : (b : Bool) → LocalsTexts (cond b v (with_local v name None)).locals
    by true = h
    by false = with_value_texts name None v.locals h tt

pub sound_declares_all : {begin w w2 : History} {f f2 : Frame} {names : List (List ℕ)} → AllByRecursion IsText names
    → DeclaresAll w f names w2 f2 → IsWhole begin w → FrameTexts f → IsWhole begin w2 × FrameTexts f2
sound_declares_all texts (DeclaresAll.none_declared _) q h = (q, h)
sound_declares_all {begin} {f = f} texts (DeclaresAll.declared {name = name} {v = v} is declares frame rest) q h =
    let all = subst (AllByRecursion IsText) is texts in
    let first = declare declares all.0 q h in
    sound_declares_all all.1 rest first.0 (same_frame frame first.1)
  where
    declare : {w w3 : History} {n : List ℕ} {v3 : VariablesView} → Declares w f.variables n w3 v3 → IsText n
        → IsWhole begin w → LocalsTexts f.variables.locals → IsWhole begin w3 × LocalsTexts v3.locals
    declare {n = n} (Declares.has_value _ same) name q h =
        (q, subst (λ (x : VariablesView). LocalsTexts x.locals) (sym same) (declared_texts f.variables n h))
    declare {n = n} (Declares.is_new _ made same) name q h = (
      sound_made (folded_is_folded n) (folded_text n name, no_bytes) made q,
      subst
          (λ (x : VariablesView). LocalsTexts x.locals) (sym same) (declared_texts f.variables n h),
    )

pub sound_sets : {begin w w2 : History} {m : Referent} {prop : Prop} {t : List ℕ} {o : Result (Unit {0}) Stop}
    → IsText t → Sets w m prop t o w2 → HasMemory o → IsWhole begin w → IsWhole begin w2
sound_sets texts Sets.set_memory has q = absurd (has refl)
sound_sets texts (Sets.set_faults _ same) has q = same_world same q
sound_sets {w = w} {w2} {m} {prop} {t} texts (Sets.set_made is made) has q =
    let fit = subst (λ x. IfOk x (FitsIn w.now.stack)) is (setting_fits w.now.stack m prop t) in
    sound_made (fit w.now refl) (subst (λ x. IfOk x HasTexts) is (setting_texts w.now.stack m prop t texts)) made q

pub sound_adds : {begin w w2 : History} {c : Change} {o : Result (Unit {0}) Stop} → HasTexts c → Adds w c o w2
    → HasMemory o → IsWhole begin w → IsWhole begin w2
sound_adds texts Adds.add_memory has q = absurd (has refl)
sound_adds texts (Adds.too_many _) has q = q
sound_adds texts (Adds.adds fit made) has q = sound_made fit texts made q

-- ---- the run

pub sound_step : {r r2 : RunState} {o : Result (Unit {0}) Stop} → Step r o r2 → RunTexts r → RunTexts r2
sound_step (Step.taken _ is) h = subst RunTexts (sym is) (record { delimiter = h.delimiter; result = h.result })
sound_step (Step.none_left _) h = h

pub sound_shows : {r r2 : RunState} (t : List ℕ) → r2 ≡ shows r t → RunTexts r → RunTexts r2
sound_shows t is h = subst RunTexts (sym is) (record { delimiter = h.delimiter; result = h.result })

pub sound_noted : {r r2 : RunState} (name : List ℕ) (id : ℕ) → r2 ≡ noted r name id → RunTexts r → RunTexts r2
sound_noted name id is h = subst RunTexts (sym is) (record { delimiter = h.delimiter; result = h.result })

pub sound_property : {r r2 : RunState} (p : RunProp) (t : List ℕ) → run_property_set r p t ≡ Ok r2 → IsText t
    → RunTexts r → RunTexts r2
sound_property {r} p t is texts h = subst (λ o. IfOk o RunTexts) is (by p t texts)
  where
    locks : (o : Result Bool Fault) → IfOk (and_then o (λ b. Ok (record r { lock_messages = b }))) RunTexts
    locks (Ok b) = record { delimiter = h.delimiter; result = h.result }
    locks (Err fault) = tt

    edits : (o : Result Bool Fault) → IfOk (and_then o (λ b. Ok (record r { edit_background = b }))) RunTexts
    edits (Ok b) = record { delimiter = h.delimiter; result = h.result }
    edits (Err fault) = tt

    by : (p : RunProp) (t : List ℕ) → IsText t → IfOk (run_property_set r p t) RunTexts
    by ItemDelimiter [] k = tt
    by ItemDelimiter (b ∷ []) k =
        record { delimiter = (recursion_from_All (λ c. c < 256) (b ∷ []) k.bytes).0; result = h.result }
    by ItemDelimiter (b ∷ c ∷ t) k = tt
    by LockMessages t k = locks (truth_of t)
    by EditBkgnd t k = edits (truth_of t)

pub property_read : (r : RunState) (p : RunProp) → RunTexts r → IsText (run_property r p)
property_read r ItemDelimiter h = byte_text r.delimiter h.delimiter
property_read r LockMessages h = word_text r.lock_messages
property_read r EditBkgnd h = word_text r.edit_background

returned_texts : (kind : HandlerKind) (v : List ℕ) (r : RunState) → IsText v → RunTexts r
    → IsText (returned kind v r).value × RunTexts (returned kind v r).run
returned_texts Command v r k h = (no_bytes, record { delimiter = h.delimiter; result = k })
returned_texts Function v r k h = (k, h)

pub sound_returned : {v2 : List ℕ} {r r2 : RunState} (kind : HandlerKind) (v : List ℕ)
    → returned kind v r ≡ record { value = v2; run = r2 } → IsText v → RunTexts r → IsText v2 × RunTexts r2
sound_returned {r = r} kind v is k h =
    subst (λ (x : Outcome). IsText x.value × RunTexts x.run) is (returned_texts kind v r k h)

pub sound_ends : {v : List ℕ} {r r2 : RunState} (kind : HandlerKind) (how : How)
    → ends kind how r ≡ Some (record { value = v; run = r2 }) → HowTexts how → RunTexts r → IsText v × RunTexts r2
sound_ends {r = r} kind how is k h =
    subst (λ o. IfSome o (λ (x : Outcome). IsText x.value × RunTexts x.run)) is (by how k)
  where
    by : (how : How) → HowTexts how → IfSome (ends kind how r) (λ (x : Outcome). IsText x.value × RunTexts x.run)
    by Next k = (no_bytes, h)
    by ExitRepeat k = (no_bytes, h)
    by NextRepeat k = (no_bytes, h)
    by Exit k = (no_bytes, h)
    by Pass k = tt
    by (Returns v) k = returned_texts kind v r k h

pub sound_leaves : {how2 : How} (how : How) → leaves_repeat how ≡ Some how2 → HowTexts how → HowTexts how2
sound_leaves how is k = subst (λ o. IfSome o HowTexts) is (by how k)
  where
    by : (how : How) → HowTexts how → IfSome (leaves_repeat how) HowTexts
    by Next k = tt
    by ExitRepeat k = tt
    by NextRepeat k = tt
    by Exit k = tt
    by Pass k = tt
    by (Returns v) k = k

-- ---- values that are computed, read or found

pub sound_yields : {A : Type 0} {c : Result A Fault} {o : Result A Stop} (P : A → Type 0) → IfOk c P → Yields c o
    → IfOk o P
sound_yields P h Yields.yields_memory = tt
sound_yields P h (Yields.yields is) = subst (λ x. IfOk x P) is h
sound_yields P h (Yields.faults _) = tt

pub sound_parses : {A : Type 0} {IsRead : List Token → A → Type 0} {P : A → Type 0} {t : List ℕ} {a : A}
    → TreesHaveTexts IsRead P → Parses IsRead t (Ok a) → IsText t → P a
sound_parses {t = t} {a = a} law (Parses.parses reads) h = law t a h reads

script_text : (o : Option Object) → IfSome o (λ x. IsText x.name × IsText x.script)
    → IsText (unwrap_or (option_map (λ x. x.script) o) [])
script_text None h = no_bytes
script_text (Some x) h = h.1

handler_texts : (hs : stm.Handlers) (kind : HandlerKind) (name : List ℕ) → HandlersTexts hs
    → IfSome (handler_in hs kind name) HandlerTexts
handler_texts stm.no_handlers kind name h = tt
handler_texts (stm.and_handler x xs) kind name h = by (handler_texts xs kind name h.1) (takes kind name x)
  where
    by : IfSome (handler_in xs kind name) HandlerTexts → (b : Bool)
        → IfSome (cond b (Some x) (handler_in xs kind name)) HandlerTexts
    by rest true = h.0
    by rest false = rest

abbrev FoundTexts : Option HandlerFound → Type 0
FoundTexts o = IfSome o (λ fd. HandlerTexts fd.handler)

first_texts : {s : Content} {path name : List ℕ} {kind : HandlerKind} {o : Result (Option HandlerFound) Fault}
    → First s path kind name o → IsWellFormed s → IfOk o FoundTexts
first_texts (First.nothing_left _ is) w = subst (λ x. IfOk x FoundTexts) (sym is) tt
first_texts {s} {path} {name} {kind} (First.here {id = id} {hs = hs} {h = h} _ reads found is) w =
    let texts = scripts_have_texts (object_script s id) hs (script_text (object_at s id) (w.names id)) reads in
    let handler = subst (λ x. IfSome x HandlerTexts) found (handler_texts hs kind name texts) in
    subst (λ x. IfOk x FoundTexts) (sym is) handler
first_texts (First.further_on _ _ _ rest) w = first_texts rest w
first_texts (First.no_script _ _ is) w = subst (λ x. IfOk x FoundTexts) (sym is) tt

pub sound_finds : {s : Content} {path name : List ℕ} {kind : HandlerKind} {fd : HandlerFound}
    → Finds s path kind name (Ok (Some fd)) → IsWellFormed s → HandlerTexts fd.handler
sound_finds (Finds.finds first) w = first_texts first w

bound_texts : (names arguments : List (List ℕ)) (v : VariablesView) → AreTexts arguments → LocalsTexts v.locals
    → LocalsTexts (bound names arguments v).locals
bound_texts [] arguments v h k = k
bound_texts (n ∷ names) [] v h k =
    bound_texts names [] (with_local v n (Some [])) tt (with_value_texts n (Some []) v.locals k no_bytes)
bound_texts (n ∷ names) (a ∷ arguments) v h k =
    bound_texts names arguments (with_local v n (Some a)) h.1 (with_value_texts n (Some a) v.locals k h.0)

pub sound_handler_frame : {f : Frame} (me target : ℕ) (names arguments : List (List ℕ))
    → f ≡ handler_frame me target names arguments → AreTexts arguments → FrameTexts f
sound_handler_frame me target names arguments is h = same_frame is (bound_texts names arguments _ h tt)

pub sound_only : {t : List ℕ} (vs : List (List ℕ)) → only vs ≡ Some t → AreTexts vs → IsText t
sound_only vs is h = subst (λ o. IfSome o IsText) is (by vs h)
  where
    by : (vs : List (List ℕ)) → AreTexts vs → IfSome (only vs) IsText
    by [] h = tt
    by (t ∷ []) h = h.0
    by (t ∷ u ∷ ts) h = tt

pub lines_texts : (h : stm.Handler) → HandlerTexts h → StmtsTexts (lines_of h)
lines_texts (stm.handler kind name parameters lines) texts = texts.2

pub texts_push : (vs : List (List ℕ)) (v : List ℕ) → AreTexts vs → IsText v → AreTexts (vs ++ v ∷ [])
texts_push [] v h k = (k, tt)
texts_push (x ∷ vs) v h k = (h.0, texts_push vs v h.1 k)

pub it_text : IsText it_name
it_text = given_text it_name refl

pub return_text : IsText (13 ∷ [])
return_text = given_text (13 ∷ []) refl

pub field_place_texts : (s : State) (m : Referent) → IfOk (field_place s m) (λ p. StorageTexts p.storage)
field_place_texts s m = of_field StorageTexts (λ field card. tt) s m

pub named_place_texts : (s : State) (v : VariablesView) (b : Bool) (name : List ℕ)
    → IfOk (field_named_place s v b name) (λ p. StorageTexts p.storage)
named_place_texts s v b name = of_field_named StorageTexts (λ field card. tt) s v b name
