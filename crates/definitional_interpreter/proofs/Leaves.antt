-- What a rule makes beside its parts has one outcome: texts, steps, edits, objects and turns.
use Rattle.std.proofs.Common.{◌≡◌, ℕ, zero, suc, ◌-◌, ◌<◌, List, [], ◌∷◌, length, map, Bool, true, false, Option, Some}
use Rattle.std.proofs.Common.{None, Result, Ok, Err, refl, sym, ap, subst, ◌∙◌, arith, option_map, if◌then◌else◌}
use Rattle.ht_values.specs.declared.fault.Fault.{Fault}
use Rattle.ht_values.specs.declared.fault.Fault.TheVariants.{StepLimit, TooMany, Syntax}
use Rattle.ht_values.specs.Text.{folded}
use Rattle.std.specs.FinMap.{get}
use Rattle.ht_values.specs.declared.word.Prop.{Prop}
use Rattle.externals.specs.declared.external.Ask.{Ask}
use Rattle.externals.specs.declared.external.Ask.TheVariants.{SendCardMessage, EvalExpr, SetGlobal, SetFieldByName}
use Rattle.externals.specs.declared.external.Ask.TheVariants.{Done, Fail}
use Rattle.externals.specs.declared.external.Input.{Input}
use Rattle.journal_entries.specs.declared.change.Change.{Change}
use Rattle.change_journal.specs.History.{History}
use Rattle.change_journal.specs.Rising.{Made, TookTurn}
use Rattle.containers.specs.declared.edit.Edit.{Edit}
use Rattle.containers.specs.Places.{StorageView, PlaceView}
use Rattle.containers.specs.Variables.{VariablesView, declared}
use Rattle.containers.specs.Writes.{Writes, Declares}
use Rattle.object_references.specs.declared.referent.Referent.{Referent}
use Rattle.meaning.specs.declared.end.Stop.{Stop}
use Rattle.meaning.specs.declared.end.Stop.TheVariants.{Fault as Faults}
use Rattle.meaning.specs.declared.frame.Frame.{Frame}
use Rattle.meaning.specs.Places.{Edits, Stores, Assigns, DeclaresAll, Sets, Adds}
use Rattle.meaning.specs.State.{RunState, Step}
use Rattle.meaning.specs.Values.{Yields, Parses}
use Rattle.preservation.specs.Kinds.{sorts_of}
use Rattle.preservation.specs.Laws.{HasMemory}
use Rattle.preservation.proofs.CallBacks.{IsCall}
use Rattle.preservation.proofs.Logs.{Kept, kept_same, kept_refl, kept_trans, kept_made, kept_took, sorts_took}
use Rattle.definitional_interpreter.specs.Told.{Visible, Told, told, told_in, after, maybe, computed, choose}
use Rattle.definitional_interpreter.specs.Changes.{with_global, yielded, step_by, step, made, make, with_variables}
use Rattle.definitional_interpreter.specs.Changes.{written, edit_by}
use Rattle.definitional_interpreter.specs.Changes.{edit, store, assign, declare_all, set_property, add_objects, turn}
use Rattle.definitional_interpreter.specs.Families.{Meanings}
use Rattle.definitional_interpreter.proofs.Comes.{Sight, sight, Comes, HasExternal}
use Rattle.definitional_interpreter.proofs.Sights.{asks_rest, computes}
use Rattle.ht_lex.specs.declared.tokens.Span.{Span}
use Rattle.ht_lex.specs.Cutting.{spans_of, CutsExactly}
use Rattle.ht_lex.specs.Token.{Token, token_in}
use Rattle.ht_grammar.specs.declared.vocabulary.HandlerKind.{HandlerKind}
use Rattle.ht_grammar.specs.Handlers.{handler_in}
use Rattle.ht_grammar.specs.Laws.{ReadsExactly, TextsAreReadExactly}
use Rattle.ht_grammar.specs.Lines.{typed_lines}
use Rattle.ht_grammar.specs.Reading.{expression}
use Rattle.ht_grammar.specs.Reads.{Reads, ReadsExpr, ReadsLines, ReadsMessage, ReadsScript}
use Rattle.ht_grammar.specs.Statements.{Stmts, Message}
use Rattle.ht_grammar.specs.Trees.{Expr}
use Rattle.ht_grammar.specs.Whole.{script, sent_message}
use Rattle.object_table.specs.Content.{Content}
use Rattle.externals.specs.Cells.{Seen}
use Rattle.msg_path.specs.BuiltIns.{external_named, answers}
use Rattle.journal_entries.specs.ScriptTrees.{object_script}
use Rattle.msg_path.specs.Handlers.{HandlerFound, First}
use Rattle.meaning.specs.declared.end.Conversed.{Conversed}
use Rattle.meaning.specs.Meaning.{CallsBack}
use Rattle.meaning.specs.Messages.{Finds}
use Rattle.definitional_interpreter.specs.Texts.{read_by, or_syntax, parsed, handled, first_found}
use Rattle.definitional_interpreter.specs.Messages.{talk_by}
use Rattle.definitional_interpreter.proofs.Chain.{done}

-- the outcome as it is said, of the one that is computed
said : {g : Sight} {X : Type 0} {w w2 : History} {F : Meanings → X} {x y : X} → x
    ≡ y → Comes g w F x w2 → Comes g w F y w2
said {g} {w = w} {w2 = w2} {F = F} is h = subst (λ x. Comes g w F x w2) is h

pub yields : {g : Sight} {A : Type 0} {c : Result A Fault} {o : Result A Stop} {w : History} {r : RunState} →
    Yields c o → HasMemory o → Comes g w (λ parts. told (yielded c) (sight g w) r) (told o (sight g w) r) w
yields Yields.yields_memory has = absurd (has refl)
yields {g} {w = w} {r = r} (Yields.yields is) has = said (ap (λ c. told (yielded c) (sight g w) r) is) done
yields {g} {w = w} {r = r} (Yields.faults is) has = said (ap (λ c. told (yielded c) (sight g w) r) is) done

step_is : (n : ℕ) (w : Visible) (r : RunState) → 0 < n → step_by n w r ≡ told (Ok tt) w (record r { left = r.left - 1 })
step_is zero w r is = absurd (omega (arith, is))
step_is (suc n) w r is = refl

pub steps : {g : Sight} {r r1 : RunState} {o : Result (Unit {0}) Stop} {w : History} → Step r o r1 → HasMemory o →
    Comes g w (λ parts. step (sight g w) r) (told o (sight g w) r1) w
steps {g} {r} {r1} {w = w} (Step.taken some is) has =
    said (ap (told (Ok tt) (sight g w)) (sym is))
    (subst (λ t. Comes g w (λ parts. t) (told (Ok tt) (sight g w) (record r { left = r.left - 1 })) w)
    (sym (step_is r.left (sight g w) r some)) done)
steps {g} {r} {w = w} (Step.none_left is) has =
    subst (λ n. Comes g w (λ parts. step_by n (sight g w) r) (told (Err (Faults StepLimit)) (sight g w) r) w)
    (sym is) done

-- ---- changes

present_made : (g : Sight) {w w1 : History} {c : Change} → Made w w1 c → made (sight g w) c ≡ sight g w1
present_made g m = sym (ap (sight g) m.history)

-- an outcome that is the same whatever the parts mean
leaf : {g : Sight} {X : Type 0} {w w1 : History} {x y : X} → Kept w w1 → x ≡ y → Comes g w (λ parts. x) y w1
leaf kept is = record { kept = kept; gives = λ exact asked. (0, λ fuel le. is) }

pub makes : {g : Sight} {w w1 : History} {c : Change} {r : RunState} → Made w w1 c →
    Comes g w (λ parts. make (sight g w) r c) (told (Ok tt) (sight g w1) r) w1
unfolding make
makes {g} {r = r} m = leaf (kept_made m) (ap (λ w. told (Ok tt) w r) (present_made g m))

writes : (g : Sight) {w w1 : History} {v : VariablesView} {p : StorageView} {d : Result (Option (List ℕ)) Fault}
    {r : RunState} {f : Frame} → Writes w f.variables p d w1 v →
    Kept w w1 × (edit_by (sight g w) r f p d ≡ told_in (Ok tt) (sight g w1) r (with_variables f v))
writes g {w} {p = p} {r = r} {f = f} (Writes.nothing_due is) = (kept_refl, ap (edit_by (sight g w) r f p) is)
writes g {w} {p = p} {r = r} {f = f} (Writes.to_global {name = name} {t = t} at is m) = (
  kept_made m,
  ap (edit_by (sight g w) r f p) is ∙ ap (λ p. written (sight g w) r f p t) at
      ∙ ap (λ w. told_in (Ok tt) w r f) (present_made g m),
)
writes g {w} {p = p} {r = r} {f = f} (Writes.to_own {name = name} {t = t} at is new) = (
  kept_refl,
  ap (edit_by (sight g w) r f p) is ∙ ap (λ p. written (sight g w) r f p t) at
      ∙ ap (λ v. told_in (Ok tt) (sight g w) r (with_variables f v)) (sym new),
)
writes g {w} {p = p} {r = r} {f = f} (Writes.to_field {t = t} at is m) = (
  kept_made m,
  ap (edit_by (sight g w) r f p) is ∙ ap (λ p. written (sight g w) r f p t) at
      ∙ ap (λ w. told_in (Ok tt) w r f) (present_made g m),
)

pub edits : {g : Sight} {w w1 : History} {f f1 : Frame} {r : RunState} {p : PlaceView} {e : Edit}
    {o : Result (Unit {0}) Stop} → Edits w f r.delimiter p e o w1 f1 → HasMemory o →
    Comes g w (λ parts. edit (sight g w) r f p e) (told_in o (sight g w1) r f1) w1
edits {w} {w1} {f} {f1} {r} {p} {e} Edits.edit_memory has = absurd (has refl)
edits {g} {w} {w1} {f} {f1} {r} {p} {e} (Edits.edit_faults {n = n} is same frame) has =
    leaf (kept_same same)
    (ap (edit_by (sight g w) r f p.storage) is
    ∙ ap (λ (v : History). told_in (Err (Faults n)) (sight g v) r f) (sym same)
    ∙ ap (told_in (Err (Faults n)) (sight g w1) r) (sym frame))
edits {g} {w} {w1} {f} {f1} {r} {p} {e} (Edits.edited done_by frame) has =
    let both =
    writes g {r = r} {f = f} done_by in leaf both.0 (both.1 ∙ ap (told_in (Ok tt) (sight g w1) r) (sym frame))

pub stores : {g : Sight} {w w1 : History} {f f1 : Frame} {r : RunState} {h : StorageView} {t : List ℕ} →
    Stores w f h t w1 f1 →
    Comes g w (λ parts. store (sight g w) r f h t) (told_in (Ok tt) (sight g w1) r f1) w1
unfolding store
stores {g} {w1 = w1} {f = f} {r = r} (Stores.stores _ done_by frame) =
    let both = writes g {r = r} {f = f} done_by in leaf both.0
    (both.1 ∙ ap (told_in (Ok tt) (sight g w1) r) (sym frame))

pub assigns : {g : Sight} {w w1 : History} {f f1 : Frame} {r : RunState} {name : Option (List ℕ)} {v : List ℕ} →
    Assigns w f name v w1 f1 →
    Comes g w (λ parts. assign (sight g w) r f name v) (told_in (Ok tt) (sight g w1) r f1) w1
assigns {g} {w} {f = f} {r = r} {v = v} (Assigns.no_variable is) =
    leaf kept_refl (ap (λ name. assign (sight g w) r f name v) is)
assigns {g} {w} {w1} {f} {f1} {r} {v = v} (Assigns.assigns is e) =
    subst (λ name. Comes g w (λ parts. assign (sight g w) r f name v) (told_in (Ok tt) (sight g w1) r f1) w1) (sym is)
    (stores e)

declares : (g : Sight) {w w1 : History} {v v1 : VariablesView} {name : List ℕ} → Declares w v name w1 v1 →
    Kept w w1 × (with_global (sight g w) name (get w.now.globals (folded name))
    ≡ sight g w1) × (declared v name ≡ v1)
declares g {w} {name = name} (Declares.has_value is new) = (kept_refl, ap (with_global (sight g w) name) is, sym new)
declares g {w} {name = name} (Declares.is_new is m new) =
    (kept_made m, ap (with_global (sight g w) name) is ∙ present_made g m, sym new)

moved : {g : Sight} {X : Type 0} {w w1 w2 : History} {F : Meanings → X} {x : X} → Kept w w1 →
    Comes g w1 F x w2 → Comes g w F x w2
moved {g} {w = w} {w1 = w1} {w2 = w2} kept h =
    record { kept = kept_trans kept h.kept; gives = λ exact asked. h.gives exact (asks_rest kept asked) }

pub declares_all : {g : Sight} {w w1 : History} {f f1 : Frame} {r : RunState} {names : List (List ℕ)} →
    DeclaresAll w f names w1 f1 →
    Comes g w (λ parts. declare_all (sight g w) r f names) (told_in (Ok tt) (sight g w1) r f1) w1
declares_all {g} {w} {f = f} {r = r} (DeclaresAll.none_declared is) =
    leaf kept_refl (ap (declare_all (sight g w) r f) is)
declares_all {g} {w} {w1 = w2} {f} {f1 = f2} {r}
    (DeclaresAll.declared {w1 = w1} {f1 = f1} {names1 = names} {name = name} {v = v} is d frame rest) =
    let all = declares g d in
    let f_is : f1 ≡ with_variables f (declared f.variables name) = frame ∙ ap (with_variables f) (sym all.2) in
    let h = moved all.0 (declares_all {r = r} rest) in
    subst (λ ns. Comes g w (λ parts. declare_all (sight g w) r f ns) (told_in (Ok tt) (sight g w2) r f2) w2) (sym is)
    (subst
    (λ f1. Comes g w
    (λ parts. declare_all (with_global (sight g w) name (get w.now.globals (folded name))) r f1 names)
    (told_in (Ok tt) (sight g w2) r f2) w2) f_is
    (subst (λ u. Comes g w (λ parts. declare_all u r f1 names) (told_in (Ok tt) (sight g w2) r f2) w2) (sym all.1) h))

pub sets : {g : Sight} {w w1 : History} {m : Referent} {p : Prop} {t : List ℕ} {o : Result (Unit {0}) Stop}
    {r : RunState} → Sets w m p t o w1 → HasMemory o →
    Comes g w (λ parts. set_property (sight g w) r m p t) (told o (sight g w1) r) w1
unfolding make
sets Sets.set_memory has = absurd (has refl)
sets {g} {w} {r = r} (Sets.set_faults {n = n} is same) has =
    leaf (kept_same same)
    (ap (λ c. computed c (λ c. make (sight g w) r c) (λ n. told (Err (Faults n)) (sight g w) r)) is
    ∙ ap (λ (v : History). told (Err (Faults n)) (sight g v) r) (sym same))
sets {g} {w} {r = r} (Sets.set_made is m) has =
    leaf (kept_made m)
    (ap (λ c. computed c (λ c. make (sight g w) r c) (λ n. told (Err (Faults n)) (sight g w) r)) is
    ∙ ap (λ w. told (Ok tt) w r) (present_made g m))

pub adds : {g : Sight} {w w1 : History} {c : Change} {o : Result (Unit {0}) Stop} {r : RunState} → Adds w c o w1 →
    HasMemory o → Comes g w (λ parts. add_objects (sight g w) r c) (told o (sight g w1) r) w1
unfolding make
adds Adds.add_memory has = absurd (has refl)
adds {g} {w} {c = c} {r = r} (Adds.too_many is) has =
    leaf kept_refl (ap (λ b. choose b (λ _. make (sight g w) r c) (λ _. told (Err (Faults TooMany)) (sight g w) r)) is)
adds {g} {w} {c = c} {r = r} (Adds.adds is m) has =
    leaf (kept_made m)
    (ap (λ b. choose b (λ _. make (sight g w) r c) (λ _. told (Err (Faults TooMany)) (sight g w) r)) is
    ∙ ap (λ w. told (Ok tt) w r) (present_made g m))

-- ---- externals

-- an external that a message names is there
named_later : (rest : List ℕ) (found : Option ℕ) (k : ℕ) → ((j : ℕ) → found ≡ Some j → j < length rest) →
    option_map suc found ≡ Some k → k < suc (length rest)
named_later rest None k earlier is = cc
named_later rest (Some j) k earlier is = let before : j < length rest = earlier j refl in let same : suc j
    ≡ k = cc in omega (arith, before, same)

named_by : (rest : List ℕ) (b : Bool) (found : Option ℕ) (k : ℕ) → ((j : ℕ) → found ≡ Some j → j < length rest) →
    (if b then Some 0 else option_map suc found) ≡ Some k → k < suc (length rest)
named_by rest true found k earlier is = let same : 0 ≡ k = cc in omega (arith, same)
named_by rest false found k earlier is = named_later rest found k earlier is

within : (es : List Seen) (is_function : Bool) (name : List ℕ) (k : ℕ) → external_named es is_function name
    ≡ Some k → k < length (sorts_of es)
within [] is_function name k is = cc
within (e ∷ es) is_function name k is =
    named_by (sorts_of es) (answers is_function name e) (external_named es is_function name) k
    (λ j. within es is_function name j) is

pub named_there : (w : History) (is_function : Bool) (name : List ℕ) {k : ℕ} →
    external_named w.now.externals is_function name ≡ Some k → HasExternal w k
named_there w is_function name {k} is = record { there = within w.now.externals is_function name k is }

pub there_after : {w w1 w2 : History} {k j : ℕ} {input : Input} {ask : Ask} → HasExternal w k →
    TookTurn w w1 j input ask → Kept w1 w2 → HasExternal w2 k
there_after {k = k} h took kept =
    record { there = subst (λ ks. k < length ks) (sym (kept.kinds ∙ sorts_took took)) h.there }

pub takes_turn : {g : Sight} {w w1 : History} {k : ℕ} {input : Input} {ask : Ask} {r : RunState} →
    TookTurn w w1 k input ask → HasExternal w k →
    Comes g w (λ parts. turn (sight g w) r k input) (told (Ok ask) (sight g w1) r) w1
takes_turn {g} {w} {w1} {k} {input} {ask} {r} t h =
    record { kept = kept_took t; gives = λ exact asked. (0, λ fuel le. computes g w w1 k input ask t h asked r) }

pub asks_back : {w w1 : History} {r r1 : RunState} {d : ℕ} {ask : Ask} {o : Result Input Stop} →
    CallsBack w r d ask o w1 r1 → HasMemory o → IsCall ask
asks_back CallsBack.call_back_memory has = absurd (has refl)
asks_back (CallsBack.message_syntax p _) has = subst IsCall (sym p) tt
asks_back (CallsBack.message_stops p _ _ _) has = subst IsCall (sym p) tt
asks_back (CallsBack.message_runs p _ _ _ _) has = subst IsCall (sym p) tt
asks_back (CallsBack.eval_syntax p _) has = subst IsCall (sym p) tt
asks_back (CallsBack.eval_stops p _ _ _) has = subst IsCall (sym p) tt
asks_back (CallsBack.evaluates p _ _ _ _) has = subst IsCall (sym p) tt
asks_back (CallsBack.bad_global p _) has = subst IsCall (sym p) tt
asks_back (CallsBack.global_set p _ _ _ _) has = subst IsCall (sym p) tt
asks_back (CallsBack.no_such_field p _ _) has = subst IsCall (sym p) tt
asks_back (CallsBack.field_set p _ _ _ _) has = subst IsCall (sym p) tt

pub talk_back : {g : Sight} {w w2 : History} {r : RunState} {d k : ℕ} {ask : Ask} {x : Told Conversed} → IsCall ask →
    Comes g w (λ parts. after (parts.calls_back (sight g w) r d ask) (λ input w r. parts.talks w r d k input)) x w2 →
    Comes g w (λ parts. talk_by parts (sight g w) r d k ask) x w2
talk_back {ask = Done v passes} call h = absurd call
talk_back {ask = Fail} call h = absurd call
talk_back {ask = SendCardMessage note t} call h = h
talk_back {ask = EvalExpr note t} call h = h
talk_back {ask = SetGlobal note n v} call h = h
talk_back {ask = SetFieldByName note on_card n v} call h = h

-- ---- texts

is_read : {A : Type 0} {read : List Token → Option A} {IsRead : List Token → A → Type 0} {text : List ℕ} {tree : A} →
    CutsExactly spans_of → ReadsExactly read IsRead → Reads IsRead text tree → read_by read text ≡ Some tree
is_read {read = read} {text = text} {tree = tree} cuts exact r =
    ap (λ c. maybe c (λ spans. read (map (token_in text) spans)) (λ _. None)) ((cuts text r.spans).1 r.cut)
    ∙ (exact (map (token_in text) r.spans) tree).1 r.reads

is_unread : {A : Type 0} (read : List Token → Option A) (IsRead : List Token → A → Type 0) (text : List ℕ) →
    CutsExactly spans_of → ReadsExactly read IsRead → ((tree : A) → Reads IsRead text tree → ⊥) → read_by read text
    ≡ None
is_unread {A} read IsRead text cuts exact none = by_spans (spans_of text) refl
  where
    by_tree : (spans : List Span) (tree : Option A) → spans_of text ≡ Some spans →
        read (map (token_in text) spans) ≡ tree → tree ≡ None
    by_tree spans None e f = refl
    by_tree spans (Some tree) e f =
        absurd (none tree
        (record { spans = spans; cut = (cuts text spans).0 e; reads = (exact (map (token_in text) spans) tree).0 f }))

    by_spans : (found : Option (List Span)) → spans_of text ≡ found →
        maybe found (λ spans. read (map (token_in text) spans)) (λ _. None) ≡ None
    by_spans None e = refl
    by_spans (Some spans) e = by_tree spans (read (map (token_in text) spans)) e refl

parses : {g : Sight} {A : Type 0} (read : List Token → Option A) (IsRead : List Token → A → Type 0) →
    (TextsAreReadExactly → ReadsExactly read IsRead) → {t : List ℕ} {o : Result A Stop} {w : History} {r : RunState} →
    Parses IsRead t o → HasMemory o →
    Comes g w (λ parts. told (parsed read t) (sight g w) r) (told o (sight g w) r) w
parses read IsRead exactly Parses.parse_memory has = absurd (has refl)
parses {g} read IsRead exactly {t = t} {w = w} {r = r} (Parses.parses p) has = record {
  kept = kept_refl;
  gives =
      λ exact asked. (0, λ fuel le. ap (λ x. told (or_syntax x) (sight g w) r) (is_read exact.cuts (exactly exact) p));
}
parses {g} read IsRead exactly {t = t} {w = w} {r = r} (Parses.unparsed none) has = record {
  kept = kept_refl;
  gives =
      λ exact asked. (
        0,
        λ fuel le. ap (λ x. told (or_syntax x) (sight g w) r)
            (is_unread read IsRead t exact.cuts (exactly exact) none),
      );
}

pub parses_expression : {g : Sight} {t : List ℕ} {o : Result Expr Stop} {w : History} {r : RunState} →
    Parses ReadsExpr t o → HasMemory o →
    Comes g w (λ parts. told (parsed expression t) (sight g w) r) (told o (sight g w) r) w
parses_expression p has = parses expression ReadsExpr (λ e. e.expressions) p has

pub parses_typed_lines : {g : Sight} {t : List ℕ} {o : Result Stmts Stop} {w : History} {r : RunState} →
    Parses ReadsLines t o → HasMemory o →
    Comes g w (λ parts. told (parsed typed_lines t) (sight g w) r) (told o (sight g w) r) w
parses_typed_lines p has = parses typed_lines ReadsLines (λ e. e.lines) p has

pub parses_sent_message : {g : Sight} {t : List ℕ} {o : Result Message Stop} {w : History} {r : RunState} →
    Parses ReadsMessage t o → HasMemory o →
    Comes g w (λ parts. told (parsed sent_message t) (sight g w) r) (told o (sight g w) r) w
parses_sent_message p has = parses sent_message ReadsMessage (λ e. e.messages) p has

first_is : {s : Content} {path name : List ℕ} {kind : HandlerKind} {out : Result (Option HandlerFound) Fault} →
    TextsAreReadExactly → First s path kind name out → first_found s path kind name ≡ yielded out
first_is {s} {path} {name} {kind} exact (First.nothing_left e a) = ap (λ p. first_found s p kind name) e
    ∙ ap yielded (sym a)
first_is {s} {path} {name} {kind} exact (First.here {rest = rest} {id = id} e r h a) =
    ap (λ p. first_found s p kind name) e
    ∙ ap (λ x. maybe x (λ hs. handled id (handler_in hs kind name) (λ _. first_found s rest kind name))
    (λ _. Err (Faults Syntax))) (is_read exact.cuts exact.scripts r)
    ∙ ap (λ x. handled id x (λ _. first_found s rest kind name)) h ∙ ap yielded (sym a)
first_is {s} {path} {name} {kind} exact (First.further_on {rest = rest} {id = id} e r h p) =
    ap (λ p. first_found s p kind name) e
    ∙ ap (λ x. maybe x (λ hs. handled id (handler_in hs kind name) (λ _. first_found s rest kind name))
    (λ _. Err (Faults Syntax))) (is_read exact.cuts exact.scripts r)
    ∙ ap (λ x. handled id x (λ _. first_found s rest kind name)) h ∙ first_is exact p
first_is {s} {path} {name} {kind} exact (First.no_script {rest = rest} {id = id} e none a) =
    ap (λ p. first_found s p kind name) e
    ∙ ap (λ x. maybe x (λ hs. handled id (handler_in hs kind name) (λ _. first_found s rest kind name))
    (λ _. Err (Faults Syntax))) (is_unread script ReadsScript (object_script s id) exact.cuts exact.scripts none)
    ∙ ap yielded (sym a)

found_first : {g : Sight} {path name : List ℕ} {kind : HandlerKind} {out : Result (Option HandlerFound) Fault}
    {w : History}
    {r : RunState} → First w.now.stack path kind name out →
    Comes g w (λ parts. told (first_found w.now.stack path kind name) (sight g w) r)
    (told (yielded out) (sight g w) r) w
found_first {g} {path} {name} {kind} {w = w} {r = r} first = record {
  kept = kept_refl;
  gives = λ exact asked. (0, λ fuel le. ap (λ x. told x (sight g w) r) (first_is exact first));
}

pub finds : {g : Sight} {path name : List ℕ} {kind : HandlerKind} {o : Result (Option HandlerFound) Stop} {w : History}
    {r : RunState} → Finds w.now.stack path kind name o → HasMemory o →
    Comes g w (λ parts. told (first_found w.now.stack path kind name) (sight g w) r) (told o (sight g w) r) w
finds Finds.find_memory has = absurd (has refl)
finds (Finds.finds first) has = found_first first
finds (Finds.find_fails first) has = found_first first
