-- What a rule makes beside its parts can be made: steps, texts, edits, changes.
use Rattle.std.proofs.Common.{◌≡◌, ℕ, zero, suc, ◌-◌, ◌<◌, List, [], ◌∷◌, map, Bool, true, false, Option, Some, None}
use Rattle.std.proofs.Common.{Result, Ok, Err, IfOk, refl, sym, ap, subst, ◌∙◌, arith, if◌then◌else◌}
use Rattle.std.specs.FinMap.{get}
use Rattle.std.proofs.lemmas.Option.{none-some}
use Rattle.ht_values.specs.declared.fault.Fault.{Fault}
use Rattle.ht_values.specs.declared.fault.Fault.TheVariants.{StepLimit, Syntax, TooMany}
use Rattle.ht_values.specs.declared.word.Prop.{Prop}
use Rattle.ht_values.specs.Outcome.{and_then}
use Rattle.ht_values.specs.Text.{folded}
use Rattle.ht_lex.specs.declared.tokens.Span.{Span}
use Rattle.ht_lex.specs.Cutting.{spans_of, CutsExactly}
use Rattle.ht_lex.specs.Token.{Token, token_in}
use Rattle.ht_grammar.specs.declared.vocabulary.HandlerKind.{HandlerKind}
use Rattle.ht_grammar.specs.Handlers.{handler_in}
use Rattle.ht_grammar.specs.Laws.{ReadsExactly, TextsAreReadExactly}
use Rattle.ht_grammar.specs.Reads.{Reads, ReadsScript}
use Rattle.ht_grammar.specs.Statements.{Handler, Handlers}
use Rattle.ht_grammar.specs.Whole.{script}
use Rattle.object_table.specs.Content.{Content}
use Rattle.journal_entries.specs.declared.change.Change.{Change}
use Rattle.journal_entries.specs.declared.change.Change.TheVariants.{Global, FieldText}
use Rattle.journal_entries.specs.Changes.{changed, fits}
use Rattle.journal_entries.specs.Replaced.{replaced_by}
use Rattle.journal_entries.specs.State.{State}
use Rattle.journal_entries.specs.ScriptTrees.{object_script}
use Rattle.change_journal.specs.History.{Open, History}
use Rattle.change_journal.specs.Rising.{BothOpen, Rises, Made, trail_after}
use Rattle.object_references.specs.declared.referent.Referent.{Referent}
use Rattle.object_references.specs.References.{field_named}
use Rattle.object_references.specs.Settings.{setting}
use Rattle.containers.specs.declared.edit.Edit.{Edit}
use Rattle.containers.specs.Edits.{due, read_at}
use Rattle.containers.specs.Places.{StorageView, PlaceView, global, own, field_text, named, whole}
use Rattle.containers.specs.Variables.{VariablesView, declared, is_global, with_local}
use Rattle.containers.specs.Writes.{Writes, Declares}
use Rattle.msg_path.specs.Handlers.{HandlerFound, First}
use Rattle.meaning.specs.declared.end.How.{How}
use Rattle.meaning.specs.declared.end.How.TheVariants.{Pass}
use Rattle.meaning.specs.declared.end.Stop.{Stop}
use Rattle.meaning.specs.declared.end.Stop.TheVariants.{Fault as Faults}
use Rattle.meaning.specs.declared.frame.Frame.{Frame}
use Rattle.meaning.specs.Messages.{Finds}
use Rattle.meaning.specs.Places.{Edits, Stores, Assigns, DeclaresAll, Sets, Adds, field_place, field_named_place}
use Rattle.meaning.specs.Places.{layer_of_field}
use Rattle.meaning.specs.State.{RunState, Step}
use Rattle.meaning.specs.Values.{Yields, Parses}
use Rattle.preservation.specs.Laws.{HasMemory}
use Rattle.preservation.proofs.Ends.{stopped}
use Rattle.totality.specs.Laws.{Behaves}
use Rattle.totality.proofs.Chain.{Begun, IsOpen, Underway, Has, has, HasRun, has_run, up, maybe}

-- ---- steps

-- a step, and then with fewer steps
pub then_step : {B : Type 0} {begun : Begun} {n : ℕ} {Q : Result B Stop → History → RunState → Type 0} (w : History)
    (r : RunState) → Underway begun (suc n) w r → ((z : Stop) (r1 : RunState) → Step r (Err z) r1 → Q (Err z) w r1) →
    ((r1 : RunState) → Underway begun n w r1 → Step r (Ok tt) r1 → Has begun (suc n) Q) → Has begun (suc n) Q
then_step {B} {begun} {n} {Q} w r k stops goes_on = by_left r.left refl
  where
    by_left : (left : ℕ) → r.left ≡ left → Has begun (suc n) Q
    by_left zero e = has (Err (Faults StepLimit)) w r (λ e. cc) k (stops (Faults StepLimit) r (Step.none_left e))
    by_left (suc rest) e = let fewer = k.left in goes_on (record r { left = r.left - 1 })
        (record { is_open = k.is_open; left = omega (arith, e, fewer) }) (Step.taken (omega (arith, e)) refl)

pub then_step_in : {B : Type 0} {begun : Begun} {n : ℕ} {Q : Result B Stop → History → RunState → Frame → Type 0}
    (w : History) (r : RunState) (f : Frame) → Underway begun (suc n) w r →
    ((z : Stop) (r1 : RunState) → Step r (Err z) r1 → Q (Err z) w r1 f) →
    ((r1 : RunState) → Underway begun n w r1 → Step r (Ok tt) r1 → HasRun begun (suc n) Q) → HasRun begun (suc n) Q
then_step_in {B} {begun} {n} {Q} w r f k stops goes_on = by_left r.left refl
  where
    by_left : (left : ℕ) → r.left ≡ left → HasRun begun (suc n) Q
    by_left zero e = has_run (Err (Faults StepLimit)) w r f (λ e. cc) k
        (stops (Faults StepLimit) r (Step.none_left e))
    by_left (suc rest) e = let fewer = k.left in goes_on (record r { left = r.left - 1 })
        (record { is_open = k.is_open; left = omega (arith, e, fewer) }) (Step.taken (omega (arith, e)) refl)

-- with fewer steps, and so with more
pub lift : {A : Type 0} {begun : Begun} {n : ℕ} {Rule : Result A Stop → History → RunState → Type 0} →
    Has begun n Rule → Has begun (suc n) Rule
lift (has o w r has_memory k h) = has o w r has_memory (up k) h

pub lift_run : {A : Type 0} {begun : Begun} {n : ℕ} {Rule : Result A Stop → History → RunState → Frame → Type 0} →
    HasRun begun n Rule → HasRun begun (suc n) Rule
lift_run (has_run o w r f has_memory k h) = has_run o w r f has_memory (up k) h

-- lines that pass their message have taken a step
pub record Passes (n : ℕ) (Rule : Result How Stop → History → RunState → Frame → Type 0) (o : Result How Stop)
    (w : History) (r : RunState) (f : Frame) : Type 0 where
  pub ends : Rule o w r f
  pub fewer : o ≡ Ok Pass → r.left < n

pub passes : {begun : Begun} {n : ℕ} {Rule : Result How Stop → History → RunState → Frame → Type 0} →
    HasRun begun n Rule → HasRun begun (suc n) (Passes n Rule)
passes (has_run o w r f has_memory k h) = has_run o w r f has_memory (up k) (record { ends = h; fewer = λ e. k.left })

-- ---- texts

-- a text is read as a tree, or as none
pub read_or_not : {A : Type 0} (read : List Token → Option A) (IsRead : List Token → A → Type 0) (text : List ℕ) →
    CutsExactly spans_of → ReadsExactly read IsRead
    → {X : Type 0} → ((tree : A) → Reads IsRead text tree → X) → (((tree : A) → Reads IsRead text tree → ⊥) → X) → X
read_or_not {A} read IsRead text cuts exact {X} is isnt =
    maybe (spans_of text)
    (λ spans cut. maybe (read (map (token_in text) spans))
    (λ tree e. is tree (record
    { spans = spans; cut = (cuts text spans).0 cut; reads = (exact (map (token_in text) spans) tree).0 e }))
    (λ none. isnt (λ tree r. none-some _
    (sym none ∙ ap (λ ss. read (map (token_in text) ss)) (cut_once spans cut r) ∙
    (exact (map (token_in text) r.spans) tree).1 r.reads))))
    (λ none. isnt (λ tree r. none-some _ (sym none ∙ (cuts text r.spans).1 r.cut)))
  where
    cut_once : (spans : List Span) → spans_of text ≡ Some spans → {tree : A} (r : Reads IsRead text tree) →
        spans ≡ r.spans
    cut_once spans cut r = let same : Some spans ≡ Some r.spans = sym cut ∙ (cuts text r.spans).1 r.cut in cc

-- a text is parsed, or it isn't in the grammar
pub then_parsed : {A B : Type 0} {begun : Begun} {n : ℕ} {Q : Result B Stop → History → RunState → Type 0} {w : History}
    {r : RunState} (read : List Token → Option A) (IsRead : List Token → A → Type 0) (text : List ℕ) →
    CutsExactly spans_of → ReadsExactly read IsRead → Underway begun n w r →
    ((z : Stop) → Parses IsRead text (Err z) → Q (Err z) w r) →
    ((tree : A) → Parses IsRead text (Ok tree) → Has begun n Q) → Has begun n Q
then_parsed {w = w} {r} read IsRead text cuts exact k stops goes_on =
    read_or_not read IsRead text cuts exact (λ tree reads. goes_on tree (Parses.parses reads))
    (λ none. has (Err (Faults Syntax)) w r (λ e. cc) k (stops (Faults Syntax) (Parses.unparsed none)))

pub then_parsed_in : {A B : Type 0} {begun : Begun} {n : ℕ} {Q : Result B Stop → History → RunState → Frame → Type 0}
    {w : History} {r : RunState} (f : Frame) (read : List Token → Option A) (IsRead : List Token → A → Type 0)
    (text : List ℕ) → CutsExactly spans_of → ReadsExactly read IsRead → Underway begun n w r →
    ((z : Stop) → Parses IsRead text (Err z) → Q (Err z) w r f) →
    ((tree : A) → Parses IsRead text (Ok tree) → HasRun begun n Q) → HasRun begun n Q
then_parsed_in {w = w} {r} f read IsRead text cuts exact k stops goes_on =
    read_or_not read IsRead text cuts exact (λ tree reads. goes_on tree (Parses.parses reads))
    (λ none. has_run (Err (Faults Syntax)) w r f (λ e. cc) k (stops (Faults Syntax) (Parses.unparsed none)))

-- a place is found, or the fault in its stead
pub then_field : {A B : Type 0} {begun : Begun} {n : ℕ} {Q : Result B Stop → History → RunState → Type 0} {w : History}
    {r : RunState} (c : Result A Fault) → Underway begun n w r → ((z : Stop) → Yields c (Err z) → Q (Err z) w r) →
    ((a : A) → Yields c (Ok a) → Has begun n Q) → Has begun n Q
then_field (Ok a) k stops goes_on = goes_on a (Yields.yields refl)
then_field {w = w} {r} (Err fa) k stops goes_on = has (Err (Faults fa)) w r (λ e. cc) k
    (stops (Faults fa) (Yields.faults refl))

-- the first handler on a path, none, or a script at fault
pub data FirstIs (s : Content) (is : List ℕ) (kind : HandlerKind) (n : List ℕ) : Type 0 where
  first_is : (out : Result (Option HandlerFound) Fault) → First s is kind n out → FirstIs s is kind n

first_by : (s : Content) (id : ℕ) (rest : List ℕ) (kind : HandlerKind) (n : List ℕ) (hs : Handlers) →
    Reads ReadsScript (object_script s id) hs → FirstIs s rest kind n → (found : Option Handler) →
    handler_in hs kind n ≡ found → FirstIs s (id ∷ rest) kind n
first_by s id rest kind n hs reads later (Some h) e = first_is (Ok (Some (record { object = id; handler = h })))
    (First.here refl reads e refl)
first_by s id rest kind n hs reads (first_is out first) None e = first_is out (First.further_on refl reads e first)

first : TextsAreReadExactly → (s : Content) (is : List ℕ) (kind : HandlerKind) (n : List ℕ) → FirstIs s is kind n
first exact s [] kind n = first_is (Ok None) (First.nothing_left refl refl)
first exact s (id ∷ rest) kind n =
    let later = first exact s rest kind n in
    read_or_not script ReadsScript (object_script s id) exact.cuts exact.scripts
    (λ hs reads. first_by s id rest kind n hs reads later (handler_in hs kind n) refl)
    (λ none. first_is (Err Syntax) (First.no_script refl none refl))

-- a handler is looked for
pub then_found : {B : Type 0} {begun : Begun} {n : ℕ} {Q : Result B Stop → History → RunState → Type 0} {r : RunState}
    (w : History) (is : List ℕ) (kind : HandlerKind) (name : List ℕ) → TextsAreReadExactly → Underway begun n w r →
    ((z : Stop) → Finds w.now.stack is kind name (Err z) → Q (Err z) w r) →
    ((found : Option HandlerFound) → Finds w.now.stack is kind name (Ok found) → Has begun n Q) → Has begun n Q
then_found {B} {begun} {n} {Q} {r} w is kind name exact k stops goes_on = by_first
    (first exact w.now.stack is kind name)
  where
    by_first : FirstIs w.now.stack is kind name → Has begun n Q
    by_first (first_is (Ok found) first) = goes_on found (Finds.finds first)
    by_first (first_is (Err fa) first) = has (Err (Faults fa)) w r (λ e. cc) k
        (stops (Faults fa) (Finds.find_fails first))

-- ---- changes

-- the history after a change
abbrev with_change : History → Open → Change → History
with_change w batch c = record w
    { now = changed w.now c; start = Some (record batch { trail = trail_after (replaced_by w.now c) batch.trail }) }

makes : (w : History) (batch : Open) (c : Change) → w.start ≡ Some batch → Made w (with_change w batch c) c
makes w batch c e = record {
  history = refl;
  start =
      subst (λ s. BothOpen s (with_change w batch c).start
      (λ o p. Rises (replaced_by w.now c) (trail_after (replaced_by w.now c) o.trail) o p)) (sym e)
      (record { state = refl; number = refl; undo = omega arith; redo = omega arith; trail = refl });
}

-- the batch is open after it too
after : {begun : Begun} {w : History} (k : IsOpen begun w) (c : Change) → IsOpen begun (with_change w k.batch c)
after {w = w} k c = record { batch = _; is = refl; behaves = Behaves.made k.behaves (makes w k.batch c k.is) }

-- a change, and then
pub then_made : {X : Type 0} {begun : Begun} {n : ℕ} {r : RunState} (w : History) (c : Change) → Underway begun n w r →
    ((w1 : History) → Underway begun n w1 r → Made w w1 c → X) → X
then_made w c k goes_on =
    let o = k.is_open in goes_on (with_change w o.batch c) (record { is_open = after o c; left = k.left })
    (makes w o.batch c o.is)

-- what leaves the run as it is: how it ends, with the history after it
pub data Ends {A : Type 0} (begun : Begun) (Rule : Result A Stop → History → Type 0) : Type 0 where
  ends : (o : Result A Stop) (w : History) → HasMemory o → IsOpen begun w → Rule o w → Ends begun Rule

-- and with the frame after it
pub data EndsIn {A : Type 0} (begun : Begun) (Rule : Result A Stop → History → Frame → Type 0) : Type 0 where
  ends_in : (o : Result A Stop) (w : History) (f : Frame) → HasMemory o → IsOpen begun w → Rule o w f →
      EndsIn begun Rule

still : {begun : Begun} {n : ℕ} {w : History} {r : RunState} (w1 : History) → Underway begun n w r → IsOpen begun w1 →
    Underway begun n w1 r
still w1 k is_open = record { is_open = is_open; left = k.left }

pub then_ends : {B : Type 0} {begun : Begun} {n : ℕ} {P : Result (Unit {0}) Stop → History → Type 0}
    {Q : Result B Stop → History → RunState → Type 0} {w : History} {r : RunState} → Underway begun n w r →
    Ends begun P → ((z : Stop) (w : History) → P (Err z) w → Q (Err z) w r) →
    ((w : History) → Underway begun n w r → P (Ok tt) w → Has begun n Q) → Has begun n Q
then_ends k (ends (Ok u) w1 has_memory is_open h) stops goes_on = goes_on w1 (still w1 k is_open) h
then_ends {r = r} k (ends (Err z) w1 has_memory is_open h) stops goes_on = has (Err z) w1 r (stopped has_memory)
    (still w1 k is_open) (stops z w1 h)

pub then_ends_in : {B : Type 0} {begun : Begun} {n : ℕ} {P : Result (Unit {0}) Stop → History → Type 0}
    {Q : Result B Stop → History → RunState → Frame → Type 0} {w : History} {r : RunState} (f : Frame) →
    Underway begun n w r → Ends begun P → ((z : Stop) (w : History) → P (Err z) w → Q (Err z) w r f) →
    ((w : History) → Underway begun n w r → P (Ok tt) w → HasRun begun n Q) → HasRun begun n Q
then_ends_in f k (ends (Ok u) w1 has_memory is_open h) stops goes_on = goes_on w1 (still w1 k is_open) h
then_ends_in {r = r} f k (ends (Err z) w1 has_memory is_open h) stops goes_on = has_run (Err z) w1 r f
    (stopped has_memory) (still w1 k is_open) (stops z w1 h)

pub then_edited : {B : Type 0} {begun : Begun} {n : ℕ} {P : Result (Unit {0}) Stop → History → Frame → Type 0}
    {Q : Result B Stop → History → RunState → Frame → Type 0} {w : History} {r : RunState} → Underway begun n w r →
    EndsIn begun P → ((z : Stop) (w : History) (f : Frame) → P (Err z) w f → Q (Err z) w r f) →
    ((w : History) (f : Frame) → Underway begun n w r → P (Ok tt) w f → HasRun begun n Q) → HasRun begun n Q
then_edited k (ends_in (Ok u) w1 f1 has_memory is_open h) stops goes_on = goes_on w1 f1 (still w1 k is_open) h
then_edited {r = r} k (ends_in (Err z) w1 f1 has_memory is_open h) stops goes_on = has_run (Err z) w1 r f1
    (stopped has_memory) (still w1 k is_open) (stops z w1 f1 h)

-- ---- containers

-- a container is edited
pub edits : {begun : Begun} (w : History) (f : Frame) (delimiter : ℕ) (p : PlaceView) (e : Edit) → IsOpen begun w →
    EndsIn begun (Edits w f delimiter p e)
edits {begun} w f delimiter p e k = by_due (due w.now f.variables delimiter p e) refl
  where
    by_storage : (t : List ℕ) (s : StorageView) → p.storage ≡ s → due w.now f.variables delimiter p e ≡ Ok (Some t) →
        EndsIn begun (Edits w f delimiter p e)
    by_storage t (global name) at is = ends_in (Ok tt) (with_change w k.batch (Global name (Some t))) f (λ e. cc)
        (after k (Global name (Some t))) (Edits.edited (Writes.to_global at is (makes w k.batch _ k.is)) refl)
    by_storage t (own name) at is = ends_in (Ok tt) w _ (λ e. cc) k (Edits.edited (Writes.to_own at is refl) refl)
    by_storage t (field_text field card) at is = ends_in (Ok tt) (with_change w k.batch (FieldText field card t)) f
        (λ e. cc) (after k (FieldText field card t))
        (Edits.edited (Writes.to_field at is (makes w k.batch _ k.is)) refl)

    by_due : (d : Result (Option (List ℕ)) Fault) → due w.now f.variables delimiter p e ≡ d →
        EndsIn begun (Edits w f delimiter p e)
    by_due (Ok (Some t)) is = by_storage t p.storage refl is
    by_due (Ok None) is = ends_in (Ok tt) w f (λ e. cc) k (Edits.edited (Writes.nothing_due is) refl)
    by_due (Err fa) is = ends_in (Err (Faults fa)) w f (λ e. cc) k (Edits.edit_faults is refl refl)

-- what stays as it is of the run, and always goes well: with the history and the frame after it
pub data Done (begun : Begun) (Rule : History → Frame → Type 0) : Type 0 where
  done : (w : History) (f : Frame) → IsOpen begun w → Rule w f → Done begun Rule

pub then_done : {B : Type 0} {begun : Begun} {n : ℕ} {P : History → Frame → Type 0}
    {Q : Result B Stop → History → RunState → Frame → Type 0} {w : History} {r : RunState} → Underway begun n w r →
    Done begun P → ((w : History) (f : Frame) → Underway begun n w r → P w f → HasRun begun n Q) → HasRun begun n Q
then_done k (done w1 f1 is_open h) goes_on = goes_on w1 f1 (still w1 k is_open) h

pub then_done_lines : {B : Type 0} {begun : Begun} {n : ℕ} {P : History → Frame → Type 0}
    {Q : Result B Stop → History → RunState → Type 0} {w : History} {r : RunState} → Underway begun n w r →
    Done begun P → ((w : History) (f : Frame) → Underway begun n w r → P w f → Has begun n Q) → Has begun n Q
then_done_lines k (done w1 f1 is_open h) goes_on = goes_on w1 f1 (still w1 k is_open) h

done_same : {begun : Begun} {P Q : History → Frame → Type 0} → Done begun P →
    ((w : History) (f : Frame) → P w f → Q w f) → Done begun Q
done_same (done w f is_open h) rule = done w f is_open (rule w f h)

-- a text stands in a storage
pub data Stands (s : State) (v : VariablesView) (h : StorageView) : Type 0 where
  stands : (t : List ℕ) → whole s v h ≡ Ok t → Stands s v h

-- in a variable, where it is empty if it has no value
variable_stands : (s : State) (v : VariablesView) (name : List ℕ) → Stands s v (named v name)
variable_stands s v name = by (is_global v name)
  where
    by : (b : Bool) → Stands s v (if b then global (folded name) else own name)
    by true = stands _ refl
    by false = stands _ refl

-- in a place that is read
pub place_stands : {t : List ℕ} (s : State) (v : VariablesView) (delimiter : ℕ) (p : PlaceView) →
    read_at s v delimiter p ≡ Ok t → Stands s v p.storage
place_stands {t} s v delimiter p read = by _ (whole s v p.storage) refl read
  where
    by : (pieces : List ℕ → List ℕ) (u : Result (List ℕ) Fault) → whole s v p.storage ≡ u →
        and_then u (λ x. Ok (pieces x)) ≡ Ok t → Stands s v p.storage
    by pieces (Ok x) is e = stands x is
    by pieces (Err fa) is e = cc

-- and in a field that is found by its name
pub field_stands : {p : PlaceView} (s : State) (v : VariablesView) (on_card : Bool) (name : List ℕ) →
    Yields (field_named_place s v on_card name) (Ok p) → Stands s v p.storage
field_stands {p} s v on_card name (Yields.yields found) =
    of_field (field_named s.stack s.current (layer_of_field on_card) name) found
  where
    of_text : (q : PlaceView) (u : Result (List ℕ) Fault) → whole s v q.storage ≡ u → and_then u (λ x. Ok q) ≡ Ok p →
        Stands s v p.storage
    of_text q (Ok x) is e =
        subst (λ (o : Result PlaceView Fault). IfOk o (λ p. Stands s v p.storage)) e (stands x is)
    of_text q (Err fa) is e = cc

    of_place : (c : Result PlaceView Fault) → and_then c (λ q. and_then (whole s v q.storage) (λ x. Ok q)) ≡ Ok p →
        Stands s v p.storage
    of_place (Ok q) e = of_text q (whole s v q.storage) refl e
    of_place (Err fa) e = cc

    of_field : (c : Result Referent Fault) → and_then c (λ m. and_then (field_place s m)
        (λ q. and_then (whole s v q.storage) (λ x. Ok q))) ≡ Ok p → Stands s v p.storage
    of_field (Ok m) e = of_place (field_place s m) e
    of_field (Err fa) e = cc

-- a value takes the place of the text that stands in a storage
pub stores : {begun : Begun} (w : History) (f : Frame) (h : StorageView) (t : List ℕ) → Stands w.now f.variables h →
    IsOpen begun w → Done begun (Stores w f h t)
stores w f (global name) t (stands t1 is) k = done (with_change w k.batch (Global name (Some t))) f
    (after k (Global name (Some t))) (Stores.stores is (Writes.to_global refl refl (makes w k.batch _ k.is)) refl)
stores w f (own name) t (stands t1 is) k = done w (record f { variables = with_local f.variables name (Some t) }) k
    (Stores.stores is (Writes.to_own refl refl refl) refl)
stores w f (field_text field card) t (stands t1 is) k = done (with_change w k.batch (FieldText field card t)) f
    (after k (FieldText field card t)) (Stores.stores is (Writes.to_field refl refl (makes w k.batch _ k.is)) refl)

-- that of a variable
pub stores_named : {begun : Begun} (w : History) (f : Frame) (name t : List ℕ) → IsOpen begun w →
    Done begun (Stores w f (named f.variables name) t)
stores_named w f name t k = stores w f (named f.variables name) t (variable_stands w.now f.variables name) k

-- the number of a turn is put into the variable of a repeat
pub assigns : {begun : Begun} (w : History) (f : Frame) (name : Option (List ℕ)) (v : List ℕ) → IsOpen begun w →
    Done begun (Assigns w f name v)
assigns w f None v k = done w f k (Assigns.no_variable refl)
assigns w f (Some name) v k = done_same (stores_named w f name v k) (λ w1 f1 h. Assigns.assigns refl h)

-- names mean globals from here on
pub declares_all : {begun : Begun} (names : List (List ℕ)) (w : History) (f : Frame) → IsOpen begun w →
    Done begun (DeclaresAll w f names)
declares_all [] w f k = done w f k (DeclaresAll.none_declared refl)
declares_all {begun} (name ∷ names) w f k = by_value (get w.now.globals (folded name)) refl
    (λ w k. declares_all names w (record f { variables = declared f.variables name }) k)
  where
    by_value : (v : Option (List ℕ)) → get w.now.globals (folded name) ≡ v →
        ((w : History) → IsOpen begun w →
        Done begun (DeclaresAll w (record f { variables = declared f.variables name }) names)) →
        Done begun (DeclaresAll w f (name ∷ names))
    by_value (Some t) is later = done_same (later w k)
        (λ w1 f2 h. DeclaresAll.declared refl (Declares.has_value is refl) refl h)
    by_value None is later =
        let change : Change = Global (folded name) (Some []) in
        done_same (later (with_change w k.batch change) (after k change))
        (λ w1 f2 h. DeclaresAll.declared refl (Declares.is_new is (makes w k.batch _ k.is) refl) refl h)

-- ---- objects

-- a property of an object is set
pub sets : {begun : Begun} (w : History) (m : Referent) (p : Prop) (t : List ℕ) → IsOpen begun w →
    Ends begun (Sets w m p t)
sets {begun} w m p t k = by_setting (setting w.now.stack m p t) refl
  where
    by_setting : (c : Result Change Fault) → setting w.now.stack m p t ≡ c → Ends begun (Sets w m p t)
    by_setting (Ok c) is = ends (Ok tt) (with_change w k.batch c) (λ e. cc) (after k c)
        (Sets.set_made is (makes w k.batch c k.is))
    by_setting (Err fa) is = ends (Err (Faults fa)) w (λ e. cc) k (Sets.set_faults is refl)

-- objects are made, where they fit
pub adds : {begun : Begun} (w : History) (c : Change) → IsOpen begun w → Ends begun (Adds w c)
adds {begun} w c k = by_fit (fits w.now c) refl
  where
    by_fit : (b : Bool) → fits w.now c ≡ b → Ends begun (Adds w c)
    by_fit true is = ends (Ok tt) (with_change w k.batch c) (λ e. cc) (after k c)
        (Adds.adds is (makes w k.batch c k.is))
    by_fit false is = ends (Err (Faults TooMany)) w (λ e. cc) k (Adds.too_many is)
