-- What the changes and the turn in a rule keep of whole states.
use Rattle.std.proofs.Common.{◌≡◌, ◌<◌, ◌≤◌, ◌⊎◌, inl, inr, ℕ, zero, suc, List, [], ◌∷◌, ◌++◌, length, set, Option}
use Rattle.std.proofs.Common.{Some, None, Result, Ok, IfOk, true, is_some, refl, sym, ap, subst, ◌∙◌, arith}
use Rattle.std.specs.Option.{ok_or}
use Rattle.std.proofs.lemmas.Bool.{and_parts, cases_lt}
use Rattle.ht_values.specs.declared.fault.Fault.{Fault}
use Rattle.ht_values.specs.declared.fault.Fault.TheVariants.{NoSuchObject}
use Rattle.ht_values.specs.declared.word.Prop.{Prop}
use Rattle.ht_values.specs.Outcome.{and_then}
use Rattle.ht_values.proofs.Folding.{folded_is_folded}
use Rattle.externals.specs.Cells.{Seen}
use Rattle.externals.specs.declared.external.Ask.{Ask}
use Rattle.externals.specs.declared.external.Input.{Input}
use Rattle.object_table.specs.PartContents.{text_at}
use Rattle.structural_changes.specs.Writes.{fits_deletion}
use Rattle.journal_entries.specs.State.{State, seen_at}
use Rattle.journal_entries.specs.Changes.{fits, HasTexts}
use Rattle.journal_entries.specs.Exchange.{with_cells}
use Rattle.journal_entries.specs.Replaced.{Replacement, replaced_by, replaced_by_turn}
use Rattle.journal_entries.specs.Trails.{IsOnce}
use Rattle.journal_entries.specs.declared.change.Change.{Change}
use Rattle.journal_entries.specs.declared.change.Change.TheVariants as change
use Rattle.change_journal.specs.History.{History, Open, IsStart, IsHistory}
use Rattle.change_journal.specs.Rising.{Made, TookTurn, Rises, BothOpen, trail_after_turn}
use Rattle.change_journal.proofs.Making.{IsHistory-made, IsHistory-turned}
use Rattle.object_references.specs.Deletion.{may_delete}
use Rattle.object_references.specs.Settings.{FitsIn}
use Rattle.object_references.specs.declared.referent.Referent.{Referent}
use Rattle.object_references.proofs.Fitting.{setting_fits}
use Rattle.containers.specs.declared.edit.Edit.{Edit}
use Rattle.containers.specs.Edits.{due, edited}
use Rattle.containers.specs.Places.{StorageView, PlaceView, field_text, whole}
use Rattle.containers.specs.Variables.{VariablesView}
use Rattle.containers.specs.Writes.{Writes, Declares}
use Rattle.meaning.specs.declared.end.Stop.{Stop}
use Rattle.meaning.specs.declared.frame.Frame.{Frame}
use Rattle.meaning.specs.Places.{Edits, Stores, Assigns, DeclaresAll, Sets, Adds}
use Rattle.preservation.specs.Changes.{replaced_made, replaced_turn, replaced_writes, replaced_edits, replaced_stores}
use Rattle.preservation.specs.Changes.{replaced_assigns, replaced_declares, replaced_declares_all, replaced_sets}
use Rattle.preservation.specs.Changes.{replaced_adds}
use Rattle.preservation.specs.Laws.{HasMemory}
use Rattle.preservation.specs.Whole.{AreTexts, KeepsWhole}
use Rattle.preservation.proofs.Placed.{IsPlaced, placed_variable}

-- ---- one part after the other

texts_first : (rs ss : List Replacement) → AreTexts (rs ++ ss) → AreTexts rs
texts_first [] ss h = tt
texts_first (r ∷ rs) ss h = (h.0, texts_first rs ss h.1)

texts_rest : (rs ss : List Replacement) → AreTexts (rs ++ ss) → AreTexts ss
texts_rest [] ss h = h
texts_rest (r ∷ rs) ss h = texts_rest rs ss h.1

pub whole_nothing : {w : History} → KeepsWhole [] w w
whole_nothing = record { whole = λ texts q. q }

whole_same : {w w2 : History} → w2 ≡ w → KeepsWhole [] w w2
whole_same {w} same = subst (KeepsWhole [] w) (sym same) whole_nothing

pub whole_trans : {rs ss : List Replacement} {w w2 w3 : History} → KeepsWhole rs w w2 → KeepsWhole ss w2 w3
    → KeepsWhole (rs ++ ss) w w3
whole_trans {rs} {ss} h k =
    record { whole = λ texts q. k.whole (texts_rest rs ss texts) (h.whole (texts_first rs ss texts) q) }

-- ---- a change

texts_of : (s : State) (c : Change) → AreTexts (replaced_by s c) → HasTexts c
texts_of s (change.Global name None) h = (h.0.0, tt)
texts_of s (change.Global name (Some t)) h = (h.0.0, h.0.1)
texts_of s (change.FieldText field card t) h = h.0.1
texts_of s (change.Hilite button card b) h = tt
texts_of s (change.Prop id v) h = h.0.1
texts_of s (change.Current card) h = tt
texts_of s change.NewCard h = tt
texts_of s change.NewBackground h = tt
texts_of s (change.NewPart layer kind) h = tt
texts_of s change.DeleteCard h = tt

pub whole_made : {w w2 : History} {c : Change} → fits w.now c ≡ true → (made : Made w w2 c)
    → KeepsWhole (replaced_made made) w w2
whole_made {w} {w2} {c} fit made =
    record { whole = λ texts q. IsHistory-made w w2 c fit (texts_of w.now c texts) made q }

pub may_go : (s : State) → may_delete s.stack s.current ≡ true → fits_deletion s.stack ≡ true
may_go s may = (and_parts (fits_deletion s.stack) _ may).0

-- ---- a turn

-- past the last external a turn changes no state
set_past : (es : List Seen) (i : ℕ) (e : Seen) → length es ≤ i → set es i e ≡ es
set_past [] i e h = refl
set_past (x ∷ es) zero e h = absurd (omega (arith, h))
set_past (x ∷ es) (suc i) e h = ap (λ ys. x ∷ ys) (set_past es i e (omega (arith, h)))

start_after : (ts : List (List ℕ)) (rs : List Replacement) (old new : Option Open)
    → BothOpen old new (λ o p. Rises rs (trail_after_turn rs o.trail) o p) → IsStart ts old → IsStart ts new
start_after ts rs None None up h = absurd up
start_after ts rs None (Some p) up h = absurd up
start_after ts rs (Some o) None up h = absurd up
start_after ts rs (Some o) (Some p) up h = (rw up.state h.0, rw up.trail (once rs))
  where
    once : (rs : List Replacement) → IsOnce (trail_after_turn rs o.trail)
    once [] = h.1
    once (r ∷ rs) = h.1

unmoved : {w w2 : History} {k : ℕ} {input : Input} {ask : Ask} → length w.now.externals ≤ k → TookTurn w w2 k input ask
    → IsHistory w → IsHistory w2
unmoved {w} {w2} {k} past took q =
    let cells = (seen_at w2.now k).cells in
    let same : w2.now ≡ w.now = took.turn.state
    ∙ ap (λ es. record w.now { externals = es })
    (set_past w.now.externals k (with_cells (seen_at w.now k) cells) past) in
    rw took.history (record {
      titles = q.titles;
      past = q.past;
      now = rw same q.now;
      future = q.future;
      start = start_after q.titles (replaced_by_turn k (seen_at w.now k).cells cells) w.start w2.start took.start
          q.start;
    })

pub whole_turn : {w w2 : History} {k : ℕ} {input : Input} {ask : Ask} (turn : TookTurn w w2 k input ask)
    → KeepsWhole (replaced_turn turn) w w2
whole_turn {w} {w2} {k} {input} {ask} took =
    record { whole = λ texts q. by q (cases_lt k (length w.now.externals)) }
  where
    by : IsHistory w → (k < length w.now.externals) ⊎ (length w.now.externals ≤ k) → IsHistory w2
    by q (inl there) = IsHistory-turned w w2 k input ask there took q
    by q (inr past) = unmoved past took q

-- ---- what writes, declares, sets and makes

-- a field's text that is written stood there
stood : {A : Type 0} (t : Option (List ℕ)) (k : List ℕ → Result A Fault) (a : A)
    → and_then (ok_or t NoSuchObject) k ≡ Ok a → is_some t ≡ true
stood (Some t) k a is = refl
stood None k a is = cc

pub due_stood : (s : State) (v : VariablesView) (delimiter : ℕ) (p : PlaceView) (e : Edit) (t : List ℕ)
    (field card : ℕ) → p.storage ≡ field_text field card → due s v delimiter p e ≡ Ok (Some t)
    → is_some (text_at s.stack field card) ≡ true
due_stood s v delimiter p e t field card at is =
    let edit : List ℕ → Result (Option (List ℕ)) Fault = λ u. edited delimiter p.chunks e u in
    stood (text_at s.stack field card) edit (Some t) (subst (λ h. and_then (whole s v h) edit ≡ Ok (Some t)) at is)

whole_writes : {w w2 : History} {v v2 : VariablesView} {h : StorageView} {u : Result (Option (List ℕ)) Fault}
    → IsPlaced h → ((field card : ℕ) (t : List ℕ) → h ≡ field_text field card → u ≡ Ok (Some t)
    → is_some (text_at w.now.stack field card) ≡ true) → (written : Writes w v h u w2 v2)
    → KeepsWhole (replaced_writes written) w w2
whole_writes named there (Writes.nothing_due _) = whole_nothing
whole_writes named there (Writes.to_global at _ made) = whole_made (subst IsPlaced at named) made
whole_writes named there (Writes.to_own _ _ _) = whole_nothing
whole_writes named there (Writes.to_field {field = field} {card = card} {t = t} at is made) =
    whole_made (there field card t at is) made

pub whole_edits : {w w2 : History} {f f2 : Frame} {delimiter : ℕ} {p : PlaceView} {e : Edit}
    {o : Result (Unit {0}) Stop} → IsPlaced p.storage → (edits : Edits w f delimiter p e o w2 f2) → HasMemory o
    → KeepsWhole (replaced_edits edits) w w2
whole_edits named Edits.edit_memory has = absurd (has refl)
whole_edits named (Edits.edit_faults _ same _) has = whole_same same
whole_edits {w} {w2} {f} {f2} {delimiter} {p} {e} named (Edits.edited written _) has =
    whole_writes named (λ field card t at is. due_stood w.now f.variables delimiter p e t field card at is) written

-- and so did one in whose place a value comes
pub text_stood : (s : State) (v : VariablesView) (h : StorageView) (t : List ℕ) (field card : ℕ)
    → h ≡ field_text field card → whole s v h ≡ Ok t → is_some (text_at s.stack field card) ≡ true
text_stood s v h t field card at is =
    stood (text_at s.stack field card) (λ u. Ok u) t
    (subst (λ h. and_then (whole s v h) (λ u. Ok u) ≡ Ok t) at (ap (λ o. and_then o (λ u. Ok u)) is))

pub whole_stores : {w w2 : History} {f f2 : Frame} {h : StorageView} {t : List ℕ} → IsPlaced h
    → (stores : Stores w f h t w2 f2) → KeepsWhole (replaced_stores stores) w w2
whole_stores {w} {f = f} {h = h} named (Stores.stores {t1 = t1} stands written _) =
    whole_writes named (λ field card t at _. text_stood w.now f.variables h t1 field card at stands) written

pub whole_assigns : {w w2 : History} {f f2 : Frame} {variable : Option (List ℕ)} {t : List ℕ}
    (assigns : Assigns w f variable t w2 f2) → KeepsWhole (replaced_assigns assigns) w w2
whole_assigns (Assigns.no_variable _) = whole_nothing
whole_assigns {f = f} (Assigns.assigns {name = name} _ stored) = whole_stores (placed_variable f.variables name) stored

whole_declares : {w w2 : History} {v v2 : VariablesView} {name : List ℕ} (declares : Declares w v name w2 v2)
    → KeepsWhole (replaced_declares declares) w w2
whole_declares (Declares.has_value _ _) = whole_nothing
whole_declares {name = name} (Declares.is_new _ made _) = whole_made (folded_is_folded name) made

pub whole_declares_all : {w w2 : History} {f f2 : Frame} {names : List (List ℕ)}
    (declares : DeclaresAll w f names w2 f2) → KeepsWhole (replaced_declares_all declares) w w2
whole_declares_all (DeclaresAll.none_declared _) = whole_nothing
whole_declares_all (DeclaresAll.declared _ declares _ rest) =
    whole_trans (whole_declares declares) (whole_declares_all rest)

pub whole_sets : {w w2 : History} {m : Referent} {prop : Prop} {t : List ℕ} {o : Result (Unit {0}) Stop}
    (sets : Sets w m prop t o w2) → HasMemory o → KeepsWhole (replaced_sets sets) w w2
whole_sets Sets.set_memory has = absurd (has refl)
whole_sets (Sets.set_faults _ same) has = whole_same same
whole_sets {w} {w2} {m} {prop} {t} (Sets.set_made is made) has =
    whole_made (subst (λ x. IfOk x (FitsIn w.now.stack)) is (setting_fits w.now.stack m prop t) w.now refl) made

pub whole_adds : {w w2 : History} {c : Change} {o : Result (Unit {0}) Stop} (adds : Adds w c o w2) → HasMemory o
    → KeepsWhole (replaced_adds adds) w w2
whole_adds Adds.add_memory has = absurd (has refl)
whole_adds (Adds.too_many _) has = whole_nothing
whole_adds (Adds.adds fit made) has = whole_made fit made
