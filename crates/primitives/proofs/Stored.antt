-- A value that takes the place of a text, as an edit makes it, and where a text stands.
use Rattle.std.proofs.Common.{◌≡◌, ◌≤◌, ℕ, List, [], length, Bool, true, false, Some, None, Result, Ok, Err, IfOk, refl}
use Rattle.std.proofs.Common.{sym, ap, subst, ◌∙◌, arith, IsOk, nat_le, if◌then◌else◌}
use Rattle.std.specs.Option.{ok_or}
use Rattle.std.proofs.lemmas.Bool.Decides.{nat_tests}
use Rattle.ht_values.specs.declared.fault.Fault.{Fault}
use Rattle.ht_values.specs.declared.fault.Fault.TheVariants.{NoSuchObject}
use Rattle.ht_values.specs.declared.text.TheConstants.{LIMIT}
use Rattle.ht_values.specs.declared.word.Where.TheVariants.{Into}
use Rattle.ht_values.specs.Outcome.{and_then, within_limit}
use Rattle.ht_values.specs.Text.{folded}
use Rattle.journal_entries.specs.State.{State}
use Rattle.change_journal.specs.History.{History}
use Rattle.containers.specs.declared.edit.Edit.TheVariants.{Put}
use Rattle.containers.specs.Edits.{due, edited}
use Rattle.containers.specs.Places.{StorageView, PlaceView, global, own, field_text, named, keeps_for, is_shared}
use Rattle.containers.specs.Places.{text_in, whole}
use Rattle.containers.specs.Variables.{VariablesView, is_global}
use Rattle.containers.specs.Writes.{Writes}
use Rattle.object_references.specs.declared.referent.Referent.{Referent}
use Rattle.object_references.specs.References.{field_named}
use Rattle.meaning.specs.declared.frame.Frame.{Frame}
use Rattle.meaning.specs.Places.{Edits, Stores, field_named_place, field_place, layer_of_field, variable_place}
use Rattle.meaning.specs.Values.{Yields}

-- a text stands in each variable: it is empty where it has no value
pub variable_stands : (s : State) (v : VariablesView) (name : List ℕ) → IsOk (whole s v (named v name))
variable_stands s v name = by (is_global v name)
  where
    by : (b : Bool) → IsOk (whole s v (if b then global (folded name) else own name))
    by true = refl
    by false = refl

fits : (t : List ℕ) → length t ≤ LIMIT → within_limit t ≡ Ok t
fits t short = let is : nat_le (length t) LIMIT ≡ true = grind (arith, nat_tests) in rw is refl

-- what is put into a whole text is due
pub due_is : (s : State) (v : VariablesView) (p : PlaceView) (delimiter : ℕ) (t : List ℕ) → p.chunks ≡ []
    → length t ≤ LIMIT → IsOk (whole s v p.storage) → due s v delimiter p (Put Into t) ≡ Ok (Some t)
due_is s v p delimiter t is_whole short stands =
    ap (λ cs. and_then (whole s v p.storage) (λ x. edited delimiter cs (Put Into t) x)) is_whole
    ∙ by (whole s v p.storage) stands
  where
    by : (u : Result (List ℕ) Fault) → IsOk u → and_then u (λ x. edited delimiter [] (Put Into t) x) ≡ Ok (Some t)
    by (Ok x) h = ap (λ o. and_then o (λ y. Ok (Some y))) (fits t short)
    by (Err n) h = cc

pub place_stores : {w w1 : History} {f : Frame} {v : VariablesView} {t : List ℕ} (p : PlaceView) (delimiter : ℕ)
    → p.chunks ≡ [] → length t ≤ LIMIT → IsOk (whole w.now f.variables p.storage)
    → Writes w f.variables p.storage (due w.now f.variables delimiter p (Put Into t)) w1 v
    → Stores w f p.storage t w1 (record f { variables = v })
place_stores {w} {w1} {f} {v} {t} p delimiter is_whole short stands written =
    by (whole w.now f.variables p.storage) refl
  where
    by : (u : Result (List ℕ) Fault) → whole w.now f.variables p.storage ≡ u
        → Stores w f p.storage t w1 (record f { variables = v })
    by (Ok t1) is = Stores.stores is (subst (λ d. Writes w f.variables p.storage d w1 v)
        (due_is w.now f.variables p delimiter t is_whole short stands) written) refl
    by (Err n) is = let none : IsOk {T = List ℕ} {E = Fault} (Err n) = subst IsOk is stands in cc

pub variable_stores : {w w1 : History} {f : Frame} {v : VariablesView} {t : List ℕ} (name : List ℕ) (delimiter : ℕ)
    → length t ≤ LIMIT
    → Writes w f.variables (named f.variables name)
    (due w.now f.variables delimiter (variable_place f.variables name) (Put Into t)) w1 v
    → Stores w f (named f.variables name) t w1 (record f { variables = v })
variable_stores {w} {f = f} name delimiter short written =
    place_stores (variable_place f.variables name) delimiter refl short (variable_stands w.now f.variables name) written

pub edit_stores : {w w1 : History} {f f1 : Frame} {delimiter : ℕ} {t : List ℕ} (name : List ℕ) → length t ≤ LIMIT
    → Edits w f delimiter (variable_place f.variables name) (Put Into t) (Ok tt) w1 f1
    → Stores w f (named f.variables name) t w1 f1
edit_stores {w} {w1} {f} {delimiter = delimiter} {t = t} name short (Edits.edited {v = v} written frame) =
    subst (λ (f1 : Frame). Stores w f (named f.variables name) t w1 f1) (sym frame)
    (variable_stores name delimiter short written)

pub stores_edit : {w w1 : History} {f f1 : Frame} {delimiter : ℕ} {t : List ℕ} (name : List ℕ) → length t ≤ LIMIT
    → Stores w f (named f.variables name) t w1 f1
    → Edits w f delimiter (variable_place f.variables name) (Put Into t) (Ok tt) w1 f1
stores_edit {w} {w1} {f} {delimiter = delimiter} {t = t} name short (Stores.stores {v = v} _ written frame) =
    Edits.edited (subst (λ d. Writes w f.variables (named f.variables name) d w1 v)
    (sym (due_is w.now f.variables (variable_place f.variables name) delimiter t refl short
    (variable_stands w.now f.variables name))) written) frame

-- ---- fields by their names

-- the text of a place, which stands there
pub filled : (s : State) (v : VariablesView) (p : PlaceView) (t : List ℕ) → text_in s v p.storage ≡ Some t
    → and_then (whole s v p.storage) (λ x. Ok p) ≡ Ok p
filled s v p t is = by p.storage is
  where
    by : (h : StorageView) → text_in s v h ≡ Some t → and_then (whole s v h) (λ x. Ok p) ≡ Ok p
    by (global name) is = refl
    by (own name) is = refl
    by (field_text field card) is = ap (λ o. and_then (ok_or o NoSuchObject) (λ x. Ok p)) is

-- the place of a field, where none stands
pub emptied : (s : State) (v : VariablesView) (p : PlaceView) (m : Referent) → Yields (field_place s m) (Ok p)
    → text_in s v p.storage ≡ None → and_then (whole s v p.storage) (λ x. Ok p) ≡ Err NoSuchObject
emptied s v p m (Yields.yields found) = by (keeps_for s.stack m.object m.card) found
  where
    IsEmptied : PlaceView → Type 0
    IsEmptied q = text_in s v q.storage ≡ None → and_then (whole s v q.storage) (λ x. Ok p) ≡ Err NoSuchObject

    by : (b : Bool)
        → and_then (if b then Ok (field_text m.object (if is_shared s.stack m.object then 0 else m.card)) else Err
        NoSuchObject) (λ h. Ok (record { storage = h; chunks = [] })) ≡ Ok p → IsEmptied p
    by true e = subst (λ (o : Result PlaceView Fault). IfOk o IsEmptied) e
        (λ none. ap (λ o. and_then (ok_or o NoSuchObject) (λ x. Ok p)) none)
    by false e = cc

-- what is found by a name, by what stands in its place
pub found_place : (s : State) (v : VariablesView) (on_card : Bool) (name : List ℕ) (m : Referent) (p : PlaceView)
    (o : Result PlaceView Fault)
    → field_named s.stack s.current (layer_of_field on_card) name ≡ Ok m → Yields (field_place s m) (Ok p)
    → and_then (whole s v p.storage) (λ x. Ok p) ≡ o → field_named_place s v on_card name ≡ o
found_place s v on_card name m p o found (Yields.yields place) text =
    ap (λ r. and_then r (λ m. and_then (field_place s m) (λ p. and_then (whole s v p.storage) (λ x. Ok p)))) found
    ∙ ap (λ r. and_then r (λ p. and_then (whole s v p.storage) (λ x. Ok p))) place ∙ text

-- a text stands in the place that is found by a name
pub field_stands : (s : State) (v : VariablesView) (on_card : Bool) (name : List ℕ) (p : PlaceView)
    → Yields (field_named_place s v on_card name) (Ok p) → IsOk (whole s v p.storage)
field_stands s v on_card name p (Yields.yields found) =
    of_field (field_named s.stack s.current (layer_of_field on_card) name) found
  where
    of_text : (q : PlaceView) (u : Result (List ℕ) Fault) → whole s v q.storage ≡ u → and_then u (λ x. Ok q) ≡ Ok p
        → IsOk (whole s v p.storage)
    of_text q (Ok x) is e =
        subst (λ (o : Result PlaceView Fault). IfOk o (λ p. IsOk (whole s v p.storage))) e (subst IsOk (sym is) refl)
    of_text q (Err n) is e = cc

    of_place : (c : Result PlaceView Fault) → and_then c (λ q. and_then (whole s v q.storage) (λ x. Ok q)) ≡ Ok p
        → IsOk (whole s v p.storage)
    of_place (Ok q) e = of_text q (whole s v q.storage) refl e
    of_place (Err n) e = cc

    of_field : (c : Result Referent Fault)
        → and_then c (λ m. and_then (field_place s m) (λ q. and_then (whole s v q.storage) (λ x. Ok q))) ≡ Ok p
        → IsOk (whole s v p.storage)
    of_field (Ok m) e = of_place (field_place s m) e
    of_field (Err n) e = cc
