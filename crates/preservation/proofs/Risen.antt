-- How an open batch rises by the changes and the turn in a rule, and by one part after the other.
use Rattle.std.proofs.Common.{◌≡◌, ◌+◌, ℕ, List, [], ◌++◌, Option, Some, None, Result, refl, sym, subst, ◌∙◌}
use Rattle.std.proofs.Common.{append-nil, arith}
use Rattle.std.proofs.lemmas.List.Sums.{sum_by-append}
use Rattle.ht_values.specs.declared.fault.Fault.{Fault}
use Rattle.ht_values.specs.declared.word.Prop.{Prop}
use Rattle.stack_places.specs.Places.{size_of}
use Rattle.externals.specs.declared.external.Ask.{Ask}
use Rattle.externals.specs.declared.external.Input.{Input}
use Rattle.journal_entries.specs.State.{State, seen_at}
use Rattle.journal_entries.specs.Replaced.{Replacement, replaced_by, replaced_by_turn, back_weight, forth_weight}
use Rattle.journal_entries.specs.declared.change.Change.{Change}
use Rattle.change_journal.specs.History.{History, Open}
use Rattle.change_journal.specs.Rising.{Made, TookTurn, Rises, BothOpen, trail_after, trail_after_turn}
use Rattle.object_references.specs.declared.referent.Referent.{Referent}
use Rattle.containers.specs.declared.edit.Edit.{Edit}
use Rattle.containers.specs.Places.{StorageView, PlaceView}
use Rattle.containers.specs.Variables.{VariablesView}
use Rattle.containers.specs.Writes.{Writes, Declares}
use Rattle.meaning.specs.declared.end.Stop.{Stop}
use Rattle.meaning.specs.declared.frame.Frame.{Frame}
use Rattle.meaning.specs.Places.{Edits, Stores, Assigns, DeclaresAll, Sets, Adds}
use Rattle.preservation.specs.Rising.{TrailAfter, RisesIn, RisesBy}
use Rattle.preservation.specs.Changes.{replaced_made, replaced_turn, replaced_writes, replaced_edits, replaced_stores}
use Rattle.preservation.specs.Changes.{replaced_assigns, replaced_declares, replaced_declares_all, replaced_sets}
use Rattle.preservation.specs.Changes.{replaced_adds}
use Rattle.preservation.specs.Laws.{HasMemory}
use Rattle.preservation.proofs.Trails.{trail_trans}

nothing_in : (o : Option Open) → RisesIn [] o o
nothing_in None = tt
nothing_in (Some a) = (
  a.trail,
  TrailAfter.nothing refl refl,
  record { state = refl; number = refl; undo = omega arith; redo = omega arith; trail = refl },
)

pub rises_nothing : {o : Option Open} → RisesBy [] o o
rises_nothing {o} = record { by = nothing_in o }

rises_same : {w w2 : History} → w2 ≡ w → RisesBy [] w.start w2.start
rises_same {w} same = subst (λ h. RisesBy [] w.start h.start) (sym same) rises_nothing

-- ---- one part after the other

back_append : (rs ss : List Replacement) → back_weight (rs ++ ss) ≡ back_weight rs + back_weight ss
back_append rs ss = sum_by-append (λ r. 32 + size_of r.old) rs ss

forth_append : (rs ss : List Replacement) → forth_weight (rs ++ ss) ≡ forth_weight rs + forth_weight ss
forth_append rs ss = sum_by-append (λ r. 32 + size_of r.new) rs ss

trans_in : (rs ss : List Replacement) (o p q : Option Open) → RisesIn rs o p → RisesIn ss p q → RisesIn (rs ++ ss) o q
trans_in rs ss None None None h k = tt
trans_in rs ss None None (Some c) h k = absurd k
trans_in rs ss None (Some b) q h k = absurd h
trans_in rs ss (Some a) None q h k = absurd h
trans_in rs ss (Some a) (Some b) None h k = absurd k
trans_in rs ss (Some a) (Some b) (Some c) h k =
    let back = back_append rs ss in
    let forth = forth_append rs ss in
    let first = h.2 in
    let second = k.2 in (
      k.0,
      trail_trans h.1 (subst (λ t. TrailAfter ss t k.0) first.trail k.1),
      record {
        state = second.state ∙ first.state;
        number = second.number ∙ first.number;
        undo = omega (arith, back, first.undo, second.undo);
        redo = omega (arith, forth, first.redo, second.redo);
        trail = second.trail;
      },
    )

pub rises_trans : {rs ss : List Replacement} {o p q : Option Open} → RisesBy rs o p → RisesBy ss p q
    → RisesBy (rs ++ ss) o q
rises_trans {rs} {ss} {o} {p} {q} h k = record { by = trans_in rs ss o p q h.by k.by }

-- ---- a change and a turn

made_in : (s : State) (c : Change) (o p : Option Open)
    → BothOpen o p (λ a b. Rises (replaced_by s c) (trail_after (replaced_by s c) a.trail) a b)
    → RisesIn (replaced_by s c) o p
made_in s c (Some a) (Some b) h = (
  trail_after (replaced_by s c) a.trail,
  TrailAfter.change s c
      (sym (append-nil (replaced_by s c))) (TrailAfter.nothing refl refl),
  h,
)
made_in s c (Some a) None h = absurd h
made_in s c None (Some b) h = absurd h
made_in s c None None h = absurd h

pub rises_made : {w w2 : History} {c : Change} (made : Made w w2 c) → RisesBy (replaced_made made) w.start w2.start
rises_made {w} {w2} {c} made = record { by = made_in w.now c w.start w2.start made.start }

turn_in : (i : ℕ) (cells cells2 : List (List ℕ)) (o p : Option Open)
    → BothOpen o p (λ a b. Rises (replaced_by_turn i cells cells2)
    (trail_after_turn (replaced_by_turn i cells cells2) a.trail) a b) → RisesIn (replaced_by_turn i cells cells2) o p
turn_in i cells cells2 (Some a) (Some b) h =
    let rs = replaced_by_turn i cells cells2 in (
      trail_after_turn rs a.trail,
      TrailAfter.turn i cells cells2 (sym (append-nil rs)) (TrailAfter.nothing refl refl),
      h,
    )
turn_in i cells cells2 (Some a) None h = absurd h
turn_in i cells cells2 None (Some b) h = absurd h
turn_in i cells cells2 None None h = absurd h

pub rises_turn : {w w2 : History} {k : ℕ} {input : Input} {ask : Ask} (turn : TookTurn w w2 k input ask)
    → RisesBy (replaced_turn turn) w.start w2.start
rises_turn {w} {w2} {k} turn =
    record { by = turn_in k (seen_at w.now k).cells (seen_at w2.now k).cells w.start w2.start turn.start }

-- ---- what writes, declares, sets and makes

rises_writes : {w w2 : History} {v v2 : VariablesView} {p : StorageView} {due : Result (Option (List ℕ)) Fault}
    (written : Writes w v p due w2 v2) → RisesBy (replaced_writes written) w.start w2.start
rises_writes (Writes.nothing_due _) = rises_nothing
rises_writes (Writes.to_global _ _ made) = rises_made made
rises_writes (Writes.to_own _ _ _) = rises_nothing
rises_writes (Writes.to_field _ _ made) = rises_made made

pub rises_edits : {w w2 : History} {f f2 : Frame} {delimiter : ℕ} {p : PlaceView} {e : Edit}
    {o : Result (Unit {0}) Stop} (edits : Edits w f delimiter p e o w2 f2) → HasMemory o
    → RisesBy (replaced_edits edits) w.start w2.start
rises_edits Edits.edit_memory has = absurd (has refl)
rises_edits (Edits.edit_faults _ same _) has = rises_same same
rises_edits (Edits.edited written _) has = rises_writes written

pub rises_stores : {w w2 : History} {f f2 : Frame} {h : StorageView} {t : List ℕ} (stores : Stores w f h t w2 f2)
    → RisesBy (replaced_stores stores) w.start w2.start
rises_stores (Stores.stores _ written _) = rises_writes written

pub rises_assigns : {w w2 : History} {f f2 : Frame} {variable : Option (List ℕ)} {t : List ℕ}
    (assigns : Assigns w f variable t w2 f2) → RisesBy (replaced_assigns assigns) w.start w2.start
rises_assigns (Assigns.no_variable _) = rises_nothing
rises_assigns (Assigns.assigns _ stored) = rises_stores stored

rises_declares : {w w2 : History} {v v2 : VariablesView} {name : List ℕ} (declares : Declares w v name w2 v2)
    → RisesBy (replaced_declares declares) w.start w2.start
rises_declares (Declares.has_value _ _) = rises_nothing
rises_declares (Declares.is_new _ made _) = rises_made made

pub rises_declares_all : {w w2 : History} {f f2 : Frame} {names : List (List ℕ)}
    (declares : DeclaresAll w f names w2 f2) → RisesBy (replaced_declares_all declares) w.start w2.start
rises_declares_all (DeclaresAll.none_declared _) = rises_nothing
rises_declares_all (DeclaresAll.declared _ declares _ rest) =
    rises_trans (rises_declares declares) (rises_declares_all rest)

pub rises_sets : {w w2 : History} {m : Referent} {prop : Prop} {t : List ℕ} {o : Result (Unit {0}) Stop}
    (sets : Sets w m prop t o w2) → HasMemory o → RisesBy (replaced_sets sets) w.start w2.start
rises_sets Sets.set_memory has = absurd (has refl)
rises_sets (Sets.set_faults _ same) has = rises_same same
rises_sets (Sets.set_made _ made) has = rises_made made

pub rises_adds : {w w2 : History} {c : Change} {o : Result (Unit {0}) Stop} (adds : Adds w c o w2) → HasMemory o
    → RisesBy (replaced_adds adds) w.start w2.start
rises_adds Adds.add_memory has = absurd (has refl)
rises_adds (Adds.too_many _) has = rises_nothing
rises_adds (Adds.adds _ made) has = rises_made made
