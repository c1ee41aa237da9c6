-- What the changes in a rule keep of the history.
use Rattle.std.proofs.Common.{◌≡◌, ℕ, List, Option, Result, refl, ap, ◌∙◌}
use Rattle.ht_values.specs.declared.fault.Fault.{Fault}
use Rattle.ht_values.specs.declared.word.Prop.{Prop}
use Rattle.journal_entries.specs.declared.change.Change.{Change}
use Rattle.change_journal.specs.History.{History}
use Rattle.object_references.specs.declared.referent.Referent.{Referent}
use Rattle.containers.specs.declared.edit.Edit.{Edit}
use Rattle.containers.specs.Base.{base}
use Rattle.containers.specs.Places.{StorageView, PlaceView}
use Rattle.containers.specs.Variables.{VariablesView}
use Rattle.containers.specs.Writes.{Writes, Declares}
use Rattle.containers.proofs.Bases.{made_keeps}
use Rattle.meaning.specs.declared.end.Stop.{Stop}
use Rattle.meaning.specs.declared.frame.Frame.{Frame}
use Rattle.meaning.specs.Places.{Edits, Stores, Assigns, DeclaresAll, Sets, Adds}
use Rattle.preservation.specs.Laws.{HasMemory}

base_writes : {w w2 : History} {v v2 : VariablesView} {p : StorageView} {due : Result (Option (List ℕ)) Fault}
    → Writes w v p due w2 v2 → base w2 ≡ base w
base_writes (Writes.nothing_due _) = refl
base_writes (Writes.to_global _ _ made) = made_keeps made
base_writes (Writes.to_own _ _ _) = refl
base_writes (Writes.to_field _ _ made) = made_keeps made

pub base_edits : {w w2 : History} {f f2 : Frame} {delimiter : ℕ} {p : PlaceView} {e : Edit} {o : Result (Unit {0}) Stop}
    → Edits w f delimiter p e o w2 f2 → HasMemory o → base w2 ≡ base w
base_edits Edits.edit_memory has = absurd (has refl)
base_edits (Edits.edit_faults _ same _) has = ap base same
base_edits (Edits.edited written _) has = base_writes written

pub base_stores : {w w2 : History} {f f2 : Frame} {h : StorageView} {t : List ℕ} → Stores w f h t w2 f2
    → base w2 ≡ base w
base_stores (Stores.stores _ written _) = base_writes written

pub base_assigns : {w w2 : History} {f f2 : Frame} {variable : Option (List ℕ)} {t : List ℕ}
    → Assigns w f variable t w2 f2 → base w2 ≡ base w
base_assigns (Assigns.no_variable _) = refl
base_assigns (Assigns.assigns _ stored) = base_stores stored

base_declares : {w w2 : History} {v v2 : VariablesView} {name : List ℕ} → Declares w v name w2 v2 → base w2 ≡ base w
base_declares (Declares.has_value _ _) = refl
base_declares (Declares.is_new _ made _) = made_keeps made

pub base_declares_all : {w w2 : History} {f f2 : Frame} {names : List (List ℕ)} → DeclaresAll w f names w2 f2
    → base w2 ≡ base w
base_declares_all (DeclaresAll.none_declared _) = refl
base_declares_all (DeclaresAll.declared _ declares _ rest) = base_declares_all rest ∙ base_declares declares

pub base_sets : {w w2 : History} {m : Referent} {prop : Prop} {t : List ℕ} {o : Result (Unit {0}) Stop}
    → Sets w m prop t o w2 → HasMemory o → base w2 ≡ base w
base_sets Sets.set_memory has = absurd (has refl)
base_sets (Sets.set_faults _ same) has = ap base same
base_sets (Sets.set_made _ made) has = made_keeps made

pub base_adds : {w w2 : History} {c : Change} {o : Result (Unit {0}) Stop} → Adds w c o w2 → HasMemory o
    → base w2 ≡ base w
base_adds Adds.add_memory has = absurd (has refl)
base_adds (Adds.too_many _) has = refl
base_adds (Adds.adds _ made) has = made_keeps made
