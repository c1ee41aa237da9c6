-- What the changes and the turn in a rule replace, in their order.
use Rattle.std.specs.Prelude.{ℕ, List, [], ◌++◌, Option, Result}
use Rattle.ht_values.specs.declared.fault.Fault.{Fault}
use Rattle.ht_values.specs.declared.word.Prop.{Prop}
use Rattle.externals.specs.declared.external.Ask.{Ask}
use Rattle.externals.specs.declared.external.Input.{Input}
use Rattle.journal_entries.specs.State.{seen_at}
use Rattle.journal_entries.specs.Replaced.{Replacement, replaced_by, replaced_by_turn}
use Rattle.journal_entries.specs.declared.change.Change.{Change}
use Rattle.change_journal.specs.History.{History}
use Rattle.change_journal.specs.Rising.{Made, TookTurn}
use Rattle.object_references.specs.declared.referent.Referent.{Referent}
use Rattle.containers.specs.declared.edit.Edit.{Edit}
use Rattle.containers.specs.Places.{StorageView, PlaceView}
use Rattle.containers.specs.Variables.{VariablesView}
use Rattle.containers.specs.Writes.{Writes, Declares}
use Rattle.meaning.specs.declared.end.Stop.{Stop}
use Rattle.meaning.specs.declared.frame.Frame.{Frame}
use Rattle.meaning.specs.Places.{Edits, Stores, Assigns, DeclaresAll, Sets, Adds}

abbrev pub replaced_made : {w w2 : History} {c : Change} → Made w w2 c → List Replacement
replaced_made {w} {w2} {c} made = replaced_by w.now c

-- the cells that the turn changed
abbrev pub replaced_turn : {w w2 : History} {k : ℕ} {input : Input} {ask : Ask} → TookTurn w w2 k input ask
    → List Replacement
replaced_turn {w} {w2} {k} turn = replaced_by_turn k (seen_at w.now k).cells (seen_at w2.now k).cells

-- a variable of the handler's own is no place
abbrev pub replaced_writes : {w w2 : History} {v v2 : VariablesView} {p : StorageView}
    {due : Result (Option (List ℕ)) Fault} → Writes w v p due w2 v2 → List Replacement
replaced_writes (Writes.nothing_due _) = []
replaced_writes (Writes.to_global _ _ made) = replaced_made made
replaced_writes (Writes.to_own _ _ _) = []
replaced_writes (Writes.to_field _ _ made) = replaced_made made

abbrev pub replaced_edits : {w w2 : History} {f f2 : Frame} {delimiter : ℕ} {p : PlaceView} {e : Edit}
    {o : Result (Unit {0}) Stop} → Edits w f delimiter p e o w2 f2 → List Replacement
replaced_edits Edits.edit_memory = []
replaced_edits (Edits.edit_faults _ _ _) = []
replaced_edits (Edits.edited written _) = replaced_writes written

abbrev pub replaced_stores : {w w2 : History} {f f2 : Frame} {h : StorageView} {t : List ℕ} → Stores w f h t w2 f2
    → List Replacement
replaced_stores (Stores.stores _ written _) = replaced_writes written

abbrev pub replaced_assigns : {w w2 : History} {f f2 : Frame} {variable : Option (List ℕ)} {t : List ℕ}
    → Assigns w f variable t w2 f2 → List Replacement
replaced_assigns (Assigns.no_variable _) = []
replaced_assigns (Assigns.assigns _ stored) = replaced_stores stored

abbrev pub replaced_declares : {w w2 : History} {v v2 : VariablesView} {name : List ℕ} → Declares w v name w2 v2
    → List Replacement
replaced_declares (Declares.has_value _ _) = []
replaced_declares (Declares.is_new _ made _) = replaced_made made

abbrev pub replaced_declares_all : {w w2 : History} {f f2 : Frame} {names : List (List ℕ)}
    → DeclaresAll w f names w2 f2 → List Replacement
replaced_declares_all (DeclaresAll.none_declared _) = []
replaced_declares_all (DeclaresAll.declared _ declares _ rest) =
    replaced_declares declares ++ replaced_declares_all rest

abbrev pub replaced_sets : {w w2 : History} {m : Referent} {prop : Prop} {t : List ℕ} {o : Result (Unit {0}) Stop}
    → Sets w m prop t o w2 → List Replacement
replaced_sets Sets.set_memory = []
replaced_sets (Sets.set_faults _ _) = []
replaced_sets (Sets.set_made _ made) = replaced_made made

abbrev pub replaced_adds : {w w2 : History} {c : Change} {o : Result (Unit {0}) Stop} → Adds w c o w2 → List Replacement
replaced_adds Adds.add_memory = []
replaced_adds (Adds.too_many _) = []
replaced_adds (Adds.adds _ made) = replaced_made made
