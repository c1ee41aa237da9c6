-- What a write makes of the history and of the variables.
use Rattle.std.specs.Prelude.{◌≡◌, ℕ, List, [], Option, Some, None, Result, Ok}
use Rattle.std.specs.FinMap.{get}
use Rattle.ht_values.specs.declared.fault.Fault.{Fault}
use Rattle.ht_values.specs.Text.{folded}
use Rattle.journal_entries.specs.declared.change.Change.TheVariants.{Global, FieldText}
use Rattle.change_journal.specs.History.{History}
use Rattle.change_journal.specs.Rising.{Made}
use Rattle.containers.specs.Places.{StorageView, global, own, field_text}
use Rattle.containers.specs.Variables.{VariablesView, declared, with_local}

-- A text that is due is written: a global and a text of a field by a change of the history, which says what it
-- replaces, a handler's own variable among its variables. Where none is due nothing changes, and a fault is never
-- written.
pub data Writes : History → VariablesView → StorageView → Result (Option (List ℕ)) Fault → History → VariablesView
    → Type 0 where
  nothing_due : {h : History} {v : VariablesView} {p : StorageView} {due : Result (Option (List ℕ)) Fault} →
      due ≡ Ok None → Writes h v p due h v
  to_global : {h h2 : History} {v : VariablesView} {p : StorageView} {due : Result (Option (List ℕ)) Fault}
      {name t : List ℕ} →
      p ≡ global name → due ≡ Ok (Some t) → Made h h2 (Global name (Some t)) → Writes h v p due h2 v
  to_own : {h : History} {v v2 : VariablesView} {p : StorageView} {due : Result (Option (List ℕ)) Fault}
      {name t : List ℕ} →
      p ≡ own name → due ≡ Ok (Some t) → v2 ≡ with_local v name (Some t) → Writes h v p due h v2
  to_field : {h h2 : History} {v : VariablesView} {p : StorageView} {due : Result (Option (List ℕ)) Fault}
      {field card : ℕ} {t : List ℕ} →
      p ≡ field_text field card → due ≡ Ok (Some t) → Made h h2 (FieldText field card t) → Writes h v p due h2 v

-- a name means a global from here on, which gets the empty text where it had no value
pub data Declares : History → VariablesView → List ℕ → History → VariablesView → Type 0 where
  has_value : {h : History} {v v2 : VariablesView} {name t : List ℕ} →
      get h.now.globals (folded name) ≡ Some t → v2 ≡ declared v name → Declares h v name h v2
  is_new : {h h2 : History} {v v2 : VariablesView} {name : List ℕ} →
      get h.now.globals (folded name) ≡ None → Made h h2 (Global (folded name) (Some [])) → v2 ≡ declared v name
      → Declares h v name h2 v2
