-- What writes promise together.
use Rattle.std.specs.Prelude.{◌≡◌, List, ℕ, [], Option, Some, None, option_and_then, IsSome, Result, Ok}
use Rattle.std.specs.Option.{option_map_or}
use Rattle.ht_values.specs.declared.fault.Fault.{Fault}
use Rattle.journal_entries.specs.State.{State}
use Rattle.journal_entries.specs.Changes.{changed}
use Rattle.journal_entries.specs.Replaced.{Replacement, replaced_by}
use Rattle.journal_entries.specs.declared.change.Change.{Change}
use Rattle.journal_entries.specs.declared.change.Change.TheVariants.{Global, FieldText}
use Rattle.change_journal.specs.History.{History}
use Rattle.change_journal.specs.Rising.{BothOpen, Rises, trail_after}
use Rattle.containers.specs.Places.{StorageView, global, own, field_text, whole}
use Rattle.containers.specs.Variables.{VariablesView, with_local}
use Rattle.containers.specs.Writes.{Writes}

-- the change of the state that writes a text; none for a variable of the handler's own
abbrev pub change_of : StorageView → List ℕ → Option Change
change_of (global name) t = Some (Global name (Some t))
change_of (own name) t = None
change_of (field_text field card) t = Some (FieldText field card t)

-- the variables with the text
abbrev pub with_text : VariablesView → StorageView → List ℕ → VariablesView
with_text v (own name) t = with_local v name (Some t)
with_text v _ t = v

-- the state and the variables after a text is written, or none, and what that replaces of the state
abbrev pub state_after : State → StorageView → Option (List ℕ) → State
state_after s p text = option_map_or (λ c. changed s c) (option_and_then (λ t. change_of p t) text) s

abbrev pub variables_after : VariablesView → StorageView → Option (List ℕ) → VariablesView
variables_after v p text = option_map_or (λ t. with_text v p t) text v

abbrev pub replaced_by_write : State → StorageView → Option (List ℕ) → List Replacement
replaced_by_write s p text = option_map_or (λ c. replaced_by s c) (option_and_then (λ t. change_of p t) text) []

-- one state, one list of variables, and a batch that has risen by no more than what is replaced
pub record IsWritten (h h2 : History) (v v2 : VariablesView) (p : StorageView) (text : Option (List ℕ)) : Type 0 where
  pub state : h2.now ≡ state_after h.now p text
  pub variables : v2 ≡ variables_after v p text
  pub batch : BothOpen h.start h2.start
      (λ o q. Rises (replaced_by_write h.now p text) (trail_after (replaced_by_write h.now p text) o.trail) o q)

-- a write has one outcome: a fault is never written, and a text leads to one state and to one list of variables
abbrev pub WritesAreDue : Type 0
WritesAreDue =
    (h h2 : History) (v v2 : VariablesView) (p : StorageView) (due : Result (Option (List ℕ)) Fault) →
    IsSome h.start → Writes h v p due h2 v2 → (text : Option (List ℕ)) × (due ≡ Ok text) × IsWritten h h2 v v2 p text

-- what is written is what is read there next
abbrev pub WrittenIsRead : Type 0
WrittenIsRead =
    (s : State) (v : VariablesView) (p : StorageView) (t : List ℕ) →
    whole (state_after s p (Some t)) (variables_after v p (Some t)) p ≡ Ok t
