-- What an edit, a declaration, a property, new objects and a turn make of a state.
use Rattle.std.specs.Prelude.{ℕ, zero, suc, ◌-◌, List, [], ◌∷◌, ◌++◌, length, slice_index_or, slice_set}
use Rattle.std.specs.Prelude.{slice_get, Option, Some, None, Result, Ok, Err}
use Rattle.std.specs.FinMap.{get}
use Rattle.ht_values.specs.declared.fault.Fault.{Fault}
use Rattle.ht_values.specs.declared.fault.Fault.TheVariants.{StepLimit, TooMany}
use Rattle.ht_values.specs.declared.word.Prop.{Prop}
use Rattle.ht_values.specs.Text.{folded}
use Rattle.externals.specs.declared.external.Ask.{Ask}
use Rattle.externals.specs.declared.external.Input.{Input}
use Rattle.externals.specs.Turns.{Turn}
use Rattle.externals.specs.Log.{LoggedTurn}
use Rattle.journal_entries.specs.State.{seen_at}
use Rattle.journal_entries.specs.Changes.{changed, fits}
use Rattle.journal_entries.specs.Turning.{with_cells_at}
use Rattle.journal_entries.specs.declared.change.Change.{Change}
use Rattle.journal_entries.specs.declared.change.Change.TheVariants.{Global, FieldText}
use Rattle.object_references.specs.declared.referent.Referent.{Referent}
use Rattle.object_references.specs.Settings.{setting}
use Rattle.containers.specs.declared.edit.Edit.{Edit}
use Rattle.containers.specs.Edits.{due}
use Rattle.containers.specs.Places.{StorageView, PlaceView, global, own, field_text, named}
use Rattle.containers.specs.Variables.{VariablesView, declared, with_local}
use Rattle.meaning.specs.declared.end.Stop.{Stop}
use Rattle.meaning.specs.declared.end.Stop.TheVariants.{Fault as Faults}
use Rattle.meaning.specs.declared.frame.Frame.{Frame}
use Rattle.meaning.specs.State.{RunState}
use Rattle.definitional_interpreter.specs.Turns.{nondeterministic}
use Rattle.definitional_interpreter.specs.Told.{Visible, Told, unknown, told, ToldIn, told_in, choose, computed}

-- a computed value, or its fault
abbrev pub yielded : {A : Type 0} → Result A Fault → Result A Stop
yielded (Ok a) = Ok a
yielded (Err n) = Err (Faults n)

-- a step is taken, where one is left
abbrev pub step_by : ℕ → Visible → RunState → Told (Unit {0})
step_by zero w r = told (Err (Faults StepLimit)) w r
step_by (suc n) w r = told (Ok tt) w (record r { left = r.left - 1 })

abbrev pub step : Visible → RunState → Told (Unit {0})
step w r = step_by r.left w r

-- a change of the state
abbrev pub made : Visible → Change → Visible
made w c = record w { now = changed w.now c }

unfoldable pub make : Visible → RunState → Change → Told (Unit {0})
make w r c = told (Ok tt) (made w c) r

-- ---- containers

abbrev pub with_variables : Frame → VariablesView → Frame
with_variables f v = record f { variables = v }

-- a text is written to its place
abbrev pub written : Visible → RunState → Frame → StorageView → List ℕ → ToldIn (Unit {0})
written w r f (global name) t = told_in (Ok tt) (made w (Global name (Some t))) r f
written w r f (own name) t = told_in (Ok tt) w r (with_variables f (with_local f.variables name (Some t)))
written w r f (field_text field card) t = told_in (Ok tt) (made w (FieldText field card t)) r f

abbrev pub edit_by : Visible → RunState → Frame → StorageView → Result (Option (List ℕ)) Fault → ToldIn (Unit {0})
edit_by w r f storage (Ok (Some t)) = written w r f storage t
edit_by w r f storage (Ok None) = told_in (Ok tt) w r f
edit_by w r f storage (Err n) = told_in (Err (Faults n)) w r f

-- a container is edited
abbrev pub edit : Visible → RunState → Frame → PlaceView → Edit → ToldIn (Unit {0})
edit w r f p e = edit_by w r f p.storage (due w.now f.variables r.delimiter p e)

-- a value takes the place of a text
unfoldable pub store : Visible → RunState → Frame → StorageView → List ℕ → ToldIn (Unit {0})
store w r f storage t = written w r f storage t

-- the number of a turn is put into the variable of a repeat
abbrev pub assign : Visible → RunState → Frame → Option (List ℕ) → List ℕ → ToldIn (Unit {0})
assign w r f None v = told_in (Ok tt) w r f
assign w r f (Some name) v = store w r f (named f.variables name) v

-- a name means a global from here on, which has a value
abbrev pub with_global : Visible → List ℕ → Option (List ℕ) → Visible
with_global w name (Some t) = w
with_global w name None = made w (Global (folded name) (Some []))

abbrev pub declare_all : Visible → RunState → Frame → List (List ℕ) → ToldIn (Unit {0})
declare_all w r f [] = told_in (Ok tt) w r f
declare_all w r f (name ∷ names) =
    declare_all (with_global w name (get w.now.globals (folded name))) r
    (with_variables f (declared f.variables name)) names

-- ---- objects

-- a property of an object is set
abbrev pub set_property : Visible → RunState → Referent → Prop → List ℕ → Told (Unit {0})
set_property w r m prop t = computed (setting w.now.stack m prop t) (λ c. make w r c) (λ n. told (Err (Faults n)) w r)

-- objects are made, where they fit
abbrev pub add_objects : Visible → RunState → Change → Told (Unit {0})
add_objects w r c = choose (fits w.now c) (λ _. make w r c) (λ _. told (Err (Faults TooMany)) w r)

-- ---- externals

-- The turn of the i-th external that is due: that of the table, or else the first of those beside it that its log
-- doesn't have.
abbrev pub due_turn : Visible → ℕ → Input → Option Turn → Option LoggedTurn
due_turn w i input (Some t) =
    Some (record { before = (seen_at w.now i).cells; input = input; ask = t.0; cells = t.1 })
due_turn w i input None =
    slice_get (w.turns i) (length (nondeterministic w.table (seen_at w.now i).sort (slice_index_or w.logs i [])))

-- a turn, which its log has then at its end; it is unknown where none is due
abbrev pub take_turn : Visible → RunState → ℕ → Option LoggedTurn → Told Ask
take_turn w r i (Some t) = told (Ok t.ask) (record w {
  now = with_cells_at w.now i t.cells;
  logs = slice_set w.logs i (slice_index_or w.logs i [] ++ t ∷ []);
}) r
take_turn w r i None = unknown

abbrev pub turn : Visible → RunState → ℕ → Input → Told Ask
turn w r i input =
    take_turn w r i (due_turn w i input (w.table (seen_at w.now i).sort (seen_at w.now i).cells input))
