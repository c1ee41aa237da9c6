-- What a part of a run comes to, computed: how it ends, with the state, the run and the frame after it.
use Rattle.std.specs.Prelude.{ℕ, Bool, true, false, List, [], Option, Some, None, Result, Ok, Err}
use Rattle.ht_values.specs.declared.fault.Fault.{Fault}
use Rattle.ht_values.specs.declared.fault.Fault.TheVariants.{NoSuchObject}
use Rattle.externals.specs.Log.{Log}
use Rattle.externals.specs.Turns.{TurnTable, no_table}
use Rattle.journal_entries.specs.State.{State}
use Rattle.change_journal.specs.History.{History}
use Rattle.object_references.specs.declared.referent.Referent.{Referent}
use Rattle.meaning.specs.declared.end.How.{How}
use Rattle.meaning.specs.declared.end.How.TheVariants.{Next}
use Rattle.meaning.specs.declared.end.Stop.{Stop}
use Rattle.meaning.specs.declared.end.Stop.TheVariants.{Fault as Faults}
use Rattle.meaning.specs.declared.frame.Frame.{Frame}
use Rattle.meaning.specs.Repeats.{Outcome}
use Rattle.meaning.specs.State.{RunState}
use Rattle.definitional_interpreter.specs.Turns.{logs_since}

-- What a run sees of a history: the present state and the turns that each external took since the run began, and no
-- weights. Beside them stands where its turns come from: a table, and for each external those that the table doesn't
-- have, the first one first.
pub record Visible : Type 0 where
  pub now : State
  pub logs : List Log
  pub table : TurnTable
  pub turns : ℕ → Log

-- what a run that began with these logs sees of a history
abbrev pub seen_since : TurnTable → (ℕ → Log) → List Log → History → Visible
seen_since table turns old w =
    record { now = w.now; logs = logs_since old w.logs; table = table; turns = turns }

-- no external has a turn
abbrev pub visible : History → Visible
visible w = record { now = w.now; logs = []; table = no_table; turns = λ i. [] }

-- what an expression comes to; it is unknown where the fuel is out
pub data Told (A : Type 0) : Type 0 where
  unknown : Told A
  told : Result A Stop → Visible → RunState → Told A

-- what a statement comes to, with the frame after it
pub data ToldIn (A : Type 0) : Type 0 where
  unknown_in : ToldIn A
  told_in : Result A Stop → Visible → RunState → Frame → ToldIn A

-- ---- one part after another: a part that stops hands on why, with what was done up to there

abbrev pub after : {A B : Type 0} → Told A → (A → Visible → RunState → Told B) → Told B
after unknown next = unknown
after (told (Ok a) w r) next = next a w r
after (told (Err z) w r) next = told (Err z) w r

-- a part that leaves the frame
abbrev pub after_in : {A B : Type 0} → Frame → Told A → (A → Visible → RunState → ToldIn B) → ToldIn B
after_in f unknown next = unknown_in
after_in f (told (Ok a) w r) next = next a w r
after_in f (told (Err z) w r) next = told_in (Err z) w r f

abbrev pub after_run : {A B : Type 0} → ToldIn A → (A → Visible → RunState → Frame → ToldIn B) → ToldIn B
after_run unknown_in next = unknown_in
after_run (told_in (Ok a) w r f) next = next a w r f
after_run (told_in (Err z) w r f) next = told_in (Err z) w r f

-- a part whose frame ends with it
abbrev pub after_lines : {A B : Type 0} → ToldIn A → (A → Visible → RunState → Told B) → Told B
after_lines unknown_in next = unknown
after_lines (told_in (Ok a) w r f) next = next a w r
after_lines (told_in (Err z) w r f) next = told (Err z) w r

-- a statement, and then the rest of its lines, unless it leaves them
abbrev pub after_next : ToldIn How → (Visible → RunState → Frame → ToldIn How) → ToldIn How
after_next unknown_in next = unknown_in
after_next (told_in (Ok Next) w r f) next = next w r f
after_next (told_in (Ok h) w r f) next = told_in (Ok h) w r f
after_next (told_in (Err z) w r f) next = told_in (Err z) w r f

-- ---- cases

abbrev pub choose : {X : Type 0} → Bool → (Unit {0} → X) → (Unit {0} → X) → X
choose true so otherwise = so tt
choose false so otherwise = otherwise tt

abbrev pub maybe : {A X : Type 0} → Option A → (A → X) → (Unit {0} → X) → X
maybe (Some a) found missing = found a
maybe None found missing = missing tt

abbrev pub computed : {A X : Type 0} → Result A Fault → (A → X) → (Fault → X) → X
computed (Ok a) value fault = value a
computed (Err n) value fault = fault n

-- whether a reference has an object: none is no fault
abbrev pub there : Told Referent → (Bool → List ℕ) → Told (List ℕ)
there unknown say = unknown
there (told (Ok m) w r) say = told (Ok (say true)) w r
there (told (Err (Faults NoSuchObject)) w r) say = told (Ok (say false)) w r
there (told (Err z) w r) say = told (Err z) w r

-- what a handler gives
abbrev pub gave : Visible → Outcome → Told (List ℕ)
gave w out = told (Ok out.value) w out.run
