-- What a run works on beside the history: the run itself, and the frame of what runs.
use Rattle.std.specs.Prelude.{◌≡◌, ℕ, ◌-◌, ◌<◌, List, [], ◌∷◌, ◌++◌, Bool, true, false, Result, Ok, Err}
use Rattle.ht_values.specs.declared.fault.Fault.{Fault}
use Rattle.ht_values.specs.declared.fault.Fault.TheVariants.{StepLimit, BadArgument}
use Rattle.ht_values.specs.Operators.{truth_of, word_of}
use Rattle.ht_values.specs.Outcome.{and_then}
use Rattle.ht_grammar.specs.declared.vocabulary.RunProp.{RunProp}
use Rattle.ht_grammar.specs.declared.vocabulary.RunProp.TheVariants.{ItemDelimiter, LockMessages, EditBkgnd}
use Rattle.stack_text.specs.Words.{spelled}
use Rattle.change_journal.specs.History.{History}
use Rattle.containers.specs.Variables.{bound}
use Rattle.meaning.specs.declared.frame.Frame.{Frame}
use Rattle.meaning.specs.declared.end.Stop.{Stop}
use Rattle.meaning.specs.declared.end.Stop.TheVariants as stop
use Rattle.meaning.specs.Sent.{SentMessage}

-- A run: the item delimiter, whether the system sends no messages, whether new parts stand on the background, `the
-- result`, the steps that are left, the lines shown, and the messages sent.
pub record RunState : Type 0 where
  pub delimiter : ℕ
  pub lock_messages : Bool
  pub edit_background : Bool
  pub result : List ℕ
  pub left : ℕ
  pub shown : List (List ℕ)
  pub sent : List SentMessage

-- the run of a typed command as it begins
abbrev pub fresh_run : ℕ → RunState
fresh_run steps = record {
  delimiter = 44;
  lock_messages = false;
  edit_background = false;
  result = [];
  left = steps;
  shown = [];
  sent = [];
}

-- one step is taken, or none is left
pub data Step : RunState → Result (Unit {0}) Stop → RunState → Type 0 where
  taken : {r r2 : RunState} → 0 < r.left → r2 ≡ record r { left = r.left - 1 } → Step r (Ok tt) r2
  none_left : {r : RunState} → r.left ≡ 0 → Step r (Err (stop.Fault StepLimit)) r

-- a text is shown, spelled as in a stack text
abbrev pub shows : RunState → List ℕ → RunState
shows r t = record r { shown = r.shown ++ spelled t ∷ [] }

-- a message is added to those sent, with its name as written
abbrev pub noted : RunState → List ℕ → ℕ → RunState
noted r name id = record r { sent = r.sent ++ record { name = name; object = id } ∷ [] }

-- ---- properties of the run

abbrev pub run_property : RunState → RunProp → List ℕ
run_property r ItemDelimiter = r.delimiter ∷ []
run_property r LockMessages = word_of r.lock_messages
run_property r EditBkgnd = word_of r.edit_background

-- the delimiter is one byte
abbrev pub delimiter_set : RunState → List ℕ → Result RunState Fault
delimiter_set r (b ∷ []) = Ok (record r { delimiter = b })
delimiter_set r _ = Err BadArgument

abbrev pub run_property_set : RunState → RunProp → List ℕ → Result RunState Fault
run_property_set r ItemDelimiter t = delimiter_set r t
run_property_set r LockMessages t = and_then (truth_of t) (λ b. Ok (record r { lock_messages = b }))
run_property_set r EditBkgnd t = and_then (truth_of t) (λ b. Ok (record r { edit_background = b }))

-- ---- frames

-- the frame of a typed line, of a reference in a dot line, or of a call-back: each variable is global
abbrev pub typed_frame_at : ℕ → Frame
typed_frame_at card = record { me = card; target = card; variables = record { all_global = true; locals = [] } }

abbrev pub typed_frame : History → Frame
typed_frame w = typed_frame_at w.now.current

-- the frame of a handler that has no variable yet
abbrev pub frame_of : ℕ → ℕ → Frame
frame_of me target = record { me = me; target = target; variables = record { all_global = false; locals = [] } }

-- the frame of a handler of an object, with its parameters
abbrev pub handler_frame : ℕ → ℕ → List (List ℕ) → List (List ℕ) → Frame
handler_frame me target parameters arguments =
    record { me = me; target = target; variables = bound parameters arguments (frame_of me target).variables }
