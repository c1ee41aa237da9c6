-- What a fresh command means.
use Rattle.std.specs.Prelude.{◌≡◌, ℕ, List, Option, Some, None, Result, Ok, Err}
use Rattle.externals.specs.Log.{Log}
use Rattle.journal_entries.specs.State.{State, IsState}
use Rattle.change_journal.specs.History.{History, IsHistory}
use Rattle.meaning.specs.State.{RunState, fresh_run}
use Rattle.meaning.specs.Actions.{Action}
use Rattle.meaning.specs.Meaning.{Acts}
use Rattle.meaning.specs.declared.end.Stop.{Stop}
use Rattle.meaning.specs.declared.end.Stop.TheVariants as stop
use Rattle.session.specs.declared.reply.Ending.{Ending}
use Rattle.session.specs.declared.reply.Ending.TheVariants as endings
use Rattle.session.specs.declared.reply.Reply.{Reply}
use Rattle.meaning.specs.Locked.{MeetsLock}

-- How a command is answered that ended so: `exit to HyperCard` is no fault. One that is out of memory isn't a fresh
-- command.
abbrev pub ending_of : Result (Unit {0}) Stop → Option Ending
ending_of (Ok _) = Some endings.Ok
ending_of (Err stop.Exited) = Some endings.Ok
ending_of (Err (stop.Fault fault)) = Some (endings.Fault fault)
ending_of (Err stop.Memory) = None

abbrev pub reply_of : RunState → Ending → Reply
reply_of run ending = record { shown = run.shown; sent = run.sent; ending = ending }

-- What a user does leads from one history to the other, by the written meaning of HyperTalk, as a command with so many
-- steps. The run begins with its properties as they are at first and with an empty result. The reply has what it showed
-- and sent, and how it ended. If the state that it begins with is whole, so is each state round it.
pub record Runs (old : History) (steps : ℕ) (does : Action) (reply : Reply) (new : History) : Type 0 where
  pub run : RunState
  pub end : Result (Unit {0}) Stop
  pub means : Acts old (fresh_run steps) does end new run
  pub ending : Ending
  pub ends : ending_of end ≡ Some ending
  pub answer : reply ≡ reply_of run ending
  pub whole : IsState old.now → IsHistory old

-- a state, and the logs of the externals then
pub record Moment : Type 0 where
  pub state : State
  pub logs : List Log

abbrev pub moment : History → Moment
moment h = record { state = h.now; logs = h.logs }

-- A fresh command, at a moment and with so many steps, is answered so and leaves this moment.
pub record Fresh (old : Moment) (steps : ℕ) (does : Action) (reply : Reply) (new : Moment) : Type 0 where
  pub begin : History
  pub end : History
  pub runs : Runs begin steps does reply end
  pub here : moment begin ≡ old
  pub leaves : new ≡ moment end

-- A text is typed, at a moment and with so many steps, into a field that is locked. The reference to the field leaves
-- these logs.
pub record Locked (old : Moment) (steps : ℕ) (does : Action) (logs : List Log) : Type 0 where
  pub begin : History
  pub end : History
  pub run : RunState
  pub meets : MeetsLock begin (fresh_run steps) does end run
  pub here : moment begin ≡ old
  pub leaves : logs ≡ end.logs
