-- A line beside a desk, which hears of its messages and keeps what is saved.
use Rattle.std.specs.Prelude.{◌≡◌, ◌⊎◌, ℕ, true, List, map, option_map}
use Rattle.devices.specs.Desks.{SeenDesk, Hears, HearsOrForgets}
use Rattle.devices.specs.Watching.{counted}
use Rattle.change_journal.specs.History.{IsHistory}
use Rattle.devices.specs.declared.desk.HeardMessage.{HeardMessage}
use Rattle.meaning.specs.Sent.{SentMessage}
use Rattle.session.specs.SessionView.{SessionView}
use Rattle.session.specs.TakesLine.{TakesLine}
use Rattle.session.specs.declared.reply.Ending.{Ending}
use Rattle.session.specs.declared.reply.Ending.TheVariants.{Ok, Refused, Save}
use Rattle.session.specs.declared.reply.Refusal.TheVariants.{SaveFailed}
use Rattle.session.specs.declared.reply.Reply.{Reply}

-- where a line saves, this is the text that is to be kept
abbrev pub IsSaved : Ending → List ℕ → Type 0
IsSaved (Save text) saved = text ≡ saved
IsSaved _ saved = Unit {0}

-- How a line is answered that ended so, where the desk keeps what is saved. Any other line asks nothing of it.
abbrev pub Kept : Ending → SeenDesk → Ending → SeenDesk → Type 0
Kept (Save text) old told new = (told ≡ Ok) × (new ≡ record old { kept = option_map (λ _. text) old.kept })
Kept ending old told new = (told ≡ ending) × (new ≡ old)

-- how a line that saves is answered where the desk failed: the failure is counted, and what it kept before stands
abbrev pub Unkept : Ending → SeenDesk → Ending → SeenDesk → Type 0
Unkept (Save text) old told new =
    (told ≡ Refused SaveFailed) × (new ≡ record old { failures = counted true old.failures })
Unkept ending old told new = ⊥

abbrev pub KeptOrNot : Ending → SeenDesk → Ending → SeenDesk → Type 0
KeptOrNot ending old told new = Kept ending old told new ⊎ Unkept ending old told new

-- messages, as a desk hears of them
abbrev pub as_heard : List SentMessage → List HeardMessage
as_heard = map (λ message. record { name = message.name; object = message.object })

-- A line is taken, the desk hears of the messages that it sent, and then does what it asks. The answer is that of the
-- line, but for how it ends.
pub record Beside {S : Type 0} (hears : List HeardMessage → SeenDesk → SeenDesk → Type 0)
    (keeps : Ending → SeenDesk → Ending → SeenDesk → Type 0) (takes : List ℕ → S → Reply → S → Type 0)
    (line : List ℕ) (old : S × SeenDesk) (reply : Reply) (new : S × SeenDesk) : Type 0 where
  pub ending : Ending
  pub told : SeenDesk
  pub taken : takes line old.0 (record reply { ending = ending }) new.0
  pub heard : hears (as_heard reply.sent) old.1 told
  pub kept : keeps ending told reply.ending new.1

abbrev pub Settles : {S : Type 0} → (List ℕ → S → Reply → S → Type 0) → List ℕ → S × SeenDesk → Reply → S × SeenDesk
    → Type 0
Settles takes = Beside HearsOrForgets KeptOrNot takes

-- beside a desk that goes on telling what it hears
abbrev pub SettlesHeard : {S : Type 0} → (List ℕ → S → Reply → S → Type 0) → List ℕ → S × SeenDesk → Reply
    → S × SeenDesk
    → Type 0
SettlesHeard takes = Beside Hears KeptOrNot takes

-- a session takes a line, and each state of its list is whole before the line and after it
pub record TakesWhole (line : List ℕ) (old : SessionView) (reply : Reply) (new : SessionView) : Type 0 where
  pub takes : TakesLine line old reply new
  pub before : IsHistory old.history
  pub after : IsHistory new.history

-- a session beside a desk takes a line
abbrev pub Takes : List ℕ → SessionView × SeenDesk → Reply → SessionView × SeenDesk → Type 0
Takes = Settles TakesWhole
