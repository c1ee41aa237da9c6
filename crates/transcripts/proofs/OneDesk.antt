-- What a desk keeps for a line that succeeds.
use Rattle.std.proofs.Common.{◌≡◌, ◌≢◌, inl, inr, ℕ, List, sym, ◌∙◌}
use Rattle.devices.specs.Desks.{SeenDesk}
use Rattle.session.specs.declared.reply.Ending.{Ending}
use Rattle.session.specs.declared.reply.Ending.TheVariants as endings
use Rattle.session.specs.declared.reply.Refusal.TheVariants.{NoMemory, SaveFailed}
use Rattle.session.specs.declared.reply.Reply.{Reply}
use Rattle.headline.specs.Headline.{Timeline, LineMoves}
use Rattle.headline.specs.Saving.{Kept, KeptOrNot, SettlesHeard}
use Rattle.transcripts.specs.Laws.{Succeeds}
use Rattle.transcripts.proofs.Kept.{HasRoom}

-- what a desk does for a line
pub kept_by : (ending : Ending) (old : SeenDesk) {told : Ending} (new : SeenDesk) → KeptOrNot ending old told new →
    told ≢ endings.Refused SaveFailed → Kept ending old told new
kept_by ending old new (inl kept) saved = kept
kept_by (endings.Save text) old new (inr failed) saved = absurd (saved failed.0)
kept_by endings.Ok old new (inr failed) saved = absurd failed
kept_by (endings.Fault fa) old new (inr failed) saved = absurd failed
kept_by (endings.Refused x) old new (inr failed) saved = absurd failed
kept_by endings.Quit old new (inr failed) saved = absurd failed

pub one_desk : (ending : Ending) (old : SeenDesk) {told told2 : Ending} {new new2 : SeenDesk} →
    Kept ending old told new →
    Kept ending old told2 new2 → (told ≡ told2) × (new ≡ new2)
one_desk (endings.Save text) old a b = (a.0 ∙ sym b.0, a.1 ∙ sym b.1)
one_desk endings.Ok old a b = (a.0 ∙ sym b.0, a.1 ∙ sym b.1)
one_desk (endings.Fault fa) old a b = (a.0 ∙ sym b.0, a.1 ∙ sym b.1)
one_desk (endings.Refused x) old a b = (a.0 ∙ sym b.0, a.1 ∙ sym b.1)
one_desk endings.Quit old a b = (a.0 ∙ sym b.0, a.1 ∙ sym b.1)

-- a line that is told as it ended, or saves, has room
pub room_of : (ending : Ending) (old : SeenDesk) {told : Ending} (new : SeenDesk) → Kept ending old told new →
    told ≢ endings.Refused NoMemory → ending ≢ endings.Refused NoMemory
room_of (endings.Save text) old new a room = λ e. cc
room_of endings.Ok old new a room = λ e. cc
room_of (endings.Fault fa) old new a room = λ e. cc
room_of (endings.Refused x) old new a room = λ e. room (a.0 ∙ e)
room_of endings.Quit old new a room = λ e. cc

-- so the line had room, before the desk was asked
pub room_of_step : {line : List ℕ} {old : Timeline × SeenDesk} {reply : Reply} {new : Timeline × SeenDesk} →
    (step : Succeeds (SettlesHeard LineMoves) line old reply new) →
    HasRoom (record reply { ending = step.taken.ending })
room_of_step {new = new} step =
    room_of step.taken.ending step.taken.told new.1
    (kept_by step.taken.ending step.taken.told new.1 step.taken.kept step.kept) step.memory
