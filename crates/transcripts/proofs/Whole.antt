-- Whole states lead to whole states, along a transcript.
use Rattle.std.proofs.Common.{◌≡◌, ◌⊎◌, inl, inr, ℕ, List, [], ◌∷◌, Bool, true, false, sym, subst, MatchBool}
use Rattle.std.specs.List.{AllByRecursion}
use Rattle.devices.specs.Desks.{SeenDesk}
use Rattle.journal_entries.specs.State.{State, IsState}
use Rattle.meaning.specs.Actions.{Action}
use Rattle.whole_states.specs.Texts.{ActionTexts}
use Rattle.session.specs.declared.reply.Reply.{Reply}
use Rattle.headline.specs.Answering.{is_quit}
use Rattle.headline.specs.Headline.{Snapshot, Timeline, IsPresent, moment_in, Replaces, KeepsOut}
use Rattle.transcripts.specs.Laws.{AreWholeStates, Transcript, TranscriptsStayWhole, OutputsStayWhole}
use Rattle.transcripts.specs.Replies.{RepliesStayWhole}
use Rattle.transcripts.proofs.Kept.{ShortSaysSuch, of_each, of_joined, line_leads}
use Rattle.transcripts.proofs.OneDesk.{room_of_step}
use Rattle.transcripts.proofs.Said.{TextReadings, each_says_texts, lines_of_bytes}

-- each state stays whole
abbrev StaysWhole : Timeline → Timeline → Type 0
StaysWhole old new = AreWholeStates old → AreWholeStates new

done_whole : RepliesStayWhole → (does : Action) (state : State) (old : Timeline) (reply : Reply) (new : Timeline) →
    ActionTexts does → IsPresent state old → Replaces does state old reply new ⊎ KeepsOut does state old reply new →
    StaysWhole old new
done_whole replies does state old reply new texts here (inl a) all =
    let now : IsState state =
    of_each (λ (s : Snapshot). IsState s.state) old.snapshots old.cursor
    (record { state = state; number = here.0 }) all here.1 in
    subst AreWholeStates (sym a.list)
    (of_joined (λ (s : Snapshot). IsState s.state) old a.after all
    (replies (moment_in state old) old.steps does reply a.after now texts a.allowed))
done_whole replies does state old reply new texts here (inr a) all = subst AreWholeStates (sym a.refuses.same) all

-- all lines, what each of which does has texts
from : RepliesStayWhole → (old : Timeline × SeenDesk) (lines : List (List ℕ)) (text : List ℕ)
    (new : Timeline × SeenDesk) → AllByRecursion (ShortSaysSuch ActionTexts) lines → AreWholeStates old.0 →
    Transcript old lines text new → AreWholeStates new.0
from replies old [] text new such all (written, left) =
    subst (λ (t : Timeline × SeenDesk). AreWholeStates t.0) (sym left) all
from replies old (line ∷ lines) text new such all (reply, mid, more, taken, is, rest) =
    by_rest (is_quit reply.ending) rest (from replies mid lines more new such.1 here)
  where
    here : AreWholeStates mid.0
    here = line_leads StaysWhole ActionTexts (λ t whole. whole) (λ t place within whole. whole) (done_whole replies)
        line old.0 (record reply { ending = taken.taken.ending }) mid.0 such.0 (room_of_step taken)
        taken.taken.taken all

    by_rest : (quits : Bool) → MatchBool quits ((more ≡ []) × (new ≡ mid)) (Transcript mid lines more new) →
        (Transcript mid lines more new → AreWholeStates new.0) → AreWholeStates new.0
    by_rest true ended later = subst (λ (t : Timeline × SeenDesk). AreWholeStates t.0) (sym ended.1) here
    by_rest false rest later = later rest

pub transcript_whole : RepliesStayWhole → TextReadings → TranscriptsStayWhole
transcript_whole replies readings old lines text new bytes all transcript =
    from replies old lines text new (each_says_texts readings lines bytes) all transcript

pub output_whole : TranscriptsStayWhole → OutputsStayWhole
output_whole stays old read text new bytes all (lines, (are, transcript)) =
    stays old lines text new (lines_of_bytes read lines bytes are) all transcript
