-- Transcripts go on from what there was, and a table tells them.
use Rattle.std.proofs.Common.{◌≡◌, ◌⊎◌, inl, inr, ℕ, ◌<◌, List, [], ◌∷◌, Bool, true, false, length, sym, ap, subst, ◌∙◌}
use Rattle.std.proofs.lemmas.List.{length-map}
use Rattle.std.specs.Prelude.{MatchBool, slice_index_or}
use Rattle.devices.specs.Desks.{SeenDesk}
use Rattle.externals.specs.Log.{Follows}
use Rattle.externals.specs.Turns.{TurnTable}
use Rattle.journal_entries.specs.State.{State}
use Rattle.change_journal.specs.Logs.{log_at}
use Rattle.meaning.specs.Actions.{Action}
use Rattle.definitional_interpreter.specs.Turns.{sorts_of}
use Rattle.definitional_interpreter.proofs.Sights.{sort_at}
use Rattle.session.specs.declared.reply.Reply.{Reply}
use Rattle.headline.specs.Answering.{is_quit}
use Rattle.headline.specs.Headline.{Snapshot, Timeline, IsPresent, FollowsTable, Replaces, KeepsOut}
use Rattle.transcripts.specs.Laws.{HasPresent, HasKinds, Transcript, TranscriptsGoOn, TranscriptsAreOne}
use Rattle.transcripts.specs.Laws.{TablesTellTurns, TablesTellTranscripts}
use Rattle.transcripts.proofs.Cursors.{standing, followed_present}
use Rattle.transcripts.proofs.Grown.{transcript_goes}
use Rattle.transcripts.proofs.Kept.{of_each, line_leads}
use Rattle.transcripts.proofs.OneDesk.{room_of_step}

-- ---- the cursor stands on a state

abbrev StaysPresent : Timeline → Timeline → Type 0
StaysPresent old new = HasPresent old → HasPresent new

done_present : (does : Action) (state : State) (old : Timeline) (reply : Reply) (new : Timeline) → Unit {0} →
    IsPresent state old → Replaces does state old reply new ⊎ KeepsOut does state old reply new → StaysPresent old new
done_present does state old reply new such here (inl a) present =
    subst HasPresent (sym a.list) (followed_present old a.after present)
done_present does state old reply new such here (inr a) present = subst HasPresent (sym a.refuses.same) present

from : (old : Timeline × SeenDesk) (lines : List (List ℕ)) (text : List ℕ) (new : Timeline × SeenDesk) →
    HasPresent old.0 → Transcript old lines text new → HasPresent new.0
from old [] text new present (written, left) =
    subst (λ (t : Timeline × SeenDesk). HasPresent t.0) (sym left) present
from old (line ∷ lines) text new present (reply, mid, more, taken, is, rest) =
    by_rest (is_quit reply.ending) rest (from mid lines more new here)
  where
    here : HasPresent mid.0
    here = line_leads StaysPresent (λ does. Unit {0}) (λ t stands. stands) (λ t place within stands. within)
        done_present line old.0 (record reply { ending = taken.taken.ending }) mid.0
        (λ short reading does. (λ reads. tt, λ reads. tt)) (room_of_step taken) taken.taken.taken present

    by_rest : (quits : Bool) → MatchBool quits ((more ≡ []) × (new ≡ mid)) (Transcript mid lines more new) →
        (Transcript mid lines more new → HasPresent new.0) → HasPresent new.0
    by_rest true ended later = subst (λ (t : Timeline × SeenDesk). HasPresent t.0) (sym ended.1) here
    by_rest false rest later = later rest

pub transcripts_go_on : TranscriptsGoOn
transcripts_go_on kinds old lines text new present has transcript =
    let goes = transcript_goes kinds old lines text new transcript has in
    (from old lines text new present transcript, goes.0, goes.1.logs)

-- ---- by a table

-- logs that follow a table do so by the kinds
follows_kinds : (table : TurnTable) (kinds : List ℕ) (t : Timeline) → HasPresent t → HasKinds kinds t →
    FollowsTable table t → (i : ℕ) → i < length kinds → Follows table (slice_index_or kinds i 0) (log_at t.logs i)
follows_kinds table kinds t present has follows i there =
    let here = standing t.snapshots t.cursor present in
    let state : State = here.0.state in
    let sorts : sorts_of state.externals ≡ kinds =
    of_each (λ (s : Snapshot). sorts_of s.state.externals ≡ kinds) t.snapshots t.cursor here.0 has.sorts here.1 in
    let within : i < length state.externals =
    subst (λ n. i < n) (ap length (sym sorts) ∙ length-map state.externals (λ e. e.sort)) there in
    subst (λ kind. Follows table kind (log_at t.logs i))
    (sym (sort_at state.externals i) ∙ ap (λ ks. slice_index_or ks i 0) sorts)
    (follows state (here.0.number, here.1) i within)

pub tables_tell_transcripts : TablesTellTurns → TranscriptsAreOne → TablesTellTranscripts
tables_tell_transcripts tell one table kinds old lines text text2 new new2 fixed present has follows follows2 a b =
    let on = transcripts_go_on kinds old lines text new present has a in
    let on2 = transcripts_go_on kinds old lines text2 new2 present has b in
    one table (λ i. []) kinds old lines text text2 new new2 has
    (tell table kinds new.0.logs fixed (follows_kinds table kinds new.0 on.0 on.1 follows))
    (tell table kinds new2.0.logs fixed (follows_kinds table kinds new2.0 on2.0 on2.1 follows2)) a b
