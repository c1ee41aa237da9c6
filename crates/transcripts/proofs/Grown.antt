-- The externals that there are stay, whatever lines do, and their logs only grow.
use Rattle.std.proofs.Common.{◌≡◌, ◌⊎◌, inl, inr, ℕ, ◌<◌, List, [], ◌∷◌, Bool, true, false, length, refl, sym, ap}
use Rattle.std.proofs.Common.{subst, ◌∙◌, Result, MatchBool}
use Rattle.devices.specs.Desks.{SeenDesk}
use Rattle.externals.specs.Log.{Log}
use Rattle.externals.specs.Turns.{no_table}
use Rattle.ht_grammar.specs.Trees as tree
use Rattle.journal_entries.specs.State.{State}
use Rattle.change_journal.specs.History.{History}
use Rattle.change_journal.specs.Logs.{log_at}
use Rattle.meaning.specs.Actions as act
use Rattle.meaning.specs.Actions.{Action}
use Rattle.meaning.specs.Locked.{MeetsLock}
use Rattle.meaning.specs.Meaning.{Refers, Tells, TypesOver, Acts}
use Rattle.meaning.specs.State.{RunState}
use Rattle.meaning.specs.declared.system.SystemMessage.{SystemMessage}
use Rattle.object_references.specs.declared.referent.Referent.{Referent}
use Rattle.meaning.specs.declared.end.Stop.{Stop}
use Rattle.preservation.specs.Laws.{HasMemory, IsPrefix}
use Rattle.definitional_interpreter.specs.Turns.{sorts_of}
use Rattle.preservation.proofs.Going.{prefix_trans}
use Rattle.definitional_interpreter.proofs.Comes.{Kept, Sight, prefix_same}
use Rattle.definitional_interpreter.proofs.Outcomes.{acts_comes, refers_comes, tells_comes, types_over_comes}
use Rattle.session.specs.Meaning.{Moment, Fresh}
use Rattle.session.specs.declared.reply.Reply.{Reply}
use Rattle.session.proofs.Adding.{answered}
use Rattle.headline.specs.Answering.{is_quit}
use Rattle.headline.specs.Headline.{Snapshot, Timeline, IsPresent, Replaces, KeepsOut, at_cursor, LineMoves}
use Rattle.headline.specs.Saving.{SettlesHeard}
use Rattle.transcripts.specs.Laws.{HasKinds, Succeeds, Transcript}
use Rattle.transcripts.proofs.Kept.{of_each, of_joined, line_leads}
use Rattle.transcripts.proofs.OneDesk.{room_of_step}

-- each log has what it had
pub record Grows (old new : List Log) : Type 0 where
  pub count : length new ≡ length old
  pub logs : (i : ℕ) → IsPrefix (log_at old i) (log_at new i)

pub grows_same : {old new : List Log} → new ≡ old → Grows old new
grows_same {old} {new} same = record {
  count = ap length same;
  logs = λ i. prefix_same (log_at old i) (log_at new i)
      (ap (λ logs. log_at logs i) same);
}

pub grows_trans : {old mid new : List Log} → Grows old mid → Grows mid new → Grows old new
grows_trans {old} {mid} {new} first later = record {
  count = later.count ∙ first.count;
  logs = λ i. prefix_trans (log_at old i) (log_at mid i) (log_at new i)
      (first.logs i) (later.logs i);
}

-- ---- a command

-- a sight of nothing, by which a run keeps what it keeps
abbrev any_sight : Sight
any_sight = record { table = no_table; turns = λ i. []; old = [] }

pub fresh_kept : {old : Moment} {steps : ℕ} {does : Action} {reply : Reply} {new : Moment} →
    (fresh : Fresh old steps does reply new) → Kept fresh.begin fresh.end
fresh_kept fresh = (acts_comes {g = any_sight} fresh.runs.means (answered fresh.runs.ends)).kept

lock_kept : (w w2 : History) (r r2 : RunState) (does : Action) → MeetsLock w r does w2 r2 → Kept w w2
lock_kept w w2 r r2 (act.type_text text reference) (field, found, locked) =
    (refers_comes {g = any_sight} found (λ e. cc)).kept
lock_kept w w2 r r2 (act.run_lines ss) lock = absurd lock
lock_kept w w2 r r2 act.open_stack lock = absurd lock
lock_kept w w2 r r2 (act.click pa) lock = absurd lock

pub logs_kept : {w w2 : History} → Kept w w2 → Grows w.logs w2.logs
logs_kept kept = record { count = kept.count; logs = kept.logs }

pub acts_grow : {w w2 : History} {r r2 : RunState} {does : Action} {o : Result (Unit {0}) Stop} →
    Acts w r does o w2 r2 → HasMemory o → Grows w.logs w2.logs
acts_grow acts has = logs_kept (acts_comes {g = any_sight} acts has).kept

pub refers_grow : {w w2 : History} {r r2 : RunState} {pa : tree.Part} {o : Result ℕ Stop} →
    Refers w r pa o w2 r2 → HasMemory o → Grows w.logs w2.logs
refers_grow found has = logs_kept (refers_comes {g = any_sight} found has).kept

pub tells_grow : {w w2 : History} {r r2 : RunState} {i : ℕ} {message : SystemMessage} {o : Result (Unit {0}) Stop} →
    Tells w r i message o w2 r2 → HasMemory o → Grows w.logs w2.logs
tells_grow sent has = logs_kept (tells_comes {g = any_sight} sent has).kept

pub typing_grows : {w w2 : History} {r r2 : RunState} {m : Referent} {t : List ℕ} {o : Result (Unit {0}) Stop} →
    TypesOver w r m t o w2 r2 → HasMemory o → Grows w.logs w2.logs
typing_grows types has = logs_kept (types_over_comes {g = any_sight} types has).kept

pub lock_grows : (w w2 : History) (r r2 : RunState) (does : Action) → MeetsLock w r does w2 r2 →
    Grows w.logs w2.logs
lock_grows w w2 r r2 does lock = logs_kept (lock_kept w w2 r r2 does lock)

-- ---- a line

-- the kinds stay, and the logs grow
abbrev Goes : List ℕ → Timeline → Timeline → Type 0
Goes kinds old new = HasKinds kinds old → HasKinds kinds new × Grows old.logs new.logs

same_goes : (kinds : List ℕ) (t : Timeline) → Goes kinds t t
same_goes kinds t has = (has, grows_same refl)

moved_goes : (kinds : List ℕ) (t : Timeline) (place : ℕ) → place < length t.snapshots →
    Goes kinds t (at_cursor t place)
moved_goes kinds t place within has = (record { sorts = has.sorts; logs = has.logs }, grows_same refl)

done_goes : (kinds : List ℕ) (does : Action) (state : State) (old : Timeline) (reply : Reply) (new : Timeline) →
    Unit {0} → IsPresent state old → Replaces does state old reply new ⊎ KeepsOut does state old reply new →
    Goes kinds old new
done_goes kinds does state old reply new such here (inl a) has =
    let kept = fresh_kept a.allowed in
    let grown : Grows old.logs a.after.logs =
    subst (λ (m : Moment). Grows old.logs m.logs) (sym a.allowed.leaves)
    (subst (λ (m : Moment). Grows m.logs a.allowed.end.logs) a.allowed.here (logs_kept kept)) in
    let sorts : sorts_of a.after.state.externals ≡ kinds =
    ap (λ (m : Moment). sorts_of m.state.externals) a.allowed.leaves ∙ kept.kinds
    ∙ ap (λ (m : Moment). sorts_of m.state.externals) a.allowed.here
    ∙ of_each (λ (s : Snapshot). sorts_of s.state.externals ≡ kinds) old.snapshots old.cursor
    (record { state = state; number = here.0 }) has.sorts here.1 in
    subst (λ (t : Timeline). HasKinds kinds t × Grows old.logs t.logs) (sym a.list) (
      record {
        sorts = of_joined (λ (s : Snapshot). sorts_of s.state.externals ≡ kinds) old a.after has.sorts sorts;
        logs = grown.count ∙ has.logs;
      },
      grown,
    )
done_goes kinds does state old reply new such here (inr a) has =
    let kept = lock_kept a.locked.begin a.locked.end _ a.locked.run does a.locked.meets in
    let grown : Grows old.logs a.logs =
    subst (Grows old.logs) (sym a.locked.leaves)
    (subst (λ (m : Moment). Grows m.logs a.locked.end.logs) a.locked.here (logs_kept kept)) in
    subst (λ (t : Timeline). HasKinds kinds t × Grows old.logs t.logs) (sym a.refuses.same)
    (record { sorts = has.sorts; logs = grown.count ∙ has.logs }, grown)

pub step_goes : (kinds : List ℕ) (line : List ℕ) (old : Timeline × SeenDesk) (reply : Reply)
    (new : Timeline × SeenDesk) → Succeeds (SettlesHeard LineMoves) line old reply new → Goes kinds old.0 new.0
step_goes kinds line old reply new step has =
    line_leads (Goes kinds) (λ does. Unit {0}) (same_goes kinds) (moved_goes kinds) (done_goes kinds) line old.0
    (record reply { ending = step.taken.ending }) new.0 (λ short reading does. (λ reads. tt, λ reads. tt))
    (room_of_step step) step.taken.taken (record { sorts = has.sorts; logs = has.logs })

-- ---- all lines

pub transcript_goes : (kinds : List ℕ) (old : Timeline × SeenDesk) (lines : List (List ℕ)) (text : List ℕ)
    (new : Timeline × SeenDesk) → Transcript old lines text new → Goes kinds old.0 new.0
transcript_goes kinds old [] text new (written, left) has =
    subst (λ (t : Timeline × SeenDesk). HasKinds kinds t.0 × Grows old.0.logs t.0.logs) (sym left)
    (has, grows_same refl)
transcript_goes kinds old (line ∷ lines) text new (reply, mid, more, taken, is, rest) has =
    by_rest (is_quit reply.ending) rest (transcript_goes kinds mid lines more new)
  where
    here : HasKinds kinds mid.0 × Grows old.0.logs mid.0.logs
    here = step_goes kinds line old reply mid taken has

    by_rest : (quits : Bool) → MatchBool quits ((more ≡ []) × (new ≡ mid)) (Transcript mid lines more new) →
        (Transcript mid lines more new → Goes kinds mid.0 new.0) → HasKinds kinds new.0 × Grows old.0.logs new.0.logs
    by_rest true ended later =
        subst (λ (t : Timeline × SeenDesk). HasKinds kinds t.0 × Grows old.0.logs t.0.logs) (sym ended.1) here
    by_rest false rest later = let there = later rest here.0 in (there.0, grows_trans here.1 there.1)
