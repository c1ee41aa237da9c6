-- One more external in each state.
use Rattle.std.proofs.Common.{◌≡◌, ◌++◌, ℕ, List, [], ◌∷◌, map, take, drop, reverse, refl, sym, subst, ap, ◌∙◌, None}
use Rattle.std.proofs.Common.{false}
use Rattle.externals.specs.Cells.{Seen, IsExternal}
use Rattle.externals.specs.Log.{Log}
use Rattle.object_table.specs.Table.{Room}
use Rattle.journal_entries.specs.State.{State, has_name, titles_of}
use Rattle.journal_entries.specs.Exchange.{BatchView, shape_of, back, forth, weight, trail_of}
use Rattle.journal_entries.proofs.Going.{shaped, shape-back, shape-forth}
use Rattle.journal_entries.proofs.Plugging.{back-plugged, back_taken-plugged, forth-plugged, forth_taken-plugged}
use Rattle.change_journal.specs.History.{plugged, with_external, step_with_external}
use Rattle.change_journal.specs.Batches.{Journal, stamp_of, past_steps, future_steps, history_of, AllReady, IsSound}
use Rattle.change_journal.proofs.Ready.{AllReady-reverse, AllReady-take, AllReady-drop, AllReady-plugged}
use Rattle.change_journal.proofs.States.{IsHistory-plugged}

past-plugged : (room : Room) (names : List (List ℕ)) (oldest : ℕ) (s : State) (x : Seen) (bs : List BatchView)
    → AllReady (shaped room names s) bs
    → past_steps names oldest (with_external x s) bs ≡ map (step_with_external x) (past_steps names oldest s bs)
past-plugged room names oldest s x [] r = refl
past-plugged room names oldest s x (b ∷ bs) r =
    let state = back-plugged room names s x b.entries r.0 in
    let redo = ap weight (back_taken-plugged room names s x b.entries r.0) in
    let ready : AllReady (shaped room names (back names s b.entries)) bs =
    subst (λ h. AllReady h bs) (sym (shape-back room names s b.entries)) r.1 in
    let rest = ap (λ y. past_steps names oldest y bs) state
    ∙ past-plugged room names oldest (back names s b.entries) x bs ready in
    λ i. record {
      state = state i;
      stamp = stamp_of oldest bs;
      undo = weight b.entries;
      redo = redo i;
      trail = trail_of
          names b.entries;
    } ∷ rest i

future-plugged : (room : Room) (names : List (List ℕ)) (s : State) (x : Seen) (bs : List BatchView)
    → AllReady (shaped room names s) bs
    → future_steps names (with_external x s) bs ≡ map (step_with_external x) (future_steps names s bs)
future-plugged room names s x [] r = refl
future-plugged room names s x (b ∷ bs) r =
    let state = forth-plugged room names s x b.entries r.0 in
    let undo = ap weight (forth_taken-plugged room names s x b.entries r.0) in
    let ready : AllReady (shaped room names (forth names s b.entries)) bs =
    subst (λ h. AllReady h bs) (sym (shape-forth room names s b.entries)) r.1 in
    let rest =
    ap (λ y. future_steps names y bs) state ∙ future-plugged room names (forth names s b.entries) x bs ready in
    λ i. record {
      state = state i;
      stamp = b.number;
      undo = undo i;
      redo = weight b.entries;
      trail = trail_of names
          b.entries;
    } ∷ rest i

abbrev pub journal_plugged : Journal → Seen → Log → Journal
journal_plugged b x log = record b
    { present = record b.present { state = with_external x b.present.state; logs = b.present.logs ++ log ∷ [] } }

pub history-plugged : (b : Journal) (x : Seen) (log : Log) → AllReady (shape_of b.present) b.batches
    → history_of (journal_plugged b x log) None ≡ plugged (history_of b None) x log
history-plugged b x log ready =
    let h = b.present in
    let past = past-plugged h.room h.names b.oldest h.state x (reverse (take b.cursor b.batches))
    (AllReady-reverse (shape_of h) (take b.cursor b.batches)
    (AllReady-take (shape_of h) b.batches b.cursor ready)) in
    let future = future-plugged h.room h.names h.state x (drop b.cursor b.batches)
    (AllReady-drop (shape_of h) b.batches b.cursor ready) in
    λ i. record {
      past = past i;
      now = with_external x h.state;
      stamp = stamp_of b.oldest
          (reverse (take b.cursor b.batches));
      future =
          future i;
      start = None;
      depth = b.depth;
      logs = h.logs ++ log ∷ [];
    }

pub IsSound-plugged : (b : Journal) (room : ℕ) (x : Seen) (log : Log) → IsExternal x
    → has_name x.title (titles_of b.present.state.externals) ≡ false → IsSound b room None
    → IsSound (journal_plugged b x log) room None
IsSound-plugged b room x log known new sound = record {
  within = sound.within;
  few = sound.few;
  some = sound.some;
  ready = AllReady-plugged b.present.room b.present.names b.present.state x b.batches sound.ready;
  opened = tt;
  history = rw (history-plugged b x log sound.ready)
      (IsHistory-plugged (history_of b None) x log refl known new sound.history);
}
