-- More names change no state of the history.
use Rattle.std.proofs.Common.{◌≡◌, ◌++◌, ℕ, ◌≤◌, List, [], ◌∷◌, length, take, drop, reverse, refl, sym, ap, ◌∙◌, arith}
use Rattle.std.proofs.Common.{Some, length-append}
use Rattle.journal_entries.specs.State.{State}
use Rattle.journal_entries.specs.Exchange.{PresentView, BatchView, Shape, shape_of, counts_of, back, back_taken, forth}
use Rattle.journal_entries.specs.Exchange.{weight, trail_of, AreReady}
use Rattle.journal_entries.specs.Turning.{Grows}
use Rattle.journal_entries.proofs.Growing.{back-more, back_taken-more, forth-more, forth_taken-more, trail_of-more}
use Rattle.journal_entries.proofs.Growing.{AreReady-wider}
use Rattle.change_journal.specs.Batches.{Journal, stamp_of, past_steps, future_steps, history_of, AllReady, IsSound}
use Rattle.change_journal.proofs.Ready.{AllReady-reverse, AllReady-take, AllReady-drop, AllReady-wider}

past-more : (names more : List (List ℕ)) (h : Shape) (oldest : ℕ) (s : State) (bs : List BatchView)
    → h.names ≡ length names → AllReady h bs → past_steps (names ++ more) oldest s bs ≡ past_steps names oldest s bs
past-more names more h oldest s [] n r = refl
past-more names more h oldest s (b ∷ bs) n r =
    let state = back-more names more h s b.entries n r.0 in
    let redo = ap weight (back_taken-more names more h s b.entries n r.0) in
    let trail = trail_of-more names more h b.entries n r.0 in
    let rest = ap (λ x. past_steps (names ++ more) oldest x bs) state
    ∙ past-more names more h oldest (back names s b.entries) bs n r.1 in
    λ i. record { state = state i; stamp = stamp_of oldest bs; undo = weight b.entries; redo = redo i; trail = trail i }
    ∷ rest i

future-more : (names more : List (List ℕ)) (h : Shape) (s : State) (bs : List BatchView) → h.names ≡ length names
    → AllReady h bs → future_steps (names ++ more) s bs ≡ future_steps names s bs
future-more names more h s [] n r = refl
future-more names more h s (b ∷ bs) n r =
    let state = forth-more names more h s b.entries n r.0 in
    let undo = ap weight (forth_taken-more names more h s b.entries n r.0) in
    let trail = trail_of-more names more h b.entries n r.0 in
    let rest = ap (λ x. future_steps (names ++ more) x bs) state
    ∙ future-more names more h (forth names s b.entries) bs n r.1 in
    λ i. record { state = state i; stamp = b.number; undo = undo i; redo = weight b.entries; trail = trail i } ∷ rest i

counts-grown : (h k : PresentView) → Grows h k → (shape_of h).counts ≡ (shape_of k).counts
counts-grown h k w = ap (λ s. counts_of s.externals) (sym w.state)

names-grown : (h k : PresentView) → Grows h k → length h.names ≤ length k.names
names-grown h k w = omega (arith, ap length w.names.1, length-append h.names w.names.0)

abbrev pub with_present : Journal → PresentView → Journal
with_present b k = record b { present = k }

-- the history stays
pub history-grown : (b : Journal) (k : PresentView) (batch : BatchView) → Grows b.present k
    → AllReady (shape_of b.present) b.batches → AreReady (shape_of b.present) batch.entries
    → history_of (with_present b k) (Some batch) ≡ history_of b (Some batch)
history-grown b k batch w ready opened =
    let h = b.present in
    let more = w.names.0 in
    let s = back h.names h.state batch.entries in
    let start : back k.names k.state batch.entries ≡ s = (λ i. back (w.names.1 i) (w.state i) batch.entries)
    ∙ back-more h.names more (shape_of h) h.state batch.entries refl opened in
    let redo : weight (back_taken k.names k.state batch.entries)
    ≡ weight (back_taken h.names h.state batch.entries) = (λ i. weight
    (back_taken (w.names.1 i) (w.state i) batch.entries))
    ∙ ap weight (back_taken-more h.names more (shape_of h) h.state batch.entries refl opened) in
    let trail : trail_of k.names batch.entries
    ≡ trail_of h.names batch.entries = (λ i. trail_of (w.names.1 i) batch.entries)
    ∙ trail_of-more h.names more (shape_of h) batch.entries refl opened in
    let behind = reverse (take b.cursor b.batches) in
    let ahead = drop b.cursor b.batches in
    let past : past_steps k.names b.oldest (back k.names k.state batch.entries) behind
    ≡ past_steps h.names b.oldest s behind =
    (λ i. past_steps (w.names.1 i) b.oldest (start i) behind)
    ∙ past-more h.names more (shape_of h) b.oldest s behind refl
    (AllReady-reverse (shape_of h) (take b.cursor b.batches)
    (AllReady-take (shape_of h) b.batches b.cursor ready)) in
    let future : future_steps k.names (back k.names k.state batch.entries) ahead ≡ future_steps h.names s ahead =
    (λ i. future_steps (w.names.1 i) (start i) ahead)
    ∙ future-more h.names more (shape_of h) s ahead refl (AllReady-drop (shape_of h) b.batches b.cursor ready) in
    λ i. record {
      past = past i;
      now = w.state i;
      stamp = stamp_of b.oldest behind;
      future = future i;
      start = Some
          (record {
            state = start i;
            number = batch.number;
            undo = weight batch.entries;
            redo = redo i;
            trail = trail i;
          });
      depth = b.depth;
      logs = w.logs i;
    }

pub AllReady-grown : (b : Journal) (k : PresentView) → Grows b.present k → AllReady (shape_of b.present) b.batches
    → AllReady (shape_of k) b.batches
AllReady-grown b k w ready = AllReady-wider (shape_of b.present) (shape_of k) b.batches (names-grown b.present k w)
    (counts-grown b.present k w) w.room ready

pub AreReady-grown : (h k : PresentView) (batch : BatchView) → Grows h k → AreReady (shape_of h) batch.entries
    → AreReady (shape_of k) batch.entries
AreReady-grown h k batch w ready =
    AreReady-wider (shape_of h) (shape_of k) batch.entries (names-grown h k w) (counts-grown h k w) w.room ready

pub IsSound-grown : (b : Journal) (k : PresentView) (room : ℕ) (batch : BatchView) → Grows b.present k
    → IsSound b room (Some batch) → IsSound (with_present b k) room (Some batch)
IsSound-grown b k room batch w sound = record {
  within = sound.within;
  few = sound.few;
  some = sound.some;
  ready = AllReady-grown b k w sound.ready;
  opened = (AreReady-grown b.present k batch w sound.opened.0, sound.opened.1);
  history = rw (history-grown b k batch w sound.ready sound.opened.0) sound.history;
}
