-- The cursor moves over a batch.
use Rattle.std.proofs.Common.{◌≡◌, ℕ, ◌+◌, ◌<◌, [], ◌∷◌, length, get_or, set, take, drop, reverse, sym, ap, ◌∙◌, arith}
use Rattle.std.proofs.Common.{None, length-set}
use Rattle.std.proofs.lemmas.List.{take-set, take_more, take_more_set, drop-set, drop_more, drop-set-lt, reverse-append}
use Rattle.journal_entries.specs.Exchange.{BatchView, shape_of, back, back_taken, forth, forth_taken, weight, trail_of}
use Rattle.journal_entries.specs.Exchange.{AreReady}
use Rattle.journal_entries.proofs.Going.{back-forth, back_taken-forth, forth-back, forth_taken-back, shape-back}
use Rattle.journal_entries.proofs.Going.{shape-forth, AreReady-back_taken, AreReady-forth_taken}
use Rattle.journal_entries.proofs.Weighing.{trail_of-back, trail_of-forth}
use Rattle.change_journal.specs.History.{Neighbour, flipped_back, flipped_forth}
use Rattle.change_journal.specs.Batches.{Journal, stamp_of, past_steps, future_steps, history_of, IsSound}
use Rattle.change_journal.proofs.Ready.{AllReady-get, AllReady-set}
use Rattle.change_journal.proofs.States.{IsHistory-flipped_back, IsHistory-flipped_forth}

-- the batch after the flip
abbrev pub batch_back : Journal → BatchView → BatchView
batch_back b batch = record batch { entries = back_taken b.present.names b.present.state batch.entries }

abbrev pub batch_forth : Journal → BatchView → BatchView
batch_forth b batch = record batch { entries = forth_taken b.present.names b.present.state batch.entries }

-- the journal with the cursor one batch before, and one batch after
abbrev pub journal_back : Journal → ℕ → BatchView → Journal
journal_back b j batch = record b {
  present = record b.present { state = back b.present.names b.present.state batch.entries };
  batches = set b.batches
      j (batch_back b batch);
  cursor = j;
}

abbrev pub journal_forth : Journal → BatchView → Journal
journal_forth b batch = record b {
  present = record b.present { state = forth b.present.names b.present.state batch.entries };
  batches = set
      b.batches b.cursor (batch_forth b batch);
  cursor = b.cursor + 1;
}

-- the batches that lead back, the nearest first
nearest : (b : Journal) (j : ℕ) (batch : BatchView) → b.cursor ≡ j + 1 → j < length b.batches
    → batch ≡ get_or b.batches j batch → reverse (take b.cursor b.batches) ≡ batch ∷ reverse (take j b.batches)
nearest b j batch n l e = rw (n, take_more b.batches j batch l, ← e) (reverse-append (take j b.batches) (batch ∷ []))

-- the step that the nearest batch stands for
abbrev step_back : Journal → ℕ → BatchView → Neighbour
step_back b j batch = record {
  state = back b.present.names b.present.state batch.entries;
  stamp = stamp_of b.oldest
      (reverse (take j b.batches));
  undo = weight batch.entries;
  redo = weight
      (back_taken b.present.names b.present.state batch.entries);
  trail = trail_of b.present.names batch.entries;
}

pub past_is : (b : Journal) (j : ℕ) (batch : BatchView) → b.cursor ≡ j + 1 → j < length b.batches
    → batch ≡ get_or b.batches j batch
    → (history_of b None).past ≡ step_back b j batch
    ∷ past_steps b.present.names b.oldest (back b.present.names b.present.state batch.entries)
    (reverse (take j b.batches))
past_is b j batch n l e = ap (past_steps b.present.names b.oldest b.present.state) (nearest b j batch n l e)

pub history-back : (b : Journal) (j : ℕ) (batch : BatchView) → b.cursor ≡ j + 1 → j < length b.batches
    → batch ≡ get_or b.batches j batch → AreReady (shape_of b.present) batch.entries
    → history_of (journal_back b j batch) None ≡ flipped_back (history_of b None)
history-back b j batch n l e ready =
    let names = b.present.names in
    let s = b.present.state in
    let t = back names s batch.entries in
    let new = batch_back b batch in
    let same = forth-back b.present.room names s batch.entries ready in
    let undo : weight (forth_taken names t new.entries) ≡ weight batch.entries =
    ap weight (forth_taken-back b.present.room names s batch.entries ready) in
    let trail : trail_of names new.entries ≡ trail_of names batch.entries = trail_of-back names s batch.entries in
    let behind : reverse (take j (set b.batches j new)) ≡ reverse (take j b.batches) =
    ap reverse (take-set b.batches j new) in
    let ahead : drop j (set b.batches j new) ≡ new ∷ drop b.cursor b.batches =
    drop-set b.batches j new l ∙ ap (λ k. new ∷ drop k b.batches) (sym n) in
    rw (behind, ahead, nearest b j batch n l e)
    (λ i. record {
      past = past_steps names b.oldest t (reverse (take j b.batches));
      now = t;
      stamp = stamp_of b.oldest (reverse (take j b.batches));
      future = record {
        state = same i;
        stamp = batch.number;
        undo = undo i;
        redo = weight new.entries;
        trail = trail i;
      } ∷ future_steps names (same i) (drop b.cursor b.batches);
      start = None;
      depth = b.depth;
      logs = b.present.logs;
    })

pub IsSound-back : (b : Journal) (j room : ℕ) (batch : BatchView) → b.cursor ≡ j + 1 → batch ≡ get_or b.batches j batch
    → IsSound b room None → IsSound (journal_back b j batch) room None
IsSound-back b j room batch n e sound =
    let h = b.present in
    let l : j < length b.batches = omega (arith, sound.within) in
    let ready = AllReady-get (shape_of h) b.batches j batch l e sound.ready in
    record {
      within = omega (arith, sound.within, length-set b.batches j (batch_back b batch));
      few = omega (arith, sound.few, length-set b.batches j (batch_back b batch));
      some = sound.some;
      ready = rw (shape-back h.room h.names h.state batch.entries)
          (AllReady-set (shape_of h) b.batches j (batch_back b batch)
          (AreReady-back_taken (shape_of h) h.names h.state batch.entries ready) sound.ready);
      opened = tt;
      history = rw (history-back b j batch n l e ready)
          (IsHistory-flipped_back (history_of b None) _ _ (past_is b j batch n l e) sound.history);
    }

-- the step that the next batch stands for
abbrev step_forth : Journal → BatchView → Neighbour
step_forth b batch = record {
  state = forth b.present.names b.present.state batch.entries;
  stamp = batch.number;
  undo =
      weight (forth_taken b.present.names b.present.state batch.entries);
  redo =
      weight batch.entries;
  trail = trail_of b.present.names batch.entries;
}

next : (b : Journal) (batch : BatchView) → b.cursor < length b.batches → batch ≡ get_or b.batches b.cursor batch
    → drop b.cursor b.batches ≡ batch ∷ drop (b.cursor + 1) b.batches
next b batch l e = drop_more b.batches b.cursor batch l ∙ ap (λ x. x ∷ drop (b.cursor + 1) b.batches) (sym e)

pub future_is : (b : Journal) (batch : BatchView) → b.cursor < length b.batches
    → batch ≡ get_or b.batches b.cursor batch
    → (history_of b None).future ≡ step_forth b batch
    ∷ future_steps b.present.names (forth b.present.names b.present.state batch.entries) (drop (b.cursor + 1) b.batches)
future_is b batch l e = ap (future_steps b.present.names b.present.state) (next b batch l e)

pub history-forth : (b : Journal) (batch : BatchView) → b.cursor < length b.batches
    → batch ≡ get_or b.batches b.cursor batch → AreReady (shape_of b.present) batch.entries
    → history_of (journal_forth b batch) None ≡ flipped_forth (history_of b None)
history-forth b batch l e ready =
    let names = b.present.names in
    let s = b.present.state in
    let t = forth names s batch.entries in
    let new = batch_forth b batch in
    let same = back-forth b.present.room names s batch.entries ready in
    let redo : weight (back_taken names t new.entries) ≡ weight batch.entries =
    ap weight (back_taken-forth b.present.room names s batch.entries ready) in
    let trail : trail_of names new.entries ≡ trail_of names batch.entries = trail_of-forth names s batch.entries in
    let behind : reverse (take (b.cursor + 1) (set b.batches b.cursor new)) ≡ new ∷ reverse (take b.cursor b.batches) =
    ap reverse (take_more_set b.batches b.cursor new l) ∙ reverse-append (take b.cursor b.batches) (new ∷ []) in
    let ahead : drop (b.cursor + 1) (set b.batches b.cursor new) ≡ drop (b.cursor + 1) b.batches =
    drop-set-lt (b.cursor + 1) b.batches b.cursor new (omega arith) in
    rw (behind, ahead, next b batch l e)
    (λ i. record {
      past = record {
        state = same i;
        stamp = stamp_of b.oldest (reverse (take b.cursor b.batches));
        undo = weight
            new.entries;
        redo =
            redo i;
        trail = trail i;
      } ∷ past_steps names b.oldest (same i) (reverse (take b.cursor b.batches));
      now = t;
      stamp = batch.number;
      future = future_steps names t (drop (b.cursor + 1) b.batches);
      start = None;
      depth = b.depth;
      logs = b.present.logs;
    })

pub IsSound-forth : (b : Journal) (room : ℕ) (batch : BatchView) → b.cursor < length b.batches
    → batch ≡ get_or b.batches b.cursor batch → IsSound b room None → IsSound (journal_forth b batch) room None
IsSound-forth b room batch l e sound =
    let h = b.present in
    let ready = AllReady-get (shape_of h) b.batches b.cursor batch l e sound.ready in
    record {
      within = omega (arith, length-set b.batches b.cursor (batch_forth b batch));
      few = omega (arith, sound.few, length-set b.batches b.cursor (batch_forth b batch));
      some = sound.some;
      ready = rw (shape-forth h.room h.names h.state batch.entries)
          (AllReady-set (shape_of h) b.batches b.cursor (batch_forth b batch)
          (AreReady-forth_taken (shape_of h) h.names h.state batch.entries ready) sound.ready);
      opened = tt;
      history = rw (history-forth b batch l e ready)
          (IsHistory-flipped_forth (history_of b None) _ _ (future_is b batch l e) sound.history);
    }
