-- The open batch leads back from a new state.
use Rattle.std.proofs.Common.{◌≡◌, ◌++◌, ℕ, ◌+◌, ◌<◌, ◌≤◌, true, false, nat_lt, if◌then◌else◌, List, [], ◌∷◌, length}
use Rattle.std.proofs.Common.{take, drop, reverse, refl, sym, ap, ◌∙◌, arith, Some, None, length-take, length-append}
use Rattle.std.proofs.lemmas.List.{reverse-append, length-reverse, take_all, drop_all}
use Rattle.std.proofs.lemmas.Bool.{ltb-true, ltb-false}
use Rattle.journal_entries.specs.State.{State}
use Rattle.journal_entries.specs.Exchange.{BatchView, shape_of, back, weight, back_taken, trail_of}
use Rattle.change_journal.specs.History.{committed}
use Rattle.change_journal.specs.Batches.{Journal, stamp_of, past_steps, future_steps, open_of, history_of, newest}
use Rattle.change_journal.specs.Batches.{oldest_of, AllReady, IsSound}
use Rattle.change_journal.proofs.Ready.{AllReady-take, AllReady-drop, AllReady-push}
use Rattle.change_journal.proofs.Steps.{length-past_steps}
use Rattle.change_journal.proofs.States.{IsHistory-committed}

-- the batches that lead back to the state before the open one, and then the open one
abbrev with_batch : Journal → BatchView → List BatchView
with_batch b batch = take b.cursor b.batches ++ batch ∷ []

abbrev pub journal_committed : Journal → BatchView → Journal
journal_committed b batch = record b {
  oldest = oldest_of b.depth b.oldest (take b.cursor b.batches ++ batch ∷ []);
  batches = newest b.depth
      (take b.cursor b.batches ++ batch ∷ []);
  cursor = length (newest b.depth (take b.cursor b.batches ++ batch ∷ []));
}

-- without the oldest batch the oldest state is missing
popped : (names : List (List ℕ)) (oldest : ℕ) (s : State) (bs : List BatchView) (first : BatchView)
    → past_steps names first.number s bs ≡ take (length bs) (past_steps names oldest s (bs ++ first ∷ []))
popped names oldest s [] first = refl
popped names oldest s (b ∷ bs) first =
    let stamp = stamps bs in
    let rest = popped names oldest (back names s b.entries) bs first in
    λ i. record {
      state = back names s b.entries;
      stamp = stamp i;
      undo = weight b.entries;
      redo = weight
          (back_taken names s b.entries);
      trail = trail_of names b.entries;
    } ∷ rest i
  where
    stamps : (cs : List BatchView) → stamp_of first.number cs ≡ stamp_of oldest (cs ++ first ∷ [])
    stamps [] = refl
    stamps (c ∷ cs) = refl

stamp-popped : (oldest : ℕ) (bs : List BatchView) (first : BatchView)
    → stamp_of first.number bs ≡ stamp_of oldest (bs ++ first ∷ [])
stamp-popped oldest [] first = refl
stamp-popped oldest (b ∷ bs) first = refl

-- whether the oldest falls away or not, as many states stand before the cursor as there are batches
abbrev Keeps : Journal → List BatchView → ℕ → List BatchView → Type 0
Keeps b all oldest kept = (past_steps b.present.names oldest b.present.state (reverse (take (length kept) kept))
    ≡ take b.depth (past_steps b.present.names b.oldest b.present.state (reverse all)))
    × (stamp_of oldest (reverse (take (length kept) kept)) ≡ stamp_of b.oldest (reverse all))
    × (drop (length kept) kept ≡ []) × (length kept ≤ b.depth)

keeps-all : (b : Journal) (all : List BatchView) → length all ≤ b.depth → Keeps b all b.oldest all
keeps-all b all h =
    let whole : take (length all) all ≡ all = take_all (length all) all (omega arith) in
    let steps = past_steps b.present.names b.oldest b.present.state (reverse all) in
    let fits : length steps ≤ b.depth =
    omega (arith, length-past_steps b.present.names b.oldest b.present.state (reverse all), length-reverse all) in (
      ap (λ xs. past_steps b.present.names b.oldest b.present.state (reverse xs)) whole
          ∙ sym (take_all b.depth steps fits),
      ap (λ xs. stamp_of b.oldest (reverse xs)) whole,
      drop_all (length all) all
          (omega arith),
      h,
    )

keeps-newest : (b : Journal) (first : BatchView) (rest : List BatchView) → length rest ≡ b.depth
    → Keeps b (first ∷ rest) first.number rest
keeps-newest b first rest n =
    let whole : take (length rest) rest ≡ rest = take_all (length rest) rest (omega arith) in
    let turned : reverse (first ∷ rest) ≡ reverse rest ++ first ∷ [] = reverse-append (first ∷ []) rest in
    let many : length (reverse rest) ≡ b.depth = length-reverse rest ∙ n in (
      ap (λ xs. past_steps b.present.names first.number b.present.state (reverse xs)) whole
          ∙ popped b.present.names b.oldest b.present.state (reverse rest) first
          ∙ (λ i. take (many i) (past_steps b.present.names b.oldest b.present.state (sym turned i))),
      ap (λ xs. stamp_of first.number (reverse xs)) whole ∙ stamp-popped b.oldest (reverse rest) first
          ∙ ap (stamp_of b.oldest) (sym turned),
      drop_all (length rest) rest (omega arith),
      omega arith,
    )

keeps : (b : Journal) (all : List BatchView) → 0 < length all → length all ≤ b.depth + 1
    → Keeps b all (oldest_of b.depth b.oldest all) (newest b.depth all)
keeps b [] some few = absurd (omega arith)
keeps b (first ∷ rest) some few =
    elim (nat_lt b.depth (length (first ∷ rest)))
    as (λ t. nat_lt b.depth (length (first ∷ rest)) ≡ t
    → Keeps b (first ∷ rest) (if t then first.number else b.oldest) (if t then rest else first ∷ rest)) [
      | true ↦ λ e. keeps-newest b first rest (omega (arith, ltb-true b.depth (length (first ∷ rest)) e))
      | false ↦ λ e. keeps-all b (first ∷ rest) (omega (arith, ltb-false b.depth (length (first ∷ rest)) e))
    ] refl

few-with : (b : Journal) (batch : BatchView) → b.cursor ≤ length b.batches → length b.batches ≤ b.depth
    → length (with_batch b batch) ≤ b.depth + 1
few-with b batch w f =
    omega (arith, length-append (take b.cursor b.batches) (batch ∷ []), length-take b.cursor b.batches)

kept-with : (b : Journal) (batch : BatchView) → b.cursor ≤ length b.batches → length b.batches ≤ b.depth
    → Keeps b (with_batch b batch) (oldest_of b.depth b.oldest (with_batch b batch))
    (newest b.depth (with_batch b batch))
kept-with b batch w f = keeps b (with_batch b batch)
    (omega (arith, length-append (take b.cursor b.batches) (batch ∷ []))) (few-with b batch w f)

pub history-committed : (b : Journal) (batch : BatchView) → b.cursor ≤ length b.batches → length b.batches ≤ b.depth
    → history_of (journal_committed b batch) None ≡ committed (history_of b (Some batch))
history-committed b batch w f =
    let k = kept-with b batch w f in
    let turned : reverse (with_batch b batch) ≡ batch ∷ reverse (take b.cursor b.batches) =
    reverse-append (take b.cursor b.batches) (batch ∷ []) in
    let past = k.0 ∙ ap (λ xs. take b.depth (past_steps b.present.names b.oldest b.present.state xs)) turned in
    let stamp = k.1 ∙ ap (stamp_of b.oldest) turned in
    let future = ap (future_steps b.present.names b.present.state) k.2 in
    λ i. record {
      past = past i;
      now = b.present.state;
      stamp = stamp i;
      future = future i;
      start = None;
      depth =
          b.depth;
      logs = b.present.logs;
    }

pub IsSound-committed : (b : Journal) (room more : ℕ) (batch : BatchView) → IsSound b room (Some batch)
    → IsSound (journal_committed b batch) more None
IsSound-committed b room more batch sound =
    let k = kept-with b batch sound.within sound.few in
    record {
      within = omega arith;
      few = k.3;
      some = sound.some;
      ready = ready-newest (AllReady-push (shape_of b.present) (take b.cursor b.batches) batch
          (AllReady-take (shape_of b.present) b.batches b.cursor sound.ready) sound.opened.0);
      opened = tt;
      history = rw (history-committed b batch sound.within sound.few)
          (IsHistory-committed (history_of b (Some batch)) (open_of b.present.names b.present.state batch) refl
          sound.history);
    }
  where
    ready-newest : AllReady (shape_of b.present) (with_batch b batch)
        → AllReady (shape_of b.present) (newest b.depth (with_batch b batch))
    ready-newest r = elim (nat_lt b.depth (length (with_batch b batch)))
        as (λ t. AllReady (shape_of b.present) (if t then drop 1 (with_batch b batch) else with_batch b batch))
        [ true ↦ AllReady-drop (shape_of b.present) (with_batch b batch) 1 r | false ↦ r ]
