-- The steps that batches stand for: how many, and their numbers.
use Rattle.std.proofs.Common.{◌≡◌, ◌++◌, ℕ, zero, suc, ◌-◌, ◌<◌, ◌≤◌, List, [], ◌∷◌, length, get_or, map, take, drop}
use Rattle.std.proofs.Common.{reverse, refl, sym, ap, ◌∙◌, arith, Option, Some, None, length-take, length-drop}
use Rattle.std.proofs.lemmas.List.{length-reverse, get_or-reverse}
use Rattle.journal_entries.specs.State.{State}
use Rattle.journal_entries.specs.Exchange.{BatchView, back, forth}
use Rattle.change_journal.specs.History.{stamp_at}
use Rattle.change_journal.specs.Batches.{Journal, stamp_of, past_steps, future_steps, history_of}

pub length-past_steps : (names : List (List ℕ)) (oldest : ℕ) (s : State) (bs : List BatchView)
    → length (past_steps names oldest s bs) ≡ length bs
length-past_steps names oldest s [] = refl
length-past_steps names oldest s (b ∷ bs) = ap suc (length-past_steps names oldest (back names s b.entries) bs)

length-future_steps : (names : List (List ℕ)) (s : State) (bs : List BatchView)
    → length (future_steps names s bs) ≡ length bs
length-future_steps names s [] = refl
length-future_steps names s (b ∷ bs) = ap suc (length-future_steps names (forth names s b.entries) bs)

past_count : (b : Journal) (s : State) → b.cursor ≤ length b.batches
    → b.cursor ≡ length (past_steps b.present.names b.oldest s (reverse (take b.cursor b.batches)))
past_count b s h = omega (
  arith,
  length-past_steps b.present.names b.oldest s (reverse (take b.cursor b.batches)),
  length-reverse (take b.cursor b.batches),
  length-take b.cursor b.batches,
)

future_count : (b : Journal) (s : State)
    → length b.batches - b.cursor ≡ length (future_steps b.present.names s (drop b.cursor b.batches))
future_count b s =
    omega (arith, length-future_steps b.present.names s (drop b.cursor b.batches), length-drop b.cursor b.batches)

pub length-past : (b : Journal) (o : Option BatchView) → b.cursor ≤ length b.batches
    → b.cursor ≡ length (history_of b o).past
length-past b None w = past_count b b.present.state w
length-past b (Some batch) w = past_count b (back b.present.names b.present.state batch.entries) w

pub length-future : (b : Journal) (o : Option BatchView) → length b.batches - b.cursor ≡ length (history_of b o).future
length-future b None = future_count b b.present.state
length-future b (Some batch) = future_count b (back b.present.names b.present.state batch.entries)

-- no batch is open where there is no start
pub closed : (b : Journal) (o : Option BatchView) → (history_of b o).start ≡ None → o ≡ None
closed b None e = refl
closed b (Some batch) e = absurd cc

-- the number of a state is that of the batch that leads back from it, or the oldest
stamps : (names : List (List ℕ)) (oldest : ℕ) (s : State) (bs : List BatchView) (i : ℕ) → i ≤ length bs
    → get_or (stamp_of oldest bs ∷ map (λ step. step.stamp) (past_steps names oldest s bs)) i 0
    ≡ get_or (map (λ b. b.number) bs ++ oldest ∷ []) i 0
stamps names oldest s [] zero h = refl
stamps names oldest s [] (suc i) h = absurd (omega arith)
stamps names oldest s (b ∷ bs) zero h = refl
stamps names oldest s (b ∷ bs) (suc i) h = stamps names oldest (back names s b.entries) bs i (omega arith)

number-found : (bs : List BatchView) (oldest i : ℕ) (b : BatchView) → i < length bs → b ≡ get_or bs i b
    → get_or (map (λ x. x.number) bs ++ oldest ∷ []) i 0 ≡ b.number
number-found [] oldest i b l e = absurd (omega arith)
number-found (c ∷ bs) oldest zero b l e = ap (λ x. x.number) (sym e)
number-found (c ∷ bs) oldest (suc i) b l e = number-found bs oldest i b (omega arith) e

number-last : (bs : List BatchView) (oldest i : ℕ) → i ≡ length bs
    → get_or (map (λ x. x.number) bs ++ oldest ∷ []) i 0 ≡ oldest
number-last [] oldest i e = rw e refl
number-last (c ∷ bs) oldest zero e = absurd (omega arith)
number-last (c ∷ bs) oldest (suc i) e = number-last bs oldest i (omega arith)

stamp_around : (b : Journal) (s : State) (i : ℕ) → b.cursor ≤ length b.batches → i ≤ b.cursor
    → get_or (stamp_of b.oldest (reverse (take b.cursor b.batches))
    ∷ map (λ step. step.stamp) (past_steps b.present.names b.oldest s (reverse (take b.cursor b.batches)))) i 0
    ≡ get_or (map (λ x. x.number) (reverse (take b.cursor b.batches)) ++ b.oldest ∷ []) i 0
stamp_around b s i w h = stamps b.present.names b.oldest s (reverse (take b.cursor b.batches)) i
    (omega (arith, length-reverse (take b.cursor b.batches), length-take b.cursor b.batches))

stamp_is : (b : Journal) (o : Option BatchView) (i : ℕ) → b.cursor ≤ length b.batches → i ≤ b.cursor
    → stamp_at (history_of b o) i ≡ get_or (map (λ x. x.number) (reverse (take b.cursor b.batches)) ++ b.oldest ∷ []) i
    0
stamp_is b None i w h = stamp_around b b.present.state i w h
stamp_is b (Some batch) i w h = stamp_around b (back b.present.names b.present.state batch.entries) i w h

pub stamp_oldest : (b : Journal) (o : Option BatchView) (i : ℕ) → b.cursor ≤ length b.batches → i ≤ b.cursor
    → b.cursor ≤ i → b.oldest ≡ stamp_at (history_of b o) i
stamp_oldest b o i w h l = sym (stamp_is b o i w h
    ∙ number-last (reverse (take b.cursor b.batches)) b.oldest i
    (omega (arith, length-reverse (take b.cursor b.batches), length-take b.cursor b.batches)))

-- the batch i before the cursor
reverse-found : (bs : List BatchView) (i : ℕ) (b : BatchView) → i < length bs → b ≡ get_or bs (length bs - 1 - i) b
    → b ≡ get_or (reverse bs) i b
reverse-found bs i b l e = e ∙ sym (get_or-reverse bs i b l)

take-found : (bs : List BatchView) (k j : ℕ) (b : BatchView) → j < k → k ≤ length bs → b ≡ get_or bs j b
    → b ≡ get_or (take k bs) j b
take-found bs zero j b l w e = absurd (omega arith)
take-found [] (suc k) j b l w e = absurd (omega arith)
take-found (c ∷ bs) (suc k) zero b l w e = e
take-found (c ∷ bs) (suc k) (suc j) b l w e = take-found bs k j b (omega arith) (omega arith) e

pub stamp_found : (b : Journal) (o : Option BatchView) (i : ℕ) (batch : BatchView) → b.cursor ≤ length b.batches
    → i < b.cursor → batch ≡ get_or b.batches (b.cursor - 1 - i) batch → batch.number ≡ stamp_at (history_of b o) i
stamp_found b o i batch w h e =
    let n : length (take b.cursor b.batches) ≡ b.cursor = omega (arith, length-take b.cursor b.batches) in
    let there = take-found b.batches b.cursor (b.cursor - 1 - i) batch (omega arith) w e in
    let here : batch ≡ get_or (take b.cursor b.batches) (length (take b.cursor b.batches) - 1 - i) batch = rw n there in
    sym (stamp_is b o i w (omega arith)
    ∙ number-found (reverse (take b.cursor b.batches)) b.oldest i batch
    (omega (arith, length-reverse (take b.cursor b.batches), n))
    (reverse-found (take b.cursor b.batches) i batch (omega (arith, n)) here))
