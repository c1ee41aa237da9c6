-- New numbers for the names of globals change no state of the history.
use Rattle.std.proofs.Common.{◌≡◌, ◌++◌, ℕ, zero, suc, ◌+◌, ◌<◌, List, [], ◌∷◌, length, take, drop, reverse, get_or}
use Rattle.std.proofs.Common.{refl, sym, subst, ap, ◌∙◌, arith, None}
use Rattle.std.specs.List.{take-map, drop-map}
use Rattle.std.proofs.lemmas.List.{reverse-append, map-append, length-map, take_more, drop_more}
use Rattle.journal_entries.specs.State.{State}
use Rattle.journal_entries.specs.Exchange.{PresentView, BatchView, shape_of, back, forth}
use Rattle.journal_entries.specs.Renumbered.{RenumberingView, IsOf, IsMore, AreNeeded, batch_renumbered}
use Rattle.journal_entries.proofs.Renumbered.{with_names, back-renumbered, forth-renumbered, weight-renumbered}
use Rattle.journal_entries.proofs.Renumbered.{undo-renumbered, redo-renumbered, trail_of-renumbered}
use Rattle.journal_entries.proofs.Renumbered.{AreReady-renumbered, AreNeeded-more}
use Rattle.change_journal.specs.Batches.{Journal, stamp_of, past_steps, future_steps, history_of, AllReady, IsSound}
use Rattle.change_journal.specs.Batches.{AllNeeded, batches_renumbered}

stamp-renumbered : (r : RenumberingView) (oldest : ℕ) (bs : List BatchView)
    → stamp_of oldest (batches_renumbered r bs) ≡ stamp_of oldest bs
stamp-renumbered r oldest [] = refl
stamp-renumbered r oldest (b ∷ bs) = refl

past-renumbered : (names : List (List ℕ)) (r : RenumberingView) (oldest : ℕ) (s : State) (bs : List BatchView)
    → IsOf names r → AllNeeded r bs
    → past_steps r.names oldest s (batches_renumbered r bs) ≡ past_steps names oldest s bs
past-renumbered names r oldest s [] o q = refl
past-renumbered names r oldest s (b ∷ bs) o q =
    let state = back-renumbered names r s b.entries o q.0 in
    let stamp = stamp-renumbered r oldest bs in
    let undo = weight-renumbered r b.entries in
    let redo = undo-renumbered names r s b.entries o q.0 in
    let trail = trail_of-renumbered names r b.entries o q.0 in
    let rest = ap (λ x. past_steps r.names oldest x (batches_renumbered r bs)) state
    ∙ past-renumbered names r oldest (back names s b.entries) bs o q.1 in
    λ i. record { state = state i; stamp = stamp i; undo = undo i; redo = redo i; trail = trail i } ∷ rest i

future-renumbered : (names : List (List ℕ)) (r : RenumberingView) (s : State) (bs : List BatchView) → IsOf names r
    → AllNeeded r bs → future_steps r.names s (batches_renumbered r bs) ≡ future_steps names s bs
future-renumbered names r s [] o q = refl
future-renumbered names r s (b ∷ bs) o q =
    let state = forth-renumbered names r s b.entries o q.0 in
    let undo = redo-renumbered names r s b.entries o q.0 in
    let redo = weight-renumbered r b.entries in
    let trail = trail_of-renumbered names r b.entries o q.0 in
    let rest = ap (λ x. future_steps r.names x (batches_renumbered r bs)) state
    ∙ future-renumbered names r (forth names s b.entries) bs o q.1 in
    λ i. record { state = state i; stamp = b.number; undo = undo i; redo = redo i; trail = trail i } ∷ rest i

-- ---- which batches are needed

AllNeeded-take : (r : RenumberingView) (bs : List BatchView) (k : ℕ) → AllNeeded r bs → AllNeeded r (take k bs)
AllNeeded-take r [] zero q = tt
AllNeeded-take r [] (suc k) q = tt
AllNeeded-take r (b ∷ bs) zero q = tt
AllNeeded-take r (b ∷ bs) (suc k) q = (q.0, AllNeeded-take r bs k q.1)

AllNeeded-dropped : (r : RenumberingView) (bs : List BatchView) (k : ℕ) → AllNeeded r bs → AllNeeded r (drop k bs)
AllNeeded-dropped r [] zero q = tt
AllNeeded-dropped r [] (suc k) q = tt
AllNeeded-dropped r (b ∷ bs) zero q = q
AllNeeded-dropped r (b ∷ bs) (suc k) q = AllNeeded-dropped r bs k q.1

AllNeeded-push : (r : RenumberingView) (bs : List BatchView) (b : BatchView) → AllNeeded r bs → AreNeeded r b.entries
    → AllNeeded r (bs ++ b ∷ [])
AllNeeded-push r [] b q n = (n, tt)
AllNeeded-push r (c ∷ bs) b q n = (q.0, AllNeeded-push r bs b q.1 n)

AllNeeded-reverse : (r : RenumberingView) (bs : List BatchView) → AllNeeded r bs → AllNeeded r (reverse bs)
AllNeeded-reverse r [] q = tt
AllNeeded-reverse r (b ∷ bs) q =
    rw (reverse-append (b ∷ []) bs) (AllNeeded-push r (reverse bs) b (AllNeeded-reverse r bs q.1) q.0)

AllNeeded-more : (r k : RenumberingView) (bs : List BatchView) → IsMore r k → AllNeeded r bs → AllNeeded k bs
AllNeeded-more r k [] m q = tt
AllNeeded-more r k (b ∷ bs) m q = (AreNeeded-more r k b.entries m q.0, AllNeeded-more r k bs m q.1)

-- one step of the loop that needs each
pub need_step : (r k : RenumberingView) (bs : List BatchView) (i : ℕ) (x : BatchView) → i < length bs
    → x ≡ get_or bs i x → IsMore r k → AllNeeded r (take i bs) → AreNeeded k x.entries → AllNeeded k (take (i + 1) bs)
need_step r k bs i x h e m q n =
    rw (take_more bs i x h, ← e) (AllNeeded-push k (take i bs) x (AllNeeded-more r k (take i bs) m q) n)

pub AllNeeded-drop : (r : RenumberingView) (bs : List BatchView) (i : ℕ) (x : BatchView) → i < length bs
    → x ≡ get_or bs i x → AllNeeded r (drop i bs) → AreNeeded r x.entries × AllNeeded r (drop (i + 1) bs)
AllNeeded-drop r bs i x l e q =
    subst (λ xs. AllNeeded r xs) (drop_more bs i x l ∙ ap (λ y. y ∷ drop (i + 1) bs) (sym e)) q

-- ---- the journal

reversed : (r : RenumberingView) (bs : List BatchView)
    → reverse (batches_renumbered r bs) ≡ batches_renumbered r (reverse bs)
reversed r [] = refl
reversed r (b ∷ bs) = reverse-append (batch_renumbered r b ∷ []) (batches_renumbered r bs)
    ∙ ap (λ xs. xs ++ batch_renumbered r b ∷ []) (reversed r bs)
    ∙ sym (map-append (batch_renumbered r) (reverse bs) (b ∷ []))
    ∙ ap (batches_renumbered r) (sym (reverse-append (b ∷ []) bs))

-- the journal with the new numbers
abbrev pub renumbered : Journal → RenumberingView → Journal
renumbered b r = record b { present = with_names b.present r; batches = batches_renumbered r b.batches }

pub history-renumbered : (b : Journal) (r : RenumberingView) → IsOf b.present.names r → AllNeeded r b.batches
    → history_of (renumbered b r) None ≡ history_of b None
history-renumbered b r o q =
    let behind : reverse (take b.cursor (batches_renumbered r b.batches))
    ≡ batches_renumbered r (reverse (take b.cursor b.batches)) =
    ap reverse (take-map (batch_renumbered r) b.cursor b.batches) ∙ reversed r (take b.cursor b.batches) in
    let ahead : drop b.cursor (batches_renumbered r b.batches) ≡ batches_renumbered r (drop b.cursor b.batches) =
    drop-map (batch_renumbered r) b.cursor b.batches in
    let past = ap (past_steps r.names b.oldest b.present.state) behind
    ∙ past-renumbered b.present.names r b.oldest b.present.state (reverse (take b.cursor b.batches)) o
    (AllNeeded-reverse r (take b.cursor b.batches) (AllNeeded-take r b.batches b.cursor q)) in
    let stamp = ap (stamp_of b.oldest) behind ∙ stamp-renumbered r b.oldest (reverse (take b.cursor b.batches)) in
    let future = ap (future_steps r.names b.present.state) ahead
    ∙ future-renumbered b.present.names r b.present.state (drop b.cursor b.batches) o
    (AllNeeded-dropped r b.batches b.cursor q) in
    λ i. record {
      past = past i;
      now = b.present.state;
      stamp = stamp i;
      future = future i;
      start = None;
      depth = b.depth;
      logs = b.present.logs;
    }

AllReady-renumbered : (h : PresentView) (r : RenumberingView) (bs : List BatchView) → IsOf h.names r → AllNeeded r bs
    → AllReady (shape_of h) bs → AllReady (shape_of (with_names h r)) (batches_renumbered r bs)
AllReady-renumbered h r [] o q d = tt
AllReady-renumbered h r (b ∷ bs) o q d =
    (AreReady-renumbered h r b.entries o q.0 d.0, AllReady-renumbered h r bs o q.1 d.1)

pub IsSound-renumbered : (b : Journal) (r : RenumberingView) (room more : ℕ) → IsOf b.present.names r
    → AllNeeded r b.batches → IsSound b room None → IsSound (renumbered b r) more None
IsSound-renumbered b r room more o q sound =
    let same = length-map b.batches (batch_renumbered r) in
    record {
      within = omega (arith, sound.within, same);
      few = omega (arith, sound.few, same);
      some = sound.some;
      ready = AllReady-renumbered b.present r b.batches o q sound.ready;
      opened = tt;
      history = rw (history-renumbered b r o q) sound.history;
    }
