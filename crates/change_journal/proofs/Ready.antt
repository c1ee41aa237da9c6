-- Batches whose entries are ready.
use Rattle.std.proofs.Common.{◌≡◌, ◌++◌, ℕ, zero, suc, ◌<◌, ◌≤◌, List, [], ◌∷◌, length, get_or, set, take, drop}
use Rattle.std.proofs.Common.{reverse, arith}
use Rattle.std.proofs.lemmas.List.{reverse-append}
use Rattle.externals.specs.Cells.{Seen}
use Rattle.object_table.specs.Table.{Room}
use Rattle.stack_places.specs.Exchange.{IsWider}
use Rattle.journal_entries.specs.State.{State}
use Rattle.journal_entries.specs.Exchange.{Shape, BatchView, AreReady}
use Rattle.journal_entries.proofs.Growing.{AreReady-wider}
use Rattle.journal_entries.proofs.Going.{shaped}
use Rattle.journal_entries.proofs.Plugging.{AreReady-plugged}
use Rattle.change_journal.specs.Batches.{AllReady}

pub AllReady-get : (h : Shape) (bs : List BatchView) (i : ℕ) (b : BatchView) → i < length bs → b ≡ get_or bs i b
    → AllReady h bs → AreReady h b.entries
AllReady-get h [] i b l e r = absurd (omega arith)
AllReady-get h (c ∷ bs) zero b l e r = rw e r.0
AllReady-get h (c ∷ bs) (suc i) b l e r = AllReady-get h bs i b (omega arith) e r.1

pub AllReady-set : (h : Shape) (bs : List BatchView) (i : ℕ) (b : BatchView) → AreReady h b.entries → AllReady h bs
    → AllReady h (set bs i b)
AllReady-set h [] i b q r = tt
AllReady-set h (c ∷ bs) zero b q r = (q, r.1)
AllReady-set h (c ∷ bs) (suc i) b q r = (r.0, AllReady-set h bs i b q r.1)

pub AllReady-take : (h : Shape) (bs : List BatchView) (k : ℕ) → AllReady h bs → AllReady h (take k bs)
AllReady-take h [] zero r = tt
AllReady-take h [] (suc k) r = tt
AllReady-take h (b ∷ bs) zero r = tt
AllReady-take h (b ∷ bs) (suc k) r = (r.0, AllReady-take h bs k r.1)

pub AllReady-drop : (h : Shape) (bs : List BatchView) (k : ℕ) → AllReady h bs → AllReady h (drop k bs)
AllReady-drop h [] zero r = tt
AllReady-drop h [] (suc k) r = tt
AllReady-drop h (b ∷ bs) zero r = r
AllReady-drop h (b ∷ bs) (suc k) r = AllReady-drop h bs k r.1

pub AllReady-push : (h : Shape) (bs : List BatchView) (b : BatchView) → AllReady h bs → AreReady h b.entries
    → AllReady h (bs ++ b ∷ [])
AllReady-push h [] b r q = (q, tt)
AllReady-push h (c ∷ bs) b r q = (r.0, AllReady-push h bs b r.1 q)

pub AllReady-reverse : (h : Shape) (bs : List BatchView) → AllReady h bs → AllReady h (reverse bs)
AllReady-reverse h [] r = tt
AllReady-reverse h (b ∷ bs) r =
    rw (reverse-append (b ∷ []) bs) (AllReady-push h (reverse bs) b (AllReady-reverse h bs r.1) r.0)

pub AllReady-wider : (h k : Shape) (bs : List BatchView) → h.names ≤ k.names → h.counts ≡ k.counts
    → IsWider h.room k.room → AllReady h bs → AllReady k bs
AllReady-wider h k [] n c w q = tt
AllReady-wider h k (b ∷ bs) n c w q = (AreReady-wider h k b.entries n c w q.0, AllReady-wider h k bs n c w q.1)

pub AllReady-plugged : (room : Room) (names : List (List ℕ)) (s : State) (x : Seen) (bs : List BatchView)
    → AllReady (shaped room names s) bs
    → AllReady (shaped room names (record s { externals = s.externals ++ x ∷ [] })) bs
AllReady-plugged room names s x [] r = tt
AllReady-plugged room names s x (b ∷ bs) r =
    (AreReady-plugged room names s x b.entries r.0, AllReady-plugged room names s x bs r.1)
