-- Room that no batch needs may go.
use Rattle.std.proofs.Common.{◌≡◌, ◌<◌, ◌++◌, ◌+◌, ℕ, List, [], ◌∷◌, length, take, get_or, None}
use Rattle.std.specs.BTreeSet.{BTreeSet}
use Rattle.std.proofs.lemmas.List.{take_more}
use Rattle.object_table.specs.Table.{Room, KeepsRoom}
use Rattle.journal_entries.specs.Cards.{AreAmong, HasAll, with_room}
use Rattle.journal_entries.specs.Exchange.{PresentView, BatchView, shape_of}
use Rattle.journal_entries.proofs.Rooms.{AreReady-kept, AreAmong-more}
use Rattle.change_journal.specs.Batches.{Journal, AllReady, AllAmong, IsSound}

AllAmong-more : (old new : BTreeSet ℕ) (bs : List BatchView) → HasAll old new → AllAmong old bs → AllAmong new bs
AllAmong-more old new [] all are = tt
AllAmong-more old new (b ∷ bs) all are = (AreAmong-more old new b.entries all are.0, AllAmong-more old new bs all are.1)

AllAmong-push : (cards : BTreeSet ℕ) (bs : List BatchView) (b : BatchView) → AllAmong cards bs
    → AreAmong cards b.entries → AllAmong cards (bs ++ b ∷ [])
AllAmong-push cards [] b are is = (is, tt)
AllAmong-push cards (x ∷ bs) b are is = (are.0, AllAmong-push cards bs b are.1 is)

-- one step of the loop that adds the cards of each
pub among_step : (old new : BTreeSet ℕ) (bs : List BatchView) (i : ℕ) (x : BatchView) → i < length bs
    → x ≡ get_or bs i x → HasAll old new → AllAmong old (take i bs) → AreAmong new x.entries
    → AllAmong new (take (i + 1) bs)
among_step old new bs i x h e all are is =
    rw (take_more bs i x h, ← e) (AllAmong-push new (take i bs) x (AllAmong-more old new (take i bs) all are) is)

AllReady-kept : (cards : BTreeSet ℕ) (h : PresentView) (new : Room) (bs : List BatchView) → KeepsRoom cards h.room new
    → AllAmong cards bs → AllReady (shape_of h) bs → AllReady (shape_of (with_room h new)) bs
AllReady-kept cards h new [] keeps among are = tt
AllReady-kept cards h new (b ∷ bs) keeps among are =
    (AreReady-kept cards h new b.entries keeps among.0 are.0, AllReady-kept cards h new bs keeps among.1 are.1)

-- the journal with other room of its stack
abbrev pub with_stack_room : Journal → Room → Journal
with_stack_room b room = record b { present = with_room b.present room }

pub IsSound-kept : (cards : BTreeSet ℕ) (b : Journal) (new : Room) (room more : ℕ)
    → KeepsRoom cards b.present.room new → AllAmong cards b.batches → IsSound b room None
    → IsSound (with_stack_room b new) more None
IsSound-kept cards b new room more keeps among sound = record {
  within = sound.within;
  few = sound.few;
  some = sound.some;
  ready = AllReady-kept cards b.present new b.batches keeps among sound.ready;
  opened = tt;
  history = sound.history;
}
