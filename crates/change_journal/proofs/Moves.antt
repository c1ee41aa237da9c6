-- A batch that begins and one that is given up.
use Rattle.std.proofs.Common.{◌≡◌, ◌++◌, ℕ, suc, ◌+◌, ◌<◌, List, [], ◌∷◌, length, take, drop, refl, arith, Option}
use Rattle.std.proofs.Common.{Some, None, option_map, if◌then◌else◌, true, false}
use Rattle.journal_entries.specs.State.{index_of}
use Rattle.ht_values.specs.Text.{same}
use Rattle.journal_entries.specs.Exchange.{BatchView, back}
use Rattle.journal_entries.proofs.Going.{shape-back}
use Rattle.change_journal.specs.Batches.{Journal, open_of, history_of, IsSound}
use Rattle.change_journal.proofs.States.{IsHistory-rolled_back, IsHistory-unplugged}

-- the state that the open batch leads back to
abbrev pub gone_back : Journal → BatchView → Journal
gone_back b batch =
    record b { present = record b.present { state = back b.present.names b.present.state batch.entries } }

pub IsSound-rolled_back : (b : Journal) (room : ℕ) (batch : BatchView) → IsSound b room (Some batch)
    → IsSound (gone_back b batch) room None
IsSound-rolled_back b room batch sound = record {
  within = sound.within;
  few = sound.few;
  some = sound.some;
  ready = rw (shape-back b.present.room b.present.names b.present.state batch.entries) sound.ready;
  opened = tt;
  history = IsHistory-rolled_back (history_of b (Some batch)) (open_of b.present.names b.present.state batch) refl
      sound.history;
}

-- the present state alone, without an external
abbrev pub journal_unplugged : Journal → ℕ → ℕ → Journal
journal_unplugged b oldest i = record b {
  present = record b.present {
    state = record b.present.state
        { externals = take i b.present.state.externals ++ drop (i + 1) b.present.state.externals };
    logs =
        take i b.present.logs ++ drop (i + 1) b.present.logs;
  };
  oldest = oldest;
  batches = [];
  cursor = 0;
}

pub IsSound-unplugged : (b : Journal) (room more oldest i : ℕ) → IsSound b room None
    → IsSound (journal_unplugged b oldest i) more None
IsSound-unplugged b room more oldest i sound =
    let alone = IsHistory-unplugged (history_of b None) (Some i) sound.history in
    record {
      within = omega arith;
      few = omega arith;
      some = sound.some;
      ready = tt;
      opened = tt;
      history = record { titles = alone.titles; past = tt; now = alone.now; future = tt; start = tt };
    }

first-within : (k i n : ℕ) → Some k ≡ Some i → k ≡ 0 → i < suc n
first-within k i n q z = let s : k ≡ i = cc in omega (arith, s)

later-within : (o : Option ℕ) (i n : ℕ) → ((k : ℕ) → o ≡ Some k → k < n) → option_map suc o ≡ Some i → i < suc n
later-within None i n h q = let none : None ≡ Some i → ⊥ = λ x. cc in absurd (none q)
later-within (Some k) i n h q = let s : suc k ≡ i = cc in omega (arith, s, h k refl)

pub index-within : (n : List ℕ) (ts : List (List ℕ)) (i : ℕ) → index_of n ts ≡ Some i → i < length ts
index-within n [] i e = let none : None ≡ Some i → ⊥ = λ q. cc in absurd (none e)
index-within n (t ∷ ts) i e =
    elim (same t n) as (λ b. (if b then Some 0 else option_map suc (index_of n ts)) ≡ Some i → i < suc (length ts)) [
      | true ↦ λ q. first-within 0 i (length ts) q refl
      | false ↦ λ q. later-within (index_of n ts) i (length ts) (λ k h. index-within n ts k h) q
    ] e
