use Rattle.std.proofs.Common.{◌≡◌, ◌||◌, take}
use Rattle.std.specs.BTreeSet.{contains}
use Rattle.std.specs.List.{list_any}
use Rattle.journal_entries.specs.SameKey.{same_key, key_cmp}
use Rattle.journal_entries.specs.declared.place_key.PlaceKey.{PlaceKey}
use Rattle.journal_entries.proofs.place_set.PlaceSet.sort.Given as goal

-- those that came before are sorted
abbrev pub invariant-loop-i : goal.invariant-loop-i
invariant-loop-i l = record {
  sorted : (q : PlaceKey) → contains key_cmp l.self.sorted q
      ≡ contains key_cmp l.initial.self.sorted q || list_any (λ k. same_key k q) (take l.i l.self.waiting.items);
  waiting : l.self.waiting ≡ l.initial.self.waiting;
  greatest : l.self.greatest ≡ l.initial.self.greatest;
}
