use Rattle.std.proofs.Common.{◌≡◌, ◌+◌, ◌-◌, ◌≤◌, ◌++◌, length, take, drop, vec_len, vec_capacity}
use Rattle.journal_entries.specs.Changing.{kept_in_turn}
use Rattle.journal_entries.specs.Indexed.{IsIndexed}
use Rattle.journal_entries.specs.Exchange.{forth, shape_of, AreReady}
use Rattle.journal_entries.proofs.open_batch.exchange_each.Given as goal

-- the entries that are still to come make of what stands now what all of them make of what stood at first
abbrev pub invariant-loop-i : goal.invariant-loop-i
invariant-loop-i g l = record {
  within : l.i ≤ length l.entries.items;
  few : length l.entries.items ≤ length l.initial.entries.items;
  names : l.present.names ≡ l.initial.present.names;
  logs : l.present.logs ≡ l.initial.present.logs;
  room : l.present.room ≡ l.initial.present.room;
  ready : AreReady (shape_of l.present) (drop l.i l.entries.items);
  state : forth l.present.names l.present.state (drop l.i l.entries.items)
      ≡ forth l.initial.present.names l.initial.present.state l.initial.entries.items;
  entries : kept_in_turn l.present.names l.present.state (l.before ++ take l.i l.entries.items)
      (drop l.i l.entries.items)
      ≡ kept_in_turn l.initial.present.names l.initial.present.state l.before l.initial.entries.items;
  indexed : IsIndexed (l.before ++ take l.i l.entries.items) l.places;
  free : vec_len l.places.waiting + (length l.entries.items - l.i) ≤ vec_capacity l.places.waiting;
}

abbrev pub decreases-loop-i : goal.decreases-loop-i
decreases-loop-i g l = length l.entries.items - l.i
