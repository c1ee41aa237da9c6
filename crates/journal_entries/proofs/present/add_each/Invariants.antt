use Rattle.std.proofs.Common.{◌≡◌, ◌+◌, ◌≤◌, ◌++◌, length, map, vec_len, vec_capacity}
use Rattle.std.specs.Vec.Iter.{into_iter_items, into_iter_len}
use Rattle.journal_entries.specs.declared.entry.Entry.TheVariants.{Stack}
use Rattle.journal_entries.proofs.present.add_each.Given as goal

abbrev pub invariant-loop-entry : goal.invariant-loop-entry
invariant-loop-entry l = record {
  each : l.yielded ++ into_iter_items l.entry-iterator ≡ into_iter_items l.initial.entry-iterator;
  count : into_iter_len l.entry-iterator ≡ length (into_iter_items l.entry-iterator);
  items : l.entries.items ≡ l.initial.entries.items ++ map (λ e. Stack e) l.yielded;
  room : vec_len l.entries + length (into_iter_items l.entry-iterator) ≤ vec_capacity l.entries;
}
