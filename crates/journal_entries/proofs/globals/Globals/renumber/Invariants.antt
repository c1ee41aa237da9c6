use Rattle.std.proofs.Common.{◌≡◌, length, drop}
use Rattle.std.specs.FinMap.{from_entries}
use Rattle.std.specs.Cmp.Lexicographic.{slice_cmp}
use Rattle.std.specs.Ordering.{nat_cmp}
use Rattle.journal_entries.specs.Named.{entries_of}
use Rattle.journal_entries.proofs.Renumbered.{moved}
use Rattle.journal_entries.proofs.globals.Globals.renumber.Given as goal

abbrev pub invariant-loop-i : goal.invariant-loop-i
invariant-loop-i l = record {
  numbers : l.numbers.items ≡ l.fn.renumbering.numbers;
  names : l.globals.names ≡ l.fn.renumbering.names;
  texts : l.globals.texts
      ≡ from_entries {R = slice_cmp nat_cmp}
      (entries_of l.fn.self.names (moved l.i l.initial.self-inside.values.items));
  count : length l.self-inside.values.items ≡ length l.initial.self-inside.values.items;
  left : drop l.i l.self-inside.values.items ≡ drop l.i l.initial.self-inside.values.items;
}
