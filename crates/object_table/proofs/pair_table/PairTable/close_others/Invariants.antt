use Rattle.std.proofs.Common.{◌≡◌, length}
use Rattle.object_table.specs.Opened.{values_in, open_in, StayOpen}
use Rattle.object_table.specs.Rows.{entries_of}
use Rattle.object_table.proofs.pair_table.PairTable.close_others.Given as goal

abbrev pub invariant-loop-place : goal.invariant-loop-place
invariant-loop-place g l = record {
  count : length l.self ≡ l.place-end;
  values : values_in (entries_of l.self) ≡ values_in (entries_of l.fn.self);
  room : StayOpen l.cards (open_in (entries_of l.fn.self)) (open_in (entries_of l.self));
}
