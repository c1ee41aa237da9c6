use Rattle.std.proofs.Common.{◌≡◌, ℕ, ◌+◌, ◌-◌, ◌≤◌, cond, length, take, vec_len, vec_capacity}
use Rattle.object_table.specs.Objects.{contains_id}
use Rattle.object_table.specs.Rows.{entry_at, ids_in, AreRising, opened_at}
use Rattle.object_table.proofs.row.open_each_in.Given as goal

abbrev pub invariant-loop-part : goal.invariant-loop-part
invariant-loop-part g l = record {
  rising : AreRising (ids_in l.places.items);
  room : vec_len l.places + (length l.parts - l.part-index) ≤ vec_capacity l.places;
  entries : (c : ℕ) → entry_at l.places.items c ≡ cond (contains_id c (take l.part-index l.parts))
      (opened_at (entry_at l.fn.places.items c)) (entry_at l.fn.places.items c);
}
