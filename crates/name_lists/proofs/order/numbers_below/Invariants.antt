use Rattle.std.proofs.Common.{◌≡◌, ◌<◌, ℕ, length, get_or}
use Rattle.name_lists.proofs.order.numbers_below.Given as goal

abbrev pub invariant-loop-number : goal.invariant-loop-number
invariant-loop-number l = record {
  counted : length l.numbers.items ≡ l.number;
  same : (i : ℕ) → i < l.number → get_or l.numbers.items i 0 ≡ i;
}
