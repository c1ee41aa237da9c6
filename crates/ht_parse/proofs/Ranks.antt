-- What falls in each call of the cycles of containers and of lines.
use Rattle.std.proofs.Common.{ℕ, ◌+◌, ◌*◌}

-- A level of depth counts for more than the order of the functions that work at one level, which is below 16. Each
-- function calls those of its own level with a lower order, and at the level below those of any order:
--
--   container 0, in_chunk 1, at_ordinal 2;
--   else_if 7, statement 7, lines 8, else_part 9, otherwise 10, long 13, repeat 13, then_part 14, when 15.
abbrev pub rank : ℕ → ℕ → ℕ
rank depth order = 16 * depth + order
