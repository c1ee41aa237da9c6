-- Numbers at ids, in pages of ids side by side.
use Rattle.std.specs.Prelude.{ℕ, ◌/◌, ◌%◌, List, [], slice_index_or}

-- the number at an id, 0 where none was set
abbrev pub number_at : List (List ℕ) → ℕ → ℕ
number_at pages id = slice_index_or (slice_index_or pages (id / 64) []) (id % 64) 0
