-- Keys of names: numbers by which a search tells long names apart without reading them.
use Rattle.std.specs.Prelude.{ℕ, ◌*◌, ◌%◌, ◌^◌, List, bit_xor}
use Rattle.std.specs.List.{fold}
use Rattle.std.specs.Int.{w128, rotate_left}
use Rattle.std.specs.Char.{to_ascii_lowercase}
use Rattle.ht_values.specs.Text.{folded}
use Rattle.object_table.specs.declared.name.TheConstants.{FACTOR}

-- a key with one folded byte more
abbrev pub with_folded : ℕ → ℕ → ℕ
with_folded key byte = rotate_left w128 (bit_xor key byte * FACTOR % 2 ^ 128) 53

abbrev pub keyed : ℕ → ℕ → ℕ
keyed key byte = with_folded key (to_ascii_lowercase byte)

-- the key of a name: names that are the same have the same one
abbrev pub key_of : List ℕ → ℕ
key_of name = fold with_folded 1 (folded name)
