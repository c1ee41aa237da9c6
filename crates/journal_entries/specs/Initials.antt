-- Not for belief: the bytes that names begin with.
use Rattle.std.specs.Prelude.{◌≡◌, ℕ, List, Bool, true, false, All, slice_index, slice_index_or}

-- beside the first byte of a name stands true; a name of no bytes counts as one that begins with 0
abbrev pub may_have : List Bool → List ℕ → Bool
may_have seen name = slice_index_or seen (slice_index name 0) false

-- each of these names
abbrev pub MayHaveAll : List Bool → List (List ℕ) → Type 0
MayHaveAll seen names = All (λ name. may_have seen name ≡ true) names
