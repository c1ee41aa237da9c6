-- The pieces of a text as a scan of its bytes finds them.
use Rattle.std.specs.Prelude.{ℕ, ◌+◌, Bool, true, List, [], ◌∷◌, ◌==◌, if◌then◌else◌}
use Rattle.chunks.specs.declared.chunk.Span.{Span}

-- whether a byte is the delimiter
abbrev pub is_delimiter : ℕ → ℕ → Bool
is_delimiter delimiter b = b == delimiter

-- every part is a piece
abbrev pub all_kept : Span → Bool
all_kept s = true

-- the part up to a place, if it is a piece, before those that follow
abbrev pub kept : (Span → Bool) → ℕ → ℕ → List Span → List Span
kept keep start at later =
    if keep (record { start = start; after = at }) then record { start = start; after = at } ∷ later else later

-- the pieces from a place on, where a part has begun
unfoldable pub scan : (ℕ → Bool) → (Span → Bool) → ℕ → ℕ → List ℕ → List Span
scan cut keep start at [] = kept keep start at []
scan cut keep start at (b ∷ bs) =
    if cut b then kept keep start at (scan cut keep (at + 1) (at + 1) bs) else scan cut keep start (at + 1) bs
