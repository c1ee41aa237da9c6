-- Where a run of one text is the same as another.
use Rattle.std.specs.Prelude.{ℕ, ◌+◌, List, [], ◌∷◌, nat_eq, if◌then◌else◌, Option, Some, None}
use Rattle.std.specs.List.{starts_with}
use Rattle.std.specs.Option.{option_map}
use Rattle.std.specs.Str.{bytes_eq}
use Rattle.ht_values.specs.Text.{folded}

-- the first place, counted from 0, at which the bytes of the first list stand in the second
unfoldable pub first_place : List ℕ → List ℕ → Option ℕ
first_place run [] = if bytes_eq run [] then Some 0 else None
first_place run (b ∷ bs) =
    if starts_with nat_eq (b ∷ bs) run then Some 0 else option_map (λ k. k + 1) (first_place run bs)

-- the first place, counted from 0, at which a run of the second text is the same as the first
abbrev pub place_of : List ℕ → List ℕ → Option ℕ
place_of run t = first_place (folded run) (folded t)
