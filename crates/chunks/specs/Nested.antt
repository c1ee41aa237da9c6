-- Chunks of chunks. The first of a list is the nearest to the container; each later one is a chunk of what those before
-- it read.
use Rattle.std.specs.Prelude.{ℕ, List, [], ◌∷◌, Option, Some, None, Ok, Result}
use Rattle.ht_values.specs.declared.fault.Fault.{Fault}
use Rattle.ht_values.specs.Outcome.{and_then, within_limit}
use Rattle.chunks.specs.declared.chunk.Chunk.{Chunk}
use Rattle.ht_values.specs.declared.word.Where.{Where}
use Rattle.ht_values.specs.declared.word.Where.TheVariants as place
use Rattle.chunks.specs.Pieces.{read}
use Rattle.chunks.specs.Change.{placed, put, removed}

-- what the chunks read, each in what the one before it read
abbrev pub read_within : ℕ → List Chunk → List ℕ → List ℕ
read_within delimiter [] t = t
read_within delimiter (c ∷ cs) t = read_within delimiter cs (read delimiter c t)

-- the text after another is put at the innermost chunk: the part that a chunk reads is changed by the inner ones, and
-- put into it
abbrev pub put_within : ℕ → List Chunk → Where → List ℕ → List ℕ → Result (List ℕ) Fault
put_within delimiter [] w new t = within_limit (placed w new t)
put_within delimiter (c ∷ []) w new t = put delimiter c w new t
put_within delimiter (c ∷ d ∷ cs) w new t =
    and_then (put_within delimiter (d ∷ cs) w new (read delimiter c t)) (λ part. put delimiter c place.Into part t)

-- a changed part put into its chunk; nothing where nothing was changed
abbrev pub put_changed : ℕ → Chunk → List ℕ → Option (List ℕ) → Result (Option (List ℕ)) Fault
put_changed delimiter c t None = Ok None
put_changed delimiter c t (Some part) = and_then (put delimiter c place.Into part t) (λ whole. Ok (Some whole))

-- the text after the innermost chunk is deleted; nothing where it isn't found, and then nothing changes at all
abbrev pub removed_within : ℕ → Chunk → List Chunk → List ℕ → Result (Option (List ℕ)) Fault
removed_within delimiter c [] t = Ok (removed delimiter c t)
removed_within delimiter c (d ∷ cs) t =
    and_then (removed_within delimiter d cs (read delimiter c t)) (λ part. put_changed delimiter c t part)

-- the same of any list of chunks; no chunk finds nothing
abbrev pub deleted_within : ℕ → List Chunk → List ℕ → Result (Option (List ℕ)) Fault
deleted_within delimiter [] t = Ok None
deleted_within delimiter (c ∷ cs) t = removed_within delimiter c cs t
