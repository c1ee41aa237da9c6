-- What a text becomes where another is put at one of its chunks, or a chunk is deleted.
use Rattle.std.specs.Prelude.{ℕ, ◌-◌, ◌||◌, List, [], ◌∷◌, ◌++◌, length, take, replicate, min, max, pos, int_lt}
use Rattle.std.specs.Prelude.{unsigned_abs, if◌then◌else◌, Option, Some, None, Err, Result}
use Rattle.std.specs.Option.{option_map, unwrap_or}
use Rattle.ht_values.specs.declared.fault.Fault.{Fault}
use Rattle.ht_values.specs.declared.fault.Fault.TheVariants.{BadArgument}
use Rattle.ht_values.specs.Number.{without_front_spaces}
use Rattle.ht_values.specs.Outcome.{within_limit}
use Rattle.chunks.specs.declared.chunk.Chunk.{Chunk}
use Rattle.ht_values.specs.declared.word.ChunkKind.{ChunkKind}
use Rattle.ht_values.specs.declared.word.ChunkKind.TheVariants as kind
use Rattle.chunks.specs.declared.chunk.Span.{Span}
use Rattle.ht_values.specs.declared.word.Where.{Where}
use Rattle.ht_values.specs.declared.word.Where.TheVariants as place
use Rattle.chunks.specs.Pieces.{count, found, left, middle, right, number_at, stretch, spans}

-- a text put in the place of another, before it or after it
abbrev pub placed : Where → List ℕ → List ℕ → List ℕ
placed place.Into new old = new
placed place.Before new old = new ++ old
placed place.After new old = old ++ new

-- what is added at the end of a text with `many` pieces, before the text that is put as piece number `first` past them
abbrev pub padding : ℕ → ChunkKind → ℕ → ℕ → List ℕ → List ℕ
padding delimiter kind.Char many first t = []
padding delimiter kind.Word many first [] = []
padding delimiter kind.Word many first (b ∷ bs) = 32 ∷ []
padding delimiter kind.Item many first t = replicate (first - max many 1) delimiter
padding delimiter kind.Line many first t = replicate (first - max many 1) 13

-- the middle of the text changed, or the text that is put added at the end where there is no such piece
abbrev pub put_at : ℕ → ChunkKind → ℕ → ℕ → Where → List ℕ → List ℕ → Option Span → List ℕ
put_at delimiter k many first w new t (Some s) = left t s ++ placed w new (middle t s) ++ right t s
put_at delimiter k many first w new t None = t ++ padding delimiter k many first t ++ new

-- a put at the pieces from one number to another, neither below 1
abbrev pub put_from : ℕ → ChunkKind → ℕ → ℕ → Where → List ℕ → List ℕ → List ℕ
put_from delimiter k first last w new t =
    let many = count delimiter k t in
    put_at delimiter k many first w new t (stretch (spans delimiter k t) first (min last many))

-- the text after another is put at a chunk: the first number is at least 1, and the last no less
unfoldable pub put : ℕ → Chunk → Where → List ℕ → List ℕ → Result (List ℕ) Fault
put delimiter c w new t =
    let last = max (count delimiter c.kind t) 1 in
    let a = number_at last c.from in
    let b = number_at last c.to in
    if int_lt a (pos 1) || int_lt b a then Err BadArgument
    else within_limit (put_from delimiter c.kind (unsigned_abs a) (unsigned_abs b) w new t)

-- what is left of two parts without the delimiter between them: that after the piece, or else that before it
abbrev pub joined_up : List ℕ → List ℕ → List ℕ
joined_up before [] = take (length before - 1) before
joined_up before (delimiter ∷ after) = before ++ after

-- what is left of two parts when the pieces between them go
abbrev pub closed_up : ChunkKind → List ℕ → List ℕ → List ℕ
closed_up kind.Char before after = before ++ after
closed_up kind.Word before after = before ++ without_front_spaces after
closed_up kind.Item before after = joined_up before after
closed_up kind.Line before after = joined_up before after

-- the text after a chunk is deleted; nothing where no piece is found
unfoldable pub removed : ℕ → Chunk → List ℕ → Option (List ℕ)
removed delimiter c t = option_map (λ s. closed_up c.kind (left t s) (right t s)) (found delimiter c t)

-- the text after a chunk is deleted; the same text where no piece is found
abbrev pub deleted : ℕ → Chunk → List ℕ → List ℕ
deleted delimiter c t = unwrap_or (removed delimiter c t) t
