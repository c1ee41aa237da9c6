-- What the definitions of pieces promise.
use Rattle.std.specs.Prelude.{◌≡◌, ℕ, ◌+◌, ◌-◌, ◌<◌, ◌≤◌, Bool, false, List, [], ◌∷◌, ◌++◌, map, length, replicate}
use Rattle.std.specs.Prelude.{nat_lt, slice_set, ◌==◌, if◌then◌else◌, ⊤, ◌↔◌, pos, Some, None, Ok}
use Rattle.std.specs.List.{join_with_byte}
use Rattle.chunks.specs.declared.chunk.Chunk.{Chunk}
use Rattle.chunks.specs.declared.chunk.Index.TheVariants as index
use Rattle.ht_values.specs.declared.word.ChunkKind.{ChunkKind}
use Rattle.ht_values.specs.declared.word.ChunkKind.TheVariants as kind
use Rattle.chunks.specs.declared.chunk.Span.{Span}
use Rattle.ht_values.specs.declared.word.Where.TheVariants as place
use Rattle.chunks.specs.Change.{deleted, put}
use Rattle.chunks.specs.Pieces.{count, is_gap, delimited, pieces, spans, found, left, middle, read, right}

-- no byte of the list is one at which texts are cut
abbrev pub IsWhole : (ℕ → Bool) → List ℕ → Type 0
IsWhole cut [] = ⊤
IsWhole cut (b ∷ bs) = (cut b ≡ false) × IsWhole cut bs

-- no byte of the list is the delimiter
abbrev pub IsClean : ℕ → List ℕ → Type 0
IsClean delimiter bs = IsWhole (λ b. b == delimiter) bs

-- nor is any byte of any piece
abbrev pub AreClean : ℕ → List (List ℕ) → Type 0
AreClean delimiter [] = ⊤
AreClean delimiter (p ∷ ps) = IsClean delimiter p × AreClean delimiter ps

-- texts without the delimiter, whose join by it is the text; the empty text has none
pub record AreDelimited (delimiter : ℕ) (ps : List (List ℕ)) (t : List ℕ) : Type 0 where
  pub clean : AreClean delimiter ps
  pub joined : join_with_byte delimiter ps ≡ t
  pub none : t ≡ [] → ps ≡ []

-- what stands between the delimiters is the one such list
abbrev pub OneList : Type 0
OneList = (delimiter : ℕ) (ps : List (List ℕ)) (t : List ℕ) → AreDelimited delimiter ps t ↔ (ps ≡ delimited delimiter t)

-- the pieces are what stands at their places
abbrev pub PiecesStand : Type 0
PiecesStand = (delimiter : ℕ) (k : ChunkKind) (t : List ℕ) → map (middle t) (spans delimiter k t) ≡ pieces delimiter k t

-- a part lies in a text and cuts it in three
pub record IsCutBy (t : List ℕ) (s : Span) : Type 0 where
  pub forward : s.start ≤ s.after
  pub within : s.after ≤ length t
  pub three : left t s ++ middle t s ++ right t s ≡ t

-- a part that is found cuts the text
abbrev pub PartsCut : Type 0
PartsCut = (delimiter : ℕ) (c : Chunk) (t : List ℕ) (s : Span) → found delimiter c t ≡ Some s → IsCutBy t s

-- where no piece is found, a delete changes nothing
abbrev pub NoneDeleted : Type 0
NoneDeleted = (delimiter : ℕ) (c : Chunk) (t : List ℕ) → found delimiter c t ≡ None → deleted delimiter c t ≡ t

-- whether a text can stand as one piece
abbrev pub IsPiece : ℕ → ChunkKind → List ℕ → Type 0
IsPiece delimiter kind.Char p = length p ≡ 1
IsPiece delimiter kind.Word p = (0 < length p) × IsWhole is_gap p
IsPiece delimiter kind.Item p = IsClean delimiter p
IsPiece delimiter kind.Line p = IsClean 13 p

-- the empty pieces between the last one and one that is put past it
abbrev pub between : ChunkKind → ℕ → List (List ℕ)
between kind.Char missing = []
between kind.Word missing = []
between kind.Item missing = replicate missing []
between kind.Line missing = replicate missing []

-- pieces with one of them, counted from 0, replaced, or another put past the last
abbrev pub with_piece : ChunkKind → ℕ → List ℕ → List (List ℕ) → List (List ℕ)
with_piece k n p ps = if nat_lt n (length ps) then slice_set ps n p else ps ++ between k (n - length ps) ++ p ∷ []

-- one piece, counted from 0
abbrev pub one : ChunkKind → ℕ → Chunk
one k n = record { kind = k; from = index.At (pos (n + 1)); to = index.At (pos (n + 1)) }

-- a piece that is put into one piece stands there, and the other pieces are as they were
abbrev pub PieceIsPut : Type 0
PieceIsPut =
    (delimiter : ℕ) (k : ChunkKind) (n : ℕ) (p t u : List ℕ) → IsPiece delimiter k p
    → put delimiter (one k n) place.Into p t ≡ Ok u → 0 < length u
    → pieces delimiter k u ≡ with_piece k n p (pieces delimiter k t)

-- whether a piece put at this number is read at the same number: a char or a word past the end stands just past the
-- last
abbrev pub IsReached : ℕ → ChunkKind → ℕ → List ℕ → Type 0
IsReached delimiter kind.Char n t = n ≤ count delimiter kind.Char t
IsReached delimiter kind.Word n t = n ≤ count delimiter kind.Word t
IsReached delimiter kind.Item n t = ⊤
IsReached delimiter kind.Line n t = ⊤

-- what is put into one piece is read there
abbrev pub PutReadsBack : Type 0
PutReadsBack =
    (delimiter : ℕ) (k : ChunkKind) (n : ℕ) (p t u : List ℕ) → IsPiece delimiter k p → IsReached delimiter k n t
    → put delimiter (one k n) place.Into p t ≡ Ok u → read delimiter (one k n) u ≡ p
