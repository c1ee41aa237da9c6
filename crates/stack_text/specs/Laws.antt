-- When bytes are the text of a stack, and what the reading of bytes has to do with it.
use Rattle.std.specs.Prelude.{◌≡◌, ◌↔◌, ◌⊎◌, ℕ, zero, suc, ◌<◌, true, false, List, [], ◌∷◌, ◌++◌, length, take, Ok}
use Rattle.std.specs.Prelude.{Err, Result, IfSome, ◌==◌, if◌then◌else◌}
use Rattle.object_table.specs.Content.{Content}
use Rattle.object_table.specs.Objects.{object_at}
use Rattle.object_table.specs.PartContents.{hilite_at}
use Rattle.object_table.specs.WellFormed.{IsWellFormed}
use Rattle.object_table.specs.declared.object.Kind.{Kind}
use Rattle.object_table.specs.declared.object.Kind.TheVariants.{BackgroundButton}
use Rattle.stack_text.specs.Spelling.{Version, first, second, header}
use Rattle.stack_text.specs.Reading.{document_at, read_as}
use Rattle.stack_text.specs.Listing.{content_of, spelling}
use Rattle.stack_text.specs.declared.fault.FileError.{FileError}
use Rattle.stack_text.specs.declared.fault.FileError.TheVariants.{Truncated, BadLine, TooMany, BadId}

-- a background's button shares its hilite
abbrev pub SharesHilite : Kind → Type 0
SharesHilite (BackgroundButton v shared) = shared ≡ true
SharesHilite _ = Unit {0}

-- Version 1 says nothing of a card's own hilite: each background's button shares its hilite, and none is lit
-- on a card by itself.
pub record HasSharedHilites (s : Content) : Type 0 where
  pub shared : (id : ℕ) → IfSome (object_at s id) (λ o. SharesHilite o.kind)
  pub unlit : (button card : ℕ) → IfSome (hilite_at s button card) (λ b. (card ≡ 0) ⊎ (b ≡ false))

-- what a version can say
abbrev pub IsSaidIn : Version → Content → Type 0
IsSaidIn first s = HasSharedHilites s
IsSaidIn second s = Unit {0}

-- The bytes are a text of the stack: it is well formed, and they spell it in a version that can say it.
pub record Spells (bytes : List ℕ) (s : Content) : Type 0 where
  pub well_formed : IsWellFormed s
  pub version : Version
  pub said : IsSaidIn version s
  pub text : bytes ≡ spelling version s

-- the stack of a text, or the fault of its first line at fault
abbrev pub stack_in : List ℕ → Result Content FileError
stack_in bytes = read_as content_of (document_at bytes)

-- ---- the laws

-- bytes are read as a stack exactly where they are a text of it
abbrev pub ReadsEachText : Type 0
ReadsEachText = (bytes : List ℕ) (s : Content) → (stack_in bytes ≡ Ok s) ↔ Spells bytes s

-- bytes are a text of one stack at most
abbrev pub OneStack : Type 0
OneStack = (bytes : List ℕ) (s t : Content) → Spells bytes s → Spells bytes t → s ≡ t

-- what is written is read
abbrev pub WrittenIsRead : Type 0
WrittenIsRead = (s : Content) → IsWellFormed s → stack_in (spelling second s) ≡ Ok s

-- bytes that begin with the first line of a version
abbrev pub IsOfVersion : Version → List ℕ → Type 0
IsOfVersion v bytes = take 10 bytes ≡ header v ++ 10 ∷ []

-- what is read of version 2 is written as it was
abbrev pub ReadIsWritten : Type 0
ReadIsWritten =
    (bytes : List ℕ) (s : Content) → IsOfVersion second bytes → stack_in bytes ≡ Ok s → spelling second s ≡ bytes

-- what is read of either version, written in version 2 and read again, is the same stack
abbrev pub ReadsAgain : Type 0
ReadsAgain = (bytes : List ℕ) (s : Content) → stack_in bytes ≡ Ok s → stack_in (spelling second s) ≡ Ok s

-- ---- the first fault

-- the first lines, each with its line feed, or all bytes where they have no more lines
abbrev pub first_lines : ℕ → List ℕ → List ℕ
first_lines zero bytes = []
first_lines (suc n) [] = []
first_lines (suc n) (b ∷ bytes) = b ∷ (if b == 10 then first_lines n bytes else first_lines (suc n) bytes)

-- a fault names no other line
abbrev pub MayBeAt : FileError → ℕ → Type 0
MayBeAt (BadLine line) n = line ≡ n
MayBeAt (BadId line) n = line ≡ n
MayBeAt TooMany n = Unit {0}
MayBeAt Truncated n = Unit {0}

-- The bytes have the fault at this line: their lines up to it have it, whatever stands behind them, and fewer have not.
pub record HasFaultAt (bytes : List ℕ) (fault : FileError) (n : ℕ) : Type 0 where
  pub line : MayBeAt fault n
  pub always : (behind : List ℕ) → stack_in (first_lines n bytes ++ behind) ≡ Err fault
  pub first : (k : ℕ) → k < n → ¬ (stack_in (first_lines k bytes) ≡ Err fault)

-- a fault is that of its line, which depends on the lines up to it alone
abbrev pub FaultIsOfItsLine : Type 0
FaultIsOfItsLine = (bytes : List ℕ) (fault : FileError) → stack_in bytes ≡ Err fault → ¬ (fault ≡ Truncated)
    → (n : ℕ) × HasFaultAt bytes fault n

-- each proper prefix of a text of a stack is truncated
abbrev pub PrefixIsTruncated : Type 0
PrefixIsTruncated = (bytes : List ℕ) (s : Content) → Spells bytes s → (k : ℕ) → k < length bytes
    → stack_in (take k bytes) ≡ Err Truncated

-- a text of a stack and then a byte more have a bad line
abbrev pub MoreIsBadLine : Type 0
MoreIsBadLine = (bytes : List ℕ) (s : Content) → Spells bytes s → (b : ℕ) (behind : List ℕ)
    → (n : ℕ) × (stack_in (bytes ++ b ∷ behind) ≡ Err (BadLine n))
