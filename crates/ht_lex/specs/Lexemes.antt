-- Not for belief: what a text begins with, as the code finds it.
use Rattle.std.specs.Prelude.{ℕ, ◌+◌, ◌≤◌, Bool, if◌then◌else◌, ◌==◌, List, [], ◌∷◌, drop, take, length, slice_index}
use Rattle.std.specs.Prelude.{Option, Some, None, nat_eq, codes}
use Rattle.std.specs.Char.{is_ascii_digit}
use Rattle.std.specs.List.{prefix_len, starts_with}
use Rattle.ht_lex.specs.declared.key.Key.{Key}
use Rattle.ht_lex.specs.declared.key.Key.TheVariants as k
use Rattle.ht_lex.specs.declared.key.TokenKind.TheVariants as kind
use Rattle.ht_lex.specs.declared.lexeme.Class.{Class}
use Rattle.ht_lex.specs.declared.lexeme.Class.TheVariants as class
use Rattle.ht_lex.specs.declared.lexeme.Lexeme.{Lexeme}
use Rattle.ht_lex.specs.declared.lexeme.Lexeme.TheVariants.{Gap, Token, Nothing}
use Rattle.ht_lex.specs.Pieces.{is_blank, is_return, is_quote, is_quotable, is_commented, NoLonger, Longest}
use Rattle.ht_lex.specs.Words.{begins_word, goes_on_word, kind_of_word, symbols}

-- the bytes of a class
abbrev pub is_in : Class → ℕ → Bool
is_in class.Blank b = is_blank b
is_in class.Digit b = is_ascii_digit b
is_in class.Word b = goes_on_word b
is_in class.Commented b = is_commented b
is_in class.Quotable b = is_quotable b

-- the first place from a place on whose byte isn't of the class
abbrev pub past : Class → List ℕ → ℕ → ℕ
past c text place = place + prefix_len (is_in c) (drop place text)

-- A word, whose first byte is known to be one.
abbrev pub word_lexeme : List ℕ → Lexeme
word_lexeme text = let end = past class.Word text 1 in Token (kind_of_word (take end text)) end

-- A text in quotes, which has no return.
abbrev pub quoted_lexeme : List ℕ → Lexeme
quoted_lexeme text = let end = past class.Quotable text 1 in if is_quote (slice_index text end) then Token kind.Quoted
    (end + 1) else Nothing

-- The byte 0xC2, blanks and a return: the line goes on.
abbrev pub continued_lexeme : List ℕ → Lexeme
continued_lexeme text =
    let end = past class.Blank text 1 in if is_return (slice_index text end) then Gap (end + 1) else Nothing

-- The first symbol of a table that the text begins with.
abbrev pub symbol_among : List (List ℕ × Key) → List ℕ → Lexeme
symbol_among [] text = Nothing
symbol_among (row ∷ rows) text =
    if starts_with nat_eq text row.0 then Token (kind.Key row.1) (length row.0) else symbol_among rows text

unfoldable pub symbol_lexeme : List ℕ → Lexeme
symbol_lexeme text = symbol_among symbols text

-- The bytes that are a symbol each, and begin nothing longer.
abbrev pub single : ℕ → Option Key
single b =
    if b == 40 then Some k.LeftParen
    else if b == 41 then Some k.RightParen
    else if b == 44 then Some k.CommaSign
    else if b == 43 then Some k.Plus
    else if b == 42 then Some k.Star
    else if b == 47 then Some k.Slash
    else if b == 94 then Some k.Caret
    else if b == 61 then Some k.Equal
    else None

-- What is no word and no symbol of one byte.
unfoldable pub other_lexeme : List ℕ → Lexeme
other_lexeme text =
    let first = slice_index text 0 in
    if is_blank first then Gap (past class.Blank text 0)
    else if is_return first then Token kind.Eol 1
    else if is_ascii_digit first then Token kind.Number (past class.Digit text 0)
    else if is_quote first then quoted_lexeme text
    else if first == 0xC2 then continued_lexeme text
    else if starts_with nat_eq text (codes "--") then Gap (past class.Commented text 0)
    else symbol_lexeme text

-- A symbol, if it is one, or else another piece.
abbrev pub single_or : Option Key → Lexeme → Lexeme
single_or (Some key) other = Token (kind.Key key) 1
single_or None other = other

-- The pieces begin with bytes of their own, so words and symbols of one byte, the commonest, come first.
abbrev pub first_lexeme : List ℕ → Lexeme
first_lexeme text =
    let first = slice_index text 0 in
    if begins_word first then word_lexeme text else single_or (single first) (other_lexeme text)

-- It takes a byte at least, and none past the end.
abbrev pub FitsIn : List ℕ → Lexeme → Type 0
FitsIn text (Gap size) = (1 ≤ size) × (size ≤ length text)
FitsIn text (Token k size) = (1 ≤ size) × (size ≤ length text)
FitsIn text Nothing = Unit {0}

-- It is the longest, or nothing is there.
abbrev pub IsLongest : List ℕ → Lexeme → Type 0
IsLongest text (Gap size) = Longest None text size
IsLongest text (Token k size) = Longest (Some k) text size
IsLongest text Nothing = NoLonger text 0
