-- Names, reserved words and symbols, with the key of each.
use Rattle.std.specs.Prelude.{ℕ, Bool, ◌&&◌, ◌||◌, ◌==◌, List, [], ◌∷◌, Option, Some, None, is_none, slice_index, codes}
use Rattle.std.specs.Char.{is_ascii_alphabetic, is_ascii_alphanumeric}
use Rattle.std.specs.List.{list_all}
use Rattle.ht_values.specs.Text.{entry}
use Rattle.ht_lex.specs.declared.key.Key.{Key}
use Rattle.ht_lex.specs.declared.key.Key.TheVariants as k
use Rattle.ht_lex.specs.declared.key.TokenKind.{TokenKind}
use Rattle.ht_lex.specs.declared.key.TokenKind.TheVariants as kind
use Rattle.ht_values.specs.declared.word.ChunkKind.TheVariants as piece
use Rattle.ht_values.specs.declared.word.PartKind.TheVariants as part
use Rattle.ht_lex.specs.declared.key.Ordinal.TheVariants as ordinal
use Rattle.ht_lex.specs.declared.key.Constant.TheVariants as constant

-- words with their keys
abbrev pub Rows : Type 0
Rows = List (List ℕ × Key)

-- The reserved words. Synonyms have one key, so that the grammar never sees them.
unfoldable pub reserved_words : List (List ℕ × Key)
reserved_words =
    (codes "add", k.Add) ∷
    (codes "after", k.After) ∷
    (codes "and", k.And) ∷
    (codes "background", k.Background) ∷
    (codes "bg", k.Background) ∷
    (codes "bkgnd", k.Background) ∷
    (codes "backgrounds", k.Backgrounds) ∷
    (codes "bgs", k.Backgrounds) ∷
    (codes "bkgnds", k.Backgrounds) ∷
    (codes "before", k.Before) ∷
    (codes "by", k.By) ∷
    (codes "card", k.Card) ∷
    (codes "cd", k.Card) ∷
    (codes "cards", k.Cards) ∷
    (codes "cds", k.Cards) ∷
    (codes "contains", k.Contains) ∷
    (codes "delete", k.Delete) ∷
    (codes "div", k.Div) ∷
    (codes "divide", k.Divide) ∷
    (codes "do", k.Do) ∷
    (codes "else", k.Else) ∷
    (codes "end", k.End) ∷
    (codes "exit", k.Exit) ∷
    (codes "for", k.For) ∷
    (codes "forever", k.Forever) ∷
    (codes "from", k.From) ∷
    (codes "function", k.Function) ∷
    (codes "get", k.Get) ∷
    (codes "global", k.Global) ∷
    (codes "go", k.Go) ∷
    (codes "id", k.Id) ∷
    (codes "if", k.If) ∷
    (codes "in", k.In) ∷
    (codes "into", k.Into) ∷
    (codes "is", k.Is) ∷
    (codes "me", k.Me) ∷
    (codes "mod", k.Mod) ∷
    (codes "multiply", k.Multiply) ∷
    (codes "next", k.Next) ∷
    (codes "not", k.Not) ∷
    (codes "number", k.Number) ∷
    (codes "of", k.Of) ∷
    (codes "on", k.On) ∷
    (codes "or", k.Or) ∷
    (codes "pass", k.Pass) ∷
    (codes "previous", k.Previous) ∷
    (codes "prev", k.Previous) ∷
    (codes "put", k.Put) ∷
    (codes "repeat", k.Repeat) ∷
    (codes "return", k.Return) ∷
    (codes "send", k.Send) ∷
    (codes "set", k.Set) ∷
    (codes "stack", k.Stack) ∷
    (codes "subtract", k.Subtract) ∷
    (codes "the", k.The) ∷
    (codes "then", k.Then) ∷
    (codes "there", k.There) ∷
    (codes "this", k.This) ∷
    (codes "to", k.To) ∷
    (codes "until", k.Until) ∷
    (codes "while", k.While) ∷
    (codes "with", k.With) ∷
    (codes "char", k.Piece piece.Char) ∷
    (codes "character", k.Piece piece.Char) ∷
    (codes "chars", k.Pieces piece.Char) ∷
    (codes "characters", k.Pieces piece.Char) ∷
    (codes "word", k.Piece piece.Word) ∷
    (codes "words", k.Pieces piece.Word) ∷
    (codes "item", k.Piece piece.Item) ∷
    (codes "items", k.Pieces piece.Item) ∷
    (codes "line", k.Piece piece.Line) ∷
    (codes "lines", k.Pieces piece.Line) ∷
    (codes "button", k.Part part.Button) ∷
    (codes "btn", k.Part part.Button) ∷
    (codes "buttons", k.Parts part.Button) ∷
    (codes "btns", k.Parts part.Button) ∷
    (codes "field", k.Part part.Field) ∷
    (codes "fld", k.Part part.Field) ∷
    (codes "fields", k.Parts part.Field) ∷
    (codes "flds", k.Parts part.Field) ∷
    (codes "first", k.Ordinal ordinal.First) ∷
    (codes "second", k.Ordinal ordinal.Second) ∷
    (codes "third", k.Ordinal ordinal.Third) ∷
    (codes "fourth", k.Ordinal ordinal.Fourth) ∷
    (codes "fifth", k.Ordinal ordinal.Fifth) ∷
    (codes "sixth", k.Ordinal ordinal.Sixth) ∷
    (codes "seventh", k.Ordinal ordinal.Seventh) ∷
    (codes "eighth", k.Ordinal ordinal.Eighth) ∷
    (codes "ninth", k.Ordinal ordinal.Ninth) ∷
    (codes "tenth", k.Ordinal ordinal.Tenth) ∷
    (codes "last", k.Ordinal ordinal.Last) ∷
    (codes "empty", k.Constant constant.Empty) ∷
    (codes "quote", k.Constant constant.Quote) ∷
    (codes "space", k.Constant constant.Space) ∷
    (codes "comma", k.Constant constant.Comma) ∷
    (codes "colon", k.Constant constant.Colon) ∷
    (codes "tab", k.Constant constant.Tab) ∷
    (codes "lineFeed", k.Constant constant.LineFeed) ∷
    (codes "formFeed", k.Constant constant.FormFeed) ∷
    (codes "true", k.Constant constant.True) ∷
    (codes "false", k.Constant constant.False) ∷
    (codes "zero", k.Constant constant.Zero) ∷
    (codes "one", k.Constant constant.One) ∷
    (codes "two", k.Constant constant.Two) ∷
    (codes "three", k.Constant constant.Three) ∷
    (codes "four", k.Constant constant.Four) ∷
    (codes "five", k.Constant constant.Five) ∷
    (codes "six", k.Constant constant.Six) ∷
    (codes "seven", k.Constant constant.Seven) ∷
    (codes "eight", k.Constant constant.Eight) ∷
    (codes "nine", k.Constant constant.Nine) ∷
    (codes "ten", k.Constant constant.Ten) ∷
    []

-- The symbols, each before those that it begins with.
unfoldable pub symbols : List (List ℕ × Key)
symbols =
    (codes "&&", k.DoubleAmpersand) ∷
    (codes "<>", k.NotEqual) ∷
    (codes "<=", k.LessEqual) ∷
    (codes ">=", k.GreaterEqual) ∷
    (codes "&", k.Ampersand) ∷
    (codes "(", k.LeftParen) ∷
    (codes ")", k.RightParen) ∷
    (codes ",", k.CommaSign) ∷
    (codes "+", k.Plus) ∷
    (codes "-", k.Minus) ∷
    (codes "*", k.Star) ∷
    (codes "/", k.Slash) ∷
    (codes "^", k.Caret) ∷
    (codes "=", k.Equal) ∷
    (codes "<", k.Less) ∷
    (codes ">", k.Greater) ∷
    (178 ∷ [], k.LessEqual) ∷
    (179 ∷ [], k.GreaterEqual) ∷
    (173 ∷ [], k.NotEqual) ∷
    []

-- a letter or `_`
abbrev pub begins_word : ℕ → Bool
begins_word b = is_ascii_alphabetic b || b == 95

-- a letter, a digit or `_`
abbrev pub goes_on_word : ℕ → Bool
goes_on_word b = is_ascii_alphanumeric b || b == 95

abbrev pub is_word : List ℕ → Bool
is_word w = begins_word (slice_index w 0) && list_all goes_on_word w

-- the key of a reserved word
unfoldable pub key_of : List ℕ → Option Key
key_of w = entry reserved_words w

abbrev pub kind_by : Option Key → TokenKind
kind_by None = kind.Name
kind_by (Some key) = kind.Key key

-- A word is the key of its reserved word, or a name.
abbrev pub kind_of_word : List ℕ → TokenKind
kind_of_word w = kind_by (key_of w)

-- A name is a word that isn't reserved.
abbrev pub is_name : List ℕ → Bool
is_name w = is_word w && is_none (key_of w)
