-- The texts of the constants.
use Rattle.std.specs.Prelude.{ℕ, List, [], ◌∷◌, codes, true, false}
use Rattle.ht_values.specs.Operators.{word_of}
use Rattle.ht_lex.specs.declared.key.Constant.{Constant}
use Rattle.ht_lex.specs.declared.key.Constant.TheVariants as constant

-- the text that a constant stands for
abbrev pub constant_text : Constant → List ℕ
constant_text constant.Empty = []
constant_text constant.Quote = 34 ∷ []
constant_text constant.Space = 32 ∷ []
constant_text constant.Comma = codes ","
constant_text constant.Colon = codes ":"
constant_text constant.Tab = 9 ∷ []
constant_text constant.LineFeed = 10 ∷ []
constant_text constant.FormFeed = 12 ∷ []
constant_text constant.True = word_of true
constant_text constant.False = word_of false
constant_text constant.Zero = codes "0"
constant_text constant.One = codes "1"
constant_text constant.Two = codes "2"
constant_text constant.Three = codes "3"
constant_text constant.Four = codes "4"
constant_text constant.Five = codes "5"
constant_text constant.Six = codes "6"
constant_text constant.Seven = codes "7"
constant_text constant.Eight = codes "8"
constant_text constant.Nine = codes "9"
constant_text constant.Ten = codes "10"
