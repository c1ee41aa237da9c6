-- Laws of reading.
use Rattle.std.specs.Prelude.{◌≡◌, ◌↔◌, ℕ, List, Option, Some}
use Rattle.ht_lex.specs.Token.{Token}
use Rattle.ht_lex.specs.Cutting.{spans_of, CutsExactly}
use Rattle.ht_grammar.specs.Reads.{Reads, ReadsExpr, ReadsLines, ReadsScript, ReadsMessage, ReadsPart, ReadsType}
use Rattle.ht_grammar.specs.Reading.{expression}
use Rattle.ht_grammar.specs.Lines.{typed_lines}
use Rattle.ht_grammar.specs.Whole.{script, sent_message, clicked_part, typed_text}

-- A function on tokens answers just the trees that they are read as.
abbrev pub ReadsExactly : {A : Type 0} → (List Token → Option A) → (List Token → A → Type 0) → Type 0
ReadsExactly {A} read IsRead = (ts : List Token) (tree : A) → (read ts ≡ Some tree) ↔ IsRead ts tree

-- No tokens are read as two trees.
abbrev pub OneTree : {A : Type 0} → (List Token → A → Type 0) → Type 0
OneTree {A} IsRead = (ts : List Token) (tree other : A) → IsRead ts tree → IsRead ts other → tree ≡ other

-- No text is read as two trees.
abbrev pub OneTreePerText : {A : Type 0} → (List Token → A → Type 0) → Type 0
OneTreePerText {A} IsRead =
    (text : List ℕ) (tree other : A) → Reads IsRead text tree → Reads IsRead text other → tree ≡ other

-- Texts are cut into tokens and read as trees just as the grammar says, and none is read as two trees.
pub record TextsAreReadExactly : Type 0 where
  pub cuts : CutsExactly spans_of
  pub expressions : ReadsExactly expression ReadsExpr
  pub lines : ReadsExactly typed_lines ReadsLines
  pub scripts : ReadsExactly script ReadsScript
  pub messages : ReadsExactly sent_message ReadsMessage
  pub parts : ReadsExactly clicked_part ReadsPart
  pub typing : ReadsExactly typed_text ReadsType
  pub one_expression : OneTreePerText ReadsExpr
  pub one_list_of_lines : OneTreePerText ReadsLines
  pub one_script : OneTreePerText ReadsScript
  pub one_message : OneTreePerText ReadsMessage
  pub one_part : OneTreePerText ReadsPart
  pub one_typing : OneTreePerText ReadsType
