-- What a text is read as, whole.
use Rattle.std.specs.Prelude.{◌≡◌, ◌≤◌, ℕ, List, [], ◌∷◌, map}
use Rattle.ht_lex.specs.declared.key.Key.TheVariants as k
use Rattle.ht_values.specs.declared.word.PartKind.TheVariants as part_kind
use Rattle.ht_lex.specs.Token.{Token, key}
use Rattle.ht_lex.specs.Token as token
use Rattle.ht_lex.specs.declared.tokens.Span.{Span}
use Rattle.ht_lex.specs.Tokens.{IsCut}
use Rattle.ht_lex.specs.Token.{token_in}
use Rattle.ht_grammar.specs.Trees.{Expr, Part, no_owner, owner_of, kind_of_part}
use Rattle.ht_grammar.specs.Statements.{Stmts, Handlers, Message, Typed, typed}
use Rattle.ht_grammar.specs.Depth.{depth, stmts_depth, handlers_depth, part_depth, message_depth, max_depth}
use Rattle.ht_grammar.specs.Ends.{past_ends}
use Rattle.ht_grammar.specs.Expressions.{Derives, DerivesPart, whole}
use Rattle.ht_grammar.specs.Grammar.{DerivesLines, DerivesHandlers, DerivesMessage, at_large}

-- An expression, with no end of a line.
pub record ReadsExpr (ts : List Token) (e : Expr) : Type 0 where
  pub derives : Derives whole ts e []
  pub fits : depth e ≤ max_depth

-- Lines of a typed command, of `do` or of a call-back. Blank lines may come first.
pub record ReadsLines (ts : List Token) (ss : Stmts) : Type 0 where
  pub derives : DerivesLines at_large (past_ends ts) ss []
  pub fits : stmts_depth ss ≤ max_depth

-- A script. Blank lines may come first.
pub record ReadsScript (ts : List Token) (hs : Handlers) : Type 0 where
  pub derives : DerivesHandlers (past_ends ts) hs
  pub fits : handlers_depth hs ≤ max_depth

-- The text of `send`: a name and arguments.
pub record ReadsMessage (ts : List Token) (m : Message) : Type 0 where
  pub derives : DerivesMessage ts m
  pub fits : message_depth m ≤ max_depth

-- A button or field to be clicked, without an owner.
pub record ReadsPart (ts : List Token) (p : Part) : Type 0 where
  pub derives : DerivesPart ts p []
  pub unowned : owner_of p ≡ no_owner
  pub fits : part_depth p ≤ max_depth

-- A text in quotes and the field that it is typed into, without an owner.
pub data ReadsType : List Token → Typed → Type 0 where
  reads_type : {w : List ℕ} {a : List Token} {p : Part} → ReadsPart a p → kind_of_part p ≡ part_kind.Field
      → ReadsType (token.quoted w ∷ key k.Into ∷ a) (typed w p)

-- The text has tokens, which are read as this tree.
pub record Reads {A : Type 0} (ReadsTokens : List Token → A → Type 0) (text : List ℕ) (tree : A) : Type 0 where
  pub spans : List Span
  pub cut : IsCut text spans
  pub reads : ReadsTokens (map (token_in text) spans) tree
