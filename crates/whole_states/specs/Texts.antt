-- That all texts in a tree are texts.
use Rattle.std.specs.Prelude.{◌≡◌, ◌<◌, ℕ, true, List, [], ◌∷◌, IfSome}
use Rattle.std.specs.List.{All, AllByRecursion}
use Rattle.ht_values.specs.Text.{IsText, is_folded}
use Rattle.externals.specs.Log.{LoggedTurn}
use Rattle.externals.specs.Turns.{AskTexts}
use Rattle.externals.specs.declared.external.Input.{Input}
use Rattle.externals.specs.declared.external.Input.TheVariants.{Start, Answer}
use Rattle.containers.specs.Places.{StorageView, global}
use Rattle.containers.specs.declared.variables.Local.{Local}
use Rattle.meaning.specs.Actions as act
use Rattle.meaning.specs.Actions.{Action}
use Rattle.meaning.specs.State.{RunState}
use Rattle.meaning.specs.declared.end.How.{How}
use Rattle.meaning.specs.declared.end.How.TheVariants.{Returns}
use Rattle.meaning.specs.declared.frame.Frame.{Frame}
use Rattle.ht_lex.specs.Token.{Token}
use Rattle.ht_lex.specs.Token as token
use Rattle.ht_grammar.specs.Reads.{Reads, ReadsExpr, ReadsLines, ReadsMessage, ReadsPart, ReadsScript, ReadsType}
use Rattle.ht_grammar.specs.Statements as stm
use Rattle.ht_grammar.specs.Trees as tree

-- a name, a number and what stands between quotes
abbrev pub TokenTexts : Token → Type 0
TokenTexts (token.name t) = IsText t
TokenTexts (token.number t) = IsText t
TokenTexts (token.quoted t) = IsText t
TokenTexts (token.key _) = Unit {0}
TokenTexts token.eol = Unit {0}

abbrev pub TokensTexts : List Token → Type 0
TokensTexts [] = Unit {0}
TokensTexts (t ∷ ts) = TokenTexts t × TokensTexts ts

abbrev mutual
  pub ExprTexts : tree.Expr → Type 0
  ExprTexts (tree.number x0) = IsText x0
  ExprTexts (tree.quoted x0) = IsText x0
  ExprTexts (tree.constant _) = Unit {0}
  ExprTexts tree.return_ = Unit {0}
  ExprTexts (tree.name x0) = IsText x0
  ExprTexts (tree.paren x0) = ExprTexts x0
  ExprTexts (tree.call x0 x1) = IsText x0 × ExprsTexts x1
  ExprTexts (tree.binary _ x1 x2) = ExprTexts x1 × ExprTexts x2
  ExprTexts (tree.unary _ x1) = ExprTexts x1
  ExprTexts (tree.there_is _ x1) = RefTexts x1
  ExprTexts (tree.chunk x0 x1) = ChunkTexts x0 × ExprTexts x1
  ExprTexts (tree.field x0) = PartTexts x0
  ExprTexts tree.result = Unit {0}
  ExprTexts tree.target = Unit {0}
  ExprTexts (tree.number_of x0) = CountTexts x0
  ExprTexts (tree.property _ x1) = RefTexts x1
  ExprTexts (tree.run_property _) = Unit {0}
  ExprTexts (tree.function _ x1) = ExprTexts x1

  pub ExprsTexts : tree.Exprs → Type 0
  ExprsTexts tree.none = Unit {0}
  ExprsTexts (tree.more x0 x1) = ExprTexts x0 × ExprsTexts x1

  pub ChunkTexts : tree.Chunk → Type 0
  ChunkTexts (tree.piece _ x1) = ExprTexts x1
  ChunkTexts (tree.pieces _ x1 x2) = ExprTexts x1 × ExprTexts x2
  ChunkTexts (tree.nth_piece _ _) = Unit {0}

  pub WhichTexts : tree.Which → Type 0
  WhichTexts (tree.by_id x0) = ExprTexts x0
  WhichTexts (tree.by_text x0) = ExprTexts x0

  pub SelectorTexts : tree.Selector → Type 0
  SelectorTexts tree.this = Unit {0}
  SelectorTexts tree.next = Unit {0}
  SelectorTexts tree.previous = Unit {0}
  SelectorTexts (tree.nth _) = Unit {0}
  SelectorTexts (tree.which x0) = WhichTexts x0

  pub OwnerTexts : tree.Owner → Type 0
  OwnerTexts tree.no_owner = Unit {0}
  OwnerTexts (tree.on_card x0) = SelectorTexts x0
  OwnerTexts (tree.on_background x0) = SelectorTexts x0

  pub PartTexts : tree.Part → Type 0
  PartTexts (tree.part _ _ x2 x3) = WhichTexts x2 × OwnerTexts x3
  PartTexts (tree.nth_part _ _ _ x3) = OwnerTexts x3

  pub RefTexts : tree.Ref → Type 0
  RefTexts tree.me = Unit {0}
  RefTexts tree.the_target = Unit {0}
  RefTexts tree.this_stack = Unit {0}
  RefTexts (tree.card x0) = SelectorTexts x0
  RefTexts (tree.background x0) = SelectorTexts x0
  RefTexts (tree.a_part x0) = PartTexts x0

  pub CountTexts : tree.Count → Type 0
  CountTexts (tree.pieces_of _ x1) = ExprTexts x1
  CountTexts tree.cards = Unit {0}
  CountTexts tree.backgrounds = Unit {0}
  CountTexts (tree.parts _ _) = Unit {0}
  CountTexts (tree.of_object x0) = RefTexts x0

abbrev pub ContainerTexts : tree.Container → Type 0
ContainerTexts (tree.variable x0) = IsText x0
ContainerTexts (tree.in_field x0) = PartTexts x0
ContainerTexts (tree.in_chunk x0 x1) = ChunkTexts x0 × ContainerTexts x1

abbrev pub DestinationTexts : stm.Destination → Type 0
DestinationTexts (stm.to_card x0) = SelectorTexts x0
DestinationTexts (stm.to_background x0) = SelectorTexts x0

abbrev pub HeadTexts : stm.Head → Type 0
HeadTexts stm.forever = Unit {0}
HeadTexts (stm.times x0) = ExprTexts x0
HeadTexts (stm.while x0) = ExprTexts x0
HeadTexts (stm.until x0) = ExprTexts x0
HeadTexts (stm.counted_up x0 x1 x2) = IsText x0 × ExprTexts x1 × ExprTexts x2
HeadTexts (stm.counted_down x0 x1 x2) = IsText x0 × ExprTexts x1 × ExprTexts x2

abbrev mutual
  pub StmtTexts : stm.Stmt → Type 0
  StmtTexts (stm.put x0) = ExprTexts x0
  StmtTexts (stm.put_in _ x1 x2) = ExprTexts x1 × ContainerTexts x2
  StmtTexts (stm.get x0) = ExprTexts x0
  StmtTexts (stm.set _ x1 x2) = RefTexts x1 × ExprTexts x2
  StmtTexts (stm.set_run _ x1) = ExprTexts x1
  StmtTexts (stm.add x0 x1) = ExprTexts x0 × ContainerTexts x1
  StmtTexts (stm.subtract x0 x1) = ExprTexts x0 × ContainerTexts x1
  StmtTexts (stm.multiply x0 x1) = ContainerTexts x0 × ExprTexts x1
  StmtTexts (stm.divide x0 x1) = ContainerTexts x0 × ExprTexts x1
  StmtTexts (stm.delete x0 x1) = ChunkTexts x0 × ContainerTexts x1
  StmtTexts (stm.do_ x0) = ExprTexts x0
  StmtTexts (stm.send x0 x1) = ExprTexts x0 × RefTexts x1
  StmtTexts (stm.go x0) = DestinationTexts x0
  StmtTexts (stm.global x0) = AllByRecursion IsText x0
  StmtTexts stm.exit_repeat = Unit {0}
  StmtTexts stm.next_repeat = Unit {0}
  StmtTexts stm.exit_to_hypercard = Unit {0}
  StmtTexts (stm.exit x0) = IsText x0
  StmtTexts (stm.pass x0) = IsText x0
  StmtTexts stm.return_nothing = Unit {0}
  StmtTexts (stm.return_value x0) = ExprTexts x0
  StmtTexts (stm.command x0 x1) = IsText x0 × ExprsTexts x1
  StmtTexts (stm.when x0 x1 x2) = ExprTexts x0 × StmtsTexts x1 × StmtsTexts x2
  StmtTexts (stm.repeat x0 x1) = HeadTexts x0 × StmtsTexts x1

  pub StmtsTexts : stm.Stmts → Type 0
  StmtsTexts stm.stop = Unit {0}
  StmtsTexts (stm.also x0 x1) = StmtTexts x0 × StmtsTexts x1

abbrev pub HandlerTexts : stm.Handler → Type 0
HandlerTexts (stm.handler _ x1 x2 x3) = IsText x1 × AllByRecursion IsText x2 × StmtsTexts x3

abbrev pub HandlersTexts : stm.Handlers → Type 0
HandlersTexts stm.no_handlers = Unit {0}
HandlersTexts (stm.and_handler x0 x1) = HandlerTexts x0 × HandlersTexts x1

abbrev pub MessageTexts : stm.Message → Type 0
MessageTexts (stm.message x0 x1) = IsText x0 × ExprsTexts x1

abbrev pub TypedTexts : stm.Typed → Type 0
TypedTexts (stm.typed x0 x1) = IsText x0 × PartTexts x1

-- ---- what runs work on

abbrev pub AreTexts : List (List ℕ) → Type 0
AreTexts = AllByRecursion IsText

-- the item delimiter is a byte, and the result is a text
pub record RunTexts (r : RunState) : Type 0 where
  pub delimiter : r.delimiter < 256
  pub result : IsText r.result

-- the variables that have a value have a text
abbrev pub LocalsTexts : List Local → Type 0
LocalsTexts = AllByRecursion (λ l. IfSome l.value IsText)

abbrev pub FrameTexts : Frame → Type 0
FrameTexts f = LocalsTexts f.variables.locals

-- a global's name is a folded text
abbrev pub StorageTexts : StorageView → Type 0
StorageTexts (global name) = (is_folded name ≡ true) × IsText name
StorageTexts _ = Unit {0}

abbrev pub HowTexts : How → Type 0
HowTexts (Returns v) = IsText v
HowTexts _ = Unit {0}

abbrev pub InputTexts : Input → Type 0
InputTexts (Start vs) = AreTexts vs
InputTexts (Answer note v) = AreTexts note × IsText v

-- a turn of an external of texts
pub record LoggedTexts (turn : LoggedTurn) : Type 0 where
  pub before : All IsText turn.before
  pub input : InputTexts turn.input
  pub ask : AskTexts turn.ask
  pub cells : All IsText turn.cells

abbrev pub ActionTexts : Action → Type 0
ActionTexts (act.run_lines ss) = StmtsTexts ss
ActionTexts act.open_stack = Unit {0}
ActionTexts (act.click pa) = PartTexts pa
ActionTexts (act.type_text t pa) = IsText t × PartTexts pa

-- ---- what a text is read as

-- Of a text the tree that it is read as has texts alone.
abbrev pub TreesHaveTexts : {A : Type 0} → (List Token → A → Type 0) → (A → Type 0) → Type 0
TreesHaveTexts {A} IsRead HasTexts = (text : List ℕ) (tree : A) → IsText text → Reads IsRead text tree → HasTexts tree

abbrev pub ExpressionsHaveTexts : Type 0
ExpressionsHaveTexts = TreesHaveTexts ReadsExpr ExprTexts

abbrev pub TypedLinesHaveTexts : Type 0
TypedLinesHaveTexts = TreesHaveTexts ReadsLines StmtsTexts

abbrev pub SentMessagesHaveTexts : Type 0
SentMessagesHaveTexts = TreesHaveTexts ReadsMessage MessageTexts

abbrev pub ScriptsHaveTexts : Type 0
ScriptsHaveTexts = TreesHaveTexts ReadsScript HandlersTexts

abbrev pub ClickedPartsHaveTexts : Type 0
ClickedPartsHaveTexts = TreesHaveTexts ReadsPart PartTexts

abbrev pub TypedTextsHaveTexts : Type 0
TypedTextsHaveTexts = TreesHaveTexts ReadsType TypedTexts
