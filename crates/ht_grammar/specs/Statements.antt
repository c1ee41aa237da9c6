-- Trees of statements, handlers and scripts.
use Rattle.std.specs.Prelude.{ℕ, List}
use Rattle.ht_values.specs.declared.word.Prop.{Prop}
use Rattle.ht_grammar.specs.declared.vocabulary.RunProp.{RunProp}
use Rattle.ht_values.specs.declared.word.Where.{Where}
use Rattle.ht_grammar.specs.declared.vocabulary.HandlerKind.{HandlerKind}
use Rattle.ht_grammar.specs.Trees.{Expr, Exprs, Chunk, Selector, Part, Ref, Container}

-- Where `go` goes. Without a word it is a card.
pub data Destination : Type 0 where
  to_card : Selector → Destination
  to_background : Selector → Destination

-- How often `repeat` does its lines.
pub data Head : Type 0 where
  forever : Head
  times : Expr → Head
  while : Expr → Head
  until : Expr → Head
  counted_up : List ℕ → Expr → Expr → Head
  counted_down : List ℕ → Expr → Expr → Head

mutual
  -- A statement.
  pub data Stmt : Type 0 where
    -- `put` alone shows a line
    put : Expr → Stmt
    put_in : Where → Expr → Container → Stmt
    get : Expr → Stmt
    set : Prop → Ref → Expr → Stmt
    set_run : RunProp → Expr → Stmt
    add : Expr → Container → Stmt
    subtract : Expr → Container → Stmt
    multiply : Container → Expr → Stmt
    divide : Container → Expr → Stmt
    delete : Chunk → Container → Stmt
    do_ : Expr → Stmt
    send : Expr → Ref → Stmt
    go : Destination → Stmt
    -- one name or more
    global : List (List ℕ) → Stmt
    exit_repeat : Stmt
    next_repeat : Stmt
    exit_to_hypercard : Stmt
    exit : List ℕ → Stmt
    pass : List ℕ → Stmt
    return_nothing : Stmt
    return_value : Expr → Stmt
    command : List ℕ → Exprs → Stmt
    -- with what is done otherwise
    when : Expr → Stmts → Stmts → Stmt
    repeat : Head → Stmts → Stmt

  -- Statements, one after another.
  pub data Stmts : Type 0 where
    stop : Stmts
    also : Stmt → Stmts → Stmts

-- A handler: its kind, its name, the names of its parameters, its lines.
pub data Handler : Type 0 where
  handler : HandlerKind → List ℕ → List (List ℕ) → Stmts → Handler

-- The handlers of a script, in order.
pub data Handlers : Type 0 where
  no_handlers : Handlers
  and_handler : Handler → Handlers → Handlers

-- A text for `send`: a name and arguments.
pub data Message : Type 0 where
  message : List ℕ → Exprs → Message

-- A text that is typed, and the field for it.
pub data Typed : Type 0 where
  typed : List ℕ → Part → Typed
