-- Trees of expressions and references.
use Rattle.std.specs.Prelude.{ℕ, List, Bool, Option}
use Rattle.ht_values.specs.declared.word.ChunkKind.{ChunkKind}
use Rattle.ht_values.specs.declared.word.PartKind.{PartKind}
use Rattle.ht_lex.specs.declared.key.Ordinal.{Ordinal}
use Rattle.ht_lex.specs.declared.key.Constant.{Constant}
use Rattle.ht_values.specs.declared.operator.Op.{Op}
use Rattle.ht_values.specs.declared.operator.UnOp.{UnOp}
use Rattle.ht_values.specs.declared.word.Prop.{Prop}
use Rattle.ht_grammar.specs.declared.vocabulary.RunProp.{RunProp}
use Rattle.ht_grammar.specs.declared.vocabulary.FunctionWord.{FunctionWord}
use Rattle.ht_grammar.specs.declared.vocabulary.Layer.{Layer}

mutual
  -- An expression.
  pub data Expr : Type 0 where
    number : List ℕ → Expr
    quoted : List ℕ → Expr
    constant : Constant → Expr
    -- the constant `return`
    return_ : Expr
    name : List ℕ → Expr
    paren : Expr → Expr
    call : List ℕ → Exprs → Expr
    binary : Op → Expr → Expr → Expr
    unary : UnOp → Expr → Expr
    -- `there is a`, or with true `there is no`
    there_is : Bool → Ref → Expr
    -- pieces of an expression's text
    chunk : Chunk → Expr → Expr
    -- the text of a field
    field : Part → Expr
    result : Expr
    target : Expr
    number_of : Count → Expr
    property : Prop → Ref → Expr
    run_property : RunProp → Expr
    -- `the length of`, and the like
    function : FunctionWord → Expr → Expr

  -- Expressions with commas between.
  pub data Exprs : Type 0 where
    none : Exprs
    more : Expr → Exprs → Exprs

  -- Which pieces of a text.
  pub data Chunk : Type 0 where
    piece : ChunkKind → Expr → Chunk
    pieces : ChunkKind → Expr → Expr → Chunk
    nth_piece : Ordinal → ChunkKind → Chunk

  -- Which object: by its id, or by its number or name.
  pub data Which : Type 0 where
    by_id : Expr → Which
    by_text : Expr → Which

  -- Which card or background.
  pub data Selector : Type 0 where
    this : Selector
    next : Selector
    previous : Selector
    nth : Ordinal → Selector
    which : Which → Selector

  -- The card or background on which a part is looked for.
  pub data Owner : Type 0 where
    no_owner : Owner
    on_card : Selector → Owner
    on_background : Selector → Owner

  -- A button or a field, with the layer that is written before it.
  pub data Part : Type 0 where
    part : Option Layer → PartKind → Which → Owner → Part
    nth_part : Ordinal → Option Layer → PartKind → Owner → Part

  -- A reference to an object.
  pub data Ref : Type 0 where
    me : Ref
    the_target : Ref
    this_stack : Ref
    card : Selector → Ref
    background : Selector → Ref
    a_part : Part → Ref

  -- What `the number of` counts, or the object whose number it is.
  pub data Count : Type 0 where
    pieces_of : ChunkKind → Expr → Count
    cards : Count
    backgrounds : Count
    parts : Option Layer → PartKind → Count
    of_object : Ref → Count

-- Where a text is put.
pub data Container : Type 0 where
  variable : List ℕ → Container
  in_field : Part → Container
  in_chunk : Chunk → Container → Container

-- The kind of a part.
abbrev pub kind_of_part : Part → PartKind
kind_of_part (part l k w o) = k
kind_of_part (nth_part n l k o) = k

-- The owner of a part.
abbrev pub owner_of : Part → Owner
owner_of (part l k w o) = o
owner_of (nth_part n l k o) = o
