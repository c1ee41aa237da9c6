-- The grammar of expressions and references. `Derives p a e c`: the tokens a are those of an expression e, of the part
-- p of the grammar, and then c.
use Rattle.std.specs.Prelude.{◌≡◌, ℕ, suc, List, ◌∷◌, Bool, true, false, Option, Some, None, codes}
use Rattle.ht_lex.specs.declared.key.Key.{Key}
use Rattle.ht_lex.specs.declared.key.Key.TheVariants as k
use Rattle.ht_values.specs.declared.word.ChunkKind.{ChunkKind}
use Rattle.ht_values.specs.declared.word.PartKind.{PartKind}
use Rattle.ht_values.specs.declared.word.PartKind.TheVariants as part_kind
use Rattle.ht_lex.specs.declared.key.Ordinal.{Ordinal}
use Rattle.ht_lex.specs.declared.key.Constant.{Constant}
use Rattle.ht_lex.specs.Token.{Token, key, later}
use Rattle.ht_lex.specs.Token as token
use Rattle.ht_values.specs.declared.operator.Op.{Op}
use Rattle.ht_values.specs.declared.operator.Op.TheVariants as o
use Rattle.ht_values.specs.declared.operator.UnOp.TheVariants as un
use Rattle.ht_values.specs.declared.operator.UnOp.{UnOp}
use Rattle.ht_values.specs.declared.word.Prop.{Prop}
use Rattle.ht_grammar.specs.declared.vocabulary.RunProp.{RunProp}
use Rattle.ht_grammar.specs.declared.vocabulary.FunctionWord.{FunctionWord}
use Rattle.ht_grammar.specs.declared.vocabulary.Layer.{Layer}
use Rattle.ht_grammar.specs.declared.vocabulary.Layer.TheVariants as layer
use Rattle.ht_grammar.specs.Trees.{Expr, Exprs, Chunk, Which, Selector, Owner, Part, Ref, Count, Container, none, more}
use Rattle.ht_grammar.specs.Trees.{kind_of_part}
use Rattle.ht_grammar.specs.Trees as tree
use Rattle.ht_grammar.specs.Fronts.{infix_at, test_at, leading_operator, equality, after_of, past_the, same_name}
use Rattle.ht_grammar.specs.Fronts.{is_article, prop_front, short_of, run_prop, function_of}

-- Parts of the grammar that are read as expressions.
pub data Level : Type 0 where
  -- operators up to this rank
  rank : ℕ → Level
  power : Level
  prefixed : Level
  factor : Level
  primary : Level

-- a whole expression
abbrev pub whole : Level
whole = rank 7

-- `card` or `background`, written before a part; None where neither is
pub data DerivesLayer : List Token → Option Layer → List Token → Type 0 where
  no_layer : {c : List Token} → DerivesLayer c None c
  on_card : {c : List Token} → DerivesLayer (key k.Card ∷ c) (Some layer.Card) c
  on_background : {c : List Token} → DerivesLayer (key k.Background ∷ c) (Some layer.Background) c

-- the article of `there is`, and with true that there is none
pub data DerivesArticle : List Token → Bool → List Token → Type 0 where
  an : {w : List ℕ} {c : List Token} → is_article w ≡ true → DerivesArticle (token.name w ∷ c) false c
  no_ : {w : List ℕ} {c : List Token} → same_name w (codes "no") ≡ true → DerivesArticle (token.name w ∷ c) true c
  not_an : {w : List ℕ} {c : List Token} → is_article w ≡ true → DerivesArticle (key k.Not ∷ token.name w ∷ c) true c

mutual
  pub data Derives : Level → List Token → Expr → List Token → Type 0 where
    -- Operators of one rank are joined from the left.
    join : {n : ℕ} {a b c m : List Token} {op : Op} {x y : Expr} → Derives (rank (suc n)) a x m
        → leading_operator m ≡ infix_at (suc n) op b → Derives (rank n) b y c
        → Derives (rank (suc n)) a (tree.binary op x y) c
    -- `is a number`, and the like
    is_a : {a c m : List Token} {op : UnOp} {x : Expr} → Derives (rank equality) a x m
        → leading_operator m ≡ test_at op c
        → Derives (rank equality) a (tree.unary op x) c
    tighter : {n : ℕ} {a c : List Token} {x : Expr} → Derives (rank n) a x c → Derives (rank (suc n)) a x c
    tightest : {a c : List Token} {x : Expr} → Derives power a x c → Derives (rank 0) a x c
    -- `^` is joined from the right.
    raised : {a b c : List Token} {x y : Expr} → Derives prefixed a x (key k.Caret ∷ b) → Derives power b y c
        → Derives power a (tree.binary o.Power x y) c
    not_raised : {a c : List Token} {x : Expr} → Derives prefixed a x c → Derives power a x c
    minus : {a c : List Token} {x : Expr} → Derives prefixed a x c
        → Derives prefixed (key k.Minus ∷ a) (tree.unary un.Minus x) c
    not_ : {a c : List Token} {x : Expr} → Derives prefixed a x c
        → Derives prefixed (key k.Not ∷ a) (tree.unary un.Not x) c
    there_is : {a b c : List Token} {n : Bool} {r : Ref} → DerivesArticle a n b → DerivesRef b r c
        → Derives prefixed (key k.There ∷ key k.Is ∷ a) (tree.there_is n r) c
    no_prefix : {a c : List Token} {x : Expr} → Derives factor a x c → Derives prefixed a x c
    no_form : {a c : List Token} {x : Expr} → Derives primary a x c → Derives factor a x c
    chunk : {a b c m : List Token} {h : Chunk} {x : Expr} → DerivesChunk a h m → after_of m ≡ Some b
        → Derives factor b x c
        → Derives factor a (tree.chunk h x) c
    field : {a c : List Token} {p : Part} → DerivesPart a p c → kind_of_part p ≡ part_kind.Field
        → Derives factor a (tree.field p) c
    result : {w : List ℕ} {c : List Token} → same_name w (codes "result") ≡ true
        → Derives factor (key k.The ∷ token.name w ∷ c) tree.result c
    target : {w : List ℕ} {c : List Token} → same_name w (codes "target") ≡ true
        → Derives factor (key k.The ∷ token.name w ∷ c) tree.target c
    number_of : {a b c m : List Token} {n : Count} → past_the a ≡ key k.Number ∷ m → after_of m ≡ Some b
        → DerivesCount b n c
        → Derives factor a (tree.number_of n) c
    property : {b c m : List Token} {p : Prop} {r : Ref} → prop_front m ≡ Some p → after_of (later m) ≡ Some b
        → DerivesRef b r c → Derives factor (key k.The ∷ m) (tree.property p r) c
    short_property : {w : List ℕ} {b c m : List Token} {p q : Prop} {r : Ref} → same_name w (codes "short") ≡ true
        → prop_front m ≡ Some p → short_of p ≡ Some q → after_of (later m) ≡ Some b → DerivesRef b r c
        → Derives factor (key k.The ∷ token.name w ∷ m) (tree.property q r) c
    run_property : {w : List ℕ} {c : List Token} {p : RunProp} → run_prop w ≡ Some p
        → Derives factor (key k.The ∷ token.name w ∷ c) (tree.run_property p) c
    function : {w : List ℕ} {b c m : List Token} {f : FunctionWord} {x : Expr} → function_of w ≡ Some f
        → after_of m ≡ Some b
        → Derives factor b x c → Derives factor (key k.The ∷ token.name w ∷ m) (tree.function f x) c
    number : {w : List ℕ} {c : List Token} → Derives primary (token.number w ∷ c) (tree.number w) c
    quoted : {w : List ℕ} {c : List Token} → Derives primary (token.quoted w ∷ c) (tree.quoted w) c
    paren : {a c : List Token} {x : Expr} → Derives whole a x (key k.RightParen ∷ c)
        → Derives primary (key k.LeftParen ∷ a) (tree.paren x) c
    constant : {n : Constant} {c : List Token} → Derives primary (key (k.Constant n) ∷ c) (tree.constant n) c
    return_ : {c : List Token} → Derives primary (key k.Return ∷ c) tree.return_ c
    call : {w : List ℕ} {a c : List Token} {xs : Exprs} → DerivesList a xs (key k.RightParen ∷ c)
        → Derives primary (token.name w ∷ key k.LeftParen ∷ a) (tree.call w xs) c
    call_bare : {w : List ℕ} {c : List Token}
        → Derives primary (token.name w ∷ key k.LeftParen ∷ key k.RightParen ∷ c) (tree.call w none) c
    name : {w : List ℕ} {c : List Token} → Derives primary (token.name w ∷ c) (tree.name w) c

  -- One expression or more, with commas between.
  pub data DerivesList : List Token → Exprs → List Token → Type 0 where
    alone : {a c : List Token} {x : Expr} → Derives whole a x c → DerivesList a (more x none) c
    followed : {a b c : List Token} {x : Expr} {xs : Exprs} → Derives whole a x (key k.CommaSign ∷ b)
        → DerivesList b xs c
        → DerivesList a (more x xs) c

  -- The head of a chunk, up to its `of`.
  pub data DerivesChunk : List Token → Chunk → List Token → Type 0 where
    piece : {p : ChunkKind} {a c : List Token} {i : Expr} → Derives whole a i c
        → DerivesChunk (key (k.Piece p) ∷ a) (tree.piece p i) c
    pieces : {p : ChunkKind} {a b c : List Token} {i j : Expr} → Derives whole a i (key k.To ∷ b) → Derives whole b j c
        → DerivesChunk (key (k.Piece p) ∷ a) (tree.pieces p i j) c
    nth_piece : {n : Ordinal} {p : ChunkKind} {a c : List Token} → past_the a ≡ key (k.Ordinal n) ∷ key (k.Piece p) ∷ c
        → DerivesChunk a (tree.nth_piece n p) c

  pub data DerivesCount : List Token → Count → List Token → Type 0 where
    pieces_of : {p : ChunkKind} {b c m : List Token} {x : Expr} → after_of m ≡ Some b → Derives factor b x c
        → DerivesCount (key (k.Pieces p) ∷ m) (tree.pieces_of p x) c
    cards : {c : List Token} → DerivesCount (key k.Cards ∷ c) tree.cards c
    backgrounds : {c : List Token} → DerivesCount (key k.Backgrounds ∷ c) tree.backgrounds c
    parts : {p : PartKind} {a c : List Token} {l : Option Layer} → DerivesLayer a l (key (k.Parts p) ∷ c)
        → DerivesCount a (tree.parts l p) c
    of_object : {a c : List Token} {r : Ref} → DerivesRef a r c → DerivesCount a (tree.of_object r) c

  pub data DerivesRef : List Token → Ref → List Token → Type 0 where
    me : {c : List Token} → DerivesRef (key k.Me ∷ c) tree.me c
    the_target : {w : List ℕ} {c : List Token} → same_name w (codes "target") ≡ true
        → DerivesRef (key k.The ∷ token.name w ∷ c) tree.the_target c
    this_stack : {c : List Token} → DerivesRef (key k.This ∷ key k.Stack ∷ c) tree.this_stack c
    card : {a c : List Token} {p : Selector} → DerivesSelector k.Card a p c → DerivesRef a (tree.card p) c
    background : {a c : List Token} {p : Selector} → DerivesSelector k.Background a p c
        → DerivesRef a (tree.background p) c
    a_part : {a c : List Token} {p : Part} → DerivesPart a p c → DerivesRef a (tree.a_part p) c

  -- A card, or a background, as the key says.
  pub data DerivesSelector : Key → List Token → Selector → List Token → Type 0 where
    this : {h : Key} {c : List Token} → DerivesSelector h (key k.This ∷ key h ∷ c) tree.this c
    next : {h : Key} {c : List Token} → DerivesSelector h (key k.Next ∷ key h ∷ c) tree.next c
    previous : {h : Key} {c : List Token} → DerivesSelector h (key k.Previous ∷ key h ∷ c) tree.previous c
    nth : {h : Key} {n : Ordinal} {c : List Token} → DerivesSelector h (key (k.Ordinal n) ∷ key h ∷ c) (tree.nth n) c
    which : {h : Key} {a c : List Token} {w : Which} → DerivesWhich a w c
        → DerivesSelector h (key h ∷ a) (tree.which w) c

  pub data DerivesWhich : List Token → Which → List Token → Type 0 where
    by_id : {a c : List Token} {x : Expr} → Derives primary a x c → DerivesWhich (key k.Id ∷ a) (tree.by_id x) c
    by_text : {a c : List Token} {x : Expr} → Derives primary a x c → DerivesWhich a (tree.by_text x) c

  pub data DerivesPart : List Token → Part → List Token → Type 0 where
    part : {p : PartKind} {a b c m : List Token} {l : Option Layer} {w : Which} {o : Owner}
        → DerivesLayer a l (key (k.Part p) ∷ b) → DerivesWhich b w m → DerivesOwner m o c
        → DerivesPart a (tree.part l p w o) c
    nth_part : {n : Ordinal} {p : PartKind} {a c m : List Token} {l : Option Layer} {o : Owner}
        → DerivesLayer a l (key (k.Part p) ∷ m) → DerivesOwner m o c
        → DerivesPart (key (k.Ordinal n) ∷ a) (tree.nth_part n l p o) c

  -- The owner of a part, if it has one.
  pub data DerivesOwner : List Token → Owner → List Token → Type 0 where
    no_owner : {c : List Token} → DerivesOwner c tree.no_owner c
    of_card : {b c m : List Token} {p : Selector} → after_of m ≡ Some b → DerivesSelector k.Card b p c
        → DerivesOwner m (tree.on_card p) c
    of_background : {b c m : List Token} {p : Selector} → after_of m ≡ Some b → DerivesSelector k.Background b p c
        → DerivesOwner m (tree.on_background p) c

pub data DerivesContainer : List Token → Container → List Token → Type 0 where
  variable : {w : List ℕ} {c : List Token} → DerivesContainer (token.name w ∷ c) (tree.variable w) c
  in_field : {a c : List Token} {p : Part} → DerivesPart a p c → kind_of_part p ≡ part_kind.Field
      → DerivesContainer a (tree.in_field p) c
  in_chunk : {a b c m : List Token} {h : Chunk} {x : Container} → DerivesChunk a h m → after_of m ≡ Some b
      → DerivesContainer b x c → DerivesContainer a (tree.in_chunk h x) c
