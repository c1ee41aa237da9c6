-- The grammar of statements, handlers and scripts. `DerivesStmt x a s c`: in the context x the tokens a are those of
-- the statement s, and then c.
use Rattle.std.specs.Prelude.{◌≡◌, ℕ, List, [], ◌∷◌, Bool, true, false, Option, Some, None, is_some, codes}
use Rattle.ht_lex.specs.declared.key.Key.{Key}
use Rattle.ht_lex.specs.declared.key.Key.TheVariants as k
use Rattle.ht_lex.specs.declared.key.Ordinal.{Ordinal}
use Rattle.ht_lex.specs.Token.{Token, key, later}
use Rattle.ht_lex.specs.Token as token
use Rattle.ht_values.specs.declared.word.Prop.{Prop}
use Rattle.ht_grammar.specs.declared.vocabulary.RunProp.{RunProp}
use Rattle.ht_values.specs.declared.word.Where.{Where}
use Rattle.ht_values.specs.declared.word.Where.TheVariants as place
use Rattle.ht_grammar.specs.declared.vocabulary.HandlerKind.{HandlerKind}
use Rattle.ht_grammar.specs.declared.vocabulary.HandlerKind.TheVariants as handler_kind
use Rattle.ht_grammar.specs.Trees.{Expr, Exprs, Chunk, Selector, Ref, Container, none}
use Rattle.ht_grammar.specs.Trees as tree
use Rattle.ht_grammar.specs.Statements.{Destination, Head, Stmt, Stmts, Handler, Handlers, Message, stop, also}
use Rattle.ht_grammar.specs.Statements as s
use Rattle.ht_grammar.specs.Fronts.{after_of, past_the, same_name, prop_front, run_prop}
use Rattle.ht_grammar.specs.Ends.{past_ends, ended, past_for, past_to, past_times}
use Rattle.ht_grammar.specs.Expressions.{Derives, DerivesList, DerivesChunk, DerivesRef, DerivesSelector}
use Rattle.ht_grammar.specs.Expressions.{DerivesContainer, whole}

-- Where a statement stands: inside a repeat or not, and in the handler of which name, if in one.
pub record Context : Type 0 where
  pub in_repeat : Bool
  pub handler : Option (List ℕ)

-- a typed line, `do` and a call-back
abbrev pub at_large : Context
at_large = record { in_repeat = false; handler = None }

abbrev pub in_handler : List ℕ → Context
in_handler w = record { in_repeat = false; handler = Some w }

abbrev pub inside_repeat : Context → Context
inside_repeat x = record { in_repeat = true; handler = x.handler }

-- Whether this is the name of the handler.
abbrev pub names_handler : Option (List ℕ) → List ℕ → Bool
names_handler None w = false
names_handler (Some v) w = same_name v w

abbrev pub place_of : Key → Option Where
place_of k.Into = Some place.Into
place_of k.Before = Some place.Before
place_of k.After = Some place.After
place_of _ = None

abbrev pub kind_of_handler : Key → Option HandlerKind
kind_of_handler k.On = Some handler_kind.Command
kind_of_handler k.Function = Some handler_kind.Function
kind_of_handler _ = None

-- One name or more, with commas between.
pub data DerivesNames : List Token → List (List ℕ) → List Token → Type 0 where
  one_name : {w : List ℕ} {c : List Token} → DerivesNames (token.name w ∷ c) (w ∷ []) c
  more_names : {w : List ℕ} {ws : List (List ℕ)} {a c : List Token} → DerivesNames a ws c
      → DerivesNames (token.name w ∷ key k.CommaSign ∷ a) (w ∷ ws) c

-- where `go` goes; without a word it is a card
pub data DerivesDestination : List Token → Destination → List Token → Type 0 where
  destination_card : {a c : List Token} {p : Selector} → DerivesSelector k.Card a p c
      → DerivesDestination a (s.to_card p) c
  destination_background : {a c : List Token} {p : Selector} → DerivesSelector k.Background a p c
      → DerivesDestination a (s.to_background p) c
  this_alone : {c : List Token} → DerivesDestination (key k.This ∷ c) (s.to_card tree.this) c
  next_alone : {c : List Token} → DerivesDestination (key k.Next ∷ c) (s.to_card tree.next) c
  previous_alone : {c : List Token} → DerivesDestination (key k.Previous ∷ c) (s.to_card tree.previous) c
  nth_alone : {n : Ordinal} {c : List Token} → DerivesDestination (key (k.Ordinal n) ∷ c) (s.to_card (tree.nth n)) c

pub data DerivesSimple : Context → List Token → Stmt → List Token → Type 0 where
  put : {x : Context} {a c : List Token} {e : Expr} → Derives whole a e c → DerivesSimple x (key k.Put ∷ a) (s.put e) c
  put_in : {x : Context} {h : Key} {a b c : List Token} {w : Where} {e : Expr} {t : Container}
      → Derives whole a e (key h ∷ b)
      → place_of h ≡ Some w → DerivesContainer b t c → DerivesSimple x (key k.Put ∷ a) (s.put_in w e t) c
  get : {x : Context} {a c : List Token} {e : Expr} → Derives whole a e c → DerivesSimple x (key k.Get ∷ a) (s.get e) c
  set : {x : Context} {a b c m : List Token} {p : Prop} {r : Ref} {e : Expr} → prop_front (past_the a) ≡ Some p
      → after_of (later (past_the a)) ≡ Some b → DerivesRef b r (key k.To ∷ m) → Derives whole m e c
      → DerivesSimple x (key k.Set ∷ a) (s.set p r e) c
  set_run : {x : Context} {w : List ℕ} {a c m : List Token} {p : RunProp} {e : Expr}
      → past_the a ≡ token.name w ∷ key k.To ∷ m
      → run_prop w ≡ Some p → Derives whole m e c → DerivesSimple x (key k.Set ∷ a) (s.set_run p e) c
  add : {x : Context} {a b c : List Token} {e : Expr} {t : Container} → Derives whole a e (key k.To ∷ b)
      → DerivesContainer b t c → DerivesSimple x (key k.Add ∷ a) (s.add e t) c
  subtract : {x : Context} {a b c : List Token} {e : Expr} {t : Container} → Derives whole a e (key k.From ∷ b)
      → DerivesContainer b t c → DerivesSimple x (key k.Subtract ∷ a) (s.subtract e t) c
  multiply : {x : Context} {a b c : List Token} {t : Container} {e : Expr} → DerivesContainer a t (key k.By ∷ b)
      → Derives whole b e c → DerivesSimple x (key k.Multiply ∷ a) (s.multiply t e) c
  divide : {x : Context} {a b c : List Token} {t : Container} {e : Expr} → DerivesContainer a t (key k.By ∷ b)
      → Derives whole b e c → DerivesSimple x (key k.Divide ∷ a) (s.divide t e) c
  delete : {x : Context} {a b c m : List Token} {h : Chunk} {t : Container} → DerivesChunk a h m → after_of m ≡ Some b
      → DerivesContainer b t c → DerivesSimple x (key k.Delete ∷ a) (s.delete h t) c
  do_ : {x : Context} {a c : List Token} {e : Expr} → Derives whole a e c → DerivesSimple x (key k.Do ∷ a) (s.do_ e) c
  send : {x : Context} {a b c : List Token} {e : Expr} {r : Ref} → Derives whole a e (key k.To ∷ b) → DerivesRef b r c
      → DerivesSimple x (key k.Send ∷ a) (s.send e r) c
  go : {x : Context} {a c : List Token} {g : Destination} → DerivesDestination (past_to a) g c
      → DerivesSimple x (key k.Go ∷ a) (s.go g) c
  global : {x : Context} {a c : List Token} {ws : List (List ℕ)} → DerivesNames a ws c
      → DerivesSimple x (key k.Global ∷ a) (s.global ws) c
  exit_repeat : {x : Context} {c : List Token} → x.in_repeat ≡ true
      → DerivesSimple x (key k.Exit ∷ key k.Repeat ∷ c) s.exit_repeat c
  next_repeat : {x : Context} {c : List Token} → x.in_repeat ≡ true
      → DerivesSimple x (key k.Next ∷ key k.Repeat ∷ c) s.next_repeat c
  exit_to_hypercard : {x : Context} {w : List ℕ} {c : List Token} → same_name w (codes "HyperCard") ≡ true
      → DerivesSimple x (key k.Exit ∷ key k.To ∷ token.name w ∷ c) s.exit_to_hypercard c
  exit : {x : Context} {w : List ℕ} {c : List Token} → names_handler x.handler w ≡ true
      → DerivesSimple x (key k.Exit ∷ token.name w ∷ c) (s.exit w) c
  pass : {x : Context} {w : List ℕ} {c : List Token} → names_handler x.handler w ≡ true
      → DerivesSimple x (key k.Pass ∷ token.name w ∷ c) (s.pass w) c
  return_nothing : {x : Context} {c : List Token} → is_some x.handler ≡ true
      → DerivesSimple x (key k.Return ∷ c) s.return_nothing c
  return_value : {x : Context} {a c : List Token} {e : Expr} → is_some x.handler ≡ true → Derives whole a e c
      → DerivesSimple x (key k.Return ∷ a) (s.return_value e) c
  command_bare : {x : Context} {w : List ℕ} {c : List Token} → DerivesSimple x (token.name w ∷ c) (s.command w none) c
  command : {x : Context} {w : List ℕ} {a c : List Token} {es : Exprs} → DerivesList a es c
      → DerivesSimple x (token.name w ∷ a) (s.command w es) c

-- after `repeat`
pub data DerivesHead : List Token → Head → List Token → Type 0 where
  no_head : {c : List Token} → DerivesHead c s.forever c
  forever : {c : List Token} → DerivesHead (key k.Forever ∷ c) s.forever c
  times : {a m : List Token} {e : Expr} → Derives whole (past_for a) e m → DerivesHead a (s.times e) (past_times m)
  while : {a c : List Token} {e : Expr} → Derives whole a e c → DerivesHead (key k.While ∷ a) (s.while e) c
  until : {a c : List Token} {e : Expr} → Derives whole a e c → DerivesHead (key k.Until ∷ a) (s.until e) c
  counted_up : {w : List ℕ} {a b c : List Token} {e f : Expr} → Derives whole a e (key k.To ∷ b) → Derives whole b f c
      → DerivesHead (key k.With ∷ token.name w ∷ key k.Equal ∷ a) (s.counted_up w e f) c
  counted_down : {w v : List ℕ} {a b c : List Token} {e f : Expr} → Derives whole a e (token.name v ∷ key k.To ∷ b)
      → same_name v (codes "down") ≡ true → Derives whole b f c
      → DerivesHead (key k.With ∷ token.name w ∷ key k.Equal ∷ a) (s.counted_down w e f) c

mutual
  pub data DerivesStmt : Context → List Token → Stmt → List Token → Type 0 where
    simple : {x : Context} {a c : List Token} {t : Stmt} → DerivesSimple x a t c → DerivesStmt x a t c
    -- A statement stands on the line of `then`; an `else` after it, on a later line too, belongs to it where a
    -- statement stands on its line.
    short : {x : Context} {a b c m : List Token} {e : Expr} {t : Stmt} → Derives whole a e m
        → past_ends m ≡ key k.Then ∷ b
        → DerivesSimple x b t c → DerivesStmt x (key k.If ∷ a) (s.when e (also t stop) stop) c
    short_else : {x : Context} {a b c d m n : List Token} {e : Expr} {t u : Stmt} → Derives whole a e m
        → past_ends m ≡ key k.Then ∷ b → DerivesSimple x b t n → past_ends n ≡ key k.Else ∷ d → DerivesSimple x d u c
        → DerivesStmt x (key k.If ∷ a) (s.when e (also t stop) (also u stop)) c
    -- The lines of `then` begin on the next line.
    long : {x : Context} {a b c l m n : List Token} {e : Expr} {ss os : Stmts} → Derives whole a e m
        → past_ends m ≡ key k.Then ∷ b → ended b ≡ Some l → DerivesLines x l ss n → DerivesElse x n os c
        → DerivesStmt x (key k.If ∷ a) (s.when e ss os) c
    repeat : {x : Context} {a c l m : List Token} {h : Head} {ss : Stmts} → DerivesHead a h m → ended m ≡ Some l
        → DerivesLines (inside_repeat x) l ss (key k.End ∷ key k.Repeat ∷ c)
        → DerivesStmt x (key k.Repeat ∷ a) (s.repeat h ss) c

  -- Statements, each with the end of its line. Blank lines belong to that end.
  pub data DerivesLines : Context → List Token → Stmts → List Token → Type 0 where
    done : {x : Context} {c : List Token} → DerivesLines x c stop c
    line : {x : Context} {a b c m : List Token} {t : Stmt} {ts : Stmts} → DerivesStmt x a t m → ended m ≡ Some b
        → DerivesLines x b ts c → DerivesLines x a (also t ts) c

  -- after the lines of `then`, up to `end if`
  pub data DerivesElse : Context → List Token → Stmts → List Token → Type 0 where
    end_if : {x : Context} {c : List Token} → DerivesElse x (key k.End ∷ key k.If ∷ c) stop c
    else_lines : {x : Context} {a c l : List Token} {ss : Stmts} → ended a ≡ Some l
        → DerivesLines x l ss (key k.End ∷ key k.If ∷ c) → DerivesElse x (key k.Else ∷ a) ss c
    -- an `if` in the else part
    else_if : {x : Context} {a b c l m n : List Token} {e : Expr} {ss os : Stmts} → Derives whole a e m
        → past_ends m ≡ key k.Then ∷ b → ended b ≡ Some l → DerivesLines x l ss n → DerivesElse x n os c
        → DerivesElse x (key k.Else ∷ key k.If ∷ a) (also (s.when e ss os) stop) c

-- the names of parameters, if there are any
pub data DerivesParams : List Token → List (List ℕ) → List Token → Type 0 where
  no_params : {c : List Token} → DerivesParams c [] c
  params : {a c : List Token} {ws : List (List ℕ)} → DerivesNames a ws c → DerivesParams a ws c

pub data DerivesHandler : List Token → Handler → List Token → Type 0 where
  handler : {h : Key} {f : HandlerKind} {w v : List ℕ} {ps : List (List ℕ)} {ss : Stmts} {a c l m n : List Token}
      → kind_of_handler h ≡ Some f → DerivesParams a ps m → ended m ≡ Some l
      → DerivesLines (in_handler w) l ss (key k.End ∷ token.name v ∷ n) → same_name w v ≡ true → ended n ≡ Some c
      → DerivesHandler (key h ∷ token.name w ∷ a) (s.handler f w ps ss) c

pub data DerivesHandlers : List Token → Handlers → Type 0 where
  no_handlers : DerivesHandlers [] s.no_handlers
  and_handler : {a b : List Token} {h : Handler} {hs : Handlers} → DerivesHandler a h b → DerivesHandlers b hs
      → DerivesHandlers a (s.and_handler h hs)

-- the text of `send`
pub data DerivesMessage : List Token → Message → Type 0 where
  message_bare : {w : List ℕ} → DerivesMessage (token.name w ∷ []) (s.message w none)
  message_given : {w : List ℕ} {a : List Token} {es : Exprs} → DerivesList a es []
      → DerivesMessage (token.name w ∷ a) (s.message w es)
