-- What is computed with as it is read: tokens begin with an expression, and this is its value.
use Rattle.std.specs.Prelude.{◌≡◌, ℕ, ◌-◌, ◌<◌, ◌≤◌, List, [], ◌∷◌, length, Some, None, Ok}
use Rattle.ht_values.specs.declared.operator.Func.{Func}
use Rattle.ht_values.specs.declared.operator.Op.{Op}
use Rattle.ht_values.specs.Operators.{binary}
use Rattle.ht_lex.specs.Token.{Token}
use Rattle.ht_grammar.specs.Trees.{Expr, Exprs, none, more}
use Rattle.ht_grammar.specs.declared.vocabulary.HandlerKind.TheVariants.{Function}
use Rattle.ht_grammar.specs.Depth.{depth, depths, max_depth}
use Rattle.ht_grammar.specs.Expressions.{Level, Derives, DerivesList}
use Rattle.ht_grammar.specs.Reads.{Reads, ReadsExpr}
use Rattle.change_journal.specs.History.{History}
use Rattle.meaning.specs.declared.frame.Frame.{Frame}
use Rattle.meaning.specs.Meaning.{Val, Vals, Sends}
use Rattle.meaning.specs.Messages.{Finds}
use Rattle.meaning.specs.State.{RunState, noted}
use Rattle.msg_path.specs.BuiltIns.{calls_function, external_named, built_in_named}
use Rattle.msg_path.specs.declared.built_in.BuiltIn.TheVariants.{Function as BuiltInFunction}
use Rattle.msg_path.specs.Path.{path}

-- the run after a function was called: a step was taken, and a message sent to this object
abbrev pub called : ℕ → RunState → List ℕ → RunState
called me r name = noted (record r { left = r.left - 1 }) name me

-- the run after these functions were called, one after another
abbrev pub after : ℕ → List (List ℕ) → RunState → RunState
after me [] r = r
after me (name ∷ names) r = after me names (called me r name)

-- The tokens begin with an expression of this part of the grammar, so deep, and then come others. It has this value in
-- any run that has steps for the calls, and computing it calls these functions behind those that were called before.
pub record Computed (w : History) (f : Frame) (p : Level) (ts : List Token) (old : List (List ℕ)) (v : List ℕ) (n : ℕ)
    (rest : List Token) (new : List (List ℕ)) : Type 0 where
  pub tree : Expr
  pub derives : Derives p ts tree rest
  pub deep : depth tree ≡ n
  pub fits : n ≤ max_depth
  pub grows : length old ≤ length new
  pub means : (r : RunState) (d : ℕ) → length new ≤ r.left
      → Val w (after f.me old r) f d tree (Ok v) w (after f.me new r)

-- The tokens begin with the right operand of an operator whose left operand has this value, and the operator gives v. The
-- operand is of this part of the grammar.
pub record ComputedRight (w : History) (f : Frame) (p : Level) (op : Op) (left : List ℕ) (ts : List Token)
    (old : List (List ℕ)) (v : List ℕ) (n : ℕ) (rest : List Token) (new : List (List ℕ)) : Type 0 where
  pub right : List ℕ
  pub computed : Computed w f p ts old right n rest new
  pub gives : binary op left right ≡ Ok v

-- expressions with others behind them
abbrev pub ahead_of : Exprs → Exprs → Exprs
ahead_of none es = es
ahead_of (more x xs) es = more x (ahead_of xs es)

-- The tokens begin with expressions, each with a comma behind it, and then come others. Their values stand behind those
-- that were there.
pub record ComputedList (w : History) (f : Frame) (ts : List Token) (old : List (List ℕ)) (before vs : List (List ℕ))
    (n : ℕ) (rest : List Token) (new : List (List ℕ)) : Type 0 where
  pub trees : Exprs
  pub derives : (es : Exprs) (end : List Token) → DerivesList rest es end → DerivesList ts (ahead_of trees es) end
  pub deep : depths trees ≡ n
  pub fits : n ≤ max_depth
  pub grows : length old ≤ length new
  pub means : (r : RunState) (d : ℕ) → length new ≤ r.left → (es : Exprs) (all : List (List ℕ)) (r2 : RunState)
      → Vals w (after f.me new r) f d es vs (Ok all) w r2
      → Vals w (after f.me old r) f d (ahead_of trees es) before (Ok all) w r2

-- The tokens begin with such expressions, the last of which has no comma behind it.
pub record ComputedAll (w : History) (f : Frame) (ts : List Token) (old : List (List ℕ)) (before vs : List (List ℕ))
    (n : ℕ) (rest : List Token) (new : List (List ℕ)) : Type 0 where
  pub trees : Exprs
  pub derives : DerivesList ts trees rest
  pub deep : depths trees ≡ n
  pub fits : n ≤ max_depth
  pub grows : length old ≤ length new
  pub means : (r : RunState) (d : ℕ) → length new ≤ r.left
      → Vals w (after f.me old r) f d trees before (Ok vs) w (after f.me new r)

-- The name is that of a function that is built in, and no script and no external handles a call of it.
pub record IsUnhandled (w : History) (f : Frame) (name : List ℕ) (function : Func) : Type 0 where
  pub unfound : Finds w.now.stack (path w.now.stack w.now.current f.me) Function name (Ok None)
  pub untitled : external_named w.now.externals (calls_function Function) name ≡ None
  pub built_in : built_in_named Function name ≡ Some (BuiltInFunction function)

-- A call of this function gives this value of these, in any run that has a step for it, and sends no other message.
abbrev pub CallGives : History → Frame → List ℕ → List (List ℕ) → List ℕ → Type 0
CallGives w f name vs v = (r : RunState) (d : ℕ) → 0 < r.left
    → Sends w r f d f.me name vs Function (Ok v) w (called f.me r name)

-- The text is read as an expression of this value, and computing it calls these functions.
pub record ComputedText (w : History) (f : Frame) (text v : List ℕ) (calls : List (List ℕ)) : Type 0 where
  pub tree : Expr
  pub reads : Reads ReadsExpr text tree
  pub means : (r : RunState) (d : ℕ) → length calls ≤ r.left → Val w r f d tree (Ok v) w (after f.me calls r)

-- The text is read as an expression, whose value is this in a run that goes on as another.
pub record TextMeans (w : History) (r : RunState) (f : Frame) (text v : List ℕ) (r2 : RunState) : Type 0 where
  pub tree : Expr
  pub reads : Reads ReadsExpr text tree
  pub means : (d : ℕ) → Val w r f d tree (Ok v) w r2
