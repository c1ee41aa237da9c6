-- What a function that reads ensures.
use Rattle.std.specs.Prelude.{◌≡◌, ◌≤◌, ℕ, List, Result, Ok, Err, Option, Some, None}
use Rattle.ht_lex.specs.Token.{Token}
use Rattle.ht_grammar.specs.Trees.{Expr}
use Rattle.ht_grammar.specs.Depth.{depth}
use Rattle.ht_grammar.specs.Reading.{Outcome}
use Rattle.ht_lex.specs.declared.stop.Stop.{Stop}
use Rattle.ht_lex.specs.declared.stop.Stop.TheVariants as stop

-- Memory may always be refused; else the tokens are no tree.
abbrev pub Fails : {A : Type 0} → Outcome A → Stop → Type 0
Fails read stop.Memory = Unit {0}
Fails read stop.Syntax = read ≡ None

-- The tree is what reading gives, with the tokens after it, and isn't deeper than this; a view tells which tree it is.
abbrev pub Reads : {C T : Type 0} → (C → T) → (T → ℕ) → ℕ → Outcome T → Result C Stop → List Token → Type 0
Reads view height limit read (Ok x) new = (read ≡ Some (view x, new)) × (height (view x) ≤ limit)
Reads view height limit read (Err e) new = Fails read e

-- an expression, which is its own tree
abbrev pub ReadsExpr : ℕ → Outcome Expr → Result Expr Stop → List Token → Type 0
ReadsExpr = Reads (λ x. x) depth

-- what is read without memory
abbrev pub Takes : {C T : Type 0} → (C → T) → Outcome T → Option C → List Token → Type 0
Takes view read (Some x) new = read ≡ Some (view x, new)
Takes view read None new = read ≡ None
