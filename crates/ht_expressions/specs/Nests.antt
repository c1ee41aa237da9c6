-- Levels of expressions, and a function value that reads them.
use Rattle.std.specs.Prelude.{◌≤◌, ℕ, List, Result}
use Rattle.std.specs.declared.alloc.Global.{Global}
use denote.Ref.{MutBor}
use Rattle.ht_lex.specs.Token.{Token}
use Rattle.ht_grammar.specs.Trees.{Expr}
use Rattle.ht_grammar.specs.Depth.{max_depth}
use Rattle.ht_grammar.specs.Expressions as e
use Rattle.ht_grammar.specs.Reading.{read}
use Rattle.ht_lex.specs.declared.stop.Stop.{Stop}
use Rattle.ht_expressions.specs.declared.grammar.Level.{Level}
use Rattle.ht_expressions.specs.declared.grammar.Level.TheVariants.{Rank, Power, Prefixed, Factor, Primary}
use Rattle.ht_expressions.specs.Answer.{ReadsExpr}

abbrev pub level_of : Level → e.Level
level_of (Rank n) = e.rank n
level_of Power = e.power
level_of Prefixed = e.prefixed
level_of Factor = e.factor
level_of Primary = e.primary

-- Ranks go up to 7.
abbrev pub IsRanked : Level → Type 0
IsRanked (Rank n) = n ≤ 7
IsRanked Power = Unit {0}
IsRanked Prefixed = Unit {0}
IsRanked Factor = Unit {0}
IsRanked Primary = Unit {0}

-- It may be called at this depth, and reads expressions that aren't deeper.
pub record Nests (d : ℕ) (pre : Global → MutBor (List Token) → Level → ℕ → Type 0)
    (post : Global → MutBor (List Token) → Level → ℕ → Result Expr Stop → MutBor (List Token) → Type 0) : Type 0 where
  pub shallow : d ≤ max_depth
  pub callable : (alloc : Global) (old : MutBor (List Token)) (l : Level) → IsRanked l → pre alloc old l d
  pub reads : (alloc : Global) (old new : MutBor (List Token)) (l : Level) (r : Result Expr Stop)
      → post alloc old l d r new
      → ReadsExpr d (read d (level_of l) old.now) r new.now
