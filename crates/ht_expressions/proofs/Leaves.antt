-- What an operand or an element of a list is read as that is one token alone.
use Rattle.std.proofs.Common.{◌≡◌, ℕ, ◌-◌, ◌<◌, List, [], ◌∷◌, Some, refl, ap, ◌∙◌, arith}
use Rattle.ht_lex.specs.declared.key.Key.TheVariants as k
use Rattle.ht_lex.specs.declared.key.TokenKind.TheVariants as kind
use Rattle.ht_lex.specs.Token.{Token, name, number, quoted, key, eol, first_kind, first_text, later}
use Rattle.ht_grammar.specs.Trees.{Expr}
use Rattle.ht_grammar.specs.Trees as t
use Rattle.ht_grammar.specs.Fronts.{leading_operator}
use Rattle.ht_grammar.specs.Expressions.{rank}
use Rattle.ht_grammar.specs.Reading.{read, and_then, level_at, prefixed_at, power_at, power_end}
use Rattle.ht_grammar.specs.Reading.{factor_at, primary_at, named_by}
use Rattle.ht_expressions.specs.Fronts.{rank_of, end_rank}
use Rattle.ht_expressions.proofs.Deeper.{read_deeper}
use Rattle.ht_expressions.proofs.Ranks.{rank_below}

-- one token tells the rank of the operator that comes next, or that none does
pub known_rank : (us : List Token) → 0 < end_rank (first_kind us) → rank_of (leading_operator us) ≡ end_rank (first_kind us)
unfolding leading_operator
known_rank [] less = refl
known_rank (eol ∷ us) less = refl
known_rank (key k.CommaSign ∷ us) less = refl
known_rank (key k.RightParen ∷ us) less = refl
known_rank (key k.Or ∷ us) less = refl
known_rank (key k.And ∷ us) less = refl
known_rank (key k.Equal ∷ us) less = refl
known_rank (key k.NotEqual ∷ us) less = refl
known_rank (key k.Less ∷ us) less = refl
known_rank (key k.Greater ∷ us) less = refl
known_rank (key k.LessEqual ∷ us) less = refl
known_rank (key k.GreaterEqual ∷ us) less = refl
known_rank (key k.Contains ∷ us) less = refl
known_rank (key k.Ampersand ∷ us) less = refl
known_rank (key k.DoubleAmpersand ∷ us) less = refl
known_rank (key k.Plus ∷ us) less = refl
known_rank (key k.Minus ∷ us) less = refl
known_rank (key k.Star ∷ us) less = refl
known_rank (key k.Slash ∷ us) less = refl
known_rank (key k.Div ∷ us) less = refl
known_rank (key k.Mod ∷ us) less = refl
known_rank us less = absurd (omega (arith, less))

-- no operator up to this rank comes next
last : (n : ℕ) (us : List Token) → n < end_rank (first_kind us) → n < rank_of (leading_operator us)
last n us less = omega (arith, less, known_rank us (omega (arith, less)))

module _ (d n : ℕ) where
  no_power : (x : Expr) (us : List Token) → n < end_rank (first_kind us) → power_end (read d) d x us ≡ Some (x, us)
  unfolding power_end
  no_power x (key k.Caret ∷ us) less = absurd (omega (arith, less))
  no_power x us less = refl

  no_call : (w : List ℕ) (us : List Token) → n < end_rank (first_kind us)
      → named_by (read d) d (first_kind us) w us ≡ Some (t.name w, us)
  no_call w (key k.LeftParen ∷ us) less = absurd (omega (arith, less))
  no_call w us less = refl

  power_kept : (x : Expr) (ts us : List Token) → prefixed_at (read d) d ts ≡ Some (x, us)
      → n < end_rank (first_kind us) → power_at (read d) d ts ≡ Some (x, us)
  unfolding power_at
  power_kept x ts us e less = ap (λ o. and_then o (power_end (read d) d)) e ∙ no_power x us less

  level_kept : (x : Expr) (ts us : List Token) → prefixed_at (read d) d ts ≡ Some (x, us)
      → n < end_rank (first_kind us) → level_at (read d) d (rank n) ts ≡ Some (x, us)
  unfolding level_at
  level_kept x ts us e less = rank_below d x us ts n (last n us less) (power_kept x ts us e less)

-- read as a factor, read with operators up to a rank
lone : (d n : ℕ) (x : Expr) (ts us : List Token) → 0 < d → prefixed_at (read (d - 1)) (d - 1) ts ≡ Some (x, us)
    → n < end_rank (first_kind us) → read d (rank n) ts ≡ Some (x, us)
lone d n x ts us pos e less = read_deeper d (rank n) ts pos ∙ level_kept (d - 1) n x ts us e less

module _ (d n : ℕ) where
  pub lone_number : (ts : List Token) → 0 < d → first_kind ts ≡ Some kind.Number → n < end_rank (first_kind (later ts))
      → read d (rank n) ts ≡ Some (t.number (first_text ts), later ts)
  unfolding prefixed_at factor_at primary_at
  lone_number [] pos e less = cc
  lone_number (number w ∷ us) pos e less = lone d n (t.number w) (number w ∷ us) us pos refl less
  lone_number (u ∷ us) pos e less = cc

  pub lone_quoted : (ts : List Token) → 0 < d → first_kind ts ≡ Some kind.Quoted → n < end_rank (first_kind (later ts))
      → read d (rank n) ts ≡ Some (t.quoted (first_text ts), later ts)
  unfolding prefixed_at factor_at primary_at
  lone_quoted [] pos e less = cc
  lone_quoted (quoted w ∷ us) pos e less = lone d n (t.quoted w) (quoted w ∷ us) us pos refl less
  lone_quoted (u ∷ us) pos e less = cc

  pub lone_name : (ts : List Token) → 0 < d → first_kind ts ≡ Some kind.Name → n < end_rank (first_kind (later ts))
      → read d (rank n) ts ≡ Some (t.name (first_text ts), later ts)
  unfolding prefixed_at factor_at primary_at
  lone_name [] pos e less = cc
  lone_name (name w ∷ us) pos e less =
      lone d n (t.name w) (name w ∷ us) us pos (no_call (d - 1) n w us less) less
  lone_name (u ∷ us) pos e less = cc
