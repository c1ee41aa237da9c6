-- Ranks that no operator of the tokens has, and those above a rank that isn't read.
use Rattle.std.proofs.Common.{◌≡◌, ◌≢◌, ℕ, zero, suc, ◌+◌, ◌-◌, ◌<◌, ◌≤◌, List, Some, None, cond, refl, ap, ◌∙◌, arith}
use Rattle.ht_lex.specs.Token.{Token}
use Rattle.ht_grammar.specs.Trees.{Expr}
use Rattle.ht_grammar.specs.Fronts.{LeadingOperator, infix_at, test_at, neither, leading_operator, equality}
use Rattle.ht_grammar.specs.Reading.{Parser, read, and_then, join_at, asked_at, turn, chain_at, rank_at, power_at}
use Rattle.ht_expressions.specs.Fronts.{rank_of}
use Rattle.ht_expressions.proofs.Chain.{other_rank}

module _ (d : ℕ) (x : Expr) (us : List Token) where
  turn_other : (again : Expr → Parser Expr) (n : ℕ) (l : LeadingOperator) → rank_of l ≢ n + 1
      → turn (read d) d again n x us l ≡ Some (x, us)
  turn_other again n (infix_at r op b) e =
      ap (λ v. cond v (and_then (join_at (read d) d n op x b) again) (Some (x, us))) (other_rank r n e)
  turn_other again n (test_at op b) e =
      ap (λ v. cond v (and_then (asked_at (read d) d op x b) again) (Some (x, us))) (other_rank equality n e)
  turn_other again n neither e = refl

  chain_other : (n k : ℕ) → 0 < k → rank_of (leading_operator us) ≢ n + 1 → chain_at (read d) d n k x us ≡ Some (x, us)
  unfolding chain_at
  chain_other n zero pos e = absurd (omega arith)
  chain_other n (suc k) pos e = turn_other (chain_at (read d) d n k) n (leading_operator us) e

  module _ (ts : List Token) where
    pub rank_joined : (n : ℕ) → rank_at (read d) d n ts ≡ Some (x, us)
        → rank_at (read d) d (n + 1) ts ≡ chain_at (read d) d n (d + 2) x us
    unfolding rank_at
    rank_joined n e = let k : suc (suc d) ≡ d + 2 = omega arith in let m : n + 1 ≡ suc n = omega arith in
        ap (λ m. rank_at (read d) d m ts) m ∙ ap (λ o. and_then o (chain_at (read d) d n (suc (suc d)))) e
        ∙ ap (λ k. chain_at (read d) d n k x us) k

    pub rank_kept : (n : ℕ) → rank_at (read d) d n ts ≡ Some (x, us) → rank_of (leading_operator us) ≢ n + 1
        → rank_at (read d) d (n + 1) ts ≡ Some (x, us)
    rank_kept n e other = rank_joined n e ∙ chain_other n (d + 2) (omega arith) other

    pub rank_below : (r : ℕ) → r < rank_of (leading_operator us) → power_at (read d) d ts ≡ Some (x, us)
        → rank_at (read d) d r ts ≡ Some (x, us)
    unfolding rank_at
    rank_below zero less e = e
    rank_below (suc r) less e = let m : suc r ≡ r + 1 = omega arith in
        ap (λ m. rank_at (read d) d m ts) m
        ∙ rank_kept r (rank_below r (omega (arith, less)) e) (λ same. absurd (omega (arith, less, same)))

module _ (d : ℕ) (ts : List Token) where
  rank_failed : (n k : ℕ) → rank_at (read d) d n ts ≡ None → rank_at (read d) d (n + k) ts ≡ None
  unfolding rank_at
  rank_failed n zero e = let m : n + zero ≡ n = omega arith in ap (λ m. rank_at (read d) d m ts) m ∙ e
  rank_failed n (suc k) e = let m : n + suc k ≡ suc (n + k) = omega arith in
      ap (λ m. rank_at (read d) d m ts) m
      ∙ ap (λ o. and_then o (chain_at (read d) d (n + k) (suc (suc d)))) (rank_failed n k e)

  rank_none : (n r : ℕ) → n ≤ r → rank_at (read d) d n ts ≡ None → rank_at (read d) d r ts ≡ None
  rank_none n r le e =
      let m : r ≡ n + (r - n) = omega (arith, le) in ap (λ m. rank_at (read d) d m ts) m ∙ rank_failed n (r - n) e

  pub power_none : (r : ℕ) → power_at (read d) d ts ≡ None → rank_at (read d) d r ts ≡ None
  unfolding rank_at
  power_none r e = rank_none zero r (omega arith) e

  pub chain_none : (n r : ℕ) (x : Expr) (us : List Token) → rank_at (read d) d n ts ≡ Some (x, us) → n < r
      → chain_at (read d) d n (d + 2) x us ≡ None → rank_at (read d) d r ts ≡ None
  chain_none n r x us same less e = rank_none (n + 1) r (omega (arith, less)) (rank_joined d x us ts n same ∙ e)
