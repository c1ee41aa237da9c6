-- One turn of a chain, by the operator that comes.
use Rattle.std.proofs.Common.{◌≡◌, ◌≢◌, ℕ, zero, suc, ◌+◌, ◌-◌, ◌<◌, List, Some, None, cond, nat_eq, true, false, refl}
use Rattle.std.proofs.Common.{sym, ap, ◌∙◌, arith}
use Rattle.std.proofs.lemmas.Bool.Decides.{nat_tests}
use Rattle.ht_values.specs.declared.operator.Op.{Op}
use Rattle.ht_values.specs.declared.operator.UnOp.{UnOp}
use Rattle.ht_lex.specs.Token.{Token}
use Rattle.ht_grammar.specs.Trees.{Expr}
use Rattle.ht_grammar.specs.Fronts.{infix_at, test_at, neither, leading_operator, equality}
use Rattle.ht_grammar.specs.Reading.{read, and_then, join_at, asked_at, turn, chain_at}

same_rank : (r n : ℕ) → r ≡ n + 1 → nat_eq r (suc n) ≡ true
same_rank r n e = grind (arith, nat_tests)

pub other_rank : (r n : ℕ) → r ≢ n + 1 → nat_eq r (suc n) ≡ false
other_rank r n e = grind (arith, nat_tests)

module _ (d n : ℕ) (x : Expr) (ts : List Token) where
  pub chain_infix : (k : ℕ) {r : ℕ} {op : Op} {b : List Token} → 0 < k → infix_at r op b ≡ leading_operator ts
      → r ≡ n + 1 → chain_at (read d) d n k x ts
      ≡ and_then (join_at (read d) d n op x b) (chain_at (read d) d n (k - 1))
  unfolding chain_at
  chain_infix zero pos f e = absurd (omega arith)
  chain_infix (suc k) {r} {op} {b} pos f e = let less : k ≡ suc k - 1 = omega arith in
      ap (turn (read d) d (chain_at (read d) d n k) n x ts) (sym f)
      ∙ ap (λ v. cond v (and_then (join_at (read d) d n op x b) (chain_at (read d) d n k)) (Some (x, ts)))
      (same_rank r n e)
      ∙ ap (λ k. and_then (join_at (read d) d n op x b) (chain_at (read d) d n k)) less

  pub chain_test : (k : ℕ) {op : UnOp} {b : List Token} → 0 < k → test_at op b ≡ leading_operator ts → equality ≡ n + 1
      → chain_at (read d) d n k x ts ≡ and_then (asked_at (read d) d op x b) (chain_at (read d) d n (k - 1))
  unfolding chain_at
  chain_test zero pos f e = absurd (omega arith)
  chain_test (suc k) {op} {b} pos f e = let less : k ≡ suc k - 1 = omega arith in
      ap (turn (read d) d (chain_at (read d) d n k) n x ts) (sym f)
      ∙ ap (λ v. cond v (and_then (asked_at (read d) d op x b) (chain_at (read d) d n k)) (Some (x, ts)))
      (same_rank equality n e)
      ∙ ap (λ k. and_then (asked_at (read d) d op x b) (chain_at (read d) d n k)) less

  pub chain_no_infix : (k : ℕ) {r : ℕ} {op : Op} {b : List Token} → 0 < k → infix_at r op b ≡ leading_operator ts
      → r ≢ n + 1 → chain_at (read d) d n k x ts ≡ Some (x, ts)
  unfolding chain_at
  chain_no_infix zero pos f e = absurd (omega arith)
  chain_no_infix (suc k) {r} {op} {b} pos f e = ap (turn (read d) d (chain_at (read d) d n k) n x ts) (sym f)
      ∙ ap (λ v. cond v (and_then (join_at (read d) d n op x b) (chain_at (read d) d n k)) (Some (x, ts)))
      (other_rank r n e)

  pub chain_no_test : (k : ℕ) {op : UnOp} {b : List Token} → 0 < k → test_at op b ≡ leading_operator ts
      → equality ≢ n + 1 → chain_at (read d) d n k x ts ≡ Some (x, ts)
  unfolding chain_at
  chain_no_test zero pos f e = absurd (omega arith)
  chain_no_test (suc k) {op} {b} pos f e = ap (turn (read d) d (chain_at (read d) d n k) n x ts) (sym f)
      ∙ ap (λ v. cond v (and_then (asked_at (read d) d op x b) (chain_at (read d) d n k)) (Some (x, ts)))
      (other_rank equality n e)

  pub chain_neither : (k : ℕ) → 0 < k → neither ≡ leading_operator ts → chain_at (read d) d n k x ts ≡ Some (x, ts)
  unfolding chain_at
  chain_neither zero pos f = absurd (omega arith)
  chain_neither (suc k) pos f = ap (turn (read d) d (chain_at (read d) d n k) n x ts) (sym f)

  pub chain_none : (k : ℕ) → k ≡ 0 → chain_at (read d) d n k x ts ≡ None
  unfolding chain_at
  chain_none zero e = refl
  chain_none (suc k) e = absurd (omega arith)
