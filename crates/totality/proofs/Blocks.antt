-- Lines and repeats have an outcome, whose statements begin behind a step.
use Rattle.std.proofs.Common.{ℕ, suc, ◌≤◌, List, Bool, Option, refl}
use Rattle.ht_values.specs.Text.{numeral}
use Rattle.ht_grammar.specs.Statements as stm
use Rattle.ht_grammar.specs.Trees as tree
use Rattle.change_journal.specs.History.{History}
use Rattle.meaning.specs.declared.frame.Frame.{Frame}
use Rattle.meaning.specs.Meaning.{Block, Endless, While, Counts}
use Rattle.meaning.specs.Repeats.{leaves_repeat, goes_on, CounterState, is_over, stepped}
use Rattle.meaning.specs.State.{RunState}
use Rattle.totality.proofs.Chain.{Begun, Underway, HasRun, run_ok, same_run, then_in, then_run, then_next, choose}
use Rattle.totality.proofs.Chain.{maybe}
use Rattle.totality.proofs.Leaves.{then_step_in, lift_run, Passes, passes, then_done, assigns}
use Rattle.totality.proofs.Levels.{Level}
use Rattle.totality.proofs.Expressions.{truth_by}

pub block_ends : {begun : Begun} {n : ℕ} → Level begun n → (w : History) (r : RunState) (f : Frame) (d : ℕ)
    (ss : stm.Stmts) → d ≤ 100 → Underway begun (suc n) w r → HasRun begun (suc n) (Passes n (Block w r f d ss))
block_ends h w r f d stm.stop le k = run_ok _ _ k (record { ends = Block.block_end refl; fewer = λ e. cc })
block_ends h w r f d (stm.also s ss) le k =
    then_step_in w r f k (λ z r1 st. record { ends = Block.block_no_step refl st; fewer = λ e. cc })
    (λ r1 k1 st. passes
    (then_next (h.form w r1 f d s le k1) (λ z w1 r2 f1 g. Block.block_stops refl st g)
    (λ how w1 r2 f1 g isnt. Block.block_leaves refl st g isnt) (λ w1 r2 f1 k2 g.
    same_run (h.block w1 r2 f1 d ss le k2) (λ o w2 r3 f2 g2. Block.block_goes_on refl st g g2))))

pub block_has : {begun : Begun} {n : ℕ} → Level begun n → (w : History) (r : RunState) (f : Frame) (d : ℕ)
    (ss : stm.Stmts) → d ≤ 100 → Underway begun (suc n) w r → HasRun begun (suc n) (Block w r f d ss)
block_has h w r f d ss le k = same_run (block_ends h w r f d ss le k) (λ o w1 r1 f1 g. g.ends)

pub endless_has : {begun : Begun} {n : ℕ} → Level begun n → (w : History) (r : RunState) (f : Frame) (d : ℕ)
    (ss : stm.Stmts) → d ≤ 100 → Underway begun (suc n) w r → HasRun begun (suc n) (Endless w r f d ss)
endless_has h w r f d ss le k =
    then_step_in w r f k (λ z r1 st. Endless.endless_no_step st) (λ r1 k1 st. lift_run
    (then_run (h.block w r1 f d ss le k1) (λ z w1 r2 f1 g. Endless.endless_stops st g) (λ how w1 r2 f1 k2 g.
    maybe (leaves_repeat how) (λ h1 is. run_ok _ _ k2 (Endless.endless_leaves st g is))
    (λ is. same_run (h.endless w1 r2 f1 d ss le k2) (λ o w2 r3 f2 g2. Endless.endless_goes_on st g is g2)))))

pub while_has : {begun : Begun} {n : ℕ} → Level begun n → (w : History) (r : RunState) (f : Frame) (d : ℕ)
    (wanted : Bool) (x : tree.Expr) (ss : stm.Stmts) → d ≤ 100 → Underway begun (suc n) w r →
    HasRun begun (suc n) (While w r f d wanted x ss)
while_has h w r f d wanted x ss le k =
    then_step_in w r f k (λ z r1 st. While.while_no_step st) (λ r1 k1 st. lift_run
    (then_in f (truth_by (h.val w r1 f d x le k1)) (λ z w1 r2 g. While.while_test_stops st g) (λ b w1 r2 k2 g.
    choose (goes_on wanted b)
    (λ on. then_run (h.block w1 r2 f d ss le k2) (λ z w2 r3 f1 g2. While.while_stops st g on g2)
    (λ how w2 r3 f1 k3 g2.
    maybe (leaves_repeat how) (λ h1 is. run_ok _ _ k3 (While.while_leaves st g on g2 is))
    (λ is. same_run (h.while w2 r3 f1 d wanted x ss le k3)
    (λ o w3 r4 f2 g3. While.while_goes_on st g on g2 is g3))))
    (λ over. run_ok _ _ k2 (While.while_ends st g over)))))

pub counts_has : {begun : Begun} {n : ℕ} → Level begun n → (w : History) (r : RunState) (f : Frame) (d : ℕ)
    (name : Option (List ℕ)) (c : CounterState) (ss : stm.Stmts) → d ≤ 100 → Underway begun (suc n) w r →
    HasRun begun (suc n) (Counts w r f d name c ss)
counts_has h w r f d name c ss le k =
    then_step_in w r f k (λ z r1 st. Counts.counts_no_step st) (λ r1 k1 st. lift_run
    (choose (is_over c) (λ over. run_ok _ _ k1 (Counts.counts_end st over)) (λ on.
    then_done k1 (assigns w f name (numeral c.at) k1.is_open) (λ w1 f1 k2 g.
    then_run (h.block w1 r1 f1 d ss le k2) (λ z w2 r2 f2 g2. Counts.counts_stop st on g g2) (λ how w2 r2 f2 k3 g2.
    maybe (leaves_repeat how) (λ h1 is. run_ok _ _ k3 (Counts.counts_leave st on g g2 is))
    (λ is. same_run (h.counts w2 r2 f2 d name (stepped c) ss le k3)
    (λ o w3 r3 f3 g3. Counts.counts_go_on st on g g2 is refl g3)))))))
