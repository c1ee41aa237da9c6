-- Statements have an outcome.
use Rattle.std.proofs.Common.{◌≡◌, ℕ, suc, ◌+◌, ◌≤◌, ◌<◌, List, [], ◌∷◌, Bool, true, false, Some, None, Result, Ok}
use Rattle.std.proofs.Common.{Err, refl, sym, ap, subst, ◌∙◌}
use Rattle.ht_values.specs.declared.fault.Fault.{Fault}
use Rattle.ht_values.specs.declared.operator.Op.{Op}
use Rattle.ht_values.specs.declared.operator.Op.TheVariants.{Add, Subtract, Multiply, Divide}
use Rattle.ht_values.specs.Operators.{truth_of}
use Rattle.ht_values.specs.Outcome.{and_then}
use Rattle.ht_grammar.specs.declared.vocabulary.HandlerKind.TheVariants.{Command}
use Rattle.ht_grammar.specs.declared.vocabulary.RunProp.{RunProp}
use Rattle.ht_grammar.specs.declared.vocabulary.RunProp.TheVariants.{ItemDelimiter, LockMessages, EditBkgnd}
use Rattle.ht_grammar.specs.Lines.{typed_lines}
use Rattle.ht_grammar.specs.Reads.{ReadsLines}
use Rattle.ht_grammar.specs.Statements as stm
use Rattle.ht_grammar.specs.Trees as tree
use Rattle.change_journal.specs.History.{History}
use Rattle.containers.specs.declared.edit.Edit.TheVariants.{Put, Alter, Delete}
use Rattle.meaning.specs.declared.frame.Frame.{Frame}
use Rattle.meaning.specs.Meaning.{Form, Alters, DoText, Bounds}
use Rattle.meaning.specs.Places.{it_name, chunk_of_place}
use Rattle.meaning.specs.Repeats.{counter_of, turns}
use Rattle.meaning.specs.State.{RunState, delimiter_set, run_property_set}
use Rattle.totality.proofs.Chain.{Begun, Underway, Has, HasRun, run_ok, run_fault, run_exited, yield, same_run, then}
use Rattle.totality.proofs.Chain.{then_in, choose, computed, deep, nested}
use Rattle.totality.proofs.Leaves.{then_parsed_in, then_ends_in, then_edited, then_done, edits, stores_named, sets}
use Rattle.totality.proofs.Leaves.{declares_all}
use Rattle.totality.proofs.Levels.{Level}
use Rattle.totality.proofs.Expressions.{val_has, number_by, truth_by, chunk_has, resolves_has, meets_has, leads_has}
use Rattle.totality.proofs.Expressions.{calls_has}
use Rattle.totality.proofs.Blocks.{block_has, endless_has, while_has, counts_has}
use Rattle.totality.proofs.Messages.{sends_text_has, goes_has}

-- ---- a property of the run takes no step and gives none back

-- the steps that are left
left_in : RunState → Result RunState Fault → ℕ
left_in r (Ok r2) = r2.left
left_in r (Err fa) = r.left

delimiter_left : (r : RunState) (t : List ℕ) → left_in r (delimiter_set r t) ≡ r.left
unfolding left_in
delimiter_left r [] = refl
delimiter_left r (b ∷ []) = refl
delimiter_left r (b ∷ c ∷ t) = refl

truth_left : (r : RunState) (set : Bool → RunState) → ((b : Bool) → (set b).left ≡ r.left) →
    (truth : Result Bool Fault) → left_in r (and_then truth (λ b. Ok (set b))) ≡ r.left
unfolding left_in
truth_left r set keeps (Ok b) = keeps b
truth_left r set keeps (Err fa) = refl

property_left : (r : RunState) (p : RunProp) (t : List ℕ) → left_in r (run_property_set r p t) ≡ r.left
property_left r ItemDelimiter t = delimiter_left r t
property_left r LockMessages t = truth_left r (λ b. record r { lock_messages = b }) (λ b. refl) (truth_of t)
property_left r EditBkgnd t = truth_left r (λ b. record r { edit_background = b }) (λ b. refl) (truth_of t)

goes_after : {begun : Begun} {n : ℕ} {w : History} {r r2 : RunState} (p : RunProp) (t : List ℕ) → Underway begun n w r →
    run_property_set r p t ≡ Ok r2 → Underway begun n w r2
unfolding left_in
goes_after {begun} {n} {w} {r} {r2} p t k is = record {
  is_open = k.is_open;
  left = subst (λ left. left < n) (sym (ap (left_in r) (sym is) ∙ property_left r p t))
      k.left;
}

pub alters_has : {begun : Begun} {n : ℕ} → Level begun n → (w : History) (r : RunState) (f : Frame) (d : ℕ) (op : Op)
    (x : tree.Expr) (ct : tree.Container) → d ≤ 100 → Underway begun (suc n) w r →
    HasRun begun (suc n) (Alters w r f d op x ct)
alters_has h w r f d op x ct le k =
    then_in f (val_has h w r f d x le k) (λ z w1 r1 g. Alters.alter_stops g) (λ v w1 r1 k1 g.
    then_in f (resolves_has h w1 r1 f d ct le k1) (λ z w2 r2 g2. Alters.alter_nowhere g g2) (λ p w2 r2 k2 g2.
    then_edited k2 (edits w2 f r2.delimiter p (Alter op v) k2.is_open) (λ z w3 f1 g3. Alters.alter_fails g g2 g3)
    (λ w3 f1 k3 g3. run_ok _ _ k3 (Alters.alter g g2 g3))))

pub do_text_has : {begun : Begun} {n : ℕ} → Level begun n → (w : History) (r : RunState) (f : Frame) (d : ℕ)
    (t : List ℕ) → d ≤ 100 → Underway begun (suc n) w r → HasRun begun (suc n) (DoText w r f d t)
do_text_has h w r f d t le k =
    deep d le (λ lt. then_parsed_in f typed_lines ReadsLines t h.texts.cuts h.texts.lines k
    (λ z p. DoText.do_syntax lt p) (λ ss p.
    same_run (block_has h w r f (d + 1) ss (nested lt) k) (λ o w1 r1 f1 g. DoText.do_lines lt p g)))
    (λ is. run_fault _ _ k (DoText.do_too_deep is))

pub bounds_has : {begun : Begun} {n : ℕ} → Level begun n → (w : History) (r : RunState) (f : Frame) (d : ℕ)
    (x y : tree.Expr) (down : Bool) → d ≤ 100 → Underway begun (suc n) w r → Has begun (suc n) (Bounds w r f d x y down)
bounds_has h w r f d x y down le k =
    then (val_has h w r f d x le k) (λ z w1 r1 g. Bounds.start_stops g) (λ p w1 r1 k1 g.
    then (val_has h w1 r1 f d y le k1) (λ z w2 r2 g2. Bounds.bound_stops g g2)
    (λ q w2 r2 k2 g2. yield (counter_of p q down) k2 (λ o c. Bounds.bounds g g2 c)))

repeat_has : {begun : Begun} {n : ℕ} → Level begun n → (w : History) (r : RunState) (f : Frame) (d : ℕ)
    (head : stm.Head) (ss : stm.Stmts) → d ≤ 100 → Underway begun (suc n) w r →
    HasRun begun (suc n) (Form w r f d (stm.repeat head ss))
repeat_has h w r f d stm.forever ss le k = same_run (endless_has h w r f d ss le k)
    (λ o w1 r1 f1 g. Form.forever refl g)
repeat_has h w r f d (stm.times x) ss le k =
    then_in f (number_by (val_has h w r f d x le k)) (λ z w1 r1 g. Form.times_stops refl g) (λ u w1 r1 k1 g.
    same_run (counts_has h w1 r1 f d None (turns u) ss le k1) (λ o w2 r2 f1 g2. Form.times refl g refl g2))
repeat_has h w r f d (stm.while x) ss le k = same_run (while_has h w r f d true x ss le k)
    (λ o w1 r1 f1 g. Form.while refl g)
repeat_has h w r f d (stm.until x) ss le k = same_run (while_has h w r f d false x ss le k)
    (λ o w1 r1 f1 g. Form.until refl g)
repeat_has h w r f d (stm.counted_up n x y) ss le k =
    then_in f (bounds_has h w r f d x y false le k) (λ z w1 r1 g. Form.up_stops refl g) (λ c w1 r1 k1 g.
    same_run (counts_has h w1 r1 f d (Some n) c ss le k1) (λ o w2 r2 f1 g2. Form.up refl g g2))
repeat_has h w r f d (stm.counted_down n x y) ss le k =
    then_in f (bounds_has h w r f d x y true le k) (λ z w1 r1 g. Form.down_stops refl g) (λ c w1 r1 k1 g.
    same_run (counts_has h w1 r1 f d (Some n) c ss le k1) (λ o w2 r2 f1 g2. Form.down refl g g2))

pub form_has : {begun : Begun} {n : ℕ} → Level begun n → (w : History) (r : RunState) (f : Frame) (d : ℕ)
    (s : stm.Stmt) → d ≤ 100 → Underway begun (suc n) w r → HasRun begun (suc n) (Form w r f d s)
form_has h w r f d (stm.put x) le k = then_in f (val_has h w r f d x le k)
    (λ z w1 r1 g. Form.show_stops refl g)
    (λ v w1 r1 k1 g. run_ok _ _ (record { is_open = k1.is_open; left = k1.left }) (Form.show refl g refl))
form_has h w r f d (stm.put_in place x ct) le k =
    then_in f (val_has h w r f d x le k) (λ z w1 r1 g. Form.put_stops refl g) (λ v w1 r1 k1 g.
    then_in f (resolves_has h w1 r1 f d ct le k1) (λ z w2 r2 g2. Form.put_nowhere refl g g2) (λ p w2 r2 k2 g2.
    then_edited k2 (edits w2 f r2.delimiter p (Put place v) k2.is_open) (λ z w3 f1 g3. Form.put_fails refl g g2 g3)
    (λ w3 f1 k3 g3. run_ok _ _ k3 (Form.put refl g g2 g3))))
form_has h w r f d (stm.get x) le k =
    then_in f (val_has h w r f d x le k) (λ z w1 r1 g. Form.get_stops refl g) (λ v w1 r1 k1 g.
    then_done k1 (stores_named w1 f it_name v k1.is_open) (λ w2 f1 k2 g2. run_ok _ _ k2 (Form.get refl g g2)))
form_has h w r f d (stm.set p ref x) le k =
    then_in f (val_has h w r f d x le k) (λ z w1 r1 g. Form.set_stops refl g) (λ v w1 r1 k1 g.
    then_in f (meets_has h w1 r1 f d ref le k1) (λ z w2 r2 g2. Form.set_nowhere refl g g2) (λ m w2 r2 k2 g2.
    then_ends_in f k2 (sets w2 m p v k2.is_open) (λ z w3 g3. Form.set_fails refl g g2 g3)
    (λ w3 k3 g3. run_ok _ _ k3 (Form.set refl g g2 g3))))
form_has h w r f d (stm.set_run p x) le k =
    then_in f (val_has h w r f d x le k) (λ z w1 r1 g. Form.set_run_stops refl g) (λ v w1 r1 k1 g.
    computed (run_property_set r1 p v) (λ r2 is. run_ok _ _ (goes_after p v k1 is) (Form.set_run refl g is))
    (λ n is. run_fault _ _ k1 (Form.set_run_fails refl g is)))
form_has h w r f d (stm.add x ct) le k = same_run (alters_has h w r f d Add x ct le k) (λ o w1 r1 f1 g. Form.add refl g)
form_has h w r f d (stm.subtract x ct) le k = same_run (alters_has h w r f d Subtract x ct le k)
    (λ o w1 r1 f1 g. Form.subtract refl g)
form_has h w r f d (stm.multiply ct x) le k = same_run (alters_has h w r f d Multiply x ct le k)
    (λ o w1 r1 f1 g. Form.multiply refl g)
form_has h w r f d (stm.divide ct x) le k = same_run (alters_has h w r f d Divide x ct le k)
    (λ o w1 r1 f1 g. Form.divide refl g)
form_has h w r f d (stm.delete head ct) le k =
    then_in f (chunk_has h w r f d head le k) (λ z w1 r1 g. Form.delete_stops refl g) (λ c w1 r1 k1 g.
    then_in f (resolves_has h w1 r1 f d ct le k1) (λ z w2 r2 g2. Form.delete_nowhere refl g g2)
    (λ p w2 r2 k2 g2.
    then_edited k2 (edits w2 f r2.delimiter (chunk_of_place p c) Delete k2.is_open)
    (λ z w3 f1 g3. Form.delete_fails refl g g2 refl g3)
    (λ w3 f1 k3 g3. run_ok _ _ k3 (Form.delete refl g g2 refl g3))))
form_has h w r f d (stm.do_ x) le k =
    then_in f (val_has h w r f d x le k) (λ z w1 r1 g. Form.do_stops refl g) (λ t w1 r1 k1 g.
    same_run (do_text_has h w1 r1 f d t le k1) (λ o w2 r2 f1 g2. Form.do_value refl g g2))
form_has h w r f d (stm.send x ref) le k =
    then_in f (val_has h w r f d x le k) (λ z w1 r1 g. Form.send_text_stops refl g) (λ t w1 r1 k1 g.
    then_in f (meets_has h w1 r1 f d ref le k1) (λ z w2 r2 g2. Form.send_nowhere refl g g2) (λ m w2 r2 k2 g2.
    then_in f (sends_text_has h w2 r2 f d m.object t le k2) (λ z w3 r3 g3. Form.send_stops refl g g2 g3)
    (λ v w3 r3 k3 g3. run_ok _ _ k3 (Form.send refl g g2 g3))))
form_has h w r f d (stm.go de) le k =
    then_in f (leads_has h w r f d de le k) (λ z w1 r1 g. Form.go_nowhere refl g) (λ card w1 r1 k1 g.
    then_in f (goes_has h w1 r1 f d card le k1) (λ z w2 r2 g2. Form.go_stops refl g g2)
    (λ v w2 r2 k2 g2. run_ok _ _ k2 (Form.go refl g g2)))
form_has h w r f d (stm.global names) le k = then_done k (declares_all names w f k.is_open)
    (λ w1 f1 k1 g. run_ok _ _ k1 (Form.global refl g))
form_has h w r f d stm.exit_repeat le k = run_ok _ _ k (Form.exit_repeat refl)
form_has h w r f d stm.next_repeat le k = run_ok _ _ k (Form.next_repeat refl)
form_has h w r f d stm.exit_to_hypercard le k = run_exited _ k (Form.exit_to_hypercard refl)
form_has h w r f d (stm.exit n) le k = run_ok _ _ k (Form.exit_handler refl)
form_has h w r f d (stm.pass n) le k = run_ok _ _ k (Form.pass refl)
form_has h w r f d stm.return_nothing le k = run_ok _ _ k (Form.return_nothing refl)
form_has h w r f d (stm.return_value x) le k = then_in f (val_has h w r f d x le k)
    (λ z w1 r1 g. Form.return_stops refl g) (λ v w1 r1 k1 g. run_ok _ _ k1 (Form.return_value refl g))
form_has h w r f d (stm.command n es) le k =
    then_in f (calls_has h w r f d f.me n es Command le k) (λ z w1 r1 g. Form.command_stops refl refl g)
    (λ v w1 r1 k1 g. run_ok _ _ k1 (Form.command refl refl g))
form_has h w r f d (stm.when x ss ss2) le k =
    then_in f (truth_by (val_has h w r f d x le k)) (λ z w1 r1 g. Form.if_stops refl g) (λ b w1 r1 k1 g.
    choose b (λ is. same_run (block_has h w1 r1 f d ss le k1) (λ o w2 r2 f1 g2. Form.if_true refl g is g2))
    (λ is. same_run (block_has h w1 r1 f d ss2 le k1) (λ o w2 r2 f1 g2. Form.if_false refl g is g2)))
form_has h w r f d (stm.repeat head ss) le k = repeat_has h w r f d head ss le k
