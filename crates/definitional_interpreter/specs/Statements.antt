-- Statements and repeats, computed.
use Rattle.std.specs.Prelude.{ℕ, ◌+◌, List, [], nat_lt, Bool, true, false, Option, Some, None, Ok, Err}
use Rattle.ht_values.specs.declared.fault.Fault.TheVariants.{TooDeep}
use Rattle.ht_values.specs.declared.operator.Op.{Op}
use Rattle.ht_values.specs.declared.operator.Op.TheVariants.{Add, Subtract, Multiply, Divide}
use Rattle.ht_values.specs.Text.{numeral}
use Rattle.ht_grammar.specs.declared.vocabulary.HandlerKind.TheVariants.{Command}
use Rattle.ht_grammar.specs.Lines.{typed_lines}
use Rattle.ht_grammar.specs.Statements as stm
use Rattle.ht_grammar.specs.Trees as tree
use Rattle.containers.specs.declared.edit.Edit.TheVariants.{Put, Alter, Delete}
use Rattle.containers.specs.Places.{named}
use Rattle.meaning.specs.declared.frame.Frame.{Frame}
use Rattle.meaning.specs.declared.end.How.{How}
use Rattle.meaning.specs.declared.end.How.TheVariants.{Next, ExitRepeat, NextRepeat, Exit, Pass, Returns}
use Rattle.meaning.specs.declared.end.Stop.TheVariants.{Fault as Faults, Exited}
use Rattle.meaning.specs.Places.{it_name, chunk_of_place}
use Rattle.meaning.specs.Repeats.{leaves_repeat, goes_on, CounterState, counter_of, is_over, stepped, turns}
use Rattle.meaning.specs.State.{RunState, shows, run_property_set}
use Rattle.definitional_interpreter.specs.Told.{Visible, Told, told, ToldIn, told_in, after, after_in, after_run}
use Rattle.definitional_interpreter.specs.Told.{after_next}
use Rattle.definitional_interpreter.specs.Told.{choose, maybe}
use Rattle.definitional_interpreter.specs.Told.{computed}
use Rattle.definitional_interpreter.specs.Changes.{yielded, step, edit, store, assign, declare_all, set_property}
use Rattle.definitional_interpreter.specs.Texts.{parsed}
use Rattle.definitional_interpreter.specs.Families.{Meanings}

abbrev pub repeat_of : Meanings → Visible → RunState → Frame → ℕ → stm.Head → stm.Stmts → ToldIn How
repeat_of m w r f d stm.forever ss = m.endless w r f d ss
repeat_of m w r f d (stm.times x) ss = after_in f (m.number_val w r f d x) (λ u w r. m.counts w r f d None (turns u) ss)
repeat_of m w r f d (stm.while x) ss = m.while w r f d true x ss
repeat_of m w r f d (stm.until x) ss = m.while w r f d false x ss
repeat_of m w r f d (stm.counted_up n x y) ss =
    after_in f (m.bounds w r f d x y false) (λ c w r. m.counts w r f d (Some n) c ss)
repeat_of m w r f d (stm.counted_down n x y) ss =
    after_in f (m.bounds w r f d x y true) (λ c w r. m.counts w r f d (Some n) c ss)

abbrev pub form_of : Meanings → Visible → RunState → Frame → ℕ → stm.Stmt → ToldIn How
form_of m w r f d (stm.put x) = after_in f (m.val w r f d x) (λ v w r. told_in (Ok Next) w (shows r v) f)
form_of m w r f d (stm.put_in place x ct) =
    after_in f (m.val w r f d x)
    (λ v w r. after_in f (m.resolves w r f d ct)
    (λ p w r. after_run (edit w r f p (Put place v)) (λ _ w r f. told_in (Ok Next) w r f)))
form_of m w r f d (stm.get x) =
    after_in f (m.val w r f d x)
    (λ v w r. after_run (store w r f (named f.variables it_name) v) (λ _ w r f. told_in (Ok Next) w r f))
form_of m w r f d (stm.set p ref x) =
    after_in f (m.val w r f d x)
    (λ v w r. after_in f (m.meets w r f d ref)
    (λ o w r. after_in f (set_property w r o p v) (λ _ w r. told_in (Ok Next) w r f)))
form_of m w r f d (stm.set_run p x) =
    after_in f (m.val w r f d x)
    (λ v w r. computed (run_property_set r p v) (λ r2. told_in (Ok Next) w r2 f) (λ n. told_in (Err (Faults n)) w r f))
form_of m w r f d (stm.add x ct) = m.alters w r f d Add x ct
form_of m w r f d (stm.subtract x ct) = m.alters w r f d Subtract x ct
form_of m w r f d (stm.multiply ct x) = m.alters w r f d Multiply x ct
form_of m w r f d (stm.divide ct x) = m.alters w r f d Divide x ct
form_of m w r f d (stm.delete head ct) =
    after_in f (m.chunk_of w r f d head)
    (λ c w r. after_in f (m.resolves w r f d ct)
    (λ p w r. after_run (edit w r f (chunk_of_place p c) Delete) (λ _ w r f. told_in (Ok Next) w r f)))
form_of m w r f d (stm.do_ x) = after_in f (m.val w r f d x) (λ t w r. m.do_text w r f d t)
form_of m w r f d (stm.send x ref) =
    after_in f (m.val w r f d x)
    (λ t w r. after_in f (m.meets w r f d ref)
    (λ o w r. after_in f (m.sends_text w r f d o.object t) (λ _ w r. told_in (Ok Next) w r f)))
form_of m w r f d (stm.go de) =
    after_in f (m.leads w r f d de) (λ card w r. after_in f (m.goes w r f d card) (λ _ w r. told_in (Ok Next) w r f))
form_of m w r f d (stm.global names) = after_run (declare_all w r f names) (λ _ w r f. told_in (Ok Next) w r f)
form_of m w r f d stm.exit_repeat = told_in (Ok ExitRepeat) w r f
form_of m w r f d stm.next_repeat = told_in (Ok NextRepeat) w r f
form_of m w r f d stm.exit_to_hypercard = told_in (Err Exited) w r f
form_of m w r f d (stm.exit n) = told_in (Ok Exit) w r f
form_of m w r f d (stm.pass n) = told_in (Ok Pass) w r f
form_of m w r f d stm.return_nothing = told_in (Ok (Returns [])) w r f
form_of m w r f d (stm.return_value x) = after_in f (m.val w r f d x) (λ v w r. told_in (Ok (Returns v)) w r f)
form_of m w r f d (stm.command n es) = after_in f (m.calls w r f d f.me n es Command) (λ _ w r. told_in (Ok Next) w r f)
form_of m w r f d (stm.when x ss ss2) =
    after_in f (m.truth_val w r f d x) (λ b w r. choose b (λ _. m.block w r f d ss) (λ _. m.block w r f d ss2))
form_of m w r f d (stm.repeat head ss) = repeat_of m w r f d head ss

-- arithmetic on a container
abbrev pub alters_of : Meanings → Visible → RunState → Frame → ℕ → Op → tree.Expr → tree.Container → ToldIn How
alters_of m w r f d op x ct =
    after_in f (m.val w r f d x)
    (λ v w r. after_in f (m.resolves w r f d ct)
    (λ p w r. after_run (edit w r f p (Alter op v)) (λ _ w r f. told_in (Ok Next) w r f)))

abbrev pub block_of : Meanings → Visible → RunState → Frame → ℕ → stm.Stmts → ToldIn How
block_of m w r f d stm.stop = told_in (Ok Next) w r f
block_of m w r f d (stm.also s ss) =
    after_in f (step w r) (λ _ w r. after_next (m.form w r f d s) (λ w r f. m.block w r f d ss))

-- `do`: the depth, then the text
abbrev pub do_text_of : Meanings → Visible → RunState → Frame → ℕ → List ℕ → ToldIn How
do_text_of m w r f d t =
    choose (nat_lt d 100) (λ _. after_in f (told (parsed typed_lines t) w r) (λ ss w r. m.block w r f (d + 1) ss))
    (λ _. told_in (Err (Faults TooDeep)) w r f)

-- ---- repeats

abbrev pub endless_of : Meanings → Visible → RunState → Frame → ℕ → stm.Stmts → ToldIn How
endless_of m w r f d ss =
    after_in f (step w r)
    (λ _ w r. after_run (m.block w r f d ss)
    (λ h w r f. maybe (leaves_repeat h) (λ h2. told_in (Ok h2) w r f) (λ _. m.endless w r f d ss)))

abbrev pub while_of : Meanings → Visible → RunState → Frame → ℕ → Bool → tree.Expr → stm.Stmts → ToldIn How
while_of m w r f d wanted x ss =
    after_in f (step w r) (λ _ w r. after_in f (m.truth_val w r f d x) (λ b w r. choose (goes_on wanted b)
    (λ _. after_run (m.block w r f d ss)
    (λ h w r f. maybe (leaves_repeat h) (λ h2. told_in (Ok h2) w r f) (λ _. m.while w r f d wanted x ss)))
    (λ _. told_in (Ok Next) w r f)))

abbrev pub bounds_of : Meanings → Visible → RunState → Frame → ℕ → tree.Expr → tree.Expr → Bool → Told CounterState
bounds_of m w r f d x y down =
    after (m.val w r f d x) (λ p w r. after (m.val w r f d y) (λ q w r. told (yielded (counter_of p q down)) w r))

abbrev pub counts_of : Meanings → Visible → RunState → Frame → ℕ → Option (List ℕ) → CounterState → stm.Stmts
    → ToldIn How
counts_of m w r f d name c ss =
    after_in f (step w r) (λ _ w r. choose (is_over c)
    (λ _. told_in (Ok Next) w r f)
    (λ _. after_run (assign w r f name (numeral c.at)) (λ _ w r f. after_run (m.block w r f d ss) (λ h w r f.
    maybe (leaves_repeat h) (λ h2. told_in (Ok h2) w r f) (λ _. m.counts w r f d name (stepped c) ss)))))
