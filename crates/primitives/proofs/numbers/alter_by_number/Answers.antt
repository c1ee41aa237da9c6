use Rattle.std.proofs.Common.{ℕ, List, Result, Ok, Err, refl, ap, sym, ◌∙◌, SFits, rules, w64}
use Rattle.std.proofs.lemmas.Int.{to_z-of_z}
use Rattle.ht_grammar.specs.Trees as tree
use Rattle.ht_tree.specs.ContainerView.{container_of}
use Rattle.ht_values.specs.declared.operator.Op.{Op}
use Rattle.change_journal.specs.History.{History}
use Rattle.containers.specs.declared.edit.Edit.TheVariants as edit
use Rattle.containers.specs.Places.{PlaceView}
use Rattle.meaning.specs.declared.end.Stop.{Stop}
use Rattle.meaning.specs.declared.frame.Frame.{Frame}
use Rattle.meaning.specs.Meaning.{Alters, Resolves, Val}
use Rattle.meaning.specs.Places.{Edits}
use Rattle.meaning.specs.State.{RunState}
use Rattle.primitives.specs.Given.{then_next}
use Rattle.primitives.proofs.numbers.alter_by_number.Goals as goal

module _ {w w1 : History} {r : RunState} {f f1 : Frame} {d : ℕ} {op : Op} {e : tree.Expr} {ct : tree.Container}
    {pl : PlaceView} {t : List ℕ} where
  altered : (o : Result (Unit {0}) Stop) → Val w r f d e (Ok t) w r → Resolves w r f d ct (Ok pl) w r
      → Edits w f r.delimiter pl (edit.Alter op t) o w1 f1 → Alters w r f d op e ct (then_next o) w1 r f1
  altered (Ok tt) value place edits = Alters.alter value place edits
  altered (Err z) value place edits = Alters.alter_fails value place edits

pub returns-clause-meaning : goal.returns-clause-meaning
returns-clause-meaning g c d =
    let fits : SFits w64 c.in_ok-number.number = search rules in
    let value = rw (to_z-of_z w64 c.in_ok-number.number fits) at c.of_number.ensures in
    altered c.alter_variable.result (c.in_ok-number.ensures c.args.run.now d)
    (Resolves.place_variable (sym c.kind.ensures ∙ ap container_of c.in-Variable.is) refl)
    (rw value at c.alter_variable.ensures.meaning)
