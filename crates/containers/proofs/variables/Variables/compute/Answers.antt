use Rattle.std.proofs.Common.{◌≡◌, [], ◌||◌, Some, None, ap, sym, ◌∙◌, get_or, unwrap_or}
use Rattle.std.proofs.lemmas.Option.{IfSome_then}
use Rattle.ht_values.specs.Operators.{binary}
use Rattle.ht_values.specs.Text.{numeral}
use Rattle.containers.specs.declared.variables.Local.{Local}
use Rattle.containers.specs.Variables.{is_global, own_text, with_local}
use Rattle.containers.proofs.Locals.{global_found, text_found, value_set}
use Rattle.containers.proofs.variables.Variables.compute.Goals as goal

abbrev nobody : Local
nobody = record { name = []; value = None }

pub returns-in-Some-clause-number : goal.returns-in-Some-clause-number
returns-in-Some-clause-number c =
    let ls = c.self.inside.locals in
    let name = c.args.name.now in
    let found = sym c.number_of.ensures.value ∙ c.in-Some.is in
    let global = ap (λ v. is_global v name) (sym c.self.view_is)
    ∙ global_found c.self.inside.all_global name ls c.in-Some.i nobody found in
    let text : own_text c.args.self.now name ≡ unwrap_or (get_or ls c.in-Some.i nobody).value [] =
    ap (λ v. own_text v name) (sym c.self.view_is)
    ∙ text_found c.self.inside.all_global name ls c.in-Some.i nobody found in
    IfSome_then c.compute_at.result c.compute_at.ensures.number (λ n h. let p = h nobody in (
      global ∙ (λ k. c.if-self.false k || p.0 k),
      ap (λ t. binary c.args.op t c.args.operand.now) text ∙ p.1,
      ap (λ xs. record { all_global = c.self.inside.all_global; locals = xs })
          (p.2 ∙ sym (value_set name (Some (numeral n)) ls c.in-Some.i nobody found))
          ∙ ap (λ v. with_local v name (Some (numeral n))) c.self.view_is,
    ))
