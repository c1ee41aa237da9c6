use Rattle.std.proofs.Common.{[], ◌||◌, Some, None, ap, sym, ◌∙◌, w64}
use Rattle.std.proofs.lemmas.Int.{to_z-of_z}
use Rattle.ht_values.specs.Text.{numeral}
use Rattle.containers.specs.declared.variables.Local.{Local}
use Rattle.containers.specs.Variables.{is_global, with_local}
use Rattle.containers.proofs.Locals.{global_found, value_set}
use Rattle.containers.proofs.variables.Variables.put_number.Goals as goal

abbrev nobody : Local
nobody = record { name = []; value = None }

pub returns-in-Some-clause-put : goal.returns-in-Some-clause-put
returns-in-Some-clause-put c e =
    let ls = c.self.inside.locals in
    let name = c.args.name.now in
    let found = sym c.number_of.ensures.value ∙ c.in-Some.is in
    let global = ap (λ v. is_global v name) (sym c.self.view_is)
    ∙ global_found c.self.inside.all_global name ls c.in-Some.i nobody found in
    let p = rw (to_z-of_z w64 c.args.number c.ranges.number) at (c.put_number_at.ensures.put e nobody) in (
      global ∙ (λ k. c.if-self.false k || p.0 k),
      ap (λ xs. record { all_global = c.self.inside.all_global; locals = xs })
          (p.1 ∙ sym (value_set name (Some (numeral c.args.number)) ls c.in-Some.i nobody found))
          ∙ ap (λ v. with_local v name (Some (numeral c.args.number))) c.self.view_is,
    )
