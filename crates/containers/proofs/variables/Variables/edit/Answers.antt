use Rattle.std.proofs.Common.{◌≡◌, [], Some, None, Ok, refl, ap, sym, ◌∙◌, get_or, unwrap_or, rules}
use Rattle.containers.specs.declared.variables.Local.{Local}
use Rattle.containers.specs.Edits.{edited}
use Rattle.containers.specs.Variables.{own_text, with_local, with_value}
use Rattle.containers.specs.Writes.{Writes}
use Rattle.containers.proofs.Locals.{text_found, text_missing, value_set}
use Rattle.containers.proofs.variables.Variables.edit.Goals as goal

abbrev nobody : Local
nobody = record { name = []; value = None }

pub returns-in_err-value-in-Some-clause-fault : goal.returns-in_err-value-in-Some-clause-fault
returns-in_err-value-in-Some-clause-fault c =
    let ls = c.self.inside.locals in
    let found = sym c.number_of.ensures.value ∙ c.in-Some.is in
    let text : own_text c.args.self.now c.args.name.now
    ≡ unwrap_or (get_or c.as_slice.result.now c.in-Some.i nobody).value [] =
    ap (λ v. own_text v c.args.name.now) (sym c.self.view_is)
    ∙ text_found c.self.inside.all_global c.args.name.now ls c.in-Some.i nobody found
    ∙ ap (λ xs. unwrap_or (get_or xs c.in-Some.i nobody).value []) (sym c.as_slice.ensures) in
    rw text (search (rules, c.in_err-value-in-Some.ensures))

pub returns-in-Some-2-clause-ok : goal.returns-in-Some-2-clause-ok
returns-in-Some-2-clause-ok c h =
    let ls = c.self.inside.locals in
    let found = sym c.number_of.ensures.value ∙ c.in-Some.is in
    let text : own_text c.args.self.now c.args.name.now
    ≡ unwrap_or (get_or c.as_slice.result.now c.in-Some.i nobody).value [] =
    ap (λ v. own_text v c.args.name.now) (sym c.self.view_is)
    ∙ text_found c.self.inside.all_global c.args.name.now ls c.in-Some.i nobody found
    ∙ ap (λ xs. unwrap_or (get_or xs c.in-Some.i nobody).value []) (sym c.as_slice.ensures) in
    let due = ap (λ t. edited c.args.delimiter c.args.chunks.now c.args.edit t) text
    ∙ c.in_ok-value-in-Some.ensures nobody ∙ ap Ok c.in-Some-2.is in
    let set : c.set_value.new.self ≡ with_value c.args.name.now (Some c.in-Some-2.value) ls =
    c.set_value.ensures nobody ∙ sym (value_set _ _ _ _ nobody found) in
    Writes.to_own refl due (ap (λ xs. record { all_global = c.self.inside.all_global; locals = xs }) set
    ∙ ap (λ v. with_local v c.args.name.now (Some c.in-Some-2.value)) c.self.view_is)

pub returns-in_default-clause-ok : goal.returns-in_default-clause-ok
returns-in_default-clause-ok c h =
    let ls = c.self.inside.locals in
    let found = sym c.number_of.ensures.value ∙ c.in-Some.is in
    let text : own_text c.args.self.now c.args.name.now
    ≡ unwrap_or (get_or c.as_slice.result.now c.in-Some.i nobody).value [] =
    ap (λ v. own_text v c.args.name.now) (sym c.self.view_is)
    ∙ text_found c.self.inside.all_global c.args.name.now ls c.in-Some.i nobody found
    ∙ ap (λ xs. unwrap_or (get_or xs c.in-Some.i nobody).value []) (sym c.as_slice.ensures) in
    Writes.nothing_due (ap (λ t. edited c.args.delimiter c.args.chunks.now c.args.edit t) text
    ∙ c.in_ok-value-in-Some.ensures nobody ∙ ap Ok c.in_default.is)

pub returns-in_err-value-in-None-clause-fault : goal.returns-in_err-value-in-None-clause-fault
returns-in_err-value-in-None-clause-fault c =
    let ls = c.self.inside.locals in
    let missing = sym c.number_of.ensures.value ∙ c.in-None.is in
    let text : own_text c.args.self.now c.args.name.now ≡ [] = ap (λ v. own_text v c.args.name.now) (sym c.self.view_is)
    ∙ text_missing c.self.inside.all_global c.args.name.now ls missing in
    rw text (search (rules, c.in_err-value-in-None.ensures))

pub returns-in-Some-3-clause-ok : goal.returns-in-Some-3-clause-ok
returns-in-Some-3-clause-ok c h =
    let ls = c.self.inside.locals in
    let missing = sym c.number_of.ensures.value ∙ c.in-None.is in
    let text : own_text c.args.self.now c.args.name.now ≡ [] = ap (λ v. own_text v c.args.name.now) (sym c.self.view_is)
    ∙ text_missing c.self.inside.all_global c.args.name.now ls missing in
    rw text (search (rules, Writes.to_own))

pub returns-clause-ok : goal.returns-clause-ok
returns-clause-ok c h =
    let ls = c.self.inside.locals in
    let missing = sym c.number_of.ensures.value ∙ c.in-None.is in
    let text : own_text c.args.self.now c.args.name.now ≡ [] = ap (λ v. own_text v c.args.name.now) (sym c.self.view_is)
    ∙ text_missing c.self.inside.all_global c.args.name.now ls missing in
    rw text (search (rules, Writes.nothing_due))
