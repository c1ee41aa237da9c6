use Rattle.std.proofs.Common.{◌≡◌, get_or, sym, ap, ◌∙◌, is_some, option_and_then}
use Rattle.object_table.specs.Rows.{ids_in, IsAt}
use Rattle.object_table.proofs.Opened.{of_found}
use Rattle.object_table.proofs.Rows.{entry-none, entry-read, none_before, none_there}
use Rattle.object_table.proofs.row.Row.get.Goals as goal

pub returns-in-Ok-clause-value : goal.returns-in-Ok-clause-value
returns-in-Ok-clause-value g c =
    let es = c.self.inside.places.items in
    let e = c.index.result.now in
    let at : IsAt (ids_in es) c.args.part c.in-Ok.place = rw c.self.view_is c.in-Ok.ensures.found in
    let read = entry-read es c.args.part c.in-Ok.place e at
    (none_before (ids_in es) c.self.invariant c.args.part c.in-Ok.place at) in
    let is : e ≡ get_or es c.in-Ok.place e = c.index.ensures in
    rw (← c.self.view_is) (c.as_ref.ensures.value ∙ ap (λ x. x.1) is ∙ sym (ap (option_and_then (λ v. v)) read))

pub returns-in-Ok-clause-open : goal.returns-in-Ok-clause-open
returns-in-Ok-clause-open g c =
    let es = c.self.inside.places.items in
    let at : IsAt (ids_in es) c.args.part c.in-Ok.place = rw c.self.view_is c.in-Ok.ensures.found in
    let read = entry-read es c.args.part c.in-Ok.place c.index.result.now at
    (none_before (ids_in es) c.self.invariant c.args.part c.in-Ok.place at) in
    rw (← c.self.view_is) (of_found c.as_ref.result (ap is_some read))

pub returns-in-Err-clause-value : goal.returns-in-Err-clause-value
returns-in-Err-clause-value g c =
    sym (ap (option_and_then (λ v. v)) (entry-none _ c.args.part (none_there _ c.args.part _ c.in-Err.ensures.absent)))
