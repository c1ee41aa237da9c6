use Rattle.std.proofs.Common.{◌<◌, option_copied, [], length, Some, None, ap, sym, ◌∙◌}
use Rattle.std.proofs.lemmas.List.{get_or_read}
use Rattle.containers.specs.declared.variables.Local.{Local}
use Rattle.containers.proofs.Locals.{local_found, local_missing}
use Rattle.containers.proofs.indexed_locals.Locals.find.Goals as goal

abbrev nobody : Local
nobody = record { name = []; value = None }

pub returns-in_err-place : goal.returns-in_err-place
returns-in_err-place c =
    ap option_copied c.from_residual.ensures
    ∙ sym (local_missing c.args.name.now c.args.self.now (sym c.in_err-place.ensures.value))

pub returns : goal.returns
returns c =
    let ls = c.args.self.now in
    let within : c.in_ok-place.place < length ls = c.in_ok-place.ensures.within in
    ap Some (get_or_read ls c.in_ok-place.place _ within (rw c.self.view_is at c.index.ensures) nobody)
    ∙ sym (local_found c.args.name.now ls c.in_ok-place.place nobody (sym c.in_ok-place.ensures.value))
