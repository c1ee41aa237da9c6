use Rattle.std.proofs.Common.{rules, ◌∙◌, sym, ap, Ok}
use Rattle.stack_text.specs.Listing.{content_of}
use Rattle.stack_text.specs.Reading.{read_as}
use Rattle.stack_text.proofs.Laws.{stack_found, stack_again, refused_for_memory}
use Rattle.stack_file.proofs.building.read.Goals as goal

pub returns-in_err-lines-clause-only : goal.returns-in_err-lines-clause-only
returns-in_err-lines-clause-only c s is = let known = refused_for_memory c.args.bytes.now s is c.in_err-lines.field-0.0
    c.in_err-lines.ensures in search rules

pub returns-clause-found : goal.returns-clause-found
returns-clause-found c =
    stack_found c.args.bytes.now _ (ap (read_as content_of) c.in_ok-lines.ensures ∙ ap Ok (sym c.in_ok-build.ensures))

pub returns-clause-only : goal.returns-clause-only
returns-clause-only c s is = sym (stack_again c.args.bytes.now s is) ∙ ap (read_as content_of) c.in_ok-lines.ensures
    ∙ ap Ok (sym c.in_ok-build.ensures)
