use Rattle.std.proofs.Common.{rules, refl}
use Rattle.stack_text.specs.Reading.{Fails, background_at, background_part_at, parts_at}
use Rattle.stack_file.proofs.Times.{fails_on}
use Rattle.stack_file.proofs.layers.background.Goals as goal

pub returns-in_err-parts : goal.returns-in_err-parts
unfolding background_at
returns-in_err-parts c =
    let e = c.in_err-parts.field-0.0 in
    let known : Fails e (background_at c.args.version c.args.next c.args.lines.now) =
    rw (c.in_ok-id.ensures, c.in_ok-name.ensures)
    (fails_on e (parts_at c.args.next (background_part_at c.args.version) c.layer.new.lines) _
    c.in_err-parts.ensures)
    in
    search (rules, known)

pub returns : goal.returns
unfolding background_at
returns c = rw (c.in_ok-id.ensures, c.in_ok-name.ensures, c.in_ok-parts.ensures, c.new.ensures.items) refl
