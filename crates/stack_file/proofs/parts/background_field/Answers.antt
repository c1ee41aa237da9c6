use Rattle.std.proofs.Common.{rules, refl, codes}
use Rattle.stack_text.specs.Reading.{Fails, background_field_at, block_after}
use Rattle.stack_file.proofs.Times.{fails_on}
use Rattle.stack_file.proofs.parts.background_field.Goals as goal

pub returns-in_err-text : goal.returns-in_err-text
unfolding background_field_at
returns-in_err-text c =
    let known : Fails c.in_err-text.field-0.0 (background_field_at c.args.id c.args.lines.now) =
    rw (
      c.in_ok-name.ensures,
      c.in_ok-visible.ensures,
      c.in_ok-lock_text.ensures,
      c.in_ok-shared_text.ensures,
      c.in_ok-script.ensures,
    ) (fails_on c.in_err-text.field-0.0 (block_after (codes "shared ") c.script.new.lines) _
    c.in_err-text.ensures)
    in
    search (rules, known)

pub returns : goal.returns
unfolding background_field_at
returns c = rw (
  c.in_ok-name.ensures,
  c.in_ok-visible.ensures,
  c.in_ok-lock_text.ensures,
  c.in_ok-shared_text.ensures,
  c.in_ok-script.ensures,
  c.in_ok-text.ensures,
) refl
