use Rattle.std.proofs.Common.{refl}
use Rattle.stack_text.specs.Reading.{background_button_at}
use Rattle.stack_file.proofs.parts.background_button.Goals as goal

pub returns : goal.returns
unfolding background_button_at
returns c = rw (
  c.in_ok-name.ensures,
  c.in_ok-visible.ensures,
  c.in_ok-shared_hilite.ensures,
  c.in_ok-lit.ensures,
  c.in_ok-script.ensures,
) refl
