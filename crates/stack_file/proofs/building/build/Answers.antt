use Rattle.std.proofs.Common.{◌∙◌, ap}
use Rattle.stack_file.specs.Building.{with_document}
use Rattle.stack_file.specs.Views.{text_seen}
use Rattle.stack_file.proofs.Built.{built-is}
use Rattle.stack_file.proofs.building.build.Goals as goal

pub returns : goal.returns
returns c = let d = text_seen c.args.lines in c.in_ok-add_document.ensures
    ∙ ap (with_document d) c.blank-stack.ensures.content ∙ built-is d
