use Rattle.std.proofs.Common.{◌∙◌, ap}
use Rattle.stack_text.specs.declared.sheets.Version.TheVariants.{Second as second}
use Rattle.stack_text.specs.Spelling.{document_lines}
use Rattle.stack_text.specs.Listing.{document_of, spelling}
use Rattle.session.proofs.LineFeeds.{splits_whole}
use Rattle.session.proofs.queries.stack_shown.Goals as goal

pub returns : goal.returns
returns g c =
    let stack = c.args.world.now.history.now.stack in
    let split = c.in_ok-shown.ensures in
    let text = c.deref.ensures.value ∙ c.in_ok-text.ensures.text ∙ ap (spelling second) c.stack.ensures.content in
    rw text at (splits_whole (document_lines second (document_of stack)) _ _ split.0 text split.1)
