use Rattle.std.proofs.Common.{◌∙◌, ap, option_map}
use Rattle.object_table.specs.Content.{Content}
use Rattle.stack_text.specs.Listing.{spelling}
use Rattle.stack_text.specs.declared.sheets.Version.TheVariants.{Second as second}
use Rattle.headline.proofs.Saving.{desk_keeps}
use Rattle.headline.proofs.transcript.settle.Goals as goal

pub returns-then-keep : goal.returns-then-keep
returns-then-keep g c =
    let old = g.D.Desk.seen c.args.desk.now in
    let kept = c.if-keep.ensures.kept
    ∙ ap (λ (s : Content). option_map (λ _. spelling second s) old.kept) c.stack.ensures.content in
    desk_keeps c.args.ending c.in-Save.field-0 _ old (g.D.Desk.seen c.keep.new.self)
    c.in-Save.is c.requires kept c.if-keep.ensures.heard c.if-keep.ensures.failures
