use Rattle.std.proofs.Common.{◌≡◌, ◌+◌, ◌-◌, ◌∙◌, map, arith}
use Rattle.stack_text.specs.Reading.{card_at}
use Rattle.stack_file.specs.Views.{sheet_seen}
use Rattle.stack_file.proofs.Times.{times-push}
use Rattle.stack_file.proofs.document.counted_cards.Goals as goal

pub loop-preserved : goal.loop-preserved
loop-preserved c =
    let left : c.args.count - c.loop.counter ≡ c.args.count - (c.loop.counter + 1) + 1 = omega arith in
    times-push sheet_seen (card_at c.args.version c.args.next (map sheet_seen c.args.backgrounds.now.list.now)) _ _ _ _
    _ _ _ left c.in_ok-card.ensures c.in_ok-push.ensures.items ∙ c.loop.invariant
