use Rattle.std.proofs.Common.{◌≡◌, ◌-◌, map}
use Rattle.stack_text.specs.Reading.{times, card_at}
use Rattle.stack_file.specs.Views.{sheet_seen}
use Rattle.stack_file.proofs.Times.{with_front}
use Rattle.stack_file.proofs.document.counted_cards.Given as goal

-- the cards so far, and then those that are left
abbrev pub invariant-loop : goal.invariant-loop
invariant-loop l = with_front (map sheet_seen l.cards.items)
    (times (l.count - l.counter) (card_at l.version l.next (map sheet_seen l.backgrounds.list.now)) l.lines)
    ≡ times l.count (card_at l.version l.next (map sheet_seen l.backgrounds.list.now)) l.fn.lines
