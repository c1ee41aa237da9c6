use Rattle.std.proofs.Common.{◌≡◌, take, filter}
use Rattle.structural_changes.specs.Writes.{is_card_of}
use Rattle.structural_changes.proofs.preparing.cards_of.Given as goal

-- the cards so far that are on the background
abbrev pub invariant-loop-card : goal.invariant-loop-card
invariant-loop-card l = record {
  items : l.card-items ≡ l.fn.stack.content.cards;
  found : l.cards.items ≡ filter (is_card_of l.fn.stack.content l.fn.background) (take l.card-index l.card-items);
}
