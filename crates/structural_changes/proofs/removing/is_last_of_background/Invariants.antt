use Rattle.std.proofs.Common.{◌≡◌, ◌||◌, true, not, nat_eq, take}
use Rattle.std.specs.List.{list_all}
use Rattle.structural_changes.specs.Writes.{home, is_card_of}
use Rattle.structural_changes.proofs.removing.is_last_of_background.Given as goal

-- none of the cards so far is another one on the background
abbrev pub invariant-loop-other : goal.invariant-loop-other
invariant-loop-other l = record {
  items : l.other-items ≡ l.fn.stack.content.cards;
  none : list_all (λ other. nat_eq other l.fn.card || not
      (is_card_of l.fn.stack.content (home l.fn.stack.content l.fn.card) other)) (take l.other-index l.other-items)
      ≡ true;
}
