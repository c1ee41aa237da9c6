-- The numbers of the states of a session.
use Rattle.std.specs.Prelude.{ℕ, ◌≤◌, List, [], ◌∷◌, ◌++◌, map, reverse}
use Rattle.change_journal.specs.History.{History, Neighbour}
use Rattle.session.specs.Moves.{stamps}

-- the first of these numbers is at most this one, and each other at most the one before it
abbrev pub DescendFrom : ℕ → List ℕ → Type 0
DescendFrom n [] = Unit {0}
DescendFrom n (m ∷ ms) = (m ≤ n) × DescendFrom m ms

abbrev pub numbers_of : List Neighbour → List ℕ
numbers_of = map (λ step. step.stamp)

-- the numbers of all states, from the last one back
abbrev pub all_stamps : History → List ℕ
all_stamps h = reverse (numbers_of h.future) ++ stamps h

-- The states were added one after the other, by lines up to this one. Lines past the greatest number all have that.
abbrev pub AreStamped : ℕ → History → Type 0
AreStamped lines h = DescendFrom lines (all_stamps h)
