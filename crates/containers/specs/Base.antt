-- What writes keep of a history.
use Rattle.std.specs.Prelude.{ℕ, List, Option, option_map}
use Rattle.journal_entries.specs.State.{State, titles_of}
use Rattle.change_journal.specs.History.{History, Open, Neighbour}

-- The history round the open batch, the state with which the batch began and the number of its line, how many states
-- are kept, and the names of the externals.
pub record Base : Type 0 where
  pub past : List Neighbour
  pub stamp : ℕ
  pub future : List Neighbour
  pub start : Option (State × ℕ)
  pub depth : ℕ
  pub titles : List (List ℕ)

abbrev pub began : Open → State × ℕ
began o = (o.state, o.number)

unfoldable pub base : History → Base
base h = record {
  past = h.past;
  stamp = h.stamp;
  future = h.future;
  start = option_map began h.start;
  depth = h.depth;
  titles = titles_of h.now.externals;
}
