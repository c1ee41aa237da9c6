-- Which kinds the externals of a history have.
use Rattle.std.specs.Prelude.{ℕ, List, map}
use Rattle.externals.specs.Cells.{Seen}
use Rattle.change_journal.specs.History.{History}

-- the kind of each of these externals
abbrev pub sorts_of : List Seen → List ℕ
sorts_of = map (λ e. e.sort)

-- and of each external that there is
abbrev pub sorts : History → List ℕ
sorts w = sorts_of w.now.externals
