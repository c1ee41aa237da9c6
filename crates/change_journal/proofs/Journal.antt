-- The journal of a world's fields.
use Rattle.std.proofs.Common.{ℕ, List}
use Rattle.journal_entries.specs.Exchange.{PresentView, BatchView}
use Rattle.change_journal.specs.Batches.{Journal}

abbrev pub journal : PresentView → ℕ → ℕ → List BatchView → ℕ → Journal
journal present oldest depth batches cursor =
    record { present = present; oldest = oldest; depth = depth; batches = batches; cursor = cursor }
