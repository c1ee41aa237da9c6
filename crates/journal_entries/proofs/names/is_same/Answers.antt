use Rattle.std.proofs.lemmas.Slice.Eq.{bytes_eq-Decides}
use Rattle.std.proofs.lemmas.Bool.Decides.{same_from_decides}
use Rattle.ht_values.specs.Text.{folded}
use Rattle.journal_entries.proofs.names.is_same.Goals as goal

pub returns : goal.returns
returns c = same_from_decides _ _ c.same.ensures (bytes_eq-Decides (folded c.args.name.now) (folded c.args.other.now))
