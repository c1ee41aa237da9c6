use Rattle.std.proofs.Common.{ap}
use Rattle.std.proofs.lemmas.List.{take-map}
use Rattle.ht_values.specs.Text.{folded as folded_of}
use Rattle.ht_values.proofs.few_bytes.FewBytes.fold.Goals as goal

pub returns : goal.returns
returns c = rw (c.make_ascii_lowercase.ensures.after, take-map) (ap folded_of c.self.view_is)
