use Rattle.std.proofs.Common.{sym, ap, ◌∙◌, is_some}
use Rattle.object_table.specs.Rows.{entries_of}
use Rattle.object_table.proofs.Opened.{get-map_of, contains-keys_of}
use Rattle.object_table.proofs.Pairs.{pairs}
use Rattle.object_table.proofs.Rows.{outer_some}
use Rattle.object_table.proofs.pair_table.PairTable.law_of_room.Goals as goal

pub returns : goal.returns
returns g c = λ p has_one.
    let es = entries_of c.args.self.now in
    contains-keys_of pairs es p
    ∙ outer_some (λ x. x) _ (ap (λ o. is_some o) (sym (get-map_of pairs es p)) ∙ has_one)
