use Rattle.std.proofs.Common.{rules}
use Rattle.std.proofs.lemmas.List.Sorted.{answers_always}
use Rattle.object_table.proofs.Rows.{searched}
use Rattle.object_table.proofs.row.searched.Goals as goal

pub returns : goal.returns
returns g c =
    let facts = c.binary_search_by_key.ensures in
    let by_key = facts.position (λ place. place.0) (answers_always _ _ _ (λ f a r g called. search rules)) in
    searched _ c.requires c.args.part _ facts.bound by_key
