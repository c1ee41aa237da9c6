use Rattle.std.proofs.Common.{ℕ, List, length, ◌≤◌, ◌-◌, ◌++◌, ◌∙◌, ap, get_or, replicate, rules}
use Rattle.std.proofs.lemmas.List.{take_all}
use Rattle.object_table.proofs.Paged.{filled}
use Rattle.object_table.proofs.pages.Page.fill.Goals as goal

pub returns-in_ok-resize-clause-same : goal.returns-in_ok-resize-clause-same
returns-in_ok-resize-clause-same c =
    let numbers : List ℕ = c.self.inside.numbers.items in
    let more : ℕ = 64 - c.self.inside.numbers.len in
    let few : length numbers ≤ 64 = search rules in
    rw (← c.self.view_is)
    (λ q.
    ap (λ ns. get_or ns q 0) (c.in_ok-resize.ensures.items
    ∙ ap (λ ns. ns ++ replicate more 0) (take_all 64 numbers few))
    ∙ filled 0 numbers more q)
