use Rattle.std.proofs.Common.{◌∙◌, ap, map, List, ℕ}
use Rattle.std.specs.List.{list_all}
use Rattle.stack_text.specs.Document.{Sheet, contains_id}
use Rattle.stack_file.specs.Views.{sheet_seen}
use Rattle.stack_file.proofs.backgrounds.each_has_card.Goals as goal

pub returns : goal.returns
returns c = c.each_among.ensures
    ∙ ap (λ (ids : List ℕ). list_all (λ (b : Sheet). contains_id b.id ids) (map sheet_seen c.args.backgrounds.now))
    c.in_ok-owners.ensures
