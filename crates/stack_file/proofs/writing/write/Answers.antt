use Rattle.std.proofs.Common.{◌∙◌, ◌++◌, List, ℕ, ap}
use Rattle.stack_text.specs.Listing.{spelling}
use Rattle.stack_text.specs.declared.sheets.Version.TheVariants.{Second as second}
use Rattle.stack_text.proofs.Laws.{second_alone}
use Rattle.stack_file.proofs.writing.write.Goals as goal

pub returns-in-Ok-clause-text : goal.returns-in-Ok-clause-text
returns-in-Ok-clause-text c = c.in-Ok.ensures
    ∙ ap (λ (text : List ℕ). text ++ spelling second c.args.stack.now.content) c.new-text.ensures.items

pub returns-in-Ok-clause-spells : goal.returns-in-Ok-clause-spells
returns-in-Ok-clause-spells c =
    record { well_formed = c.requires; version = second; said = tt; text = returns-in-Ok-clause-text c }

pub returns-in-Ok-clause-only : goal.returns-in-Ok-clause-only
returns-in-Ok-clause-only c bytes of_second spells =
    returns-in-Ok-clause-text c ∙ second_alone bytes c.args.stack.now.content of_second spells
