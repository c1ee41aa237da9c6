use Rattle.std.proofs.Common.{◌≡◌, map, take}
use Rattle.stack_text.specs.Document.{backgrounds_of}
use Rattle.stack_file.specs.Views.{sheet_seen}
use Rattle.stack_file.proofs.backgrounds.owners_of.Given as goal

abbrev pub invariant-loop-card : goal.invariant-loop-card
invariant-loop-card l = l.owners ≡ backgrounds_of (map sheet_seen (take l.card-index l.cards))
