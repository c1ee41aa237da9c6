-- What stands behind the header of a part, by what it is a part of.
use Rattle.std.specs.Prelude.{ℕ}
use Rattle.ht_values.specs.declared.word.PartKind.{PartKind}
use Rattle.stack_text.specs.declared.sheets.Part.{Part}
use Rattle.stack_text.specs.Reading.{Reader, background_part_at, card_part_at}
use Rattle.stack_file.specs.declared.parts.Owner.{Owner}
use Rattle.stack_file.specs.declared.parts.Owner.TheVariants.{Background, Card}

abbrev pub rest_of : Owner → PartKind × ℕ → Reader Part
rest_of (Background version) head = background_part_at version head
rest_of Card head = card_part_at head
