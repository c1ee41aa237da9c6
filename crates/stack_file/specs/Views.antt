-- What the definitions see of the reader's values.
use Rattle.std.specs.Prelude.{map}
use Rattle.stack_text.specs.Document.{Sheet, Document}
use Rattle.stack_file.specs.declared.sheets.SheetLines.{SheetLines}
use Rattle.stack_file.specs.declared.sheets.TextLines.{TextLines}

abbrev pub sheet_seen : SheetLines → Sheet
sheet_seen s = record { id = s.id; object = s.object; parts = s.parts.items; keepings = s.keepings.items }

abbrev pub text_seen : TextLines → Document
text_seen t = record {
  next = t.next;
  stack = t.stack;
  backgrounds = map sheet_seen t.backgrounds.items;
  cards = map
      sheet_seen t.cards.items;
}
