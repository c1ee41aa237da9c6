-- What a batch holds.
use Rattle.std.specs.Prelude.{Bool, true, false, nat_lt, ◌^◌, List, [], ◌∷◌, Some, None}
use Rattle.stack_places.specs.declared.entry.StackEntry.TheVariants as places
use Rattle.journal_entries.specs.declared.entry.Entry.{Entry}
use Rattle.journal_entries.specs.declared.entry.Entry.TheVariants as entries
use Rattle.journal_entries.specs.declared.batch.BatchEntries.{BatchEntries}
use Rattle.journal_entries.specs.declared.batch.BatchEntries.TheVariants.{Value, NoValue, Current, FieldText}
use Rattle.journal_entries.specs.declared.batch.BatchEntries.TheVariants.{NoFieldText, Hilite, Several}

abbrev pub entries_in : BatchEntries → List Entry
entries_in (Value i text) = entries.Global i (Some text) ∷ []
entries_in (NoValue i) = entries.Global i None ∷ []
entries_in (Current card) = entries.Current card ∷ []
entries_in (FieldText field card text) = entries.Stack (places.FieldText field card (Some text)) ∷ []
entries_in (NoFieldText field card) = entries.Stack (places.FieldText field card None) ∷ []
entries_in (Hilite button card hilite) = entries.Stack (places.Hilite button card hilite) ∷ []
entries_in (Several list) = list.items

-- whether these are one entry that a batch holds without a list
abbrev pub needs_no_list : List Entry → Bool
needs_no_list (entries.Global i v ∷ []) = nat_lt i (2 ^ 32)
needs_no_list (entries.Current c ∷ []) = true
needs_no_list (entries.Stack (places.FieldText f c t) ∷ []) = true
needs_no_list (entries.Stack (places.Hilite b c h) ∷ []) = true
needs_no_list _ = false
