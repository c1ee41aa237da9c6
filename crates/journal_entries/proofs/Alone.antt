-- An entry that a batch holds without a list stays one.
use Rattle.std.proofs.Common.{◌≡◌, List, [], ◌∷◌, ℕ, true}
use Rattle.stack_places.specs.Exchange.{taken as taken_of_stack}
use Rattle.stack_places.specs.declared.entry.StackEntry.TheVariants as places
use Rattle.journal_entries.specs.State.{State}
use Rattle.journal_entries.specs.Exchange.{taken}
use Rattle.journal_entries.specs.BatchEntries.{needs_no_list}
use Rattle.journal_entries.specs.declared.entry.Entry.{Entry}
use Rattle.journal_entries.specs.declared.entry.Entry.TheVariants.{Global, Current, Stack, External}

pub stays_alone : (names : List (List ℕ)) (s : State) (e : Entry) → needs_no_list (e ∷ []) ≡ true
    → needs_no_list (taken names s e ∷ []) ≡ true
unfolding taken taken_of_stack
stays_alone names s (Global i v) is = is
stays_alone names s (Current c) is = is
stays_alone names s (Stack (places.Prop id v)) is = is
stays_alone names s (Stack (places.FieldText field card v)) is = is
stays_alone names s (Stack (places.Hilite button card v)) is = is
stays_alone names s (Stack (places.Object id v)) is = is
stays_alone names s (Stack (places.CardOrder l)) is = is
stays_alone names s (Stack (places.BackgroundOrder l)) is = is
stays_alone names s (Stack (places.Parts layer v)) is = is
stays_alone names s (Stack (places.NextId n)) is = is
stays_alone names s (External i p) is = is
