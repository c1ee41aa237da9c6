-- The marks of entries of the stack.
use Rattle.std.proofs.Common.{◌≡◌, Bool, true, false, refl}
use Rattle.stack_places.specs.Places.{StackPlace}
use Rattle.stack_places.specs.Exchange.{is_structural, place_of}
use Rattle.stack_places.specs.declared.entry.StackEntry.{StackEntry}
use Rattle.stack_places.specs.declared.entry.StackEntry.TheVariants.{Prop, FieldText, Hilite, Object, CardOrder}
use Rattle.stack_places.specs.declared.entry.StackEntry.TheVariants.{BackgroundOrder, Parts, NextId}
use Rattle.journal_entries.specs.Places.{in_stack}
use Rattle.journal_entries.specs.Trails.{Mark, at, structural, mark_at}

-- the mark of a place, of which is known whether an object stands there
abbrev pub stack_mark : Bool → StackPlace → Mark
stack_mark true p = structural
stack_mark false p = at (in_stack p)

pub stack_marked : (e : StackEntry) → mark_at (in_stack (place_of e)) ≡ stack_mark (is_structural e) (place_of e)
unfolding is_structural
stack_marked (Prop id v) = refl
stack_marked (FieldText field card v) = refl
stack_marked (Hilite button card v) = refl
stack_marked (Object id v) = refl
stack_marked (CardOrder l) = refl
stack_marked (BackgroundOrder l) = refl
stack_marked (Parts layer v) = refl
stack_marked (NextId n) = refl
