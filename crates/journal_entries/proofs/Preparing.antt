-- An entry for each change.
use Rattle.std.proofs.Common.{◌≡◌, ◌∷◌, true, Bool, ℕ, List, [], refl, sym, subst, ap, Some}
use Rattle.std.specs.FinSet.{contains}
use Rattle.object_table.specs.Setting.{may_set}
use Rattle.object_table.specs.declared.property.PropValue.{PropValue}
use Rattle.stack_places.specs.Exchange.{entry_weight as stack_weight, IsReady as IsStackReady}
use Rattle.stack_places.specs.declared.entry.StackEntry.{StackEntry}
use Rattle.stack_places.specs.declared.entry.StackEntry.TheVariants as stack_entries
use Rattle.stack_places.proofs.Exchanging.{IsThere, puts, taken_weight}
use Rattle.structural_changes.specs.Prepared.{write_of}
use Rattle.journal_entries.specs.State.{State}
use Rattle.journal_entries.specs.Changes.{writes_of, makes_current}
use Rattle.journal_entries.specs.declared.change.Change.{Change}
use Rattle.journal_entries.specs.declared.entry.Entry.{Entry}
use Rattle.journal_entries.specs.Places.{Write, in_the_stack, put}
use Rattle.journal_entries.specs.Exchange.{PresentView, shape_of, exchanged, taken, mark_of, entry_weight, IsReady}
use Rattle.journal_entries.specs.Turning.{Prepares, IsNumbered, Carries, AreCarried}
use Rattle.journal_entries.specs.declared.change.Change.TheVariants as changes
use Rattle.journal_entries.specs.declared.entry.Entry.TheVariants as entries

-- a change of one place
prepares_one : (h : PresentView) (change : Change) (w : Write) (e : Entry) → IsReady (shape_of h) e
    → IsNumbered h.names e → writes_of h.state change ≡ w ∷ [] → Carries h.names h.state w e
    → Prepares h change (e ∷ [])
prepares_one h change w e ready numbered writes carries = record {
  ready = (ready, tt);
  carried = subst (λ ws. AreCarried h.names h.state ws (e ∷ [])) (sym writes) (numbered, carries, tt);
}

-- the card that becomes the current one
pub current_carried : (names : List (List ℕ)) (s : State) (card : ℕ)
    → Carries names s (makes_current card) (entries.Current card)
unfolding exchanged taken mark_of entry_weight put
current_carried names s card = record { mark = refl; state = refl; forth = refl; back = refl }

-- an entry of the stack
pub stack_carried : (names : List (List ℕ)) (s : State) (e : StackEntry) → IsThere s.stack e
    → Carries names s (in_the_stack (write_of e)) (entries.Stack e)
unfolding exchanged taken mark_of entry_weight put stack_weight
stack_carried names s e there = record {
  mark = refl;
  state = ap (λ k. record s { stack = k }) (puts s.stack e);
  forth =
      refl;
  back = taken_weight s.stack e there;
}

prepares_in_stack : (h : PresentView) (change : Change) (e : StackEntry) → IsStackReady h.room e
    → IsThere h.state.stack e → writes_of h.state change ≡ in_the_stack (write_of e) ∷ []
    → Prepares h change (entries.Stack e ∷ [])
unfolding IsReady IsNumbered
prepares_in_stack h change e ready there writes = prepares_one h change (in_the_stack (write_of e)) (entries.Stack e)
    ready tt writes (stack_carried h.names h.state e there)

pub prepares_text : (h : PresentView) (field card : ℕ) (t : List ℕ) → contains h.room.texts (field, card) ≡ true
    → Prepares h (changes.FieldText field card t) (entries.Stack (stack_entries.FieldText field card (Some t)) ∷ [])
unfolding IsStackReady
prepares_text h field card t opened =
    prepares_in_stack h (changes.FieldText field card t) (stack_entries.FieldText field card (Some t)) opened tt refl

pub prepares_hilite : (h : PresentView) (button card : ℕ) (b : Bool) → contains h.room.hilites (button, card) ≡ true
    → Prepares h (changes.Hilite button card b) (entries.Stack (stack_entries.Hilite button card (Some b)) ∷ [])
unfolding IsStackReady
prepares_hilite h button card b opened =
    prepares_in_stack h (changes.Hilite button card b) (stack_entries.Hilite button card (Some b)) opened tt refl

pub prepares_property : (h : PresentView) (id : ℕ) (v : PropValue) → may_set h.state.stack id v ≡ true
    → Prepares h (changes.Prop id v) (entries.Stack (stack_entries.Prop id v) ∷ [])
unfolding IsStackReady
prepares_property h id v there = prepares_in_stack h (changes.Prop id v) (stack_entries.Prop id v) tt there refl
