-- What a state is stays true when objects are made and removed.
use Rattle.std.proofs.Common.{◌≡◌, true, ℕ, ◌+◌, List, [], ◌∷◌, ◌++◌, map, refl, ap, ◌∙◌}
use Rattle.ht_values.specs.declared.word.PartKind.{PartKind}
use Rattle.object_table.specs.Content.{Content}
use Rattle.object_table.specs.Objects.{has_kind, is_card}
use Rattle.object_table.specs.WellFormed.{IsWellFormed}
use Rattle.object_table.specs.declared.object.LayerId.{LayerId}
use Rattle.structural_changes.specs.Writes.{StackWrite, put_each, following, fits_new_part, fits_deletion}
use Rattle.structural_changes.specs.Writes.{has_room_for, writes_of_new_part, writes_of_new_card}
use Rattle.structural_changes.specs.Writes.{writes_of_new_background, writes_of_deletion}
use Rattle.structural_changes.proofs.Backgrounds.{new_background_fits}
use Rattle.structural_changes.proofs.Cards.{new_card_fits, new_card_is_there}
use Rattle.structural_changes.proofs.Deletion.{deletion_fits, following_is_there}
use Rattle.structural_changes.proofs.Parts.{new_part_fits, cards_stay}
use Rattle.journal_entries.specs.State.{State, IsState}
use Rattle.journal_entries.specs.Places.{Write, put, put_all, in_the_stack}
use Rattle.journal_entries.specs.Changes.{changed, makes_current}
use Rattle.journal_entries.specs.declared.change.Change.TheVariants.{NewCard, NewBackground, NewPart, DeleteCard}

-- writes of the stack leave the rest
written : (s : State) (ws : List StackWrite)
    → put_all s (map in_the_stack ws) ≡ record s { stack = put_each s.stack ws }
unfolding put
written s [] = refl
written s (w ∷ ws) = written (put s (in_the_stack w).place w.value) ws

put_all-append : (s : State) (ws vs : List Write) → put_all s (ws ++ vs) ≡ put_all (put_all s ws) vs
put_all-append s [] vs = refl
put_all-append s (w ∷ ws) vs = put_all-append (put s w.place w.value) ws vs

-- a card becomes the current one after these
then_current : (s : State) (ws : List StackWrite) (card : ℕ)
    → put_all s (map in_the_stack ws ++ makes_current card ∷ [])
    ≡ record s { stack = put_each s.stack ws; current = card }
unfolding put
then_current s ws card = put_all-append s (map in_the_stack ws) (makes_current card ∷ [])
    ∙ ap (λ (t : State). record t { current = card }) (written s ws)

-- a card becomes the current one before these
current_first : (s : State) (ws : List StackWrite) (card : ℕ)
    → put_all s (makes_current card ∷ map in_the_stack ws) ≡ record s { stack = put_each s.stack ws; current = card }
unfolding put
current_first s ws card = written (record s { current = card }) ws

-- a state with another stack and current card
with_stack : (s : State) (stack : Content) (current : ℕ) → IsWellFormed stack → has_kind is_card stack current ≡ true
    → IsState s → IsState (record s { stack = stack; current = current })
with_stack s stack current w card q =
    record { stack = w; globals = q.globals; current = card; externals = q.externals; apart = q.apart }

pub state-new_card : (s : State) → has_room_for 1 s.stack ≡ true → IsState s → IsState (changed s NewCard)
state-new_card s f q =
    rw (then_current s (writes_of_new_card s.stack s.current) s.stack.next)
    (with_stack s (put_each s.stack (writes_of_new_card s.stack s.current)) s.stack.next
    (new_card_fits s.stack s.current q.stack f q.current) (new_card_is_there s.stack s.current q.stack f q.current)
    q)

pub state-new_background : (s : State) → has_room_for 2 s.stack ≡ true → IsState s → IsState (changed s NewBackground)
state-new_background s f q =
    let both = new_background_fits s.stack s.current q.stack f in
    rw (then_current s (writes_of_new_background s.stack s.current) (s.stack.next + 1))
    (with_stack s (put_each s.stack (writes_of_new_background s.stack s.current)) (s.stack.next + 1) both.0 both.1 q)

pub state-new_part : (s : State) (layer : LayerId) (kind : PartKind) → fits_new_part s.stack layer ≡ true → IsState s
    → IsState (changed s (NewPart layer kind))
state-new_part s layer kind f q =
    rw (written s (writes_of_new_part s.stack layer kind))
    (with_stack s (put_each s.stack (writes_of_new_part s.stack layer kind)) s.current
    (new_part_fits s.stack layer kind q.stack f) (cards_stay s.stack layer kind q.stack f s.current ∙ q.current) q)

pub state-deletion : (s : State) → fits_deletion s.stack ≡ true → IsState s → IsState (changed s DeleteCard)
state-deletion s f q =
    rw (current_first s (writes_of_deletion s.stack s.current) (following s.current s.stack.cards))
    (with_stack s (put_each s.stack (writes_of_deletion s.stack s.current)) (following s.current s.stack.cards)
    (deletion_fits s.stack s.current q.stack f q.current) (following_is_there s.stack s.current q.stack f q.current)
    q)

pub externals-new_card : (s : State) → (changed s NewCard).externals ≡ s.externals
externals-new_card s = ap (λ t. t.externals) (then_current s (writes_of_new_card s.stack s.current) s.stack.next)

pub externals-new_background : (s : State) → (changed s NewBackground).externals ≡ s.externals
externals-new_background s =
    ap (λ t. t.externals) (then_current s (writes_of_new_background s.stack s.current) (s.stack.next + 1))

pub externals-new_part : (s : State) (layer : LayerId) (kind : PartKind)
    → (changed s (NewPart layer kind)).externals ≡ s.externals
externals-new_part s layer kind = ap (λ t. t.externals) (written s (writes_of_new_part s.stack layer kind))

pub externals-deletion : (s : State) → (changed s DeleteCard).externals ≡ s.externals
externals-deletion s =
    ap (λ t. t.externals) (current_first s (writes_of_deletion s.stack s.current) (following s.current s.stack.cards))
