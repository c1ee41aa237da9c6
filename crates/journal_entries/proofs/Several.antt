-- The entries of the changes that make and remove objects.
use Rattle.std.proofs.Common.{◌≡◌, ◌∷◌, ◌++◌, ◌+◌, true, Bool, false, ◌&&◌, ◌||◌, if◌then◌else◌, ℕ, List, [], map}
use Rattle.std.proofs.Common.{filter, refl, ap, ◌∙◌, subst}
use Rattle.std.proofs.lemmas.Bool.{and_parts}
use Rattle.std.proofs.lemmas.List.Folds.{list_all-append}
use Rattle.std.specs.FinMap.{keys}
use Rattle.std.specs.List.{AllByRecursion, list_all}
use Rattle.ht_values.specs.declared.word.PartKind.{PartKind}
use Rattle.ht_values.specs.declared.word.PartKind.TheVariants.{Button, Field}
use Rattle.object_table.specs.Content.{Content}
use Rattle.object_table.specs.Pairs.{Pair}
use Rattle.object_table.specs.Table.{Table}
use Rattle.object_table.specs.declared.object.LayerId.{LayerId}
use Rattle.object_table.specs.declared.object.LayerId.TheVariants.{OfCard, OfBackground}
use Rattle.stack_places.specs.Places.{StackPlace, property, whole, layer_parts, field_text, button_hilite}
use Rattle.stack_places.specs.Places.{background_order, ids, text, logical}
use Rattle.stack_places.specs.Exchange.{IsReady as IsStackReady, place_of, value_of}
use Rattle.stack_places.specs.declared.entry.StackEntry.{StackEntry}
use Rattle.stack_places.specs.declared.entry.StackEntry.TheVariants as stack_entries
use Rattle.stack_places.proofs.Exchanging.{IsThere, false_true}
use Rattle.structural_changes.specs.Prepared.{Adds, write_of}
use Rattle.structural_changes.specs.Writes.{StackWrite, following, without, ids_where, is_part_of, keeps, home}
use Rattle.structural_changes.specs.Writes.{is_last_card, goes_as_layer, goes_as_part, goes_as_content, clear, write}
use Rattle.structural_changes.specs.Writes.{texts_of, hilites_of, kept_for, first_contents, clears_of_deletion}
use Rattle.structural_changes.specs.Writes.{writes_of_new_part, writes_of_new_card, writes_of_new_background}
use Rattle.structural_changes.specs.Writes.{writes_of_deletion}
use Rattle.journal_entries.specs.State.{State}
use Rattle.journal_entries.specs.Changes.{makes_current}
use Rattle.journal_entries.specs.Places.{Write, in_the_stack, put}
use Rattle.journal_entries.specs.Exchange.{PresentView, Shape, shape_of, IsReady, AreReady}
use Rattle.journal_entries.specs.Turning.{Prepares, IsNumbered, AreCarried}
use Rattle.journal_entries.specs.declared.change.Change.TheVariants.{NewCard, NewBackground, NewPart, DeleteCard}
use Rattle.journal_entries.specs.declared.entry.Entry.{Entry}
use Rattle.journal_entries.specs.declared.entry.Entry.TheVariants.{Current, Stack}
use Rattle.journal_entries.proofs.Going.{AreReady-push}
use Rattle.journal_entries.proofs.Preparing.{current_carried, stack_carried}

-- ---- none of the places is a property

no_property : StackPlace → Bool
no_property (property id p) = false
no_property _ = true

abbrev of_objects : StackWrite → Bool
of_objects w = no_property w.place

each_of : {X Y : Type 0} (p : Y → Bool) (f : X → Y) → ((x : X) → p (f x) ≡ true) → (xs : List X)
    → list_all p (map f xs) ≡ true
each_of p f h [] = refl
each_of p f h (x ∷ xs) = ap (λ b. b && list_all p (map f xs)) (h x) ∙ each_of p f h xs

both : (a b : Bool) → a ≡ true → b ≡ true → a && b ≡ true
both a b p q = ap (λ c. c && b) p ∙ q

all_of : (ws vs : List StackWrite) → list_all of_objects ws ≡ true → list_all of_objects vs ≡ true
    → list_all of_objects (ws ++ vs) ≡ true
all_of ws vs p q = list_all-append of_objects ws vs ∙ both _ _ p q

first_contents_of : (s : Content) (layer : LayerId) (kind : PartKind) (part : ℕ)
    → list_all of_objects (first_contents s layer kind part) ≡ true
unfolding no_property
first_contents_of s layer Field part =
    each_of of_objects (λ card. write (field_text part card) (text [])) (λ card. refl) (kept_for s layer)
first_contents_of s (OfBackground background) Button part = each_of of_objects
    (λ card. write (button_hilite part card) (logical false)) (λ card. refl) (kept_for s (OfBackground background))
first_contents_of s (OfCard card) Button part = refl

new_part_of : (s : Content) (layer : LayerId) (kind : PartKind)
    → list_all of_objects (writes_of_new_part s layer kind) ≡ true
unfolding no_property
new_part_of s layer kind = first_contents_of s layer kind s.next

new_card_of : (s : Content) (card : ℕ) → list_all of_objects (writes_of_new_card s card) ≡ true
unfolding no_property
new_card_of s card =
    let fields = ids_where s (is_part_of (keeps Field) s (home s card)) in
    let buttons = ids_where s (is_part_of (keeps Button) s (home s card)) in
    all_of (texts_of fields s.next) (hilites_of buttons s.next)
    (each_of of_objects (λ field. write (field_text field s.next) (text [])) (λ field. refl) fields)
    (each_of of_objects (λ button. write (button_hilite button s.next) (logical false)) (λ button. refl) buttons)

clears_of : (s : Content) (card : ℕ) → list_all of_objects (clears_of_deletion s card) ≡ true
unfolding no_property
clears_of s card =
    let objects = ids_where s (λ id. goes_as_layer s card id || goes_as_part s card id) in
    let layers = filter (goes_as_layer s card) (keys s.parts) in
    let fields = filter (goes_as_content s card) (keys s.texts) in
    let buttons = filter (goes_as_content s card) (keys s.hilites) in
    let gone : List StackWrite = map (λ id. clear (whole id)) objects in
    let parts : List StackWrite = map (λ id. clear (layer_parts id)) layers in
    let texts : List StackWrite = map (λ (p : Pair). clear (field_text p.0 p.1)) fields in
    let hilites : List StackWrite = map (λ (p : Pair). clear (button_hilite p.0 p.1)) buttons in
    let layered = all_of gone parts (each_of of_objects (λ id. clear (whole id)) (λ id. refl) objects)
    (each_of of_objects (λ id. clear (layer_parts id)) (λ id. refl) layers) in
    let with_texts = all_of (gone ++ parts) texts layered
    (each_of of_objects (λ (p : Pair). clear (field_text p.0 p.1)) (λ p. refl) fields) in
    all_of (gone ++ parts ++ texts) hilites with_texts
    (each_of of_objects (λ (p : Pair). clear (button_hilite p.0 p.1)) (λ p. refl) buttons)

deletion_of : (s : Content) (card : ℕ) → list_all of_objects (writes_of_deletion s card) ≡ true
unfolding no_property
deletion_of s card = by (is_last_card s card)
  where
    by : (b : Bool) → list_all of_objects
        ((if b then write background_order (ids (without (home s card) s.backgrounds)) ∷ [] else [])
        ++ clears_of_deletion s card) ≡ true
    by true = clears_of s card
    by false = clears_of s card

-- ---- an entry for each write

there : (s : Content) (e : StackEntry) → no_property (place_of e) ≡ true → IsThere s e
unfolding no_property
there s (stack_entries.Prop id v) h = false_true h
there s (stack_entries.FieldText f c v) h = tt
there s (stack_entries.Hilite b c v) h = tt
there s (stack_entries.Object id v) h = tt
there s (stack_entries.CardOrder l) h = tt
there s (stack_entries.BackgroundOrder l) h = tt
there s (stack_entries.Parts layer v) h = tt
there s (stack_entries.NextId n) h = tt

each_carried : (names : List (List ℕ)) (s : State) (es : List StackEntry) → list_all of_objects (map write_of es) ≡ true
    → AreCarried names s (map in_the_stack (map write_of es)) (map (λ e. Stack e) es)
unfolding IsNumbered
each_carried names s [] h = tt
each_carried names s (e ∷ es) h =
    let parts = and_parts (no_property (place_of e)) (list_all of_objects (map write_of es)) h in (
      tt,
      stack_carried names s e (there s.stack e parts.0),
      each_carried names
          (put s (in_the_stack (write_of e)).place (value_of e)) es parts.1,
    )

one_more : (names : List (List ℕ)) (s : State) (ws : List Write) (es : List Entry) (card : ℕ) → AreCarried names s ws es
    → AreCarried names s (ws ++ makes_current card ∷ []) (es ++ Current card ∷ [])
unfolding IsNumbered
one_more names s [] [] card h = (tt, current_carried names s card, tt)
one_more names s [] (e ∷ es) card h = absurd h
one_more names s (w ∷ ws) [] card h = absurd h
one_more names s (w ∷ ws) (e ∷ es) card h = (h.0, h.1, one_more names (put s w.place w.value) ws es card h.2)

each_ready : (h : Shape) (es : List StackEntry) → AllByRecursion (IsStackReady h.room) es
    → AreReady h (map (λ e. Stack e) es)
unfolding IsReady
each_ready h [] r = tt
each_ready h (e ∷ es) r = (r.0, each_ready h es r.1)

-- the entries that were added write this
carried : (names : List (List ℕ)) (s : State) (old new : Table) (es : List StackEntry) (ws : List StackWrite)
    → Adds old new [] es ws → list_all of_objects ws ≡ true
    → AreCarried names s (map in_the_stack ws) (map (λ e. Stack e) es)
carried names s old new es ws adds of =
    subst (λ vs. AreCarried names s (map in_the_stack vs) (map (λ e. Stack e) es)) adds.written
    (each_carried names s es (ap (list_all of_objects) adds.written ∙ of))

-- ---- each change

pub prepares_new_part : (h : PresentView) (old new : Table) (layer : LayerId) (kind : PartKind) (es : List StackEntry)
    → new.room ≡ h.room → Adds old new [] es (writes_of_new_part h.state.stack layer kind)
    → Prepares h (NewPart layer kind) (map (λ e. Stack e) es)
prepares_new_part h old new layer kind es room adds = record {
  ready = each_ready (shape_of h) es (subst (λ r. AllByRecursion (IsStackReady r) es) room (adds.ready tt));
  carried = carried h.names h.state old new es (writes_of_new_part h.state.stack layer kind) adds
      (new_part_of h.state.stack layer kind);
}

pub prepares_new_card : (h : PresentView) (old new : Table) (es : List StackEntry) → new.room ≡ h.room
    → Adds old new [] es (writes_of_new_card h.state.stack h.state.current)
    → Prepares h NewCard (map (λ e. Stack e) es ++ Current h.state.stack.next ∷ [])
unfolding IsReady
prepares_new_card h old new es room adds = record {
  ready = AreReady-push (shape_of h) (map (λ e. Stack e) es) (Current h.state.stack.next)
      (each_ready (shape_of h) es (subst (λ r. AllByRecursion (IsStackReady r) es) room (adds.ready tt))) tt;
  carried = one_more h.names h.state (map in_the_stack (writes_of_new_card h.state.stack h.state.current))
      (map (λ e. Stack e) es) h.state.stack.next
      (carried h.names h.state old new es (writes_of_new_card h.state.stack h.state.current) adds
      (new_card_of h.state.stack h.state.current));
}

pub prepares_new_background : (h : PresentView) (old new : Table) (es : List StackEntry) → new.room ≡ h.room
    → Adds old new [] es (writes_of_new_background h.state.stack h.state.current)
    → Prepares h NewBackground (map (λ e. Stack e) es ++ Current (h.state.stack.next + 1) ∷ [])
unfolding IsReady no_property
prepares_new_background h old new es room adds = record {
  ready = AreReady-push (shape_of h) (map (λ e. Stack e) es) (Current (h.state.stack.next + 1))
      (each_ready (shape_of h) es (subst (λ r. AllByRecursion (IsStackReady r) es) room (adds.ready tt))) tt;
  carried = one_more h.names h.state (map in_the_stack (writes_of_new_background h.state.stack h.state.current))
      (map (λ e. Stack e) es) (h.state.stack.next + 1)
      (carried h.names h.state old new es (writes_of_new_background h.state.stack h.state.current) adds refl);
}

pub prepares_deletion : (h : PresentView) (old new : Table) (es : List StackEntry) → new.room ≡ h.room
    → Adds old new [] es (writes_of_deletion h.state.stack h.state.current)
    → Prepares h DeleteCard (Current (following h.state.current h.state.stack.cards) ∷ map (λ e. Stack e) es)
unfolding IsReady IsNumbered
prepares_deletion h old new es room adds =
    let card = following h.state.current h.state.stack.cards in
    record {
      ready = (tt, each_ready (shape_of h) es (subst (λ r. AllByRecursion (IsStackReady r) es) room (adds.ready tt)));
      carried = (
        tt,
        current_carried h.names h.state card,
        carried h.names
            (put h.state (makes_current card).place (makes_current card).value) old new es
            (writes_of_deletion h.state.stack h.state.current) adds (deletion_of h.state.stack h.state.current),
      );
    }
