-- Worked examples, which check the definitions, in a stack of a background 1 with a field 3 Note, and two cards on it,
-- 2 A and 4 without a name.
use Rattle.std.proofs.Common.{◌≡◌, ℕ, true, false, List, [], ◌∷◌, codes, Ok, Err, refl}
use Rattle.std.specs.Ordering.{nat_cmp}
use Rattle.std.specs.FinMap.{from_sorted, empty, get, find, get-from_sorted}
use Rattle.std.specs.Fmt.{digits}
use Rattle.ht_values.specs.declared.fault.Fault.TheVariants.{NoSuchObject}
use Rattle.ht_values.specs.declared.word.PartKind.TheVariants.{Button, Field}
use Rattle.ht_lex.specs.declared.key.Ordinal.TheVariants.{First, Last}
use Rattle.ht_grammar.specs.declared.vocabulary.Layer.TheVariants as layer
use Rattle.object_table.specs.Content.{Content}
use Rattle.object_table.specs.Empty.{empty_object}
use Rattle.object_table.specs.declared.object.Kind.TheVariants.{Stack, Background, Card, BackgroundField}
use Rattle.object_table.specs.declared.object.LayerId.TheVariants.{OfCard, OfBackground}
use Rattle.object_table.specs.declared.object.Object.{Object}
use Rattle.object_references.specs.References.{card_found, first_card_found, scope_of_card, scope_of_background}
use Rattle.object_references.specs.References.{part_met, field_named}
use Rattle.object_references.specs.declared.referent.Pick.TheVariants.{Nth, ById, ByText}
use Rattle.object_references.specs.declared.referent.Sought.TheVariants.{This, Next, Previous, Picked}

-- `unfolding computing` opens the definitions that a literal computes through
unfoldable pub computing : Unit {0}
unfolding digits
computing = tt

abbrev objects : List (ℕ × Object)
objects = (0, empty_object Stack) ∷ (1, empty_object (Background false))
    ∷ (2, record (empty_object (Card 1 false)) { name = codes "A" })
    ∷ (3, record (empty_object (BackgroundField true false false)) { name = codes "Note" })
    ∷ (4, empty_object (Card 1 false)) ∷ []

abbrev parts : List (ℕ × List ℕ)
parts = (1, 3 ∷ []) ∷ (2, []) ∷ (4, []) ∷ []

abbrev two_cards : Content
two_cards = record {
  objects = from_sorted objects;
  backgrounds = 1 ∷ [];
  cards = 2 ∷ 4 ∷ [];
  parts = from_sorted parts;
  texts = empty;
  hilites = empty;
  next = 5;
}

found : (id : ℕ) → get (from_sorted {R = nat_cmp} objects) id ≡ find nat_cmp id objects
found id = get-from_sorted nat_cmp objects id tt

listed : (id : ℕ) → get (from_sorted {R = nat_cmp} parts) id ≡ find nat_cmp id parts
listed id = get-from_sorted nat_cmp parts id tt

next_after_the_last : card_found two_cards 4 Next ≡ Ok 2
next_after_the_last = refl

previous_before_the_first : card_found two_cards 2 Previous ≡ Ok 4
previous_before_the_first = refl

a_numeral_is_a_number : card_found two_cards 4 (Picked (ByText (codes " 1 "))) ≡ Ok 2
unfolding computing
a_numeral_is_a_number = refl

no_number_is_below_one : card_found two_cards 4 (Picked (ByText (codes "-1"))) ≡ Err NoSuchObject
unfolding computing
no_number_is_below_one = refl

an_id_is_a_numeral : card_found two_cards 4 (Picked (ById (codes "A"))) ≡ Err NoSuchObject
unfolding computing
an_id_is_a_numeral = refl

a_name_is_the_same : card_found two_cards 4 (Picked (ByText (codes "a"))) ≡ Ok 2
unfolding computing
a_name_is_the_same = simp found refl

the_empty_text_is_no_name : card_found two_cards 2 (Picked (ByText [])) ≡ Err NoSuchObject
unfolding computing
the_empty_text_is_no_name = refl

a_background_leads_to_its_first_card : first_card_found two_cards 4 This ≡ Ok 2
a_background_leads_to_its_first_card = simp found refl

an_owner_is_met_with_its_part : scope_of_card two_cards 4 layer.Card Next ≡ Ok (record { layer = OfCard 2; card = 2 })
an_owner_is_met_with_its_part = refl

no_part_of_a_card_is_on_a_background : scope_of_background two_cards 4 layer.Card This ≡ Err NoSuchObject
no_part_of_a_card_is_on_a_background = refl

buttons_and_fields_are_numbered_apart : part_met two_cards Field (record { layer = OfBackground 1; card = 4 })
    (Nth Last) ≡ Ok (record { object = 3; card = 4 })
buttons_and_fields_are_numbered_apart = simp (found, listed) refl

no_button_is_there : part_met two_cards Button (record { layer = OfBackground 1; card = 4 }) (Nth First)
    ≡ Err NoSuchObject
no_button_is_there = simp (found, listed) refl

a_field_has_that_name : field_named two_cards 2 layer.Background (codes "note") ≡ Ok (record { object = 3; card = 2 })
a_field_has_that_name = simp (found, listed) refl
