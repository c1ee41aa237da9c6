-- Which object a reference means.
use Rattle.std.specs.Prelude.{ℕ, ℤ, pos, negsuc, List, [], ◌∷◌, reverse, length, find, is_some, if◌then◌else◌, ◌==◌}
use Rattle.std.specs.Prelude.{Option, Some, None, unwrap_or, Result, Ok, Err}
use Rattle.std.specs.Option.{ok_or}
use Rattle.ht_values.specs.declared.fault.Fault.{Fault}
use Rattle.ht_values.specs.declared.fault.Fault.TheVariants.{NoSuchObject}
use Rattle.ht_values.specs.declared.word.PartKind.{PartKind}
use Rattle.ht_values.specs.declared.word.PartKind.TheVariants.{Button, Field}
use Rattle.ht_values.specs.Number.{is_numeral, value_of}
use Rattle.ht_values.specs.Outcome.{and_then}
use Rattle.ht_lex.specs.declared.key.Ordinal.{Ordinal}
use Rattle.ht_lex.specs.Ordinals.{from_first}
use Rattle.ht_grammar.specs.declared.vocabulary.Layer.{Layer}
use Rattle.ht_grammar.specs.declared.vocabulary.Layer.TheVariants as layer
use Rattle.object_table.specs.Content.{Content}
use Rattle.object_table.specs.Layers.{layer_parts}
use Rattle.object_table.specs.Numbers.{at_number, of_kind}
use Rattle.object_table.specs.Objects.{object_at}
use Rattle.object_table.specs.References.{is_named}
use Rattle.object_table.specs.declared.object.LayerId.{LayerId}
use Rattle.object_table.specs.declared.object.LayerId.TheVariants.{OfCard, OfBackground}
use Rattle.structural_changes.specs.Writes.{following, home, is_card_of}
use Rattle.object_references.specs.declared.referent.Pick.{Pick}
use Rattle.object_references.specs.declared.referent.Pick.TheVariants as pick
use Rattle.object_references.specs.declared.referent.Sought.{Sought}
use Rattle.object_references.specs.declared.referent.Sought.TheVariants as sought
use Rattle.object_references.specs.declared.referent.PartScope.{PartScope}
use Rattle.object_references.specs.declared.referent.Referent.{Referent}

-- ---- one of several, in their order

-- the number of an ordinal among so many
abbrev pub ordinal_number : Ordinal → ℕ → ℕ
ordinal_number o count = unwrap_or (from_first o) count

-- the one with a number, counted from 1
abbrev pub numbered : List ℕ → ℤ → Option ℕ
numbered ids (pos n) = at_number ids n
numbered ids (negsuc n) = None

-- the one with an id
abbrev pub with_id : List ℕ → ℤ → Option ℕ
with_id ids (pos n) = find (λ id. id == n) ids
with_id ids (negsuc n) = None

-- the first whose name is the same; the empty text is no name
abbrev pub first_named : Content → List ℕ → List ℕ → Option ℕ
first_named s ids [] = None
first_named s ids (b ∷ bs) = find (is_named s (b ∷ bs)) ids

-- an id has to be a numeral; a text is a number where it is one, else a name
abbrev pub picked : Content → List ℕ → Pick → Option ℕ
picked s ids (pick.Nth o) = at_number ids (ordinal_number o (length ids))
picked s ids (pick.ById t) = if is_numeral t then with_id ids (value_of t) else None
picked s ids (pick.ByText t) = if is_numeral t then numbered ids (value_of t) else first_named s ids t

-- the next is cyclic, and so is the previous; `here` is this one
abbrev pub sought_in : Content → List ℕ → ℕ → Sought → Option ℕ
sought_in s ids here sought.This = Some here
sought_in s ids here sought.Next = Some (following here ids)
sought_in s ids here sought.Previous = Some (following here (reverse ids))
sought_in s ids here (sought.Picked p) = picked s ids p

-- ---- cards and backgrounds

-- the card that is looked for
abbrev pub card_found : Content → ℕ → Sought → Result ℕ Fault
card_found s current k = ok_or (sought_in s s.cards current k) NoSuchObject

-- the background that is looked for; this one is that of the current card
abbrev pub background_found : Content → ℕ → Sought → Result ℕ Fault
background_found s current k = ok_or (sought_in s s.backgrounds (home s current) k) NoSuchObject

-- the first card of a background
abbrev pub first_card : Content → ℕ → Result ℕ Fault
first_card s background = ok_or (find (is_card_of s background) s.cards) NoSuchObject

-- the card to go to, for a background its first
abbrev pub first_card_found : Content → ℕ → Sought → Result ℕ Fault
first_card_found s current k = and_then (background_found s current k) (first_card s)

-- ---- objects, with the card that is meant

abbrev pub met_here : ℕ → ℕ → Referent
met_here current id = record { object = id; card = current }

-- an object that may have been deleted
abbrev pub met_if_there : Content → ℕ → ℕ → Result Referent Fault
met_if_there s current id = if is_some (object_at s id) then Ok (met_here current id) else Err NoSuchObject

-- a card or a background that is looked for
abbrev pub card_met : Content → ℕ → Sought → Result Referent Fault
card_met s current k = and_then (card_found s current k) (λ id. Ok (met_here current id))

abbrev pub background_met : Content → ℕ → Sought → Result Referent Fault
background_met s current k = and_then (background_found s current k) (λ id. Ok (met_here current id))

-- ---- parts

-- without a word for its layer a button is on the card, and a field on the background
abbrev pub layer_meant : Option Layer → PartKind → Layer
layer_meant (Some l) kind = l
layer_meant None Button = layer.Card
layer_meant None Field = layer.Background

-- a card, or its background, as the place where a part is looked for
abbrev pub scope_by : Content → Layer → ℕ → PartScope
scope_by s layer.Card card = record { layer = OfCard card; card = card }
scope_by s layer.Background card = record { layer = OfBackground (home s card); card = card }

-- the owner is a card
abbrev pub scope_of_card : Content → ℕ → Layer → Sought → Result PartScope Fault
scope_of_card s current l k = and_then (card_found s current k) (λ card. Ok (scope_by s l card))

-- the owner is a background: no part of a card is found there
abbrev pub scope_of_background : Content → ℕ → Layer → Sought → Result PartScope Fault
scope_of_background s current layer.Card k = Err NoSuchObject
scope_of_background s current layer.Background k =
    and_then (background_found s current k) (λ b. Ok (record { layer = OfBackground b; card = current }))

-- the parts of a kind on a layer, in their order
abbrev pub parts_on : Content → LayerId → PartKind → List ℕ
parts_on s l kind = of_kind s kind (unwrap_or (layer_parts s l) [])

-- the part that is picked where it is looked for
abbrev pub part_met : Content → PartKind → PartScope → Pick → Result Referent Fault
part_met s kind scope p = and_then (ok_or (picked s (parts_on s scope.layer kind) p) NoSuchObject)
    (λ id. Ok (record { object = id; card = scope.card }))

-- the first field of a name, also of the empty one, on the current card or on its background
abbrev pub field_named : Content → ℕ → Layer → List ℕ → Result Referent Fault
field_named s current l name = and_then
    (ok_or (find (is_named s name) (parts_on s (scope_by s l current).layer Field)) NoSuchObject)
    (λ id. Ok (met_here current id))
