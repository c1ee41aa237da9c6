-- The flags of each kind of object: what they are, and the kind with another.
use Rattle.std.specs.Prelude.{Bool, Option, Some, None}
use Rattle.object_table.specs.declared.object.Kind.{Kind}
use Rattle.object_table.specs.declared.object.Kind.TheVariants.{Background, Card, CardButton, BackgroundButton}
use Rattle.object_table.specs.declared.object.Kind.TheVariants.{CardField, BackgroundField}

-- whether a button or a field is visible
abbrev pub visible_of : Kind → Option Bool
visible_of (CardButton v h) = Some v
visible_of (BackgroundButton v h) = Some v
visible_of (CardField v l) = Some v
visible_of (BackgroundField v l s) = Some v
visible_of _ = None

-- the hilite of a card's button; a background's button has none of its own, since one is kept for each card
abbrev pub hilite_of : Kind → Option Bool
hilite_of (CardButton v h) = Some h
hilite_of _ = None

-- whether the cards share the hilite of a background's button
abbrev pub shared_hilite_of : Kind → Option Bool
shared_hilite_of (BackgroundButton v h) = Some h
shared_hilite_of _ = None

-- whether the text of a field is locked
abbrev pub lock_text_of : Kind → Option Bool
lock_text_of (CardField v l) = Some l
lock_text_of (BackgroundField v l s) = Some l
lock_text_of _ = None

-- whether the cards share the text of a background's field
abbrev pub shared_text_of : Kind → Option Bool
shared_text_of (BackgroundField v l s) = Some s
shared_text_of _ = None

-- whether a card or a background is kept from deletion
abbrev pub cant_delete_of : Kind → Option Bool
cant_delete_of (Background c) = Some c
cant_delete_of (Card b c) = Some c
cant_delete_of _ = None

-- the kind with this flag; one without such a flag stays
abbrev pub with_visible : Bool → Kind → Kind
with_visible x (CardButton v h) = CardButton x h
with_visible x (BackgroundButton v h) = BackgroundButton x h
with_visible x (CardField v l) = CardField x l
with_visible x (BackgroundField v l s) = BackgroundField x l s
with_visible x k = k

abbrev pub with_hilite : Bool → Kind → Kind
with_hilite x (CardButton v h) = CardButton v x
with_hilite x k = k

abbrev pub with_shared_hilite : Bool → Kind → Kind
with_shared_hilite x (BackgroundButton v h) = BackgroundButton v x
with_shared_hilite x k = k

abbrev pub with_lock_text : Bool → Kind → Kind
with_lock_text x (CardField v l) = CardField v x
with_lock_text x (BackgroundField v l s) = BackgroundField v x s
with_lock_text x k = k

abbrev pub with_shared_text : Bool → Kind → Kind
with_shared_text x (BackgroundField v l s) = BackgroundField v l x
with_shared_text x k = k

abbrev pub with_cant_delete : Bool → Kind → Kind
with_cant_delete x (Background c) = Background x
with_cant_delete x (Card b c) = Card b x
with_cant_delete x k = k
