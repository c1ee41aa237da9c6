-- What is ready stays so where its cards keep their room.
use Rattle.std.proofs.Common.{◌≡◌, ◌<◌, ◌++◌, ◌+◌, ℕ, true, List, [], ◌∷◌, length, take, get_or, sym, subst}
use Rattle.std.proofs.Common.{IfSome, Option, Some, None}
use Rattle.std.specs.BTreeSet.{BTreeSet, contains}
use Rattle.std.specs.FinSet as set
use Rattle.std.specs.Ordering.{nat_cmp}
use Rattle.std.proofs.lemmas.List.{take_more}
use Rattle.object_table.specs.Table.{Room, KeepsRoom}
use Rattle.stack_places.specs.Exchange as stack
use Rattle.stack_places.specs.declared.entry.StackEntry.{StackEntry}
use Rattle.stack_places.specs.declared.entry.StackEntry.TheVariants.{Prop, FieldText, Hilite, Object, CardOrder}
use Rattle.stack_places.specs.declared.entry.StackEntry.TheVariants.{BackgroundOrder, Parts, NextId}
use Rattle.journal_entries.specs.Cards.{IsAmong, AreAmong, HasAll, with_room}
use Rattle.journal_entries.specs.Exchange.{PresentView, IsReady, AreReady, shape_of}
use Rattle.journal_entries.specs.declared.entry.Entry.{Entry}
use Rattle.journal_entries.specs.declared.entry.Entry.TheVariants.{Global, Current, Stack, External}

in_stack : (cards : BTreeSet ℕ) (old new : Room) (e : StackEntry) → KeepsRoom cards old new
    → IfSome (stack.card_of e) (λ card. contains nat_cmp cards card ≡ true) → stack.IsReady old e → stack.IsReady new e
unfolding stack.IsReady stack.card_of
in_stack cards old new (FieldText field card v) keeps among is = keeps.texts (field, card) among is
in_stack cards old new (Hilite button card v) keeps among is = keeps.hilites (button, card) among is
in_stack cards old new (Object id v) keeps among is = subst (λ s. set.contains s id ≡ true) (sym keeps.slots) is
in_stack cards old new (Parts layer v) keeps among is = subst (λ s. set.contains s layer ≡ true) (sym keeps.slots) is
in_stack cards old new (Prop id v) keeps among is = tt
in_stack cards old new (CardOrder l) keeps among is = tt
in_stack cards old new (BackgroundOrder l) keeps among is = tt
in_stack cards old new (NextId n) keeps among is = tt

ready-kept : (cards : BTreeSet ℕ) (h : PresentView) (new : Room) (e : Entry) → KeepsRoom cards h.room new
    → IsAmong cards e → IsReady (shape_of h) e → IsReady (shape_of (with_room h new)) e
unfolding IsReady IsAmong
ready-kept cards h new (Global i v) keeps among is = is
ready-kept cards h new (Current c) keeps among is = is
ready-kept cards h new (Stack e) keeps among is = in_stack cards h.room new e keeps among is
ready-kept cards h new (External i p) keeps among is = is

pub AreReady-kept : (cards : BTreeSet ℕ) (h : PresentView) (new : Room) (es : List Entry) → KeepsRoom cards h.room new
    → AreAmong cards es → AreReady (shape_of h) es → AreReady (shape_of (with_room h new)) es
AreReady-kept cards h new [] keeps among are = tt
AreReady-kept cards h new (e ∷ es) keeps among are =
    (ready-kept cards h new e keeps among.0 are.0, AreReady-kept cards h new es keeps among.1 are.1)

among-more : (old new : BTreeSet ℕ) (e : Entry) → HasAll old new → IsAmong old e → IsAmong new e
unfolding IsAmong
among-more old new (Global i v) all is = tt
among-more old new (Current c) all is = tt
among-more old new (Stack e) all is = each (stack.card_of e) is
  where
    each : (o : Option ℕ) → IfSome o (λ card. contains nat_cmp old card ≡ true)
        → IfSome o (λ card. contains nat_cmp new card ≡ true)
    each None h = tt
    each (Some card) h = all card h
among-more old new (External i p) all is = tt

pub AreAmong-more : (old new : BTreeSet ℕ) (es : List Entry) → HasAll old new → AreAmong old es → AreAmong new es
AreAmong-more old new [] all are = tt
AreAmong-more old new (e ∷ es) all are = (among-more old new e all are.0, AreAmong-more old new es all are.1)

AreAmong-push : (cards : BTreeSet ℕ) (es : List Entry) (e : Entry) → AreAmong cards es → IsAmong cards e
    → AreAmong cards (es ++ e ∷ [])
AreAmong-push cards [] e are is = (is, tt)
AreAmong-push cards (x ∷ es) e are is = (are.0, AreAmong-push cards es e are.1 is)

-- one step of the loop that adds the card of each
pub among_step : (old new : BTreeSet ℕ) (es : List Entry) (i : ℕ) (x : Entry) → i < length es → x ≡ get_or es i x
    → HasAll old new → AreAmong old (take i es) → IsAmong new x → AreAmong new (take (i + 1) es)
among_step old new es i x h e all are is =
    rw (take_more es i x h, ← e) (AreAmong-push new (take i es) x (AreAmong-more old new (take i es) all are) is)
