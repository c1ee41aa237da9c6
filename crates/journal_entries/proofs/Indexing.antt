-- Which places a segment has, when one entry is added.
use Rattle.std.proofs.Common.{◌≡◌, Bool, true, false, not, ◌&&◌, ◌||◌, List, [], ◌∷◌, ◌++◌, Option, Some, None, refl}
use Rattle.std.proofs.Common.{sym, ap, ◌∙◌}
use Rattle.std.specs.List.{list_any}
use Rattle.std.proofs.Math.Bool.{or-false, or-true}
use Rattle.std.proofs.lemmas.List.Folds.{list_any-append}
use Rattle.stack_places.specs.declared.entry.StackEntry.{StackEntry}
use Rattle.stack_places.specs.declared.entry.StackEntry.TheVariants as stack_entries
use Rattle.stack_places.specs.Exchange.{is_structural as stack_is_structural}
use Rattle.journal_entries.specs.Exchange.{of_one_place, is_structural}
use Rattle.journal_entries.specs.Changing.{holds_one}
use Rattle.journal_entries.specs.Indexed.{IsIndexed, is_held}
use Rattle.journal_entries.specs.Keys.{key_of, stack_key}
use Rattle.journal_entries.specs.PlaceSets.{has_place, IsBounded}
use Rattle.journal_entries.specs.SameKey.{same_key}
use Rattle.journal_entries.specs.declared.entry.Entry.{Entry}
use Rattle.journal_entries.specs.declared.entry.Entry.TheVariants.{Global, Current, Stack, External}
use Rattle.journal_entries.specs.declared.place_key.PlaceKey.{PlaceKey}
use Rattle.journal_entries.specs.declared.place_set.PlaceSet.{PlaceSet}
use Rattle.journal_entries.proofs.Holding.{structural_apart}
use Rattle.journal_entries.proofs.Keys.{same_keys, one_place}

-- ---- one entry more

moved : (h a g o : Bool) → (h || o) || (not a && g) ≡ (h || (not a && g)) || o
moved true a g o = refl
moved false true g true = refl
moved false true g false = refl
moved false false true true = refl
moved false false true false = refl
moved false false false true = refl
moved false false false false = refl

held-plain : (e t : Entry) (es : List Entry) → is_structural t ≡ false
    → holds_one e (es ++ t ∷ []) ≡ holds_one e es || of_one_place e t
held-plain e t [] p = refl
held-plain e t (f ∷ es) p =
    (λ i. held-plain e t es p i || (not (any i) && of_one_place e f))
    ∙ moved (holds_one e es) (list_any is_structural es) (of_one_place e f) (of_one_place e t)
  where
    any : list_any is_structural (es ++ t ∷ []) ≡ list_any is_structural es
    any = list_any-append is_structural es (t ∷ []) ∙ ap (λ b. list_any is_structural es || (b || false)) p
        ∙ or-false (list_any is_structural es)

held-structural : (e t : Entry) (es : List Entry) → is_structural t ≡ true → holds_one e (es ++ t ∷ []) ≡ false
held-structural e t [] p = structural_apart e t p
held-structural e t (f ∷ es) p = λ i. held-structural e t es p i || (not (any i) && of_one_place e f)
  where
    any : list_any is_structural (es ++ t ∷ []) ≡ true
    any = list_any-append is_structural es (t ∷ []) ∙ ap (λ b. list_any is_structural es || (b || false)) p
        ∙ or-true (list_any is_structural es)

-- ---- what is known of the places

keyed : (t : Entry) (key : PlaceKey) → key_of t ≡ Some key → is_structural t ≡ false
unfolding is_structural stack_is_structural
keyed (Global i v) key q = refl
keyed (Current c) key q = refl
keyed (Stack e) key q = of_stack e q
  where
    of_stack : (e : StackEntry) → stack_key e ≡ Some key → stack_is_structural e ≡ false
    of_stack (stack_entries.Object id v) q = let never : None ≡ Some key → ⊥ = λ x. cc in absurd (never q)
    of_stack (stack_entries.Prop id v) q = refl
    of_stack (stack_entries.FieldText f c v) q = refl
    of_stack (stack_entries.Hilite b c v) q = refl
    of_stack (stack_entries.CardOrder l) q = refl
    of_stack (stack_entries.BackgroundOrder l) q = refl
    of_stack (stack_entries.Parts layer v) q = refl
    of_stack (stack_entries.NextId n) q = refl
keyed (External i p) key q = refl

-- an entry of a place
pub indexed-placed : (es : List Entry) (t : Entry) (key : PlaceKey) (old new : PlaceSet) → key_of t ≡ Some key
    → ((q : PlaceKey) → has_place new q ≡ has_place old q || same_key key q) → IsBounded new → IsIndexed es old
    → IsIndexed (es ++ t ∷ []) new
indexed-placed es t key old new is added bounded h = record {
  held = λ e. held-plain e t es (keyed t key is) ∙ (λ i. h.held e i || one_place e t i)
      ∙ ap (λ k. is_held (has_place old) (key_of e) || same_keys k (key_of e)) is ∙ by (key_of e);
  bounded = bounded;
}
  where
    by : (o : Option PlaceKey) → is_held (has_place old) o || same_keys (Some key) o ≡ is_held (has_place new) o
    by None = refl
    by (Some q) = sym (added q)

-- one that makes or removes an object
pub indexed-structural : (es : List Entry) (t : Entry) (new : PlaceSet) → is_structural t ≡ true
    → ((q : PlaceKey) → has_place new q ≡ false) → IsBounded new → IsIndexed (es ++ t ∷ []) new
indexed-structural es t new is cleared bounded = record {
  held = λ e. held-structural e t es is ∙ by (key_of e);
  bounded = bounded;
}
  where
    by : (o : Option PlaceKey) → false ≡ is_held (has_place new) o
    by None = refl
    by (Some q) = sym (cleared q)

-- one of an external
pub indexed-turned : (es : List Entry) (t : Entry) (places : PlaceSet) → key_of t ≡ None → is_structural t ≡ false
    → IsIndexed es places → IsIndexed (es ++ t ∷ []) places
indexed-turned es t places none plain h = record {
  held = λ e. held-plain e t es plain ∙ (λ i. h.held e i || one_place e t i)
      ∙ ap (λ k. is_held (has_place places) (key_of e) || same_keys k (key_of e)) none
      ∙ or-false (is_held (has_place places) (key_of e));
  bounded = h.bounded;
}
