-- The first state of a well formed stack.
use Rattle.std.proofs.Common.{◌≡◌, ℕ, ◌<◌, true, false, ◌||◌, List, [], ◌∷◌, length, get_or, refl, sym, subst, ap, ◌∙◌}
use Rattle.std.proofs.Common.{arith, Option, Some, None, IfSome, option_map, option_and_then, unwrap_or, eqb, eq-eqb}
use Rattle.std.specs.Ordering.{nat_cmp}
use Rattle.std.specs.Cmp.Lexicographic.{slice_cmp}
use Rattle.std.specs.FinMap.{empty, get-empty}
use Rattle.std.specs.List.{list_any}
use Rattle.object_table.specs.Content.{Content}
use Rattle.object_table.specs.Objects.{has_kind, is_card, is_background, contains_id, background_of, object_at}
use Rattle.object_table.specs.WellFormed.{IsWellFormed}
use Rattle.object_table.specs.declared.object.Object.{Object}
use Rattle.object_table.specs.declared.object.Kind.{Kind}
use Rattle.object_table.specs.declared.object.Kind.TheVariants.{Stack, Background, Card, CardButton, BackgroundButton}
use Rattle.object_table.specs.declared.object.Kind.TheVariants.{CardField, BackgroundField}
use Rattle.stack_places.proofs.Exchanging.{false_true}
use Rattle.journal_entries.specs.State.{IsState, IsGlobal, AreGlobals, titles_of}
use Rattle.journal_entries.specs.Exchange.{PresentView}
use Rattle.change_journal.specs.Batches.{IsSound}

first-contained : (ids : List ℕ) → 0 < length ids → contains_id (get_or ids 0 0) ids ≡ true
first-contained [] h = absurd (omega arith)
first-contained (x ∷ ids) h = ap (λ b. b || list_any (λ y. eqb y x) ids) (eq-eqb x x refl)

some-contained : (ids : List ℕ) (id : ℕ) → contains_id id ids ≡ true → 0 < length ids
some-contained [] id h = false_true h
some-contained (x ∷ ids) id h = omega arith

kind-card : (k : Kind) (b : ℕ) → background_of k ≡ Some b → is_card k ≡ true
kind-card (Card d c) b e = refl
kind-card Stack b e = let none : None ≡ Some b → ⊥ = λ q. cc in absurd (none e)
kind-card (Background c) b e = let none : None ≡ Some b → ⊥ = λ q. cc in absurd (none e)
kind-card (CardButton v h) b e = let none : None ≡ Some b → ⊥ = λ q. cc in absurd (none e)
kind-card (BackgroundButton v h) b e = let none : None ≡ Some b → ⊥ = λ q. cc in absurd (none e)
kind-card (CardField v l) b e = let none : None ≡ Some b → ⊥ = λ q. cc in absurd (none e)
kind-card (BackgroundField v l s) b e = let none : None ≡ Some b → ⊥ = λ q. cc in absurd (none e)

object-card : (o : Option Object) (b : ℕ) → option_and_then (λ x. background_of x.kind) o ≡ Some b
    → unwrap_or (option_map (λ x. is_card x.kind) o) false ≡ true
object-card None b e = let none : None ≡ Some b → ⊥ = λ q. cc in absurd (none e)
object-card (Some o) b e = kind-card o.kind b e

-- the first card is a card
pub first-card : (s : Content) → IsWellFormed s → has_kind is_card s (get_or s.cards 0 0) ≡ true
first-card s w =
    let first = get_or s.backgrounds 0 0 in
    let background : has_kind is_background s first ≡ true =
    sym (w.backgrounds.each first) ∙ first-contained s.backgrounds (omega (arith, w.some_background)) in
    let some = w.some_card first background in
    let card : has_kind is_card s some.0 ≡ true = object-card (object_at s some.0) first some.1 in
    let there : 0 < length s.cards = some-contained s.cards some.0 (w.cards.each some.0 ∙ card) in
    sym (w.cards.each (get_or s.cards 0 0)) ∙ first-contained s.cards there

pub no_globals : AreGlobals empty
no_globals name = subst (λ o. IfSome o (λ value. IsGlobal name value)) (sym (get-empty (slice_cmp nat_cmp) name)) tt

pub IsSound-opened : (h : PresentView) (depth room : ℕ) → 0 < depth → IsState h.state
    → IsSound (record { present = h; oldest = 0; depth = depth; batches = []; cursor = 0 }) room None
IsSound-opened h depth room some state = record {
  within = omega arith;
  few = omega arith;
  some = some;
  ready = tt;
  opened = tt;
  history = record {
    titles = titles_of h.state.externals;
    past = tt;
    now = record { state = state; titles = refl };
    future = tt;
    start = tt;
  };
}
