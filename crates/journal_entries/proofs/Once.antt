-- A write of a place that the segment holds already needs no further entry.
use Rattle.std.proofs.Common.{◌≡◌, ◌≢◌, ◌++◌, ℕ, ◌+◌, ◌≤◌, Bool, true, false, not, ◌&&◌, ◌||◌, if◌then◌else◌, List, []}
use Rattle.std.proofs.Common.{◌∷◌, length, map, get_or, refl, sym, ap, ◌∙◌, arith, Option, option_map, nat_eq}
use Rattle.std.proofs.Common.{bytes_eq}
use Rattle.std.specs.List.{list_any}
use Rattle.std.specs.FinMap.{get}
use Rattle.std.proofs.lemmas.Cmp.{nat_list_cmp_total}
use Rattle.std.proofs.lemmas.Bool.{and_parts, or_parts, not-true, eqb-true, eq-eqb}
use Rattle.std.proofs.lemmas.List.{reverse-append}
use Rattle.std.proofs.lemmas.List.Folds.{list_any-append}
use Rattle.std.proofs.lemmas.List.Sums.{sum_by-cons}
use Rattle.std.proofs.lemmas.Slice.Eq.{bytes_eq-Decides}
use Rattle.object_table.specs.Maps.{put_option}
use Rattle.object_table.proofs.Maps.{put_option_again, put_option_apart, put_option-get, get-put_option_apart}
use Rattle.externals.specs.Cells.{Changes}
use Rattle.stack_places.specs.Places.{size_of, text}
use Rattle.stack_places.specs.Exchange.{is_structural as stack_is_structural, place_of as stack_place_of}
use Rattle.stack_places.specs.Exchange.{of_one_place as stack_of_one_place}
use Rattle.stack_places.specs.declared.entry.StackEntry.{StackEntry}
use Rattle.stack_places.specs.declared.entry.StackEntry.TheVariants as stack_entries
use Rattle.stack_places.proofs.Exchanging as stack
use Rattle.stack_places.proofs.Exchanging.{false_true}
use Rattle.journal_entries.specs.State.{State}
use Rattle.journal_entries.specs.Places.{Place, same_place, global, in_stack, current_card}
use Rattle.journal_entries.specs.Trails.{Mark, at, structural, turned, holds, marked}
use Rattle.journal_entries.specs.Exchange.{Shape, back, back_taken, exchanged, taken, entry_weight, weight, mark_of}
use Rattle.journal_entries.specs.Exchange.{trail_of, of_one_place, is_structural, IsReady, AreReady}
use Rattle.journal_entries.specs.Turning.{IsNumbered}
use Rattle.journal_entries.specs.Changing.{holds_one, kept}
use Rattle.journal_entries.specs.declared.entry.Entry.{Entry}
use Rattle.journal_entries.specs.declared.entry.Entry.TheVariants.{Global, Current, Stack, External}
use Rattle.journal_entries.proofs.Marks.{stack_mark, stack_marked}
use Rattle.journal_entries.proofs.Holding.{neither}
use Rattle.journal_entries.proofs.Naming.{antisymmetric}
use Rattle.journal_entries.proofs.Replacing.{bytes_differ}
use Rattle.journal_entries.proofs.Weighing.{trail_of-recorded}

-- another number has another name
named_apart : (names : List (List ℕ)) (h : Shape) (i j : ℕ) (v w : Option (List ℕ)) → IsNumbered names (Global i v)
    → h.names ≡ length names → IsReady h (Global j w) → of_one_place (Global i v) (Global j w) ≡ false
    → get_or names i [] ≢ get_or names j []
unfolding IsNumbered IsReady of_one_place
named_apart names h i j v w only n r apart e = false_true (sym apart ∙ eq-eqb i j (sym (only j (omega arith) (sym e))))

abbrev pub is_turn : Entry → Bool
is_turn (External i p) = true
is_turn _ = false

-- the entry replaces one place
abbrev pub IsPlain : Entry → Type 0
IsPlain e = (is_structural e ≡ false) × (is_turn e ≡ false)

commute : (names : List (List ℕ)) (s : State) (h : Shape) (e f : Entry) → IsNumbered names e → h.names ≡ length names
    → IsReady h f → of_one_place e f ≡ false → IsPlain e → is_structural f ≡ false
    → exchanged names (exchanged names s e) f ≡ exchanged names (exchanged names s f) e
unfolding exchanged of_one_place is_structural
commute names s h (Global i v) (Global j w) only n r apart a b = ap (λ m. record s { globals = m })
    (put_option_apart nat_list_cmp_total antisymmetric s.globals (get_or names i []) (get_or names j []) v w
    (named_apart names h i j v w only n r apart))
commute names s h (Global i v) (Current d) only n r apart a b = refl
commute names s h (Global i v) (Stack f) only n r apart a b = refl
commute names s h (Current c) (Global j w) only n r apart a b = refl
commute names s h (Current c) (Current d) only n r apart a b = false_true (sym apart)
commute names s h (Current c) (Stack f) only n r apart a b = refl
commute names s h (Stack e) (Global j w) only n r apart a b = refl
commute names s h (Stack e) (Current d) only n r apart a b = refl
commute names s h (Stack e) (Stack f) only n r apart a b =
    ap (λ x. record s { stack = x }) (stack.commute s.stack e f apart a.0 b)
commute names s h (Global i v) (External j q) only n r apart a b = refl
commute names s h (Current c) (External j q) only n r apart a b = refl
commute names s h (Stack e) (External j q) only n r apart a b = refl
commute names s h (External i p) f only n r apart a b = false_true (sym a.1)

taken_apart : (names : List (List ℕ)) (s : State) (h : Shape) (e f : Entry) → IsNumbered names e
    → h.names ≡ length names → IsReady h f → of_one_place e f ≡ false → IsPlain e → is_structural f ≡ false
    → taken names (exchanged names s e) f ≡ taken names s f
unfolding exchanged taken of_one_place is_structural
taken_apart names s h (Global i v) (Global j w) only n r apart a b = ap (λ x. Global j x)
    (get-put_option_apart nat_list_cmp_total antisymmetric s.globals (get_or names i []) (get_or names j []) v
    (named_apart names h i j v w only n r apart))
taken_apart names s h (Global i v) (Current d) only n r apart a b = refl
taken_apart names s h (Global i v) (Stack f) only n r apart a b = refl
taken_apart names s h (Current c) (Global j w) only n r apart a b = refl
taken_apart names s h (Current c) (Current d) only n r apart a b = false_true (sym apart)
taken_apart names s h (Current c) (Stack f) only n r apart a b = refl
taken_apart names s h (Stack e) (Global j w) only n r apart a b = refl
taken_apart names s h (Stack e) (Current d) only n r apart a b = refl
taken_apart names s h (Stack e) (Stack f) only n r apart a b =
    ap (λ x. Stack x) (stack.taken_apart s.stack e f apart a.0 b)
taken_apart names s h (Global i v) (External j q) only n r apart a b = refl
taken_apart names s h (Current c) (External j q) only n r apart a b = refl
taken_apart names s h (Stack e) (External j q) only n r apart a b = refl
taken_apart names s h (External i p) f only n r apart a b = false_true (sym a.1)

overwritten : (names : List (List ℕ)) (s : State) (e f : Entry) → of_one_place e f ≡ true
    → exchanged names (exchanged names s e) f ≡ exchanged names s f
unfolding exchanged of_one_place
overwritten names s (Global i v) (Global j w) h =
    let one : i ≡ j = eqb-true i j h in
    ap (λ k. record s { globals = put_option (put_option s.globals (get_or names k []) v) (get_or names j []) w }) one
    ∙ ap (λ m. record s { globals = m })
    (put_option_again nat_list_cmp_total antisymmetric s.globals (get_or names j []) v w)
overwritten names s (Global i v) (Current d) h = false_true h
overwritten names s (Global i v) (Stack f) h = false_true h
overwritten names s (Global i v) (External j q) h = false_true h
overwritten names s (Current c) (Global j w) h = false_true h
overwritten names s (Current c) (Current d) h = refl
overwritten names s (Current c) (Stack f) h = false_true h
overwritten names s (Current c) (External j q) h = false_true h
overwritten names s (Stack e) (Global j w) h = false_true h
overwritten names s (Stack e) (Current d) h = false_true h
overwritten names s (Stack e) (Stack f) h = ap (λ x. record s { stack = x }) (stack.overwritten s.stack e f h)
overwritten names s (Stack e) (External j q) h = false_true h
overwritten names s (External i p) f h = false_true h

-- what comes out is what was written, or what would have come out
written_out : (names : List (List ℕ)) (s : State) (e f : Entry) → of_one_place e f ≡ true
    → entry_weight (taken names (exchanged names s e) f) ≤ entry_weight (taken names s f) + entry_weight e
unfolding exchanged taken entry_weight of_one_place
written_out names s (Global i v) (Global j w) h =
    let one : i ≡ j = eqb-true i j h in
    let seen =
    ap (λ k. size_of (option_map (λ t. text t) (get (put_option s.globals (get_or names k []) v) (get_or names j []))))
    one
    ∙ ap (λ x. size_of (option_map (λ t. text t) x))
    (put_option-get nat_list_cmp_total antisymmetric s.globals (get_or names j []) v) in
    omega (arith, seen)
written_out names s (Global i v) (Current d) h = false_true h
written_out names s (Global i v) (Stack f) h = false_true h
written_out names s (Global i v) (External j q) h = false_true h
written_out names s (Current c) (Global j w) h = false_true h
written_out names s (Current c) (Current d) h = omega arith
written_out names s (Current c) (Stack f) h = false_true h
written_out names s (Current c) (External j q) h = false_true h
written_out names s (Stack e) (Global j w) h = false_true h
written_out names s (Stack e) (Current d) h = false_true h
written_out names s (Stack e) (Stack f) h = stack.written_out s.stack e f h
written_out names s (Stack e) (External j q) h = false_true h
written_out names s (External i p) f h = false_true h

-- two tests of which the first fails
pub and_not_parts : (a b : Bool) → (not a && b) ≡ true → (a ≡ false) × (b ≡ true)
and_not_parts a b h = let parts = and_parts (not a) b h in (not-true a parts.0, parts.1)

and_right : (a b : Bool) → (not a && b) ≡ false → a ≡ false → b ≡ false
and_right true b h e = false_true (sym e)
and_right false b h e = h

-- entries of other places, none of them structural
record AreFree (e : Entry) (es : List Entry) : Type 0 where
  none : list_any is_structural es ≡ false
  apart : holds_one e es ≡ false

rest_free : (e f : Entry) (es : List Entry) → AreFree e (f ∷ es) → AreFree e es
rest_free e f es h = record {
  none = (or_parts (is_structural f) (list_any is_structural es) h.none).1;
  apart =
      (or_parts (holds_one e es) (not (list_any is_structural es) && of_one_place e f) h.apart).0;
}

first_free : (e f : Entry) (es : List Entry) → AreFree e (f ∷ es) → of_one_place e f ≡ false
first_free e f es h = and_right (list_any is_structural es) (of_one_place e f) (or_parts (holds_one e es) _ h.apart).1
    (or_parts (is_structural f) (list_any is_structural es) h.none).1

first_plain : (e f : Entry) (es : List Entry) → AreFree e (f ∷ es) → is_structural f ≡ false
first_plain e f es h = (or_parts (is_structural f) (list_any is_structural es) h.none).0

back-free : (names : List (List ℕ)) (s : State) (h : Shape) (e : Entry) (es : List Entry) → IsNumbered names e
    → h.names ≡ length names → AreReady h es → IsPlain e → AreFree e es
    → back names (exchanged names s e) es ≡ exchanged names (back names s es) e
back-free names s h e [] only n r a free = refl
back-free names s h e (f ∷ es) only n r a free =
    ap (λ x. exchanged names x f) (back-free names s h e es only n r.1 a (rest_free e f es free))
    ∙ commute names (back names s es) h e f only n r.0 (first_free e f es free) a (first_plain e f es free)

back_taken-free : (names : List (List ℕ)) (s : State) (h : Shape) (e : Entry) (es : List Entry) → IsNumbered names e
    → h.names ≡ length names → AreReady h es → IsPlain e → AreFree e es
    → back_taken names (exchanged names s e) es ≡ back_taken names s es
back_taken-free names s h e [] only n r a free = refl
back_taken-free names s h e (f ∷ es) only n r a free =
    let first = ap (λ x. taken names x f) (back-free names s h e es only n r.1 a (rest_free e f es free))
    ∙ taken_apart names (back names s es) h e f only n r.0 (first_free e f es free) a (first_plain e f es free) in
    let rest = back_taken-free names s h e es only n r.1 a (rest_free e f es free) in
    λ i. first i ∷ rest i

-- the batch leads back to the same state, though the new write has no entry
pub back-once : (names : List (List ℕ)) (s : State) (h : Shape) (e : Entry) (es : List Entry) → IsNumbered names e
    → h.names ≡ length names → AreReady h es → IsPlain e → holds_one e es ≡ true
    → back names (exchanged names s e) es ≡ back names s es
back-once names s h e [] only n r a held = false_true held
back-once names s h e (f ∷ es) only n r a held =
    elim (holds_one e es) as (λ b. holds_one e es ≡ b
    → (b || (not (list_any is_structural es) && of_one_place e f)) ≡ true
    → exchanged names (back names (exchanged names s e) es) f ≡ exchanged names (back names s es) f) [
      | true ↦ λ later _. ap (λ x. exchanged names x f) (back-once names s h e es only n r.1 a later)
      | false ↦ λ none here.
          let free : AreFree e es =
          record { none = (and_not_parts (list_any is_structural es) (of_one_place e f) here).0; apart = none } in
          ap (λ x. exchanged names x f) (back-free names s h e es only n r.1 a free)
          ∙ overwritten names (back names s es) e f
          (and_not_parts (list_any is_structural es) (of_one_place e f) here).1
    ] refl held

-- and the value that is there now weighs no more than what was there and what is written
pub redo-once : (names : List (List ℕ)) (s : State) (h : Shape) (e : Entry) (es : List Entry) → IsNumbered names e
    → h.names ≡ length names → AreReady h es → IsPlain e → holds_one e es ≡ true
    → weight (back_taken names (exchanged names s e) es) ≤ weight (back_taken names s es) + entry_weight e
redo-once names s h e [] only n r a held = false_true held
redo-once names s h e (f ∷ es) only n r a held =
    let new = taken names (back names (exchanged names s e) es) f in
    let old = taken names (back names s es) f in
    let more = sum_by-cons entry_weight new (back_taken names (exchanged names s e) es) in
    let less = sum_by-cons entry_weight old (back_taken names s es) in
    elim (holds_one e es) as (λ b. holds_one e es ≡ b
    → (b || (not (list_any is_structural es) && of_one_place e f)) ≡ true
    → weight (back_taken names (exchanged names s e) (f ∷ es))
    ≤ weight (back_taken names s (f ∷ es)) + entry_weight e) [
      | true ↦ λ later _.
          let same = ap (λ x. entry_weight (taken names x f)) (back-once names s h e es only n r.1 a later) in
          omega (arith, more, less, same, redo-once names s h e es only n r.1 a later)
      | false ↦ λ none here.
          let free : AreFree e es =
          record { none = (and_not_parts (list_any is_structural es) (of_one_place e f) here).0; apart = none } in
          let rest = ap weight (back_taken-free names s h e es only n r.1 a free) in
          let same = ap (λ x. entry_weight (taken names x f)) (back-free names s h e es only n r.1 a free) in
          let out = written_out names (back names s es) e f
          (and_not_parts (list_any is_structural es) (of_one_place e f) here).1 in
          omega (arith, more, less, rest, same, out)
    ] refl held

-- ---- the same of trails

abbrev is_mark : Mark → Bool
is_mark structural = true
is_mark turned = false
is_mark (at p) = false

abbrev is_at : Place → Mark → Bool
is_at p structural = false
is_at p turned = false
is_at p (at q) = same_place p q

with_last : (a b c d : Bool) → (a || (b || (c && d))) ≡ ((a || b) || (c && d))
with_last true b c d = refl
with_last false b c d = refl

holds-append : (p : Place) (trail : List Mark) (m : Mark)
    → holds p (trail ++ m ∷ []) ≡ (holds p trail || (not (list_any is_mark trail) && is_at p m))
holds-append p [] structural = refl
holds-append p [] turned = refl
holds-append p [] (at q) = elim (same_place p q) as (λ b. (b || false) ≡ b) [ true ↦ refl | false ↦ refl ]
holds-append p (structural ∷ trail) m = refl
holds-append p (turned ∷ trail) m = holds-append p trail m
holds-append p (at q ∷ trail) m = ap (λ b. same_place p q || b) (holds-append p trail m)
    ∙ with_last (same_place p q) (holds p trail) (not (list_any is_mark trail)) (is_at p m)

swap_or : (a b : Bool) → (a || (b || false)) ≡ (b || a)
swap_or true true = refl
swap_or true false = refl
swap_or false true = refl
swap_or false false = refl

is_mark_of : (names : List (List ℕ)) (e : Entry) → is_mark (mark_of names e) ≡ is_structural e
unfolding mark_of is_structural
is_mark_of names (Global i v) = refl
is_mark_of names (Current c) = refl
is_mark_of names (Stack e) = ap is_mark (stack_marked e)
    ∙ elim (stack_is_structural e) as (λ b. is_mark (stack_mark b (stack_place_of e)) ≡ b)
    [ true ↦ refl | false ↦ refl ]
is_mark_of names (External i p) = refl

any_mark : (names : List (List ℕ)) (es : List Entry) → list_any is_mark (trail_of names es) ≡ list_any is_structural es
any_mark names [] = refl
any_mark names (e ∷ es) =
    ap (list_any is_mark) (reverse-append (mark_of names e ∷ []) (map (mark_of names) es))
    ∙ list_any-append is_mark (trail_of names es) (mark_of names e ∷ [])
    ∙ (λ i. any_mark names es i || (is_mark_of names e i || false))
    ∙ swap_or (list_any is_structural es) (is_structural e)

same_name : (names : List (List ℕ)) (h : Shape) (i j : ℕ) (v w : Option (List ℕ)) → IsNumbered names (Global i v)
    → h.names ≡ length names → IsReady h (Global j w)
    → bytes_eq (get_or names i []) (get_or names j []) ≡ of_one_place (Global i v) (Global j w)
unfolding of_one_place
same_name names h i j v w only n r =
    elim (nat_eq i j) as (λ b. nat_eq i j ≡ b → bytes_eq (get_or names i []) (get_or names j []) ≡ b) [
      | true ↦ λ e. (bytes_eq-Decides _ _).1 (ap (λ k. get_or names k []) (eqb-true i j e))
      | false ↦ λ e. bytes_differ _ _ (named_apart names h i j v w only n r e)
    ] refl

place_of : (p q : Place) → at q ≡ at p → p ≡ q
place_of p q e = cc

at_global : (names : List (List ℕ)) (h : Shape) (i : ℕ) (v : Option (List ℕ)) (f : Entry)
    → IsNumbered names (Global i v) → h.names ≡ length names → IsReady h f
    → is_at (global (get_or names i [])) (mark_of names f) ≡ of_one_place (Global i v) f
unfolding mark_of of_one_place
at_global names h i v (Global j w) only n r = same_name names h i j v w only n r
at_global names h i v (Current d) only n r = refl
at_global names h i v (Stack f) only n r = ap (is_at (global (get_or names i []))) (stack_marked f)
    ∙ elim (stack_is_structural f) as (λ b. is_at (global (get_or names i [])) (stack_mark b (stack_place_of f))
    ≡ false) [ true ↦ refl | false ↦ refl ]
at_global names h i v (External j q) only n r = refl

at_current : (names : List (List ℕ)) (c : ℕ) (f : Entry)
    → is_at current_card (mark_of names f) ≡ of_one_place (Current c) f
unfolding mark_of of_one_place
at_current names c (Global j w) = refl
at_current names c (Current d) = refl
at_current names c (Stack f) = ap (is_at current_card) (stack_marked f)
    ∙ elim (stack_is_structural f) as (λ b. is_at current_card (stack_mark b (stack_place_of f)) ≡ false)
    [ true ↦ refl | false ↦ refl ]
at_current names c (External j q) = refl

-- an entry whose mark is a place replaces one place
pub plain : (names : List (List ℕ)) (e : Entry) (p : Place) → mark_of names e ≡ at p → IsPlain e
unfolding mark_of is_structural
plain names (Global i v) p m = (refl, refl)
plain names (Current c) p m = (refl, refl)
plain names (Stack e) p m = (
  elim (stack_is_structural e) as (λ b. stack_mark b (stack_place_of e) ≡ at p → b ≡ false) [
    | true ↦ λ q. let none : structural ≡ at p → ⊥ = λ x. cc in absurd (none q)
    | false ↦ λ q. refl
  ] (sym (stack_marked e) ∙ m),
  refl,
)
plain names (External i q) p m = let none : turned ≡ at p → ⊥ = λ x. cc in absurd (none m)

at_stack : (names : List (List ℕ)) (e : StackEntry) (f : Entry) → stack_is_structural e ≡ false
    → is_at (in_stack (stack_place_of e)) (mark_of names f) ≡ of_one_place (Stack e) f
unfolding mark_of of_one_place
at_stack names e (Global j w) a = refl
at_stack names e (Current d) a = refl
at_stack names e (Stack f) a =
    ap (is_at (in_stack (stack_place_of e))) (stack_marked f)
    ∙ elim (stack_is_structural f) as (λ b. stack_is_structural f ≡ b
    → is_at (in_stack (stack_place_of e)) (stack_mark b (stack_place_of f)) ≡ stack_of_one_place e f) [
      | true ↦ λ q. sym (stack.structural_apart e f q)
      | false ↦ λ q. stack.same_place-is e f a
    ] refl
at_stack names e (External j q) a = refl

place_in : (names : List (List ℕ)) (e : StackEntry) (p : Place) → mark_of names (Stack e) ≡ at p
    → p ≡ in_stack (stack_place_of e)
unfolding mark_of is_structural
place_in names e p m = place_of p _
    (ap (λ b. stack_mark b (stack_place_of e)) (sym (plain names (Stack e) p m).0) ∙ sym (stack_marked e) ∙ m)

at_is : (names : List (List ℕ)) (h : Shape) (p : Place) (e f : Entry) → mark_of names e ≡ at p → IsNumbered names e
    → h.names ≡ length names → IsReady h f → is_at p (mark_of names f) ≡ of_one_place e f
unfolding mark_of of_one_place is_structural
at_is names h p (Global i v) f m only n r = rw (place_of p _ m) (at_global names h i v f only n r)
at_is names h p (Current c) f m only n r = rw (place_of p _ m) (at_current names c f)
at_is names h p (Stack e) f m only n r = rw (place_in names e p m) (at_stack names e f (plain names (Stack e) p m).0)
at_is names h p (External i q) f m only n r = let none : turned ≡ at p → ⊥ = λ x. cc in absurd (none m)

-- ---- what is kept

-- an entry of no place is held by none
apart_from : (e : Entry) → ((f : Entry) → of_one_place e f ≡ false) → (es : List Entry) → holds_one e es ≡ false
apart_from e h [] = refl
apart_from e h (f ∷ es) =
    neither (holds_one e es) (not (list_any is_structural es)) (of_one_place e f) (apart_from e h es) (h f)

stack_from : (e f : StackEntry) → stack_is_structural e ≡ true → stack_of_one_place e f ≡ false
unfolding stack_of_one_place stack_is_structural
stack_from (stack_entries.Object i v) (stack_entries.Object j w) h = refl
stack_from (stack_entries.Object i v) f h = refl
stack_from e f h = false_true h

structural_from : (e : StackEntry) → stack_is_structural e ≡ true → (f : Entry) → of_one_place (Stack e) f ≡ false
unfolding of_one_place
structural_from e h (Global i v) = refl
structural_from e h (Current c) = refl
structural_from e h (Stack f) = stack_from e f h
structural_from e h (External i p) = refl

external_from : (i : ℕ) (p : Changes) (f : Entry) → of_one_place (External i p) f ≡ false
unfolding of_one_place
external_from i p f = refl

-- an entry that is held replaces one place
pub plain-held : (e : Entry) (es : List Entry) → holds_one e es ≡ true → IsPlain e
unfolding is_structural
plain-held (Global i v) es h = (refl, refl)
plain-held (Current c) es h = (refl, refl)
plain-held (Stack e) es h = (by (stack_is_structural e) refl, refl)
  where
    by : (b : Bool) → stack_is_structural e ≡ b → stack_is_structural e ≡ false
    by true q = false_true (sym (apart_from (Stack e) (structural_from e q) es) ∙ h)
    by false q = q
plain-held (External i p) es h = false_true (sym (apart_from (External i p) (external_from i p) es) ∙ h)

marked-structural : (names : List (List ℕ)) (e : Entry) (es : List Entry) → mark_of names e ≡ structural
    → holds_one e es ≡ false
unfolding mark_of
marked-structural names (Global i v) es m =
    let none : at (global (get_or names i [])) ≡ structural → ⊥ = λ x. cc in absurd (none m)
marked-structural names (Current c) es m = let none : at current_card ≡ structural → ⊥ = λ x. cc in absurd (none m)
marked-structural names (Stack e) es m = by (stack_is_structural e) refl (sym (stack_marked e) ∙ m)
  where
    by : (b : Bool) → stack_is_structural e ≡ b → stack_mark b (stack_place_of e) ≡ structural
        → holds_one (Stack e) es ≡ false
    by true q k = apart_from (Stack e) (structural_from e q) es
    by false q k = let none : at (in_stack (stack_place_of e)) ≡ structural → ⊥ = λ x. cc in absurd (none k)
marked-structural names (External i p) es m = apart_from (External i p) (external_from i p) es

marked-turned : (names : List (List ℕ)) (e : Entry) (es : List Entry) → mark_of names e ≡ turned
    → holds_one e es ≡ false
unfolding mark_of
marked-turned names (Global i v) es m =
    let none : at (global (get_or names i [])) ≡ turned → ⊥ = λ x. cc in absurd (none m)
marked-turned names (Current c) es m = let none : at current_card ≡ turned → ⊥ = λ x. cc in absurd (none m)
marked-turned names (Stack e) es m = by (stack_is_structural e) refl (sym (stack_marked e) ∙ m)
  where
    by : (b : Bool) → stack_is_structural e ≡ b → stack_mark b (stack_place_of e) ≡ turned
        → holds_one (Stack e) es ≡ false
    by true q k = let none : structural ≡ turned → ⊥ = λ x. cc in absurd (none k)
    by false q k = let none : at (in_stack (stack_place_of e)) ≡ turned → ⊥ = λ x. cc in absurd (none k)
marked-turned names (External i p) es m = apart_from (External i p) (external_from i p) es

-- the segment holds the place where it has an entry of it
pub holds-trail : (names : List (List ℕ)) (h : Shape) (p : Place) (e : Entry) (es : List Entry) → mark_of names e ≡ at p
    → IsNumbered names e → h.names ≡ length names → AreReady h es → holds p (trail_of names es) ≡ holds_one e es
holds-trail names h p e [] m only n r = refl
holds-trail names h p e (f ∷ es) m only n r =
    ap (holds p) (reverse-append (mark_of names f ∷ []) (map (mark_of names) es))
    ∙ holds-append p (trail_of names es) (mark_of names f)
    ∙ (λ i. holds-trail names h p e es m only n r.1 i ||
    (not (any_mark names es i) && at_is names h p e f m only n r.0 i))

-- what is kept of an exchange is what its mark adds to the trail
pub trail-kept : (names : List (List ℕ)) (h : Shape) (e t : Entry) (es : List Entry) → IsNumbered names e
    → h.names ≡ length names → AreReady h es → mark_of names t ≡ mark_of names e
    → marked (mark_of names e) (trail_of names es) ≡ trail_of names (kept es e t)
trail-kept names h e t es only n r same = by (mark_of names e) refl
  where
    added : (b : Bool) → b ≡ false → trail_of names (if b then es else es ++ t ∷ []) ≡ mark_of names t
        ∷ trail_of names es
    added true p = false_true (sym p)
    added false p = trail_of-recorded names es t

    placed : (p : Place) → mark_of names e ≡ at p → (b : Bool)
        → (if b then trail_of names es else at p ∷ trail_of names es) ≡ trail_of names (if b then es else es ++ t ∷ [])
    placed p m true = refl
    placed p m false = ap (λ k. k ∷ trail_of names es) (sym (same ∙ m)) ∙ sym (trail_of-recorded names es t)

    by : (m : Mark) → mark_of names e ≡ m → marked m (trail_of names es) ≡ trail_of names (kept es e t)
    by (at p) m = ap (λ b. if b then trail_of names es else at p ∷ trail_of names es)
        (holds-trail names h p e es m only n r) ∙ placed p m (holds_one e es)
    by structural m = ap (λ k. k ∷ trail_of names es) (sym (same ∙ m))
        ∙ sym (added (holds_one e es) (marked-structural names e es m))
    by turned m =
        ap (λ k. k ∷ trail_of names es) (sym (same ∙ m)) ∙ sym (added (holds_one e es) (marked-turned names e es m))
