-- What goes with a card, and what stays.
use Rattle.std.proofs.Common.{◌≡◌, ℕ, ◌+◌, ◌≤◌, Bool, true, false, cond, not, ◌&&◌, ◌||◌, List, []}
use Rattle.std.proofs.Common.{◌∷◌, filter, flat_map, nat_eq, refl, sym, subst, ap, ◌∙◌, arith, Option}
use Rattle.std.proofs.Common.{Some, None}
use Rattle.std.proofs.Common.{if◌then◌else◌}
use Rattle.std.proofs.Math.Bool.{or-true}
use Rattle.std.proofs.lemmas.Bool.{false≢true}
use Rattle.std.proofs.lemmas.Bool.Decides.{nat_tests}
use Rattle.std.specs.List.{list_all}
use Rattle.std.specs.FinMap.{keys}
use Rattle.object_table.specs.Content.{Content}
use Rattle.object_table.specs.Objects.{is_background, is_card, is_card_part, is_background_part}
use Rattle.object_table.specs.Objects.{has_kind, parts_at, contains_id}
use Rattle.object_table.specs.WellFormed.{NamesEach}
use Rattle.object_table.specs.declared.object.Object.{Object}
use Rattle.object_table.specs.declared.object.Kind.{Kind}
use Rattle.object_table.specs.declared.object.Kind.TheVariants.{Background, Card, CardButton, BackgroundButton}
use Rattle.object_table.specs.declared.object.Kind.TheVariants.{CardField, BackgroundField}
use Rattle.structural_changes.specs.Writes.{home, without, is_last_card}
use Rattle.structural_changes.specs.Writes.{goes_as_layer, goes_as_part, goes_as_content, ids_where}
use Rattle.structural_changes.proofs.Filled.{cleared}
use Rattle.structural_changes.proofs.Grown.{same_id}
use Rattle.structural_changes.proofs.Parts.{passes, both}
use Rattle.structural_changes.proofs.Tallies.{one_if, total, tally, total-flat_map, contains-tally, named-tally}
use Rattle.structural_changes.proofs.Tallies.{one_member}

-- ---- lists without an id

pub total-without : (g : ℕ → ℕ) (id : ℕ) (xs : List ℕ)
    → total g (without id xs) ≡ total (λ x. cond (nat_eq x id) 0 (g x)) xs
total-without g id [] = refl
total-without g id (x ∷ xs) = by (total-without g id xs) (nat_eq x id)
  where
    by : total g (without id xs) ≡ total (λ y. cond (nat_eq y id) 0 (g y)) xs → (b : Bool)
        → total g (cond (not b) (x ∷ without id xs) (without id xs))
        ≡ cond b 0 (g x) + total (λ y. cond (nat_eq y id) 0 (g y)) xs
    by rest true = omega arith
    by rest false = omega arith

-- what an id gives, as often as it stands there, is what the sum loses without it
pub total-lost : (g : ℕ → ℕ) (id : ℕ) (xs : List ℕ) → tally id xs ≤ 1
    → total g xs ≡ total (λ x. cond (nat_eq x id) 0 (g x)) xs + cond (contains_id id xs) (g id) 0
total-lost g id [] h = refl
total-lost g id (x ∷ xs) h = by (λ k. total-lost g id xs k) (nat_eq x id) refl h
  where
    none_again : tally id xs ≡ 0 → contains_id id xs ≡ false
    none_again e = contains-tally id xs ∙ ap (λ n. not (nat_eq n 0)) e

    by : (tally id xs ≤ 1 → total g xs ≡ total (λ y. cond (nat_eq y id) 0 (g y)) xs + cond (contains_id id xs) (g id) 0)
        → (b : Bool) → nat_eq x id ≡ b → one_if b + tally id xs ≤ 1
        → g x + total g xs ≡ (cond b 0 (g x) + total (λ y. cond (nat_eq y id) 0 (g y)) xs) + cond
        (b || contains_id id xs) (g id) 0
    by rest true q k =
        let none : tally id xs ≡ 0 = omega arith in
        let few : tally id xs ≤ 1 = omega arith in
        let others : total g xs ≡ total (λ y. cond (nat_eq y id) 0 (g y)) xs + 0 =
        rest few ∙ ap (λ b. total (λ y. cond (nat_eq y id) 0 (g y)) xs + cond b (g id) 0) (none_again none) in
        let same : g x ≡ g id = ap g (same_id x id q) in
        omega arith
    by rest false q k =
        let few : tally id xs ≤ 1 = omega arith in
        let others = rest few in
        omega arith

pub total-among : (g h : ℕ → ℕ) (xs : List ℕ) → ((x : ℕ) → contains_id x xs ≡ true → g x ≡ h x)
    → total g xs ≡ total h xs
total-among g h [] e = refl
total-among g h (x ∷ xs) e =
    let first : g x ≡ h x =
    e x (let itself : nat_eq x x ≡ true = grind (arith, nat_tests) in ap (λ b. b || contains_id x xs) itself) in
    let rest : total g xs ≡ total h xs =
    total-among g h xs (λ y more. e y (ap (λ b. nat_eq x y || b) more ∙ or-true (nat_eq x y))) in
    omega arith

-- ---- what goes is a layer or a part

pub and_passes : (p q : Kind → Bool) → ((k : Kind) → p k ≡ true → q k ≡ false) → (found : Option Object)
    → passes p found ≡ true → passes q found ≡ true → ⊥
and_passes p q h None e f = false≢true e
and_passes p q h (Some o) e f = false≢true (sym (h o.kind e) ∙ f)

abbrev pub Apart : (Kind → Bool) → (Kind → Bool) → Type 0
Apart p q = (k : Kind) → p k ≡ true → q k ≡ false

pub card-not : (p : Kind → Bool) → ((b : ℕ) (c : Bool) → p (Card b c) ≡ false) → Apart is_card p
card-not p h (Card b c) e = h b c
card-not p h _ e = absurd (false≢true e)

pub background-not : (p : Kind → Bool) → ((c : Bool) → p (Background c) ≡ false) → Apart is_background p
background-not p h (Background c) e = h c
background-not p h _ e = absurd (false≢true e)

pub card_part-not : (p : Kind → Bool) → ((v h : Bool) → p (CardButton v h) ≡ false)
    → ((v l : Bool) → p (CardField v l) ≡ false) → Apart is_card_part p
card_part-not p b f (CardButton v h) e = b v h
card_part-not p b f (CardField v l) e = f v l
card_part-not p b f _ e = absurd (false≢true e)

pub background_part-not : (p : Kind → Bool) → ((v h : Bool) → p (BackgroundButton v h) ≡ false)
    → ((v l t : Bool) → p (BackgroundField v l t) ≡ false) → Apart is_background_part p
background_part-not p b f (BackgroundButton v h) e = b v h
background_part-not p b f (BackgroundField v l t) e = f v l t
background_part-not p b f _ e = absurd (false≢true e)

-- a part of a layer of an order is one of the order's parts
pub listed_part : (s : Content) (of_layer of_part : Kind → Bool) (order : List ℕ) (y id : ℕ)
    → NamesEach (has_kind of_layer s) order → NamesEach (has_kind of_part s) (flat_map (parts_at s) order)
    → has_kind of_layer s y ≡ true → contains_id id (parts_at s y) ≡ true → has_kind of_part s id ≡ true
listed_part s of_layer of_part order y id layers parts e member = by (has_kind of_part s id) refl
  where
    less : tally id (parts_at s y) ≤ one_if (has_kind of_part s id)
    less =
        let one : tally id (parts_at s y) ≤ total (λ z. tally id (parts_at s z)) order =
        one_member (λ z. tally id (parts_at s z)) y order (layers.each y ∙ e) in
        let sum : total (λ z. tally id (parts_at s z)) order
        ≡ one_if (has_kind of_part s id) = sym (total-flat_map (λ z. one_if (nat_eq z id)) (parts_at s) order)
        ∙ named-tally (has_kind of_part s) _ parts id in
        omega arith

    by : (b : Bool) → has_kind of_part s id ≡ b → b ≡ true
    by true q = refl
    by false q =
        let none : tally id (parts_at s y)
        ≡ 0 = (let at_most : tally id (parts_at s y)
        ≤ 0 = subst (λ b. tally id (parts_at s y) ≤ one_if b) q less in omega arith) in
        sym (contains-tally id (parts_at s y) ∙ ap (λ n. not (nat_eq n 0)) none) ∙ member

-- ---- what stays

pub not_true : (b : Bool) → (b ≡ true → ⊥) → b ≡ false
not_true true h = absurd (h refl)
not_true false h = refl

pub all-member : (p : ℕ → Bool) (xs : List ℕ) (x : ℕ) → list_all p xs ≡ true → contains_id x xs ≡ true → p x ≡ true
all-member p [] x all e = absurd (false≢true e)
all-member p (y ∷ ys) x all e = by (λ h. all-member p ys x (both (p y) (list_all p ys) all).1 h) (nat_eq y x) refl e
  where
    by : (contains_id x ys ≡ true → p x ≡ true) → (b : Bool) → nat_eq y x ≡ b → b || contains_id x ys ≡ true
        → p x ≡ true
    by rest true q h = sym (ap p (same_id y x q)) ∙ (both (p y) (list_all p ys) all).0
    by rest false q h = rest h

pub all-fails : (p : ℕ → Bool) (xs : List ℕ) → list_all p xs ≡ false → (x : ℕ) × (p x ≡ false)
all-fails p [] e = absurd (false≢true (sym e))
all-fails p (x ∷ xs) e = by (λ h. all-fails p xs h) (p x) refl e
  where
    by : (list_all p xs ≡ false → (y : ℕ) × (p y ≡ false)) → (b : Bool) → p x ≡ b → b && list_all p xs ≡ false
        → (y : ℕ) × (p y ≡ false)
    by rest true q h = rest h
    by rest false q h = (x, q)

pub neither : (a b : Bool) → a || b ≡ false → (a ≡ false) × (b ≡ false)
neither true b e = absurd (false≢true (sym e))
neither false b e = (refl, e)

pub only : (a l : Bool) → (a || (l && false)) || (false || (l && false)) ≡ a
only true l = refl
only false true = refl
only false false = refl

pub only_last : (l a : Bool) → (false || (l && a)) || (false || (l && false)) ≡ l && a
only_last true true = refl
only_last true false = refl
only_last false a = refl

pub only_layer : (a l : Bool) → a || (false || (l && false)) ≡ a
only_layer true l = refl
only_layer false true = refl
only_layer false false = refl

pub only_part : (l a : Bool) → (false || (l && false)) || (a || (l && false)) ≡ a
only_part true true = refl
only_part true false = refl
only_part false true = refl
only_part false false = refl

pub only_last_part : (l a : Bool) → (false || (l && false)) || (false || (l && a)) ≡ l && a
only_last_part true a = refl
only_last_part false a = refl

abbrev pub gone : Content → ℕ → ℕ → Bool
gone s c id = goes_as_layer s c id || goes_as_part s c id

abbrev pub without_card : Content → ℕ → Content
without_card s c = record {
  objects = cleared s.objects (ids_where s (gone s c));
  backgrounds = if is_last_card s c then without (home s c) s.backgrounds else s.backgrounds;
  cards = without c s.cards;
  parts = cleared s.parts (filter (goes_as_layer s c) (keys s.parts));
  texts = cleared s.texts (filter (goes_as_content s c) (keys s.texts));
  hilites = cleared s.hilites (filter (goes_as_content s c) (keys s.hilites));
  next = s.next;
}
