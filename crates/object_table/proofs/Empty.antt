-- The empty stack is well formed.
use Rattle.std.proofs.Common.{◌≡◌, ◌≢◌, ◌++◌, ◌&&◌, ◌||◌, ℕ, inl, inr, ◌<◌, Bool, true, false, List, [], ◌∷◌, refl}
use Rattle.std.proofs.Common.{sym, subst, ap, ◌∙◌, arith, Option, Some, None, IsSome, is_some, IfSome, IsTrue}
use Rattle.std.proofs.Common.{unwrap_or, option_map, option_and_then, flat_map, ◌↔◌, nat_eq}
use Rattle.std.specs.List.{IsDistinct}
use Rattle.std.specs.FinMap.{get, gets, get-empty}
use Rattle.std.proofs.lemmas.Bool.{cases_eq, false≢true}
use Rattle.std.proofs.lemmas.Bool.Decides.{nat_tests}
use Rattle.std.proofs.lemmas.List.Elements.{All-nil}
use Rattle.ht_values.specs.Text.{IsText}
use Rattle.object_table.specs.Empty.{empty_object, empty_stack}
use Rattle.object_table.specs.PartContents.{is_kept_for, keeps_text, keeps_hilite}
use Rattle.object_table.specs.Objects.{is_stack, is_background, is_card, is_card_field, is_background_field}
use Rattle.object_table.specs.Objects.{is_background_button, is_card_part, is_background_part, is_layer, has_kind}
use Rattle.object_table.specs.Objects.{background_of, object_at, parts_at, contains_id, background_at}
use Rattle.object_table.specs.Pairs.{pair_cmp}
use Rattle.object_table.specs.WellFormed.{NamesEach, IsWellFormed}
use Rattle.object_table.specs.declared.object.Object.{Object}
use Rattle.object_table.specs.declared.object.Kind.{Kind}
use Rattle.object_table.specs.declared.object.Kind.TheVariants.{Stack, Background, Card}
use Rattle.object_table.proofs.Slots.{tied_apart}

-- a claim on an id, its object and its parts holds of each id
at_each : (P : ℕ → Option Object → Option (List ℕ) → Type 0)
    → P 0 (Some (empty_object Stack)) None
    → P 1 (Some (empty_object (Background false))) (Some [])
    → P 2 (Some (empty_object (Card 1 false))) (Some [])
    → ((id : ℕ) → id ≢ 0 → id ≢ 1 → id ≢ 2 → P id None None)
    → (id : ℕ) → P id (object_at empty_stack id) (get empty_stack.parts id)
at_each P zero one two others id =
    elim (cases_eq id 0) [
      | inl e ↦ subst (λ n. P n (object_at empty_stack n) (get empty_stack.parts n)) (sym e) (simp gets zero)
      | inr not_zero ↦
          elim (cases_eq id 1) [
            | inl e ↦ subst (λ n. P n (object_at empty_stack n) (get empty_stack.parts n)) (sym e) (simp gets one)
            | inr not_one ↦
                elim (cases_eq id 2) [
                  | inl e ↦ subst (λ n. P n (object_at empty_stack n) (get empty_stack.parts n)) (sym e) (simp gets two)
                  | inr not_two ↦ simp (
                    gets,
                    tied_apart id 0 not_zero,
                    tied_apart id 1 not_one,
                    tied_apart id 2
                        not_two,
                  ) (others id not_zero not_one not_two)
                ]
          ]
    ]

IsDistinct-none : IsDistinct nat_eq []
unfolding IsDistinct
IsDistinct-none = tt

IsDistinct-alone : (n : ℕ) → IsDistinct nat_eq (n ∷ [])
unfolding IsDistinct
IsDistinct-alone n = (tt, tt)

lacks : (id n : ℕ) → id ≢ n → contains_id id (n ∷ []) ≡ false
lacks id n h = grind (arith, nat_tests)

no_parts : (p : Kind → Bool) → ((id : ℕ) → has_kind p empty_stack id ≡ false) → (layer : ℕ)
    → parts_at empty_stack layer ≡ []
    → NamesEach (has_kind p empty_stack) (flat_map (parts_at empty_stack) (layer ∷ []))
no_parts p none layer e =
    let nothing : NamesEach (has_kind p empty_stack) [] =
    record { once = IsDistinct-none; each = λ id. sym (none id) } in
    let P : List ℕ → Type 0 = λ ids. NamesEach (has_kind p empty_stack) (ids ++ []) in
    subst P (sym e) nothing

pub no_bytes : IsText []
no_bytes = record { short = omega arith; bytes = All-nil (λ b. b < 256) }

nothing : {X : Type 0} {o : Option X} → o ≡ None → IsSome o → ⊥
nothing e h = false≢true (ap (λ x. is_some x) (sym e) ∙ h)

of_nothing : {X : Type 0} {o : Option X} (P : X → Type 0) → o ≡ None → IfSome o P
of_nothing P e = subst (λ x. IfSome x P) (sym e) tt

none_of : (p : Kind → Bool) → p Stack ≡ false → p (Background false) ≡ false → p (Card 1 false) ≡ false → (id : ℕ)
    → has_kind p empty_stack id ≡ false
none_of p zero one two =
    at_each (λ id o _. unwrap_or (option_map (λ x. p x.kind) o) false ≡ false) zero one two (λ _ _ _ _. refl)

neither : (a b c d : Bool) → a ≡ false → c ≡ false → ((a && b) || (c && d)) ≡ false
neither a b c d e f = λ i. (e i && b) || (f i && d)

keeps_nothing : (field card : ℕ) → keeps_text empty_stack field card ≡ true → ⊥
keeps_nothing field card h =
    false≢true
    (sym (neither (has_kind is_card_field empty_stack field) _ (has_kind is_background_field empty_stack field) _
    (none_of is_card_field refl refl refl field) (none_of is_background_field refl refl refl field)) ∙ h)

lights_nothing : (button card : ℕ) → keeps_hilite empty_stack button card ≡ true → ⊥
lights_nothing button card h = false≢true
    (ap (λ b. b && is_kept_for empty_stack button card) (sym (none_of is_background_button refl refl refl button)) ∙ h)

pub empty_is_well_formed : IsWellFormed empty_stack
empty_is_well_formed = record {
  backgrounds = record {
    once = IsDistinct-alone _;
    each = at_each (λ id o _. contains_id id (1 ∷ []) ≡ unwrap_or (option_map (λ x. is_background x.kind) o) false) refl
        refl refl (λ id _ n _. lacks id 1 n);
  };
  cards = record {
    once = IsDistinct-alone _;
    each = at_each (λ id o _. contains_id id (2 ∷ []) ≡ unwrap_or (option_map (λ x. is_card x.kind) o) false) refl refl
        refl (λ id _ _ n. lacks id 2 n);
  };
  layers = at_each (λ id o l. IsSome l ↔ IsTrue (unwrap_or (option_map (λ x. is_layer x.kind) o) false))
      (λ h. h, λ h. h) (λ h. h, λ h. h) (λ h. h, λ h. h) (λ _ _ _ _. (λ h. h, λ h. h));
  card_parts = no_parts is_card_part
      (at_each (λ id o _. unwrap_or (option_map (λ x. is_card_part x.kind) o) false ≡ false) refl refl refl
      (λ _ _ _ _. refl)) 2 (simp gets refl);
  background_parts = no_parts is_background_part
      (at_each (λ id o _. unwrap_or (option_map (λ x. is_background_part x.kind) o) false ≡ false) refl refl refl
      (λ _ _ _ _. refl)) 1 (simp gets refl);
  on_background = at_each (λ id o _. IfSome (option_and_then (λ x. background_of x.kind) o)
      (λ b. IsTrue (has_kind is_background empty_stack b))) tt tt (simp gets refl) (λ _ _ _ _. tt);
  some_background = omega arith;
  some_card = at_each (λ id o _. IsTrue (unwrap_or (option_map (λ x. is_background x.kind) o) false)
      → (card : ℕ) × (background_at empty_stack card ≡ Some id)) (λ h. cc) (λ h. (2, simp gets refl)) (λ h. cc)
      (λ id _ _ _ h. cc);
  stack = at_each (λ id o _. IsTrue (unwrap_or (option_map (λ x. is_stack x.kind) o) false) ↔ (id ≡ 0))
      (λ _. refl, λ _. refl) (λ h. cc, λ h. absurd (omega arith)) (λ h. cc, λ h. absurd (omega arith))
      (λ id n _ _. (λ h. cc, λ h. absurd (n h)));
  ids = at_each (λ id o _. IsSome o → id < 3) (λ _. omega arith) (λ _. omega arith) (λ _. omega arith)
      (λ id _ _ _ h. cc);
  next_low = omega arith;
  next_high = omega arith;
  few = simp gets (omega arith);
  names = at_each (λ id o _. IfSome o (λ x. IsText x.name × IsText x.script)) (no_bytes, no_bytes) (no_bytes, no_bytes)
      (no_bytes, no_bytes) (λ _ _ _ _. tt);
  texts = λ field card. (
    λ h. absurd (nothing (get-empty pair_cmp (field, card)) h),
    λ h. absurd
        (keeps_nothing field card h),
  );
  field_texts = λ field card. of_nothing IsText (get-empty pair_cmp (field, card));
  hilites = λ button card. (
    λ h. absurd (nothing (get-empty pair_cmp (button, card)) h),
    λ h. absurd
        (lights_nothing button card h),
  );
}
