-- What names that get arguments are: each is the folded form of the name that is written where its argument stands, and
-- no two are the same.
use Rattle.std.proofs.Common.{◌≡◌, ℕ, zero, suc, ◌+◌, ◌<◌, Bool, true, false, List, [], ◌∷◌, drop, get_or, length, map}
use Rattle.std.proofs.Common.{if◌then◌else◌, refl, sym, ◌∙◌, ap, arith, true≢false, add-zero, drop-drop, get_or-drop}
use Rattle.std.proofs.Common.{length-drop, option_map, unwrap_or, slice_get}
use Rattle.std.specs.Bool.{⊤}
use Rattle.std.specs.Str.{bytes_eq}
use Rattle.std.proofs.lemmas.List.{length-map}
use Rattle.std.proofs.lemmas.Slice.Eq.{bytes_eq-Decides}
use Rattle.ht_values.specs.Text.{folded, same}
use Rattle.ht_values.proofs.Folding.{folded_is_folded, folded_stays}
use Rattle.name_lists.specs.declared.parameters.Binding.{Binding}
use Rattle.name_lists.specs.Parameters.{arguments_of, bindings_of, bound_from, names_bound, with_argument}
use Rattle.name_lists.specs.Order.{form_by}

-- a folded form is its own
pub twice : (t : List ℕ) → folded (folded t) ≡ folded t
twice t = folded_stays (folded t) (folded_is_folded t)

module _ (written : List (List ℕ)) where
  abbrev IsRight : Binding → Type 0
  IsRight b = (b.argument < length written) × (b.name ≡ folded (get_or written b.argument []))

  abbrev AllRight : List Binding → Type 0
  AllRight [] = ⊤
  AllRight (b ∷ bs) = IsRight b × AllRight bs

  right_with : (name : List ℕ) (i : ℕ) (bs : List Binding) → i < length written → get_or written i [] ≡ name
      → AllRight bs → AllRight (with_argument name i bs)
  right_with name i [] within at h = ((within, ap folded (sym at)), tt)
  right_with name i (b ∷ bs) within at h = by (same b.name name) refl (right_with name i bs within at h.1)
    where
      by : (here : Bool) → same b.name name ≡ here → AllRight (with_argument name i bs)
          → AllRight (if here then record b { argument = i } ∷ bs else b ∷ with_argument name i bs)
      by true e rest =
          let spelled = get_or written b.argument [] in
          let form : b.name ≡ folded (get_or written i []) =
          h.0.1 ∙ sym (twice spelled) ∙ ap folded (sym h.0.1) ∙ (bytes_eq-Decides (folded b.name) (folded name)).0 e
          ∙ ap folded (sym at) in
          ((within, form), h.1)
      by false e rest = (h.0, rest)

  right_from : (i : ℕ) (names : List (List ℕ)) (bs : List Binding) → drop i written ≡ names → AllRight bs
      → AllRight (bound_from i names bs)
  right_from i [] bs e h = h
  right_from i (name ∷ names) bs e h =
      let within : i < length written = omega (arith, length-drop i written, ap length e) in
      let at : get_or written i [] ≡ name =
      sym (get_or-drop i written 0 [] ∙ ap (λ k. get_or written k []) (add-zero i)) ∙ ap (λ l. get_or l 0 []) e in
      right_from (i + 1) names (with_argument name i bs) (sym (drop-drop 1 i written) ∙ ap (drop 1) e)
      (right_with name i bs within at h)

  all_right : AllRight (bindings_of written)
  all_right = right_from 0 written [] refl tt

  right_at : (bs : List Binding) (p : ℕ) (d : Binding) → AllRight bs → p < length bs → IsRight (get_or bs p d)
  right_at [] p d h within = absurd (omega (arith, within))
  right_at (b ∷ bs) zero d h within = h.0
  right_at (b ∷ bs) (suc p) d h within = right_at bs p d h.1 (omega (arith, within))

  -- the name at a place is that which is written where its argument stands
  pub binding_right : (p : ℕ) (d : Binding) → p < length (bindings_of written) → IsRight (get_or (bindings_of written) p d)
  binding_right p d within = right_at (bindings_of written) p d all_right within

  forms : (bs : List Binding) (p : ℕ) → AllRight bs
      → unwrap_or (option_map (λ a. folded (get_or written a [])) (slice_get (map (λ b. b.argument) bs) p)) []
      ≡ get_or (names_bound bs) p []
  forms [] p h = refl
  forms (b ∷ bs) zero h = sym h.0.1
  forms (b ∷ bs) (suc p) h = forms bs p h.1

  pub form_is : (arguments : List ℕ) (p : ℕ) → arguments ≡ arguments_of written
      → form_by written arguments p ≡ get_or (names_bound (bindings_of written)) p []
  form_is arguments p e = ap (λ at. form_by written at p) e ∙ forms (bindings_of written) p all_right

argument_at : (bs : List Binding) (p a : ℕ) (d : Binding) → p < length bs
    → get_or (map (λ b. b.argument) bs) p a ≡ (get_or bs p d).argument
argument_at [] p a d within = absurd (omega (arith, within))
argument_at (b ∷ bs) zero a d within = refl
argument_at (b ∷ bs) (suc p) a d within = argument_at bs p a d (omega (arith, within))

pub argument_of_binding : (written : List (List ℕ)) (arguments : List ℕ) (p a : ℕ) (d : Binding)
    → arguments ≡ arguments_of written → p < length (bindings_of written)
    → get_or arguments p a ≡ (get_or (bindings_of written) p d).argument
argument_of_binding written arguments p a d e within =
    ap (λ at. get_or at p a) e ∙ argument_at (bindings_of written) p a d within

pub as_long : (written : List (List ℕ)) (arguments : List ℕ) → arguments ≡ arguments_of written
    → length arguments ≡ length (names_bound (bindings_of written))
as_long written arguments e =
    ap length e ∙ length-map (bindings_of written) (λ b. b.argument) ∙ sym (length-map (bindings_of written) (λ b. b.name))

-- the names are folded
abbrev pub AreFolded : List (List ℕ) → Type 0
AreFolded [] = ⊤
AreFolded (n ∷ ns) = (folded n ≡ n) × AreFolded ns

pub folded_at : (ns : List (List ℕ)) (p : ℕ) → AreFolded ns → folded (get_or ns p []) ≡ get_or ns p []
folded_at [] p h = refl
folded_at (n ∷ ns) zero h = h.0
folded_at (n ∷ ns) (suc p) h = folded_at ns p h.1

right_folded : (written : List (List ℕ)) (bs : List Binding) → AllRight written bs → AreFolded (names_bound bs)
right_folded written [] h = tt
right_folded written (b ∷ bs) h =
    (ap folded h.0.1 ∙ twice (get_or written b.argument []) ∙ sym h.0.1, right_folded written bs h.1)

pub names_folded : (written : List (List ℕ)) → AreFolded (names_bound (bindings_of written))
names_folded written = right_folded written (bindings_of written) (all_right written)

-- no two names are the same
abbrev Lacks : List ℕ → List (List ℕ) → Type 0
Lacks n [] = ⊤
Lacks n (m ∷ ms) = (bytes_eq n m ≡ false) × Lacks n ms

abbrev pub AreApart : List (List ℕ) → Type 0
AreApart [] = ⊤
AreApart (n ∷ ns) = Lacks n ns × AreApart ns

lacks_at : (n : List ℕ) (ms : List (List ℕ)) (q : ℕ) → Lacks n ms → q < length ms → n ≡ get_or ms q [] → ⊥
lacks_at n [] q h within e = omega (arith, within)
lacks_at n (m ∷ ms) zero h within e = true≢false (sym ((bytes_eq-Decides n m).1 e) ∙ h.0)
lacks_at n (m ∷ ms) (suc q) h within e = lacks_at n ms q h.1 (omega (arith, within)) e

pub apart_at : (ns : List (List ℕ)) (p q : ℕ) → AreApart ns → p < length ns → q < length ns
    → get_or ns p [] ≡ get_or ns q [] → p ≡ q
apart_at [] p q h a b e = absurd (omega (arith, a))
apart_at (n ∷ ns) zero zero h a b e = refl
apart_at (n ∷ ns) zero (suc q) h a b e = absurd (lacks_at n ns q h.0 (omega (arith, b)) e)
apart_at (n ∷ ns) (suc p) zero h a b e = absurd (lacks_at n ns p h.0 (omega (arith, a)) (sym e))
apart_at (n ∷ ns) (suc p) (suc q) h a b e = ap suc (apart_at ns p q h.1 (omega (arith, a)) (omega (arith, b)) e)

unlike : (n name : List ℕ) → same n name ≡ false → bytes_eq n (folded name) ≡ false
unlike n name e = by (bytes_eq n (folded name)) refl
  where
    by : (b : Bool) → bytes_eq n (folded name) ≡ b → b ≡ false
    by true t =
        let form : folded n ≡ folded name = ap folded ((bytes_eq-Decides n (folded name)).0 t) ∙ twice name in
        absurd (true≢false (sym ((bytes_eq-Decides (folded n) (folded name)).1 form) ∙ e))
    by false t = refl

lacks_with : (n name : List ℕ) (i : ℕ) (bs : List Binding) → Lacks n (names_bound bs)
    → bytes_eq n (folded name) ≡ false → Lacks n (names_bound (with_argument name i bs))
lacks_with n name i [] h e = (e, tt)
lacks_with n name i (b ∷ bs) h e = by (same b.name name) (lacks_with n name i bs h.1 e)
  where
    by : (here : Bool) → Lacks n (names_bound (with_argument name i bs))
        → Lacks n (names_bound (if here then record b { argument = i } ∷ bs else b ∷ with_argument name i bs))
    by true rest = h
    by false rest = (h.0, rest)

apart_with : (name : List ℕ) (i : ℕ) (bs : List Binding) → AreApart (names_bound bs)
    → AreApart (names_bound (with_argument name i bs))
apart_with name i [] h = (tt, tt)
apart_with name i (b ∷ bs) h = by (same b.name name) refl (apart_with name i bs h.1)
  where
    by : (here : Bool) → same b.name name ≡ here → AreApart (names_bound (with_argument name i bs))
        → AreApart (names_bound (if here then record b { argument = i } ∷ bs else b ∷ with_argument name i bs))
    by true e rest = h
    by false e rest = (lacks_with b.name name i bs h.0 (unlike b.name name e), rest)

apart_from : (i : ℕ) (names : List (List ℕ)) (bs : List Binding) → AreApart (names_bound bs)
    → AreApart (names_bound (bound_from i names bs))
apart_from i [] bs h = h
apart_from i (name ∷ names) bs h = apart_from (i + 1) names (with_argument name i bs) (apart_with name i bs h)

pub names_apart : (written : List (List ℕ)) → AreApart (names_bound (bindings_of written))
names_apart written = apart_from 0 written [] tt
