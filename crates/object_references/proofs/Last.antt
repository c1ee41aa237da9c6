-- The last of a list, and parts of a kind.
use Rattle.std.proofs.Common.{◌≡◌, ℕ, suc, arith, Bool, true, false, cond, List, [], ◌∷◌, length, filter, slice_get}
use Rattle.std.proofs.Common.{Option, Some, None, option_and_then, unwrap_or, ◌==◌, ◌-◌, refl, sym, ap, ◌∙◌}
use Rattle.std.specs.Option.{option_or}
use Rattle.std.proofs.lemmas.Bool.Decides.{nat_tests}
use Rattle.ht_values.specs.declared.word.PartKind.{PartKind}
use Rattle.object_table.specs.Content.{Content}
use Rattle.object_table.specs.Layers.{layer_parts}
use Rattle.object_table.specs.Numbers.{at_number, of_kind}
use Rattle.object_table.specs.References.{part_found, pick}
use Rattle.object_table.specs.declared.object.LayerId.{LayerId}
use Rattle.object_table.specs.declared.reference.Which.{Which}
use Rattle.object_table.specs.declared.reference.Which.TheVariants.{Number, Id, Name}
use Rattle.object_references.specs.References.{parts_on}

-- the one that has the number which they count
abbrev pub last_of : List ℕ → Option ℕ
last_of ids = at_number ids (length ids)

next : (n : ℕ) (o : ℕ → Option ℕ) → cond (suc n == 0) None (o (suc n - 1)) ≡ o n
next n o = grind (arith, nat_tests)

there : (id : ℕ) (ids : List ℕ) (o : Option ℕ)
    → option_or (slice_get (id ∷ ids) (length ids)) o ≡ slice_get (id ∷ ids) (length ids)
there id [] o = refl
there id (x ∷ xs) o = there x xs o

some_last : (id : ℕ) (ids : List ℕ) (o : Option ℕ) → option_or (last_of (id ∷ ids)) o ≡ last_of (id ∷ ids)
some_last id ids o =
    let is = next (length ids) (λ k. slice_get (id ∷ ids) k) in
    ap (λ x. option_or x o) is ∙ there id ids o ∙ sym is

before : (id : ℕ) (ids : List ℕ) → last_of (id ∷ ids) ≡ option_or (last_of ids) (Some id)
before id [] = refl
before id (x ∷ xs) =
    next (length (x ∷ xs)) (λ k. slice_get (id ∷ x ∷ xs) k)
    ∙ sym (there x xs (Some id))
    ∙ ap (λ o. option_or o (Some id)) (sym (next (length xs) (λ k. slice_get (x ∷ xs) k)))

-- the last that passes, or what was found before
abbrev pub last_passing : (ℕ → Bool) → Option ℕ → List ℕ → Option ℕ
last_passing p found [] = found
last_passing p found (x ∷ xs) = last_passing p (cond (p x) (Some x) found) xs

walked : (p : ℕ → Bool) (found : Option ℕ) (ids : List ℕ)
    → last_passing p found ids ≡ option_or (last_of (filter p ids)) found
walked p found [] = refl
walked p found (x ∷ xs) = walked p (cond (p x) (Some x) found) xs ∙ by (p x)
  where
    by : (b : Bool) → option_or (last_of (filter p xs)) (cond b (Some x) found)
        ≡ option_or (last_of (cond b (x ∷ filter p xs) (filter p xs))) found
    by true = sym (some_last x (filter p xs) found ∙ before x (filter p xs))
    by false = refl

pub last_walked : (p : ℕ → Bool) (ids : List ℕ) → last_passing p None ids ≡ last_of (filter p ids)
last_walked p ids = walked p None ids ∙ none (last_of (filter p ids))
  where
    none : (o : Option ℕ) → option_or o None ≡ o
    none None = refl
    none (Some x) = refl

-- ---- a part is found among those of its kind

none_of : (s : Content) (w : Which) → None ≡ pick s w []
none_of s (Number number) = by (number == 0)
  where
    by : (b : Bool) → None ≡ cond b None (slice_get {X = ℕ} [] (number - 1))
    by true = refl
    by false = refl
none_of s (Id id) = refl
none_of s (Name name) = refl

pub found_on : (s : Content) (layer : LayerId) (kind : PartKind) (w : Which)
    → part_found s layer kind w ≡ pick s w (parts_on s layer kind)
found_on s layer kind w = by (layer_parts s layer)
  where
    by : (parts : Option (List ℕ)) → option_and_then (λ ids. pick s w (of_kind s kind ids)) parts
        ≡ pick s w (of_kind s kind (unwrap_or parts []))
    by None = none_of s w
    by (Some ids) = refl
