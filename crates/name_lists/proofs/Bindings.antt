-- The names that get arguments with another argument for one of them, by the place of that name.
use Rattle.std.proofs.Common.{◌≡◌, ℕ, zero, suc, ◌<◌, ◌≤◌, Bool, true, false, List, [], ◌∷◌, ◌++◌, length, get_or}
use Rattle.std.proofs.Common.{slice_set, position, Some, None, refl, ap, arith}
use Rattle.std.specs.List.{position_or_len}
use Rattle.std.proofs.lemmas.List.Quantifiers.{position-Some}
use Rattle.std.proofs.lemmas.List.Sums.{fails_before_first}
use Rattle.std.proofs.lemmas.Grind.{common_steps}
use Rattle.ht_values.specs.Text.{folded, same}
use Rattle.name_lists.specs.declared.parameters.Binding.{Binding}
use Rattle.name_lists.specs.Parameters.{with_argument}

abbrev is_it : List ℕ → Binding → Bool
is_it name b = same b.name name

set_at : (name : List ℕ) (a : ℕ) (bs : List Binding) (i : ℕ) (d : Binding) → i < length bs
    → is_it name (get_or bs i d) ≡ true → ((k : ℕ) → k < i → is_it name (get_or bs k d) ≡ false)
    → with_argument name a bs ≡ slice_set bs i (record (get_or bs i d) { argument = a })
set_at name a [] i d within met unmet = absurd (omega (arith, within))
set_at name a (b ∷ bs) zero d within met unmet = rw met refl
set_at name a (b ∷ bs) (suc i) d within met unmet = rw (unmet 0 (omega arith))
    (ap (λ m. b ∷ m) (set_at name a bs i d (omega (arith, within)) met (λ k h. unmet (suc k) (omega (arith, h)))))

added : (name : List ℕ) (a : ℕ) (bs : List Binding) (d : Binding)
    → ((k : ℕ) → k < length bs → is_it name (get_or bs k d) ≡ false)
    → with_argument name a bs ≡ bs ++ record { name = folded name; argument = a } ∷ []
added name a [] d unmet = refl
added name a (b ∷ bs) d unmet =
    rw (unmet 0 (omega arith)) (ap (λ m. b ∷ m) (added name a bs d (λ k h. unmet (suc k) (omega (arith, h)))))

-- a name that stands at a place gets the argument there
pub argument_set : (name : List ℕ) (a : ℕ) (bs : List Binding) (i : ℕ) (d : Binding)
    → position (λ b. same b.name name) bs ≡ Some i
    → with_argument name a bs ≡ slice_set bs i (record (get_or bs i d) { argument = a })
argument_set name a bs i d e = let p = position-Some (is_it name) bs i d e in set_at name a bs i d p.0 p.1 p.2

-- a name that doesn't stand there is added at the end
pub argument_added : (name : List ℕ) (a : ℕ) (bs : List Binding) → position (λ b. same b.name name) bs ≡ None
    → with_argument name a bs ≡ bs ++ record { name = folded name; argument = a } ∷ []
argument_added name a bs e =
    let past : length bs ≤ position_or_len (is_it name) bs = grind (arith, common_steps) in
    let d : Binding = record { name = []; argument = 0 } in
    added name a bs d (λ k h. fails_before_first (is_it name) bs k d (omega (arith, past, h)))
