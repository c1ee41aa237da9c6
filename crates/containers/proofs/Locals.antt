-- The names of a handler with another value for one of them, by the place of that name.
use Rattle.std.proofs.Common.{◌≡◌, ℕ, zero, suc, ◌<◌, ◌≤◌, Bool, true, false, List, [], ◌∷◌, ◌++◌, length, get_or}
use Rattle.std.proofs.Common.{slice_set, find, position, unwrap_or, is_none, ◌||◌, Option, option_map, Some, None}
use Rattle.std.proofs.Common.{refl, ap, arith}
use Rattle.std.specs.List.{position_or_len}
use Rattle.std.specs.Option.{option_and_then}
use Rattle.std.proofs.lemmas.List.Quantifiers.{position-Some}
use Rattle.std.proofs.lemmas.List.Sums.{fails_before_first}
use Rattle.std.proofs.lemmas.Grind.{common_steps}
use Rattle.ht_values.specs.Text.{folded, same}
use Rattle.containers.specs.declared.variables.Local.{Local}
use Rattle.containers.specs.Variables.{is_global, own_text, with_value}

abbrev is_it : List ℕ → Local → Bool
is_it name l = same l.name name

set_at : (name : List ℕ) (v : Option (List ℕ)) (ls : List Local) (i : ℕ) (d : Local) → i < length ls
    → is_it name (get_or ls i d) ≡ true → ((k : ℕ) → k < i → is_it name (get_or ls k d) ≡ false)
    → with_value name v ls ≡ slice_set ls i (record (get_or ls i d) { value = v })
set_at name v [] i d within met unmet = absurd (omega (arith, within))
set_at name v (l ∷ ls) zero d within met unmet = rw met refl
set_at name v (l ∷ ls) (suc i) d within met unmet = rw (unmet 0 (omega arith))
    (ap (λ m. l ∷ m) (set_at name v ls i d (omega (arith, within)) met (λ k h. unmet (suc k) (omega (arith, h)))))

added : (name : List ℕ) (v : Option (List ℕ)) (ls : List Local) (d : Local)
    → ((k : ℕ) → k < length ls → is_it name (get_or ls k d) ≡ false)
    → with_value name v ls ≡ ls ++ record { name = folded name; value = v } ∷ []
added name v [] d unmet = refl
added name v (l ∷ ls) d unmet =
    rw (unmet 0 (omega arith)) (ap (λ m. l ∷ m) (added name v ls d (λ k h. unmet (suc k) (omega (arith, h)))))

found_at : (name : List ℕ) (ls : List Local) (i : ℕ) (d : Local) → i < length ls → is_it name (get_or ls i d) ≡ true
    → ((k : ℕ) → k < i → is_it name (get_or ls k d) ≡ false) → find (is_it name) ls ≡ Some (get_or ls i d)
found_at name [] i d within met unmet = absurd (omega (arith, within))
found_at name (l ∷ ls) zero d within met unmet = rw met refl
found_at name (l ∷ ls) (suc i) d within met unmet = rw (unmet 0 (omega arith))
    (found_at name ls i d (omega (arith, within)) met (λ k h. unmet (suc k) (omega (arith, h))))

missing_in : (name : List ℕ) (ls : List Local) (d : Local)
    → ((k : ℕ) → k < length ls → is_it name (get_or ls k d) ≡ false) → find (is_it name) ls ≡ None
missing_in name [] d unmet = refl
missing_in name (l ∷ ls) d unmet =
    rw (unmet 0 (omega arith)) (missing_in name ls d (λ k h. unmet (suc k) (omega (arith, h))))

-- what is found of a name stands at its place
pub local_found : (name : List ℕ) (ls : List Local) (i : ℕ) (d : Local) → position (λ l. same l.name name) ls ≡ Some i
    → find (λ l. same l.name name) ls ≡ Some (get_or ls i d)
local_found name ls i d e = let p = position-Some (is_it name) ls i d e in found_at name ls i d p.0 p.1 p.2

-- a name that doesn't stand there isn't found
pub local_missing : (name : List ℕ) (ls : List Local) → position (λ l. same l.name name) ls ≡ None
    → find (λ l. same l.name name) ls ≡ None
local_missing name ls e =
    let past : length ls ≤ position_or_len (is_it name) ls = grind (arith, common_steps) in
    let d : Local = record { name = []; value = None } in
    missing_in name ls d (λ k h. fails_before_first (is_it name) ls k d (omega (arith, past, h)))

-- a name that stands at a place gets the value there
pub value_set : (name : List ℕ) (v : Option (List ℕ)) (ls : List Local) (i : ℕ) (d : Local)
    → position (λ l. same l.name name) ls ≡ Some i
    → with_value name v ls ≡ slice_set ls i (record (get_or ls i d) { value = v })
value_set name v ls i d e = let p = position-Some (is_it name) ls i d e in set_at name v ls i d p.0 p.1 p.2

-- a name that doesn't stand there is added at the end
pub value_added : (name : List ℕ) (v : Option (List ℕ)) (ls : List Local) → position (λ l. same l.name name) ls ≡ None
    → with_value name v ls ≡ ls ++ record { name = folded name; value = v } ∷ []
value_added name v ls e =
    let past : length ls ≤ position_or_len (is_it name) ls = grind (arith, common_steps) in
    let d : Local = record { name = []; value = None } in
    added name v ls d (λ k h. fails_before_first (is_it name) ls k d (omega (arith, past, h)))

-- whether a name means a global, by its place
pub global_found : (g : Bool) (name : List ℕ) (ls : List Local) (i : ℕ) (d : Local)
    → position (λ l. same l.name name) ls ≡ Some i
    → is_global (record { all_global = g; locals = ls }) name ≡ (g || is_none (get_or ls i d).value)
global_found g name ls i d e =
    ap (λ o. g || unwrap_or (option_map (λ l. is_none l.value) o) false) (local_found name ls i d e)

pub global_missing : (g : Bool) (name : List ℕ) (ls : List Local) → position (λ l. same l.name name) ls ≡ None
    → is_global (record { all_global = g; locals = ls }) name ≡ (g || false)
global_missing g name ls e =
    ap (λ o. g || unwrap_or (option_map (λ l. is_none l.value) o) false) (local_missing name ls e)

-- the text of a variable, by the place of its name
pub text_found : (g : Bool) (name : List ℕ) (ls : List Local) (i : ℕ) (d : Local)
    → position (λ l. same l.name name) ls ≡ Some i
    → own_text (record { all_global = g; locals = ls }) name ≡ unwrap_or (get_or ls i d).value []
text_found g name ls i d e = ap (λ o. unwrap_or (option_and_then (λ l. l.value) o) []) (local_found name ls i d e)

pub text_missing : (g : Bool) (name : List ℕ) (ls : List Local) → position (λ l. same l.name name) ls ≡ None
    → own_text (record { all_global = g; locals = ls }) name ≡ []
text_missing g name ls e = ap (λ o. unwrap_or (option_and_then (λ l. l.value) o) []) (local_missing name ls e)
