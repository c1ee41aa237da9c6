-- Readings in a row, one after the other.
use Rattle.std.proofs.Common.{◌≡◌, ℕ, suc, ◌+◌, List, [], ◌∷◌, ◌++◌, map, refl, sym, ap, append_assoc, add-one}
use Rattle.std.specs.Prelude.{Result, Ok, Err}
use Rattle.std.proofs.lemmas.List.{map-append}
use Rattle.stack_text.specs.Reading.{Position, Reader, chain, give, times, Fails}
use Rattle.stack_text.specs.declared.fault.FileError.{FileError}
use Rattle.stack_text.specs.declared.fault.ReadError.{ReadError}
use Rattle.stack_text.specs.declared.fault.ReadError.TheVariants as errors

-- what is read, behind these
abbrev pub with_front : {A : Type 0} → List A → Result (List A × Position) FileError
    → Result (List A × Position) FileError
with_front front (Ok x) = Ok (front ++ x.0, x.1)
with_front front (Err e) = Err e

onto : {A : Type 0} (front : List A) (x : A) (r : Result (List A × Position) FileError)
    → with_front front (chain r (λ xs. give (x ∷ xs))) ≡ with_front (front ++ x ∷ []) r
onto front x (Ok p) = ap (λ t. Ok (t, p.1)) (sym (append_assoc front (x ∷ []) p.0))
onto front x (Err e) = refl

go : {A : Type 0} (r : Reader A) (m : ℕ) (front : List A) (start after : Position) (x : A) → r start ≡ Ok (x, after)
    → with_front front (times (suc m) r start) ≡ with_front (front ++ x ∷ []) (times m r after)
go r m front start after x e = rw e (onto front x (times m r after))

pub times-step : {A : Type 0} (r : Reader A) (n m : ℕ) (front : List A) (start after : Position) (x : A) → n ≡ m + 1
    → r start ≡ Ok (x, after) → with_front front (times n r start) ≡ with_front (front ++ x ∷ []) (times m r after)
times-step r n m front start after x is e = rw (is, add-one) (go r m front start after x e)

-- One more is read, of which the definitions see a view.
pub times-push : {X A : Type 0} (view : X → A) (r : Reader A) (n m : ℕ) (xs more : List X) (start after : Position)
    (x : X) → n ≡ m + 1 → r start ≡ Ok (view x, after) → more ≡ xs ++ x ∷ []
    → with_front (map view more) (times m r after) ≡ with_front (map view xs) (times n r start)
times-push view r n m xs more start after x is e pushed =
    rw (pushed, map-append) (sym (times-step r n m (map view xs) start after (view x) is e))

-- One more is read.
pub times-onto : {A : Type 0} (r : Reader A) (n m : ℕ) (xs more : List A) (start after : Position) (x : A) → n ≡ m + 1
    → r start ≡ Ok (x, after) → more ≡ xs ++ x ∷ []
    → with_front more (times m r after) ≡ with_front xs (times n r start)
times-onto r n m xs more start after x is e pushed = rw pushed (sym (times-step r n m xs start after x is e))

-- a fault of the first is a fault of both
pub fails_on : {A B : Type 0} (e : ReadError) (r : Result (A × Position) FileError) (f : A → Reader B) → Fails e r
    → Fails e (chain r f)
fails_on errors.Memory r f h = tt
fails_on (errors.File x) r f h = rw h refl
