-- The replacement of each occurrence, a step at a time.
use Rattle.std.proofs.Common.{◌≡◌, ◌<◌, ◌≤◌, ◌+◌, ◌-◌, ℕ, zero, suc, arith, true, false, nat_eq, List, [], ◌∷◌, ◌++◌}
use Rattle.std.proofs.Common.{length, take, drop, refl, ap, sym, ◌∙◌, Ok, length-drop, append-nil, drop-drop}
use Rattle.std.specs.List.{starts_with}
use Rattle.std.proofs.Math.ListN.{drop_of_length-le}
use Rattle.ht_values.specs.declared.text.TheConstants.{LIMIT}
use Rattle.ht_values.specs.Outcome.{within_limit}
use Rattle.text_tools.specs.Replacing.{replaced, replaced_after}

-- the rest of an occurrence is dropped
replaced_after-drop : (old new : List ℕ) (k : ℕ) (text : List ℕ)
    → replaced_after old new k text ≡ replaced_after old new 0 (drop k text)
unfolding replaced_after
replaced_after-drop old new zero text = refl
replaced_after-drop old new (suc k) [] = refl
replaced_after-drop old new (suc k) (b ∷ bs) = replaced_after-drop old new k bs

-- at an occurrence
pub replaced-here : (old new text : List ℕ) → 0 < length old → 0 < length text → starts_with nat_eq text old ≡ true
    → replaced_after old new 0 text ≡ new ++ replaced_after old new 0 (drop (length old) text)
unfolding replaced_after
replaced-here old new [] l t h = absurd (omega arith)
replaced-here (o ∷ old) new (b ∷ bs) l t h =
    let e : suc (length old) - 1 ≡ length old = omega arith in
    rw h (rw e (ap (λ x. new ++ x) (replaced_after-drop (o ∷ old) new (length old) bs)))
replaced-here [] new (b ∷ bs) l t h = absurd (omega arith)

-- at another byte
pub replaced-not : (old new text : List ℕ) → 0 < length text → starts_with nat_eq text old ≡ false
    → replaced_after old new 0 text ≡ take 1 text ++ replaced_after old new 0 (drop 1 text)
unfolding replaced_after
replaced-not old new [] t h = absurd (omega arith)
replaced-not old new (b ∷ bs) t h = rw h refl

-- an occurrence in the midst of a text, and another byte
pub replaced-at : (old new text : List ℕ) (at : ℕ) → 0 < length old → at < length text
    → starts_with nat_eq (drop at text) old ≡ true
    → replaced_after old new 0 (drop at text) ≡ new ++ replaced_after old new 0 (drop (at + length old) text)
replaced-at old new text at l t h =
    replaced-here old new (drop at text) l (rw length-drop (omega arith)) h
    ∙ ap (λ r. new ++ replaced_after old new 0 r) (drop-drop (length old) at text)

pub replaced-past : (old new text : List ℕ) (at : ℕ) → at < length text → starts_with nat_eq (drop at text) old ≡ false
    → replaced_after old new 0 (drop at text) ≡ take 1 (drop at text) ++ replaced_after old new 0 (drop (at + 1) text)
replaced-past old new text at t h =
    replaced-not old new (drop at text) (rw length-drop (omega arith)) h
    ∙ ap (λ r. take 1 (drop at text) ++ replaced_after old new 0 r) (drop-drop 1 at text)

replaced-some : (old new text : List ℕ) → 0 < length old → replaced old new text ≡ replaced_after old new 0 text
replaced-some [] new text l = absurd (omega arith)
replaced-some (o ∷ old) new text l = grind arith

-- the whole text is done
pub replaced-end : (old new text made : List ℕ) (at : ℕ) → 0 < length old → length text ≤ at → length made ≤ LIMIT
    → made ++ replaced_after old new 0 (drop at text) ≡ replaced_after old new 0 text
    → within_limit (replaced old new text) ≡ Ok made
unfolding replaced_after
replaced-end old new text made at l t m h =
    let none : drop at text ≡ [] = drop_of_length-le text t in
    let all : made ≡ replaced_after old new 0 text = sym (append-nil made) ∙ rw none at h in
    rw (replaced-some old new text l, ← all) (grind arith)
