-- Bytes that stand for themselves, side by side.
use Rattle.std.proofs.Common.{◌≡◌, ℕ, suc, ◌-◌, ◌<◌, ◌≤◌, Bool, true, false, List, [], ◌∷◌, ◌++◌, length, take, drop}
use Rattle.std.proofs.Common.{ltb, Option, Some, None, refl, sym, ap, subst, ◌∙◌, arith, append_assoc, one-add, not}
use Rattle.std.proofs.Common.{option_map, if◌then◌else◌, position, unwrap_or, append-nil}
use Rattle.std.specs.List.{list_all, position_or_len}
use Rattle.std.proofs.lemmas.List.Sums.{prefix_len-le-length}
use Rattle.std.proofs.lemmas.Bool.Decides.{nat_tests}
use Rattle.std.proofs.lemmas.Bool.{and_parts}
use Rattle.stack_text.specs.Words.{is_plain, spelled, char_at, unspelled_within, unspelled}
use Rattle.stack_text.proofs.Texts.{spelled-plain, plain_char, unspelled-step, unspelled-nil, unspelled-bad}
use Rattle.stack_text.proofs.Texts.{text-found, text-again, onto-text}

-- how many bytes at the beginning stand for themselves
abbrev pub plain_length : List ℕ → ℕ
plain_length bytes = position_or_len (λ b. not (is_plain b)) bytes

pub length_by_place : (p : ℕ → Bool) (xs : List ℕ) (o : Option ℕ) (n : ℕ) → o ≡ position p xs
    → n ≡ unwrap_or o (length xs) → (n ≡ position_or_len p xs) × (n ≤ length xs)
length_by_place p xs o n is value = by (ltb (position_or_len p xs) (length xs)) refl
  where
    most : position_or_len p xs ≤ length xs
    most = prefix_len-le-length (λ x. not (p x)) xs

    by : (b : Bool) → ltb (position_or_len p xs) (length xs) ≡ b → (n ≡ position_or_len p xs) × (n ≤ length xs)
    by true e =
        let same : n ≡ position_or_len p xs = value ∙ rw (is, e) refl in
        (same, omega (arith, most))
    by false e =
        let same : n ≡ length xs = value ∙ rw (is, e) refl in
        let past : length xs ≤ position_or_len p xs = grind (arith, nat_tests) in
        (omega (arith, most), omega arith)

plain_first : (b : ℕ) (bytes : List ℕ) → is_plain b ≡ true → plain_length (b ∷ bytes) ≡ suc (plain_length bytes)
plain_first b bytes e = rw e (one-add (plain_length bytes))

plain_none : (b : ℕ) (bytes : List ℕ) → is_plain b ≡ false → plain_length (b ∷ bytes) ≡ 0
plain_none b bytes e = rw e refl

-- what is spelled of them, and of the others
pub run-spelled : (bytes : List ℕ)
    → spelled bytes ≡ take (plain_length bytes) bytes ++ spelled (drop (plain_length bytes) bytes)
run-spelled [] = refl
run-spelled (b ∷ bytes) = by (is_plain b) refl (run-spelled bytes)
  where
    by : (t : Bool) → is_plain b ≡ t
        → spelled bytes ≡ take (plain_length bytes) bytes ++ spelled (drop (plain_length bytes) bytes)
        → spelled (b ∷ bytes)
        ≡ take (plain_length (b ∷ bytes)) (b ∷ bytes) ++ spelled (drop (plain_length (b ∷ bytes)) (b ∷ bytes))
    by true t others = rw (plain_first b bytes t) (ap (λ (w : List ℕ). w ++ spelled bytes) (spelled-plain b t)
        ∙ ap (λ (w : List ℕ). b ∷ w) others)
    by false t others = rw (plain_none b bytes t) refl

-- with the text that they are before that of the others
onto-run : (b : ℕ) (run : List ℕ) (o : Option (List ℕ))
    → option_map (λ t. b ∷ t) (option_map (λ t. run ++ t) o) ≡ option_map (λ t. (b ∷ run) ++ t) o
onto-run b run None = refl
onto-run b run (Some t) = refl

nothing_before : (o : Option (List ℕ)) → o ≡ option_map (λ t. [] ++ t) o
nothing_before None = refl
nothing_before (Some t) = refl

pub run-unspelled : (bytes : List ℕ) → unspelled bytes
    ≡ option_map (λ t. take (plain_length bytes) bytes ++ t) (unspelled (drop (plain_length bytes) bytes))
run-unspelled [] = nothing_before (unspelled [])
run-unspelled (b ∷ bytes) = by (is_plain b) refl (run-unspelled bytes)
  where
    by : (t : Bool) → is_plain b ≡ t
        → unspelled bytes
        ≡ option_map (λ t. take (plain_length bytes) bytes ++ t) (unspelled (drop (plain_length bytes) bytes))
        → unspelled (b ∷ bytes)
        ≡ option_map (λ t. take (plain_length (b ∷ bytes)) (b ∷ bytes) ++ t)
        (unspelled (drop (plain_length (b ∷ bytes)) (b ∷ bytes)))
    by true t others = rw (plain_first b bytes t)
        (unspelled-step (length (b ∷ bytes)) (length bytes) (b ∷ bytes) b bytes (omega arith) (omega arith)
        (plain_char b bytes t) ∙ ap (option_map (λ t. b ∷ t)) others
        ∙ onto-run b (take (plain_length bytes) bytes) (unspelled (drop (plain_length bytes) bytes)))
    by false t others = rw (plain_none b bytes t) (nothing_before (unspelled (b ∷ bytes)))

-- with more before both
pub onto-more : (out run : List ℕ) (o : Option (List ℕ))
    → option_map (λ t. (out ++ run) ++ t) o ≡ option_map (λ t. out ++ t) (option_map (λ t. run ++ t) o)
onto-more out run None = refl
onto-more out run (Some t) = ap Some (append_assoc out run t)

-- more bytes than are read make no difference
pub enough : (n : ℕ) (rest : List ℕ) → length rest ≤ n → unspelled_within n rest ≡ unspelled rest
enough n rest room = by (unspelled_within n rest) (unspelled rest) refl refl
  where
    by : (a b : Option (List ℕ)) → unspelled_within n rest ≡ a → unspelled rest ≡ b → a ≡ b
    by None None p q = refl
    by (Some t) b p q =
        let f = text-found n rest t p in
        let again : unspelled rest ≡ Some t = rw f.1 (text-again t (length (spelled t)) f.0 (omega arith)) in
        sym again ∙ q
    by None (Some t) p q =
        let f = text-found (length rest) rest t q in
        let room : length (spelled t) ≤ n = rw (← f.1) room in
        let again : unspelled_within n rest ≡ Some t = rw f.1 (text-again t n f.0 room) in
        sym p ∙ again

-- ---- bytes that are copied

pub plain_spelled : (bytes : List ℕ) → list_all is_plain bytes ≡ true → spelled bytes ≡ bytes
plain_spelled [] e = refl
plain_spelled (b ∷ bytes) e =
    let all = and_parts (is_plain b) (list_all is_plain bytes) e in
    ap (λ (w : List ℕ). w ++ spelled bytes) (spelled-plain b all.0)
    ∙ ap (λ (w : List ℕ). b ∷ w) (plain_spelled bytes all.1)

pub plain_unspelled : (bytes : List ℕ) → list_all is_plain bytes ≡ true → unspelled bytes ≡ Some bytes
plain_unspelled [] e = unspelled-nil 0 [] refl
plain_unspelled (b ∷ bytes) e =
    let all = and_parts (is_plain b) (list_all is_plain bytes) e in
    unspelled-step (length (b ∷ bytes)) (length bytes) (b ∷ bytes) b bytes (omega arith) (omega arith)
    (plain_char b bytes all.0) ∙ ap (option_map (λ t. b ∷ t)) (plain_unspelled bytes all.1)

pub copied-spelled : (out new bytes rest : List ℕ) → new ≡ out ++ take (plain_length bytes) bytes
    → rest ≡ drop (plain_length bytes) bytes → new ++ spelled rest ≡ out ++ spelled bytes
copied-spelled out new bytes rest is left =
    rw (is, left) (append_assoc out (take (plain_length bytes) bytes) (spelled (drop (plain_length bytes) bytes))
    ∙ ap (λ (t : List ℕ). out ++ t) (sym (run-spelled bytes)))

pub copied-text : (out new bytes rest : List ℕ) → new ≡ out ++ take (plain_length bytes) bytes
    → rest ≡ drop (plain_length bytes) bytes
    → option_map (λ t. new ++ t) (unspelled rest) ≡ option_map (λ t. out ++ t) (unspelled bytes)
copied-text out new bytes rest is left =
    rw (is, left) (onto-more out (take (plain_length bytes) bytes) (unspelled (drop (plain_length bytes) bytes))
    ∙ ap (option_map (λ t. out ++ t)) (sym (run-unspelled bytes)))

-- one byte more is read
pub next-unspelled : (out new rest after : List ℕ) (b : ℕ) → 0 < length rest → char_at rest ≡ Some (b, after)
    → length after < length rest → new ≡ out ++ b ∷ []
    → option_map (λ t. new ++ t) (unspelled after) ≡ option_map (λ t. out ++ t) (unspelled rest)
next-unspelled out new rest after b some is fewer pushed =
    let step = unspelled-step (length rest) (length rest - 1) rest b after (omega arith) some is in
    rw pushed (onto-text out b (unspelled after)
    ∙ ap (λ (o : Option (List ℕ)). option_map (λ t. out ++ t) (option_map (λ t. b ∷ t) o))
    (sym (enough (length rest - 1) after (omega arith)))
    ∙ ap (option_map (λ t. out ++ t)) (sym step))

-- nothing is left
pub all-unspelled : (out rest : List ℕ) → length rest ≡ 0 → option_map (λ t. out ++ t) (unspelled rest) ≡ Some out
all-unspelled out [] none = ap (option_map (λ t. out ++ t)) (unspelled-nil 0 [] refl) ∙ ap Some (append-nil out)
all-unspelled out (b ∷ bytes) none = absurd (omega arith)

-- what is left spells no text
pub none-unspelled : (out rest : List ℕ) → 0 < length rest → char_at rest ≡ None
    → option_map (λ t. out ++ t) (unspelled rest) ≡ None
none-unspelled out rest some bad = ap (option_map (λ t. out ++ t)) (unspelled-bad (length rest) rest some bad)

-- the text alone, where nothing stood before it
pub from-nothing : (known : Bool) (out new bytes : List ℕ) → out ≡ []
    → option_map (λ t. out ++ t) (unspelled bytes) ≡ (if known then Some new else None)
    → unspelled bytes ≡ (if known then Some new else None)
from-nothing known out new bytes none is = nothing_before (unspelled bytes)
    ∙ subst (λ (o : List ℕ). option_map (λ t. o ++ t) (unspelled bytes) ≡ (if known then Some new else None)) none is
