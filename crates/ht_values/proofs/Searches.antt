-- The first place of a run is what a search for it answers.
use Rattle.std.proofs.Common.{◌≡◌, refl, sym, ◌∙◌, ap, subst, ℕ, zero, suc, ◌+◌, ◌-◌, ◌<◌, ◌≤◌, Bool, true, false}
use Rattle.std.proofs.Common.{cond, List, [], ◌∷◌, length, take, drop, get_or, Option, Some, None, ext_get_or}
use Rattle.std.proofs.Common.{get_or-take, get_or-drop, length-take, length-take-le, length-drop, ◌⊎◌, inl, inr, arith}
use Rattle.std.specs.Prelude.{nat_eq, ◌==◌, ◌↔◌, IsTrue}
use Rattle.std.specs.Char.{to_ascii_lowercase, to_ascii_uppercase}
use Rattle.std.specs.List.{starts_with}
use Rattle.std.proofs.lemmas.Bool.Decides.{nat_tests}
use Rattle.std.proofs.lemmas.List.{get_or-map, take-map, drop-map, length-map, take_rest}
use Rattle.bstr.specs.Bytes.{is_in}
use Rattle.std.specs.Option.{option_map}
use Rattle.std.specs.Str.{bytes_eq}
use Rattle.std.proofs.lemmas.Bool.{false≢true, cases_lt, eq-eqb}
use Rattle.std.proofs.lemmas.Slice.Eq.{bytes_eq-Decides}
use Rattle.bstr.specs.Find.{FindsNeedle, IsFirst, NoneBefore, Nowhere, OccursAt, Passes}
use Rattle.ht_values.specs.Search.{first_place}
use Rattle.ht_values.specs.Text.{folded}

-- two first places are the same
only_first : (P : ℕ → Type 0) (i j : ℕ) (r s : Option ℕ) → IsFirst P i j r → IsFirst P i j s → r ≡ s
only_first P i j None None h k = refl
only_first P i j None (Some b) h k = absurd (h b k.0.low k.0.high k.1)
only_first P i j (Some a) None h k = absurd (k a h.0.low h.0.high h.1)
only_first P i j (Some a) (Some b) h k = ap (λ n. Some n) (by a b h k)
  where
    by : (a b : ℕ) → NoneBefore P i j a × P a → NoneBefore P i j b × P b → a ≡ b
    by a b h k =
        let over : a < b → ⊥ = λ l. k.0.before a h.0.low l h.1 in
        let under : b < a → ⊥ = λ l. h.0.before b k.0.low l k.1 in
        omega (arith, over, under)

module _ (run : List ℕ) where
  module _ (b : ℕ) (bs : List ℕ) where
    abbrev text : List ℕ
    text = b ∷ bs

    later : (k : ℕ) → OccursAt bs run k → OccursAt text run (k + 1)
    later k h = record {
      fits = let f = h.fits in omega arith;
      reads = λ j l. let e : k + 1 + j
          ≡ suc (k + j) = omega arith in ap (λ n. get_or text n 0) e ∙ h.reads j l;
    }

    earlier : (k : ℕ) → OccursAt text run (suc k) → OccursAt bs run k
    earlier k h = record {
      fits = let f = h.fits in omega arith;
      reads = λ j l. let e : suc k + j
          ≡ suc (k + j) = omega arith in sym (ap (λ n. get_or text n 0) e) ∙ h.reads j l;
    }

    starts : starts_with nat_eq text run ≡ true → OccursAt text run 0
    starts e =
        let same : run ≡ take (length run) text = (bytes_eq-Decides run (take (length run) text)).0 e in
        let long : length run ≡ length (take (length run) text) = ap (λ xs. length xs) same in
        let fits : length run ≤ length text = omega (arith, long, length-take (length run) text) in
        record {
          fits = omega arith;
          reads = λ j l. let z : 0 + j ≡ j = omega arith in ap (λ n. get_or text n 0) z
              ∙ sym (get_or-take (length run) text j 0 l) ∙ ap (λ xs. get_or xs j 0) (sym same);
        }

    begun : OccursAt text run 0 → starts_with nat_eq text run ≡ true
    begun h =
        let f = h.fits in
        let fits : length run ≤ length text = omega arith in
        let whole : length (take (length run) text) ≡ length run = length-take-le (length run) text fits in
        let same : run ≡ take (length run) text = sym
        (ext_get_or 0 (take (length run) text) run whole
        (λ j l. let below : j < length run = omega arith in let z : 0 + j
        ≡ j = omega arith in get_or-take (length run) text j 0 below ∙ ap (λ n. get_or text n 0) (sym z)
        ∙ h.reads j below)) in
        (bytes_eq-Decides run (take (length run) text)).1 same

    -- where the run doesn't stand at the start, its first place is one further on than that in the rest
    shifted : (r : Option ℕ) → (OccursAt text run 0 → ⊥) → FindsNeedle bs run 0 r
        → FindsNeedle text run 0 (option_map (λ k. k + 1) r)
    shifted None away h = none
      where
        none : Nowhere (OccursAt text run) 0 (length text + 1)
        none zero low high o = away o
        none (suc k) low high o = h k (omega arith) (omega arith) (earlier k o)
    shifted (Some m) away h =
        (record { low = omega arith; high = let l = h.0.high in omega arith; before = none }, later m h.1)
      where
        none : Nowhere (OccursAt text run) 0 (m + 1)
        none zero low high o = away o
        none (suc k) low high o = h.0.before k (omega arith) (omega arith) (earlier k o)

    found_by : (v : Bool) → starts_with nat_eq text run ≡ v → FindsNeedle bs run 0 (first_place run bs)
        → FindsNeedle text run 0 (cond v (Some 0) (option_map (λ k. k + 1) (first_place run bs)))
    found_by true e h =
        (record { low = omega arith; high = omega arith; before = λ k low high o. omega arith }, starts e)
    found_by false e h = shifted (first_place run bs) (λ o. false≢true (sym e ∙ begun o)) h

found_in_none : (run : List ℕ) → FindsNeedle [] run 0 (cond (bytes_eq run []) (Some 0) None)
found_in_none [] = (
  record { low = omega arith; high = omega arith; before = λ k low high o. omega arith },
  record { fits = omega arith; reads = λ j l. absurd (omega arith) },
)
found_in_none (c ∷ cs) = λ k low high o. let f = o.fits in omega arith

pub found : (run text : List ℕ) → FindsNeedle text run 0 (first_place run text)
unfolding first_place
found run [] = found_in_none run
found run (b ∷ bs) = found_by run b bs (starts_with nat_eq (b ∷ bs) run) refl (found run bs)

pub finds_first_place : (text run : List ℕ) (r : Option ℕ) → FindsNeedle text run 0 r → r ≡ first_place run text
finds_first_place text run r h =
    only_first (OccursAt text run) 0 (length text + 1) r (first_place run text) h (found run text)

abbrev is_same_byte : ℕ → ℕ → Bool
is_same_byte f b = to_ascii_lowercase b == to_ascii_lowercase f

-- the bytes that are the same as another are its two spellings
same_bytes : (b f : ℕ) → is_in (to_ascii_lowercase f ∷ to_ascii_uppercase f ∷ []) b ≡ is_same_byte f b
unfolding is_in
same_bytes b f = grind (arith, nat_tests)

-- a search for the spellings of a byte in the rest of a text
module _ (f from lower upper : ℕ) (text : List ℕ) (is_lower : lower ≡ to_ascii_lowercase f)
    (is_upper : upper ≡ to_ascii_uppercase f) where
  abbrev is_spelling : ℕ → Bool
  is_spelling b = is_in (lower ∷ upper ∷ []) b

  spelled : (b : ℕ) → is_spelling b ≡ is_same_byte f b
  spelled b = ap (λ l. is_in (l ∷ upper ∷ []) b) is_lower ∙ ap (λ u. is_in (to_ascii_lowercase f ∷ u ∷ []) b) is_upper
      ∙ same_bytes b f

  abbrev rest : List ℕ
  rest = take (length text - from) (drop from text)

  read_rest : (k : ℕ) → get_or rest k 0 ≡ get_or text (from + k) 0
  read_rest k = ap (λ ts. get_or ts k 0) (take_rest text from) ∙ get_or-drop from text k 0

  passes_ahead : (k : ℕ) → Passes is_spelling rest k → Passes (is_same_byte f) text (from + k)
  passes_ahead k h = ap (is_same_byte f) (sym (read_rest k)) ∙ sym (spelled (get_or rest k 0)) ∙ h

  passes_back : (k : ℕ) → from ≤ k → Passes (is_same_byte f) text k → Passes is_spelling rest (k - from)
  passes_back k low h =
      let e : from + (k - from) ≡ k = omega arith in
      spelled (get_or rest (k - from) 0) ∙ ap (is_same_byte f) (read_rest (k - from) ∙ ap (λ n. get_or text n 0) e) ∙ h

  long : length rest ≡ length text - from
  long = omega (arith, length-drop from text, length-take (length text - from) (drop from text))

  pub same_byte_nowhere : Nowhere (Passes is_spelling rest) 0 (length rest)
      → Nowhere (Passes (is_same_byte f) text) from (length text)
  same_byte_nowhere h k low high p = h (k - from) (omega arith) (omega (arith, long)) (passes_back k low p)

  pub same_byte_ahead : (k : ℕ) → NoneBefore (Passes is_spelling rest) 0 (length rest) k × Passes is_spelling rest k
      → NoneBefore (Passes (is_same_byte f) text) from (length text) (from + k)
      × Passes (is_same_byte f) text (from + k)
  same_byte_ahead k h =
      (record { low = omega arith; high = let l = h.0.high in omega (arith, long); before = none }, passes_ahead k h.1)
    where
      none : Nowhere (Passes (is_same_byte f) text) from (from + k)
      none j low high p = h.0.before (j - from) (omega arith) (omega arith) (passes_back j low p)

-- a run stands where it is the part of its length
module _ (hay needle : List ℕ) where
  part_there : (at : ℕ) → OccursAt hay needle at → take (length needle) (drop at hay) ≡ needle
  part_there at h =
      let fits = h.fits in
      let whole : length (take (length needle) (drop at hay)) ≡ length needle =
      length-take-le (length needle) (drop at hay) (omega (arith, length-drop at hay)) in
      ext_get_or 0 _ needle whole (λ j l. get_or-take (length needle) _ j 0 (omega arith) ∙ get_or-drop at hay j 0
      ∙ h.reads j (omega arith))

  there_by_part : (at : ℕ) → at + length needle ≤ length hay → take (length needle) (drop at hay) ≡ needle
      → OccursAt hay needle at
  there_by_part at fits e =
      record {
        fits = fits;
        reads = λ j l. sym (get_or-take (length needle) _ j 0 (omega arith) ∙ get_or-drop at hay j 0)
            ∙ ap (λ xs. get_or xs j 0) e;
      }

-- where a folded run stands
module _ (run text : List ℕ) where
  part_folded : (at : ℕ) → take (length (folded run)) (drop at (folded text))
      ≡ folded (take (length run) (drop at text))
  part_folded at = rw (
    length-map run to_ascii_lowercase,
    drop-map to_ascii_lowercase at text,
    take-map
        to_ascii_lowercase (length run) (drop at text),
  ) refl

  stands_by : (at : ℕ) → at + length run ≤ length text → folded (take (length run) (drop at text)) ≡ folded run
      → OccursAt (folded text) (folded run) at
  stands_by at fits e = there_by_part (folded text) (folded run) at
      (omega (arith, length-map run to_ascii_lowercase, length-map text to_ascii_lowercase)) (part_folded at ∙ e)

  part_of : (at : ℕ) → OccursAt (folded text) (folded run) at → folded (take (length run) (drop at text)) ≡ folded run
  part_of at h = sym (part_folded at) ∙ part_there (folded text) (folded run) at h

  fits_of : (at : ℕ) → OccursAt (folded text) (folded run) at → at + length run ≤ length text
  fits_of at h = let f = h.fits in omega (arith, length-map run to_ascii_lowercase, length-map text to_ascii_lowercase)

  -- whether it stands there is whether the part of its length is the same
  pub stands : (at : ℕ) (ahead : List ℕ) → ahead ≡ drop at text → at ≤ length text → length run ≤ length ahead
      → (r : Bool) → (IsTrue r ↔ (folded (take (length run) ahead) ≡ folded run))
      → (IsTrue r ↔ OccursAt (folded text) (folded run) at)
  stands at ahead e low fits r h =
      let long : length ahead ≡ length (drop at text) = ap (λ ts. length ts) e in
      let same : folded (take (length run) ahead) ≡ folded (take (length run) (drop at text)) =
      ap (λ ts. folded (take (length run) ts)) e in (
        λ t. stands_by at (omega (arith, fits, long, low, length-drop at text)) (sym same ∙ h.0 t),
        λ o. h.1
            (same ∙ part_of at o),
      )

  pub too_short : (at : ℕ) (ahead : List ℕ) → ahead ≡ drop at text → length ahead < length run
      → OccursAt (folded text) (folded run) at → ⊥
  too_short at ahead e short h =
      let long : length ahead ≡ length (drop at text) = ap (λ ts. length ts) e in
      omega (arith, fits_of at h, short, long, length-drop at text)

  -- where it stands, its first byte does
  first_stands : (at : ℕ) → 0 < length run → OccursAt (folded text) (folded run) at
      → Passes (is_same_byte (get_or run 0 0)) text at
  first_stands at some h =
      let fits = fits_of at h in
      let e : at + 0 ≡ at = omega arith in
      let there = get_or-map to_ascii_lowercase text at 0 0 (omega (arith, fits, some)) in
      let first = get_or-map to_ascii_lowercase run 0 0 0 some in
      let reads = h.reads 0 (omega (arith, some, length-map run to_ascii_lowercase)) in
      eq-eqb _ _ (sym there ∙ ap (λ n. get_or (folded text) n 0) (sym e) ∙ reads ∙ first)

  -- it stands nowhere before the next place of its first byte
  pub nowhere_before : (from place : ℕ) → 0 < length run → Nowhere (OccursAt (folded text) (folded run)) 0 from
      → Nowhere (Passes (is_same_byte (get_or run 0 0)) text) from place
      → Nowhere (OccursAt (folded text) (folded run)) 0 place
  nowhere_before from place some before after k low high h = by_cases (cases_lt k from)
    where
      by_cases : (k < from) ⊎ (from ≤ k) → ⊥
      by_cases (inl l) = before k low l h
      by_cases (inr l) = after k l high (first_stands k some h)

  pub nowhere_at_all : (from : ℕ) → 0 < length run → Nowhere (OccursAt (folded text) (folded run)) 0 from
      → Nowhere (Passes (is_same_byte (get_or run 0 0)) text) from (length text)
      → FindsNeedle (folded text) (folded run) 0 None
  nowhere_at_all from some before after k low high h =
      nowhere_before from (length text) some before after k low (omega (arith, fits_of k h, some)) h

-- the empty run stands at the front
pub nothing_is_first : (run text : List ℕ) → length run ≡ 0 → Some 0 ≡ first_place (folded run) (folded text)
nothing_is_first run text e =
    let none : length (folded run) ≡ 0 = length-map run to_ascii_lowercase ∙ e in
    finds_first_place (folded text) (folded run) (Some 0) (
      record { low = omega arith; high = omega arith; before = λ k low high o. omega arith },
      record { fits = omega (arith, none); reads = λ j l. absurd (omega (arith, none, l)) },
    )

-- what stands nowhere before a place, and not there, stands nowhere before the next
one_further : (P : ℕ → Type 0) (n : ℕ) → Nowhere P 0 n → (P n → ⊥) → Nowhere P 0 (n + 1)
one_further P n before away k low high p = by_cases (cases_lt k n)
  where
    by_cases : (k < n) ⊎ (n ≤ k) → ⊥
    by_cases (inl l) = before k low l p
    by_cases (inr l) = let e : k ≡ n = omega (arith, l, high) in away (subst P e p)

-- where a run doesn't stand at the next place of its first byte, it stands nowhere up to there
pub nowhere_further : (run text : List ℕ) (from place : ℕ) → 0 < length run
    → Nowhere (OccursAt (folded text) (folded run)) 0 from
    → Nowhere (Passes (is_same_byte (get_or run 0 0)) text) from place → (OccursAt (folded text) (folded run) place → ⊥)
    → Nowhere (OccursAt (folded text) (folded run)) 0 (place + 1)
nowhere_further run text from place some before after away =
    one_further (OccursAt (folded text) (folded run)) place (nowhere_before run text from place some before after) away
