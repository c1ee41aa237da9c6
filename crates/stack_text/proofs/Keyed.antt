-- A line that begins with a key and goes on with a word.
use Rattle.std.proofs.Common.{◌≡◌, ℕ, ◌+◌, ◌<◌, Bool, true, false, cond, eqb, List, [], ◌∷◌, ◌++◌, length, take, drop}
use Rattle.std.proofs.Common.{get_or, Ok, Option, Some, None, refl, sym, ap, subst, ◌∙◌, arith, append_assoc}
use Rattle.std.proofs.Common.{add-one, one-add, nat_eq, ◌==◌, position, option_and_then, not}
use Rattle.std.specs.List.{list_any, position_or_len}
use Rattle.std.specs.Cmp.Lexicographic.{pointwise, same_text}
use Rattle.std.proofs.lemmas.Option.{option_and_then_some, cond_some}
use Rattle.std.proofs.lemmas.Cmp.{nat_list_eq_equiv}
use Rattle.std.proofs.lemmas.Bool.{eqb-true, lt-ltb, not-false, or_parts}
use Rattle.std.proofs.lemmas.Bool.Decides.{nat_tests}
use Rattle.std.proofs.lemmas.List.{take_at, drop_at, take-append-drop, get_or-take, get_or_default, length-append}
use Rattle.std.proofs.lemmas.List.{length-take}
use Rattle.std.proofs.lemmas.List.Folds.{list_any-append, list_any_none}
use Rattle.std.proofs.lemmas.List.Quantifiers.{position-Some}
use Rattle.std.proofs.Math.Seq.{drop-cons}
use Rattle.stack_text.specs.Reading.{Position, cut_at, next_line, or_bad_line, line_after, after_prefix, exactly}
use Rattle.stack_text.specs.Reading.{bad_line_if}
use Rattle.stack_text.proofs.Forms.{onto, position_at, Took, Reads, chain_ok, bad_line_if-reads}

-- which side of a choice gave a value
pub then_given : {A : Type 0} (b : Bool) (o : Option A) (y : A) → cond b o None ≡ Some y → (b ≡ true) × (o ≡ Some y)
then_given true o y e = (refl, e)
then_given false o y e = absurd cc

pub else_given : {A : Type 0} (b : Bool) (o : Option A) (y : A) → cond b None o ≡ Some y → (b ≡ false) × (o ≡ Some y)
else_given true o y e = absurd cc
else_given false o y e = (refl, e)

pub same_value : {A : Type 0} (x y : A) → Option.Some x ≡ Some y → x ≡ y
same_value x y e = cc

-- a byte stands in a list
abbrev pub has : ℕ → List ℕ → Bool
has c bytes = list_any (λ b. b == c) bytes

first_at : (c : ℕ) (l rest : List ℕ) → has c l ≡ false → position_or_len (λ b. b == c) (l ++ c ∷ rest) ≡ length l
first_at c [] rest e = grind (arith, nat_tests)
first_at c (x ∷ l) rest e = let p = or_parts (eqb x c) (has c l) e in rw (p.0, first_at c l rest p.1, one-add) refl

pub found_at : (c : ℕ) (l rest : List ℕ) → has c l ≡ false → position (λ b. b == c) (l ++ c ∷ rest) ≡ Some (length l)
found_at c l rest e =
    let less : length l < length (l ++ c ∷ rest) = omega (arith, length-append l (c ∷ rest)) in
    rw (first_at c l rest e, lt-ltb _ _ less) refl

pub splits_at : (c : ℕ) (bytes : List ℕ) (i : ℕ) → position (λ b. b == c) bytes ≡ Some i
    → (bytes ≡ take i bytes ++ c ∷ drop (i + 1) bytes) × (has c (take i bytes) ≡ false)
splits_at c bytes i e =
    let p = position-Some (λ b. b == c) bytes i 0 e in
    let within : i < length bytes = p.0 in
    let is : get_or bytes i 0 ≡ c = eqb-true _ _ p.1 in
    let cut : drop i bytes ≡ c ∷ drop (i + 1) bytes = drop-cons bytes i 0 within ∙ rw (is, add-one) refl in (
      sym (take-append-drop i bytes) ∙ ap (λ (t : List ℕ). take i bytes ++ t) cut,
      list_any_none (λ b. b == c) (take i bytes) (λ k d lt.
          let few : k < i = omega (arith, length-take i bytes) in
          let same : get_or (take i bytes) k d ≡ get_or bytes k 0 =
          get_or-take i bytes k d few ∙ get_or_default bytes k d 0 (omega arith) in
          ap (λ (b : ℕ). eqb b c) same ∙ p.2 k few),
    )

-- one line
pub next_line-found : (s t : Position) (line : List ℕ) → next_line s ≡ Ok (line, t)
    → (has 10 line ≡ false) × Took s t (line ∷ []) []
unfolding next_line
next_line-found s t line e = by (position (λ b. b == 10) s.bytes) refl e
  where
    by : (o : Option ℕ) → position (λ b. b == 10) s.bytes ≡ o → cut_at s o ≡ Ok (line, t)
        → (has 10 line ≡ false) × Took s t (line ∷ []) []
    by None is h = absurd cc
    by (Some i) is h =
        let p : ◌≡◌ {A = List ℕ × Position}
        (take i s.bytes, record s { bytes = drop (i + 1) s.bytes; number = s.number + 1 }) (line, t) = cc in
        let q = splits_at 10 s.bytes i is in
        let line-is = ap (λ (z : List ℕ × Position). z.0) p in
        let t-is = ap (λ (z : List ℕ × Position). z.1) p in (
          rw (← line-is) q.1,
          record {
            bytes = q.0 ∙ ap (λ (z : List ℕ × Position). z.0 ++ 10 ∷ z.1.bytes) p;
            used = ap (λ (z : List ℕ × Position). z.1.used) (sym p);
          },
        )

pub next_line-again : (n : ℕ) (used rest line : List ℕ) → has 10 line ≡ false
    → next_line (position_at n used (onto (line ∷ []) rest)) ≡ Ok (line, position_at (n + 1) used rest)
unfolding next_line
next_line-again n used rest line e =
    let len : length line ≡ length line = refl in
    let one : drop (length line + 1) (line ++ 10 ∷ rest)
    ≡ rest = ap (λ (b : List ℕ). drop (length line + 1) b) (sym (append_assoc line (10 ∷ []) rest))
    ∙ drop_at (line ++ 10 ∷ []) rest (length line + 1) (length-append line (10 ∷ [])) in
    rw (found_at 10 line rest e, take_at line (10 ∷ rest) (length line) len, one) refl

-- ---- a key, and then a word

-- The form reads the words of which this holds, each from its own spelling, and no others; none has a line feed.
pub record Spelled {A : Type 0} (form : List ℕ → Option A) (Holds : A → Type 0) (spell : A → List ℕ) : Type 0 where
  pub found : (word : List ℕ) (x : A) → form word ≡ Some x → Holds x × (word ≡ spell x)
  pub again : (x : A) → Holds x → form (spell x) ≡ Some x
  pub line : (x : A) → Holds x → has 10 (spell x) ≡ false

pub after_prefix-found : (prefix xs rest : List ℕ) → after_prefix prefix xs ≡ Some rest → xs ≡ prefix ++ rest
after_prefix-found prefix xs rest e =
    let p = cond_some (pointwise nat_eq (take (length prefix) xs) prefix) (drop (length prefix) xs) rest e in
    let same : take (length prefix) xs ≡ prefix = same_text _ _ (sym p.0) in
    sym (take-append-drop (length prefix) xs) ∙ rw (same, p.1) refl

pub after_prefix-again : (prefix rest : List ℕ) → after_prefix prefix (prefix ++ rest) ≡ Some rest
after_prefix-again prefix rest =
    let same = nat_list_eq_equiv.refl prefix in
    rw (take_at prefix rest (length prefix) refl, same, drop_at prefix rest (length prefix) refl) refl

pub or_bad_line_ok : {A : Type 0} (o : Option A) (x : A) (s t : Position) → or_bad_line o s ≡ Ok (x, t)
    → (o ≡ Some x) × (s ≡ t)
or_bad_line_ok None x s t e = absurd cc
or_bad_line_ok {A} (Some y) x s t e =
    let p : ◌≡◌ {A = A × Position} (y, s) (x, t) = cc in
    (ap (λ (z : A × Position). Some z.0) p, ap (λ (z : A × Position). z.1) p)

pub has-append : (c : ℕ) (a b : List ℕ) → has c a ≡ false → has c b ≡ false → has c (a ++ b) ≡ false
has-append c a b p q = list_any-append (λ x. x == c) a b ∙ rw (p, q) refl

module _ {A : Type 0} (key : List ℕ) (form : List ℕ → Option A) {Holds : A → Type 0} {spell : A → List ℕ}
    (word : Spelled form Holds spell) (plain : has 10 key ≡ false) where
  keyed-found : (s t : Position) (x : A) → line_after key form s ≡ Ok (x, t)
      → Holds x × Took s t ((key ++ spell x) ∷ []) []
  keyed-found s t x e =
      let c = chain_ok (next_line s) (λ line. or_bad_line (option_and_then form (after_prefix key line))) x t e in
      let o = or_bad_line_ok (option_and_then form (after_prefix key c.0)) x c.1 t c.3 in
      option_and_then_some form (after_prefix key c.0) x o.0 (λ rest is read.
      let p = word.found rest x read in
      let line-is : c.0 ≡ key ++ spell x = after_prefix-found key c.0 rest is ∙ ap (λ (w : List ℕ). key ++ w) p.1 in
      let took = (next_line-found s c.1 c.0 c.2).1 in (
        p.0,
        subst (λ (z : Position). Took s z ((key ++ spell x) ∷ []) []) o.1
            (subst (λ (l : List ℕ). Took s c.1 (l ∷ []) []) line-is took),
      ))

  keyed-again : (n : ℕ) (used rest : List ℕ) (x : A) → Holds x
      → line_after key form (position_at n used (onto ((key ++ spell x) ∷ []) rest))
      ≡ Ok (x, position_at (n + 1) used rest)
  keyed-again n used rest x h =
      let line = next_line-again n used rest (key ++ spell x) (has-append 10 key (spell x) plain (word.line x h)) in
      rw (line, after_prefix-again key (spell x), word.again x h) refl

  -- a line of a key and a word
  pub keyed : Reads (line_after key form) (λ used x. Holds x) (λ x. (key ++ spell x) ∷ []) (λ x. [])
  keyed = record { found = keyed-found; again = λ n used rest x h. keyed-again n used rest x h }

-- a line that has these bytes
pub exactly-reads : (line : List ℕ) → has 10 line ≡ false
    → Reads (exactly line) (λ used x. Unit {0}) (λ x. line ∷ []) (λ x. [])
unfolding exactly
exactly-reads line plain = record {
  found = λ s t x e.
      let c = chain_ok (next_line s) (λ l. bad_line_if (not (pointwise nat_eq l line))) x t e in
      let g = (bad_line_if-reads (not (pointwise nat_eq c.0 line))).found c.1 t x c.3 in
      let is : c.0 ≡ line = same_text _ _ (sym (not-false (pointwise nat_eq c.0 line) g.0)) in
      let took = (next_line-found s c.1 c.0 c.2).1 in (
        tt,
        record {
          bytes = took.bytes ∙ ap (λ (l : List ℕ). l ++ 10 ∷ c.1.bytes) is
              ∙ ap (λ (b : List ℕ). line ++ 10 ∷ b) g.1.bytes;
          used = g.1.used ∙ took.used;
        },
      );
  again = λ n used rest x h. let same =
      nat_list_eq_equiv.refl line in rw (next_line-again n used rest line plain, same) refl;
}
