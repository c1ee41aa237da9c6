-- Flags, least numbers, and words in pairs.
use Rattle.std.proofs.Common.{◌≡◌, ℕ, ◌+◌, ◌^◌, ◌<◌, ◌≤◌, Bool, true, false, cond, ltb, leb, List, [], ◌∷◌, ◌++◌}
use Rattle.std.proofs.Common.{length, take, drop, Option, Some, None, refl, sym, ap, subst, ◌∙◌, append_assoc, arith}
use Rattle.std.proofs.Common.{nat_eq, inl, inr, ◌⊎◌, ltb-false, le-ltb, take_at, drop_at, length-append}
use Rattle.std.specs.Prelude.{◌==◌, option_map, option_and_then, codes, decimal, position}
use Rattle.std.specs.Cmp.Lexicographic.{pointwise, same_text}
use Rattle.std.proofs.lemmas.Option.{option_and_then_some, cond_some}
use Rattle.stack_text.specs.Words.{spelled_flag, number_at}
use Rattle.ht_values.specs.declared.word.PartKind.{PartKind}
use Rattle.ht_values.specs.declared.word.PartKind.TheVariants.{Button, Field}
use Rattle.stack_text.specs.Reading.{flag_at, count_at, both, pair_at, at_least, after_prefix, first_of, part_header}
use Rattle.stack_text.proofs.Keyed.{has, has-append, found_at, splits_at, Spelled, else_given, same_value}
use Rattle.stack_text.proofs.Keyed.{after_prefix-found, after_prefix-again}
use Rattle.stack_text.proofs.Numbers.{numbers, has-decimal}

-- a choice of two words
pub chosen-found : {A : Type 0} (word v w : List ℕ) (x y z : A)
    → cond (pointwise nat_eq word v) (Some x) (cond (pointwise nat_eq word w) (Some y) None) ≡ Some z
    → ((z ≡ x) × (word ≡ v)) ⊎ ((z ≡ y) × (word ≡ w))
chosen-found word v w x y z e = by (pointwise nat_eq word v) (pointwise nat_eq word w) refl refl e
  where
    by : (a b : Bool) → pointwise nat_eq word v ≡ a → pointwise nat_eq word w ≡ b
        → cond a (Some x) (cond b (Some y) None) ≡ Some z → ((z ≡ x) × (word ≡ v)) ⊎ ((z ≡ y) × (word ≡ w))
    by true b p q is = inl (cc, same_text _ _ (sym p))
    by false true p q is = inr (cc, same_text _ _ (sym q))
    by false false p q is = absurd cc

flag-found : (word : List ℕ) (b : Bool) → flag_at word ≡ Some b → Unit {0} × (word ≡ spelled_flag b)
flag-found word b e =
    elim (chosen-found word (codes "true") (codes "false") true false b e) [
      | inl h ↦ (tt, rw h.0 h.1)
      | inr h ↦ (tt, rw h.0 h.1)
    ]

flag-again : (b : Bool) → flag_at (spelled_flag b) ≡ Some b
flag-again true = refl
flag-again false = refl

flag-line : (b : Bool) → has 10 (spelled_flag b) ≡ false
flag-line true = refl
flag-line false = refl

pub flags : Spelled flag_at (λ b. Unit {0}) spelled_flag
flags = record { found = flag-found; again = λ b h. flag-again b; line = λ b h. flag-line b }

-- numbers from a least one on
least-found : (least : ℕ) (word : List ℕ) (n : ℕ) → at_least least word ≡ Some n
    → ((n < 10 ^ 7) × (least ≤ n)) × (word ≡ decimal n)
least-found least word n e =
    option_and_then_some (λ m. cond (ltb m least) None (Some m)) (number_at word) n e (λ m is high.
    let p = else_given (ltb m least) (Some m) n high in
    let f = numbers.found word m is in
    subst (λ k. ((k < 10 ^ 7) × (least ≤ k)) × (word ≡ decimal k)) (same_value m n p.1) ((f.0, ltb-false _ _ p.0), f.1))

pub least_numbers : (least : ℕ) → Spelled (at_least least) (λ n. (n < 10 ^ 7) × (least ≤ n)) decimal
least_numbers least = record {
  found = least-found least;
  again = λ n h. let read = numbers.again n h.0 in rw (read, le-ltb _ _ h.1) refl;
  line = λ n h. numbers.line n h.0;
}

-- words of which a test is true
module _ {A : Type 0} {form : List ℕ → Option A} {P : A → Type 0} {spell : A → List ℕ} (word : Spelled form P spell)
    (test : A → Bool) where
  tested-found : (w : List ℕ) (x : A) → option_and_then (λ y. cond (test y) (Some y) None) (form w) ≡ Some x
      → (P x × (test x ≡ true)) × (w ≡ spell x)
  tested-found w x e = option_and_then_some (λ y. cond (test y) (Some y) None) (form w) x e (λ y is right.
      let p = cond_some (test y) y x right in
      let f = word.found w y is in
      subst (λ z. (P z × (test z ≡ true)) × (w ≡ spell z)) p.1 ((f.0, p.0), f.1))

  pub tested : Spelled (λ w. option_and_then (λ y. cond (test y) (Some y) None) (form w)) (λ x. P x × (test x ≡ true))
      spell
  tested = record {
    found = tested-found;
    again = λ x h. let read = word.again x h.0 in rw (read, h.1) refl;
    line = λ x h. word.line x h.0;
  }

-- numbers of pieces
pub piece_counts : Spelled count_at (λ n. (n < 10 ^ 7) × (leb n 30001 ≡ true)) decimal
piece_counts = tested numbers (λ n. leb n 30001)

-- two words with a space between them
both_ok : {A B : Type 0} (o : Option A) (p : Option B) (x : A × B) → both o p ≡ Some x → (o ≡ Some x.0) × (p ≡ Some x.1)
both_ok None p x e = absurd cc
both_ok (Some a) None x e = absurd cc
both_ok {A} {B} (Some a) (Some b) x e =
    let q : ◌≡◌ {A = A × B} (a, b) x = cc in
    (ap (λ (z : A × B). Some z.0) q, ap (λ (z : A × B). Some z.1) q)

module _ {A B : Type 0} {f : List ℕ → Option A} {g : List ℕ → Option B} {P : A → Type 0} {Q : B → Type 0}
    {s : A → List ℕ} {t : B → List ℕ} (left : Spelled f P s) (right : Spelled g Q t)
    (no_space : (x : A) → P x → has 32 (s x) ≡ false) where
  pair-found : (word : List ℕ) (x : A × B) → pair_at f g word ≡ Some x → (P x.0 × Q x.1) × (word ≡ s x.0 ++ 32 ∷ t x.1)
  pair-found word x e = by (position (λ b. b == 32) word) refl e
    where
      by : (o : Option ℕ) → position (λ b. b == 32) word ≡ o
          → option_and_then {T = List ℕ × List ℕ} (λ p. both (f p.0) (g p.1))
          (option_map (λ i. (take i word, drop (i + 1) word)) o) ≡ Some x
          → (P x.0 × Q x.1) × (word ≡ s x.0 ++ 32 ∷ t x.1)
      by None is h = absurd cc
      by (Some i) is h =
          let b = both_ok (f (take i word)) (g (drop (i + 1) word)) x h in
          let l = left.found (take i word) x.0 b.0 in
          let r = right.found (drop (i + 1) word) x.1 b.1 in
          ((l.0, r.0), (splits_at 32 word i is).0 ∙ rw (l.1, r.1) refl)

  pair-again : (x : A × B) → P x.0 × Q x.1 → pair_at f g (s x.0 ++ 32 ∷ t x.1) ≡ Some x
  pair-again x h =
      let at = found_at 32 (s x.0) (t x.1) (no_space x.0 h.0) in
      let front = take_at (s x.0) (32 ∷ t x.1) (length (s x.0)) refl in
      let behind : drop (length (s x.0) + 1) (s x.0 ++ 32 ∷ t x.1)
      ≡ t x.1 = ap (λ (b : List ℕ). drop (length (s x.0) + 1) b) (sym (append_assoc (s x.0) (32 ∷ []) (t x.1)))
      ∙ drop_at (s x.0 ++ 32 ∷ []) (t x.1) (length (s x.0) + 1) (length-append (s x.0) (32 ∷ [])) in
      let one = left.again x.0 h.0 in
      let two = right.again x.1 h.1 in
      rw (at, front, behind, one, two) refl

  pub pairs : Spelled (pair_at f g) (λ x. P x.0 × Q x.1) (λ x. s x.0 ++ 32 ∷ t x.1)
  pairs = record {
    found = pair-found;
    again = pair-again;
    line = λ x h. has-append 10 (s x.0) (32 ∷ t x.1)
        (left.line x.0 h.0) (has-append 10 (32 ∷ []) (t x.1) refl (right.line x.1 h.1));
  }

decimal-no_space : (n : ℕ) → n < 10 ^ 7 → has 32 (decimal n) ≡ false
decimal-no_space n lt = has-decimal 32 n lt (λ h. omega arith)

pub number_pairs : Spelled (pair_at number_at number_at) (λ x. (x.0 < 10 ^ 7) × (x.1 < 10 ^ 7))
    (λ x. decimal x.0 ++ 32 ∷ decimal x.1)
number_pairs = pairs numbers numbers decimal-no_space

pub counted_fields : Spelled (pair_at number_at count_at)
    (λ x. (x.0 < 10 ^ 7) × ((x.1 < 10 ^ 7) × (leb x.1 30001 ≡ true))) (λ x. decimal x.0 ++ 32 ∷ decimal x.1)
counted_fields = pairs numbers piece_counts decimal-no_space

pub lit_buttons : Spelled (pair_at number_at flag_at) (λ x. (x.0 < 10 ^ 7) × Unit {0})
    (λ x. decimal x.0 ++ 32 ∷ spelled_flag x.1)
lit_buttons = pairs numbers flags decimal-no_space

-- ---- the kind and the id of a part

abbrev pub part_word : PartKind × ℕ → List ℕ
part_word (Button, id) = codes "button " ++ decimal id
part_word (Field, id) = codes "field " ++ decimal id

part-found : (line : List ℕ) (x : PartKind × ℕ) → part_header line ≡ Some x → (x.1 < 10 ^ 7) × (line ≡ part_word x)
part-found line x e = by (option_and_then number_at (after_prefix (codes "button ") line))
    (option_and_then number_at (after_prefix (codes "field ") line)) refl refl e
  where
    keyed_number : (key : List ℕ) (n : ℕ) → option_and_then number_at (after_prefix key line) ≡ Some n
        → (n < 10 ^ 7) × (line ≡ key ++ decimal n)
    keyed_number key n h = option_and_then_some number_at (after_prefix key line) n h
        (λ rest is read. let p = numbers.found rest n read in
        (p.0, after_prefix-found key line rest is ∙ ap (λ (w : List ℕ). key ++ w) p.1))

    by : (a b : Option ℕ) → option_and_then number_at (after_prefix (codes "button ") line) ≡ a
        → option_and_then number_at (after_prefix (codes "field ") line) ≡ b → first_of a b ≡ Some x
        → (x.1 < 10 ^ 7) × (line ≡ part_word x)
    by (Some n) b p q h =
        let same : ◌≡◌ {A = PartKind × ℕ} (Button, n) x = cc in
        subst (λ (z : PartKind × ℕ). (z.1 < 10 ^ 7) × (line ≡ part_word z)) same (keyed_number (codes "button ") n p)
    by None (Some n) p q h =
        let same : ◌≡◌ {A = PartKind × ℕ} (Field, n) x = cc in
        subst (λ (z : PartKind × ℕ). (z.1 < 10 ^ 7) × (line ≡ part_word z)) same (keyed_number (codes "field ") n q)
    by None None p q h = absurd cc

number_behind : (key : List ℕ) (n : ℕ) → n < 10 ^ 7
    → option_and_then number_at (after_prefix key (key ++ decimal n)) ≡ Some n
number_behind key n lt =
    ap (λ (o : Option (List ℕ)). option_and_then number_at o) (after_prefix-again key (decimal n)) ∙ numbers.again n lt

part-again : (x : PartKind × ℕ) → x.1 < 10 ^ 7 → part_header (part_word x) ≡ Some x
part-again (Button, n) lt = ap (λ o. first_of o
    (option_and_then number_at (after_prefix (codes "field ") (codes "button " ++ decimal n))))
    (number_behind (codes "button ") n lt)
part-again (Field, n) lt = ap (λ o. first_of None o) (number_behind (codes "field ") n lt)

part-line : (x : PartKind × ℕ) → x.1 < 10 ^ 7 → has 10 (part_word x) ≡ false
part-line (Button, n) lt = has-append 10 (codes "button ") (decimal n) refl (numbers.line n lt)
part-line (Field, n) lt = has-append 10 (codes "field ") (decimal n) refl (numbers.line n lt)

pub part_headers : Spelled part_header (λ x. x.1 < 10 ^ 7) part_word
part_headers = record { found = part-found; again = part-again; line = part-line }
