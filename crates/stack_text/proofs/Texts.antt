-- Texts and their one spelling.
use Rattle.std.proofs.Common.{◌≡◌, ◌≢◌, All, ℕ, zero, suc, ◌+◌, ◌-◌, ◌*◌, ◌/◌, ◌%◌, ◌<◌, ◌≤◌, Bool, true, false, cond}
use Rattle.std.proofs.Common.{eqb, ltb, leb, List, [], ◌∷◌, ◌++◌, length, Option, Some, None, refl, sym, ap, subst, ◌∙◌}
use Rattle.std.proofs.Common.{arith, ◌&&◌, append_assoc, add-one, ◌==◌, option_map, unwrap_or, length-append}
use Rattle.std.specs.List.{AllByRecursion}
use Rattle.std.proofs.lemmas.Bool.Decides.{nat_tests}
use Rattle.std.proofs.lemmas.Bool.{lt-ltb, le-ltb, ltb-false, eqb-true, agree_below_at, leb-true, false≢true}
use Rattle.std.proofs.lemmas.Option.{option_and_then_some}
use Rattle.std.proofs.lemmas.List.Elements.{All-from_recursion, recursion_from_All}
use Rattle.ht_values.specs.Text.{IsText}
use Rattle.stack_text.specs.Words.{hex_digit, hex_value, is_plain, escape_of, spelled_byte, spelled, char_at}
use Rattle.stack_text.specs.Words.{unspelled_within, unspelled}
use Rattle.stack_text.specs.Reading.{short_text}
use Rattle.stack_text.proofs.Keyed.{has, has-append, Spelled, then_given, else_given, same_value}

-- ---- digits

digit-found : (c h : ℕ) → hex_value c ≡ Some h → (h < 16) × (hex_digit h ≡ c)
digit-found c h e = by (leb 48 c && leb c 57) (leb 97 c && leb c 102) refl refl e
  where
    by : (a b : Bool) → (leb 48 c && leb c 57) ≡ a → (leb 97 c && leb c 102) ≡ b
        → cond a (Some (c - 48)) (cond b (Some (c - 87)) None) ≡ Some h → (h < 16) × (hex_digit h ≡ c)
    by true b p q is =
        let n : c - 48 ≡ h = cc in
        let low : 48 ≤ c = grind (arith, nat_tests) in
        let high : c ≤ 57 = grind (arith, nat_tests) in
        let ten : h < 10 = omega arith in
        (omega arith, rw (lt-ltb h 10 ten) (omega arith))
    by false true p q is =
        let n : c - 87 ≡ h = cc in
        let low : 97 ≤ c = grind (arith, nat_tests) in
        let high : c ≤ 102 = grind (arith, nat_tests) in
        let ten : 10 ≤ h = omega arith in
        (omega arith, rw (le-ltb h 10 ten) (omega arith))
    by false false p q is = absurd cc

same_some : (o : Option ℕ) (h : ℕ) → unwrap_or (option_map (λ n. n == h) o) false ≡ true → o ≡ Some h
same_some None h e = absurd (false≢true e)
same_some (Some n) h e = ap Some (eqb-true n h e)

digit-again : (h : ℕ) → h < 16 → hex_value (hex_digit h) ≡ Some h
digit-again h lt = same_some (hex_value (hex_digit h)) h
    (agree_below_at (λ d. unwrap_or (option_map (λ n. n == d) (hex_value (hex_digit d))) false) (λ d. true) 16 h refl
    lt)

-- a digit is no control byte
digit-above : (h : ℕ) → h < 16 → 48 ≤ hex_digit h
digit-above h lt = leb-true 48 (hex_digit h) (agree_below_at (λ d. leb 48 (hex_digit d)) (λ d. true) 16 h refl lt)

-- ---- bytes

pub spelled-plain : (b : ℕ) → is_plain b ≡ true → spelled_byte b ≡ b ∷ []
spelled-plain b e = rw e refl

spelled-escaped : (b : ℕ) → is_plain b ≡ false → spelled_byte b ≡ 92 ∷ hex_digit (b / 16) ∷ hex_digit (b % 16) ∷ []
spelled-escaped b e = rw e refl

plain-low : (b : ℕ) → is_plain b ≡ true → 32 ≤ b
plain-low b e = grind (arith, nat_tests)

plain-high : (b : ℕ) → is_plain b ≡ true → b ≤ 126
plain-high b e = grind (arith, nat_tests)

escape-found : (o p : Option ℕ) (b : ℕ) → escape_of o p ≡ Some b
    → (h : ℕ) × (l : ℕ) × (o ≡ Some h) × (p ≡ Some l) × (is_plain b ≡ false) × (b ≡ h * 16 + l)
escape-found None p b e = absurd cc
escape-found (Some h) None b e = absurd cc
escape-found (Some h) (Some l) b e =
    let p = else_given (is_plain (h * 16 + l)) (Some (h * 16 + l)) b e in
    let same = same_value (h * 16 + l) b p.1 in
    (h, l, refl, refl, rw (← same) p.0, sym same)

-- a byte, and what is left
abbrev Char : Type 0
Char = ℕ × List ℕ

abbrev char : ℕ → List ℕ → Option Char
char b rest = Some (b, rest)

abbrev before : List ℕ → Option ℕ → Option Char
before rest o = option_map {U = Char} (λ b. (b, rest)) o

one_char : (x : ℕ) (after : List ℕ) (b : ℕ) (rest : List ℕ) → is_plain x ≡ true → char x after ≡ char b rest
    → (b < 256) × (x ∷ after ≡ spelled_byte b ++ rest)
one_char x after b rest plain e =
    let p : ◌≡◌ {A = Char} (x, after) (b, rest) = cc in
    let is : x ≡ b = ap (λ (z : Char). z.0) p in
    let left : after ≡ rest = ap (λ (z : Char). z.1) p in
    let fits = plain-high x plain in
    (omega arith, rw (← is, spelled-plain x plain, left) refl)

escaped_char : (x c d : ℕ) (after : List ℕ) (b : ℕ) (rest : List ℕ) → (x == 92) ≡ true
    → before after (escape_of (hex_value c) (hex_value d)) ≡ char b rest
    → (b < 256) × (x ∷ c ∷ d ∷ after ≡ spelled_byte b ++ rest)
escaped_char x c d after b rest is e = by (escape_of (hex_value c) (hex_value d)) refl e
  where
    by : (o : Option ℕ) → escape_of (hex_value c) (hex_value d) ≡ o → before after o ≡ char b rest
        → (b < 256) × (x ∷ c ∷ d ∷ after ≡ spelled_byte b ++ rest)
    by None p h = absurd cc
    by (Some y) p h =
        let q : ◌≡◌ {A = Char} (y, after) (b, rest) = cc in
        let y-is : y ≡ b = ap (λ (z : Char). z.0) q in
        let left : after ≡ rest = ap (λ (z : Char). z.1) q in
        let f = escape-found (hex_value c) (hex_value d) y p in
        let high = digit-found c f.0 f.2 in
        let low = digit-found d f.1 f.3 in
        let high-is : b / 16 ≡ f.0 = omega (arith, f.5, high.0, low.0) in
        let low-is : b % 16 ≡ f.1 = omega (arith, f.5, high.0, low.0) in
        let back : x ≡ 92 = eqb-true x 92 is in (
          omega (arith, f.5, high.0, low.0),
          rw (spelled-escaped b (rw (← y-is) f.4), high-is, low-is, high.1, low.1, back, left) refl,
        )

char-found : (bytes : List ℕ) (b : ℕ) (rest : List ℕ) → char_at bytes ≡ Some (b, rest)
    → (b < 256) × (bytes ≡ spelled_byte b ++ rest)
char-found [] b rest e = absurd cc
char-found (x ∷ []) b rest e = let p = then_given (is_plain x) (char x []) (b, rest) e in one_char x [] b rest p.0 p.1
char-found (x ∷ c ∷ []) b rest e =
    let p = then_given (is_plain x) (char x (c ∷ [])) (b, rest) e in one_char x (c ∷ []) b rest p.0 p.1
char-found (x ∷ c ∷ d ∷ after) b rest e = by (is_plain x) (eqb x 92) refl refl e
  where
    by : (t u : Bool) → is_plain x ≡ t → eqb x 92 ≡ u
        → cond t (char x (c ∷ d ∷ after)) (cond u (before after (escape_of (hex_value c) (hex_value d))) None)
        ≡ char b rest
        → (b < 256) × (x ∷ c ∷ d ∷ after ≡ spelled_byte b ++ rest)
    by true u t is h = one_char x (c ∷ d ∷ after) b rest t h
    by false true t is h = escaped_char x c d after b rest is h
    by false false t is h = absurd cc

pub plain_char : (b : ℕ) (rest : List ℕ) → is_plain b ≡ true → char_at (b ∷ rest) ≡ Some (b, rest)
plain_char b [] e = rw e refl
plain_char b (c ∷ []) e = rw e refl
plain_char b (c ∷ d ∷ rest) e = rw e refl

char-again : (b : ℕ) (rest : List ℕ) → b < 256 → char_at (spelled_byte b ++ rest) ≡ Some (b, rest)
char-again b rest fits = by (is_plain b) refl
  where
    by : (t : Bool) → is_plain b ≡ t → char_at (spelled_byte b ++ rest) ≡ Some (b, rest)
    by true t = ap (λ (w : List ℕ). char_at (w ++ rest)) (spelled-plain b t) ∙ plain_char b rest t
    by false t =
        let high = digit-again (b / 16) (omega arith) in
        let low = digit-again (b % 16) (omega arith) in
        let whole : b / 16 * 16 + b % 16 ≡ b = omega arith in
        ap (λ (w : List ℕ). char_at (w ++ rest)) (spelled-escaped b t) ∙ rw (high, low, whole, t) refl

byte-line : (b : ℕ) → b < 256 → has 10 (spelled_byte b) ≡ false
byte-line b fits = by (is_plain b) refl
  where
    by : (t : Bool) → is_plain b ≡ t → has 10 (spelled_byte b) ≡ false
    by true t =
        let low = plain-low b t in
        let no : eqb b 10 ≡ false = grind (arith, nat_tests) in
        rw (spelled-plain b t, no) refl
    by false t =
        let high = digit-above (b / 16) (omega arith) in
        let low = digit-above (b % 16) (omega arith) in
        let no : eqb (hex_digit (b / 16)) 10 ≡ false = apart _ 10 (omega (arith, high)) in
        let nor : eqb (hex_digit (b % 16)) 10 ≡ false = apart _ 10 (omega (arith, low)) in
        ap (has 10) (spelled-escaped b t) ∙ rw (no, nor) refl
      where
        apart : (x y : ℕ) → y < x → eqb x y ≡ false
        apart x y lt = grind (arith, nat_tests)

-- ---- texts

pub unspelled-nil : (n : ℕ) (rest : List ℕ) → length rest ≡ 0 → unspelled_within n rest ≡ Some []
unfolding unspelled_within
unspelled-nil zero [] e = refl
unspelled-nil (suc n) [] e = refl
unspelled-nil n (b ∷ bs) e = absurd (omega arith)

pub unspelled-bad : (n : ℕ) (rest : List ℕ) → 0 < length rest → char_at rest ≡ None → unspelled_within n rest ≡ None
unfolding unspelled_within
unspelled-bad n [] some e = absurd (omega arith)
unspelled-bad zero (b ∷ bs) some e = refl
unspelled-bad (suc n) (b ∷ bs) some e = rw e refl

step : (m : ℕ) (rest : List ℕ) (b : ℕ) (after : List ℕ) → 0 < length rest → char_at rest ≡ Some (b, after)
    → unspelled_within (suc m) rest ≡ option_map (λ t. b ∷ t) (unspelled_within m after)
unfolding unspelled_within
step m [] b after some e = absurd (omega arith)
step m (x ∷ xs) b after some e = rw e refl

pub unspelled-step : (n m : ℕ) (rest : List ℕ) (b : ℕ) (after : List ℕ) → n ≡ m + 1 → 0 < length rest
    → char_at rest ≡ Some (b, after) → unspelled_within n rest ≡ option_map (λ t. b ∷ t) (unspelled_within m after)
unspelled-step n m [] b after is some e = absurd (omega arith)
unspelled-step n m (x ∷ xs) b after is some e = rw (is, add-one) (step m (x ∷ xs) b after some e)

pub onto-text : (text : List ℕ) (b : ℕ) (x : Option (List ℕ))
    → option_map (λ t. (text ++ b ∷ []) ++ t) x ≡ option_map (λ t. text ++ t) (option_map (λ t. b ∷ t) x)
onto-text text b None = refl
onto-text text b (Some t) = ap Some (append_assoc text (b ∷ []) t)

pub text-found : (n : ℕ) (bytes t : List ℕ) → unspelled_within n bytes ≡ Some t
    → AllByRecursion (λ b. b < 256) t × (bytes ≡ spelled t)
unfolding unspelled_within
text-found n [] t e =
    let p : [] ≡ t = cc in subst (λ (x : List ℕ). AllByRecursion (λ b. b < 256) x × ([] ≡ spelled x)) p (tt, refl)
text-found zero (b ∷ bs) t e = absurd cc
text-found (suc n) (b ∷ bs) t e =
    option_and_then_some (λ x. option_map (λ r. x.0 ∷ r) (unspelled_within n x.1)) (char_at (b ∷ bs)) t e (λ x is more.
    let c = char-found (b ∷ bs) x.0 x.1 is in
    by x.0 x.1 (unspelled_within n x.1) refl more c (λ r h. text-found n x.1 r h))
  where
    by : (y : ℕ) (left : List ℕ) (o : Option (List ℕ)) → unspelled_within n left ≡ o
        → option_map (λ r. y ∷ r) o ≡ Some t → (y < 256) × (b ∷ bs ≡ spelled_byte y ++ left)
        → ((r : List ℕ) → unspelled_within n left ≡ Some r → AllByRecursion (λ z. z < 256) r × (left ≡ spelled r))
        → AllByRecursion (λ z. z < 256) t × (b ∷ bs ≡ spelled t)
    by y left None p h c others = absurd cc
    by y left (Some r) p h c others =
        let q : y ∷ r ≡ t = cc in
        let o = others r p in
        subst (λ (x : List ℕ). AllByRecursion (λ z. z < 256) x × (b ∷ bs ≡ spelled x)) q
        ((c.0, o.0), c.1 ∙ ap (λ (w : List ℕ). spelled_byte y ++ w) o.1)

-- a spelling has at least one byte for each
spelled_byte-some : (b : ℕ) → 0 < length (spelled_byte b)
spelled_byte-some b = by (is_plain b) refl
  where
    by : (t : Bool) → is_plain b ≡ t → 0 < length (spelled_byte b)
    by true t = rw (spelled-plain b t) (omega arith)
    by false t = subst (λ (w : List ℕ). 0 < length w) (sym (spelled-escaped b t)) (omega arith)

starts : (bytes : List ℕ) (b : ℕ) (rest : List ℕ) → char_at bytes ≡ char b rest → 0 < length bytes
starts [] b rest e = absurd cc
starts (x ∷ xs) b rest e = omega arith

pub text-again : (t : List ℕ) (n : ℕ) → AllByRecursion (λ b. b < 256) t → length (spelled t) ≤ n
    → unspelled_within n (spelled t) ≡ Some t
text-again [] n fits room = unspelled-nil n [] refl
text-again (b ∷ t) zero fits room =
    absurd (omega (arith, spelled_byte-some b, length-append (spelled_byte b) (spelled t)))
text-again (b ∷ t) (suc n) fits room =
    let c = char-again b (spelled t) fits.0 in
    let some = starts (spelled_byte b ++ spelled t) b (spelled t) c in
    let fewer : length (spelled t) ≤ n =
    omega (arith, spelled_byte-some b, length-append (spelled_byte b) (spelled t)) in
    unspelled-step (suc n) n (spelled_byte b ++ spelled t) b (spelled t) (omega arith) some c
    ∙ rw (text-again t n fits.1 fewer) refl

spelled-line : (t : List ℕ) → AllByRecursion (λ b. b < 256) t → has 10 (spelled t) ≡ false
spelled-line [] fits = refl
spelled-line (b ∷ t) fits = has-append 10 (spelled_byte b) (spelled t) (byte-line b fits.0) (spelled-line t fits.1)

short-found : (word t : List ℕ) → short_text word ≡ Some t → IsText t × (word ≡ spelled t)
short-found word t e =
    option_and_then_some (λ x. cond (ltb 30000 (length x)) None (Some x)) (unspelled word) t e (λ x is short.
    let p = else_given (ltb 30000 (length x)) (Some x) t short in
    let f = text-found (length word) word x is in
    subst (λ (y : List ℕ). IsText y × (word ≡ spelled y)) (same_value x t p.1)
    (record { short = ltb-false _ _ p.0; bytes = All-from_recursion (λ y. y < 256) x f.0 }, f.1))

text-bytes : (t : List ℕ) → IsText t → AllByRecursion (λ b. b < 256) t
text-bytes t h = recursion_from_All (λ b. b < 256) t h.bytes

short-again : (t : List ℕ) → IsText t → short_text (spelled t) ≡ Some t
short-again t h =
    let short : length t ≤ 30000 = h.short in
    rw (text-again t (length (spelled t)) (text-bytes t h) (omega arith), le-ltb _ _ short) refl

-- the texts, each in its one spelling
pub texts : Spelled short_text IsText spelled
texts = record { found = short-found; again = short-again; line = λ t h. spelled-line t (text-bytes t h) }

-- the same, of any length
pub long_texts : Spelled unspelled (λ t. AllByRecursion (λ b. b < 256) t) spelled
long_texts = record {
  found = λ word t e. text-found (length word) word t e;
  again = λ t h. text-again t
      (length (spelled t)) h (omega arith);
  line = spelled-line;
}

-- bytes that are read as no text spell none
pub no_text : (bytes : List ℕ) → unspelled bytes ≡ None → (t : List ℕ) → All (λ b. b < 256) t → bytes ≢ spelled t
no_text bytes none t fits is =
    let again : unspelled bytes ≡ Some t =
    ap unspelled is ∙ text-again t (length (spelled t)) (recursion_from_All (λ b. b < 256) t fits) (omega arith) in
    cc
