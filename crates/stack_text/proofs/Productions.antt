-- Lines of a key and a value, and the headers of new objects, read and spelled.
use Rattle.std.proofs.Common.{◌≡◌, ℕ, ◌^◌, ◌<◌, ◌≤◌, Bool, true, false, eqb, ltb, leb, List, [], ◌∷◌, ◌++◌, length, Ok}
use Rattle.std.proofs.Common.{refl, sym, ap, arith, ◌||◌, codes, decimal, not, ltb-false, le-ltb}
use Rattle.std.proofs.lemmas.Bool.Decides.{nat_tests}
use Rattle.ht_values.specs.Text.{IsText}
use Rattle.stack_text.specs.Words.{number_at, spelled_flag}
use Rattle.stack_text.specs.Document.{contains_id}
use Rattle.stack_text.specs.Spelling.{name_line}
use Rattle.stack_text.specs.Reading.{Position, ◌>>=◌, give, too_many_if, bad_id_if, line_after, name_at, short_text}
use Rattle.stack_text.specs.Reading.{number_after, at_least, count_after, flag_at, flag_after, take_id, new_id}
use Rattle.stack_text.proofs.Forms.{Reads, both, after, gives, said, bad_id_if-reads, too_many_if-reads}
use Rattle.stack_text.proofs.Keyed.{has, keyed}
use Rattle.stack_text.proofs.Numbers.{numbers}
use Rattle.stack_text.proofs.Texts.{texts}
use Rattle.stack_text.proofs.Flags.{flags, least_numbers}

-- ---- lines

pub number_after-reads : (key : List ℕ) → has 10 key ≡ false
    → Reads (number_after key) (λ used n. n < 10 ^ 7) (λ n. (key ++ decimal n) ∷ []) (λ n. [])
unfolding number_after
number_after-reads key plain = keyed key number_at numbers plain

pub flag_after-reads : (key : List ℕ) → has 10 key ≡ false
    → Reads (flag_after key) (λ used b. Unit {0}) (λ b. (key ++ spelled_flag b) ∷ []) (λ b. [])
unfolding flag_after
flag_after-reads key plain = keyed key flag_at flags plain

pub name_at-reads : Reads name_at (λ used t. IsText t) (λ t. name_line t ∷ []) (λ t. [])
unfolding name_at
name_at-reads = keyed (codes "name |") short_text texts refl

pub count_after-reads : (key : List ℕ) (least most : ℕ) → has 10 key ≡ false → most < 10 ^ 7
    → Reads (count_after key least most) (λ used n. (least ≤ n) × (n ≤ most)) (λ n. (key ++ decimal n) ∷ []) (λ n. [])
unfolding count_after
count_after-reads key least most plain small =
    said (both (line_after key (at_least least)) (λ n. too_many_if (ltb most n) >>= λ few. give n)
    (keyed key (at_least least) (least_numbers least) plain)
    (λ n. after (too_many_if (ltb most n)) (λ few. give n) (too_many_if-reads (ltb most n)) (gives n)) (λ n. n)
    (λ n used y h. h.1))
    (λ used n h. (h.0.1, ltb-false _ _ h.1.0))
    (λ used n h. ((omega arith, h.0), (le-ltb _ _ h.1, refl)))

-- ---- ids

-- the id is that of one more object
pub record IsNew (next : ℕ) (used : List ℕ) (id : ℕ) : Type 0 where
  pub room : length used < 10000
  pub some : 0 < id
  pub below : id < next
  pub new : contains_id id used ≡ false

take_id-reads : (id : ℕ) → Reads (take_id id) (λ used x. Unit {0}) (λ x. []) (λ x. id ∷ [])
take_id-reads id = record {
  found = λ s t x e.
      let p : record s { used = s.used ++ id ∷ [] } ≡ t = took s t x e in
      (tt, record { bytes = ap (λ (z : Position). z.bytes) p; used = ap (λ (z : Position). z.used) (sym p) });
  again = λ n used rest x h. refl;
}
  where
    took : (s t : Position) (x : Unit {0}) → take_id id s ≡ Ok (x, t) → record s { used = s.used ++ id ∷ [] } ≡ t
    took s t x e =
        let p : ◌≡◌ {A = Unit {0} × Position} (tt, record s { used = s.used ++ id ∷ [] }) (x, t) = cc in
        ap (λ (z : Unit {0} × Position). z.1) p

-- the tests of a header, and their meaning
header_tests : (full wrong : Bool) (id : ℕ)
    → Reads (too_many_if full >>= λ few. bad_id_if wrong >>= λ done. take_id id)
    (λ used x. (full ≡ false) × ((wrong ≡ false) × Unit {0})) (λ x. []) (λ x. id ∷ [])
header_tests full wrong id =
    after (too_many_if full) (λ few. bad_id_if wrong >>= λ done. take_id id) (too_many_if-reads full)
    (after (bad_id_if wrong) (λ done. take_id id) (bad_id_if-reads wrong) (take_id-reads id))

new-found : (next id n : ℕ) (right known : Bool) → leb 10000 n ≡ false
    → (not right || (eqb id 0 || (leb next id || known))) ≡ false
    → (n < 10000) × (0 < id) × (id < next) × (known ≡ false) × (right ≡ true)
new-found next id n true true full wrong = absurd (grind (arith, nat_tests))
new-found next id n true false full wrong =
    (grind (arith, nat_tests), grind (arith, nat_tests), grind (arith, nat_tests), refl, refl)
new-found next id n false known full wrong = absurd cc

room-again : (n : ℕ) → n < 10000 → leb 10000 n ≡ false
room-again n lt = grind (arith, nat_tests)

new-again : (next id : ℕ) → 0 < id → id < next → (not true || (eqb id 0 || (leb next id || false))) ≡ false
new-again next id some below = grind (arith, nat_tests)

pub new_id-reads : (next id : ℕ) (right : Bool)
    → Reads (new_id next id right) (λ used x. IsNew next used id × (right ≡ true)) (λ x. []) (λ x. id ∷ [])
unfolding new_id
new_id-reads next id right = record {
  found = λ s t x e.
      let p = (header_tests (leb 10000 (length s.used))
      (not right || (eqb id 0 || (leb next id || contains_id id s.used))) id).found s t x e in
      let q = new-found next id (length s.used) right (contains_id id s.used) p.0.0 p.0.1.0 in
      ((record { room = q.0; some = q.1; below = q.2; new = q.3 }, q.4), p.1);
  again = λ n used rest x h.
      let full = room-again (length used) h.0.room in
      let wrong : (not right || (eqb id 0 || (leb next id || contains_id id used))) ≡ false =
      rw (h.1, h.0.new) (new-again next id h.0.some h.0.below) in
      (header_tests (leb 10000 (length used)) (not right || (eqb id 0 || (leb next id || contains_id id used)))
      id).again n used rest x (full, (wrong, tt));
}
