-- The first fault of a file is that of its line, and each proper prefix of a text is truncated.
use Rattle.std.proofs.Common.{◌≡◌, ℕ, zero, suc, ◌+◌, ◌-◌, ◌<◌, Bool, true, false, cond, eqb, List, [], ◌∷◌, ◌++◌}
use Rattle.std.proofs.Common.{length, take, drop, Result, Ok, Err, refl, sym, ap, subst, ◌∙◌, arith, append_assoc}
use Rattle.std.proofs.Common.{zero-add, take-append-drop, length-drop}
use Rattle.std.proofs.lemmas.Bool.Decides.{nat_tests}
use Rattle.object_table.specs.Content.{Content}
use Rattle.stack_text.specs.Document.{Sheet, Document}
use Rattle.stack_text.specs.Reading.{Position, Reader, chain, ◌>>=◌, give, nothing_left, end_at, body_at, all_lines}
use Rattle.stack_text.specs.Reading.{document_at, value_of, read_as}
use Rattle.stack_text.specs.Listing.{content_of}
use Rattle.stack_text.specs.Laws.{stack_in, first_lines, MayBeAt, FaultIsOfItsLine, PrefixIsTruncated, MoreIsBadLine}
use Rattle.stack_text.specs.declared.fault.FileError.{FileError}
use Rattle.stack_text.specs.declared.fault.FileError.TheVariants.{Truncated, BadLine}
use Rattle.stack_text.proofs.Laws.{stack_again}
use Rattle.stack_text.proofs.Forms.{chain_ok}
use Rattle.stack_text.proofs.Fronts.{over, Failed, IsLocal, failed_by, bad_id_if-local}
use Rattle.stack_text.proofs.LocalForms.{line_after-local, exactly-local, stack-local, backgrounds-local, cards-local}

-- A reader that reads all bytes: one byte more is a bad line.
pub record Closes {A : Type 0} (r : Reader A) : Type 0 where
  pub more : (s t : Position) (x : A) → r s ≡ Ok (x, t) → (b : ℕ) (behind : List ℕ)
      → r (over s (s.bytes ++ b ∷ behind)) ≡ Err (BadLine (t.number + 1))
  pub failed : (s : Position) (f : FileError) → r s ≡ Err f → ¬ (f ≡ Truncated)
      → Failed s (λ b. r (over s b)) f (λ o. ¬ (o ≡ Err f))

-- a local reader, and then one that reads all
closes : {A B : Type 0} {r : Reader A} {f : A → Reader B} → IsLocal r → ((x : A) → Closes (f x)) → Closes (r >>= f)
closes {A} {B} {r} {f} one all = record {
  more = λ s u y e b behind.
      let c = chain_ok (r s) f y u e in
      let is = (one.from s).taken c.0 c.1 c.2 in
      ap (λ (z : List ℕ). (r >>= f) (over s (z ++ b ∷ behind))) is.bytes
      ∙ ap (λ (z : List ℕ). (r >>= f) (over s z)) (append_assoc is.front c.1.bytes (b ∷ behind))
      ∙ ap (λ (o : Result (A × Position) FileError). chain o f) (is.always (c.1.bytes ++ b ∷ behind))
      ∙ (all c.0).more c.1 u y c.3 b behind;
  failed = λ s e is not. failed_by s (λ b. r (over s b)) f (one.from s) e (λ o. ¬ (o ≡ Err e))
      (λ h. let k : Truncated ≡ e = cc in not (sym k)) (r s) refl is not (λ x t h. (all x).failed t e h not);
}

-- and a value for it
closes_gives : {A B : Type 0} {r : Reader A} (y : B) → Closes r → Closes (r >>= λ x. give y)
closes_gives {A} {B} {r} y all = record {
  more = λ s u z e b behind.
      let c = chain_ok (r s) (λ x. give y) z u e in
      let same : ◌≡◌ {A = B × Position} (y, c.1) (z, u) = let h = c.3 in cc in
      ap (λ (o : Result (A × Position) FileError). chain o (λ x. give y)) (all.more s c.1 c.0 c.2 b behind)
      ∙ ap (λ (p : B × Position). Err (BadLine (p.1.number + 1))) same;
  failed = λ s e is not.
      let h = all.failed s e (was (r s) e is) not in
      record {
        lines = h.lines;
        line = h.line;
        always = λ more. ap (λ (o : Result (A × Position) FileError). chain o (λ x. give y)) (h.always more);
        cut = λ k lt g. h.cut k lt (was _ e g);
      };
}
  where
    was : (o : Result (A × Position) FileError) (e : FileError)
        → ◌≡◌ {A = Result (B × Position) FileError} (chain o (λ x. give y)) (Err e) → o ≡ Err e
    was (Ok p) e h = absurd cc
    was (Err d) e h = let same : d ≡ e = cc in ap Err same

some_left : (s : Position) (b : ℕ) (bytes : List ℕ) → nothing_left (over s (b ∷ bytes)) ≡ Err (BadLine (s.number + 1))
some_left s b bytes = let some : eqb (length (b ∷ bytes)) 0 ≡ false = grind (arith, nat_tests) in rw some refl

nothing_left-closes : Closes nothing_left
nothing_left-closes =
    record { more = λ s t x e b behind. at_end s t x s.bytes e b behind; failed = λ s f e not. past_end s f s.bytes e }
  where
    at_end : (s t : Position) (x : Unit {0}) (bytes : List ℕ) → nothing_left (over s bytes) ≡ Ok (x, t)
        → (b : ℕ) (behind : List ℕ) → nothing_left (over s (bytes ++ b ∷ behind)) ≡ Err (BadLine (t.number + 1))
    at_end s t x [] e b behind = let same : ◌≡◌ {A = Unit {0} × Position} (tt, over s []) (x, t) = cc in some_left s b
        behind ∙ ap (λ (p : Unit {0} × Position). Err (BadLine (p.1.number + 1))) same
    at_end s t x (c ∷ bytes) e b behind = absurd (let no = sym (some_left s c bytes) ∙ e in cc)

    none_before : (s : Position) (f : FileError) (bytes : List ℕ) (k : ℕ) → k < 1
        → ¬ (nothing_left (over s (first_lines k bytes)) ≡ Err f)
    none_before s f bytes zero lt h = absurd cc
    none_before s f bytes (suc k) lt h = absurd (omega (arith, lt))

    past_end : (s : Position) (f : FileError) (bytes : List ℕ) → nothing_left (over s bytes) ≡ Err f
        → Failed (over s bytes) (λ b. nothing_left (over s b)) f (λ o. ¬ (o ≡ Err f))
    past_end s f [] e = absurd cc
    past_end s f (c ∷ bytes) e =
        let same : ◌≡◌ {A = Result (Unit {0} × Position) FileError} (Err (BadLine (s.number + 1))) (Err f) =
        sym (some_left s c bytes) ∙ e in
        let is : BadLine (s.number + 1) ≡ f = cc in
        record {
          lines = 1;
          line = subst (λ (g : FileError). MayBeAt g (s.number + 1)) is refl;
          always = λ more. some_left s c (cond (eqb c 10) (first_lines 0 bytes) (first_lines 1 bytes) ++ more) ∙ same;
          cut = λ k lt h. none_before s f (c ∷ bytes) k lt h;
        }

end-closes : (bs cs : List Sheet) → Closes (end_at bs cs)
unfolding end_at
end-closes bs cs = closes (exactly-local _) (λ done. closes (bad_id_if-local _) (λ each. nothing_left-closes))

all-closes : Closes all_lines
unfolding all_lines body_at
all-closes =
    search (closes, closes_gives, end-closes, line_after-local, stack-local, backgrounds-local, cards-local) depth 16

-- ---- the laws

start : List ℕ → Position
start bytes = record { bytes = bytes; number = 0; used = [] }

seen : Result (Document × Position) FileError → Result Content FileError
seen o = read_as content_of (value_of o)

stack_seen : (bytes : List ℕ) → stack_in bytes ≡ seen (all_lines (start bytes))
unfolding document_at start seen
stack_seen bytes = refl

fault_seen : (o : Result (Document × Position) FileError) (f : FileError) → seen o ≡ Err f → o ≡ Err f
unfolding seen
fault_seen (Ok p) f e = absurd cc
fault_seen (Err d) f e = let same : d ≡ f = cc in ap Err same

seen_fault : (bytes : List ℕ) (f : FileError) → all_lines (start bytes) ≡ Err f → stack_in bytes ≡ Err f
unfolding seen
seen_fault bytes f e = stack_seen bytes ∙ ap seen e

pub fault_is_of_its_line : FaultIsOfItsLine
unfolding start
fault_is_of_its_line bytes f e not =
    let is = all-closes.failed (start bytes) f (fault_seen (all_lines (start bytes)) f (sym (stack_seen bytes) ∙ e))
    not in (
      is.lines,
      record {
        line = subst (MayBeAt f) (zero-add is.lines) is.line;
        always = λ behind. seen_fault (first_lines is.lines bytes ++ behind) f (is.always behind);
        first = λ k lt h. is.cut k lt (fault_seen (all_lines (start (first_lines k bytes))) f
            (sym (stack_seen (first_lines k bytes)) ∙ h));
      },
    )

-- what stands behind the first lines
behind_lines : (n : ℕ) (bytes : List ℕ) → (rest : List ℕ) × (bytes ≡ first_lines n bytes ++ rest)
behind_lines zero bytes = (bytes, refl)
behind_lines (suc n) [] = ([], refl)
behind_lines (suc n) (b ∷ bytes) = by (eqb b 10) (behind_lines n bytes) (behind_lines (suc n) bytes)
  where
    by : (t : Bool) → (rest : List ℕ) × (bytes ≡ first_lines n bytes ++ rest)
        → (rest : List ℕ) × (bytes ≡ first_lines (suc n) bytes ++ rest)
        → (rest : List ℕ) × (b ∷ bytes ≡ b ∷ cond t (first_lines n bytes) (first_lines (suc n) bytes) ++ rest)
    by true p q = (p.0, ap (λ (l : List ℕ). b ∷ l) p.1)
    by false p q = (q.0, ap (λ (l : List ℕ). b ∷ l) q.1)

-- a fault stays whatever stands behind the bytes
fault_stays : (bytes behind : List ℕ) (f : FileError) → stack_in bytes ≡ Err f → ¬ (f ≡ Truncated)
    → stack_in (bytes ++ behind) ≡ Err f
fault_stays bytes behind f e not =
    let is = fault_is_of_its_line bytes f e not in
    let rest = behind_lines is.0 bytes in
    ap (λ (b : List ℕ). stack_in (b ++ behind)) rest.1
    ∙ ap stack_in (append_assoc (first_lines is.0 bytes) rest.0 behind)
    ∙ is.1.always (rest.0 ++ behind)

-- a text with more behind it has a bad line
more_than_text : (bytes : List ℕ) (s : Content) → stack_in bytes ≡ Ok s → (b : ℕ) (behind : List ℕ)
    → (n : ℕ) × (stack_in (bytes ++ b ∷ behind) ≡ Err (BadLine n))
unfolding seen start
more_than_text bytes s e b behind = by (all_lines (start bytes)) refl (sym (stack_seen bytes) ∙ e)
  where
    by : (o : Result (Document × Position) FileError) → all_lines (start bytes) ≡ o → seen o ≡ Ok s
        → (n : ℕ) × (stack_in (bytes ++ b ∷ behind) ≡ Err (BadLine n))
    by (Ok p) is k = (
      p.1.number + 1,
      seen_fault (bytes ++ b ∷ behind) (BadLine (p.1.number + 1))
          (all-closes.more (start bytes) p.1 p.0 is b behind),
    )
    by (Err f) is k = absurd cc

pub more_is_bad_line : MoreIsBadLine
more_is_bad_line bytes s is = more_than_text bytes s (stack_again bytes s is)

-- what is neither a text nor at fault within its lines is truncated
cut_text : (bytes : List ℕ) (b : ℕ) (behind : List ℕ) (t : Content) → stack_in (bytes ++ b ∷ behind) ≡ Ok t
    → (o : Result Content FileError) → stack_in bytes ≡ o → o ≡ Err Truncated
cut_text bytes b behind t whole (Ok s) e =
    absurd (let more = more_than_text bytes s e b behind in let no = sym whole ∙ more.1 in cc)
cut_text bytes b behind t whole (Err Truncated) e = refl
cut_text bytes b behind t whole (Err f) e =
    absurd (let no = sym whole ∙ fault_stays bytes (b ∷ behind) f e (λ h. absurd cc) in cc)

pub prefix_is_truncated : PrefixIsTruncated
prefix_is_truncated bytes s is k lt = by (drop k bytes) (take-append-drop k bytes) (length-drop k bytes)
  where
    by : (rest : List ℕ) → take k bytes ++ rest ≡ bytes → length rest ≡ length bytes - k
        → stack_in (take k bytes) ≡ Err Truncated
    by [] whole len = absurd (omega (arith, lt, len))
    by (b ∷ behind) whole len =
        cut_text (take k bytes) b behind s (ap stack_in whole ∙ stack_again bytes s is) (stack_in (take k bytes)) refl
