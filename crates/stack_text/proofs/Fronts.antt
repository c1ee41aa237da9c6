-- What a reader does with the first lines of its bytes: it reads them so whatever stands behind, and fewer are
-- truncated.
use Rattle.std.proofs.Common.{◌≡◌, ℕ, zero, suc, ◌+◌, ◌-◌, ◌<◌, ◌≤◌, ◌⊎◌, inl, inr, Bool, true, false, eqb, List, []}
use Rattle.std.proofs.Common.{◌∷◌, ◌++◌, Result, Ok, Err, Option, Some, None, refl, sym, ap, subst, ◌∙◌, arith}
use Rattle.std.proofs.Common.{append_assoc, add_assoc, add-zero, zero-add, one-add, position, ◌==◌}
use Rattle.std.proofs.lemmas.Bool.{cases_lt, or_parts}
use Rattle.stack_text.specs.Reading.{Position, Reader, chain, ◌>>=◌, give, times, for_each, or_bad_line, bad_line_if}
use Rattle.stack_text.specs.Reading.{too_many_if, bad_id_if, cut_at, next_line}
use Rattle.stack_text.specs.Laws.{first_lines, MayBeAt}
use Rattle.stack_text.specs.declared.fault.FileError.{FileError}
use Rattle.stack_text.specs.declared.fault.FileError.TheVariants.{Truncated, BadLine, TooMany, BadId}
use Rattle.stack_text.proofs.Forms.{position_at, chain_ok}
use Rattle.stack_text.proofs.Keyed.{has, next_line-found, next_line-again}

-- the same position before other bytes
abbrev pub over : Position → List ℕ → Position
over s bytes = record s { bytes = bytes }

-- a reading of bytes from a position on
abbrev pub From : Type 0 → Type 0
From A = List ℕ → Result (A × Position) FileError

-- The reading took these lines, and fewer are truncated.
pub record Taken {A : Type 0} (s : Position) (r : From A) (x : A) (t : Position) : Type 0 where
  pub lines : ℕ
  pub front : List ℕ
  pub bytes : s.bytes ≡ front ++ t.bytes
  pub number : t.number ≡ s.number + lines
  pub counted : (k : ℕ) (more : List ℕ) → first_lines (lines + k) (front ++ more) ≡ front ++ first_lines k more
  pub always : (more : List ℕ) → r (front ++ more) ≡ Ok (x, over t more)
  pub cut : (k : ℕ) (more : List ℕ) → k < lines → r (first_lines k (front ++ more)) ≡ Err Truncated

-- The reading fails at the last of these lines, and of fewer lines this holds.
pub record Failed {A : Type 0} (s : Position) (r : From A) (f : FileError)
    (Fewer : Result (A × Position) FileError → Type 0) : Type 0 where
  pub lines : ℕ
  pub line : MayBeAt f (s.number + lines)
  pub always : (more : List ℕ) → r (first_lines lines s.bytes ++ more) ≡ Err f
  pub cut : (k : ℕ) → k < lines → Fewer (r (first_lines k s.bytes))

abbrev pub IsTruncated : {A : Type 0} → Result (A × Position) FileError → Type 0
IsTruncated o = o ≡ Err Truncated

-- what is taken and what fails, both so
pub record Local {A : Type 0} (s : Position) (r : From A) : Type 0 where
  pub taken : (x : A) (t : Position) → r s.bytes ≡ Ok (x, t) → Taken s r x t
  pub failed : (f : FileError) → r s.bytes ≡ Err f → ¬ (f ≡ Truncated) → Failed s r f IsTruncated

-- the reader is so from each position on
pub record IsLocal {A : Type 0} (r : Reader A) : Type 0 where
  pub from : (s : Position) → Local s (λ b. r (over s b))

-- ---- one after another

split_at : (k n m : ℕ) → k < n + m → (k < n) ⊎ ((n + (k - n) ≡ k) × (k - n < m))
split_at k n m lt = by (cases_lt k n)
  where
    by : (k < n) ⊎ (n ≤ k) → (k < n) ⊎ ((n + (k - n) ≡ k) × (k - n < m))
    by (inl less) = inl less
    by (inr le) = inr (omega (arith, le), omega (arith, lt, le))

module _ {A B : Type 0} (s : Position) (r : From A) (f : A → Reader B) (first : Local s r) where
  abbrev Chained : From B
  Chained b = chain (r b) f

  -- what the first took, and what is read behind it
  behind : (x : A) (t : Position) (is : Taken s r x t) (more : List ℕ) → Chained (is.front ++ more) ≡ f x (over t more)
  behind x t is more = ap (λ (o : Result (A × Position) FileError). chain o f) (is.always more)

  cut_before : (x : A) (t : Position) (is : Taken s r x t) (k : ℕ) (more : List ℕ) → k < is.lines
      → Chained (first_lines k (is.front ++ more)) ≡ Err Truncated
  cut_before x t is k more lt = ap (λ (o : Result (A × Position) FileError). chain o f) (is.cut k more lt)

  -- so many lines more
  further : (x : A) (t : Position) (is : Taken s r x t) (k : ℕ) (more : List ℕ)
      → Chained (first_lines (is.lines + k) (is.front ++ more)) ≡ f x (over t (first_lines k more))
  further x t is k more = ap Chained (is.counted k more) ∙ behind x t is (first_lines k more)

  module _ (y : B) (u : Position) (x : A) (t : Position) (is : Taken s r x t)
      (others : Taken t (λ b. f x (over t b)) y u) where
    both_taken : Taken s Chained y u
    both_taken = record {
      lines = is.lines + others.lines;
      front = is.front ++ others.front;
      bytes = is.bytes ∙ ap (λ (b : List ℕ). is.front ++ b) others.bytes
          ∙ sym (append_assoc is.front others.front u.bytes);
      number = others.number ∙ ap (λ (n : ℕ). n + others.lines) is.number ∙ add_assoc s.number is.lines others.lines;
      counted = λ k more.
          ap (λ (n : ℕ). first_lines n ((is.front ++ others.front) ++ more)) (add_assoc is.lines others.lines k)
          ∙ ap (first_lines (is.lines + (others.lines + k))) (append_assoc is.front others.front more)
          ∙ is.counted (others.lines + k) (others.front ++ more)
          ∙ ap (λ (b : List ℕ). is.front ++ b) (others.counted k more)
          ∙ sym (append_assoc is.front others.front (first_lines k more));
      always = λ more. ap Chained (append_assoc is.front others.front more) ∙ behind x t is (others.front ++ more)
          ∙ others.always more;
      cut = λ k more lt. ap (λ (b : List ℕ). Chained (first_lines k b)) (append_assoc is.front others.front more)
          ∙ cut_by k more (split_at k is.lines others.lines lt);
    }
      where
        cut_by : (k : ℕ) (more : List ℕ)
            → (k < is.lines) ⊎ ((is.lines + (k - is.lines) ≡ k) × (k - is.lines < others.lines))
            → Chained (first_lines k (is.front ++ (others.front ++ more))) ≡ Err Truncated
        cut_by k more (inl lt) = cut_before x t is k (others.front ++ more) lt
        cut_by k more (inr h) =
            ap (λ (n : ℕ). Chained (first_lines n (is.front ++ (others.front ++ more)))) (sym h.0)
            ∙ further x t is (k - is.lines) (others.front ++ more)
            ∙ others.cut (k - is.lines) more h.1

  module _ (e : FileError) (Fewer : Result (B × Position) FileError → Type 0) (short : Fewer (Err Truncated)) where
    module _ (x : A) (t : Position) (is : Taken s r x t) (others : Failed t (λ b. f x (over t b)) e Fewer) where
      failed_behind : Failed s Chained e Fewer
      failed_behind = record {
        lines = is.lines + others.lines;
        line = subst (MayBeAt e) (ap (λ (n : ℕ). n + others.lines) is.number ∙ add_assoc s.number is.lines others.lines)
            others.line;
        always = λ more.
            ap (λ (b : List ℕ). Chained (first_lines (is.lines + others.lines) b ++ more)) is.bytes
            ∙ ap (λ (b : List ℕ). Chained (b ++ more)) (is.counted others.lines t.bytes)
            ∙ ap Chained (append_assoc is.front (first_lines others.lines t.bytes) more)
            ∙ behind x t is (first_lines others.lines t.bytes ++ more)
            ∙ others.always more;
        cut = λ k lt. subst (λ (b : List ℕ). Fewer (Chained (first_lines k b))) (sym is.bytes)
            (cut_by k (split_at k is.lines others.lines lt));
      }
        where
          cut_by : (k : ℕ) → (k < is.lines) ⊎ ((is.lines + (k - is.lines) ≡ k) × (k - is.lines < others.lines))
              → Fewer (Chained (first_lines k (is.front ++ t.bytes)))
          cut_by k (inl lt) = subst Fewer (sym (cut_before x t is k t.bytes lt)) short
          cut_by k (inr h) =
              subst (λ (n : ℕ). Fewer (Chained (first_lines n (is.front ++ t.bytes)))) h.0
              (subst Fewer (sym (further x t is (k - is.lines) t.bytes)) (others.cut (k - is.lines) h.1))

    failed_first : (d : FileError) → d ≡ e → Failed s r d IsTruncated → Failed s Chained e Fewer
    failed_first d same is = record {
      lines = is.lines;
      line = subst (λ (z : FileError). MayBeAt z (s.number + is.lines)) same is.line;
      always = λ more. ap (λ (o : Result (A × Position) FileError). chain o f) (is.always more) ∙ ap Err same;
      cut = λ k lt. subst Fewer (sym (ap (λ (o : Result (A × Position) FileError). chain o f) (is.cut k lt))) short;
    }

    pub failed_by : (o : Result (A × Position) FileError) → r s.bytes ≡ o → chain o f ≡ Err e → ¬ (e ≡ Truncated)
        → ((x : A) (t : Position) → f x t ≡ Err e → Failed t (λ b. f x (over t b)) e Fewer) → Failed s Chained e Fewer
    failed_by (Ok p) is h not others = failed_behind p.0 p.1 (first.taken p.0 p.1 is) (others p.0 p.1 h)
    failed_by (Err d) is h not others =
        let same : d ≡ e = cc in failed_first d same (first.failed d is (λ k. not (sym same ∙ k)))

-- a local reader and then another
pub then : {A B : Type 0} {r : Reader A} {f : A → Reader B} → IsLocal r → ((x : A) → IsLocal (f x)) → IsLocal (r >>= f)
then {A} {B} {r} {f} first others = record {
  from = λ s.
      let one = first.from s in
      record {
        taken = λ y u e.
            let c = chain_ok (r s) f y u e in
            both_taken s (λ b. r (over s b)) f one y u c.0 c.1 (one.taken c.0 c.1 c.2)
            (((others c.0).from c.1).taken y u c.3);
        failed = λ e is not. failed_by s (λ b. r (over s b)) f one e IsTruncated refl (r s) refl is not
            (λ x t h. ((others x).from t).failed e h not);
      };
}

-- ---- readers of no line

-- what is given without reading a line, perhaps with more ids used
pub stays : {A : Type 0} (x : A) (used : List ℕ → List ℕ) → IsLocal (λ s. Ok (x, record s { used = used s.used }))
stays {A} x used = record {
  from = λ s. record {
    taken = λ y t e.
        let p : ◌≡◌ {A = A × Position} (x, record s { used = used s.used }) (y, t) = cc in
        record {
          lines = 0;
          front = [];
          bytes = ap (λ (z : A × Position). z.1.bytes) p;
          number = ap (λ (z : A × Position). z.1.number) (sym p) ∙ sym (add-zero s.number);
          counted = λ k more. ap (λ (n : ℕ). first_lines n more) (zero-add k);
          always = λ more. ap (λ (z : A × Position). Ok (z.0, over z.1 more)) p;
          cut = λ k more lt. absurd (omega (arith, lt));
        };
    failed = λ f e not. absurd cc;
  };
}

-- a fault that is found without reading a line
pub fails : {A : Type 0} (fault : ℕ → FileError) → ((n : ℕ) → MayBeAt (fault n) n)
    → IsLocal {A = A} (λ s. Err (fault s.number))
fails {A} fault line = record {
  from = λ s. record {
    taken = λ y t e. absurd cc;
    failed = λ f e not.
        let same : fault s.number ≡ f = cc in
        record {
          lines = 0;
          line = subst (λ (z : FileError). MayBeAt z (s.number + 0)) same
              (subst (MayBeAt (fault s.number)) (sym (add-zero s.number)) (line s.number));
          always = λ more. e;
          cut = λ k lt. absurd (omega (arith, lt));
        };
  };
}

pub give-local : {A : Type 0} (x : A) → IsLocal (give x)
give-local x = stays x (λ used. used)

pub or_bad_line-local : {A : Type 0} (o : Option A) → IsLocal (or_bad_line o)
or_bad_line-local None = fails BadLine (λ n. refl)
or_bad_line-local (Some x) = give-local x

pub bad_line_if-local : (b : Bool) → IsLocal (bad_line_if b)
bad_line_if-local true = fails BadLine (λ n. refl)
bad_line_if-local false = give-local tt

pub bad_id_if-local : (b : Bool) → IsLocal (bad_id_if b)
bad_id_if-local true = fails BadId (λ n. refl)
bad_id_if-local false = give-local tt

pub too_many_if-local : (b : Bool) → IsLocal (too_many_if b)
too_many_if-local true = fails (λ n. TooMany) (λ n. tt)
too_many_if-local false = give-local tt

-- a reader that looks at the ids so far
pub by_used-local : {A : Type 0} (r : List ℕ → Reader A) → ((used : List ℕ) → IsLocal (r used))
    → IsLocal (λ s. r s.used s)
by_used-local r each =
    record { from = λ s. record { taken = ((each s.used).from s).taken; failed = ((each s.used).from s).failed } }

-- ---- one line

one_line : (line : List ℕ) → has 10 line ≡ false → (k : ℕ) (more : List ℕ)
    → first_lines (suc k) (line ++ 10 ∷ more) ≡ line ++ 10 ∷ first_lines k more
one_line [] plain k more = refl
one_line (x ∷ line) plain k more =
    let p = or_parts (eqb x 10) (has 10 line) plain in rw p.0 (ap (λ (b : List ℕ). x ∷ b) (one_line line p.1 k more))

no_line : (s : Position) (k : ℕ) (bytes : List ℕ) → k < 1 → next_line (over s (first_lines k bytes)) ≡ Err Truncated
unfolding next_line
no_line s zero bytes lt = refl
no_line s (suc k) bytes lt = absurd (omega (arith, lt))

line_taken : (s t : Position) (line : List ℕ) → next_line s ≡ Ok (line, t) → Taken s (λ b. next_line (over s b)) line t
line_taken s t line e =
    let p = next_line-found s t line e in
    let again = λ (more : List ℕ). next_line-again s.number s.used more line p.0 in
    let whole : next_line (over s (line ++ 10 ∷ t.bytes)) ≡ Ok (line, t) =
    ap (λ (b : List ℕ). next_line (over s b)) (sym p.1.bytes) ∙ e in
    let q : ◌≡◌ {A = List ℕ × Position} (line, position_at (s.number + 1) s.used t.bytes) (line, t) =
    let both = sym (again t.bytes) ∙ whole in cc in
    record {
      lines = 1;
      front = line ++ 10 ∷ [];
      bytes = p.1.bytes ∙ sym (append_assoc line (10 ∷ []) t.bytes);
      number = ap (λ (z : List ℕ × Position). z.1.number) (sym q);
      counted = λ k more. ap (λ (n : ℕ). first_lines n ((line ++ 10 ∷ []) ++ more)) (one-add k)
          ∙ ap (first_lines (suc k)) (append_assoc line (10 ∷ []) more) ∙ one_line line p.0 k more
          ∙ sym (append_assoc line (10 ∷ []) (first_lines k more));
      always = λ more. ap (λ (b : List ℕ). next_line (over s b)) (append_assoc line (10 ∷ []) more) ∙ again more
          ∙ ap (λ (z : List ℕ × Position). Ok (line, over z.1 more)) q;
      cut = λ k more lt. no_line s k ((line ++ 10 ∷ []) ++ more) lt;
    }

line_failed : (s : Position) (f : FileError) → next_line s ≡ Err f → f ≡ Truncated
unfolding next_line
line_failed s f e = by (position (λ b. b == 10) s.bytes) e
  where
    by : (o : Option ℕ) → cut_at s o ≡ Err f → f ≡ Truncated
    by None h = cc
    by (Some i) h = absurd cc

pub next_line-local : IsLocal next_line
next_line-local = record {
  from = λ s.
      record { taken = λ line t e. line_taken s t line e; failed = λ f e not. absurd (not (line_failed s f e)) };
}

-- ---- in a row

pub times-local : {A : Type 0} {r : Reader A} (n : ℕ) → IsLocal r → IsLocal (times n r)
times-local zero one = give-local []
times-local (suc n) one = then one (λ x. then (times-local n one) (λ xs. give-local (x ∷ xs)))

pub for_each-local : {A B : Type 0} (as' : List A) {r : A → Reader B} → ((a : A) → IsLocal (r a))
    → IsLocal (for_each as' r)
for_each-local [] each = give-local []
for_each-local (a ∷ as') each = then (each a) (λ x. then (for_each-local as' each) (λ xs. give-local (x ∷ xs)))
