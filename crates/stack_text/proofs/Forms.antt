-- A form of lines, read and spelled: what is read is spelled so, and what is spelled so is read.
use Rattle.std.proofs.Common.{◌≡◌, ℕ, zero, suc, ◌+◌, Bool, true, false, List, [], ◌∷◌, ◌++◌, length, Result, Ok, Err}
use Rattle.std.proofs.Common.{refl, sym, ap, subst, ◌∙◌, append-nil}
use Rattle.std.specs.List.{flat_map, AllByRecursion}
use Rattle.stack_text.specs.Reading.{Position, Reader, chain, ◌>>=◌, give, times, for_each, bad_line_if, too_many_if}
use Rattle.stack_text.specs.Reading.{bad_id_if}
use Rattle.stack_text.specs.declared.fault.FileError.{FileError}

-- these lines, and then the rest
abbrev pub onto : List (List ℕ) → List ℕ → List ℕ
onto [] rest = rest
onto (l ∷ ls) rest = l ++ 10 ∷ onto ls rest

-- the number of the line that is read last
abbrev pub count_on : ℕ → List (List ℕ) → ℕ
count_on n [] = n
count_on n (l ∷ ls) = count_on (n + 1) ls

-- the ids so far, and then these
abbrev pub adding : List ℕ → List ℕ → List ℕ
adding used [] = used
adding used (i ∷ ids) = adding (used ++ i ∷ []) ids

abbrev pub position_at : ℕ → List ℕ → List ℕ → Position
position_at n used bytes = record { bytes = bytes; number = n; used = used }

-- what a reader took of a position
pub record Took (s t : Position) (lines : List (List ℕ)) (ids : List ℕ) : Type 0 where
  pub bytes : s.bytes ≡ onto lines t.bytes
  pub used : t.used ≡ adding s.used ids

-- The reader reads the values of which this holds, where so many ids are used, each from its own lines, and no others.
pub record Reads {A : Type 0} (r : Reader A) (Holds : List ℕ → A → Type 0) (lines : A → List (List ℕ))
    (ids : A → List ℕ) : Type 0 where
  pub found : (s t : Position) (x : A) → r s ≡ Ok (x, t) → Holds s.used x × Took s t (lines x) (ids x)
  pub again : (n : ℕ) (used rest : List ℕ) (x : A) → Holds used x
      → r (position_at n used (onto (lines x) rest))
      ≡ Ok (x, position_at (count_on n (lines x)) (adding used (ids x)) rest)

pub onto-append : (a b : List (List ℕ)) (rest : List ℕ) → onto (a ++ b) rest ≡ onto a (onto b rest)
onto-append [] b rest = refl
onto-append (l ∷ a) b rest = ap (λ (t : List ℕ). l ++ 10 ∷ t) (onto-append a b rest)

pub count_on-append : (n : ℕ) (a b : List (List ℕ)) → count_on n (a ++ b) ≡ count_on (count_on n a) b
count_on-append n [] b = refl
count_on-append n (l ∷ a) b = count_on-append (n + 1) a b

pub adding-append : (used a b : List ℕ) → adding used (a ++ b) ≡ adding (adding used a) b
adding-append used [] b = refl
adding-append used (i ∷ a) b = adding-append (used ++ i ∷ []) a b

-- the two readings of a chain
pub chain_ok : {A B : Type 0} (o : Result (A × Position) FileError) (f : A → Reader B) (y : B) (t : Position)
    → chain o f ≡ Ok (y, t) → (x : A) × (m : Position) × (o ≡ Ok (x, m)) × (f x m ≡ Ok (y, t))
chain_ok (Ok p) f y t e = (p.0, p.1, refl, e)
chain_ok (Err d) f y t e = absurd cc

Took-then : (s m t : Position) (a b : List (List ℕ)) (i j : List ℕ) → Took s m a i → Took m t b j
    → Took s t (a ++ b) (i ++ j)
Took-then s m t a b i j p q = record {
  bytes = p.bytes ∙ ap (onto a) q.bytes ∙ sym (onto-append a b t.bytes);
  used = q.used ∙ ap (λ (u : List ℕ). adding u j) p.used ∙ sym (adding-append s.used i j);
}

module _ {A B : Type 0} (r : Reader A) (f : A → Reader B) {P : List ℕ → A → Type 0} {l : A → List (List ℕ)}
    {i : A → List ℕ} {Q : A → List ℕ → B → Type 0} {m : A → B → List (List ℕ)} {j : A → B → List ℕ} where
  module _ (first : Reads r P l i) (then : (x : A) (used : List ℕ) → P used x → Reads (f x) (Q x) (m x) (j x))
      (back : B → A) (is : (x : A) (used : List ℕ) (y : B) → P used x × Q x (adding used (i x)) y → back y ≡ x) where
    both-found : (s t : Position) (y : B) → (r >>= f) s ≡ Ok (y, t)
        → (P s.used (back y) × Q (back y) (adding s.used (i (back y))) y)
        × Took s t (l (back y) ++ m (back y) y) (i (back y) ++ j (back y) y)
    both-found s t y e =
        let c = chain_ok (r s) f y t e in
        let p = first.found s c.1 c.0 c.2 in
        let q = (then c.0 s.used p.0).found c.1 t y c.3 in
        let held : P s.used c.0 × Q c.0 (adding s.used (i c.0)) y =
        (p.0, subst (λ (u : List ℕ). Q c.0 u y) p.1.used q.0) in
        let at : (P s.used c.0 × Q c.0 (adding s.used (i c.0)) y) × Took s t (l c.0 ++ m c.0 y) (i c.0 ++ j c.0 y) =
        (held, Took-then s c.1 t (l c.0) (m c.0 y) (i c.0) (j c.0 y) p.1 q.1) in
        subst (λ (x : A). (P s.used x × Q x (adding s.used (i x)) y) × Took s t (l x ++ m x y) (i x ++ j x y))
        (sym (is c.0 s.used y held)) at

    both-again : (n : ℕ) (used rest : List ℕ) (y : B) → P used (back y) × Q (back y) (adding used (i (back y))) y
        → (r >>= f) (position_at n used (onto (l (back y) ++ m (back y) y) rest))
        ≡ Ok (y, position_at (count_on n (l (back y) ++ m (back y) y)) (adding used (i (back y) ++ j (back y) y)) rest)
    both-again n used rest y h =
        let x = back y in
        ap (λ (b : List ℕ). (r >>= f) (position_at n used b)) (onto-append (l x) (m x y) rest)
        ∙ ap (λ (o : Result (A × Position) FileError). chain o f) (first.again n used (onto (m x y) rest) x h.0)
        ∙ (then x used h.0).again (count_on n (l x)) (adding used (i x)) rest y h.1
        ∙ rw (count_on-append, adding-append) refl

    -- a form and then another, which is one where the first holds, and where the value of both tells the first one's
    pub both_given : Reads (r >>= f) (λ used y. P used (back y) × Q (back y) (adding used (i (back y))) y)
        (λ y. l (back y) ++ m (back y) y) (λ y. i (back y) ++ j (back y) y)
    both_given = record { found = both-found; again = both-again }

  module _ (first : Reads r P l i) (then : (x : A) → Reads (f x) (Q x) (m x) (j x)) (back : B → A) where
    pub both_held : (is : (x : A) (used : List ℕ) (y : B) → P used x × Q x (adding used (i x)) y → back y ≡ x)
        → Reads (r >>= f) (λ used y. P used (back y) × Q (back y) (adding used (i (back y))) y)
        (λ y. l (back y) ++ m (back y) y) (λ y. i (back y) ++ j (back y) y)
    both_held is = both_given first (λ x used h. then x) back is

    -- the same, where the value tells the first one's by what the second says
    pub both : (is : (x : A) (used : List ℕ) (y : B) → Q x used y → back y ≡ x)
        → Reads (r >>= f) (λ used y. P used (back y) × Q (back y) (adding used (i (back y))) y)
        (λ y. l (back y) ++ m (back y) y) (λ y. i (back y) ++ j (back y) y)
    both is = both_given first (λ x used h. then x) back (λ x used y h. is x (adding used (i x)) y h.1)

give_ok : {A : Type 0} (x y : A) (s t : Position) → give x s ≡ give y t → (y ≡ x) × (s ≡ t)
give_ok {A} x y s t e =
    let p : ◌≡◌ {A = A × Position} (x, s) (y, t) = cc in
    (ap (λ (z : A × Position). z.0) (sym p), ap (λ (z : A × Position). z.1) p)

pub gives : {A : Type 0} (x : A) → Reads (give x) (λ used y. y ≡ x) (λ y. []) (λ y. [])
gives x = record {
  found = λ s t y e. let g = give_ok x y s t e in
      (g.0, record { bytes = ap (λ (z : Position). z.bytes) g.1; used = ap (λ (z : Position). z.used) (sym g.1) });
  again = λ n used rest y h. ap (λ z. give z (position_at n used rest)) (sym h);
}

-- the same form, said otherwise
pub resaid : {A : Type 0} {r : Reader A} {P Q : List ℕ → A → Type 0} {l m : A → List (List ℕ)} {i j : A → List ℕ}
    → Reads r P l i
    → ((used : List ℕ) (x : A) → P used x → Q used x × (l x ≡ m x) × (i x ≡ j x))
    → ((used : List ℕ) (x : A) → Q used x → P used x) → Reads r Q m j
resaid {r = r} {P = P} {Q = Q} {l = l} {m = m} {i = i} {j = j} form to from = record {
  found = λ s t x e.
      let p = form.found s t x e in
      let q = to s.used x p.0 in (
        q.0,
        record {
          bytes = p.1.bytes ∙ ap (λ (ls : List (List ℕ)). onto ls t.bytes) q.1;
          used = p.1.used
              ∙ ap (adding s.used) q.2;
        },
      );
  again = λ n used rest x h.
      let p = from used x h in
      let q = to used x p in
      subst (λ (ls : List (List ℕ)). r (position_at n used (onto ls rest))
      ≡ Ok (x, position_at (count_on n ls) (adding used (j x)) rest)) q.1
      (subst (λ (ids : List ℕ). r (position_at n used (onto (l x) rest))
      ≡ Ok (x, position_at (count_on n (l x)) (adding used ids) rest)) q.2 (form.again n used rest x p));
}

pub said : {A : Type 0} {r : Reader A} {P Q : List ℕ → A → Type 0} {l : A → List (List ℕ)} {i : A → List ℕ}
    → Reads r P l i → ((used : List ℕ) (x : A) → P used x → Q used x) → ((used : List ℕ) (x : A) → Q used x → P used x)
    → Reads r Q l i
said form to from = resaid form (λ used x h. (to used x h, refl, refl)) from

-- a form whose value is part of another
pub giving : {A B : Type 0} {r : Reader A} {P : List ℕ → A → Type 0} {l : A → List (List ℕ)} {i : A → List ℕ}
    → Reads r P l i → (f : A → B) (back : B → A) → ((x : A) → back (f x) ≡ x)
    → Reads (r >>= λ x. give (f x)) (λ used y. P used (back y) × (y ≡ f (back y))) (λ y. l (back y)) (λ y. i (back y))
giving {r = r} {l = l} {i = i} form f back is = resaid
    (both r (λ x. give (f x)) form (λ x. gives (f x)) back (λ x used y h. ap back h ∙ is x))
    (λ used y h. (h, append-nil (l (back y)), append-nil (i (back y)))) (λ used y h. h)

-- a test that did not fail
pub bad_line_if-reads : (b : Bool) → Reads (bad_line_if b) (λ used y. b ≡ false) (λ y. []) (λ y. [])
bad_line_if-reads true = record { found = λ s t y e. absurd cc; again = λ n used rest y h. absurd cc }
bad_line_if-reads false = said (gives tt) (λ used y h. refl) (λ used y h. refl)

pub too_many_if-reads : (b : Bool) → Reads (too_many_if b) (λ used y. b ≡ false) (λ y. []) (λ y. [])
too_many_if-reads true = record { found = λ s t y e. absurd cc; again = λ n used rest y h. absurd cc }
too_many_if-reads false = said (gives tt) (λ used y h. refl) (λ used y h. refl)

pub bad_id_if-reads : (b : Bool) → Reads (bad_id_if b) (λ used y. b ≡ false) (λ y. []) (λ y. [])
bad_id_if-reads true = record { found = λ s t y e. absurd cc; again = λ n used rest y h. absurd cc }
bad_id_if-reads false = said (gives tt) (λ used y h. refl) (λ used y h. refl)

module _ {B : Type 0} (r : Reader (Unit {0})) (f : Unit {0} → Reader B) {P : List ℕ → Unit {0} → Type 0}
    {l : Unit {0} → List (List ℕ)} {i : Unit {0} → List ℕ} {Q : List ℕ → B → Type 0} {m : B → List (List ℕ)}
    {j : B → List ℕ} (first : Reads r P l i) (then : Reads (f tt) Q m j) where
  -- a form that has no value, and then another
  pub after : Reads (r >>= f) (λ used y. P used tt × Q (adding used (i tt)) y) (λ y. l tt ++ m y) (λ y. i tt ++ j y)
  after = both r f first (λ x. then) (λ y. tt) (λ x used y q. refl)

-- ---- forms in a row

-- each holds where the ids of those before it are used too
abbrev pub Each : {A : Type 0} → (List ℕ → A → Type 0) → (A → List ℕ) → List ℕ → List A → Type 0
Each P i used [] = Unit {0}
Each P i used (x ∷ xs) = P used x × Each P i (adding used (i x)) xs

module _ {A : Type 0} (r : Reader A) {P : List ℕ → A → Type 0} {l : A → List (List ℕ)} {i : A → List ℕ}
    (form : Reads r P l i) where
  times-found : (n : ℕ) (s t : Position) (xs : List A) → times n r s ≡ Ok (xs, t)
      → ((length xs ≡ n) × Each P i s.used xs) × Took s t (flat_map l xs) (flat_map i xs)
  times-found zero s t xs e =
      let g = give_ok [] xs s t e in
      subst (λ (ys : List A). ((length ys ≡ 0) × Each P i s.used ys) × Took s t (flat_map l ys) (flat_map i ys))
      (sym g.0) (
        (refl, tt),
        record {
          bytes = ap (λ (z : Position). z.bytes) g.1;
          used = ap (λ (z : Position). z.used) (sym g.1);
        },
      )
  times-found (suc n) s t xs e =
      let c = chain_ok (r s) (λ x. times n r >>= λ ys. give (x ∷ ys)) xs t e in
      let d = chain_ok (times n r c.1) (λ ys. give (c.0 ∷ ys)) xs t c.3 in
      let g = give_ok (c.0 ∷ d.0) xs d.1 t d.3 in
      let p = form.found s c.1 c.0 c.2 in
      let q = times-found n c.1 d.1 d.0 d.2 in
      let both = Took-then s c.1 d.1 (l c.0) (flat_map l d.0) (i c.0) (flat_map i d.0) p.1 q.1 in
      let held = subst (λ (u : List ℕ). Each P i u d.0) p.1.used q.0.1 in
      subst (λ (z : Position). ((length xs ≡ suc n) × Each P i s.used xs) × Took s z (flat_map l xs) (flat_map i xs))
      g.1
      (subst (λ (ys : List A). ((length ys ≡ suc n) × Each P i s.used ys) × Took s d.1 (flat_map l ys) (flat_map i ys))
      (sym g.0) ((ap suc q.0.0, (p.0, held)), both))

  times-again : (xs : List A) (n : ℕ) (used rest : List ℕ) → Each P i used xs
      → times (length xs) r (position_at n used (onto (flat_map l xs) rest))
      ≡ Ok (xs, position_at (count_on n (flat_map l xs)) (adding used (flat_map i xs)) rest)
  times-again [] n used rest h = refl
  times-again (x ∷ xs) n used rest h =
      let others = times-again xs (count_on n (l x)) (adding used (i x)) rest h.1 in
      ap (λ (b : List ℕ). times (suc (length xs)) r (position_at n used b)) (onto-append (l x) (flat_map l xs) rest)
      ∙ ap (λ (o : Result (A × Position) FileError). chain o (λ y. times (length xs) r >>= λ ys. give (y ∷ ys)))
      (form.again n used (onto (flat_map l xs) rest) x h.0)
      ∙ ap (λ (o : Result (List A × Position) FileError). chain o (λ ys. give (x ∷ ys))) others
      ∙ rw (count_on-append, adding-append) refl

  -- so many of a form
  pub times-reads : (n : ℕ) → Reads (times n r) (λ used xs. (length xs ≡ n) × Each P i used xs) (flat_map l)
      (flat_map i)
  times-reads n = record {
    found = λ s t xs e. times-found n s t xs e;
    again = λ m used rest xs h. subst
        (λ k. times k r (position_at m used (onto (flat_map l xs) rest))
        ≡ Ok (xs, position_at (count_on m (flat_map l xs)) (adding used (flat_map i xs)) rest)) h.0
        (times-again xs m used rest h.1);
  }

-- members and values, one of each in a row
abbrev pub Pairs : {X A : Type 0} → (X → A → Type 0) → List X → List A → Type 0
Pairs P [] [] = Unit {0}
Pairs P (x ∷ xs) (y ∷ ys) = P x y × Pairs P xs ys
Pairs P xs ys = ⊥

module _ {X A : Type 0} (r : X → Reader A) (P : X → A → Type 0) (l : A → List (List ℕ)) where
  abbrev EachReads : List X → Type 0
  EachReads xs = AllByRecursion (λ a. Reads (r a) (λ used y. P a y) l (λ y. [])) xs

  for_each-found : (xs : List X) → EachReads xs → (s t : Position) (ys : List A) → for_each xs r s ≡ Ok (ys, t)
      → Pairs P xs ys × Took s t (flat_map l ys) []
  for_each-found [] h s t ys e =
      let g = give_ok [] ys s t e in
      subst (λ (zs : List A). Pairs P [] zs × Took s t (flat_map l zs) []) (sym g.0)
      (tt, record { bytes = ap (λ (z : Position). z.bytes) g.1; used = ap (λ (z : Position). z.used) (sym g.1) })
  for_each-found (a ∷ xs) h s t ys e =
      let c = chain_ok (r a s) (λ x. for_each xs r >>= λ zs. give (x ∷ zs)) ys t e in
      let d = chain_ok (for_each xs r c.1) (λ zs. give (c.0 ∷ zs)) ys t c.3 in
      let g = give_ok (c.0 ∷ d.0) ys d.1 t d.3 in
      let p = h.0.found s c.1 c.0 c.2 in
      let q = for_each-found xs h.1 c.1 d.1 d.0 d.2 in
      let both = Took-then s c.1 d.1 (l c.0) (flat_map l d.0) [] [] p.1 q.1 in
      subst (λ (z : Position). Pairs P (a ∷ xs) ys × Took s z (flat_map l ys) []) g.1
      (subst (λ (zs : List A). Pairs P (a ∷ xs) zs × Took s d.1 (flat_map l zs) []) (sym g.0) ((p.0, q.0), both))

  for_each-again : (xs : List X) → EachReads xs → (n : ℕ) (used rest : List ℕ) (ys : List A) → Pairs P xs ys
      → for_each xs r (position_at n used (onto (flat_map l ys) rest))
      ≡ Ok (ys, position_at (count_on n (flat_map l ys)) used rest)
  for_each-again [] h n used rest [] k = refl
  for_each-again [] h n used rest (y ∷ ys) k = absurd k
  for_each-again (a ∷ xs) h n used rest [] k = absurd k
  for_each-again (a ∷ xs) h n used rest (y ∷ ys) k =
      let others = for_each-again xs h.1 (count_on n (l y)) used rest ys k.1 in
      ap (λ (b : List ℕ). for_each (a ∷ xs) r (position_at n used b)) (onto-append (l y) (flat_map l ys) rest)
      ∙ ap (λ (o : Result (A × Position) FileError). chain o (λ x. for_each xs r >>= λ zs. give (x ∷ zs)))
      (h.0.again n used (onto (flat_map l ys) rest) y k.0)
      ∙ ap (λ (o : Result (List A × Position) FileError). chain o (λ zs. give (y ∷ zs))) others
      ∙ rw count_on-append refl

  -- one form for each member
  pub for_each-reads : (xs : List X) → EachReads xs
      → Reads (for_each xs r) (λ used ys. Pairs P xs ys) (flat_map l) (λ ys. [])
  for_each-reads xs h = record {
    found = λ s t ys e. for_each-found xs h s t ys e;
    again = λ n used rest ys k.
        for_each-again xs h n used rest ys k;
  }
