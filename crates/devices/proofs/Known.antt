-- Known bytes over two calls.
use Rattle.std.proofs.Common.{ℕ, sym, ap, refl, ◌∙◌, List, ◌++◌, Option, Some, None, Result, Ok, Err, append_assoc}
use Rattle.std.specs.Io.KnownBytes.{Appends, Consumes, Keeps, ReadConsumes, WriteAppends}

pub Appends-Appends : (a b c : Option (List ℕ)) (x y : List ℕ) → Appends a b x → Appends b c y → Appends a c (x ++ y)
Appends-Appends None b c x y p q = tt
Appends-Appends (Some xs) None c x y p q = absurd p
Appends-Appends (Some xs) (Some ys) None x y p q = absurd q
Appends-Appends (Some xs) (Some ys) (Some zs) x y p q = rw (q, p) (append_assoc xs x y)

pub Consumes-Consumes : (a b c : Option (List ℕ)) (x y : List ℕ) → Consumes a b x → Consumes b c y
    → Consumes a c (x ++ y)
Consumes-Consumes None b c x y p q = tt
Consumes-Consumes (Some xs) None c x y p q = absurd p
Consumes-Consumes (Some xs) (Some ys) None x y p q = absurd q
Consumes-Consumes (Some xs) (Some ys) (Some zs) x y p q = rw (p, q) (sym (append_assoc x y zs))

-- ---- a call that fails keeps them, and so they are for the next one

pub Keeps-same : (a : Option (List ℕ)) → Keeps a a
Keeps-same None = tt
Keeps-same (Some xs) = refl

pub Keeps-Keeps : (a b c : Option (List ℕ)) → Keeps a b → Keeps b c → Keeps a c
Keeps-Keeps None b c p q = tt
Keeps-Keeps (Some xs) None c p q = absurd p
Keeps-Keeps (Some xs) (Some ys) None p q = absurd q
Keeps-Keeps (Some xs) (Some ys) (Some zs) p q = q ∙ p

Keeps-Consumes : (a b c : Option (List ℕ)) (x : List ℕ) → Keeps a b → Consumes b c x → Consumes a c x
Keeps-Consumes None b c x p q = tt
Keeps-Consumes (Some xs) None c x p q = absurd p
Keeps-Consumes (Some xs) (Some ys) None x p q = absurd q
Keeps-Consumes (Some xs) (Some ys) (Some zs) x p q = sym p ∙ q

Keeps-Appends : (a b c : Option (List ℕ)) (x : List ℕ) → Keeps a b → Appends b c x → Appends a c x
Keeps-Appends None b c x p q = tt
Keeps-Appends (Some xs) None c x p q = absurd p
Keeps-Appends (Some xs) (Some ys) None x p q = absurd q
Keeps-Appends (Some xs) (Some ys) (Some zs) x p q = q ∙ ap (λ zs. zs ++ x) p

pub Keeps-Reads : {E : Type 0} (a b c : Option (List ℕ)) (r : Result ℕ E) (buf : List ℕ) → Keeps a b
    → ReadConsumes b c r buf → ReadConsumes a c r buf
Keeps-Reads a b c (Ok n) buf p q = (Keeps-Consumes a b c _ p q.0, q.1)
Keeps-Reads a b c (Err e) buf p q = Keeps-Keeps a b c p q

pub Keeps-Writes : {E : Type 0} (a b c : Option (List ℕ)) (r : Result ℕ E) (buf : List ℕ) → Keeps a b
    → WriteAppends b c r buf → WriteAppends a c r buf
Keeps-Writes a b c (Ok n) buf p q = Keeps-Appends a b c _ p q
Keeps-Writes a b c (Err e) buf p q = Keeps-Keeps a b c p q
