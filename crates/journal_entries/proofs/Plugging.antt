-- One more external changes nothing for entries that are ready.
use Rattle.std.proofs.Common.{◌≡◌, ◌++◌, ℕ, zero, suc, ◌<◌, List, [], ◌∷◌, length, set, refl, sym, subst, ap, ◌∙◌}
use Rattle.std.proofs.Common.{arith, length-append}
use Rattle.std.proofs.Math.ListN.{get_or-append}
use Rattle.externals.specs.Cells.{Seen, none_seen, flipped, taken_out}
use Rattle.object_table.specs.Table.{Room}
use Rattle.journal_entries.specs.State.{State}
use Rattle.journal_entries.specs.Exchange.{counts_of, with_cells, back, back_taken, forth, forth_taken, exchanged}
use Rattle.journal_entries.specs.Exchange.{taken, IsReady, AreReady}
use Rattle.journal_entries.specs.declared.entry.Entry.{Entry}
use Rattle.journal_entries.specs.declared.entry.Entry.TheVariants.{Global, Current, Stack, External}
use Rattle.journal_entries.proofs.Going.{length-counts, shape-back, same_shape, shaped}

abbrev more : Seen → State → State
more x s = record s { externals = s.externals ++ x ∷ [] }

set-append : {X : Type 0} (xs ys : List X) (i : ℕ) (y : X) → i < length xs → set (xs ++ ys) i y ≡ set xs i y ++ ys
set-append [] ys i y h = absurd (omega arith)
set-append (x ∷ xs) ys zero y h = refl
set-append (x ∷ xs) ys (suc i) y h = ap (λ zs. x ∷ zs) (set-append xs ys i y (omega arith))

exchanged-plugged : (room : Room) (names : List (List ℕ)) (s : State) (x : Seen) (e : Entry)
    → IsReady (shaped room names s) e → exchanged names (more x s) e ≡ more x (exchanged names s e)
unfolding exchanged IsReady
exchanged-plugged room names s x (Global i v) r = refl
exchanged-plugged room names s x (Current c) r = refl
exchanged-plugged room names s x (Stack e) r = refl
exchanged-plugged room names s x (External i p) r =
    let there : i < length s.externals = omega (arith, r.0, length-counts s.externals) in
    let found = get_or-append s.externals (x ∷ []) none_seen i there in
    ap (λ es. record s { externals = es })
    (ap (λ e. set (s.externals ++ x ∷ []) i (with_cells e (flipped e.cells p))) found
    ∙ set-append s.externals (x ∷ []) i _ there)

taken-plugged : (room : Room) (names : List (List ℕ)) (s : State) (x : Seen) (e : Entry)
    → IsReady (shaped room names s) e → taken names (more x s) e ≡ taken names s e
unfolding taken IsReady
taken-plugged room names s x (Global i v) r = refl
taken-plugged room names s x (Current c) r = refl
taken-plugged room names s x (Stack e) r = refl
taken-plugged room names s x (External i p) r =
    let there : i < length s.externals = omega (arith, r.0, length-counts s.externals) in
    ap (λ e. External i (taken_out e.cells p)) (get_or-append s.externals (x ∷ []) none_seen i there)

pub back-plugged : (room : Room) (names : List (List ℕ)) (s : State) (x : Seen) (es : List Entry)
    → AreReady (shaped room names s) es → back names (more x s) es ≡ more x (back names s es)
back-plugged room names s x [] r = refl
back-plugged room names s x (e ∷ es) r =
    let ready : IsReady (shaped room names (back names s es)) e =
    subst (λ h. IsReady h e) (sym (shape-back room names s es)) r.0 in
    ap (λ y. exchanged names y e) (back-plugged room names s x es r.1)
    ∙ exchanged-plugged room names (back names s es) x e ready

pub back_taken-plugged : (room : Room) (names : List (List ℕ)) (s : State) (x : Seen) (es : List Entry)
    → AreReady (shaped room names s) es → back_taken names (more x s) es ≡ back_taken names s es
back_taken-plugged room names s x [] r = refl
back_taken-plugged room names s x (e ∷ es) r =
    let ready : IsReady (shaped room names (back names s es)) e =
    subst (λ h. IsReady h e) (sym (shape-back room names s es)) r.0 in
    let first = ap (λ y. taken names y e) (back-plugged room names s x es r.1)
    ∙ taken-plugged room names (back names s es) x e ready in
    let rest = back_taken-plugged room names s x es r.1 in
    λ i. first i ∷ rest i

pub forth-plugged : (room : Room) (names : List (List ℕ)) (s : State) (x : Seen) (es : List Entry)
    → AreReady (shaped room names s) es → forth names (more x s) es ≡ more x (forth names s es)
forth-plugged room names s x [] r = refl
forth-plugged room names s x (e ∷ es) r =
    let rest : AreReady (shaped room names (exchanged names s e)) es =
    subst (λ h. AreReady h es) (sym (same_shape room names s e)) r.1 in
    ap (λ y. forth names y es) (exchanged-plugged room names s x e r.0)
    ∙ forth-plugged room names (exchanged names s e) x es rest

pub forth_taken-plugged : (room : Room) (names : List (List ℕ)) (s : State) (x : Seen) (es : List Entry)
    → AreReady (shaped room names s) es → forth_taken names (more x s) es ≡ forth_taken names s es
forth_taken-plugged room names s x [] r = refl
forth_taken-plugged room names s x (e ∷ es) r =
    let ready : AreReady (shaped room names (exchanged names s e)) es =
    subst (λ h. AreReady h es) (sym (same_shape room names s e)) r.1 in
    let first = taken-plugged room names s x e r.0 in
    let rest = ap (λ y. forth_taken names y es) (exchanged-plugged room names s x e r.0)
    ∙ forth_taken-plugged room names (exchanged names s e) x es ready in
    λ i. first i ∷ rest i

-- more externals leave entries ready
IsReady-plugged : (room : Room) (names n : ℕ) (counts : List ℕ) (e : Entry)
    → IsReady (record { names = names; counts = counts; room = room }) e
    → IsReady (record { names = names; counts = counts ++ n ∷ []; room = room }) e
unfolding IsReady
IsReady-plugged room names n counts (Global i v) r = r
IsReady-plugged room names n counts (Current c) r = tt
IsReady-plugged room names n counts (Stack e) r = r
IsReady-plugged room names n counts (External i p) r =
    (omega (arith, r.0, length-append counts (n ∷ [])), rw (get_or-append counts (n ∷ []) 0 i r.0) r.1)

AreReady-more : (room : Room) (names n : ℕ) (counts : List ℕ) (es : List Entry)
    → AreReady (record { names = names; counts = counts; room = room }) es
    → AreReady (record { names = names; counts = counts ++ n ∷ []; room = room }) es
AreReady-more room names n counts [] r = tt
AreReady-more room names n counts (e ∷ es) r =
    (IsReady-plugged room names n counts e r.0, AreReady-more room names n counts es r.1)

counts-append : (es : List Seen) (x : Seen) → counts_of (es ++ x ∷ []) ≡ counts_of es ++ length x.cells ∷ []
counts-append [] x = refl
counts-append (e ∷ es) x = ap (λ ns. length e.cells ∷ ns) (counts-append es x)

pub AreReady-plugged : (room : Room) (names : List (List ℕ)) (s : State) (x : Seen) (es : List Entry)
    → AreReady (shaped room names s) es → AreReady (shaped room names (more x s)) es
AreReady-plugged room names s x es r =
    rw (counts-append s.externals x) (AreReady-more room (length names) (length x.cells) (counts_of s.externals) es r)
