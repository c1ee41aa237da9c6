-- Going back over a batch that was gone forth over, and the other way round.
use Rattle.std.proofs.Common.{◌≡◌, ◌++◌, ℕ, zero, suc, ◌+◌, ◌<◌, List, [], ◌∷◌, length, get_or, set, refl, sym, subst}
use Rattle.std.proofs.Common.{ap, ◌∙◌, arith, map}
use Rattle.std.proofs.lemmas.List.{set-get_or, get_or-set_same, map-set, get_or-map, take-set, take_more, drop-set}
use Rattle.std.proofs.lemmas.List.{drop_more, drop-set-lt, take_more_set}
use Rattle.std.proofs.Common.{take, drop, append_assoc}
use Rattle.std.specs.FinMap.{get}
use Rattle.externals.specs.Cells.{Seen, none_seen, flipped, taken_out, IsProper}
use Rattle.std.proofs.lemmas.Cmp.{nat_list_cmp_total}
use Rattle.object_table.proofs.Maps.{put_option_again, put_option_same, put_option-get}
use Rattle.object_table.specs.Table.{Room}
use Rattle.stack_places.proofs.Exchanging as stack
use Rattle.journal_entries.specs.State.{State}
use Rattle.journal_entries.specs.Exchange.{Shape, counts_of, with_cells, exchanged, taken, forth, forth_taken, back}
use Rattle.journal_entries.specs.Exchange.{back_taken, IsReady, AreReady}
use Rattle.journal_entries.specs.declared.entry.Entry.{Entry}
use Rattle.journal_entries.specs.declared.entry.Entry.TheVariants.{Global, Current, Stack, External}
use Rattle.journal_entries.proofs.Naming.{antisymmetric}
use Rattle.externals.proofs.Flipping.{length-flipped, flipped_back, taken_out_back, IsProper-taken_out, set-set_same}

-- what is seen of an external, by number
abbrev at : State → ℕ → Seen
at s i = get_or s.externals i none_seen

pub get_or-counts : (es : List Seen) (i : ℕ) → get_or (counts_of es) i 0 ≡ length (get_or es i none_seen).cells
get_or-counts [] i = refl
get_or-counts (e ∷ es) zero = refl
get_or-counts (e ∷ es) (suc i) = get_or-counts es i

pub length-counts : (es : List Seen) → length (counts_of es) ≡ length es
length-counts [] = refl
length-counts (e ∷ es) = ap suc (length-counts es)

-- what is seen of the i-th external
pub get_or-seen : {X : Type 0} (f : X → Seen) (xs : List X) (i : ℕ) (x : X) → i < length xs → x ≡ get_or xs i x
    → get_or (map f xs) i none_seen ≡ f x
get_or-seen f xs i x h e = get_or-map f xs i x none_seen h ∙ ap f (sym e)

-- the i-th external has other cells
pub map_seen-set : {X : Type 0} (f : X → Seen) (xs : List X) (i : ℕ) (x y : X) (cells : List (List ℕ)) → i < length xs
    → x ≡ get_or xs i x → f y ≡ with_cells (f x) cells
    → map f (set xs i y) ≡ set (map f xs) i (with_cells (get_or (map f xs) i none_seen) cells)
map_seen-set f xs i x y cells h e k =
    map-set f xs i y ∙ ap (λ s. set (map f xs) i s) (k ∙ ap (λ s. with_cells s cells) (sym (get_or-seen f xs i x h e)))

-- the counts of cells stay
pub counts_of-set : (es : List Seen) (i : ℕ) (cells : List (List ℕ))
    → length cells ≡ length (get_or es i none_seen).cells
    → counts_of (set es i (with_cells (get_or es i none_seen) cells)) ≡ counts_of es
counts_of-set [] i cells h = refl
counts_of-set (e ∷ es) zero cells h = ap (λ n. n ∷ counts_of es) h
counts_of-set (e ∷ es) (suc i) cells h = ap (λ ns. length e.cells ∷ ns) (counts_of-set es i cells h)

-- the counts of cells never change
pub counts-exchanged : (names : List (List ℕ)) (s : State) (e : Entry)
    → counts_of (exchanged names s e).externals ≡ counts_of s.externals
unfolding exchanged
counts-exchanged names s (Global i v) = refl
counts-exchanged names s (Current c) = refl
counts-exchanged names s (Stack e) = refl
counts-exchanged names s (External i p) =
    counts_of-set s.externals i (flipped (at s i).cells p) (length-flipped (at s i).cells p)

abbrev pub shaped : Room → List (List ℕ) → State → Shape
shaped room names s = record { names = length names; counts = counts_of s.externals; room = room }

-- an exchange and the exchange of what came out
pub exchanged_back : (room : Room) (names : List (List ℕ)) (s : State) (e : Entry) → IsReady (shaped room names s) e
    → exchanged names (exchanged names s e) (taken names s e) ≡ s
unfolding exchanged taken IsReady
exchanged_back room names s (Global i v) h = ap (λ m. record s { globals = m })
    (put_option_again nat_list_cmp_total antisymmetric s.globals (get_or names i []) v
    (get s.globals (get_or names i []))
    ∙ put_option_same nat_list_cmp_total antisymmetric s.globals (get_or names i []))
exchanged_back room names s (Current c) h = refl
exchanged_back room names s (Stack e) h = ap (λ x. record s { stack = x }) (stack.exchanged_back s.stack e)
exchanged_back room names s (External i p) h =
    let e = at s i in
    let there : i < length s.externals = omega (arith, h.0, length-counts s.externals) in
    let proper : IsProper (length e.cells) p = subst (λ n. IsProper n p) (get_or-counts s.externals i) h.1 in
    let new = with_cells e (flipped e.cells p) in
    let found : get_or (set s.externals i new) i none_seen ≡ new = get_or-set_same s.externals i new none_seen there in
    ap (λ es. record s { externals = es })
    (ap (λ x. set (set s.externals i new) i (with_cells x (flipped x.cells (taken_out e.cells p)))) found
    ∙ set-set_same s.externals i new (with_cells e (flipped (flipped e.cells p) (taken_out e.cells p)))
    ∙ ap (λ cs. set s.externals i (with_cells e cs)) (flipped_back e.cells p proper)
    ∙ set-get_or s.externals i none_seen)

pub taken_back : (room : Room) (names : List (List ℕ)) (s : State) (e : Entry) → IsReady (shaped room names s) e
    → taken names (exchanged names s e) (taken names s e) ≡ e
unfolding exchanged taken IsReady
taken_back room names s (Global i v) h =
    ap (λ x. Global i x) (put_option-get nat_list_cmp_total antisymmetric s.globals (get_or names i []) v)
taken_back room names s (Current c) h = refl
taken_back room names s (Stack e) h = ap (λ x. Stack x) (stack.taken_back s.stack e)
taken_back room names s (External i p) h =
    let e = at s i in
    let there : i < length s.externals = omega (arith, h.0, length-counts s.externals) in
    let proper : IsProper (length e.cells) p = subst (λ n. IsProper n p) (get_or-counts s.externals i) h.1 in
    let new = with_cells e (flipped e.cells p) in
    let found : get_or (set s.externals i new) i none_seen ≡ new = get_or-set_same s.externals i new none_seen there in
    ap (λ x. External i (taken_out x.cells (taken_out e.cells p))) found
    ∙ ap (λ x. External i x) (taken_out_back e.cells p proper)

pub IsReady-taken : (h : Shape) (names : List (List ℕ)) (s : State) (e : Entry) → IsReady h e
    → IsReady h (taken names s e)
unfolding IsReady taken
IsReady-taken h names s (Global i v) r = r
IsReady-taken h names s (Current c) r = tt
IsReady-taken h names s (Stack e) r = stack.IsReady-taken h.room s.stack e r
IsReady-taken h names s (External i p) r = (r.0, IsProper-taken_out (get_or h.counts i 0) (at s i).cells p r.1)

-- the shape stays
pub same_shape : (room : Room) (names : List (List ℕ)) (s : State) (e : Entry)
    → shaped room names (exchanged names s e) ≡ shaped room names s
same_shape room names s e =
    ap (λ cs. record { names = length names; counts = cs; room = room }) (counts-exchanged names s e)

pub shape-forth : (room : Room) (names : List (List ℕ)) (s : State) (es : List Entry)
    → shaped room names (forth names s es) ≡ shaped room names s
shape-forth room names s [] = refl
shape-forth room names s (e ∷ es) = shape-forth room names (exchanged names s e) es ∙ same_shape room names s e

pub shape-back : (room : Room) (names : List (List ℕ)) (s : State) (es : List Entry)
    → shaped room names (back names s es) ≡ shaped room names s
shape-back room names s [] = refl
shape-back room names s (e ∷ es) = same_shape room names (back names s es) e ∙ shape-back room names s es

pub AreReady-forth_taken : (h : Shape) (names : List (List ℕ)) (s : State) (es : List Entry) → AreReady h es
    → AreReady h (forth_taken names s es)
AreReady-forth_taken h names s [] r = tt
AreReady-forth_taken h names s (e ∷ es) r =
    (IsReady-taken h names s e r.0, AreReady-forth_taken h names (exchanged names s e) es r.1)

pub AreReady-back_taken : (h : Shape) (names : List (List ℕ)) (s : State) (es : List Entry) → AreReady h es
    → AreReady h (back_taken names s es)
AreReady-back_taken h names s [] r = tt
AreReady-back_taken h names s (e ∷ es) r =
    (IsReady-taken h names (back names s es) e r.0, AreReady-back_taken h names s es r.1)

-- back over what was gone forth over
pub back-forth : (room : Room) (names : List (List ℕ)) (s : State) (es : List Entry) → AreReady (shaped room names s) es
    → back names (forth names s es) (forth_taken names s es) ≡ s
back-forth room names s [] r = refl
back-forth room names s (e ∷ es) r =
    let one = exchanged names s e in
    let rest : AreReady (shaped room names one) es = subst (λ h. AreReady h es) (sym (same_shape room names s e)) r.1 in
    ap (λ x. exchanged names x (taken names s e)) (back-forth room names one es rest)
    ∙ exchanged_back room names s e r.0

pub back_taken-forth : (room : Room) (names : List (List ℕ)) (s : State) (es : List Entry)
    → AreReady (shaped room names s) es → back_taken names (forth names s es) (forth_taken names s es) ≡ es
back_taken-forth room names s [] r = refl
back_taken-forth room names s (e ∷ es) r =
    let one = exchanged names s e in
    let rest : AreReady (shaped room names one) es = subst (λ h. AreReady h es) (sym (same_shape room names s e)) r.1 in
    let first = ap (λ x. taken names x (taken names s e)) (back-forth room names one es rest)
    ∙ taken_back room names s e r.0 in
    let others = back_taken-forth room names one es rest in
    λ k. first k ∷ others k

-- forth over what was gone back over
pub forth-back : (room : Room) (names : List (List ℕ)) (s : State) (es : List Entry) → AreReady (shaped room names s) es
    → forth names (back names s es) (back_taken names s es) ≡ s
forth-back room names s [] r = refl
forth-back room names s (e ∷ es) r =
    let one = back names s es in
    let ready : IsReady (shaped room names one) e = subst (λ h. IsReady h e) (sym (shape-back room names s es)) r.0 in
    ap (λ x. forth names x (back_taken names s es)) (exchanged_back room names one e ready)
    ∙ forth-back room names s es r.1

-- one more entry at the end
pub back-push : (names : List (List ℕ)) (s : State) (es : List Entry) (e : Entry)
    → back names s (es ++ e ∷ []) ≡ back names (exchanged names s e) es
back-push names s [] e = refl
back-push names s (f ∷ es) e = ap (λ x. exchanged names x f) (back-push names s es e)

pub back_taken-push : (names : List (List ℕ)) (s : State) (es : List Entry) (e : Entry)
    → back_taken names s (es ++ e ∷ []) ≡ back_taken names (exchanged names s e) es ++ taken names s e ∷ []
back_taken-push names s [] e = refl
back_taken-push names s (f ∷ es) e =
    let one = back-push names s es e in
    let rest = back_taken-push names s es e in
    λ k. taken names (one k) f ∷ rest k

pub AreReady-push : (h : Shape) (es : List Entry) (e : Entry) → AreReady h es → IsReady h e → AreReady h (es ++ e ∷ [])
AreReady-push h [] e r q = (q, tt)
AreReady-push h (f ∷ es) e r q = (r.0, AreReady-push h es e r.1 q)

pub AreReady-parts : (h : Shape) (es fs : List Entry) → AreReady h (es ++ fs) → AreReady h es × AreReady h fs
AreReady-parts h [] fs r = (tt, r)
AreReady-parts h (e ∷ es) fs r = let t = AreReady-parts h es fs r.1 in ((r.0, t.0), t.1)

-- one step of a loop that goes back
pub back_step : (names : List (List ℕ)) (s : State) (es : List Entry) (i : ℕ) (x : Entry) → i < length es
    → x ≡ get_or es i x → back names (exchanged names s x) (take i (set es i (taken names s x)))
    ≡ back names s (take (i + 1) es)
back_step names s es i x h e =
    rw (take-set es i (taken names s x), take_more es i x h, ← e) (sym (back-push names s (take i es) x))

pub back_taken_step : (names : List (List ℕ)) (s : State) (es : List Entry) (i : ℕ) (x : Entry) → i < length es
    → x ≡ get_or es i x → back_taken names (exchanged names s x) (take i (set es i (taken names s x)))
    ++ drop i (set es i (taken names s x)) ≡ back_taken names s (take (i + 1) es) ++ drop (i + 1) es
back_taken_step names s es i x h e =
    rw (
      take-set es i (taken names s x),
      drop-set es i (taken names s x) h,
      take_more es i x h,
      ← e,
      back_taken-push
          names s (take i es) x,
    )
    (sym (append_assoc (back_taken names (exchanged names s x) (take i es)) (taken names s x ∷ []) (drop (i + 1) es)))

-- one step of a loop that goes forth
pub forth_step : (names : List (List ℕ)) (s : State) (es : List Entry) (i : ℕ) (x : Entry) → i < length es
    → x ≡ get_or es i x → forth names (exchanged names s x) (drop (i + 1) (set es i (taken names s x)))
    ≡ forth names s (drop i es)
forth_step names s es i x h e =
    rw (drop-set-lt (i + 1) es i (taken names s x) (omega arith), drop_more es i x h, ← e) refl

pub forth_taken_step : (names : List (List ℕ)) (s : State) (es : List Entry) (i : ℕ) (x : Entry) → i < length es
    → x ≡ get_or es i x → take (i + 1) (set es i (taken names s x))
    ++ forth_taken names (exchanged names s x) (drop (i + 1) (set es i (taken names s x))) ≡ take i es
    ++ forth_taken names s (drop i es)
forth_taken_step names s es i x h e =
    rw (
      drop-set-lt (i + 1) es i (taken names s x) (omega arith),
      take_more_set es i (taken names s x) h,
      drop_more es i
          x h,
      ← e,
    )
    (append_assoc (take i es) (taken names s x ∷ []) (forth_taken names (exchanged names s x) (drop (i + 1) es)))

-- the entry at a place is ready, and so are those before it
pub AreReady-take : (h : Shape) (es : List Entry) (i j : ℕ) (x : Entry) → i ≡ j + 1 → j < length es → x ≡ get_or es j x
    → AreReady h (take i es) → IsReady h x × AreReady h (take j es)
AreReady-take h es i j x n l e r =
    let all : AreReady h (take j es ++ x ∷ []) = subst (λ xs. AreReady h xs)
    (ap (λ k. take k es) n ∙ take_more es j x l ∙ ap (λ y. take j es ++ y ∷ []) (sym e)) r in
    let parts = AreReady-parts h (take j es) (x ∷ []) all in
    (parts.1.0, parts.0)

-- and those after it
pub AreReady-drop : (h : Shape) (es : List Entry) (i : ℕ) (x : Entry) → i < length es → x ≡ get_or es i x
    → AreReady h (drop i es) → IsReady h x × AreReady h (drop (i + 1) es)
AreReady-drop h es i x l e r =
    subst (λ xs. AreReady h xs) (drop_more es i x l ∙ ap (λ y. y ∷ drop (i + 1) es) (sym e)) r

pub forth_taken-back : (room : Room) (names : List (List ℕ)) (s : State) (es : List Entry)
    → AreReady (shaped room names s) es → forth_taken names (back names s es) (back_taken names s es) ≡ es
forth_taken-back room names s [] r = refl
forth_taken-back room names s (e ∷ es) r =
    let one = back names s es in
    let ready : IsReady (shaped room names one) e = subst (λ h. IsReady h e) (sym (shape-back room names s es)) r.0 in
    let first = taken_back room names one e ready in
    let rest = ap (λ x. forth_taken names x (back_taken names s es)) (exchanged_back room names one e ready)
    ∙ forth_taken-back room names s es r.1 in
    λ k. first k ∷ rest k
