-- Turns of the i-th of some externals.
use Rattle.std.proofs.Common.{take, drop, ◌≡◌, ◌++◌, ℕ, zero, suc, ◌+◌, ◌<◌, List, [], ◌∷◌, length, map, get_or, set}
use Rattle.std.proofs.Common.{refl, sym, ap, ◌∙◌, arith, length-set, Result, Ok, Err, OnErr, OnOk}
use Rattle.std.proofs.lemmas.List.{map-set, get_or-map, get_or-set_same, set-get_or}
use Rattle.externals.specs.Cells.{Seen, none_seen, Changes, IsPatch, flipped}
use Rattle.externals.specs.Turns.{TurnTable}
use Rattle.externals.specs.Log.{Log, Follows}
use Rattle.externals.specs.declared.external.Input.{Input}
use Rattle.externals.specs.declared.external.Ask.{Ask}
use Rattle.journal_entries.specs.State.{State, seen_at}
use Rattle.journal_entries.specs.Exchange.{Shape, counts_of, with_cells, exchanged, IsReady}
use Rattle.journal_entries.specs.Turning.{Turns, logs_after}
use Rattle.journal_entries.specs.declared.entry.Entry.TheVariants.{External}
use Rattle.externals.proofs.Flipping.{patch_back, set-set_same}
use Rattle.journal_entries.proofs.Going.{counts_of-set, get_or-seen, map_seen-set, get_or-counts, length-counts}

pub seen_new : {X : Type 0} (f : X → Seen) (xs : List X) (i : ℕ) (y : X) → i < length xs
    → get_or (map f (set xs i y)) i none_seen ≡ f y
seen_new f xs i y h =
    get_or-map f (set xs i y) i y none_seen (omega (arith, length-set xs i y)) ∙ ap f (get_or-set_same xs i y y h)

pub turned : {X : Type 0} (f : X → Seen) (xs : List X) (i : ℕ) (x y : X) (s : State) → i < length xs
    → x ≡ get_or xs i x → s.externals ≡ map f xs → f y ≡ with_cells (f x) (f y).cells
    → length (f y).cells ≡ length (f x).cells → Turns s (record s { externals = map f (set xs i y) }) i
turned f xs i x y s h e is same count =
    let new = seen_new f xs i y h in
    let old = ap (λ es. get_or es i none_seen) is ∙ get_or-seen f xs i x h e in
    record {
      count = rw (new, old) count;
      state = ap (λ es. record s { externals = es })
          (map_seen-set f xs i x y (f y).cells h e same
          ∙ ap (λ es. set es i (with_cells (get_or es i none_seen) (f y).cells)) (sym is)
          ∙ ap (λ z. set s.externals i (with_cells (get_or s.externals i none_seen) z.cells)) (sym new));
    }

pub patched : {X : Type 0} (f : X → Seen) (xs : List X) (i : ℕ) (x y : X) (p : Changes) → i < length xs
    → x ≡ get_or xs i x → IsPatch (f x).cells (f y).cells p
    → IsPatch (get_or (map f xs) i none_seen).cells (get_or (map f (set xs i y)) i none_seen).cells p
patched f xs i x y p h e a = rw (seen_new f xs i y h, get_or-seen f xs i x h e) a

-- the cells are as they were
pub unturned : {X : Type 0} (f : X → Seen) (xs : List X) (i : ℕ) (x y : X) → i < length xs → x ≡ get_or xs i x
    → f y ≡ f x → map f (set xs i y) ≡ map f xs
unturned f xs i x y h e same = map-set f xs i y ∙ ap (λ z. set (map f xs) i z) (same ∙ sym (get_or-seen f xs i x h e))
    ∙ set-get_or (map f xs) i none_seen

-- the log of the i-th has the turn
pub logs_more : {X : Type 0} (f : X → Seen) (log : X → Log) (xs : List X) (i : ℕ) (x y : X) (input : Input) (ask : Ask)
    → i < length xs → x ≡ get_or xs i x
    → log y ≡ log x ++ (record { before = (f x).cells; input = input; ask = ask; cells = (f y).cells }) ∷ []
    → (s : State) → s.externals ≡ map f xs → map log (set xs i y)
    ≡ logs_after (map log xs) s (record s { externals = map f (set xs i y) }) i input ask
logs_more f log xs i x y input ask h e is s seen =
    let old : seen_at s i ≡ f x = ap (λ es. get_or es i none_seen) seen ∙ get_or-seen f xs i x h e in
    let new = seen_new f xs i y h in
    let first : get_or (map log xs) i [] ≡ log x = get_or-map log xs i x [] h ∙ ap log (sym e) in
    rw (old, new, first) (map-set log xs i y ∙ ap (λ z. set (map log xs) i z) is)

-- where a turn is refused the log is as it was
pub logs_same : {X : Type 0} (log : X → Log) (xs : List X) (i : ℕ) (x y : X) → i < length xs → x ≡ get_or xs i x
    → log y ≡ log x → map log (set xs i y) ≡ map log xs
logs_same log xs i x y h e same =
    map-set log xs i y ∙ ap (λ z. set (map log xs) i z) (same ∙ sym (get_or-map log xs i x [] h ∙ ap log (sym e)))
    ∙ set-get_or (map log xs) i []

-- a law of each external's log, by its number
pub each_follows : {X : Type 0} (table : TurnTable) (f : X → Seen) (log : X → Log)
    → ((x : X) → Follows table (f x).sort (log x)) → (xs : List X) (i : ℕ) → i < length (map f xs)
    → Follows table (get_or (map f xs) i none_seen).sort (get_or (map log xs) i [])
each_follows table f log told [] i h = absurd (omega (arith, h))
each_follows table f log told (x ∷ xs) zero h = told x
each_follows table f log told (x ∷ xs) (suc i) h = each_follows table f log told xs i (omega (arith, h))

-- going back over a turn
pub turned_back : (names : List (List ℕ)) (old new : State) (i : ℕ) (p : Changes) → i < length old.externals
    → Turns old new i → IsPatch (seen_at old i).cells (seen_at new i).cells p
    → exchanged names new (External i p) ≡ old
unfolding exchanged
turned_back names old new i p h t q =
    let e = seen_at old i in
    let cells = (seen_at new i).cells in
    let mid = with_cells e cells in
    let found : get_or (set old.externals i mid) i none_seen ≡ mid = get_or-set_same old.externals i mid none_seen h in
    let undone : flipped cells p ≡ e.cells = patch_back e.cells cells p q in
    rw t.state
    (ap (λ es. record old { externals = es })
    (ap (λ z. set (set old.externals i mid) i (with_cells z (flipped z.cells p))) found
    ∙ set-set_same old.externals i mid (with_cells e (flipped cells p))
    ∙ ap (λ cs. set old.externals i (with_cells e cs)) undone
    ∙ set-get_or old.externals i none_seen))

-- a patch of no cell: nothing changed
pub unmoved : (names : List (List ℕ)) (old new : State) (i : ℕ) → i < length old.externals → Turns old new i
    → IsPatch (seen_at old i).cells (seen_at new i).cells [] → new ≡ old
unfolding exchanged
unmoved names old new i h t q = sym
    (ap (λ es. record new { externals = es }) (set-get_or new.externals i none_seen))
    ∙ turned_back names old new i [] h t q

-- a turn keeps the counts of cells
pub counts-turned : (old new : State) (i : ℕ) → Turns old new i
    → counts_of new.externals ≡ counts_of old.externals
counts-turned old new i t =
    ap (λ s. counts_of s.externals) t.state ∙ counts_of-set old.externals i (seen_at new i).cells t.count

-- its patch may be flipped
pub IsReady-turned : (h : Shape) (old new : State) (i : ℕ) (p : Changes) → h.counts ≡ counts_of old.externals
    → i < length old.externals → IsPatch (seen_at old i).cells (seen_at new i).cells p → IsReady h (External i p)
unfolding IsReady
IsReady-turned h old new i p is l q =
    (rw (is, length-counts old.externals) l, rw (is, get_or-counts old.externals i) q.proper)

pub on_ok_both : {T E P Q R : Type 0} (r : Result T E) → (P → Q → R) → OnOk r P → OnOk r Q → OnOk r R
on_ok_both (Ok x) f p q = f p q
on_ok_both (Err e) f p q = tt

pub on_err_both : {T E P Q R : Type 0} (r : Result T E) → (P → Q → R) → OnErr r P → OnErr r Q → OnErr r R
on_err_both (Ok x) f p q = tt
on_err_both (Err e) f p q = f p q

-- what holds either way
pub either : {T E P Q R : Type 0} (r : Result T E) → OnOk r P → OnErr r Q → (P → R) → (Q → R) → R
either (Ok x) p q f h = f p
either (Err e) p q f h = h q

pub map-title : {X : Type 0} (f : X → Seen) (xs : List X) → map (λ x. (f x).title) xs ≡ map (λ s. s.title) (map f xs)
map-title f [] = refl
map-title f (x ∷ xs) = ap (λ ts. (f x).title ∷ ts) (map-title f xs)

-- all but one
pub map-without : {X Y : Type 0} (f : X → Y) (xs : List X) (i : ℕ)
    → map f (take i xs ++ drop (i + 1) xs) ≡ take i (map f xs) ++ drop (i + 1) (map f xs)
map-without f [] zero = refl
map-without f [] (suc i) = let m : suc i + 1 ≡ suc (i + 1) = omega arith in rw m refl
map-without f (x ∷ xs) zero = refl
map-without f (x ∷ xs) (suc i) =
    let m : suc i + 1 ≡ suc (i + 1) = omega arith in rw m (ap (λ ys. f x ∷ ys) (map-without f xs i))

-- a turn keeps the names
pub titles-turned : (es : List Seen) (i : ℕ) (cells : List (List ℕ))
    → map (λ e. e.title) (set es i (with_cells (get_or es i none_seen) cells)) ≡ map (λ e. e.title) es
titles-turned [] i cells = refl
titles-turned (e ∷ es) zero cells = refl
titles-turned (e ∷ es) (suc i) cells = ap (λ ts. e.title ∷ ts) (titles-turned es i cells)

pub on_ok : {T E P Q : Type 0} (r : Result T E) → (P → Q) → OnOk r P → OnOk r Q
on_ok (Ok x) f p = f p
on_ok (Err e) f p = tt

pub on_error : {T E P Q : Type 0} (r : Result T E) → (P → Q) → OnErr r P → OnErr r Q
on_error (Ok x) f p = tt
on_error (Err e) f p = f p
