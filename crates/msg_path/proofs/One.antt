-- The first handler is one.
use Rattle.std.proofs.Common.{◌≡◌, sym, ◌∙◌, ap, subst, ℕ, List, [], ◌∷◌, Option, Some, None, Result, Ok}
use Rattle.ht_values.specs.declared.fault.Fault.{Fault}
use Rattle.ht_grammar.specs.declared.vocabulary.HandlerKind.{HandlerKind}
use Rattle.ht_grammar.specs.Statements.{Handler, Handlers}
use Rattle.ht_grammar.specs.Handlers.{handler_in}
use Rattle.ht_grammar.specs.Reads.{Reads, ReadsScript}
use Rattle.ht_grammar.specs.Laws.{OneTreePerText}
use Rattle.object_table.specs.Content.{Content}
use Rattle.journal_entries.specs.ScriptTrees.{object_script}
use Rattle.msg_path.specs.Handlers.{HandlerFound, First}
use Rattle.msg_path.specs.Handlers as first
use Rattle.msg_path.specs.Laws.{FirstIsOne}

empty_or_not : {path rest : List ℕ} {i : ℕ} → path ≡ [] → path ≡ i ∷ rest → ⊥
empty_or_not e f = cc

heads : {path rest other : List ℕ} {i j : ℕ} → path ≡ i ∷ rest → path ≡ j ∷ other → i ≡ j
heads e f = cc

tails : {path rest other : List ℕ} {i j : ℕ} → path ≡ i ∷ rest → path ≡ j ∷ other → rest ≡ other
tails e f = cc

some_or_none : {o : Option Handler} {h : Handler} → o ≡ Some h → o ≡ None → ⊥
some_or_none e f = cc

one_handler : {o : Option Handler} {h g : Handler} → o ≡ Some h → o ≡ Some g → h ≡ g
one_handler e f = cc

abbrev outcome : ℕ → Handler → Result (Option HandlerFound) Fault
outcome i h = Ok (Some (record { object = i; handler = h }))

outcomes : {i j : ℕ} {h g : Handler} → i ≡ j → h ≡ g → outcome i h ≡ outcome j g
outcomes {i} {j} {h} {g} e f = ap (λ (k : ℕ). outcome k h) e ∙ ap (λ (k : Handler). outcome j k) f

-- what the first script of a path is read as
moved : (s : Content) {path rest other : List ℕ} {i j : ℕ} {gs : Handlers} → path ≡ i ∷ rest → path ≡ j ∷ other
    → Reads ReadsScript (object_script s j) gs → Reads ReadsScript (object_script s i) gs
moved s {gs = gs} e f r = subst (λ (k : ℕ). Reads ReadsScript (object_script s k) gs) (sym (heads e f)) r

-- where two paths are one, their first scripts have the same handlers
same_handler : OneTreePerText ReadsScript
    → (s : Content) (kind : HandlerKind) (name : List ℕ) {path rest other : List ℕ} {i j : ℕ} {hs gs : Handlers}
    → path ≡ i ∷ rest → path ≡ j ∷ other → Reads ReadsScript (object_script s i) hs
    → Reads ReadsScript (object_script s j) gs → handler_in hs kind name ≡ handler_in gs kind name
same_handler law s kind name {i = i} {hs = hs} {gs = gs} e f r t =
    ap (λ (x : Handlers). handler_in x kind name) (law (object_script s i) hs gs r (moved s e f t))

pub first_one : OneTreePerText ReadsScript → FirstIsOne
first_one law s path kind name o q (first.nothing_left e a) (first.nothing_left f b) = a ∙ sym b
first_one law s path kind name o q (first.nothing_left e a) (first.here f r h b) = absurd (empty_or_not e f)
first_one law s path kind name o q (first.nothing_left e a) (first.further_on f r h b) = absurd (empty_or_not e f)
first_one law s path kind name o q (first.nothing_left e a) (first.no_script f r b) = absurd (empty_or_not e f)
first_one law s path kind name o q (first.here e r h a) (first.nothing_left f b) = absurd (empty_or_not f e)
first_one law s path kind name o q (first.here e r h a) (first.here f t g b) =
    a ∙ (outcomes (heads e f) (one_handler h (same_handler law s kind name e f r t ∙ g)) ∙ sym b)
first_one law s path kind name o q (first.here e r h a) (first.further_on f t g b) =
    absurd (some_or_none h (same_handler law s kind name e f r t ∙ g))
first_one law s path kind name o q (first.here e r h a) (first.no_script f t b) = absurd (t _ (moved s f e r))
first_one law s path kind name o q (first.further_on e r h p) (first.nothing_left f b) = absurd (empty_or_not f e)
first_one law s path kind name o q (first.further_on e r h p) (first.here f t g b) =
    absurd (some_or_none g (same_handler law s kind name f e t r ∙ h))
first_one law s path kind name o q (first.further_on {rest = rest} e r h p) (first.further_on f t g p2) =
    first_one law s rest kind name o q p (subst (λ (k : List ℕ). First s k kind name q) (sym (tails e f)) p2)
first_one law s path kind name o q (first.further_on e r h p) (first.no_script f t b) = absurd (t _ (moved s f e r))
first_one law s path kind name o q (first.no_script e r a) (first.nothing_left f b) = absurd (empty_or_not f e)
first_one law s path kind name o q (first.no_script e r a) (first.here f t g b) = absurd (r _ (moved s e f t))
first_one law s path kind name o q (first.no_script e r a) (first.further_on f t g p2) = absurd (r _ (moved s e f t))
first_one law s path kind name o q (first.no_script e r a) (first.no_script f t b) = a ∙ sym b
