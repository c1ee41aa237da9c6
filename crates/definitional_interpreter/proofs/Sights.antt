-- What is told of a run is told of each of its parts, and then a turn of it is the computed one.
use Rattle.std.proofs.Common.{◌≡◌, ℕ, zero, suc, ◌<◌, ◌≤◌, List, [], ◌∷◌, ◌++◌, length, Option, Some, None}
use Rattle.std.proofs.Common.{Ok, refl, sym, ap, subst, ◌∙◌, cond, arith}
use Rattle.std.proofs.lemmas.List.{drop-append-le, get_or-set_same, get_or_push, length-append, length-map}
use Rattle.std.proofs.lemmas.List.Elements.{filter-append}
use Rattle.std.specs.Prelude.{drop, is_none, slice_get, slice_index_or, slice_set, IfSome}
use Rattle.externals.specs.Cells.{Seen, none_seen}
use Rattle.externals.specs.Log.{Log, LoggedTurn, IsTurnOf, Follows}
use Rattle.externals.specs.Turns.{Turn, TurnTable}
use Rattle.externals.specs.declared.external.Ask.{Ask}
use Rattle.externals.specs.declared.external.Input.{Input}
use Rattle.journal_entries.specs.State.{seen_at}
use Rattle.change_journal.specs.History.{History}
use Rattle.change_journal.specs.Logs.{log_at, turns_since}
use Rattle.change_journal.specs.Rising.{TookTurn}
use Rattle.meaning.specs.State.{RunState}
use Rattle.preservation.specs.Kinds.{sorts_of, sorts}
use Rattle.preservation.specs.Laws.{IsPrefix}
use Rattle.definitional_interpreter.specs.Told.{Visible, told}
use Rattle.definitional_interpreter.specs.Changes.{turn, take_turn, due_turn}
use Rattle.definitional_interpreter.specs.Turns.{is_nondeterministic, nondeterministic, logs_since}
use Rattle.definitional_interpreter.specs.Laws.{AreTold}
use Rattle.preservation.proofs.Logs.{Kept}
use Rattle.preservation.proofs.Prefixes.{prefix_same, prefix_trans, prefix_length, prefix_drop, all_of_prefix}
use Rattle.definitional_interpreter.proofs.Comes.{HasExternal, Sight, sight, Asks}

pub sort_at : (es : List Seen) (k : ℕ) → slice_index_or (sorts_of es) k 0 ≡ (slice_index_or es k none_seen).sort
sort_at [] k = refl
sort_at (e ∷ es) zero = refl
sort_at (e ∷ es) (suc k) = sort_at es k

prefix_of_nondeterministic : (table : TurnTable) (sort : ℕ) (xs ys : Log) → IsPrefix xs ys →
    IsPrefix (nondeterministic table sort xs) (nondeterministic table sort ys)
prefix_of_nondeterministic table sort xs ys h = (
  nondeterministic table sort h.0,
  ap (nondeterministic table sort) h.1 ∙ filter-append (is_nondeterministic table sort) xs h.0,
)

-- ---- turns since the beginning

-- the logs since, one by one
pub at_since : (old new : List Log) → length old ≡ length new → (i : ℕ) → log_at (logs_since old new) i
    ≡ turns_since old new i
at_since [] [] same i = refl
at_since [] (y ∷ new) same i = let no : ⊥ = cc in absurd no
at_since (x ∷ old) [] same i = let no : ⊥ = cc in absurd no
at_since (x ∷ old) (y ∷ new) same zero = refl
at_since (x ∷ old) (y ∷ new) same (suc i) = at_since old new (omega (arith, same)) i

-- with one turn more
since_set : (old new : List Log) (k : ℕ) (t : LoggedTurn) → length old ≡ length new → length (log_at old k)
    ≤ length (log_at new k) → logs_since old (slice_set new k (log_at new k ++ t ∷ []))
    ≡ slice_set (logs_since old new) k (log_at (logs_since old new) k ++ t ∷ [])
since_set [] [] k t same le = refl
since_set [] (y ∷ new) k t same le = let no : ⊥ = cc in absurd no
since_set (x ∷ old) [] k t same le = let no : ⊥ = cc in absurd no
since_set (x ∷ old) (y ∷ new) zero t same le =
    ap (λ l. l ∷ logs_since old new) (drop-append-le (length x) y (t ∷ []) le)
since_set (x ∷ old) (y ∷ new) (suc k) t same le =
    ap (λ ls. drop (length x) y ∷ ls) (since_set old new k t (omega (arith, same)) le)

-- ---- what is asked

pub asks_first : {g : Sight} {w w1 w2 : History} → Kept w1 w2 → Asks g w w2 → Asks g w w1
asks_first {g} {w} {w1} {w2} kept asked = record {
  logs = asked.logs;
  count = asked.count;
  grown = asked.grown;
  follow = λ i there. all_of_prefix (IsTurnOf g.table (slice_index_or (sorts w) i 0)) (turns_since g.old w1.logs i)
      (turns_since g.old w2.logs i) (since i) (asked.follow i there);
  beside = λ i there. let sort = slice_index_or (sorts w) i 0 in
      prefix_trans (nondeterministic g.table sort (turns_since g.old w1.logs i))
      (nondeterministic g.table sort (turns_since g.old w2.logs i)) (g.turns i)
      (prefix_of_nondeterministic g.table sort (turns_since g.old w1.logs i) (turns_since g.old w2.logs i) (since i))
      (asked.beside i there);
}
  where
    since : (i : ℕ) → IsPrefix (turns_since g.old w1.logs i) (turns_since g.old w2.logs i)
    since i = prefix_drop (length (log_at g.old i)) (log_at w1.logs i) (log_at w2.logs i) (kept.logs i)

pub asks_rest : {g : Sight} {w w1 w2 : History} → Kept w w1 → Asks g w w2 → Asks g w1 w2
asks_rest {g} {w} {w1} {w2} kept asked = record {
  logs = kept.count ∙ asked.logs ∙ ap length (sym kept.kinds);
  count = asked.count ∙ sym kept.count;
  grown = λ i. prefix_trans (log_at g.old i) (log_at w.logs i) (log_at w1.logs i) (asked.grown i) (kept.logs i);
  follow =
      subst
      (λ (kinds : List ℕ). (i : ℕ) → i < length kinds
      → Follows g.table (slice_index_or kinds i 0) (turns_since g.old w2.logs i)) (sym kept.kinds) asked.follow;
  beside =
      subst
      (λ (kinds : List ℕ). (i : ℕ) → i < length kinds
      → IsPrefix (nondeterministic g.table (slice_index_or kinds i 0) (turns_since g.old w2.logs i)) (g.turns i))
      (sym kept.kinds) asked.beside;
}

-- the sight of a run from its beginning
abbrev pub from : TurnTable → (ℕ → Log) → History → Sight
from table turns w = record { table = table; turns = turns; old = w.logs }

pub asks_told : {table : TurnTable} {turns : ℕ → Log} {w w2 : History} → AreTold table turns w w2
    → Asks (from table turns w) w w2
asks_told {table} {turns} {w} {w2} h = record {
  logs = h.logs ∙ sym (length-map w.now.externals (λ e. e.sort));
  count = refl;
  grown = λ i. prefix_same (log_at w.logs i) (log_at w.logs i) refl;
  follow = λ i there. subst (λ sort. Follows table sort (turns_since w.logs w2.logs i))
      (sym (sort_at w.now.externals i)) (h.follow i (within i there));
  beside = λ i there. subst (λ sort. IsPrefix (nondeterministic table sort (turns_since w.logs w2.logs i)) (turns i))
      (sym (sort_at w.now.externals i)) (h.beside i (within i there));
}
  where
    within : (i : ℕ) → i < length (sorts w) → i < length w.now.externals
    within i there = subst (λ n. i < n) (length-map w.now.externals (λ e. e.sort)) there

-- ---- a turn

next_is : (xs ys : Log) (x : LoggedTurn) → slice_get ((xs ++ x ∷ []) ++ ys) (length xs) ≡ Some x
next_is [] ys x = refl
next_is (y ∷ xs) ys x = next_is xs ys x

-- a turn that was taken is the one that is due
module _ (g : Sight) (w w1 : History) (k : ℕ) (input : Input) (ask : Ask) (t : TookTurn w w1 k input ask)
    (there : HasExternal w k) (asked : Asks g w w1) where
  abbrev seen : Seen
  seen = seen_at w.now k

  abbrev taken : LoggedTurn
  taken = record { before = seen.cells; input = input; ask = ask; cells = (seen_at w1.now k).cells }

  logs_are : w1.logs ≡ slice_set w.logs k (log_at w.logs k ++ taken ∷ [])
  logs_are = ap (λ h. h.logs) t.history

  longer : length (log_at g.old k) ≤ length (log_at w.logs k)
  longer = prefix_length (log_at g.old k) (log_at w.logs k) (asked.grown k)

  since_are : turns_since g.old w1.logs k ≡ turns_since g.old w.logs k ++ taken ∷ []
  since_are = ap (λ logs. turns_since g.old logs k) logs_are
      ∙ ap (drop (length (log_at g.old k)))
      (get_or-set_same w.logs k (log_at w.logs k ++ taken ∷ []) []
      (subst (λ n. k < n) (sym asked.logs) there.there))
      ∙ drop-append-le (length (log_at g.old k)) (log_at w.logs k) (taken ∷ []) longer

  follows : IsTurnOf g.table seen.sort taken
  follows =
      let since = turns_since g.old w.logs k in
      let all : Follows g.table seen.sort (since ++ taken ∷ []) =
      subst (Follows g.table seen.sort) since_are
      (subst (λ sort. Follows g.table sort (turns_since g.old w1.logs k)) (sort_at w.now.externals k)
      (asked.follow k there.there)) in
      subst (IsTurnOf g.table seen.sort) (get_or_push since taken taken (length since) refl)
      (all (length since) taken (omega (arith, length-append since (taken ∷ []))))

  is_due : (due : Option Turn) → g.table seen.sort seen.cells input ≡ due → due_turn (sight g w) k input due
      ≡ Some taken
  is_due (Some d) is =
      let same : (ask ≡ d.0) × ((seen_at w1.now k).cells ≡ d.1) =
      subst (λ o. IfSome o (λ d. (ask ≡ d.0) × ((seen_at w1.now k).cells ≡ d.1))) is follows in
      λ i. Some (record { before = seen.cells; input = input; ask = sym same.0 i; cells = sym same.1 i })
  is_due None is =
      let since = turns_since g.old w.logs k in
      let beside = nondeterministic g.table seen.sort since in
      let head : IsPrefix (nondeterministic g.table seen.sort (turns_since g.old w1.logs k)) (g.turns k) =
      subst (λ sort. IsPrefix (nondeterministic g.table sort (turns_since g.old w1.logs k)) (g.turns k))
      (sort_at w.now.externals k) (asked.beside k there.there) in
      let beside_are : nondeterministic g.table seen.sort (turns_since g.old w1.logs k) ≡ beside ++ taken ∷ [] =
      ap (nondeterministic g.table seen.sort) since_are
      ∙ filter-append (is_nondeterministic g.table seen.sort) since (taken ∷ [])
      ∙ ap (λ o. beside ++ cond (is_none o) (taken ∷ []) []) is in
      ap (λ (log : Log). slice_get (g.turns k) (length (nondeterministic g.table seen.sort log)))
      (at_since g.old w.logs asked.count k)
      ∙ ap (λ (log : Log). slice_get log (length beside)) (head.1 ∙ ap (λ log. log ++ head.0) beside_are)
      ∙ next_is beside head.0 taken

  pub computes : (r : RunState) → turn (sight g w) r k input ≡ told (Ok ask) (sight g w1) r
  computes r =
      let u : Visible = sight g w in
      let logs : slice_set u.logs k (log_at u.logs k ++ taken ∷ []) ≡ logs_since g.old w1.logs =
      sym (since_set g.old w.logs k taken asked.count longer) ∙ ap (logs_since g.old) (sym logs_are) in
      ap (take_turn u r k) (is_due (g.table seen.sort seen.cells input) refl)
      ∙ (λ i. told (Ok ask) (record u { now = sym t.turn.state i; logs = logs i }) r)
