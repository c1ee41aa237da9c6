-- What a behaviour leaves in the logs; and which behaviour it was.
use Rattle.std.proofs.Common.{◌≡◌, ◌⊎◌, inl, inr, ℕ, ◌<◌, List, [], ◌∷◌, ◌++◌, length, Option, Some, None, refl, sym}
use Rattle.std.proofs.Common.{ap, subst, ◌∙◌, arith, All, IfSome, drop, slice_index_or}
use Rattle.std.specs.List.{AllByRecursion}
use Rattle.std.proofs.lemmas.Bool.{cases_eq}
use Rattle.std.proofs.lemmas.List.{append_assoc, append-nil, get_or-set_same, get_or-set_other, get_or_push}
use Rattle.std.proofs.lemmas.List.{length-append, length-map}
use Rattle.std.proofs.lemmas.List.Elements.{All-from_recursion}
use Rattle.externals.specs.Cells.{none_seen}
use Rattle.externals.specs.Log.{Log, LoggedTurn, IsTurnOf}
use Rattle.externals.specs.Turns.{Turn, TurnTable}
use Rattle.externals.specs.declared.external.Ask.{Ask}
use Rattle.externals.specs.declared.external.Input.{Input}
use Rattle.journal_entries.specs.declared.change.Change.{Change}
use Rattle.journal_entries.specs.State.{seen_at}
use Rattle.change_journal.specs.History.{History}
use Rattle.change_journal.specs.Logs.{HaveLogs, log_at, turns_since}
use Rattle.change_journal.specs.Rising.{Made, TookTurn}
use Rattle.change_journal.proofs.Making.{externals-changed}
use Rattle.preservation.proofs.Logs.{Kept, kept_refl, kept_trans, kept_made, kept_took}
use Rattle.preservation.proofs.Prefixes.{all_of_prefix, goes_on, prefix_drop, rest_is}
use Rattle.whole_states.specs.Texts.{LoggedTexts}
use Rattle.totality.specs.Laws.{Behaviour, IsBehaviour, IsTurnBy, Behaves, AreTurnsBy, BehavioursAreLogged}
use Rattle.totality.specs.Laws.{BehavioursFollowTables}
use Rattle.totality.proofs.Behaving.{safe, safe_is}

-- ---- what stays

kept_so : {behaviour : Behaviour} {w w2 : History} → Behaves behaviour w w2 → Kept w w2
kept_so Behaves.begins = kept_refl
kept_so (Behaves.made behaves m) = kept_trans (kept_so behaves) (kept_made m)
kept_so (Behaves.took_turn behaves there took is) = kept_trans (kept_so behaves) (kept_took took)

-- an external that is there has a log
log_there : {w old : History} {i : ℕ} → HaveLogs w.now w.logs → Kept w old → i < length old.now.externals →
    i < length old.logs
log_there {w} {old} logs kept there =
    let kinds = ap length kept.kinds in
    let count = kept.count in
    omega (
      arith,
      there,
      logs,
      kinds,
      count,
      length-map w.now.externals (λ e. e.sort),
      length-map old.now.externals (λ e. e.sort),
    )

-- ---- which behaviour it was

-- the turn that was taken
abbrev taken : (old new : History) → ℕ → Input → Ask → LoggedTurn
taken old new i input ask =
    record { before = (seen_at old.now i).cells; input = input; ask = ask; cells = (seen_at new.now i).cells }

log_after : {old new : History} {i : ℕ} {input : Input} {ask : Ask} → i < length old.logs →
    TookTurn old new i input ask → log_at new.logs i ≡ log_at old.logs i ++ taken old new i input ask ∷ []
log_after {old} {new} {i} {input} {ask} there took = ap (λ h. log_at h.logs i) took.history
    ∙ get_or-set_same old.logs i (log_at old.logs i ++ taken old new i input ask ∷ []) [] there

-- the turns before are a front of those after
earlier : (w : History) {old new : History} → Kept old new →
    ((i : ℕ) → All LoggedTexts (turns_since w.logs new.logs i)) → (i : ℕ) →
    All LoggedTexts (turns_since w.logs old.logs i)
earlier w {old} {new} kept texts i =
    all_of_prefix LoggedTexts (turns_since w.logs old.logs i) (turns_since w.logs new.logs i)
    (prefix_drop (length (log_at w.logs i)) (log_at old.logs i) (log_at new.logs i) (kept.logs i)) (texts i)

-- the turns since, with the last one
since_after : {w old new : History} {i : ℕ} {input : Input} {ask : Ask} → Kept w old → i < length old.logs →
    TookTurn old new i input ask → turns_since w.logs new.logs i
    ≡ turns_since w.logs old.logs i ++ taken old new i input ask ∷ []
since_after {w} {old} {new} {i} {input} {ask} kept there took =
    let turn = taken old new i input ask ∷ [] in
    let since = turns_since w.logs old.logs i in
    rest_is (log_at w.logs i) (log_at new.logs i) (since ++ turn)
    (log_after there took
    ∙ ap (λ log. log ++ turn) (goes_on (log_at w.logs i) (log_at old.logs i) (kept.logs i))
    ∙ append_assoc (log_at w.logs i) since turn)

-- the last turn is one of texts
last_texts : {w old new : History} {i : ℕ} {input : Input} {ask : Ask} → Kept w old → i < length old.logs →
    TookTurn old new i input ask → All LoggedTexts (turns_since w.logs new.logs i) →
    LoggedTexts (taken old new i input ask)
last_texts {w} {old} {new} {i} {input} {ask} kept there took texts =
    let since = turns_since w.logs old.logs i in
    let turn = taken old new i input ask in
    subst LoggedTexts (get_or_push since turn turn (length since) refl)
    (subst (All LoggedTexts) (since_after kept there took) texts (length since) turn
    (omega (arith, length-append since (turn ∷ []))))

-- Where each turn was of texts, the turns are those of the behaviour itself.
pub behaves_so : {behaviour : Behaviour} {w w2 : History} → IsBehaviour behaviour → HaveLogs w.now w.logs →
    ((i : ℕ) → All LoggedTexts (turns_since w.logs w2.logs i)) → Behaves (safe behaviour) w w2 → Behaves behaviour w w2
behaves_so is logs texts Behaves.begins = Behaves.begins
behaves_so {w = w} is logs texts (Behaves.made behaves m) =
    Behaves.made (behaves_so is logs (earlier w (kept_made m) texts) behaves) m
behaves_so {behaviour} {w} is logs texts
    (Behaves.took_turn {old = old} {i = i} {input = input} behaves there took turn) =
    let kept = kept_so behaves in
    let last = last_texts kept (log_there logs kept there) took (texts i) in
    let same = safe_is behaviour is i (log_at old.logs i) (seen_at old.now i).cells input last.before last.input in
    Behaves.took_turn (behaves_so is logs (earlier w (kept_took took) texts) behaves) there took (sym same ∙ turn)

-- ---- what it leaves in the logs

-- the cells after these turns
abbrev cells_then : List (List ℕ) → Log → List (List ℕ)
cells_then cells [] = cells
cells_then cells (turn ∷ turns) = cells_then turn.cells turns

-- another turn of a behaviour behind some
one_more : (gives : Log → List (List ℕ) → Input → Turn) (log : Log) (cells : List (List ℕ)) (turns : Log)
    (turn : LoggedTurn) → AreTurnsBy gives log cells turns → turn.before ≡ cells_then cells turns →
    gives (log ++ turns) (cells_then cells turns) turn.input ≡ (turn.ask, turn.cells) →
    AreTurnsBy gives log cells (turns ++ turn ∷ [])
one_more gives log cells [] turn are before is =
    (before, subst (λ l. gives l cells turn.input ≡ (turn.ask, turn.cells)) (append-nil log) is, tt)
one_more gives log cells (first ∷ turns) turn are before is = (
  are.0,
  are.1,
  one_more gives (log ++ first ∷ []) first.cells turns turn are.2 before
      (subst (λ l. gives l (cells_then first.cells turns) turn.input ≡ (turn.ask, turn.cells))
      (sym (append_assoc log (first ∷ []) turns)) is),
)

cells_behind : (cells : List (List ℕ)) (turns : Log) (turn : LoggedTurn) →
    cells_then cells (turns ++ turn ∷ []) ≡ turn.cells
cells_behind cells [] turn = refl
cells_behind cells (first ∷ turns) turn = cells_behind first.cells turns turn

-- the turns of the i-th external since are those of the behaviour, up to the cells that it has
record IsLogged (behaviour : Behaviour) (w new : History) (i : ℕ) : Type 0 where
  cells : (seen_at new.now i).cells ≡ cells_then (seen_at w.now i).cells (turns_since w.logs new.logs i)
  are : AreTurnsBy (behaviour i) (log_at w.logs i) (seen_at w.now i).cells (turns_since w.logs new.logs i)

-- what changes neither its log nor what is seen of it
stays : {behaviour : Behaviour} {w old new : History} {i : ℕ} → IsLogged behaviour w old i →
    log_at new.logs i ≡ log_at old.logs i → seen_at new.now i ≡ seen_at old.now i → IsLogged behaviour w new i
stays {behaviour} {w} {old} {new} {i} l log seen =
    let same : turns_since w.logs old.logs i ≡ turns_since w.logs new.logs i =
    ap (drop (length (log_at w.logs i))) (sym log) in
    record {
      cells = ap (λ s. s.cells) seen ∙ l.cells ∙ ap (cells_then (seen_at w.now i).cells) same;
      are = subst (AreTurnsBy (behaviour i) (log_at w.logs i) (seen_at w.now i).cells) same l.are;
    }

after_change : {behaviour : Behaviour} {w old new : History} {i : ℕ} {c : Change} → IsLogged behaviour w old i →
    Made old new c → IsLogged behaviour w new i
after_change {old = old} {i = i} {c} l made =
    stays l (ap (λ h. log_at h.logs i) made.history)
    (ap (λ h. seen_at h.now i) made.history ∙
    ap (λ es. slice_index_or es i none_seen) (externals-changed old.now c))

-- a turn of another external
after_other : {behaviour : Behaviour} {w old new : History} {i k : ℕ} {input : Input} {ask : Ask} →
    IsLogged behaviour w old i → TookTurn old new k input ask → (i ≡ k → ⊥) → IsLogged behaviour w new i
after_other {old = old} {i = i} {k} l took other =
    stays l (ap (λ h. log_at h.logs i) took.history ∙ get_or-set_other old.logs k i _ [] other)
    (ap (λ s. seen_at s i) took.turn.state ∙ get_or-set_other old.now.externals k i _ none_seen other)

-- a turn of this one
after_own : {behaviour : Behaviour} {w old new : History} {i : ℕ} {input : Input} {ask : Ask} → Kept w old →
    i < length old.logs → IsLogged behaviour w old i → TookTurn old new i input ask →
    IsTurnBy behaviour old new i input ask → IsLogged behaviour w new i
after_own {behaviour} {w} {old} {new} {i} {input} {ask} kept there l took is =
    let turn : LoggedTurn = taken old new i input ask in
    let since = turns_since w.logs old.logs i in
    let first = (seen_at w.now i).cells in
    let same : since ++ turn ∷ [] ≡ turns_since w.logs new.logs i = sym (since_after kept there took) in
    let own : behaviour i (log_at w.logs i ++ since) (cells_then first since) input ≡ (turn.ask, turn.cells) =
    subst (λ log. behaviour i log (cells_then first since) input ≡ (turn.ask, turn.cells))
    (goes_on (log_at w.logs i) (log_at old.logs i) (kept.logs i))
    (subst (λ cells. behaviour i (log_at old.logs i) cells input ≡ (turn.ask, turn.cells)) l.cells is) in
    record {
      cells = sym (cells_behind first since turn) ∙ ap (cells_then first) same;
      are = subst (AreTurnsBy (behaviour i) (log_at w.logs i) first) same
          (one_more (behaviour i) (log_at w.logs i) first since turn l.are l.cells own);
    }

after_turn : {behaviour : Behaviour} {w old new : History} {i k : ℕ} {input : Input} {ask : Ask} → Kept w old →
    i < length old.logs → IsLogged behaviour w old i → TookTurn old new k input ask →
    IsTurnBy behaviour old new k input ask → (i ≡ k) ⊎ (i ≡ k → ⊥) → IsLogged behaviour w new i
after_turn {behaviour} {old = old} {new} {input = input} {ask} kept there l took is (inl same) =
    after_own kept there l (subst (λ j. TookTurn old new j input ask) (sym same) took)
    (subst (λ j. IsTurnBy behaviour old new j input ask) (sym same) is)
after_turn kept there l took is (inr other) = after_other l took other

logged : {behaviour : Behaviour} {w w2 : History} (i : ℕ) → i < length w.logs → Behaves behaviour w w2 →
    IsLogged behaviour w w2 i
logged {behaviour} {w} i there Behaves.begins =
    let none : [] ≡ turns_since w.logs w.logs i =
    sym (rest_is (log_at w.logs i) (log_at w.logs i) [] (sym (append-nil (log_at w.logs i)))) in
    let cells = (seen_at w.now i).cells in
    record {
      cells = ap (cells_then cells) none;
      are = subst (AreTurnsBy (behaviour i) (log_at w.logs i) cells) none tt;
    }
logged i there (Behaves.made behaves made) = after_change (logged i there behaves) made
logged i there (Behaves.took_turn {i = k} behaves stands took is) =
    let kept = kept_so behaves in
    after_turn kept (subst (λ n. i < n) (sym kept.count) there) (logged i there behaves) took is (cases_eq i k)

pub behaviours_are_logged : BehavioursAreLogged
behaviours_are_logged behaviour w w2 i there behaves =
    (goes_on (log_at w.logs i) (log_at w2.logs i) ((kept_so behaves).logs i), (logged i there behaves).are)

-- ---- tables

one_turn : (due : Option Turn) (t : Turn) (turn : LoggedTurn) → t ≡ (turn.ask, turn.cells) → IfSome due (λ d. t ≡ d) →
    IfSome due (λ d. (turn.ask ≡ d.0) × (turn.cells ≡ d.1))
one_turn None t turn is by = tt
one_turn (Some d) t turn is by = let same = sym is ∙ by in (ap (λ x. x.0) same, ap (λ x. x.1) same)

all_turns : (table : TurnTable) (sort : ℕ) (gives : Log → List (List ℕ) → Input → Turn) →
    ((log : Log) (cells : List (List ℕ)) (input : Input) →
    IfSome (table sort cells input) (λ d. gives log cells input ≡ d)) → (log : Log) (cells : List (List ℕ))
    (turns : Log) → AreTurnsBy gives log cells turns → AllByRecursion (IsTurnOf table sort) turns
all_turns table sort gives by log cells [] are = tt
all_turns table sort gives by log cells (turn ∷ turns) are = (
  one_turn (table sort turn.before turn.input) (gives log turn.before turn.input) turn
      (ap (λ before. gives log before turn.input) are.0 ∙ are.1) (by log turn.before turn.input),
  all_turns table sort gives by (log ++ turn ∷ []) turn.cells turns are.2,
)

pub behaviours_follow_tables : BehavioursFollowTables
behaviours_follow_tables table behaviour w w2 logs by behaves i there =
    let turns = turns_since w.logs w2.logs i in
    let has_log = subst (λ n. i < n) (sym logs) there in
    All-from_recursion (IsTurnOf table (seen_at w.now i).sort) turns
    (all_turns table (seen_at w.now i).sort (behaviour i) (by i) (log_at w.logs i) (seen_at w.now i).cells turns
    (behaviours_are_logged behaviour w w2 i has_log behaves).1)
