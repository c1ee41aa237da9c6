-- Turns that are told, in logs that grow.
use Rattle.std.proofs.Common.{◌≡◌, ℕ, zero, suc, ◌<◌, List, [], ◌++◌, length, refl, sym, ap, subst, ◌∙◌, append_assoc}
use Rattle.std.proofs.Common.{arith, drop, slice_index_or}
use Rattle.std.proofs.Math.Seq.{drop-append_seam}
use Rattle.std.proofs.lemmas.List.{ext_get_or, length-map}
use Rattle.std.proofs.lemmas.List.Elements.{All-drop, filter-append}
use Rattle.externals.specs.Log.{Log, IsTurnOf, Follows}
use Rattle.externals.specs.Turns.{TurnTable, no_table}
use Rattle.journal_entries.specs.State.{seen_at}
use Rattle.change_journal.specs.History.{History}
use Rattle.change_journal.specs.Logs.{log_at, turns_since}
use Rattle.preservation.specs.Kinds.{sorts_of}
use Rattle.preservation.specs.Laws.{IsPrefix}
use Rattle.preservation.proofs.Prefixes.{prefix_same, all_of_prefix}
use Rattle.definitional_interpreter.specs.Laws.{AreTold, DeterministicKindsHaveNoTurnsToTell}
use Rattle.definitional_interpreter.specs.Laws.{WithNoTableAllTurnsHaveToBeTold}
use Rattle.definitional_interpreter.specs.Turns.{is_nondeterministic, nondeterministic, logs_since}
use Rattle.definitional_interpreter.proofs.Sights.{sort_at, at_since}
use Rattle.transcripts.specs.Laws.{TablesTellTurns, LogsTellTurns, KitIsDeterministic}
use Rattle.transcripts.specs.Replies.{IsToldBy, AreToldBy}
use Rattle.transcripts.proofs.Grown.{Grows}

-- what is told of a log is told of its head
told_head : {table : TurnTable} {turns : Log} {kind : ℕ} (log new : Log) → IsPrefix log new →
    IsToldBy table turns kind new → IsToldBy table turns kind log
told_head {table} {turns} {kind} log new head told = record {
  follows = all_of_prefix (IsTurnOf table kind) log new head told.follows;
  beside = (
    nondeterministic table kind head.0 ++ told.beside.0,
    told.beside.1 ∙ ap (λ l. nondeterministic table kind l ++ told.beside.0) head.1
        ∙ ap (λ l. l ++ told.beside.0) (filter-append (is_nondeterministic table kind) log head.0)
        ∙ append_assoc (nondeterministic table kind log) (nondeterministic table kind head.0) told.beside.0,
  );
}

pub told_before : (table : TurnTable) (turns : ℕ → Log) (kinds : List ℕ) (old new : List Log) → Grows old new →
    AreToldBy table turns kinds new → AreToldBy table turns kinds old
told_before table turns kinds old new grown told i there =
    told_head (log_at old i) (log_at new i) (grown.logs i) (told i there)

-- ---- since a run began

-- the turns beside the table that come after those of a log
abbrev pub turns_after : TurnTable → (ℕ → Log) → List ℕ → List Log → ℕ → Log
turns_after table turns kinds old i =
    drop (length (nondeterministic table (slice_index_or kinds i 0) (log_at old i))) (turns i)

since_is : (xs ys : Log) (h : IsPrefix xs ys) → drop (length xs) ys ≡ h.0
since_is xs ys h = ap (drop (length xs)) h.1 ∙ drop-append_seam xs h.0

nondeterministic_since : (table : TurnTable) (turns : Log) (kind : ℕ) (old new : Log) → IsPrefix old new →
    IsPrefix (nondeterministic table kind new) turns →
    IsPrefix (nondeterministic table kind (drop (length old) new))
    (drop (length (nondeterministic table kind old)) turns)
nondeterministic_since table turns kind old new grown beside =
    let more : Log = nondeterministic table kind grown.0 in
    let before : Log = nondeterministic table kind old in
    let whole : turns ≡ before ++ (more ++ beside.0) =
    beside.1 ∙ ap (λ l. nondeterministic table kind l ++ beside.0) grown.1
    ∙ ap (λ l. l ++ beside.0) (filter-append (is_nondeterministic table kind) old grown.0)
    ∙ append_assoc before more beside.0 in (
      beside.0,
      ap (drop (length before)) whole ∙ drop-append_seam before (more ++ beside.0)
          ∙ ap (λ l. nondeterministic table kind l ++ beside.0) (sym (since_is old new grown)),
    )

-- the turns of a run are told, where those of its logs at the end are
pub told_since : {table : TurnTable} {turns : ℕ → Log} {kinds : List ℕ} (w w2 : History) →
    sorts_of w.now.externals ≡ kinds → length w.logs ≡ length kinds → Grows w.logs w2.logs →
    AreToldBy table turns kinds w2.logs → AreTold table (turns_after table turns kinds w.logs) w w2
told_since {table} {turns} {kinds} w w2 sorts logs grown told = record {
  logs = logs ∙ sym (ap length sorts) ∙ length-map w.now.externals (λ e. e.sort);
  follow = λ i there.
      subst (λ kind. Follows table kind (turns_since w.logs w2.logs i)) (kind_at i)
      (All-drop (IsTurnOf table (slice_index_or kinds i 0)) (length (log_at w.logs i)) (log_at w2.logs i)
      (told i (within i there)).follows);
  beside = λ i there.
      subst (λ kind. IsPrefix (nondeterministic table kind (turns_since w.logs w2.logs i))
      (turns_after table turns kinds w.logs i)) (kind_at i)
      (nondeterministic_since table (turns i) (slice_index_or kinds i 0) (log_at w.logs i) (log_at w2.logs i)
      (grown.logs i) (told i (within i there)).beside);
}
  where
    kind_at : (i : ℕ) → slice_index_or kinds i 0 ≡ (seen_at w.now i).sort
    kind_at i = ap (λ ks. slice_index_or ks i 0) (sym sorts) ∙ sort_at w.now.externals i

    within : (i : ℕ) → i < length w.now.externals → i < length kinds
    within i there =
        subst (λ n. i < n) (sym (length-map w.now.externals (λ e. e.sort)) ∙ ap length sorts) there

-- ---- logs by the turns since

-- logs that grew from the same ones by the same turns are the same
pub logs_by_since : (old a b : List Log) → Grows old a → Grows old b → logs_since old a ≡ logs_since old b → a ≡ b
logs_by_since old a b first second same =
    ext_get_or [] a b (first.count ∙ sym second.count) (λ i there.
    (first.logs i).1
    ∙ ap (λ l. log_at old i ++ l)
    (sym (since_is (log_at old i) (log_at a i) (first.logs i)) ∙ sym (at_since old a (sym first.count) i)
    ∙ ap (λ ls. log_at ls i) same ∙ at_since old b (sym second.count) i
    ∙ since_is (log_at old i) (log_at b i) (second.logs i))
    ∙ sym (second.logs i).1)

-- ---- what tells turns

pub tables_tell : DeterministicKindsHaveNoTurnsToTell → TablesTellTurns
tables_tell none table kinds logs fixed follow i there = record {
  follows = follow i there;
  beside = prefix_same (nondeterministic table (slice_index_or kinds i 0) (log_at logs i)) []
      (sym (none table (slice_index_or kinds i 0) (log_at logs i) (fixed i there)));
}

pub logs_tell : WithNoTableAllTurnsHaveToBeTold → LogsTellTurns
logs_tell all kinds logs i there = record {
  follows = λ k d within. tt;
  beside = prefix_same (nondeterministic no_table (slice_index_or kinds i 0) (log_at logs i)) (log_at logs i)
      (sym (all (slice_index_or kinds i 0) (log_at logs i)));
}

pub kit_is_fixed : KitIsDeterministic
kit_is_fixed zero there = λ cells input. (_, refl)
kit_is_fixed (suc zero) there = λ cells input. (_, refl)
kit_is_fixed (suc (suc zero)) there = λ cells input. (_, refl)
kit_is_fixed (suc (suc (suc zero))) there = λ cells input. (_, refl)
kit_is_fixed (suc (suc (suc (suc i)))) there = absurd (omega (arith, there))
