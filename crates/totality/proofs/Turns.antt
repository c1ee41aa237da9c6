-- A turn of a behaviour is a turn of an open history.
use Rattle.std.proofs.Common.{◌≡◌, ℕ, zero, suc, ◌<◌, List, [], ◌∷◌, length, Some, Result, refl, sym, ap, subst, ◌∙◌}
use Rattle.std.proofs.Common.{arith, All, slice_index_or, slice_set}
use Rattle.ht_values.specs.Text.{IsText}
use Rattle.externals.specs.Cells.{Seen, none_seen}
use Rattle.externals.specs.Turns.{Turn}
use Rattle.externals.specs.declared.external.Ask.{Ask}
use Rattle.externals.specs.declared.external.Input.{Input}
use Rattle.journal_entries.specs.Exchange.{with_cells}
use Rattle.journal_entries.specs.Replaced.{replaced_by_turn}
use Rattle.journal_entries.specs.State.{seen_at}
use Rattle.journal_entries.specs.Turning.{with_cells_at, logs_after}
use Rattle.change_journal.specs.History.{Open, History}
use Rattle.change_journal.specs.Logs.{log_at}
use Rattle.change_journal.specs.Rising.{BothOpen, Rises, TookTurn, trail_after_turn}
use Rattle.meaning.specs.declared.end.Stop.{Stop}
use Rattle.meaning.specs.State.{RunState}
use Rattle.totality.specs.Laws.{Behaves}
use Rattle.totality.proofs.Behaving.{TurnTexts}
use Rattle.totality.proofs.Chain.{Begun, Underway, Has}

-- the history after a turn of the k-th external
abbrev with_turn : History → Open → ℕ → Input → Turn → History
with_turn w batch k input t = record w {
  now = with_cells_at w.now k t.1;
  start = Some (record batch {
    trail = trail_after_turn
        (replaced_by_turn k (seen_at w.now k).cells (seen_at (with_cells_at w.now k t.1) k).cells) batch.trail;
  });
  logs = logs_after w.logs w.now (with_cells_at w.now k t.1) k input t.0;
}

takes : (w : History) (batch : Open) (k : ℕ) (input : Input) (t : Turn) → w.start ≡ Some batch →
    (seen_at (with_cells_at w.now k t.1) k).cells ≡ t.1 → length t.1 ≡ length (seen_at w.now k).cells → TurnTexts t →
    TookTurn w (with_turn w batch k input t) k input t.0
takes w batch k input t e cells count texts = record {
  turn = record { count = ap length cells ∙ count; state = ap (with_cells_at w.now k) (sym cells) };
  asks = texts.0;
  cells = subst (All IsText) (sym cells) texts.1;
  history = refl;
  start =
      subst
      (λ s. BothOpen s (with_turn w batch k input t).start
      (λ o p. let replaced = replaced_by_turn k (seen_at w.now k).cells (seen_at (with_cells_at w.now k t.1) k).cells
      in Rises replaced (trail_after_turn replaced o.trail) o p))
      (sym e) (record { state = refl; number = refl; undo = omega arith; redo = omega arith; trail = refl });
}

-- the cells after a turn that leaves as many
cells_after : (es : List Seen) (k : ℕ) (cells : List (List ℕ)) →
    length cells ≡ length (slice_index_or es k none_seen).cells →
    (slice_index_or (slice_set es k (with_cells (slice_index_or es k none_seen) cells)) k none_seen).cells ≡ cells
cells_after [] k [] count = refl
cells_after [] k (c ∷ cells) count = cc
cells_after (s ∷ es) zero cells count = refl
cells_after (s ∷ es) (suc k) cells count = cells_after es k cells count

-- A turn of an external that is there, and then.
pub then_turn : {B : Type 0} {begun : Begun} {n : ℕ} {Q : Result B Stop → History → RunState → Type 0} (w : History)
    (r : RunState) (k : ℕ) (input : Input) → k < length w.now.externals → Underway begun n w r →
    ((ask : Ask) (w1 : History) → Underway begun n w1 r → TookTurn w w1 k input ask → Has begun n Q) → Has begun n Q
then_turn {begun = begun} w r k input there goes goes_on =
    let before = (seen_at w.now k).cells in
    let t : Turn = begun.behaviour k (log_at w.logs k) before input in
    let count = begun.safe.counts k (log_at w.logs k) before input in
    let cells = cells_after w.now.externals k t.1 count in
    let took = takes w goes.is_open.batch k input t goes.is_open.is cells count
    (begun.safe.texts k (log_at w.logs k) before input) in
    goes_on t.0 (with_turn w goes.is_open.batch k input t)
    (record {
      is_open = record {
        batch = _;
        is = refl;
        behaves = Behaves.took_turn goes.is_open.behaves there took (λ i. (t.0, sym cells i));
      };
      left = goes.left;
    }) took
