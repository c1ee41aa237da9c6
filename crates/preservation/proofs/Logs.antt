-- Along changes and turns the same externals stay, and each log only goes on.
use Rattle.std.proofs.Common.{◌≡◌, ℕ, zero, suc, List, [], ◌∷◌, length, refl, sym, ap, subst, ◌∙◌, length-set}
use Rattle.std.specs.Prelude.{slice_index_or, slice_set}
use Rattle.externals.specs.Cells.{Seen, none_seen}
use Rattle.externals.specs.Log.{Log}
use Rattle.externals.specs.declared.external.Ask.{Ask}
use Rattle.externals.specs.declared.external.Input.{Input}
use Rattle.journal_entries.specs.declared.change.Change.{Change}
use Rattle.journal_entries.specs.Exchange.{with_cells}
use Rattle.journal_entries.specs.State.{seen_at}
use Rattle.change_journal.specs.History.{History}
use Rattle.change_journal.specs.Logs.{log_at}
use Rattle.change_journal.specs.Rising.{Made, TookTurn}
use Rattle.change_journal.proofs.Making.{externals-changed}
use Rattle.preservation.specs.Kinds.{sorts_of, sorts}
use Rattle.preservation.specs.Laws.{IsPrefix}
use Rattle.preservation.proofs.Prefixes.{prefix_same, prefix_trans}

-- the externals that there are stay, and each log has what it had
pub record Kept (w w2 : History) : Type 0 where
  pub kinds : sorts w2 ≡ sorts w
  pub count : length w2.logs ≡ length w.logs
  pub logs : (i : ℕ) → IsPrefix (log_at w.logs i) (log_at w2.logs i)

pub kept_same : {w w2 : History} → w2 ≡ w → Kept w w2
kept_same {w} {w2} same = record {
  kinds = ap (λ h. sorts h) same;
  count = ap (λ h. length h.logs) same;
  logs = λ i. prefix_same (log_at w.logs i) (log_at w2.logs i)
      (ap (λ h. log_at h.logs i) same);
}

pub kept_refl : {w : History} → Kept w w
kept_refl {w} = kept_same {w = w} {w2 = w} refl

pub kept_trans : {w w1 w2 : History} → Kept w w1 → Kept w1 w2 → Kept w w2
kept_trans {w} {w1} {w2} first rest = record {
  kinds = rest.kinds ∙ first.kinds;
  count = rest.count ∙ first.count;
  logs = λ i. prefix_trans (log_at w.logs i) (log_at w1.logs i) (log_at w2.logs i)
      (first.logs i) (rest.logs i);
}

-- ---- a change

pub kept_made : {w w1 : History} {c : Change} → Made w w1 c → Kept w w1
kept_made {w} {w1} {c} m = record {
  kinds = ap (λ h. sorts h) m.history ∙ ap sorts_of (externals-changed w.now c);
  count = ap (λ h. length h.logs) m.history;
  logs = λ i. prefix_same (log_at w.logs i) (log_at w1.logs i)
      (ap (λ h. log_at h.logs i) m.history);
}

-- ---- a turn

sorts-turned : (es : List Seen) (k : ℕ) (cells : List (List ℕ)) →
    sorts_of (slice_set es k (with_cells (slice_index_or es k none_seen) cells)) ≡ sorts_of es
sorts-turned [] k cells = refl
sorts-turned (e ∷ es) zero cells = refl
sorts-turned (e ∷ es) (suc k) cells = ap (λ ks. e.sort ∷ ks) (sorts-turned es k cells)

pub sorts_took : {w w1 : History} {k : ℕ} {input : Input} {ask : Ask} → TookTurn w w1 k input ask
    → sorts w1 ≡ sorts w
sorts_took {w} {w1} {k} t = ap (λ s. sorts_of s.externals) t.turn.state
    ∙ sorts-turned w.now.externals k (seen_at w1.now k).cells

-- what holds of each log holds of each after one was set to another of which it holds
pub set_keeps : (P : ℕ → Log → Type 0) (logs : List Log) (k : ℕ) (log : Log) → ((i : ℕ) → P i (log_at logs i)) →
    P k log → (i : ℕ) → P i (log_at (slice_set logs k log) i)
set_keeps P [] k log all it i = all i
set_keeps P (l ∷ ls) zero log all it zero = it
set_keeps P (l ∷ ls) zero log all it (suc i) = all (suc i)
set_keeps P (l ∷ ls) (suc k) log all it zero = all zero
set_keeps P (l ∷ ls) (suc k) log all it (suc i) = set_keeps (λ i. P (suc i)) ls k log (λ i. all (suc i)) it i

pub kept_took : {w w1 : History} {k : ℕ} {input : Input} {ask : Ask} → TookTurn w w1 k input ask → Kept w w1
kept_took {w} {w1} {k} t = record {
  kinds = sorts_took t;
  count = ap (λ h. length h.logs) t.history ∙ length-set w.logs k _;
  logs = λ i. subst (λ ls. IsPrefix (log_at w.logs i) (log_at ls i)) (sym (ap (λ h. h.logs) t.history))
      (set_keeps (λ i. IsPrefix (log_at w.logs i)) w.logs k _
      (λ i. prefix_same (log_at w.logs i) (log_at w.logs i) refl) (_, refl) i);
}
