-- A change and a turn keep the history round the open batch.
use Rattle.std.proofs.Common.{IsSome, ◌≡◌, ℕ, List, Option, Some, None, option_map, ap, ◌∙◌}
use Rattle.externals.specs.declared.external.Ask.{Ask}
use Rattle.externals.specs.declared.external.Input.{Input}
use Rattle.journal_entries.specs.State.{seen_at, titles_of}
use Rattle.journal_entries.proofs.Turned.{titles-turned}
use Rattle.journal_entries.specs.Replaced.{Replacement}
use Rattle.journal_entries.specs.Trails.{Mark}
use Rattle.journal_entries.specs.declared.change.Change.{Change}
use Rattle.change_journal.specs.History.{History, Open}
use Rattle.change_journal.specs.Rising.{Made, TookTurn, Rises, BothOpen}
use Rattle.change_journal.proofs.Making.{externals-changed}
use Rattle.containers.specs.Base.{base, began}

starts_keep : (rs : List Replacement) (ms : Open → List Mark) (o p : Option Open)
    → BothOpen o p (λ a b. Rises rs (ms a) a b) → option_map began p ≡ option_map began o
starts_keep rs ms (Some a) (Some b) r = λ i. Some (r.state i, r.number i)
starts_keep rs ms (Some a) None r = absurd r
starts_keep rs ms None (Some b) r = absurd r
starts_keep rs ms None None r = absurd r

pub made_keeps : {w w2 : History} {c : Change} → Made w w2 c → base w2 ≡ base w
unfolding base
made_keeps {w} {w2} {c} m = λ i.
    record {
      past = (m.history i).past;
      stamp = (m.history i).stamp;
      future = (m.history i).future;
      start = starts_keep
          _ _ w.start w2.start m.start i;
      depth =
          (m.history i).depth;
      titles = (ap (λ h. titles_of h.now.externals) m.history ∙ ap titles_of (externals-changed w.now c)) i;
    }

pub took_keeps : {w w2 : History} {k : ℕ} {input : Input} {ask : Ask} → TookTurn w w2 k input ask → base w2 ≡ base w
unfolding base
took_keeps {w} {w2} {k} t = λ i.
    record {
      past = (t.history i).past;
      stamp = (t.history i).stamp;
      future = (t.history i).future;
      start = starts_keep
          _ _ w.start w2.start t.start i;
      depth = (t.history i).depth;
      titles = (ap (λ s. titles_of s.externals) t.turn.state ∙ titles-turned w.now.externals k (seen_at w2.now k).cells)
          i;
    }

start_is_open : (o : Option Open) → IsSome (option_map began o) → IsSome o
start_is_open (Some o) h = h
start_is_open None h = h

pub is_open : (w : History) → IsSome (base w).start → IsSome w.start
unfolding base
is_open w h = start_is_open w.start h
