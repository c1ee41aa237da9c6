-- Two runs of one thing have one outcome.
use Rattle.std.proofs.Common.{◌≡◌, ◌+◌, ◌++◌, ℕ, ◌<◌, List, [], ◌∷◌, length, Result, refl, sym, ap, subst, ◌∙◌, arith}
use Rattle.std.proofs.lemmas.List.{append-nil, ext_get_or}
use Rattle.ht_grammar.specs.Laws.{TextsAreReadExactly}
use Rattle.externals.specs.Log.{Log}
use Rattle.externals.specs.Turns.{TurnTable}
use Rattle.journal_entries.specs.State.{State, seen_at}
use Rattle.change_journal.specs.History.{History}
use Rattle.change_journal.specs.Logs.{log_at, turns_since}
use Rattle.meaning.specs.declared.end.Stop.{Stop}
use Rattle.meaning.specs.State.{RunState}
use Rattle.definitional_interpreter.specs.Told.{Visible, Told, told}
use Rattle.definitional_interpreter.specs.Turns.{nondeterministic, logs_since}
use Rattle.definitional_interpreter.specs.Families.{Meanings}
use Rattle.definitional_interpreter.specs.Meanings.{meanings}
use Rattle.definitional_interpreter.specs.Laws.{AreTold}
use Rattle.determinism.specs.Laws.{AreAlike, SameOutcome, LinesHaveOneOutcome, MessagesHaveOneOutcome}
use Rattle.determinism.specs.Laws.{ActionsHaveOneOutcome, ReferencesHaveOneOutcome, ValuesHaveOneOutcome}
use Rattle.definitional_interpreter.proofs.Comes.{Sight, sight, Comes}
use Rattle.definitional_interpreter.proofs.Outcomes.{val_comes, line_comes, message_comes, refers_comes, acts_comes}
use Rattle.definitional_interpreter.proofs.Sights.{asks_told, at_since, from}
use Rattle.preservation.proofs.Logs.{Kept}
use Rattle.preservation.proofs.Prefixes.{prefix_same, goes_on, rest_is}

-- ---- logs

-- at the beginning no external has a turn
none_since : (old new : List Log) → length old ≡ length new → logs_since old old ≡ logs_since new new
none_since [] [] same = refl
none_since [] (y ∷ new) same = let no : ⊥ = cc in absurd no
none_since (x ∷ old) [] same = let no : ⊥ = cc in absurd no
none_since (x ∷ old) (y ∷ new) same =
    let first = rest_is x x [] (sym (append-nil x)) ∙ sym (rest_is y y [] (sym (append-nil y))) in
    let rest = none_since old new (omega (arith, same)) in λ i. first i ∷ rest i

-- a log is the one before and the turns since
log_goes_on : {w w2 : History} → Kept w w2 → (i : ℕ) → log_at w2.logs i
    ≡ log_at w.logs i ++ turns_since w.logs w2.logs i
log_goes_on {w} {w2} kept i = goes_on (log_at w.logs i) (log_at w2.logs i) (kept.logs i)

-- ---- one outcome

-- one thing has one end, with one sight and one run
parts_of : {A : Type 0} {u v : Visible} {r q : RunState} {o p : Result A Stop} → told o u r ≡ told p v q →
    (o ≡ p) × (u ≡ v) × (r ≡ q)
parts_of is = (cc, cc, cc)

module _ {A : Type 0} (table : TurnTable) {w v w2 v2 : History} {r2 q2 : RunState} {o p : Result A Stop}
    (F : Visible → Meanings → Told A) (exact : TextsAreReadExactly) (alike : AreAlike table w v w2 v2)
    (runs : (g : Sight) → Comes g w (F (sight g w)) (told o (sight g w2) r2) w2)
    (others : (g : Sight) → Comes g v (F (sight g v)) (told p (sight g v2) q2) v2) where
  -- the turns of which the table tells nothing
  abbrev turns : ℕ → Log
  turns i = nondeterministic table (seen_at w.now i).sort (turns_since w.logs w2.logs i)

  are_told : AreTold table turns w w2
  are_told = record {
    logs = alike.logs;
    follow = alike.follow;
    beside = λ i there. prefix_same (turns i) (turns i) refl;
  }

  others_told : AreTold table turns v v2
  others_told = record {
    logs = alike.other_logs;
    follow = alike.others_follow;
    beside = λ i there.
        prefix_same (nondeterministic table (seen_at v.now i).sort (turns_since v.logs v2.logs i)) (turns i)
        (sym (ap (λ (s : State). nondeterministic table (seen_at s i).sort (turns_since v.logs v2.logs i)) alike.state
        ∙ alike.beside i (subst (λ (s : State). i < length s.externals) alike.state there)));
  }

  as_many : length w.logs ≡ length v.logs
  as_many = alike.logs ∙ sym (alike.other_logs ∙ ap (λ (s : State). length s.externals) alike.state)

  begins : sight (from table turns v) v ≡ sight (from table turns w) w
  begins = λ i.
      record {
        now = alike.state i;
        logs = sym (none_since w.logs v.logs as_many) i;
        table = table;
        turns = turns;
      }

  -- both come to one thing
  same : told o (sight (from table turns w) w2) r2 ≡ told p (sight (from table turns v) v2) q2
  same =
      let a = (runs (from table turns w)).gives exact (asks_told are_told) in
      let b = (others (from table turns v)).gives exact (asks_told others_told) in
      let fuel = a.0 + b.0 in
      sym (a.1 fuel (omega arith)) ∙ ap (λ u. F u (meanings fuel)) (sym begins) ∙ b.1 fuel (omega arith)

  seen_same : sight (from table turns w) w2 ≡ sight (from table turns v) v2
  seen_same = (parts_of same).1

  kept : Kept w w2
  kept = (runs (from table turns w)).kept

  kept_too : Kept v v2
  kept_too = (others (from table turns v)).kept

  turns_same : (i : ℕ) → turns_since w.logs w2.logs i ≡ turns_since v.logs v2.logs i
  turns_same i = sym (at_since w.logs w2.logs (sym kept.count) i) ∙ ap (λ u. log_at u.logs i) seen_same
      ∙ at_since v.logs v2.logs (sym kept_too.count) i

  logs_same : v.logs ≡ w.logs → w2.logs ≡ v2.logs
  logs_same is =
      ext_get_or [] w2.logs v2.logs (kept.count ∙ as_many ∙ sym kept_too.count)
      (λ i there. log_goes_on kept i ∙ (λ j. log_at (sym is j) i ++ turns_same i j) ∙ sym (log_goes_on kept_too i))

  one : SameOutcome w v w2 v2 r2 q2 o p
  one =
      record {
        ends = (parts_of same).0;
        state = ap (λ u. u.now) seen_same;
        run = (parts_of same).2;
        turns = turns_same;
        logs = logs_same;
      }

pub one_line : TextsAreReadExactly → LinesHaveOneOutcome
one_line exact table w v w2 v2 r r2 q2 ss o p alike first second has had =
    one table (λ u parts. parts.line u r ss) exact alike (λ g. line_comes first has) (λ g. line_comes second had)

pub one_message : TextsAreReadExactly → MessagesHaveOneOutcome
one_message exact table w v w2 v2 r r2 q2 i n vs o p alike first second has had =
    one table (λ u parts. parts.message u r i n vs) exact alike (λ g. message_comes first has)
    (λ g. message_comes second had)

pub one_action : TextsAreReadExactly → ActionsHaveOneOutcome
one_action exact table w v w2 v2 r r2 q2 ac o p alike first second has had =
    one table (λ u parts. parts.acts u r ac) exact alike (λ g. acts_comes first has) (λ g. acts_comes second had)

pub one_reference : TextsAreReadExactly → ReferencesHaveOneOutcome
one_reference exact table w v w2 v2 r r2 q2 pa o p alike first second has had =
    one table (λ u parts. parts.refers u r pa) exact alike (λ g. refers_comes first has)
    (λ g. refers_comes second had)

pub one_value : TextsAreReadExactly → ValuesHaveOneOutcome
one_value exact table w v w2 v2 r r2 q2 f d e o p alike first second has had =
    one table (λ u parts. parts.val u r f d e) exact alike (λ g. val_comes first has) (λ g. val_comes second had)
