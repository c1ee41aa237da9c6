-- Each run has an outcome.
use Rattle.std.proofs.Common.{◌≡◌, Option, Some, None, refl, ℕ, zero, suc, ◌⊎◌, inl, inr, Result, Ok, arith, IsSome}
use Rattle.ht_grammar.specs.Laws.{TextsAreReadExactly}
use Rattle.change_journal.specs.History.{Open, History}
use Rattle.meaning.specs.declared.end.Stop.{Stop}
use Rattle.meaning.specs.Meaning.{Acts}
use Rattle.meaning.specs.State.{RunState}
use Rattle.meaning.specs.Locked.{MeetsLock}
use Rattle.change_journal.specs.Logs.{HaveLogs}
use Rattle.meaning.specs.Actions as act
use Rattle.meaning.specs.Actions.{Action}
use Rattle.preservation.specs.Laws.{HasMemory}
use Rattle.whole_states.specs.Laws.{LeadsToWhole, LinesLeadToWhole, MessagesLeadToWhole, ActionsLeadToWhole}
use Rattle.whole_states.specs.Laws.{ReferencesLeadToWhole, ValuesLeadToWhole}
use Rattle.whole_states.specs.Texts.{ActionTexts}
use Rattle.totality.specs.Laws.{Behaviour, IsBehaviour, Behaves, HasOutcomeBy, outcome_by, IsLockedBy}
use Rattle.totality.specs.Laws.{LinesHaveAnOutcomeBy, MessagesHaveAnOutcomeBy, ActionsHaveAnOutcomeBy}
use Rattle.totality.specs.Laws.{ReferencesHaveAnOutcomeBy, ValuesHaveAnOutcomeBy}
use Rattle.totality.specs.Laws.{HasOutcome, outcome, LinesHaveAnOutcome, MessagesHaveAnOutcome, ActionsHaveAnOutcome}
use Rattle.totality.specs.Laws.{ReferencesHaveAnOutcome, ValuesHaveAnOutcome}
use Rattle.totality.proofs.Behaving.{IsSafe, always_fails, failing_is_safe, safe, safe_is_safe}
use Rattle.totality.proofs.Logged.{behaves_so}
use Rattle.totality.proofs.Chain.{Begun, Underway, Has, has}
use Rattle.totality.proofs.Levels.{Level}
use Rattle.totality.proofs.Expressions.{val_has}
use Rattle.totality.proofs.Blocks.{block_has, endless_has, while_has, counts_has}
use Rattle.totality.proofs.Messages.{along_has, talks_has, calls_back_has}
use Rattle.totality.proofs.Statements.{form_has}
use Rattle.totality.proofs.Commands.{line_has, message_has, refers_has, acts_has, IsLocked}

no_fewer : {begun : Begun} {w : History} {r : RunState} → Underway begun zero w r → ⊥
no_fewer k = let fewer = k.left in omega (arith, fewer)

-- by the number of steps that are left
level : {begun : Begun} → TextsAreReadExactly → (n : ℕ) → Level begun n
level exact zero = record {
  texts = exact;
  val = λ w r f d e le k. absurd (no_fewer k);
  form = λ w r f d s le k. absurd (no_fewer k);
  block = λ w r f d ss le k. absurd (no_fewer k);
  endless = λ w r f d ss le k. absurd (no_fewer k);
  while = λ w r f d wanted x ss le k. absurd (no_fewer k);
  counts = λ w r f d name c ss le k. absurd (no_fewer k);
  along = λ w r f d i is name vs kind le k. absurd (no_fewer k);
  talks = λ w r d e input there le k. absurd (no_fewer k);
  calls_back = λ w r d ask calls le k. absurd (no_fewer k);
}
level exact (suc n) =
    let h = level exact n in record {
      texts = exact;
      val = val_has h;
      form = form_has h;
      block = block_has h;
      endless = endless_has h;
      while = while_has h;
      counts = counts_has h;
      along = along_has h;
      talks = talks_has h;
      calls_back = calls_back_has h;
    }

-- the batch that is open
the_batch : (start : Option Open) → IsSome start → (batch : Open) × (start ≡ Some batch)
the_batch (Some batch) is_open = (batch, refl)
the_batch None is_open = cc

-- all the steps that are left
begins : (behaviour : Behaviour) (safe : IsSafe behaviour) (w : History) (r : RunState) → IsSome w.start →
    Underway (record { behaviour = behaviour; safe = safe; history = w }) (suc r.left) w r
begins behaviour safe w r is_open =
    let open_batch = the_batch w.start is_open in record {
      is_open = record { batch = open_batch.0; is = open_batch.1; behaves = Behaves.begins };
      left = omega arith;
    }

-- ---- an outcome for each behaviour: the one for the behaviour that always makes texts

-- the same run, from whole states on
known : {A : Type 0} {w : History} {n : ℕ} {Rule : Result A Stop → History → RunState → Type 0} {behaviour : Behaviour}
    (is : IsBehaviour behaviour) → HaveLogs w.now w.logs →
    ((o : Result A Stop) (w2 : History) (r2 : RunState) → Rule o w2 r2 → HasMemory o → LeadsToWhole w w2) →
    Has (record { behaviour = safe behaviour; safe = safe_is_safe is; history = w }) n Rule →
    HasOutcomeBy behaviour w Rule
known is logs leads (has o w2 r2 has_memory k h) =
    let led = leads o w2 r2 h has_memory in
    outcome_by o w2 r2 has_memory h led.whole (behaves_so is logs led.turns k.is_open.behaves)

pub lines_have_an_outcome_by : TextsAreReadExactly → LinesLeadToWhole → LinesHaveAnOutcomeBy
lines_have_an_outcome_by exact leads behaviour w r ss is ready texts = known is ready.logs
    (λ o w2 r2 g has_memory. (leads w w2 r r2 ss o g has_memory ready.whole ready.run texts).0)
    (line_has (level exact r.left) w r ss (begins (safe behaviour) (safe_is_safe is) w r ready.batch))

pub messages_have_an_outcome_by : TextsAreReadExactly → MessagesLeadToWhole → MessagesHaveAnOutcomeBy
messages_have_an_outcome_by exact leads behaviour w r i name vs is ready texts = known is ready.logs
    (λ o w2 r2 g has_memory. (leads w w2 r r2 i name vs o g has_memory ready.whole ready.run texts).0)
    (message_has (level exact r.left) w r i name vs (begins (safe behaviour) (safe_is_safe is) w r ready.batch))

pub references_have_an_outcome_by : TextsAreReadExactly → ReferencesLeadToWhole → ReferencesHaveAnOutcomeBy
references_have_an_outcome_by exact leads behaviour w r pa is ready texts = known is ready.logs
    (λ o w2 r2 g has_memory. (leads w w2 r r2 pa o g has_memory ready.whole ready.run texts).0)
    (refers_has (level exact r.left) w r pa (begins (safe behaviour) (safe_is_safe is) w r ready.batch))

pub values_have_an_outcome_by : TextsAreReadExactly → ValuesLeadToWhole → ValuesHaveAnOutcomeBy
values_have_an_outcome_by exact leads behaviour w r f d e is ready frame texts le = known is ready.logs
    (λ o w2 r2 g has_memory. (leads w w2 r r2 f d e o g has_memory ready.whole ready.run frame texts).0)
    (val_has (level exact r.left) w r f d e le (begins (safe behaviour) (safe_is_safe is) w r ready.batch))

pub actions_have_an_outcome_by : TextsAreReadExactly → ActionsLeadToWhole → ReferencesLeadToWhole →
    ActionsHaveAnOutcomeBy
actions_have_an_outcome_by exact leads refers behaviour w r ac is ready texts = by_lock
    (acts_has (level exact r.left) w r ac (begins (safe behaviour) (safe_is_safe is) w r ready.batch))
  where
    begun : Begun
    begun = record { behaviour = safe behaviour; safe = safe_is_safe is; history = w }

    locked_by : (ac : Action) (w2 : History) (r2 : RunState) → ActionTexts ac → IsLocked begun w r ac w2 r2 →
        IsLockedBy behaviour w r ac
    locked_by (act.type_text t pa) w2 r2 texts locked =
        let led = (refers w w2 r r2 pa (Ok locked.0.0) locked.0.1 (λ e. cc) ready.whole ready.run texts.1).0 in
        record {
          history = w2;
          run = r2;
          meets = locked.0;
          whole = led.whole;
          behaves = behaves_so is ready.logs led.turns locked.1;
        }
    locked_by (act.run_lines ss) w2 r2 texts locked = absurd locked.0
    locked_by act.open_stack w2 r2 texts locked = absurd locked.0
    locked_by (act.click pa) w2 r2 texts locked = absurd locked.0

    by_lock : Has begun (suc r.left) (Acts w r ac) ⊎
        ((w2 : History) × ((r2 : RunState) × IsLocked begun w r ac w2 r2)) →
        HasOutcomeBy behaviour w (Acts w r ac) ⊎ IsLockedBy behaviour w r ac
    by_lock (inl acts) = inl (known is ready.logs
        (λ o w2 r2 g has_memory. (leads w w2 r r2 ac o g has_memory ready.whole ready.run texts).0) acts)
    by_lock (inr locked) = inr (locked_by ac locked.0 locked.1.0 texts locked.1.1)

-- ---- an outcome, by a behaviour that always fails

whatever : {A : Type 0} {begun : Begun} {n : ℕ} {Rule : Result A Stop → History → RunState → Type 0} →
    Has begun n Rule → HasOutcome Rule
whatever (has o w r has_memory k h) = outcome o w r has_memory h

failing : (w : History) (r : RunState) → IsSome w.start →
    Underway (record { behaviour = always_fails; safe = failing_is_safe; history = w }) (suc r.left) w r
failing w r is_open = begins always_fails failing_is_safe w r is_open

pub lines_have_an_outcome : TextsAreReadExactly → LinesHaveAnOutcome
lines_have_an_outcome exact w r ss is_open = whatever (line_has (level exact r.left) w r ss (failing w r is_open))

pub messages_have_an_outcome : TextsAreReadExactly → MessagesHaveAnOutcome
messages_have_an_outcome exact w r i name vs is_open = whatever
    (message_has (level exact r.left) w r i name vs (failing w r is_open))

pub references_have_an_outcome : TextsAreReadExactly → ReferencesHaveAnOutcome
references_have_an_outcome exact w r pa is_open = whatever
    (refers_has (level exact r.left) w r pa (failing w r is_open))

pub values_have_an_outcome : TextsAreReadExactly → ValuesHaveAnOutcome
values_have_an_outcome exact w r f d e is_open le = whatever
    (val_has (level exact r.left) w r f d e le (failing w r is_open))

pub actions_have_an_outcome : TextsAreReadExactly → ActionsHaveAnOutcome
actions_have_an_outcome exact w r ac is_open = by_lock
    (acts_has (level exact r.left) w r ac (failing w r is_open))
  where
    by_lock : {begun : Begun} → Has begun (suc r.left) (Acts w r ac) ⊎
        ((w2 : History) × ((r2 : RunState) × IsLocked begun w r ac w2 r2)) →
        HasOutcome (Acts w r ac) ⊎ ((w2 : History) × ((r2 : RunState) × MeetsLock w r ac w2 r2))
    by_lock (inl acts) = inl (whatever acts)
    by_lock (inr locked) = inr (locked.0, (locked.1.0, locked.1.1.0))
