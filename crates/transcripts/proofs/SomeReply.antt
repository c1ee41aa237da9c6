-- Each fresh command has a reply, by each behaviour of the externals too.
use Rattle.std.proofs.Common.{◌≡◌, ◌⊎◌, inl, inr, ℕ, List, [], ◌∷◌, ◌++◌, length, Some, Result, Ok, Err, refl, sym}
use Rattle.std.proofs.Common.{subst, arith}
use Rattle.object_table.proofs.Empty.{no_bytes}
use Rattle.externals.specs.Log.{Log}
use Rattle.externals.specs.Turns.{Turn}
use Rattle.externals.specs.declared.external.Input.{Input}
use Rattle.journal_entries.specs.State.{IsState, titles_of, seen_at}
use Rattle.change_journal.specs.History.{History, IsHistory}
use Rattle.change_journal.specs.Logs.{log_at, turns_since}
use Rattle.meaning.specs.declared.end.Stop.{Stop}
use Rattle.meaning.specs.declared.end.Stop.TheVariants.{Fault as Faults, Exited, Memory}
use Rattle.meaning.specs.Actions.{Action}
use Rattle.meaning.specs.Locked.{MeetsLock}
use Rattle.meaning.specs.Meaning.{Acts}
use Rattle.meaning.specs.State.{RunState, fresh_run}
use Rattle.preservation.specs.Laws.{HasMemory}
use Rattle.session.specs.declared.reply.Ending.{Ending}
use Rattle.session.specs.declared.reply.Ending.TheVariants as endings
use Rattle.session.specs.declared.reply.Reply.{Reply}
use Rattle.session.specs.Meaning.{Moment, ending_of, reply_of, Fresh, Locked}
use Rattle.session.proofs.Adding.{answered}
use Rattle.totality.specs.Laws.{Behaviour, Behaves, HasOutcome, outcome, ActionsHaveAnOutcome, HasOutcomeBy, outcome_by}
use Rattle.totality.specs.Laws.{ActionsHaveAnOutcomeBy, BehavioursAreLogged, AreTurnsBy}
use Rattle.totality.specs.Laws as total
use Rattle.transcripts.specs.Replies.{AreTurnsOf, LogsFollow, HasReplyBy, IsLockedBy, RepliesExist, RepliesExistBy}
use Rattle.transcripts.specs.Replies.{RepliesStayWhole}
use Rattle.transcripts.proofs.Grown.{acts_grow, lock_grows}
use Rattle.whole_states.specs.Laws.{ActionsLeadToWhole}
use Rattle.whole_states.specs.Texts.{RunTexts}

-- a history at this moment, whose batch is open
abbrev pub opened : Moment → History
opened m = record {
  past = [];
  now = m.state;
  stamp = 0;
  future = [];
  start = Some (record { state = m.state; number = 0; undo = 0; redo = 0; trail = [] });
  depth = 0;
  logs = m.logs;
}

-- it is whole where its state is
pub opened_whole : (m : Moment) → IsState m.state → IsHistory (opened m)
opened_whole m whole = record {
  titles = titles_of m.state.externals;
  past = tt;
  now = record { state = whole; titles = refl };
  future = tt;
  start = (record { state = whole; titles = refl }, tt);
}

-- an end that isn't out of memory is answered
ends : (o : Result (Unit {0}) Stop) → HasMemory o → (ending : Ending) × (ending_of o ≡ Some ending)
ends (Ok ended) has = (endings.Ok, refl)
ends (Err Exited) has = (endings.Ok, refl)
ends (Err (Faults fa)) has = (endings.Fault fa, refl)
ends (Err Memory) has = absurd (has refl)

-- what a run from there leaves is a reply
fresh_from : (m : Moment) (steps : ℕ) (does : Action) (o : Result (Unit {0}) Stop) (w : History) (r : RunState) →
    HasMemory o → Acts (opened m) (fresh_run steps) does o w r →
    (reply : Reply) × Fresh m steps does reply (record { state = w.now; logs = w.logs })
fresh_from m steps does o w r has means =
    let ending = ends o has in (
      reply_of r ending.0,
      record {
        begin = opened m;
        end = w;
        runs = record {
          run = r;
          end = o;
          means = means;
          ending = ending.0;
          ends = ending.1;
          answer = refl;
          whole = opened_whole m;
        };
        here = refl;
        leaves = refl;
      },
    )

pub replies : ActionsHaveAnOutcome → RepliesExist
replies actions m steps does = by_end (actions (opened m) (fresh_run steps) does refl)
  where
    by_end : HasOutcome (Acts (opened m) (fresh_run steps) does) ⊎
        ((w : History) × ((r : RunState) × MeetsLock (opened m) (fresh_run steps) does w r)) →
        ((reply : Reply) × ((new : Moment) × Fresh m steps does reply new)) ⊎
        ((logs : List Log) × Locked m steps does logs)
    by_end (inl (outcome o w r has means)) =
        let fresh = fresh_from m steps does o w r has means in
        inl (fresh.0, (record { state = w.now; logs = w.logs }, fresh.1))
    by_end (inr (w, (r, meets))) = inr
        (w.logs, record { begin = opened m; end = w; run = r; meets = meets; here = refl; leaves = refl })

-- ---- by a behaviour

-- turns whose cells follow on are those that are given
turns_of : (gives : Log → List (List ℕ) → Input → Turn) (log : Log) (cells : List (List ℕ)) (turns : Log) →
    AreTurnsBy gives log cells turns → AreTurnsOf gives log turns
turns_of gives log cells [] are = tt
turns_of gives log cells (turn ∷ turns) (before, given, later) = (
  subst (λ cells. gives log cells turn.input ≡ (turn.ask, turn.cells)) (sym before) given,
  turns_of gives (log ++ turn ∷ []) turn.cells turns later,
)

logs_follow : BehavioursAreLogged → (behaviour : Behaviour) (w w2 : History) → length w2.logs ≡ length w.logs →
    Behaves behaviour w w2 → LogsFollow behaviour w.logs w2.logs
logs_follow logged behaviour w w2 count behaves = record {
  count = count;
  each = λ i there.
      let log = logged behaviour w w2 i there behaves in
      record {
        turns = turns_since w.logs w2.logs i;
        log = log.0;
        given = turns_of (behaviour i) (log_at w.logs i) (seen_at w.now i).cells (turns_since w.logs w2.logs i) log.1;
      };
}

fresh_texts : (steps : ℕ) → RunTexts (fresh_run steps)
fresh_texts steps = record { delimiter = omega arith; result = no_bytes }

pub replies_by : ActionsHaveAnOutcomeBy → BehavioursAreLogged → RepliesExistBy
replies_by actions logged behaviour m steps does is whole have texts =
    by_end (actions behaviour (opened m) (fresh_run steps) does is
    (record { batch = refl; whole = opened_whole m whole; logs = have; run = fresh_texts steps }) texts)
  where
    by_end : HasOutcomeBy behaviour (opened m) (Acts (opened m) (fresh_run steps) does) ⊎
        total.IsLockedBy behaviour (opened m) (fresh_run steps) does →
        HasReplyBy behaviour m steps does ⊎ IsLockedBy behaviour m steps does
    by_end (inl (outcome_by o w r has means left behaves)) =
        let fresh = fresh_from m steps does o w r has means in
        inl (record {
          reply = fresh.0;
          new = record { state = w.now; logs = w.logs };
          fresh = fresh.1;
          followed = logs_follow logged behaviour (opened m) w (acts_grow means has).count behaves;
        })
    by_end (inr lock) = inr (record {
      logs = lock.history.logs;
      locked = record {
        begin = opened m;
        end = lock.history;
        run = lock.run;
        meets = lock.meets;
        here = refl;
        leaves = refl;
      };
      followed = logs_follow logged behaviour (opened m) lock.history
          (lock_grows (opened m) lock.history (fresh_run steps) lock.run does lock.meets).count lock.behaves;
    })

-- ---- whole states

pub replies_whole : ActionsLeadToWhole → RepliesStayWhole
replies_whole law m steps does reply new whole texts fresh =
    let here : IsState fresh.begin.now = subst (λ (m : Moment). IsState m.state) (sym fresh.here) whole in
    let left = law fresh.begin fresh.end (fresh_run steps) fresh.runs.run does fresh.runs.end fresh.runs.means
    (answered fresh.runs.ends) (fresh.runs.whole here) (fresh_texts steps) texts in
    subst (λ (m : Moment). IsState m.state) (sym fresh.leaves) left.0.whole.now.state
