-- Commands that are run, and commands that are given up.
use Rattle.std.proofs.Common.{◌≡◌, ℕ, List, refl, sym, ap, subst, ◌∙◌, inl, inr, arith}
use Rattle.std.specs.Prelude.{Option, Some, None, IfSome, IsSome, Result, Ok, Err, unwrap_or, option_map}
use Rattle.std.proofs.lemmas.Option.{none-some}
use Rattle.externals.specs.Log.{Log}
use Rattle.journal_entries.specs.State.{State}
use Rattle.journal_entries.specs.Trails.{IsOnce}
use Rattle.change_journal.specs.History.{History, Open, IsHistory, begun, committed, rolled_back, rolled_back_from}
use Rattle.containers.specs.Base.{base, began}
use Rattle.containers.proofs.Bases.{is_open}
use Rattle.meaning.specs.State.{RunState, fresh_run}
use Rattle.meaning.specs.Actions.{Action}
use Rattle.meaning.specs.Meaning.{Acts}
use Rattle.meaning.specs.declared.end.Ended.{Ended}
use Rattle.meaning.specs.declared.end.Ended.TheVariants.{Done, Exited}
use Rattle.meaning.specs.Ends.{end_of}
use Rattle.meaning.specs.declared.end.Stop.{Stop}
use Rattle.preservation.specs.Laws.{HasMemory}
use Rattle.preservation.specs.Replaced.{replaced_acts}
use Rattle.preservation.proofs.Commands.{risen}
use Rattle.preservation.proofs.Rises.{rises_acts}
use Rattle.preservation.proofs.Trails.{short_after}
use Rattle.session.specs.Meaning.{ending_of, reply_of}
use Rattle.session.specs.Replies.{refused}
use Rattle.session.specs.TakesLine.{Adds, Does}
use Rattle.session.specs.declared.reply.Ending.{Ending}
use Rattle.session.specs.declared.reply.Ending.TheVariants as endings
use Rattle.session.specs.declared.reply.Refusal.TheVariants.{FieldLocked}
use Rattle.session.specs.declared.reply.Reply.{Reply}
use Rattle.user_actions.specs.Views.{ActionEnds}

-- what stands round the batch is as before
kept : (w w2 : History) → base w2 ≡ base w → w2 ≡ record w { now = w2.now; start = w2.start; logs = w2.logs }
unfolding base
kept w w2 e = λ i. record {
  past = (e i).past;
  now = w2.now;
  stamp = (e i).stamp;
  future = (e i).future;
  start =
      w2.start;
  depth = (e i).depth;
  logs = w2.logs;
}

begin_kept : (w w2 : History) → base w2 ≡ base w → option_map began w2.start ≡ option_map began w.start
unfolding base
begin_kept w w2 e = λ i. (e i).start

-- ---- a batch that began

pub begun_open : (old : History) (number : ℕ) → IsSome (base (begun old number)).start
unfolding base
begun_open old number = refl

pub still_open : (old w : History) (number : ℕ) → base w ≡ base (begun old number) → IsSome w.start
still_open old w number keeps = is_open w (subst (λ b. IsSome b.start) (sym keeps) (begun_open old number))

-- ---- a command that ends

pub answered : {end : Result (Unit {0}) Stop} {ending : Ending} → ending_of end ≡ Some ending → HasMemory end
answered {ending = ending} is out = none-some ending (sym (ap ending_of out) ∙ is)

-- what it adds
pub adds : (steps number : ℕ) (does : Action) (old w new : History) (run : RunState)
    (end : Result (Unit {0}) Stop) (ending : Ending)
    → IsHistory (begun old number) → Acts (begun old number) (fresh_run steps) does end w run
    → base w ≡ base (begun old number)
    → ending_of end ≡ Some ending → IfSome w.start (λ o. IsOnce o.trail) → new ≡ committed w
    → Adds steps does number old (reply_of run ending) new
adds steps number does old w new run end ending whole means keeps ends once joined =
    let b = risen (rises_acts means (answered ends)) in
    let is_once : IsOnce b.0.trail = rw b.1 at once in
    record {
      end = w;
      runs = record {
        run = run;
        end = end;
        means = means;
        ending = ending;
        ends = ends;
        answer = refl;
        whole = λ now. whole;
      };
      batch = b.0;
      began = b.3.state;
      numbered = b.3.number;
      back = omega (arith, b.3.undo);
      forth = omega (arith, b.3.redo);
      trail = b.2;
      once = is_once;
      few = short_after (replaced_acts means) b.0.trail b.2 is_once;
      joined = joined ∙ ap committed (kept (begun old number) w keeps
          ∙ ap (λ (s : Option Open). record old { now = w.now; start = s; logs = w.logs }) b.1);
    }

-- ---- a command that is given up

-- the state with which it began is the present one again
rolled : (old w : History) (number : ℕ) → base w ≡ base (begun old number) → old.start ≡ None → (start : Option Open)
    → option_map began start ≡ Some (old.now, number)
    → rolled_back_from w start ≡ record old { logs = w.logs }
rolled old w number keeps closed None is = let no : ⊥ = cc in absurd no
rolled old w number keeps closed (Some o) is =
    let here : o.state ≡ old.now = ap (λ (p : Option (State × ℕ)). (unwrap_or p (old.now, number)).0) is in
    ap (λ (h : History). record h { now = o.state; start = None }) (kept (begun old number) w keeps)
    ∙ (λ i. record old { now = here i; start = sym closed i; logs = w.logs })

taken_back : (old w new : History) (number : ℕ) → base w ≡ base (begun old number) → old.start ≡ None
    → new ≡ rolled_back w → new ≡ record old { logs = w.logs }
taken_back old w new number keeps closed joined =
    joined ∙ rolled old w number keeps closed w.start (begin_kept (begun old number) w keeps)

pub given_back : (old w new : History) (number : ℕ) → base w ≡ base (begun old number) → old.start ≡ None
    → new ≡ rolled_back w → new ≡ record old { logs = new.logs }
given_back old w new number keeps closed joined =
    let is : new ≡ record old { logs = w.logs } = taken_back old w new number keeps closed joined in
    is ∙ ap (λ (logs : List Log). record old { logs = logs }) (sym (ap (λ (h : History). h.logs) is))

-- ---- what a user does

-- `exit to HyperCard` is no fault
pub ends_well : (ended : Ended) → ending_of (end_of (Ok ended)) ≡ Some endings.Ok
ends_well Done = refl
ends_well Exited = refl

-- how an action ends that isn't kept out
abbrev pub some_end : Result Ended Stop → Result (Option Ended) Stop
some_end (Ok ended) = Ok (Some ended)
some_end (Err stop) = Err stop

acted : (w r2 : History) (r r3 : RunState) (does : Action) (end : Result Ended Stop)
    → ActionEnds w r does (some_end end) r2 r3 → Acts w r does (end_of end) r2 r3
acted w r2 r r3 does (Ok ended) means = means
acted w r2 r r3 does (Err stop) means = means

module _ (steps number : ℕ) (does : Action) (old w0 w : History) (run0 run : RunState) (o : Result (Option Ended) Stop)
    (begins : w0 ≡ begun old number) (fresh : run0 ≡ fresh_run steps) (keeps : base w ≡ base w0)
    (means : ActionEnds w0 run0 does o w run) where
  from_here : (p : Result (Option Ended) Stop) → o ≡ p → ActionEnds (begun old number) (fresh_run steps) does p w run
  from_here p is =
      subst (λ (r : RunState). ActionEnds (begun old number) r does p w run) fresh
      (subst (λ (h : History). ActionEnds h run0 does p w run) begins
      (subst (λ (q : Result (Option Ended) Stop). ActionEnds w0 run0 does q w run) is means))

  kept_base : base w ≡ base (begun old number)
  kept_base = keeps ∙ ap base begins

  pub finishes : (end : Result Ended Stop) (ending : Ending) (reply : Reply) (new : History) → IsHistory w0
      → o ≡ some_end end → ending_of (end_of end) ≡ Some ending → reply ≡ reply_of run ending
      → IfSome w.start (λ o. IsOnce o.trail) → new ≡ committed w → Does steps does number old reply new
  finishes end ending reply new whole is ends told once joined =
      let added : Adds steps does number old (reply_of run ending) new =
      adds steps number does old w new run (end_of end) ending (subst IsHistory begins whole)
      (acted (begun old number) w (fresh_run steps) run does end (from_here (some_end end) is)) kept_base ends once
      joined in
      inl (subst (λ (r : Reply). Adds steps does number old r new) (sym told) added)

  pub keeps_out : (reply : Reply) (new : History) → o ≡ Ok None → old.start ≡ None → reply ≡ refused FieldLocked
      → new ≡ rolled_back w → Does steps does number old reply new
  keeps_out reply new is closed told joined = inr (record {
    answer = told;
    end = w;
    run = run;
    meets = from_here (Ok None) is;
    same = taken_back old w new number kept_base closed joined;
  })
