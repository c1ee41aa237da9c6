-- What goes on in a rule: steps, lines that are shown, messages that are sent, and results.
use Rattle.std.proofs.Common.{◌≡◌, ℕ, List, [], ◌∷◌, Option, Some, None, Result, Ok, Err, Bool, refl, sym, subst}
use Rattle.std.proofs.Common.{append-nil, arith}
use Rattle.ht_values.specs.declared.fault.Fault.{Fault}
use Rattle.ht_values.specs.Operators.{truth_of}
use Rattle.ht_values.specs.Outcome.{and_then}
use Rattle.ht_grammar.specs.declared.vocabulary.HandlerKind.{HandlerKind}
use Rattle.ht_grammar.specs.declared.vocabulary.HandlerKind.TheVariants.{Command, Function}
use Rattle.ht_grammar.specs.declared.vocabulary.RunProp.{RunProp}
use Rattle.ht_grammar.specs.declared.vocabulary.RunProp.TheVariants.{ItemDelimiter, LockMessages, EditBkgnd}
use Rattle.stack_text.specs.Words.{spelled}
use Rattle.meaning.specs.declared.end.How.{How}
use Rattle.meaning.specs.declared.end.How.TheVariants.{Next, ExitRepeat, NextRepeat, Exit, Pass, Returns}
use Rattle.meaning.specs.declared.end.Stop.{Stop}
use Rattle.meaning.specs.State.{RunState, Step, shows, noted, delimiter_set, run_property_set}
use Rattle.meaning.specs.Repeats.{Outcome, returned, ends}
use Rattle.preservation.specs.Laws.{IsPrefix, GoesOn}
pub use Rattle.preservation.proofs.Prefixes.{prefix_trans}

whole : {A : Type 0} (xs : List A) → IsPrefix xs xs
whole xs = ([], sym (append-nil xs))

pub goes_nowhere : {r : RunState} → GoesOn r r
goes_nowhere {r} = record { left = omega arith; shown = whole r.shown; sent = whole r.sent }

pub goes_trans : {r r2 r3 : RunState} → GoesOn r r2 → GoesOn r2 r3 → GoesOn r r3
goes_trans {r} {r2} {r3} h k =
    let first = h.left in
    let second = k.left in
    record {
      left = omega (arith, first, second);
      shown = prefix_trans r.shown r2.shown r3.shown h.shown k.shown;
      sent = prefix_trans r.sent r2.sent r3.sent h.sent k.sent;
    }

goes_to : {r r2 r3 : RunState} → GoesOn r r3 → r2 ≡ r3 → GoesOn r r2
goes_to {r} goes is = subst (GoesOn r) (sym is) goes

pub goes_by_step : {r r2 : RunState} {o : Result (Unit {0}) Stop} → Step r o r2 → GoesOn r r2
goes_by_step {r} (Step.taken _ is) =
    goes_to (record { left = omega arith; shown = whole r.shown; sent = whole r.sent }) is
goes_by_step (Step.none_left _) = goes_nowhere

pub goes_by_shows : {r r2 : RunState} (t : List ℕ) → r2 ≡ shows r t → GoesOn r r2
goes_by_shows {r} t is = goes_to (record { left = omega arith; shown = (spelled t ∷ [], refl); sent = whole r.sent }) is

pub goes_by_noted : {r r2 : RunState} (name : List ℕ) (id : ℕ) → r2 ≡ noted r name id → GoesOn r r2
goes_by_noted {r} name id is = goes_to
    (record { left = omega arith; shown = whole r.shown; sent = (record { name = name; object = id } ∷ [], refl) }) is

-- ---- properties of the run

-- the run that a result holds, if it holds one
held : RunState → Result RunState Fault → RunState
held r (Ok r2) = r2
held r (Err fault) = r

delimiter_goes : (r : RunState) (t : List ℕ) → GoesOn r (held r (delimiter_set r t))
unfolding held
delimiter_goes r [] = goes_nowhere
delimiter_goes r (b ∷ []) = record { left = omega arith; shown = whole r.shown; sent = whole r.sent }
delimiter_goes r (b ∷ c ∷ t) = goes_nowhere

lock_goes : (r : RunState) (truth : Result Bool Fault)
    → GoesOn r (held r (and_then truth (λ b. Ok (record r { lock_messages = b }))))
unfolding held
lock_goes r (Ok b) = record { left = omega arith; shown = whole r.shown; sent = whole r.sent }
lock_goes r (Err fault) = goes_nowhere

edit_goes : (r : RunState) (truth : Result Bool Fault)
    → GoesOn r (held r (and_then truth (λ b. Ok (record r { edit_background = b }))))
unfolding held
edit_goes r (Ok b) = record { left = omega arith; shown = whole r.shown; sent = whole r.sent }
edit_goes r (Err fault) = goes_nowhere

property_goes : (r : RunState) (property : RunProp) (t : List ℕ) → GoesOn r (held r (run_property_set r property t))
property_goes r ItemDelimiter t = delimiter_goes r t
property_goes r LockMessages t = lock_goes r (truth_of t)
property_goes r EditBkgnd t = edit_goes r (truth_of t)

pub goes_by_property : {r r2 : RunState} (property : RunProp) (t : List ℕ) → run_property_set r property t ≡ Ok r2
    → GoesOn r r2
unfolding held
goes_by_property {r} property t is = subst (λ o. GoesOn r (held r o)) is (property_goes r property t)

-- ---- ends of handlers

returned_goes : (kind : HandlerKind) (v : List ℕ) (r : RunState) → GoesOn r (returned kind v r).run
returned_goes Command v r = record { left = omega arith; shown = whole r.shown; sent = whole r.sent }
returned_goes Function v r = goes_nowhere

pub goes_by_returned : {v2 : List ℕ} {r r2 : RunState} (kind : HandlerKind) (v : List ℕ)
    → returned kind v r ≡ record { value = v2; run = r2 } → GoesOn r r2
goes_by_returned {v2} {r} kind v is = subst (λ x. GoesOn r x.run) is (returned_goes kind v r)

-- the run of an outcome, if there is one
run_of : RunState → Option Outcome → RunState
run_of r (Some outcome) = outcome.run
run_of r None = r

ends_go : (kind : HandlerKind) (h : How) (r : RunState) → GoesOn r (run_of r (ends kind h r))
unfolding run_of
ends_go kind Next r = goes_nowhere
ends_go kind ExitRepeat r = goes_nowhere
ends_go kind NextRepeat r = goes_nowhere
ends_go kind Exit r = goes_nowhere
ends_go kind Pass r = goes_nowhere
ends_go kind (Returns v) r = returned_goes kind v r

pub goes_by_ends : {v : List ℕ} {r r2 : RunState} (kind : HandlerKind) (h : How)
    → ends kind h r ≡ Some (record { value = v; run = r2 }) → GoesOn r r2
unfolding run_of
goes_by_ends {v} {r} kind h is = subst (λ x. GoesOn r (run_of r x)) is (ends_go kind h r)
