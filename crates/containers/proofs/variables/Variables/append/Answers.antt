use Rattle.std.proofs.Common.{◌≡◌, ℕ, List, [], ◌++◌, Some, None, Option, Ok, Err, Result, refl, ap, sym, ◌∙◌, get_or}
use Rattle.std.proofs.Common.{unwrap_or, rules}
use Rattle.std.proofs.lemmas.Result.{on_ok_weaker, IfErr-weaker}
use Rattle.ht_values.specs.Outcome.{Gives, and_then, within_limit}
use Rattle.ht_values.specs.declared.failure.Failure.{Failure}
use Rattle.ht_values.specs.declared.failure.Failure.TheVariants as failure
use Rattle.ht_values.specs.declared.fault.Fault.{Fault}
use Rattle.containers.specs.declared.variables.Local.{Local}
use Rattle.containers.specs.Variables.{own_text, with_local}
use Rattle.containers.specs.Writes.{Writes}
use Rattle.containers.proofs.Locals.{text_found, text_missing, value_set}
use Rattle.containers.proofs.variables.Variables.append.Goals as goal

abbrev nobody : Local
nobody = record { name = []; value = None }

abbrev written : Result (List ℕ) Fault → Result (Option (List ℕ)) Fault
written r = and_then r (λ u. Ok (Some u))

fault_is_written : (e : Failure) (r : Result (List ℕ) Fault) → Gives {A = List ℕ} (Err e) r
    → Gives {A = Option (List ℕ)} (Err e) (written r)
fault_is_written (failure.Fault f) r h = rw h refl
fault_is_written failure.Memory r h = h

pub returns-in-Some-clause-ok : goal.returns-in-Some-clause-ok
returns-in-Some-clause-ok c =
    let ls = c.self.inside.locals in
    let found = sym c.number_of.ensures.value ∙ c.in-Some.is in
    let text : own_text c.args.self.now c.args.name.now ≡ unwrap_or (get_or ls c.in-Some.i nobody).value [] =
    ap (λ v. own_text v c.args.name.now) (sym c.self.view_is)
    ∙ text_found c.self.inside.all_global c.args.name.now ls c.in-Some.i nobody found in
    on_ok_weaker c.append_at.result
    (λ e h d. let p = e nobody in Writes.to_own refl
    (ap (λ t. written (within_limit (t ++ c.args.new))) text ∙ ap written p.1)
    (ap (λ xs. record { all_global = c.self.inside.all_global; locals = xs })
    (p.2 ∙ sym (value_set _ _ _ _ nobody found))
    ∙ ap (λ v. with_local v c.args.name.now (Some p.0)) c.self.view_is)) c.append_at.ensures.ok

pub returns-in-Some-clause-fault : goal.returns-in-Some-clause-fault
returns-in-Some-clause-fault c d =
    let ls = c.self.inside.locals in
    let found = sym c.number_of.ensures.value ∙ c.in-Some.is in
    let text : own_text c.args.self.now c.args.name.now ≡ unwrap_or (get_or ls c.in-Some.i nobody).value [] =
    ap (λ v. own_text v c.args.name.now) (sym c.self.view_is)
    ∙ text_found c.self.inside.all_global c.args.name.now ls c.in-Some.i nobody found in
    rw text (IfErr-weaker c.append_at.result _ _ (λ e h. fault_is_written e _ h) (c.append_at.ensures.fault nobody))

pub returns-in_ok-set-in-None-clause-ok : goal.returns-in_ok-set-in-None-clause-ok
returns-in_ok-set-in-None-clause-ok c h d =
    let ls = c.self.inside.locals in
    let missing = sym c.number_of.ensures.value ∙ c.in-None.is in
    let text : own_text c.args.self.now c.args.name.now ≡ [] = ap (λ v. own_text v c.args.name.now) (sym c.self.view_is)
    ∙ text_missing c.self.inside.all_global c.args.name.now ls missing in
    let fits : within_limit c.args.new ≡ Ok c.args.new = search rules in
    Writes.to_own refl (ap (λ t. written (within_limit (t ++ c.args.new))) text ∙ ap written fits) (search rules)
