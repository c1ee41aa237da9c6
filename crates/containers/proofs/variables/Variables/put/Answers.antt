use Rattle.std.proofs.Common.{◌≡◌, ◌<◌, Bool, true, false, not, ◌||◌, [], length, Option, Some, None, is_some}
use Rattle.std.proofs.Common.{is_none, ap, sym, refl, ◌∙◌, get_or}
use Rattle.std.proofs.lemmas.List.{get_or_read}
use Rattle.containers.specs.declared.variables.Local.{Local}
use Rattle.containers.specs.Variables.{is_global, with_local, with_value}
use Rattle.containers.proofs.Locals.{global_found, global_missing, value_set}
use Rattle.containers.proofs.variables.Variables.put.Goals as goal

abbrev nobody : Local
nobody = record { name = []; value = None }

lacks : {X : Type 0} (o : Option X) (b : Bool) → is_some o ≡ not b → is_none o ≡ b
lacks None true e = refl
lacks None false e = sym e
lacks (Some x) true e = sym e
lacks (Some x) false e = refl

pub returns-in-Some-clause-global : goal.returns-in-Some-clause-global
returns-in-Some-clause-global c =
    let ls = c.self.inside.locals in
    let found = sym c.number_of.ensures.value ∙ c.in-Some.is in
    let within : c.in-Some.i < length ls = c.in-Some.ensures.within in
    let local = sym (get_or_read ls c.in-Some.i _ within (rw c.as_slice.ensures at c.index-as_slice-i.is) nobody)
    ∙ c.index-as_slice-i.is in
    let global = ap (λ v. is_global v c.args.name.now) (sym c.self.view_is)
    ∙ global_found c.self.inside.all_global c.args.name.now ls c.in-Some.i nobody found in (
      global ∙ (λ k. c.if-self.false k || is_none (local k).value)
          ∙ lacks (get_or c.as_slice.result.now c.in-Some.i c.index-as_slice-i.result).value c.is_none.result
          c.is_none.ensures ∙ c.if-is_none.true,
      refl,
      refl,
    )

pub returns-in-Some-2-clause-own : goal.returns-in-Some-2-clause-own
returns-in-Some-2-clause-own c =
    let ls = c.self.inside.locals in
    let found = sym c.number_of.ensures.value ∙ c.in-Some.is in
    let within : c.in-Some.i < length ls = c.in-Some.ensures.within in
    let local = sym (get_or_read ls c.in-Some.i _ within (rw c.as_slice.ensures at c.index-as_slice-i.is) nobody)
    ∙ c.index-as_slice-i.is in
    let global = ap (λ v. is_global v c.args.name.now) (sym c.self.view_is)
    ∙ global_found c.self.inside.all_global c.args.name.now ls c.in-Some.i nobody found in
    let set : c.set_value.new.self ≡ with_value c.args.name.now (Some c.args.value) ls =
    c.set_value.ensures nobody ∙ sym (value_set _ _ _ _ nobody found) in (
      global ∙ (λ k. c.if-self.false k || is_none (local k).value)
          ∙ lacks (get_or c.as_slice.result.now c.in-Some.i c.index-as_slice-i.result).value c.is_none.result
          c.is_none.ensures ∙ c.if-is_none.false,
      (λ k. record { all_global = c.self.inside.all_global; locals = set k })
          ∙ ap (λ v. with_local v c.args.name.now (Some c.args.value)) c.self.view_is,
    )

pub returns-in_ok-set-in-None-clause-own : goal.returns-in_ok-set-in-None-clause-own
returns-in_ok-set-in-None-clause-own c =
    let missing = sym c.number_of.ensures.value ∙ c.in-None.is in
    let global = ap (λ v. is_global v c.args.name.now) (sym c.self.view_is)
    ∙ global_missing c.self.inside.all_global c.args.name.now c.self.inside.locals missing
    ∙ ap (λ g. g || false) c.if-self.false in
    (global, c.in_ok-set-in-None.ensures.ok)
