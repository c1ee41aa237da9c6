use Rattle.std.proofs.Common.{◌≡◌, true, [], length, get_or, None, ap, sym, ◌∙◌, arith}
use Rattle.std.specs.List.{position_or_len}
use Rattle.std.specs.Str.{bytes_eq}
use Rattle.std.proofs.lemmas.Grind.{common_steps}
use Rattle.std.proofs.lemmas.List.Sums.{position_or_len_is}
use Rattle.ht_values.specs.Text.{folded, same}
use Rattle.containers.specs.declared.variables.Local.{Local}
use Rattle.containers.proofs.indexed_locals.place_in.Goals as goal

pub returns-then-has_form-clause-value : goal.returns-then-has_form-clause-value
returns-then-has_form-clause-value c =
    let ls = c.args.locals.now in
    let here = c.index-locals-i.result in
    let met : same (get_or ls c.loop-i.i here).name c.args.name.now ≡ true =
    ap (bytes_eq (folded (get_or ls c.loop-i.i here).name)) (sym c.folded-form.ensures.value)
    ∙ sym c.has_form.ensures ∙ c.if-has_form.true in
    let first : position_or_len (λ l. same l.name c.args.name.now) ls ≡ c.loop-i.i =
    position_or_len_is (λ l. same l.name c.args.name.now) ls c.loop-i.i here (omega (arith, c.loop-i-test.true))
    (λ k less. c.loop-i.invariant k here less) (λ _. met) in
    grind (arith, common_steps)

pub returns-clause-value : goal.returns-clause-value
returns-clause-value c =
    let ls = c.args.locals.now in
    let none : Local = record { name = []; value = None } in
    let past : position_or_len (λ l. same l.name c.args.name.now) ls ≡ length ls =
    position_or_len_is (λ l. same l.name c.args.name.now) ls (length ls) none (omega arith)
    (λ k less. c.loop-i.invariant k none (omega (arith, less, c.loop-i-test.false)))
    (λ less. absurd (omega (arith, less))) in
    grind (arith, common_steps)
