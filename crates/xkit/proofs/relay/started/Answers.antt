use Rattle.std.proofs.Common.{◌≡◌, arith, length, [], sym, subst, ◌∙◌, slice_index_or, slice_set, IfOk}
use Rattle.std.proofs.lemmas.Bool.Decides.{nat_tests}
use Rattle.std.proofs.lemmas.Option.{get_or_from_slice_get}
use Rattle.externals.specs.declared.external.Ask.TheVariants.{SetGlobal}
use Rattle.xkit.specs.Steps.{Takes}
use Rattle.xkit.proofs.Relays.{global_is_set}
use Rattle.xkit.proofs.relay.started.Goals as goal

pub returns-clause-ok : goal.returns-clause-ok
returns-clause-ok c =
    let cells = c.args.cells.now in
    let args = c.args.args.now in
    let four : length args ≡ 4 = grind (arith, nat_tests, c.len.ensures, c.if-len-ne4.false) in
    let note = sym c.in_ok-note.ensures in
    let global : slice_index_or args 0 [] ≡ c.in_ok-global.global =
    get_or_from_slice_get args 0 c.at.result.now [] c.at.ensures ∙ sym c.in_ok-global.ensures.value in
    let kept : slice_index_or args 0 [] ≡ c.in_ok-kept.kept =
    get_or_from_slice_get args 0 c.at-2.result.now [] c.at-2.ensures ∙ sym c.in_ok-kept.ensures.value in
    let value = sym c.in_ok-value.ensures.value in
    let due = global_is_set cells args four
    ∙ (λ i. (SetGlobal (note i) (global i) (value i), slice_set cells 0 (kept i))) in
    subst (λ t. IfOk c.changed.result (λ r. Takes t cells c.changed.new.cells r.0 r.1)) (sym due) c.changed.ensures.ok
