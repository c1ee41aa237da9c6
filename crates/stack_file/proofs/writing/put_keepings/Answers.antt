use Rattle.std.proofs.Common.{◌<◌, ◌≤◌, length, arith}
use Rattle.std.proofs.lemmas.Bool.Decides.{nat_tests}
use Rattle.std.proofs.lemmas.Grind.{common_steps}
use Rattle.stack_text.specs.Listing.{keeping_of}
use Rattle.stack_text.specs.Spelling.{keeping_lines}
use Rattle.stack_text.specs.declared.sheets.Version.TheVariants.{Second as second}
use Rattle.stack_file.proofs.Passing.{nothing_passes, next_passed, all_passed, put_then_passed}
use Rattle.stack_file.proofs.writing.put_keepings.Goals as goal

pub loop-id-init : goal.loop-id-init
loop-id-init g c = nothing_passes _ _

pub loop-id-preserved : goal.loop-id-preserved
loop-id-preserved g c =
    let within : c.loop-id.id-index < length c.args.ids.now = grind (arith, common_steps, nat_tests) in
    next_passed (keeping_lines second) (keeping_of c.args.stack.now.content c.args.card)
    c.args.ids.now c.loop-id.id-index within c.loop-id.invariant
    (put_then_passed _ _ _ _ _ _ c.in_ok-put_keeping.ensures c.in_ok-pass_on.ensures)

pub returns : goal.returns
returns g c =
    let past : length c.args.ids.now ≤ c.loop-id.id-index = grind (arith, common_steps, nat_tests) in
    all_passed (keeping_lines second) (keeping_of c.args.stack.now.content c.args.card)
    c.args.ids.now c.loop-id.id-index past c.loop-id.invariant
