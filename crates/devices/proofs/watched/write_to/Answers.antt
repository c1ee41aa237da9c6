use Rattle.std.proofs.Common.{◌+◌, ◌-◌, ◌<◌, ◌≤◌, length, arith, length-drop}
use Rattle.std.proofs.lemmas.Bool.Decides.{nat_tests}
use Rattle.std.proofs.Math.Seq.{take-add}
use Rattle.std.proofs.lemmas.List.{take_rest}
use Rattle.devices.proofs.Known.{Appends-Appends}
use Rattle.devices.proofs.watched.write_to.Goals as goal

-- what is sent goes on by what one write took
pub loop-written-preserved : goal.loop-written-preserved
loop-written-preserved g c =
    let took = rw take_rest at c.in-Ok.ensures in
    let some : 0 < c.in-Ok.n = c.if-n-gt0.true in
    let bound : c.in-Ok.n ≤ length c.args.bytes.now - c.loop-written.written = simp length-drop at took.bound in
    let within : c.loop-written.written + c.in-Ok.n ≤ length c.args.bytes.now = omega arith in
    record {
      within = within;
      sent = rw take-add (Appends-Appends _ _ _ _ _ c.loop-written.invariant.sent took.bytes);
      sound = grind (arith, nat_tests, took.failures);
    }
