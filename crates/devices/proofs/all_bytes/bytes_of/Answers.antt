use Rattle.std.proofs.Common.{ℕ, ◌+◌, ◌≤◌, ◌++◌, length, take, arith, length-append, length-take}
use Rattle.std.proofs.lemmas.Result.{err_from_is_err_and}
use Rattle.devices.proofs.Known.{Consumes-Consumes}
use Rattle.devices.proofs.all_bytes.bytes_of.Goals as goal

-- src/all_bytes.rt
pub returns-in_err-extend_from_slice-in-Ok-clause-err :
    goal.returns-in_err-extend_from_slice-in-Ok-clause-err
returns-in_err-extend_from_slice-in-Ok-clause-err g c =
    let block = take c.in-Ok.count c.read.new.buf in
    let bytes = c.loop-block.bytes.items in
    let few : length (bytes ++ block) ≤ c.args.limit + 1 =
    omega (arith, length-append bytes block, length-take {A = ℕ}) in
    let p = err_from_is_err_and c.from_residual.result c.from_residual.ensures.1 in
    rw (p.1, p.2) (
      bytes ++ block,
      Consumes-Consumes _ _ _ bytes block c.loop-block.invariant.consumed c.in-Ok.ensures.bytes.0,
      few,
      λ e. cc,
    )
