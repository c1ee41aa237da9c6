use Rattle.std.proofs.Common.{Err, ap, ◌∙◌}
use Rattle.std.proofs.lemmas.Result.{err_from_is_err_and}
use Rattle.command_line.proofs.Kits.{plays_with, ends_with, idles}
use Rattle.command_line.proofs.kit.play_with_kit.Goals as goal

pub returns-in_err-externals-clause-err : goal.returns-in_err-externals-clause-err
returns-in_err-externals-clause-err g c =
    let p = err_from_is_err_and c.from_residual.result c.from_residual.ensures.1 in
    idles _ _ _ _ _ _ _ _ (p.1 ∙ ap Err p.2)

pub returns-clause-ok : goal.returns-clause-ok
returns-clause-ok g c =
    plays_with _ _ _ _ _ _ _ _ _ _ _ _ c.in_ok-externals.ensures.seen c.in_ok-externals.ensures.logs
    c.play.ensures.ok

pub returns-clause-err : goal.returns-clause-err
returns-clause-err g c =
    ends_with _ _ _ _ _ _ _ _ _ _ _ _ c.in_ok-externals.ensures.seen c.in_ok-externals.ensures.logs
    c.play.ensures.err
