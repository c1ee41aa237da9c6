use Rattle.std.proofs.Math.Seq.{map-set_same}
use Rattle.std.proofs.Common.{ap, ◌∙◌, set}
use Rattle.std.proofs.lemmas.List.{set-get_or}
use Rattle.std.proofs.lemmas.Result.{on_err_weaker}
use Rattle.containers.proofs.indexed_locals.append_at.Goals as goal

pub returns-clause-err : goal.returns-clause-err
returns-clause-err c =
    let ls = c.args.locals.now.items in
    on_err_weaker c.append.result (λ e. ap (λ l. set ls c.args.i l) (e ∙ c.index_mut-local.ensures.value)
    ∙ set-get_or ls c.args.i c.index_mut-local.result.now) c.append.ensures.err

pub returns-clause-names : goal.returns-clause-names
returns-clause-names c =
    map-set_same (λ l. l.name) c.args.locals.now.items c.args.i c.append.new.self c.index_mut-local.result.now
    (c.append.ensures.name ∙ ap (λ l. l.name) c.index_mut-local.ensures.value)
