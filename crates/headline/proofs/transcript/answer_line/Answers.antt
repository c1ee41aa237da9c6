use Rattle.std.proofs.lemmas.Result.{err_from_is_err_and}
use Rattle.headline.proofs.transcript.answer_line.Goals as goal

-- a part of the answer went out
pub returns-in_err-write_answer-clause-err : goal.returns-in_err-write_answer-clause-err
returns-in_err-write_answer-clause-err g c =
    let p = err_from_is_err_and c.from_residual.result c.from_residual.ensures.1 in
    let h = c.in_err-write_answer.ensures in
    rw p.1 (c.take_line-reply.result, h.0, c.take_line-reply.ensures, h.1, h.2)
