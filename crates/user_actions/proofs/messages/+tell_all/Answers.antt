use Rattle.std.proofs.lemmas.Result.{err_from_is_err_and}
use Rattle.meaning.specs.Meaning.{TellsAll}
use Rattle.user_actions.proofs.Telling.{none, split}
use Rattle.user_actions.proofs.messages.+tell_all.Goals as goal

pub returns-in_err-tell-in-len1-up-clause-meaning : goal.returns-in_err-tell-in-len1-up-clause-meaning
returns-in_err-tell-in-len1-up-clause-meaning g t c =
    let p = err_from_is_err_and c.from_residual.result c.from_residual.ensures.1 in
    rw (p.1, p.2) (TellsAll.tell_stops (split _ _ c.in-len1-up.len_at_least)
    (rw c.current.ensures.value at c.in_err-tell-in-len1-up.ensures.meaning))

pub returns-in-empty-clause-meaning : goal.returns-in-empty-clause-meaning
returns-in-empty-clause-meaning g t c = TellsAll.none_to_tell (none _ c.in-empty.len_below)

pub returns-in-Exited-clause-meaning : goal.returns-in-Exited-clause-meaning
returns-in-Exited-clause-meaning g t c = TellsAll.tell_stops (split _ _ c.in-len1-up.len_at_least)
    (rw (c.current.ensures.value, c.in-Exited.is) at c.in_ok-tell-in-len1-up.ensures.meaning)

pub returns-in-Done-clause-meaning : goal.returns-in-Done-clause-meaning
returns-in-Done-clause-meaning g t c = TellsAll.tells_on (split _ _ c.in-len1-up.len_at_least)
    (rw (c.current.ensures.value, c.in-Done.is) at c.in_ok-tell-in-len1-up.ensures.meaning) c.tell_all.ensures.meaning
