use Rattle.std.proofs.lemmas.List.Elements.{All-push}
use Rattle.externals.specs.Log.{IsTurnOf}
use Rattle.xkit.proofs.turn_log.TurnLog.record.Goals as goal

pub returns-clause-follows : goal.returns-clause-follows
returns-clause-follows c table kind before turn =
    rw c.with.ensures (All-push (IsTurnOf table kind) c.args.self.now.turns _ before turn)
