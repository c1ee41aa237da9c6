use Rattle.command_line.proofs.Kits.{seen, apart, logs_of}
use Rattle.command_line.proofs.kit.kit_of.Goals as goal
use Rattle.xkit.specs.contracts.kit_external.KitExternalExternal.TheImpl.{ghosts}

pub returns-clause-seen : goal.returns-clause-seen
returns-clause-seen c =
    seen _ _ _ _ c.in_ok-externals.ensures c.in_ok-count.ensures.seen c.in_ok-bins.ensures.seen
    c.in_ok-relay.ensures.seen c.in_ok-gate.ensures.seen

pub returns-clause-logs : goal.returns-clause-logs
returns-clause-logs c =
    logs_of _ c.in_ok-externals.ensures c.in_ok-count.ensures.log c.in_ok-bins.ensures.log c.in_ok-relay.ensures.log
    c.in_ok-gate.ensures.log

pub returns-clause-apart : goal.returns-clause-apart
returns-clause-apart c =
    apart _ ghosts.sort ghosts.answers_calls ghosts.cells c.in_ok-externals.ensures c.in_ok-count.ensures.seen
    c.in_ok-bins.ensures.seen c.in_ok-relay.ensures.seen c.in_ok-gate.ensures.seen
