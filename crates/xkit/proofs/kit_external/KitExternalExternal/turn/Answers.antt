use Rattle.xkit.specs.Table.{kit_table}
use Rattle.xkit.specs.Members.{kind_of}
use Rattle.xkit.proofs.kit_external.KitExternalExternal.turn.Goals as goal

pub invariant_of-self-2-clause-follows : goal.invariant_of-self-2-clause-follows
invariant_of-self-2-clause-follows c =
    c.record.ensures.follows kit_table (kind_of c.args.self.now.member) c.args.self.now.follows
    (rw c.of-before.ensures c.in_ok-ask.ensures.told)
