use Rattle.text_tools.specs.Tools.{tool_table, kind_of}
use Rattle.text_tools.proofs.text_tool.TextToolExternal.turn.Goals as goal

pub invariant_of-self-2-clause-follows : goal.invariant_of-self-2-clause-follows
invariant_of-self-2-clause-follows c =
    c.record.ensures.follows tool_table (kind_of c.args.self.now.tool) c.args.self.now.follows
    (rw c.of-before.ensures c.in_ok-ask.ensures.told)
