use Rattle.std.proofs.Common.{◌≡◌, rules, Err}
use Rattle.msg_path.proofs.Rules.{stops_there}
use Rattle.msg_path.proofs.next.handler_here.Goals as goal

pub returns-in_err-tree-clause-due : goal.returns-in_err-tree-clause-due
returns-in_err-tree-clause-due g c =
    let e = c.in_err-tree.field-0.0 in
    let q : c.from_residual.result ≡ Err e = search rules in
    let t = rw (c.in_err-tree.was) at c.parsed_tree.ensures.tree in
    rw q (stops_there c.args.world.now.history.now.stack c.args.id c.args.kind c.args.name.now e t)
