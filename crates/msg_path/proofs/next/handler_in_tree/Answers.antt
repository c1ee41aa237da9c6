use Rattle.std.proofs.Common.{◌≡◌, Some, None, sym, ◌∙◌}
use Rattle.ht_grammar.specs.Handlers.{handler_in}
use Rattle.ht_tree.specs.ScriptView.{script_of}
use Rattle.msg_path.proofs.Rules.{leads_past, leads_to}
use Rattle.msg_path.proofs.next.handler_in_tree.Goals as goal

pub returns-in_ok-clone-in-Some : goal.returns-in_ok-clone-in-Some
returns-in_ok-clone-in-Some c s reads =
    let tree = c.args.tree.now.value in
    let found : handler_in (script_of tree) c.args.kind c.args.name.now ≡ Some c.new.result.handler =
    sym (rw c.deref.ensures at c.in-Some.ensures.value)
    ∙ (rw c.in_ok-clone-in-Some.ensures.cases at c.new.ensures.handler) in
    leads_to s c.args.id c.args.kind c.args.name.now (script_of tree) c.new.result reads found c.new.ensures.object

pub returns-in-None : goal.returns-in-None
returns-in-None c s reads =
    let tree = c.args.tree.now.value in
    let none : handler_in (script_of tree) c.args.kind c.args.name.now ≡ None =
    sym (rw c.deref.ensures at c.in-None.ensures.value) in
    leads_past s c.args.id c.args.kind c.args.name.now (script_of tree) reads none
