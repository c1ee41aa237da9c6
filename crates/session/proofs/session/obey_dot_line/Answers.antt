use Rattle.std.proofs.Common.{Some, sym, ap, ◌∙◌}
use Rattle.session.proofs.Performing.{performs_act}
use Rattle.session.proofs.session.obey_dot_line.Goals as goal

pub returns-in-Act-clause-performed : goal.returns-in-Act-clause-performed
returns-in-Act-clause-performed g c =
    performs_act c.args.steps c.args.number c.args.line.now _ c.in-Act.reading _ c.args.world.now.history
    c.obey.new.world.history c.typed.result c.obey.result
    (sym c.command_in.ensures ∙ c.in-Some.is ∙ ap Some c.in-Act.is) c.behind_name-text.ensures.text c.typed.ensures
    c.obey.ensures.done
