use Rattle.std.proofs.Common.{sym, ◌∙◌}
use Rattle.session.proofs.Spaces.{position-none}
use Rattle.session.proofs.command.word_length.Goals as goal

pub returns-in-None-clause-value : goal.returns-in-None-clause-value
returns-in-None-clause-value c = position-none c.args.bytes.now (sym c.space_in.ensures ∙ c.in-None.is)
