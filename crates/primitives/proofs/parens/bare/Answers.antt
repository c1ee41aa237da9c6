use Rattle.std.proofs.Common.{sym, ap, ◌∙◌}
use Rattle.primitives.specs.Atoms.{is_in_parens}
use Rattle.primitives.proofs.Forms.{not_in_parens}
use Rattle.primitives.proofs.parens.bare.Goals as goal

pub returns-clause-bare : goal.returns-clause-bare
returns-clause-bare c =
    sym (ap is_in_parens c.form.ensures) ∙ not_in_parens c.form.result c.in_default.not-Paren
