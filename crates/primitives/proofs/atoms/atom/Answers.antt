use Rattle.std.proofs.Common.{sym, true≢false, ◌∙◌, ap}
use Rattle.primitives.specs.Atoms.{is_atom}
use Rattle.primitives.proofs.Forms.{no_atom}
use Rattle.primitives.proofs.atoms.atom.Goals as goal

pub unreachable-requires : goal.unreachable-requires
unreachable-requires g c =
    let f = c.in_default in
    let no = no_atom c.form.result f.not-Number f.not-Digits f.not-Quoted f.not-Constant f.not-Name f.not-Kind in
    true≢false (sym c.requires ∙ (sym (ap is_atom c.form.ensures) ∙ no))
