use Rattle.std.proofs.Common.{◌≡◌, ℕ, Bool, None, ◌∙◌, arith}
use Rattle.std.proofs.lemmas.Grind.{common_steps}
use Rattle.object_table.specs.Objects.{has_kind, is_of}
use Rattle.object_references.proofs.Last.{last_passing, last_walked}
use Rattle.object_references.proofs.picking.last_part.Goals as goal

pub returns : goal.returns
returns c =
    let passes : ℕ → Bool = has_kind (is_of c.args.kind) c.args.stack.now.content in
    let found : c.loop-part.last ≡ last_passing passes None c.args.parts.now = grind (arith, common_steps) in
    found ∙ last_walked passes c.args.parts.now
