use Rattle.std.proofs.Common.{bytes_eq, sym, ◌∙◌, ap}
use Rattle.xkit.specs.Steps.{cell}
use Rattle.xkit.proofs.Planning.{IsPlan-push, Avoids-push, flipped-push, flipped-has, has_text, has_other}
use Rattle.xkit.proofs.cells.Cells.plan.Goals as goal

pub returns-then-has-clause-ok : goal.returns-then-has-clause-ok
returns-then-has-clause-ok c =
    let same = ap (λ t. bytes_eq (cell c.args.self.now c.args.cell) t) (sym c.as_slice.ensures.value)
    ∙ sym c.has.ensures ∙ c.if-has.true in
    flipped-has c.args.self.now c.args.plan.now c.args.cell c.args.text c.requires.once
    (has_text c.args.self.now c.args.cell c.args.text c.requires.there same)

pub returns-clause-plan : goal.returns-clause-plan
returns-clause-plan c =
    let other = ap (λ t. bytes_eq (cell c.args.self.now c.args.cell) t) (sym c.as_slice.ensures.value)
    ∙ sym c.has.ensures ∙ c.if-has.false in
    rw c.in_ok-push.ensures.ok (IsPlan-push c.args.self.now c.args.plan.now c.args.cell c.args.text c.requires.there
    c.requires.once (has_other c.args.self.now c.args.cell c.args.text other) c.requires.plan)

pub returns-clause-ok : goal.returns-clause-ok
returns-clause-ok c = rw c.in_ok-push.ensures.ok (flipped-push c.args.self.now c.args.plan.now c.args.cell c.args.text)

pub returns-clause-names : goal.returns-clause-names
returns-clause-names c i n a = rw c.in_ok-push.ensures.ok (Avoids-push c.args.plan.now c.args.cell i c.args.text n a)
