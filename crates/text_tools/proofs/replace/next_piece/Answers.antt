use Rattle.std.proofs.Common.{◌≡◌, ◌+◌, ◌-◌, arith, ◌∙◌, sym, ap, nat_eq}
use Rattle.std.specs.List.{starts_with}
use Rattle.std.proofs.lemmas.List.{take_rest}
use Rattle.text_tools.proofs.Replaced.{replaced-at, replaced-past}
use Rattle.text_tools.proofs.replace.next_piece.Goals as goal

pub returns-then-starts_with-clause-piece : goal.returns-then-starts_with-clause-piece
returns-then-starts_with-clause-piece c =
    let here = ap (λ x. starts_with nat_eq x c.args.old.now) (sym (take_rest c.args.text.now c.args.at))
    ∙ sym c.starts_with.ensures.value ∙ c.if-starts_with.true in
    replaced-at c.args.old.now c.args.new.now c.args.text.now c.args.at c.requires.old c.requires.at here

pub returns-else-starts_with-clause-piece : goal.returns-else-starts_with-clause-piece
returns-else-starts_with-clause-piece c =
    let other = ap (λ x. starts_with nat_eq x c.args.old.now) (sym (take_rest c.args.text.now c.args.at))
    ∙ sym c.starts_with.ensures.value ∙ c.if-starts_with.false in
    let one : c.args.at + 1 - c.args.at ≡ 1 = omega arith in
    rw one (replaced-past c.args.old.now c.args.new.now c.args.text.now c.args.at c.requires.at other)
