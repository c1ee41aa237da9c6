use Rattle.std.proofs.Common.{◌≡◌, Some, None, length, ap, ◌∙◌, if◌then◌else◌}
use Rattle.stack_text.specs.Words.{unspelled}
use Rattle.stack_text.proofs.Texts.{text-found, no_text}
use Rattle.stack_text.proofs.Runs.{from-nothing}
use Rattle.stack_text.proofs.words.unspell.Goals as goal

pub returns-then-branch-clause-found : goal.returns-then-branch-clause-found
returns-then-branch-clause-found c =
    let bytes = c.args.bytes.now in
    let text = c.unspell_into.new.out.items in
    let is : unspelled bytes ≡ Some text = from-nothing c.in_ok-unspell_into.field-0 c.new-text.result.items text bytes
    c.new-text.ensures.items c.in_ok-unspell_into.ensures
    ∙ ap (λ known. if known then Some text else None) c.if-branch.true in
    (text-found (length bytes) bytes text is).1

pub returns-else-branch-clause-none : goal.returns-else-branch-clause-none
returns-else-branch-clause-none c =
    let bytes = c.args.bytes.now in
    let text = c.unspell_into.new.out.items in
    let is : unspelled bytes ≡ None = from-nothing c.in_ok-unspell_into.field-0 c.new-text.result.items text bytes
    c.new-text.ensures.items c.in_ok-unspell_into.ensures
    ∙ ap (λ known. if known then Some text else None) c.if-branch.false in
    no_text bytes is
