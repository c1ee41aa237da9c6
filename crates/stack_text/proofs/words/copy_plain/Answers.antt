use Rattle.std.proofs.Common.{List, ℕ, ◌++◌, ◌∙◌, ap, take, drop}
use Rattle.stack_text.proofs.Runs.{copied-spelled, copied-text}
use Rattle.stack_text.proofs.words.copy_plain.Goals as goal

pub returns-clause-spelled : goal.returns-clause-spelled
returns-clause-spelled c =
    let bytes = c.args.bytes.now in
    let copied = c.in_ok-extend_from_slice.ensures.items ∙ ap (λ (t : List ℕ). c.args.out.now.items ++ t)
    (c.split_at.ensures.front ∙ ap (λ (n : ℕ). take n bytes) c.plain_length-length.ensures.value) in
    let left = c.split_at.ensures.back ∙ ap (λ (n : ℕ). drop n bytes) c.plain_length-length.ensures.value in
    copied-spelled c.args.out.now.items c.extend_from_slice.new.self.items bytes c.split_at.result.1.now copied left

pub returns-clause-text : goal.returns-clause-text
returns-clause-text c =
    let bytes = c.args.bytes.now in
    let copied = c.in_ok-extend_from_slice.ensures.items ∙ ap (λ (t : List ℕ). c.args.out.now.items ++ t)
    (c.split_at.ensures.front ∙ ap (λ (n : ℕ). take n bytes) c.plain_length-length.ensures.value) in
    let left = c.split_at.ensures.back ∙ ap (λ (n : ℕ). drop n bytes) c.plain_length-length.ensures.value in
    copied-text c.args.out.now.items c.extend_from_slice.new.self.items bytes c.split_at.result.1.now copied left
