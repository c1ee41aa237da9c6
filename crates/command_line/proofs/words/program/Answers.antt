use Rattle.std.proofs.Common.{ap, ap₂, ◌∙◌}
use Rattle.std.proofs.lemmas.Result.{IfOk-weaker}
use Rattle.clap.specs.Words.{with_rule}
use Rattle.clap.specs.Simple.{app_of_fields}
use Rattle.command_line.proofs.words.program.Goals as goal

pub returns : goal.returns
returns c =
    let none = ap app_of_fields c.after_help.ensures ∙ (ap app_of_fields c.about.ensures ∙ c.new.ensures.app) in
    let one = c.in_ok-arg.ensures.shape c.stack_word.ensures.local ∙ ap₂ with_rule none c.stack_word.ensures.rule in
    let two = c.in_ok-arg-2.ensures.shape c.number_option.ensures.local
    ∙ ap₂ with_rule one c.number_option.ensures.rule in
    let three = c.in_ok-arg-3.ensures.shape c.number_option-2.ensures.local
    ∙ ap₂ with_rule two c.number_option-2.ensures.rule in
    let four = c.in_ok-arg-4.ensures.shape c.flag.ensures.local ∙ ap₂ with_rule three c.flag.ensures.rule in
    let five = c.in_ok-arg-5.ensures.shape c.flag-2.ensures.local ∙ ap₂ with_rule four c.flag-2.ensures.rule in
    IfOk-weaker c.arg-6.result _ _ (λ r h. h.shape c.flag-3.ensures.local ∙ ap₂ with_rule five c.flag-3.ensures.rule)
    c.arg-6.ensures
