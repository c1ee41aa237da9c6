use Rattle.std.proofs.Common.{ap, ◌∙◌}
use Rattle.meaning.specs.State.{typed_frame_at}
use Rattle.user_actions.proofs.TypedOver.{goes_without_place, goes_without_text, stands, types}
use Rattle.user_actions.proofs.typing.type_over.Goals as goal

pub returns-in-Err-Fault-clause-meaning : goal.returns-in-Err-Fault-clause-meaning
returns-in-Err-Fault-clause-meaning g c =
    goes_without_place c.args.world.now.history c.args.run.now c.args.field c.args.text.now _
    (c.typed-frame.ensures ∙ ap typed_frame_at c.current.ensures.value) _ _ c.in-Err-Fault.field-0-is
    c.in-Err-Fault.ensures.place

pub returns-in-Err-Fault-text_of-clause-meaning : goal.returns-in-Err-Fault-text_of-clause-meaning
returns-in-Err-Fault-text_of-clause-meaning g c =
    goes_without_text c.args.world.now.history c.args.run.now c.args.field c.args.text.now _
    (c.typed-frame.ensures ∙ ap typed_frame_at c.current.ensures.value) _ _ c.in-Err-Fault-text_of.field-0-is
    c.in-Err-Fault-text_of.ensures

pub put_at-requires-clause-stands : goal.put_at-requires-clause-stands
put_at-requires-clause-stands g c =
    stands c.args.world.now.history c.args.run.now c.args.field c.args.text.now _
    (c.typed-frame.ensures ∙ ap typed_frame_at c.current.ensures.value) _ _ _ c.in-Ok-text_of.ensures
    c.in-Ok.ensures.place c.in_ok-new.ensures.value

pub returns-clause-meaning : goal.returns-clause-meaning
returns-clause-meaning g c =
    types c.args.world.now.history c.args.run.now c.args.field c.args.text.now _
    (c.typed-frame.ensures ∙ ap typed_frame_at c.current.ensures.value) _ _ _ c.in-Ok-text_of.ensures
    c.in-Ok.ensures.place c.in_ok-new.ensures.value _ _ _ _ _ _ c.in_ok-put_at.ensures.meaning
    c.leaving_message-message.ensures c.tell.ensures.meaning
