-- Written by tools/meaning/gen.py from tools/meaning/meaning.rules and rules.leaves.
-- The rules of the meaning, for `search`: the sets that a file of the crates names.
use Rattle.meaning.specs.Values.{Yields, Parses}
use Rattle.meaning.specs.State.{Step}
use Rattle.meaning.specs.Places.{Edits, Assigns, DeclaresAll, Sets, Adds}
use Rattle.meaning.specs.Messages.{Finds}
use Rattle.meaning.specs.Meaning.{Val, Vals, NumberVal, TruthVal, ChunkOf, Resolves, Seeks, Owns, PartMet, Meets, Leads}
use Rattle.meaning.specs.Meaning.{Form, Alters, DoText, Bounds, Calls, SendsText, Sends, Along, Outside, BuiltInGives}
use Rattle.meaning.specs.Meaning.{System, Systems, Goes, Menu, Converses, Talks, CallsBack, Line, Message, Refers}
use Rattle.meaning.specs.Meaning.{Tells, TellsAll, Clicks, TypesOver, TypesInto, Acts}

pub ruleset step_rules = (Step.taken, Step.none_left)

pub ruleset yields_rules = (Yields.yields_memory, Yields.yields, Yields.faults)

pub ruleset edits_rules = (Edits.edit_memory, Edits.edit_faults, Edits.edited)

pub ruleset assigns_rules = (Assigns.no_variable, Assigns.assigns)

pub ruleset declares_rules = (DeclaresAll.none_declared, DeclaresAll.declared)

pub ruleset sets_rules = (Sets.set_memory, Sets.set_faults, Sets.set_made)

pub ruleset parses_rules = (Parses.parse_memory, Parses.parses, Parses.unparsed)

pub ruleset finds_rules = (Finds.find_memory, Finds.finds, Finds.find_fails)

pub ruleset adds_rules = (Adds.add_memory, Adds.too_many, Adds.adds)

pub ruleset val_rules = (
  Val.memory,
  Val.number,
  Val.quoted,
  Val.constant,
  Val.return_sign,
  Val.name,
  Val.paren,
  Val.operand_stops,
  Val.one_operand,
  Val.left_stops,
  Val.right_stops,
  Val.two_operands,
  Val.there_is,
  Val.there_is_none,
  Val.there_stops,
  Val.chunk_stops,
  Val.chunk_of_stops,
  Val.chunk,
  Val.field_stops,
  Val.field,
  Val.the_result,
  Val.the_target,
  Val.pieces_stop,
  Val.pieces,
  Val.cards,
  Val.backgrounds,
  Val.parts,
  Val.number_stops,
  Val.number_of_object,
  Val.property_stops,
  Val.property,
  Val.run_property_read,
  Val.the_stops,
  Val.the_function,
  Val.the_value,
  Val.call,
)

pub ruleset val_paren_rules = (Val.memory, Val.paren)

pub ruleset val_unary_rules = (Val.memory, Val.operand_stops, Val.one_operand)

pub ruleset val_binary_rules = (Val.memory, Val.left_stops, Val.right_stops, Val.two_operands)

pub ruleset val_there_is_rules = (Val.memory, Val.there_is, Val.there_is_none, Val.there_stops)

pub ruleset val_field_rules = (Val.memory, Val.field_stops, Val.field)

pub ruleset val_number_of_cards_rules = (Val.memory, Val.cards)

pub ruleset val_number_of_backgrounds_rules = (Val.memory, Val.backgrounds)

pub ruleset val_number_of_parts_rules = (Val.memory, Val.parts)

pub ruleset val_number_of_of_object_rules = (Val.memory, Val.number_stops, Val.number_of_object)

pub ruleset val_property_rules = (Val.memory, Val.property_stops, Val.property)

pub ruleset val_function_rules = (Val.memory, Val.the_stops, Val.the_function, Val.the_value)

pub ruleset vals_rules = (Vals.vals_memory, Vals.vals_done, Vals.vals_stop, Vals.vals_more)

pub ruleset numberval_rules = (NumberVal.number_memory, NumberVal.no_number, NumberVal.a_number)

pub ruleset truthval_rules = (TruthVal.truth_memory, TruthVal.no_truth, TruthVal.a_truth)

pub ruleset chunkof_rules = (
  ChunkOf.chunk_memory,
  ChunkOf.one_stops,
  ChunkOf.one,
  ChunkOf.from_stops,
  ChunkOf.to_stops,
  ChunkOf.range,
  ChunkOf.ordinal,
)

pub ruleset resolves_rules = (
  Resolves.place_memory,
  Resolves.place_variable,
  Resolves.place_field_stops,
  Resolves.place_field,
  Resolves.place_chunk_stops,
  Resolves.place_chunk_of_stops,
  Resolves.place_chunk,
)

pub ruleset seeks_rules = (
  Seeks.seek_memory,
  Seeks.seek_this,
  Seeks.seek_next,
  Seeks.seek_previous,
  Seeks.seek_nth,
  Seeks.seek_stops,
  Seeks.seek_which,
)

pub ruleset seeks_which_rules = (Seeks.seek_memory, Seeks.seek_stops, Seeks.seek_which)

pub ruleset owns_rules = (
  Owns.own_memory,
  Owns.no_owner,
  Owns.owner_card_stops,
  Owns.owner_card,
  Owns.owner_background_stops,
  Owns.owner_background,
)

pub ruleset partmet_rules = (
  PartMet.part_memory,
  PartMet.part_stops,
  PartMet.part_owner_stops,
  PartMet.part_of_owner,
  PartMet.nth_owner_stops,
  PartMet.nth_of_owner,
)

pub ruleset meets_rules = (
  Meets.meet_memory,
  Meets.meet_me,
  Meets.meet_target,
  Meets.meet_stack,
  Meets.card_stops,
  Meets.meet_card,
  Meets.background_stops,
  Meets.meet_background,
  Meets.meet_part,
)

pub ruleset leads_rules = (
  Leads.lead_memory,
  Leads.lead_card_stops,
  Leads.lead_card,
  Leads.lead_background_stops,
  Leads.lead_background,
)

pub ruleset form_rules = (
  Form.form_memory,
  Form.show_stops,
  Form.show,
  Form.put_stops,
  Form.put_nowhere,
  Form.put_fails,
  Form.put,
  Form.get_stops,
  Form.get,
  Form.set_stops,
  Form.set_nowhere,
  Form.set_fails,
  Form.set,
  Form.set_run_stops,
  Form.set_run_fails,
  Form.set_run,
  Form.add,
  Form.subtract,
  Form.multiply,
  Form.divide,
  Form.delete_stops,
  Form.delete_nowhere,
  Form.delete_fails,
  Form.delete,
  Form.do_stops,
  Form.do_value,
  Form.send_text_stops,
  Form.send_nowhere,
  Form.send_stops,
  Form.send,
  Form.go_nowhere,
  Form.go_stops,
  Form.go,
  Form.global,
  Form.exit_repeat,
  Form.next_repeat,
  Form.exit_to_hypercard,
  Form.exit_handler,
  Form.pass,
  Form.return_nothing,
  Form.return_stops,
  Form.return_value,
  Form.command_stops,
  Form.command,
  Form.if_stops,
  Form.if_true,
  Form.if_false,
  Form.forever,
  Form.times_stops,
  Form.times,
  Form.while,
  Form.until,
  Form.up_stops,
  Form.up,
  Form.down_stops,
  Form.down,
)

pub ruleset form_put_rules = (Form.form_memory, Form.show_stops, Form.show)

pub ruleset form_get_rules = (Form.form_memory, Form.get_stops, Form.get)

pub ruleset form_set_rules = (Form.form_memory, Form.set_stops, Form.set_nowhere, Form.set_fails, Form.set)

pub ruleset form_set_run_rules = (Form.form_memory, Form.set_run_stops, Form.set_run_fails, Form.set_run)

pub ruleset form_delete_rules = (
  Form.form_memory,
  Form.delete_stops,
  Form.delete_nowhere,
  Form.delete_fails,
  Form.delete,
)

pub ruleset form_do_rules = (Form.form_memory, Form.do_stops, Form.do_value)

pub ruleset form_send_rules = (Form.form_memory, Form.send_text_stops, Form.send_nowhere, Form.send_stops, Form.send)

pub ruleset form_go_rules = (Form.form_memory, Form.go_nowhere, Form.go_stops, Form.go)

pub ruleset form_when_rules = (Form.form_memory, Form.if_stops, Form.if_true, Form.if_false)

pub ruleset form_repeat_times_rules = (Form.form_memory, Form.times_stops, Form.times)

pub ruleset form_repeat_counted_up_rules = (Form.form_memory, Form.up_stops, Form.up)

pub ruleset form_repeat_counted_down_rules = (Form.form_memory, Form.down_stops, Form.down)

pub ruleset alters_rules = (
  Alters.alter_memory,
  Alters.alter_stops,
  Alters.alter_nowhere,
  Alters.alter_fails,
  Alters.alter,
)

pub ruleset dotext_rules = (DoText.do_memory, DoText.do_too_deep, DoText.do_syntax, DoText.do_lines)

pub ruleset bounds_rules = (Bounds.bounds_memory, Bounds.start_stops, Bounds.bound_stops, Bounds.bounds)

pub ruleset calls_rules = (Calls.calls_memory, Calls.calls_stop, Calls.calls)

pub ruleset sendstext_rules = (SendsText.send_memory, SendsText.send_syntax, SendsText.sends_text)

pub ruleset sends_rules = (Sends.sends_memory, Sends.sends_no_step, Sends.sends)

pub ruleset along_rules = (
  Along.along_memory,
  Along.along_broken,
  Along.along_too_deep,
  Along.along_stops,
  Along.along_ends,
  Along.along_passes,
  Along.along_unhandled,
)

pub ruleset outside_rules = (
  Outside.outside_memory,
  Outside.no_external,
  Outside.external_stops,
  Outside.external_ends,
  Outside.external_passes,
)

pub ruleset builtingives_rules = (
  BuiltInGives.built_in_memory,
  BuiltInGives.value_call,
  BuiltInGives.value_arguments,
  BuiltInGives.function_call,
  BuiltInGives.menu_unknown,
  BuiltInGives.menu_item,
  BuiltInGives.ignored_message,
  BuiltInGives.not_understood,
)

pub ruleset system_rules = (System.system_memory, System.system_locked, System.system)

pub ruleset systems_rules = (Systems.systems_memory, Systems.systems_done, Systems.systems_stop, Systems.systems_more)

pub ruleset goes_rules = (Goes.go_memory, Goes.go_stays, Goes.go_close_stops, Goes.go_gone, Goes.go_arrives)

pub ruleset menu_rules = (
  Menu.menu_memory,
  Menu.card_close_stops,
  Menu.card_full,
  Menu.new_card,
  Menu.background_close_stops,
  Menu.background_full,
  Menu.new_background,
  Menu.part_full,
  Menu.new_part,
  Menu.delete_refused,
  Menu.delete_card,
)

pub ruleset converses_rules = (
  Converses.converse_memory,
  Converses.too_many_arguments,
  Converses.conversation_too_deep,
  Converses.converses,
)

pub ruleset talks_rules = (
  Talks.talk_memory,
  Talks.talk_no_step,
  Talks.talk_done,
  Talks.talk_fails,
  Talks.talk_stops,
  Talks.talk_goes_on,
)

pub ruleset callsback_rules = (
  CallsBack.call_back_memory,
  CallsBack.message_syntax,
  CallsBack.message_stops,
  CallsBack.message_runs,
  CallsBack.eval_syntax,
  CallsBack.eval_stops,
  CallsBack.evaluates,
  CallsBack.bad_global,
  CallsBack.global_set,
  CallsBack.no_such_field,
  CallsBack.field_set,
)

pub ruleset callsback_setglobal_rules = (CallsBack.call_back_memory, CallsBack.bad_global, CallsBack.global_set)

pub ruleset callsback_setfieldbyname_rules = (CallsBack.call_back_memory, CallsBack.no_such_field, CallsBack.field_set)

pub ruleset line_rules = (Line.line_memory, Line.line_stops, Line.line)

pub ruleset message_rules = (Message.message_memory, Message.sent_alone_stops, Message.sent_alone)

pub ruleset refers_rules = (Refers.refer_memory, Refers.refer_stops, Refers.refers)

pub ruleset tells_rules = (Tells.tell_memory, Tells.tells_nothing, Tells.tells)

pub ruleset tellsall_rules = (TellsAll.tell_all_memory, TellsAll.none_to_tell, TellsAll.tell_stops, TellsAll.tells_on)

pub ruleset clicks_rules = (
  Clicks.click_memory,
  Clicks.click_misses,
  Clicks.press_stops,
  Clicks.part_goes,
  Clicks.clicks,
)

pub ruleset typesover_rules = (TypesOver.type_over_memory, TypesOver.typed_field_goes, TypesOver.types_over)

pub ruleset typesinto_rules = (
  TypesInto.type_memory,
  TypesInto.type_misses,
  TypesInto.field_open_stops,
  TypesInto.types_into,
)

pub ruleset acts_rules = (Acts.acts_by_lines, Acts.acts_by_opening, Acts.acts_by_click, Acts.acts_by_typing)
