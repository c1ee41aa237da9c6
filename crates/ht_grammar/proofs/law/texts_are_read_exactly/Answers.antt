use Rattle.ht_grammar.proofs.law.texts_are_read_exactly.Goals as goal

pub returns : goal.returns
returns c = record {
  cuts = c.texts_are_cut_exactly.ensures;
  expressions = c.expressions_are_read_exactly.ensures.exact;
  lines = c.lines_are_read_exactly.ensures.exact;
  scripts = c.scripts_are_read_exactly.ensures.exact;
  messages = c.messages_are_read_exactly.ensures.exact;
  parts = c.parts_are_read_exactly.ensures.exact;
  typing = c.typing_is_read_exactly.ensures.exact;
  one_expression = c.expressions_are_read_exactly.ensures.text;
  one_list_of_lines = c.lines_are_read_exactly.ensures.text;
  one_script = c.scripts_are_read_exactly.ensures.text;
  one_message = c.messages_are_read_exactly.ensures.text;
  one_part = c.parts_are_read_exactly.ensures.text;
  one_typing = c.typing_is_read_exactly.ensures.text;
}
