-- Written by tools/meaning/outcomes.py from tools/meaning/meaning.rules.
-- The meaning of HyperTalk as a function with fuel.
use Rattle.std.specs.Prelude.{ℕ, zero, suc}
use Rattle.definitional_interpreter.specs.Told.{unknown, unknown_in}
use Rattle.definitional_interpreter.specs.Families.{Meanings}
use Rattle.definitional_interpreter.specs.Expressions.{val_of, vals_of, number_val_of, truth_val_of, text_val_of}
use Rattle.definitional_interpreter.specs.Expressions.{chunk_of_of, resolves_of, picks_of, seeks_of, owns_of}
use Rattle.definitional_interpreter.specs.Expressions.{part_met_of, meets_of, leads_of}
use Rattle.definitional_interpreter.specs.Statements.{form_of, alters_of, block_of, do_text_of, endless_of, while_of}
use Rattle.definitional_interpreter.specs.Statements.{bounds_of, counts_of}
use Rattle.definitional_interpreter.specs.Messages.{calls_of, sends_text_of, sends_of, along_of, outside_of}
use Rattle.definitional_interpreter.specs.Messages.{built_in_gives_of, system_of, systems_of, goes_of, menu_of}
use Rattle.definitional_interpreter.specs.Messages.{converses_of, talks_of, calls_back_of}
use Rattle.definitional_interpreter.specs.Commands.{line_of, message_of, refers_of, tells_of, tells_all_of, clicks_of}
use Rattle.definitional_interpreter.specs.Commands.{types_over_of, types_into_of, acts_of}

-- without fuel nothing is known
abbrev pub nothing : Meanings
nothing = record {
  val = λ _ _ _ _ _. unknown;
  vals = λ _ _ _ _ _ _. unknown;
  number_val = λ _ _ _ _ _. unknown;
  truth_val = λ _ _ _ _ _. unknown;
  text_val = λ _ _ _ _ _. unknown;
  chunk_of = λ _ _ _ _ _. unknown;
  resolves = λ _ _ _ _ _. unknown;
  picks = λ _ _ _ _ _. unknown;
  seeks = λ _ _ _ _ _. unknown;
  owns = λ _ _ _ _ _ _. unknown;
  part_met = λ _ _ _ _ _. unknown;
  meets = λ _ _ _ _ _. unknown;
  leads = λ _ _ _ _ _. unknown;
  form = λ _ _ _ _ _. unknown_in;
  alters = λ _ _ _ _ _ _ _. unknown_in;
  block = λ _ _ _ _ _. unknown_in;
  do_text = λ _ _ _ _ _. unknown_in;
  endless = λ _ _ _ _ _. unknown_in;
  while = λ _ _ _ _ _ _ _. unknown_in;
  bounds = λ _ _ _ _ _ _ _. unknown;
  counts = λ _ _ _ _ _ _ _. unknown_in;
  calls = λ _ _ _ _ _ _ _ _. unknown;
  sends_text = λ _ _ _ _ _ _. unknown;
  sends = λ _ _ _ _ _ _ _ _. unknown;
  along = λ _ _ _ _ _ _ _ _ _. unknown;
  outside = λ _ _ _ _ _ _ _. unknown;
  built_in_gives = λ _ _ _ _ _ _ _. unknown;
  system = λ _ _ _ _ _ _. unknown;
  systems = λ _ _ _ _ _. unknown;
  goes = λ _ _ _ _ _. unknown;
  menu = λ _ _ _ _ _. unknown;
  converses = λ _ _ _ _ _. unknown;
  talks = λ _ _ _ _ _. unknown;
  calls_back = λ _ _ _ _. unknown;
  line = λ _ _ _. unknown;
  message = λ _ _ _ _ _. unknown;
  refers = λ _ _ _. unknown;
  tells = λ _ _ _ _. unknown;
  tells_all = λ _ _ _. unknown;
  clicks = λ _ _ _. unknown;
  types_over = λ _ _ _ _. unknown;
  types_into = λ _ _ _ _. unknown;
  acts = λ _ _ _. unknown;
}

-- each part from the meanings of its parts
abbrev pub one_more : Meanings → Meanings
one_more m = record {
  val = val_of m;
  vals = vals_of m;
  number_val = number_val_of m;
  truth_val = truth_val_of m;
  text_val = text_val_of m;
  chunk_of = chunk_of_of m;
  resolves = resolves_of m;
  picks = picks_of m;
  seeks = seeks_of m;
  owns = owns_of m;
  part_met = part_met_of m;
  meets = meets_of m;
  leads = leads_of m;
  form = form_of m;
  alters = alters_of m;
  block = block_of m;
  do_text = do_text_of m;
  endless = endless_of m;
  while = while_of m;
  bounds = bounds_of m;
  counts = counts_of m;
  calls = calls_of m;
  sends_text = sends_text_of m;
  sends = sends_of m;
  along = along_of m;
  outside = outside_of m;
  built_in_gives = built_in_gives_of m;
  system = system_of m;
  systems = systems_of m;
  goes = goes_of m;
  menu = menu_of m;
  converses = converses_of m;
  talks = talks_of m;
  calls_back = calls_back_of m;
  line = line_of m;
  message = message_of m;
  refers = refers_of m;
  tells = tells_of m;
  tells_all = tells_all_of m;
  clicks = clicks_of m;
  types_over = types_over_of m;
  types_into = types_into_of m;
  acts = acts_of m;
}

-- the meanings that so many nested parts can tell
unfoldable pub meanings : ℕ → Meanings
meanings zero = nothing
meanings (suc parts) = one_more (meanings parts)
