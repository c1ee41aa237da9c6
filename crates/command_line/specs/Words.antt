-- What the program's words say.
use Rattle.std.specs.Prelude.{◌≡◌, ℕ, Bool, true, false, List, [], Option, Some, None, min, max, unwrap_or, codes, ◌<◌}
use Rattle.std.specs.Prelude.{◌^◌}
use Rattle.std.specs.Str.Parse.{IsNumeral, digits_value, without_leading_plus}
use Rattle.std.specs.String.{string_bytes}
use Rattle.clap.specs.Words.{App, Row, Rule, Text, new_app, new_rule, with_rule, first_of, one_of}
use Rattle.clap.specs.declared.builder.action.ArgAction.TheVariants.{Set, SetTrue}
use Rattle.clap.specs.declared.builder.value_parser.ValueParser.TheVariants.{Unsigned}
use Rattle.change_journal.specs.declared.world.TheConstants.{MOST_DEPTH}
use Rattle.session.specs.declared.limits.TheConstants.{MOST_STEPS}
use Rattle.command_line.specs.declared.options.Options.{Options}
use Rattle.command_line.specs.declared.words.TheConstants.{DEFAULT_STEPS}

-- STACK has to be there; --steps and --depth have a number in their range, and --watch, --explain and --check stand
-- alone
abbrev pub stack_rule : Rule
stack_rule = record (new_rule (codes "STACK")) { required = true; action = Some Set }

abbrev pub number_rule : Text → ℕ → Rule
number_rule name most = record (new_rule name) { long = Some name; action = Some Set; parser = Some (Unsigned 1 most) }

abbrev pub flag_rule : Text → Rule
flag_rule name = record (new_rule name) { long = Some name; action = Some SetTrue }

abbrev pub program : App
program = with_rule
    (with_rule
    (with_rule
    (with_rule (with_rule (with_rule (new_app (codes "card_cli")) stack_rule) (number_rule (codes "steps") MOST_STEPS))
    (number_rule (codes "depth") MOST_DEPTH)) (flag_rule (codes "watch"))) (flag_rule (codes "explain")))
    (flag_rule (codes "check"))

-- whether a text is a number that a word can hold
abbrev pub Reads : Text → Type 0
Reads t = IsNumeral 10 (without_leading_plus t) × (digits_value 10 (without_leading_plus t) < 2 ^ 64)

-- the number that a text writes, from 1 to the most, or another one where there is no such text
pub record IsNumber (given : Option Text) (unless most n : ℕ) : Type 0 where
  pub none : given ≡ None → n ≡ unless
  pub some : (t : Text) → given ≡ Some t → Reads t → n ≡ max 1 (min (digits_value 10 (without_leading_plus t)) most)
  pub other : (t : Text) → given ≡ Some t → ¬ Reads t → n ≡ unless

-- whether a flag was given
pub record IsFlag (given : Option Text) (b : Bool) : Type 0 where
  pub none : given ≡ None → b ≡ false
  pub yes : given ≡ Some (codes "true") → b ≡ true
  pub no : given ≡ Some (codes "false") → b ≡ false

-- what was found in the words, said
pub record Says (rows : List Row) (w : Options) : Type 0 where
  pub stack : string_bytes w.stack ≡ unwrap_or (first_of (codes "STACK") rows) []
  pub steps : IsNumber (one_of (codes "steps") rows) DEFAULT_STEPS MOST_STEPS w.steps
  pub depth : IsNumber (one_of (codes "depth") rows) MOST_DEPTH MOST_DEPTH w.depth
  pub watch : IsFlag (one_of (codes "watch") rows) w.watch
  pub explain : IsFlag (one_of (codes "explain") rows) w.explain
  pub check : IsFlag (one_of (codes "check") rows) w.check
