-- Turns of externals: what a type says of them, and that what is asked is texts.
use Rattle.std.specs.Prelude.{ℕ, List, Option, None}
use Rattle.std.specs.List.{AllByRecursion}
use Rattle.ht_values.specs.Text.{IsText}
use Rattle.externals.specs.declared.external.Input.{Input}
use Rattle.externals.specs.declared.external.Ask.{Ask}
use Rattle.externals.specs.declared.external.Ask.TheVariants.{SendCardMessage, EvalExpr, SetGlobal, SetFieldByName}
use Rattle.externals.specs.declared.external.Ask.TheVariants.{Done, Fail}

-- what is asked, and the cells after it
abbrev pub Turn : Type 0
Turn = Ask × List (List ℕ)

-- what a type says of the turns of its externals, by their kind, their cells and what they are handed: where it has a
-- turn, this is the one that they take
abbrev pub TurnTable : Type 0
TurnTable = ℕ → List (List ℕ) → Input → Option Turn

-- a type that says nothing
abbrev pub no_table : TurnTable
no_table kind cells input = None

-- what is asked is texts, and so is the note
abbrev pub AskTexts : Ask → Type 0
AskTexts (SendCardMessage note t) = AllByRecursion IsText note × IsText t
AskTexts (EvalExpr note t) = AllByRecursion IsText note × IsText t
AskTexts (SetGlobal note n v) = AllByRecursion IsText note × IsText n × IsText v
AskTexts (SetFieldByName note on_card n v) = AllByRecursion IsText note × IsText n × IsText v
AskTexts (Done v passes) = IsText v
AskTexts Fail = Unit {0}
