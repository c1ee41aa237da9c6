-- Whole states, and what leads from whole states to whole ones.
use Rattle.std.specs.Prelude.{List, [], ◌∷◌, IfSome}
use Rattle.ht_values.specs.Text.{IsText}
use Rattle.object_table.specs.Setting.{HasTexts}
use Rattle.stack_places.specs.Places.{Value, text, setting}
use Rattle.journal_entries.specs.Places.{Place, global}
use Rattle.journal_entries.specs.Replaced.{Replacement}
use Rattle.change_journal.specs.History.{History, IsHistory}

-- a text that is put somewhere is one, and so is a name or a script that is set
abbrev pub IsTextual : Value → Type 0
IsTextual (text t) = IsText t
IsTextual (setting v) = HasTexts v
IsTextual _ = Unit {0}

-- a global's name is a text
abbrev pub IsNamedByText : Place → Type 0
IsNamedByText (global name) = IsText name
IsNamedByText _ = Unit {0}

-- what is written is texts, wherever it isn't a number, a flag or an object as it is made
abbrev pub AreTexts : List Replacement → Type 0
AreTexts [] = Unit {0}
AreTexts (r ∷ rs) = (IsNamedByText r.place × IfSome r.new IsTextual) × AreTexts rs

-- Where each state of a history is whole, each state is after these were replaced, if what was written is texts.
pub record KeepsWhole (replaced : List Replacement) (w w2 : History) : Type 0 where
  pub whole : AreTexts replaced → IsHistory w → IsHistory w2
