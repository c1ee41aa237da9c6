-- What the rules allow is what the function gives.
use Rattle.std.proofs.Common.{refl, ap, ◌∙◌, cond, [], ◌∷◌, is_none}
use Rattle.ht_grammar.specs.Laws.{TextsAreReadExactly}
use Rattle.definitional_interpreter.specs.Laws.{LinesAreComputed, MessagesAreComputed}
use Rattle.definitional_interpreter.specs.Laws.{ActionsAreComputed, ReferencesAreComputed, ValuesAreComputed}
use Rattle.definitional_interpreter.specs.Laws.{DeterministicKindsHaveNoTurnsToTell, WithNoTableAllTurnsHaveToBeTold}
use Rattle.definitional_interpreter.specs.Turns.{nondeterministic}
use Rattle.definitional_interpreter.proofs.Sights.{from, asks_told}
use Rattle.definitional_interpreter.proofs.Outcomes.{val_comes, line_comes, message_comes, refers_comes, acts_comes}

-- ---- what the function gives

pub line_is_computed : TextsAreReadExactly → LinesAreComputed
line_is_computed exact table turns w w2 r r2 ss o are line has =
    (line_comes {g = from table turns w} line has).gives exact (asks_told are)

pub message_is_computed : TextsAreReadExactly → MessagesAreComputed
message_is_computed exact table turns w w2 r r2 i n vs o are message has =
    (message_comes {g = from table turns w} message has).gives exact (asks_told are)

pub action_is_computed : TextsAreReadExactly → ActionsAreComputed
action_is_computed exact table turns w w2 r r2 ac o are acts has =
    (acts_comes {g = from table turns w} acts has).gives exact (asks_told are)

pub reference_is_computed : TextsAreReadExactly → ReferencesAreComputed
reference_is_computed exact table turns w w2 r r2 pa o are refers has =
    (refers_comes {g = from table turns w} refers has).gives exact (asks_told are)

pub value_is_computed : TextsAreReadExactly → ValuesAreComputed
value_is_computed exact table turns w w2 r r2 f d e o are value has =
    (val_comes {g = from table turns w} value has).gives exact (asks_told are)

-- ---- special cases

pub none_nondeterministic : DeterministicKindsHaveNoTurnsToTell
none_nondeterministic table sort [] fixed = refl
none_nondeterministic table sort (turn ∷ log) fixed =
    ap (λ o. cond (is_none o) (turn ∷ nondeterministic table sort log) (nondeterministic table sort log))
    (fixed turn.before turn.input).1 ∙ none_nondeterministic table sort log fixed

pub all_nondeterministic : WithNoTableAllTurnsHaveToBeTold
all_nondeterministic sort [] = refl
all_nondeterministic sort (turn ∷ log) = ap (λ l. turn ∷ l) (all_nondeterministic sort log)
