-- The log of an external: the turns that it took, the first one first.
use Rattle.std.specs.Coded.{Coded, Coded-set, code_by, coded×, coded_ℕ, coded_bool, coded_list, coded_option, ×_prop}
use Rattle.std.specs.Coded.{Π_prop, Unit-prop}
use Rattle.std.specs.Prelude.{◌≡◌, refl, ℕ, zero, suc, Bool, false, List, [], Option, Some, None, IfSome, All}
use Rattle.std.specs.Prelude.{slice_index_or}
use Rattle.externals.specs.Turns.{Turn, TurnTable}
use Rattle.externals.specs.declared.external.Input.{Input}
use Rattle.externals.specs.declared.external.Input.TheVariants.{Start, Answer}
use Rattle.externals.specs.declared.external.Ask.{Ask}
use Rattle.externals.specs.declared.external.Ask.TheVariants.{SendCardMessage, EvalExpr, SetGlobal, SetFieldByName}
use Rattle.externals.specs.declared.external.Ask.TheVariants.{Done, Fail}

-- a turn: the external's cells before it, what it was handed, what it asked or how it ended, and its cells after it
pub record LoggedTurn : Type 0 where
  pub before : List (List ℕ)
  pub input : Input
  pub ask : Ask
  pub cells : List (List ℕ)

abbrev pub Log : Type 0
Log = List LoggedTurn

-- the turn is the one that the table has for it, where it has one
abbrev pub IsTurnOf : TurnTable → ℕ → LoggedTurn → Type 0
IsTurnOf table kind turn =
    IfSome (table kind turn.before turn.input) (λ due. (turn.ask ≡ due.0) × (turn.cells ≡ due.1))

-- each turn of an external of this kind is that of the table
abbrev pub Follows : TurnTable → ℕ → Log → Type 0
Follows table kind = All (IsTurnOf table kind)

-- ---- codes

abbrev coded_text : Coded (List ℕ)
coded_text = coded_list coded_ℕ

-- an input: its texts, and the value of a call-back
abbrev split_input : Input → List (List ℕ) × Option (List ℕ)
split_input (Start args) = (args, None)
split_input (Answer note value) = (note, Some value)

abbrev joined_input : List (List ℕ) → Option (List ℕ) → Input
joined_input texts None = Start texts
joined_input texts (Some value) = Answer texts value

pub input_back : (x : Input) → (let p = split_input x in joined_input p.0 p.1) ≡ x
input_back (Start args) = refl
input_back (Answer note value) = refl

abbrev pub coded_input : Coded Input
coded_input = code_by (List (List ℕ) × Option (List ℕ)) (coded× (coded_list coded_text) (coded_option coded_text))
    split_input (λ p. joined_input p.0 p.1) input_back

-- what is asked: a number of its form, with its note, texts and flag
abbrev numbered_ask : Ask → ℕ × (List (List ℕ) × (List ℕ × (List ℕ × Bool)))
numbered_ask (SendCardMessage note text) = (0, (note, (text, ([], false))))
numbered_ask (EvalExpr note text) = (1, (note, (text, ([], false))))
numbered_ask (SetGlobal note name value) = (2, (note, (name, (value, false))))
numbered_ask (SetFieldByName note on_card name value) = (3, (note, (name, (value, on_card))))
numbered_ask (Done value passes) = (4, ([], (value, ([], passes))))
numbered_ask Fail = (5, ([], ([], ([], false))))

abbrev ask_numbered : ℕ → List (List ℕ) → List ℕ → List ℕ → Bool → Ask
ask_numbered zero note text value flag = SendCardMessage note text
ask_numbered (suc zero) note text value flag = EvalExpr note text
ask_numbered (suc (suc zero)) note text value flag = SetGlobal note text value
ask_numbered (suc (suc (suc zero))) note text value flag = SetFieldByName note flag text value
ask_numbered (suc (suc (suc (suc zero)))) note text value flag = Done text flag
ask_numbered n note text value flag = Fail

pub ask_back : (a : Ask) → (let p = numbered_ask a in ask_numbered p.0 p.1.0 p.1.1.0 p.1.1.1.0 p.1.1.1.1) ≡ a
ask_back (SendCardMessage note text) = refl
ask_back (EvalExpr note text) = refl
ask_back (SetGlobal note name value) = refl
ask_back (SetFieldByName note on_card name value) = refl
ask_back (Done value passes) = refl
ask_back Fail = refl

abbrev pub coded_ask : Coded Ask
coded_ask = code_by (ℕ × (List (List ℕ) × (List ℕ × (List ℕ × Bool))))
    (coded× coded_ℕ (coded× (coded_list coded_text) (coded× coded_text (coded× coded_text coded_bool))))
    numbered_ask (λ p. ask_numbered p.0 p.1.0 p.1.1.0 p.1.1.1.0 p.1.1.1.1) ask_back

abbrev pub coded_log : Coded Log
coded_log = coded_list (code_by (List (List ℕ) × (Input × (Ask × List (List ℕ))))
    (coded× (coded_list coded_text) (coded× coded_input (coded× coded_ask (coded_list coded_text))))
    (λ t. (t.before, (t.input, (t.ask, t.cells))))
    (λ p. record { before = p.0; input = p.1.0; ask = p.1.1.0; cells = p.1.1.1 }) (λ _. refl))

-- ---- a log follows a table in one way at most, so a struct can keep that it does

is_turn-prop : (turn : LoggedTurn) (due : Option Turn)
    → IsProp (IfSome due (λ d. (turn.ask ≡ d.0) × (turn.cells ≡ d.1)))
is_turn-prop turn None = Unit-prop
is_turn-prop turn (Some d) =
    ×_prop (Coded-set coded_ask turn.ask d.0) (Coded-set (coded_list coded_text) turn.cells d.1)

pub Follows-prop : (table : TurnTable) (kind : ℕ) (log : Log) → IsProp (Follows table kind log)
Follows-prop table kind log = Π_prop (λ i. Π_prop (λ d. Π_prop (λ within.
    let turn = slice_index_or log i d in is_turn-prop turn (table kind turn.before turn.input))))
