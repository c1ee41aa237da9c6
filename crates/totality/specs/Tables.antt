-- Tables of turns as behaviours.
use Rattle.std.specs.Prelude.{◌≡◌, ℕ, List, length, All, IfSome, unwrap_or}
use Rattle.ht_values.specs.Text.{IsText}
use Rattle.externals.specs.Log.{Log}
use Rattle.externals.specs.Turns.{AskTexts, TurnTable}
use Rattle.externals.specs.declared.external.Ask.TheVariants.{Fail}
use Rattle.externals.specs.declared.external.Input.{Input}
use Rattle.whole_states.specs.Texts.{InputTexts}
use Rattle.totality.specs.Laws.{Behaviour, IsBehaviour}

-- a table that externals may follow: each turn leaves as many cells, and of texts it makes texts
pub record IsTable (table : TurnTable) : Type 0 where
  pub counts : (sort : ℕ) (cells : List (List ℕ)) (input : Input) →
      IfSome (table sort cells input) (λ turn. length turn.1 ≡ length cells)
  pub texts : (sort : ℕ) (cells : List (List ℕ)) (input : Input) → All IsText cells → InputTexts input →
      IfSome (table sort cells input) (λ turn. AskTexts turn.0 × All IsText turn.1)

-- what the table says of externals of these kinds; where it says nothing they fail
abbrev pub by_table : TurnTable → (ℕ → ℕ) → Behaviour
by_table table kind i log cells input = unwrap_or (table (kind i) cells input) (Fail, cells)

-- That is a behaviour of externals, and as the table says. So there is an outcome whose turns follow the table.
abbrev pub TablesAreBehaviours : Type 0
TablesAreBehaviours = (table : TurnTable) (kind : ℕ → ℕ) → IsTable table →
    IsBehaviour (by_table table kind) ×
    ((i : ℕ) (log : Log) (cells : List (List ℕ)) (input : Input) →
    IfSome (table (kind i) cells input) (λ turn. by_table table kind i log cells input ≡ turn))
