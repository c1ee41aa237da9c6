-- What a table says is a behaviour.
use Rattle.std.proofs.Common.{◌≡◌, length, Option, Some, None, refl, All, IfSome, unwrap_or}
use Rattle.ht_values.specs.Text.{IsText}
use Rattle.externals.specs.Turns.{AskTexts, Turn}
use Rattle.externals.specs.declared.external.Ask.TheVariants.{Fail}
use Rattle.totality.specs.Tables.{TablesAreBehaviours}

-- what holds of the turn of a table, where it has one, and of failing
either : (P : Turn → Type 0) (due : Option Turn) (otherwise : Turn) → IfSome due P → P otherwise →
    P (unwrap_or due otherwise)
either P None otherwise is fails = fails
either P (Some turn) otherwise is fails = is

as_due : (due : Option Turn) (otherwise : Turn) → IfSome due (λ turn. unwrap_or due otherwise ≡ turn)
as_due None otherwise = tt
as_due (Some turn) otherwise = refl

pub tables_are_behaviours : TablesAreBehaviours
tables_are_behaviours table kind h = (
  record {
    counts = λ i log cells input. either (λ t. length t.1 ≡ length cells) (table (kind i) cells input) (Fail, cells)
        (h.counts (kind i) cells input) refl;
    texts = λ i log cells input before handed. either (λ t. AskTexts t.0 × All IsText t.1)
        (table (kind i) cells input) (Fail, cells) (h.texts (kind i) cells input before handed) (tt, before);
  },
  λ i log cells input. as_due (table (kind i) cells input) (Fail, cells),
)
