-- What tokens begin with: operators, names with a meaning, and small words.
use Rattle.std.specs.Prelude.{ℕ, List, [], ◌∷◌, Bool, ◌||◌, Option, Some, None, if◌then◌else◌, codes}
use Rattle.ht_values.specs.Text.{entry, same}
use Rattle.ht_lex.specs.declared.key.Key.TheVariants as k
use Rattle.ht_lex.specs.declared.key.TokenKind.{TokenKind}
use Rattle.ht_lex.specs.declared.key.TokenKind.TheVariants as kind
use Rattle.ht_lex.specs.Token.{Token, first_kind, first_text, later}
use Rattle.ht_values.specs.declared.operator.Op.{Op}
use Rattle.ht_values.specs.declared.operator.Op.TheVariants as o
use Rattle.ht_values.specs.declared.operator.UnOp.{UnOp}
use Rattle.ht_values.specs.declared.operator.UnOp.TheVariants as un
use Rattle.ht_values.specs.declared.operator.ValueType.{ValueType}
use Rattle.ht_values.specs.declared.operator.ValueType.TheVariants as type
use Rattle.ht_values.specs.declared.word.Prop.{Prop}
use Rattle.ht_values.specs.declared.word.Prop.TheVariants as prop
use Rattle.ht_grammar.specs.declared.vocabulary.RunProp.{RunProp}
use Rattle.ht_grammar.specs.declared.vocabulary.RunProp.TheVariants as run
use Rattle.ht_grammar.specs.declared.vocabulary.FunctionWord.{FunctionWord}
use Rattle.ht_grammar.specs.declared.vocabulary.FunctionWord.TheVariants as func

-- Two names are the same where they differ at most in case.
abbrev pub same_name : List ℕ → List ℕ → Bool
same_name = same

-- the properties of objects whose names aren't reserved
abbrev pub prop_names : List (List ℕ × Prop)
prop_names =
    (codes "name", prop.Name) ∷ (codes "script", prop.Script) ∷ (codes "visible", prop.Visible)
    ∷ (codes "hilite", prop.Hilite) ∷ (codes "sharedHilite", prop.SharedHilite)
    ∷ (codes "lockText", prop.LockText) ∷ (codes "sharedText", prop.SharedText) ∷ (codes "cantDelete", prop.CantDelete)
    ∷ []

abbrev pub run_prop_names : List (List ℕ × RunProp)
run_prop_names = (codes "itemDelimiter", run.ItemDelimiter) ∷ (codes "lockMessages", run.LockMessages)
    ∷ (codes "editBkgnd", run.EditBkgnd) ∷ []

abbrev pub function_names : List (List ℕ × FunctionWord)
function_names =
    (codes "abs", func.Abs) ∷ (codes "charToNum", func.CharToNum) ∷ (codes "numToChar", func.NumToChar)
    ∷ (codes "length", func.Length) ∷ (codes "value", func.Value) ∷ []

abbrev pub prop_by : Option TokenKind → List ℕ → Option Prop
prop_by (Some (kind.Key k.Id)) w = Some prop.Id
prop_by (Some kind.Name) w = entry prop_names w
prop_by _ w = None

-- The property that the first token names.
unfoldable pub prop_front : List Token → Option Prop
prop_front ts = prop_by (first_kind ts) (first_text ts)

-- `short` stands before these alone.
abbrev pub short_of : Prop → Option Prop
short_of prop.Name = Some prop.ShortName
short_of prop.Id = Some prop.ShortId
short_of _ = None

unfoldable pub run_prop : List ℕ → Option RunProp
run_prop w = entry run_prop_names w

unfoldable pub function_of : List ℕ → Option FunctionWord
function_of w = entry function_names w

-- `a` or `an`
abbrev pub is_article : List ℕ → Bool
is_article w = same_name w (codes "a") || same_name w (codes "an")

abbrev pub type_by : Option TokenKind → List ℕ → Option ValueType
type_by (Some (kind.Key k.Number)) w = Some type.Number
type_by (Some kind.Name) w = if same_name w (codes "integer") then Some type.Integer else if same_name w
    (codes "logical") then Some type.Logical else None
type_by _ w = None

-- The type that the first token names.
unfoldable pub type_front : List Token → Option ValueType
type_front ts = type_by (first_kind ts) (first_text ts)

abbrev pub asked_by : Option TokenKind → List ℕ → List Token → Option ValueType
asked_by (Some kind.Name) w ts = if is_article w then type_front ts else None
asked_by _ w ts = None

-- `a` or `an` and a type
unfoldable pub asked_type : List Token → Option ValueType
asked_type ts = asked_by (first_kind ts) (first_text ts) (later ts)

-- An operator after its left operand, with its rank, and the tokens after it. `or` is of rank 7, and `*` of 1.
pub data LeadingOperator : Type 0 where
  infix_at : ℕ → Op → List Token → LeadingOperator
  -- `is a` or `is not a`, and a type
  test_at : UnOp → List Token → LeadingOperator
  neither : LeadingOperator

-- the tokens after it
abbrev pub operator_rest : LeadingOperator → List Token
operator_rest (infix_at r op b) = b
operator_rest (test_at op c) = c
operator_rest neither = []

-- `=`, `<>` and `is` are of one rank.
abbrev pub equality : ℕ
equality = 5

-- An `is` or `is not`, unless a type is asked for.
abbrev pub test_or : (ValueType → UnOp) → Op → List Token → Option ValueType → LeadingOperator
test_or test op ts None = infix_at equality op ts
test_or test op ts (Some t) = test_at (test t) (later (later ts))

abbrev pub is_not_by : Option TokenKind → List Token → LeadingOperator
is_not_by (Some (kind.Key k.In)) ts = infix_at 4 o.IsNotIn (later ts)
is_not_by _ ts = test_or un.IsNotA o.NotEqual ts (asked_type ts)

-- after `is not`
unfoldable pub operator_after_is_not : List Token → LeadingOperator
operator_after_is_not ts = is_not_by (first_kind ts) ts

abbrev pub is_by : Option TokenKind → List Token → LeadingOperator
is_by (Some (kind.Key k.In)) ts = infix_at 4 o.IsIn (later ts)
is_by (Some (kind.Key k.Not)) ts = operator_after_is_not (later ts)
is_by _ ts = test_or un.IsA o.Equal ts (asked_type ts)

-- After `is` a `not` or `in` belongs to the operator, and so does `a` or `an` before a type.
unfoldable pub operator_after_is : List Token → LeadingOperator
operator_after_is ts = is_by (first_kind ts) ts

-- by the first token, and those after it
abbrev pub operator_by : Option TokenKind → List Token → LeadingOperator
operator_by (Some (kind.Key k.Or)) ts = infix_at 7 o.Or ts
operator_by (Some (kind.Key k.And)) ts = infix_at 6 o.And ts
operator_by (Some (kind.Key k.Equal)) ts = infix_at equality o.Equal ts
operator_by (Some (kind.Key k.NotEqual)) ts = infix_at equality o.NotEqual ts
operator_by (Some (kind.Key k.Is)) ts = operator_after_is ts
operator_by (Some (kind.Key k.Less)) ts = infix_at 4 o.Less ts
operator_by (Some (kind.Key k.Greater)) ts = infix_at 4 o.Greater ts
operator_by (Some (kind.Key k.LessEqual)) ts = infix_at 4 o.LessOrEqual ts
operator_by (Some (kind.Key k.GreaterEqual)) ts = infix_at 4 o.GreaterOrEqual ts
operator_by (Some (kind.Key k.Contains)) ts = infix_at 4 o.Contains ts
operator_by (Some (kind.Key k.Ampersand)) ts = infix_at 3 o.Join ts
operator_by (Some (kind.Key k.DoubleAmpersand)) ts = infix_at 3 o.JoinSpaced ts
operator_by (Some (kind.Key k.Plus)) ts = infix_at 2 o.Add ts
operator_by (Some (kind.Key k.Minus)) ts = infix_at 2 o.Subtract ts
operator_by (Some (kind.Key k.Star)) ts = infix_at 1 o.Multiply ts
operator_by (Some (kind.Key k.Slash)) ts = infix_at 1 o.Divide ts
operator_by (Some (kind.Key k.Div)) ts = infix_at 1 o.Div ts
operator_by (Some (kind.Key k.Mod)) ts = infix_at 1 o.Mod ts
operator_by _ ts = neither

unfoldable pub leading_operator : List Token → LeadingOperator
leading_operator ts = operator_by (first_kind ts) (later ts)

abbrev pub of_by : Option TokenKind → List Token → Option (List Token)
of_by (Some (kind.Key k.Of)) ts = Some ts
of_by (Some (kind.Key k.In)) ts = Some ts
of_by _ ts = None

-- the tokens after `of` or `in`
abbrev pub after_of : List Token → Option (List Token)
after_of ts = of_by (first_kind ts) (later ts)

abbrev pub the_by : Option TokenKind → List Token → List Token
the_by (Some (kind.Key k.The)) ts = later ts
the_by _ ts = ts

-- without a `the` in front, if there is one
abbrev pub past_the : List Token → List Token
past_the ts = the_by (first_kind ts) ts
