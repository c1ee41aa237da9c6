-- Reading, tried on tokens.
use Rattle.std.proofs.Common.{◌≡◌, [], ◌∷◌, Some, None, refl, codes}
use Rattle.ht_lex.specs.declared.key.Key.TheVariants as k
use Rattle.ht_lex.specs.declared.key.Ordinal.TheVariants as ordinal
use Rattle.ht_values.specs.declared.word.ChunkKind.TheVariants as piece
use Rattle.ht_values.specs.declared.word.PartKind.TheVariants as part_kind
use Rattle.ht_lex.specs.Token.{key, eol, name, number, is_key}
use Rattle.ht_values.specs.declared.operator.Op.TheVariants as o
use Rattle.ht_values.specs.declared.operator.UnOp.TheVariants as un
use Rattle.ht_values.specs.declared.operator.ValueType.TheVariants as type
use Rattle.ht_values.specs.declared.word.Prop.TheVariants as prop
use Rattle.ht_grammar.specs.declared.vocabulary.Layer.TheVariants as layer
use Rattle.ht_grammar.specs.declared.vocabulary.HandlerKind.TheVariants as handler_kind
use Rattle.ht_grammar.specs.Whole.{script, handlers_at, clicked_part}
use Rattle.ht_grammar.specs.Trees as t
use Rattle.ht_grammar.specs.Statements.{stop, also}
use Rattle.ht_grammar.specs.Statements as s
use Rattle.ht_grammar.specs.Lines.{typed_lines, blocks, block_at, lines_at, stmt_at, simple_at, container, head_at}
use Rattle.ht_grammar.specs.Lines.{destination_at}
use Rattle.ht_grammar.specs.Ends.{ended, past_times}
use Rattle.ht_grammar.specs.Fronts.{leading_operator, operator_after_is, operator_after_is_not, asked_type, type_front}
use Rattle.ht_grammar.specs.Fronts.{prop_front}
use Rattle.ht_grammar.specs.Reading.{expression, read, level_at, rank_at, chain_at, join_at, asked_at, list_at, closed}
use Rattle.ht_grammar.specs.Reading.{inner_ref, ref_at, number_form, count_at, power_at, power_end, prefixed_at}
use Rattle.ht_grammar.specs.Reading.{factor_at, primary_at, chunk_form, chunk_at, field_at, part_at, part_front}
use Rattle.ht_grammar.specs.Reading.{part_end, nth_end, which_at, owner_at, referenced_layer, selector_at}

sum : expression (number (codes "1") ∷ key k.Plus ∷ number (codes "2") ∷ key k.Star ∷ number (codes "3") ∷ [])
    ≡ Some (t.binary o.Add (t.number (codes "1")) (t.binary o.Multiply (t.number (codes "2")) (t.number (codes "3"))))
unfolding read level_at rank_at chain_at join_at power_at power_end prefixed_at factor_at primary_at leading_operator
sum = refl

-- `char field 1 of card field 2`: the field has no owner.
no_owner : expression (key (k.Piece piece.Char) ∷ key (k.Part part_kind.Field) ∷ number (codes "1") ∷ key k.Of
    ∷ key k.Card ∷ key (k.Part part_kind.Field) ∷ number (codes "2") ∷ [])
    ≡ Some (t.chunk (t.piece piece.Char
    (t.field (t.part None part_kind.Field (t.by_text (t.number (codes "1"))) t.no_owner)))
    (t.field (t.part (Some layer.Card) part_kind.Field (t.by_text (t.number (codes "2"))) t.no_owner)))
unfolding read level_at rank_at chain_at power_at power_end prefixed_at factor_at primary_at leading_operator chunk_form
    chunk_at field_at part_at part_front part_end which_at owner_at referenced_layer selector_at
no_owner = refl

-- `char field 1 of first card field`: nor here.
no_owner_nth : expression (key (k.Piece piece.Char) ∷ key (k.Part part_kind.Field) ∷ number (codes "1") ∷ key k.Of
    ∷ key (k.Ordinal ordinal.First) ∷ key k.Card ∷ key (k.Part part_kind.Field) ∷ [])
    ≡ Some (t.chunk (t.piece piece.Char
    (t.field (t.part None part_kind.Field (t.by_text (t.number (codes "1"))) t.no_owner)))
    (t.field (t.nth_part ordinal.First (Some layer.Card) part_kind.Field t.no_owner)))
unfolding read level_at rank_at chain_at power_at power_end prefixed_at factor_at primary_at leading_operator chunk_form
    chunk_at field_at part_at part_front part_end nth_end which_at owner_at referenced_layer selector_at
no_owner_nth = refl

-- `char field 1 of first card of x`: the first card is the owner.
with_owner : expression (key (k.Piece piece.Char) ∷ key (k.Part part_kind.Field) ∷ number (codes "1") ∷ key k.Of
    ∷ key (k.Ordinal ordinal.First) ∷ key k.Card ∷ key k.Of ∷ name (codes "x") ∷ [])
    ≡ Some (t.chunk (t.piece piece.Char
    (t.field (t.part None part_kind.Field (t.by_text (t.number (codes "1"))) (t.on_card (t.nth ordinal.First)))))
    (t.name (codes "x")))
unfolding read level_at rank_at chain_at power_at power_end prefixed_at factor_at primary_at leading_operator chunk_form
    chunk_at field_at part_at part_front part_end nth_end which_at owner_at referenced_layer selector_at
with_owner = refl

-- `if x then`, `if y then a`, `else b`, `else`, `c`, `end if`: each `else` where it belongs.
two_elses : typed_lines (key k.If ∷ name (codes "x") ∷ key k.Then ∷ eol ∷ key k.If ∷ name (codes "y") ∷ key k.Then
    ∷ name (codes "a") ∷ eol ∷ key k.Else ∷ name (codes "b") ∷ eol ∷ key k.Else ∷ eol ∷ name (codes "c") ∷ eol
    ∷ key k.End ∷ key k.If ∷ [])
    ≡ Some (also (s.when (t.name (codes "x"))
    (also (s.when (t.name (codes "y")) (also (s.command (codes "a") t.none) stop)
    (also (s.command (codes "b") t.none) stop)) stop) (also (s.command (codes "c") t.none) stop)) stop)
unfolding blocks block_at lines_at stmt_at simple_at ended read level_at rank_at chain_at power_at power_end prefixed_at
    factor_at primary_at leading_operator is_key
two_elses = refl

-- `exit repeat`, outside a repeat and inside one
no_exit : typed_lines (key k.Exit ∷ key k.Repeat ∷ []) ≡ None
unfolding blocks block_at lines_at stmt_at simple_at ended is_key
no_exit = refl

exit_inside : typed_lines (key k.Repeat ∷ number (codes "15") ∷ eol ∷ key k.Exit ∷ key k.Repeat ∷ eol ∷ key k.End
    ∷ key k.Repeat ∷ []) ≡ Some (also (s.repeat (s.times (t.number (codes "15"))) (also s.exit_repeat stop)) stop)
unfolding blocks block_at lines_at stmt_at simple_at ended head_at past_times read level_at rank_at chain_at power_at
    power_end prefixed_at factor_at primary_at leading_operator is_key
exit_inside = refl

go_next : typed_lines (key k.Go ∷ key k.Next ∷ []) ≡ Some (also (s.go (s.to_card t.next)) stop)
unfolding blocks block_at lines_at stmt_at simple_at ended destination_at referenced_layer is_key
go_next = refl

-- `delete char 1 of g`
delete : typed_lines (key k.Delete ∷ key (k.Piece piece.Char) ∷ number (codes "1") ∷ key k.Of ∷ name (codes "g") ∷ [])
    ≡ Some (also (s.delete (t.piece piece.Char (t.number (codes "1"))) (t.variable (codes "g"))) stop)
unfolding blocks block_at lines_at stmt_at simple_at ended container chunk_at read level_at rank_at chain_at power_at
    power_end prefixed_at factor_at primary_at leading_operator is_key
delete = refl

-- `on mouseUp`, `pass MOUSEUP`, `end MouseUp`, after a blank line
script_run : script (eol ∷ key k.On ∷ name (codes "mouseUp") ∷ eol ∷ key k.Pass ∷ name (codes "MOUSEUP") ∷ eol
    ∷ key k.End ∷ name (codes "MouseUp") ∷ [])
    ≡ Some (s.and_handler (s.handler handler_kind.Command (codes "mouseUp") [] (also (s.pass (codes "MOUSEUP")) stop))
    s.no_handlers)
unfolding handlers_at blocks block_at lines_at stmt_at simple_at ended is_key
script_run = refl

clicked : clicked_part (key k.Background ∷ key (k.Part part_kind.Field) ∷ key k.Id ∷ number (codes "3") ∷ [])
    ≡ Some (t.part (Some layer.Background) part_kind.Field (t.by_id (t.number (codes "3"))) t.no_owner)
unfolding part_at part_front part_end which_at owner_at read level_at primary_at
clicked = refl

owner_refused : clicked_part (key (k.Part part_kind.Field) ∷ number (codes "1") ∷ key k.Of ∷ key k.This ∷ key k.Card
    ∷ []) ≡ None
unfolding part_at part_front part_end which_at owner_at referenced_layer selector_at read level_at primary_at
owner_refused = refl

-- `-2 ^ 2`: the minus is tighter.
minus_power : expression (key k.Minus ∷ number (codes "2") ∷ key k.Caret ∷ number (codes "2") ∷ [])
    ≡ Some (t.binary o.Power (t.unary un.Minus (t.number (codes "2"))) (t.number (codes "2")))
unfolding read level_at rank_at chain_at power_at power_end prefixed_at factor_at primary_at leading_operator
minus_power = refl

-- `2 ^ 3 ^ 2`: joined from the right.
powers : expression (number (codes "2") ∷ key k.Caret ∷ number (codes "3") ∷ key k.Caret ∷ number (codes "2") ∷ [])
    ≡ Some (t.binary o.Power (t.number (codes "2")) (t.binary o.Power (t.number (codes "3")) (t.number (codes "2"))))
unfolding read level_at rank_at chain_at power_at power_end prefixed_at factor_at primary_at leading_operator
powers = refl

-- `1 - 2 - 3`: joined from the left.
differences : expression (number (codes "1") ∷ key k.Minus ∷ number (codes "2") ∷ key k.Minus ∷ number (codes "3") ∷ [])
    ≡ Some (t.binary o.Subtract (t.binary o.Subtract (t.number (codes "1")) (t.number (codes "2")))
    (t.number (codes "3")))
unfolding read level_at rank_at chain_at join_at power_at power_end prefixed_at factor_at primary_at leading_operator
differences = refl

-- `1 = 2 < 3`: an equality is looser than a comparison.
equality_of_order : expression (number (codes "1") ∷ key k.Equal ∷ number (codes "2") ∷ key k.Less ∷ number (codes "3")
    ∷ [])
    ≡ Some (t.binary o.Equal (t.number (codes "1")) (t.binary o.Less (t.number (codes "2")) (t.number (codes "3"))))
unfolding read level_at rank_at chain_at join_at power_at power_end prefixed_at factor_at primary_at leading_operator
equality_of_order = refl

-- `x is a number`, and `x is a`, which compares with the variable `a`
is_a_number : expression (name (codes "x") ∷ key k.Is ∷ name (codes "a") ∷ key k.Number ∷ [])
    ≡ Some (t.unary (un.IsA type.Number) (t.name (codes "x")))
unfolding read level_at rank_at chain_at asked_at power_at power_end prefixed_at factor_at primary_at leading_operator
    operator_after_is asked_type type_front
is_a_number = refl

is_a : expression (name (codes "x") ∷ key k.Is ∷ name (codes "a") ∷ [])
    ≡ Some (t.binary o.Equal (t.name (codes "x")) (t.name (codes "a")))
unfolding read level_at rank_at chain_at join_at power_at power_end prefixed_at factor_at primary_at leading_operator
    operator_after_is asked_type type_front
is_a = refl

is_not_an_integer : expression (name (codes "x") ∷ key k.Is ∷ key k.Not ∷ name (codes "an") ∷ name (codes "integer")
    ∷ []) ≡ Some (t.unary (un.IsNotA type.Integer) (t.name (codes "x")))
unfolding read level_at rank_at chain_at asked_at power_at power_end prefixed_at factor_at primary_at leading_operator
    operator_after_is operator_after_is_not asked_type type_front
is_not_an_integer = refl

-- `x is not in y`
is_not_in : expression (name (codes "x") ∷ key k.Is ∷ key k.Not ∷ key k.In ∷ name (codes "y") ∷ [])
    ≡ Some (t.binary o.IsNotIn (t.name (codes "x")) (t.name (codes "y")))
unfolding read level_at rank_at chain_at join_at power_at power_end prefixed_at factor_at primary_at leading_operator
    operator_after_is operator_after_is_not
is_not_in = refl

-- `x is a number is in y`: after a type only operators of that rank follow.
type_then_in : expression (name (codes "x") ∷ key k.Is ∷ name (codes "a") ∷ key k.Number ∷ key k.Is ∷ key k.In
    ∷ name (codes "y") ∷ []) ≡ None
unfolding read level_at rank_at chain_at asked_at power_at power_end prefixed_at factor_at primary_at leading_operator
    operator_after_is asked_type type_front
type_then_in = refl

-- `(1` and `1)`
unclosed : expression (key k.LeftParen ∷ number (codes "1") ∷ []) ≡ None
unfolding read level_at rank_at chain_at power_at power_end prefixed_at factor_at primary_at leading_operator closed
unclosed = refl

unopened : expression (number (codes "1") ∷ key k.RightParen ∷ []) ≡ None
unfolding read level_at rank_at chain_at power_at power_end prefixed_at factor_at primary_at leading_operator
unopened = refl

-- `the short name of me`, and `the short script of me`, which isn't in the grammar
short_name : expression (key k.The ∷ name (codes "short") ∷ name (codes "name") ∷ key k.Of ∷ key k.Me ∷ [])
    ≡ Some (t.property prop.ShortName t.me)
unfolding read level_at rank_at chain_at power_at power_end prefixed_at factor_at leading_operator prop_front inner_ref
    ref_at
short_name = refl

short_script : expression (key k.The ∷ name (codes "short") ∷ name (codes "script") ∷ key k.Of ∷ key k.Me ∷ []) ≡ None
unfolding read level_at rank_at chain_at power_at power_end prefixed_at factor_at leading_operator prop_front inner_ref
    ref_at
short_script = refl

-- `the number of card buttons`
card_buttons : expression (key k.The ∷ key k.Number ∷ key k.Of ∷ key k.Card ∷ key (k.Parts part_kind.Button) ∷ [])
    ≡ Some (t.number_of (t.parts (Some layer.Card) part_kind.Button))
unfolding read level_at rank_at chain_at power_at power_end prefixed_at factor_at leading_operator number_form count_at
card_buttons = refl

-- `return` in a typed line
no_return : typed_lines (key k.Return ∷ []) ≡ None
unfolding blocks block_at lines_at stmt_at simple_at ended is_key
no_return = refl

-- `on f`, `end g`
other_name : script (key k.On ∷ name (codes "f") ∷ eol ∷ key k.End ∷ name (codes "g") ∷ eol ∷ []) ≡ None
unfolding handlers_at blocks block_at lines_at ended is_key
other_name = refl

-- `foo (1)`: a command with `(1)`.
command_paren : typed_lines (name (codes "foo") ∷ key k.LeftParen ∷ number (codes "1") ∷ key k.RightParen ∷ [])
    ≡ Some (also (s.command (codes "foo") (t.more (t.paren (t.number (codes "1"))) t.none)) stop)
unfolding blocks block_at lines_at stmt_at simple_at list_at ended read level_at rank_at chain_at power_at power_end
    prefixed_at factor_at primary_at leading_operator closed is_key
command_paren = refl
