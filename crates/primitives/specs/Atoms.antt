-- Expressions whose value asks for no other's.
use Rattle.std.specs.Prelude.{Bool, true, false}
use Rattle.ht_grammar.specs.Trees as tree

-- whether an expression has no other one, and no reference, in it
abbrev pub is_atom : tree.Expr → Bool
is_atom (tree.paren x) = false
is_atom (tree.call n xs) = false
is_atom (tree.binary op x y) = false
is_atom (tree.unary op x) = false
is_atom (tree.there_is b r) = false
is_atom (tree.chunk h x) = false
is_atom (tree.field p) = false
is_atom (tree.number_of c) = false
is_atom (tree.property p r) = false
is_atom (tree.function f x) = false
is_atom _ = true

-- whether parentheses stand around an expression
abbrev pub is_in_parens : tree.Expr → Bool
is_in_parens (tree.paren x) = true
is_in_parens _ = false

-- whether `the number of` counts cards, backgrounds or parts
abbrev pub counts_objects : tree.Count → Bool
counts_objects (tree.pieces_of kind x) = false
counts_objects (tree.of_object r) = false
counts_objects _ = true
