-- The forms of expressions in which another one stands, or a reference.
use Rattle.std.specs.Prelude.{Bool, true, false}
use Rattle.ht_grammar.specs.Trees as tree

abbrev pub is_there_is : tree.Expr → Bool
is_there_is (tree.there_is b r) = true
is_there_is _ = false

abbrev pub is_piece : tree.Expr → Bool
is_piece (tree.chunk (tree.piece k x) y) = true
is_piece _ = false

abbrev pub is_pieces : tree.Expr → Bool
is_pieces (tree.chunk (tree.pieces k x x1) y) = true
is_pieces _ = false

abbrev pub is_nth_piece : tree.Expr → Bool
is_nth_piece (tree.chunk (tree.nth_piece n k) y) = true
is_nth_piece _ = false

abbrev pub is_count_of_pieces : tree.Expr → Bool
is_count_of_pieces (tree.number_of (tree.pieces_of k x)) = true
is_count_of_pieces _ = false

abbrev pub is_property : tree.Expr → Bool
is_property (tree.property p r) = true
is_property _ = false

abbrev pub is_function : tree.Expr → Bool
is_function (tree.function w x) = true
is_function _ = false
