-- The head of a repeat with a variable, and the forms of statements that are blocks.
use Rattle.std.specs.Prelude.{ℕ, List, Bool, true, false}
use Rattle.ht_grammar.specs.Statements as stm
use Rattle.ht_grammar.specs.Trees as tree

-- up from the first number, or down
abbrev pub counted : Bool → List ℕ → tree.Expr → tree.Expr → stm.Head
counted false w x y = stm.counted_up w x y
counted true w x y = stm.counted_down w x y

-- neither `if` nor a repeat
abbrev pub is_plain : stm.Stmt → Bool
is_plain (stm.when x ss ss1) = false
is_plain (stm.repeat hd ss) = false
is_plain _ = true

abbrev pub is_when : stm.Stmt → Bool
is_when (stm.when x ss ss1) = true
is_when _ = false

abbrev pub is_forever : stm.Stmt → Bool
is_forever (stm.repeat stm.forever ss) = true
is_forever _ = false

abbrev pub is_times : stm.Stmt → Bool
is_times (stm.repeat (stm.times x) ss) = true
is_times _ = false

-- by a condition, as long as it is so or until it is
abbrev pub is_while : stm.Stmt → Bool
is_while (stm.repeat (stm.while x) ss) = true
is_while (stm.repeat (stm.until x) ss) = true
is_while _ = false

abbrev pub is_counted : stm.Stmt → Bool
is_counted (stm.repeat (stm.counted_up w x y) ss) = true
is_counted (stm.repeat (stm.counted_down w x y) ss) = true
is_counted _ = false
