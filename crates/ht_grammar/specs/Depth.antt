-- The depth of a tree: the greatest number of nodes on a way down.
use Rattle.std.specs.Prelude.{ℕ, suc, max}
use Rattle.ht_grammar.specs.Trees as t
use Rattle.ht_grammar.specs.Trees.{Expr, Exprs, Chunk, Which, Selector, Owner, Part, Ref, Count, Container}
use Rattle.ht_grammar.specs.Statements as s
use Rattle.ht_grammar.specs.Statements.{Destination, Head, Stmt, Stmts, Handlers, Message}

-- A chunk's indices, the parts of `is a` and the like are no nodes of their own; a reference is one, and its owner one
-- more.
abbrev mutual
  pub depth : Expr → ℕ
  depth (t.number w) = 1
  depth (t.quoted w) = 1
  depth (t.constant c) = 1
  depth t.return_ = 1
  depth (t.name w) = 1
  depth (t.paren e) = suc (depth e)
  depth (t.call w es) = suc (depths es)
  depth (t.binary op x y) = suc (max (depth x) (depth y))
  depth (t.unary op x) = suc (depth x)
  depth (t.there_is b r) = suc (ref_depth r)
  depth (t.chunk h e) = suc (max (chunk_depth h) (depth e))
  depth (t.field p) = part_depth p
  depth t.result = 1
  depth t.target = 1
  depth (t.number_of n) = suc (count_depth n)
  depth (t.property p r) = suc (ref_depth r)
  depth (t.run_property p) = 1
  depth (t.function f e) = suc (depth e)

  -- of the deepest
  pub depths : Exprs → ℕ
  depths t.none = 0
  depths (t.more e es) = max (depth e) (depths es)

  -- of the deepest index
  pub chunk_depth : Chunk → ℕ
  chunk_depth (t.piece k e) = depth e
  chunk_depth (t.pieces k e f) = max (depth e) (depth f)
  chunk_depth (t.nth_piece o k) = 0

  pub which_depth : Which → ℕ
  which_depth (t.by_id e) = depth e
  which_depth (t.by_text e) = depth e

  pub selector_depth : Selector → ℕ
  selector_depth t.this = 0
  selector_depth t.next = 0
  selector_depth t.previous = 0
  selector_depth (t.nth o) = 0
  selector_depth (t.which w) = which_depth w

  pub owner_depth : Owner → ℕ
  owner_depth t.no_owner = 0
  owner_depth (t.on_card p) = suc (selector_depth p)
  owner_depth (t.on_background p) = suc (selector_depth p)

  pub part_depth : Part → ℕ
  part_depth (t.part l k w o) = suc (max (which_depth w) (owner_depth o))
  part_depth (t.nth_part n l k o) = suc (owner_depth o)

  pub ref_depth : Ref → ℕ
  ref_depth t.me = 1
  ref_depth t.the_target = 1
  ref_depth t.this_stack = 1
  ref_depth (t.card p) = suc (selector_depth p)
  ref_depth (t.background p) = suc (selector_depth p)
  ref_depth (t.a_part p) = part_depth p

  pub count_depth : Count → ℕ
  count_depth (t.pieces_of k e) = depth e
  count_depth t.cards = 0
  count_depth t.backgrounds = 0
  count_depth (t.parts l k) = 0
  count_depth (t.of_object r) = ref_depth r

-- A variable is a node, and so is each chunk.
abbrev pub container_depth : Container → ℕ
container_depth (t.variable w) = 1
container_depth (t.in_field p) = part_depth p
container_depth (t.in_chunk h c) = suc (max (chunk_depth h) (container_depth c))

-- The destination is one node.
abbrev pub destination_depth : Destination → ℕ
destination_depth (s.to_card p) = suc (selector_depth p)
destination_depth (s.to_background p) = suc (selector_depth p)

abbrev pub head_depth : Head → ℕ
head_depth s.forever = 0
head_depth (s.times e) = depth e
head_depth (s.while e) = depth e
head_depth (s.until e) = depth e
head_depth (s.counted_up w e f) = max (depth e) (depth f)
head_depth (s.counted_down w e f) = max (depth e) (depth f)

-- Names that are neither expressions nor containers are no nodes, and neither is what is set.
abbrev mutual
  pub stmt_depth : Stmt → ℕ
  stmt_depth (s.put e) = suc (depth e)
  stmt_depth (s.put_in w e c) = suc (max (depth e) (container_depth c))
  stmt_depth (s.get e) = suc (depth e)
  stmt_depth (s.set p r e) = suc (max (ref_depth r) (depth e))
  stmt_depth (s.set_run p e) = suc (depth e)
  stmt_depth (s.add e c) = suc (max (depth e) (container_depth c))
  stmt_depth (s.subtract e c) = suc (max (depth e) (container_depth c))
  stmt_depth (s.multiply c e) = suc (max (container_depth c) (depth e))
  stmt_depth (s.divide c e) = suc (max (container_depth c) (depth e))
  stmt_depth (s.delete h c) = suc (suc (max (chunk_depth h) (container_depth c)))
  stmt_depth (s.do_ e) = suc (depth e)
  stmt_depth (s.send e r) = suc (max (depth e) (ref_depth r))
  stmt_depth (s.go g) = suc (destination_depth g)
  stmt_depth (s.global ws) = 1
  stmt_depth s.exit_repeat = 1
  stmt_depth s.next_repeat = 1
  stmt_depth s.exit_to_hypercard = 1
  stmt_depth (s.exit w) = 1
  stmt_depth (s.pass w) = 1
  stmt_depth s.return_nothing = 1
  stmt_depth (s.return_value e) = suc (depth e)
  stmt_depth (s.command w es) = suc (depths es)
  stmt_depth (s.when e ss os) = suc (max (depth e) (max (stmts_depth ss) (stmts_depth os)))
  stmt_depth (s.repeat h ss) = suc (max (head_depth h) (stmts_depth ss))

  -- of the deepest
  pub stmts_depth : Stmts → ℕ
  stmts_depth s.stop = 0
  stmts_depth (s.also x xs) = max (stmt_depth x) (stmts_depth xs)

abbrev pub handlers_depth : Handlers → ℕ
handlers_depth s.no_handlers = 0
handlers_depth (s.and_handler (s.handler k w ps ss) hs) = max (stmts_depth ss) (handlers_depth hs)

abbrev pub message_depth : Message → ℕ
message_depth (s.message w es) = depths es

-- how deep a tree may be
abbrev pub max_depth : ℕ
max_depth = 100
