use Rattle.std.proofs.Common.{◌≡◌, take}
use Rattle.ht_tree.proofs.statement.Names.new.Given as goal

abbrev pub invariant-loop-spelling : goal.invariant-loop-spelling
invariant-loop-spelling l = l.items.items ≡ take l.spelling-index l.spellings
