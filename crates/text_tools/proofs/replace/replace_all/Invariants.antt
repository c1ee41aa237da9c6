use Rattle.std.proofs.Common.{◌≡◌, ◌≤◌, ◌-◌, ◌++◌, drop, length}
use Rattle.ht_values.specs.declared.text.TheConstants.{LIMIT}
use Rattle.text_tools.specs.Replacing.{replaced_after}
use Rattle.text_tools.proofs.replace.replace_all.Given as goal

abbrev pub invariant-loop-at : goal.invariant-loop-at
invariant-loop-at l = (length l.made ≤ LIMIT)
    × (l.made ++ replaced_after l.old l.new 0 (drop l.at l.bytes) ≡ replaced_after l.old l.new 0 l.bytes)

abbrev pub decreases-loop-at : goal.decreases-loop-at
decreases-loop-at l = length l.bytes - l.at
