use Rattle.std.proofs.Common.{◌-◌, ◌≤◌, length}
use Rattle.bstr.specs.Find.{Nowhere, OccursAt}
use Rattle.ht_values.specs.Text.{folded}
use Rattle.ht_values.proofs.search.first_place.Given as goal

abbrev pub invariant-loop-place : goal.invariant-loop-place
invariant-loop-place l =
    record { away : Nowhere (OccursAt (folded l.text) (folded l.run)) 0 l.from; within : l.from ≤ length l.text }

abbrev pub decreases-loop-place : goal.decreases-loop-place
decreases-loop-place l = length l.text - l.from
