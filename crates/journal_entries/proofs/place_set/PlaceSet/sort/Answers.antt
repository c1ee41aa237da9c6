use Rattle.std.proofs.Common.{rules}
use Rattle.std.specs.BTreeSet.{contains}
use Rattle.journal_entries.specs.SameKey.{key_cmp}
use Rattle.journal_entries.proofs.PlaceSets.{sorted_one, sorted_some}
use Rattle.journal_entries.proofs.place_set.PlaceSet.sort.Goals as goal

pub returns-in_err-insert-clause-has : goal.returns-in_err-insert-clause-has
returns-in_err-insert-clause-has c q =
    let v = c.loop-i.invariant in
    rw v.waiting (sorted_some c.loop-i.self.sorted c.insert.new.self (contains key_cmp c.args.self.now.sorted q)
    c.args.self.now.waiting.items c.loop-i.i q c.in_err-insert.ensures.err (rw v.waiting at (v.sorted q)))

pub loop-i-preserved : goal.loop-i-preserved
loop-i-preserved c = record {
  sorted = λ q. sorted_one c.loop-i.self.sorted c.insert.new.self (contains key_cmp c.args.self.now.sorted q)
      c.loop-i.self.waiting.items c.loop-i.i c.index.result.now q (search rules) (search rules)
      (c.in_ok-insert.ensures.updates.0 q) (c.loop-i.invariant.sorted q);
  waiting = c.loop-i.invariant.waiting;
  greatest = c.loop-i.invariant.greatest;
}
