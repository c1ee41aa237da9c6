use Rattle.std.proofs.Common.{sym, ◌∙◌}
use Rattle.std.specs.BTreeSet.{contains}
use Rattle.journal_entries.specs.PlaceSets.{has_place}
use Rattle.journal_entries.specs.SameKey.{key_cmp}
use Rattle.journal_entries.proofs.PlaceSets.{has_more, within_still, within_new}
use Rattle.journal_entries.proofs.place_set.PlaceSet.add.Goals as goal
use Rattle.journal_entries.proofs.place_set.PlaceSet.add.Goals.{then-not-may_have, else-not-may_have}

pub returns-clause-bounded : goal.returns-clause-bounded
returns-clause-bounded c q there =
    let old = c.args.self.now in
    let key = c.args.key in
    let more = has_more (contains key_cmp old.sorted q) old.waiting.items key q in
    elim c.if-not-may_have.branch [
      | then-not-may_have w ↦ rw w.self-is
          (within_new old.greatest key q (has_place old q) (sym c.may_have.ensures ∙ w.if-not-may_have.true)
          (c.requires.bounded q) (sym more ∙ rw (c.push_reserved.ensures.items, w.self-is) at there))
      | else-not-may_have w ↦ rw w.self-is
          (within_still old.greatest key q (has_place old q) (sym c.may_have.ensures ∙ w.if-not-may_have.false)
          (c.requires.bounded q) (sym more ∙ rw (c.push_reserved.ensures.items, w.self-is) at there))
    ]
