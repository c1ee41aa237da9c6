use Rattle.std.proofs.Common.{◌≡◌, true, cond, subst, sym, ap, ◌∙◌, arith, is_some}
use Rattle.std.specs.FinSet as sets
use Rattle.std.specs.List.{AllByRecursion}
use Rattle.object_table.specs.Objects.{contains_id}
use Rattle.object_table.specs.Opened.{values_in, open_in, with_parts}
use Rattle.object_table.specs.Rows.{entry_at, entries_of, opened_at}
use Rattle.object_table.proofs.Pairs.{all_with_parts, values-opened, open-opened}
use Rattle.object_table.proofs.Rows.{row-counted, row-within, rows-kept, pairs-written}
use Rattle.object_table.proofs.pair_table.PairTable.open_each.Goals as goal

pub overflow_sub-place : goal.overflow_sub-place
overflow_sub-place g c = row-counted c.self.inside.numbers.pages.items c.self.inside.rows.items c.args.card c.get.result
    c.self.invariant.0 c.get.ensures (rw c.self.view_is c.in_ok-reach.ensures.ok)

pub index_mut-requires : goal.index_mut-requires
index_mut-requires g c =
    let es = c.self.inside.rows.items in
    let there : is_some (entry_at es c.args.card) ≡ true = rw c.self.view_is c.in_ok-reach.ensures.ok in
    omega (
      arith,
      row-within c.self.inside.numbers.pages.items es c.args.card c.get.result c.self.invariant.0
          c.get.ensures there,
      c.self.inside.rows.ok.0,
    )

pub invariant_of-self-2 : goal.invariant_of-self-2
invariant_of-self-2 g c =
    let es = c.self.inside.rows.items in
    let there : is_some (entry_at es c.args.card) ≡ true = rw c.self.view_is c.in_ok-reach.ensures.ok in
    rows-kept c.self.inside.numbers.pages.items es c.args.card c.get.result c.self.invariant.0 c.get.ensures there
    c.self.invariant.1 c.index_mut.result.now c.index_mut.ensures.value c.open_each.new.self

pub returns-clause-values : goal.returns-clause-values
returns-clause-values g c =
    let es = c.self.inside.rows.items in
    let there : is_some (entry_at es c.args.card) ≡ true = rw c.self.view_is c.in_ok-reach.ensures.ok in
    let written = pairs-written c.self.inside.numbers.pages.items es c.args.card c.get.result c.self.invariant.0
    c.get.ensures there c.self.invariant.1 c.index_mut.result.now c.index_mut.ensures.value c.open_each.new.self
    (λ p o. cond (contains_id p c.args.parts.now) (opened_at o) o) c.in_ok-more.ensures.ok in
    values-opened (entries_of es) _ c.args.parts.now c.args.card written
    ∙ ap (λ rs. values_in (entries_of rs)) c.self.view_is
    ∙ ap values_in c.in_ok-reach.ensures.entries

pub returns-clause-room : goal.returns-clause-room
returns-clause-room g c =
    let es = c.self.inside.rows.items in
    let there : is_some (entry_at es c.args.card) ≡ true = rw c.self.view_is c.in_ok-reach.ensures.ok in
    let written = pairs-written c.self.inside.numbers.pages.items es c.args.card c.get.result c.self.invariant.0
    c.get.ensures there c.self.invariant.1 c.index_mut.result.now c.index_mut.ensures.value c.open_each.new.self
    (λ p o. cond (contains_id p c.args.parts.now) (opened_at o) o) c.in_ok-more.ensures.ok in
    open-opened (entries_of es) _ c.args.parts.now c.args.card written
    ∙ ap (λ es. with_parts (open_in es) c.args.parts.now c.args.card)
    (ap entries_of c.self.view_is ∙ c.in_ok-reach.ensures.entries)

pub returns-clause-inside : goal.returns-clause-inside
returns-clause-inside g c =
    subst (λ s. AllByRecursion (λ part. sets.contains s (part, c.args.card) ≡ true) c.args.parts.now)
    (sym (returns-clause-room g c))
    (all_with_parts (open_in (entries_of c.args.self.now)) c.args.parts.now c.args.card)
