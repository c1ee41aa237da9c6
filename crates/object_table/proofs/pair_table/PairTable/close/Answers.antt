use Rattle.std.proofs.Common.{◌≡◌, true, sym, ap, ◌∙◌, arith, option_and_then, is_some, None}
use Rattle.std.specs.FinSet.{contains}
use Rattle.object_table.specs.Opened.{values_in, open_in}
use Rattle.object_table.specs.Rows.{entry_at, entries_of}
use Rattle.object_table.proofs.Closed.{no_value, values-closed, open-closed}
use Rattle.object_table.proofs.Rows.{row-counted, row-within, rows-kept, pair-found, pairs-written}
use Rattle.object_table.proofs.pair_table.PairTable.close.Goals as goal

pub overflow_sub-place : goal.overflow_sub-place
overflow_sub-place g c = row-counted c.self.inside.numbers.pages.items c.self.inside.rows.items c.args.card c.get.result
    c.self.invariant.0 c.get.ensures (rw c.self.view_is c.requires)

pub index-requires : goal.index-requires
index-requires g c =
    let es = c.self.inside.rows.items in
    let there : is_some (entry_at es c.args.card) ≡ true = rw c.self.view_is c.requires in
    omega (
      arith,
      row-within c.self.inside.numbers.pages.items es c.args.card c.get.result c.self.invariant.0
          c.get.ensures there,
      c.self.inside.rows.ok.0,
    )

pub index_mut-requires : goal.index_mut-requires
index_mut-requires g c =
    let es = c.self.inside.rows.items in
    let there : is_some (entry_at es c.args.card) ≡ true = rw c.self.view_is c.requires in
    omega (
      arith,
      row-within c.self.inside.numbers.pages.items es c.args.card c.get.result c.self.invariant.0
          c.get.ensures there,
      c.self.inside.rows.ok.0,
    )

pub invariant_of-self : goal.invariant_of-self
invariant_of-self g c =
    let es = c.self.inside.rows.items in
    let there : is_some (entry_at es c.args.card) ≡ true = rw c.self.view_is c.requires in
    rows-kept c.self.inside.numbers.pages.items es c.args.card c.get.result c.self.invariant.0 c.get.ensures there
    c.self.invariant.1 c.index_mut.result.now c.index_mut.ensures.value c.new.result

pub returns-then-is_vacant-clause-values : goal.returns-then-is_vacant-clause-values
returns-then-is_vacant-clause-values g c =
    let es = c.self.inside.rows.items in
    let pages = c.self.inside.numbers.pages.items in
    let row = c.index.result.now in
    let there : is_some (entry_at es c.args.card) ≡ true = rw c.self.view_is c.requires in
    let written = pairs-written pages es c.args.card c.get.result c.self.invariant.0 c.get.ensures there
    c.self.invariant.1 c.index_mut.result.now c.index_mut.ensures.value c.new.result (λ p o. None)
    (λ p. ap (λ row. entry_at row p) c.new.ensures) in
    let vacant = no_value row.1 (sym c.is_vacant.ensures ∙ c.if-is_vacant.true) in
    values-closed (entries_of es) _ c.args.card written (λ part.
    ap (λ o. option_and_then (λ v. v) o) (pair-found pages es c.args.card c.get.result c.self.invariant.0
    c.get.ensures there c.self.invariant.1 row c.index.ensures part)
    ∙ vacant part)
    ∙ ap (λ rs. values_in (entries_of rs)) c.self.view_is

pub returns-then-is_vacant-clause-others : goal.returns-then-is_vacant-clause-others
returns-then-is_vacant-clause-others g c = λ p apart.
    let es = c.self.inside.rows.items in
    let there : is_some (entry_at es c.args.card) ≡ true = rw c.self.view_is c.requires in
    let written = pairs-written c.self.inside.numbers.pages.items es c.args.card c.get.result c.self.invariant.0
    c.get.ensures there c.self.invariant.1 c.index_mut.result.now c.index_mut.ensures.value c.new.result (λ p o. None)
    (λ p. ap (λ row. entry_at row p) c.new.ensures) in
    open-closed (entries_of es) _ c.args.card written p apart
    ∙ ap (λ rs. contains (open_in (entries_of rs)) p) c.self.view_is
