use Rattle.std.proofs.Common.{◌≡◌, true, sym, ap, ◌∙◌, arith, option_and_then, is_some}
use Rattle.std.specs.FinSet as sets
use Rattle.object_table.specs.Opened.{values_in, open_in}
use Rattle.object_table.specs.Pairs.{Pair}
use Rattle.object_table.specs.Rows.{entry_at, entries_of}
use Rattle.object_table.proofs.Opened.{map_of-same, keys_of-updated, contains-inserted}
use Rattle.object_table.proofs.Pairs.{pairs}
use Rattle.object_table.proofs.Rows.{row-counted, row-within, rows-kept, pair-found, pair-written}
use Rattle.object_table.proofs.pair_table.PairTable.open.Goals as goal

pub overflow_sub-place : goal.overflow_sub-place
overflow_sub-place g c = row-counted c.self.inside.numbers.pages.items c.self.inside.rows.items c.args.card c.get.result
    c.self.invariant.0 c.get.ensures (rw c.self.view_is c.in_ok-reach.ensures.ok)

pub index_mut-requires : goal.index_mut-requires
index_mut-requires g c =
    let es = c.self.inside.rows.items in
    let there : is_some (entry_at es c.args.card) ≡ true = rw c.self.view_is c.in_ok-reach.ensures.ok in
    omega (
      arith,
      row-within c.self.inside.numbers.pages.items es c.args.card c.get.result c.self.invariant.0
          c.get.ensures there,
      c.self.inside.rows.ok.0,
    )

pub invariant_of-self-2 : goal.invariant_of-self-2
invariant_of-self-2 g c =
    let es = c.self.inside.rows.items in
    let there : is_some (entry_at es c.args.card) ≡ true = rw c.self.view_is c.in_ok-reach.ensures.ok in
    rows-kept c.self.inside.numbers.pages.items es c.args.card c.get.result c.self.invariant.0 c.get.ensures there
    c.self.invariant.1 c.index_mut.result.now c.index_mut.ensures.value c.open.new.self

pub returns-clause-values : goal.returns-clause-values
returns-clause-values g c =
    let es = c.self.inside.rows.items in
    let e = c.index_mut.result.now in
    let pages = c.self.inside.numbers.pages.items in
    let there : is_some (entry_at es c.args.card) ≡ true = rw c.self.view_is c.in_ok-reach.ensures.ok in
    let written = pair-written pages es c.args.card c.get.result c.self.invariant.0 c.get.ensures there
    c.self.invariant.1 e c.index_mut.ensures.value c.open.new.self c.args.part _ c.in_ok-more.ensures.ok in
    let found = pair-found pages es c.args.card c.get.result c.self.invariant.0 c.get.ensures there c.self.invariant.1 e
    c.index_mut.ensures.value c.args.part in
    map_of-same pairs (entries_of es) _ (c.args.part, c.args.card) _ written (ap (option_and_then (λ v. v)) (sym found))
    ∙ ap (λ rs. values_in (entries_of rs)) c.self.view_is
    ∙ ap values_in c.in_ok-reach.ensures.entries

pub returns-clause-room : goal.returns-clause-room
returns-clause-room g c =
    let es = c.self.inside.rows.items in
    let there : is_some (entry_at es c.args.card) ≡ true = rw c.self.view_is c.in_ok-reach.ensures.ok in
    let written = pair-written c.self.inside.numbers.pages.items es c.args.card c.get.result c.self.invariant.0
    c.get.ensures there c.self.invariant.1 c.index_mut.result.now c.index_mut.ensures.value c.open.new.self
    c.args.part _ c.in_ok-more.ensures.ok in
    keys_of-updated pairs (entries_of es) _ (c.args.part, c.args.card) _ written
    ∙ ap (λ es. sets.insert (open_in es) (c.args.part, c.args.card))
    (ap entries_of c.self.view_is ∙ c.in_ok-reach.ensures.entries)

pub returns-clause-inside : goal.returns-clause-inside
returns-clause-inside g c =
    let pair : Pair = (c.args.part, c.args.card) in
    ap (λ s. sets.contains s pair) (returns-clause-room g c)
    ∙ contains-inserted pairs (open_in (entries_of c.args.self.now)) pair
