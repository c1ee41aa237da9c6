use Rattle.std.proofs.Common.{◌≡◌, ℕ, List, Option, true, sym, ap, ◌∙◌, arith, option_and_then, is_some}
use Rattle.std.specs.FinSet as sets
use Rattle.object_table.specs.Opened.{open_in}
use Rattle.object_table.specs.Pairs.{Pair}
use Rattle.object_table.specs.Rows.{entry_at, entries_of, ids_in, AreApart}
use Rattle.object_table.proofs.Opened.{get-map_of, contains-keys_of, map_of-updated, keys_of-updated, inserted_again}
use Rattle.object_table.proofs.Pairs.{pairs}
use Rattle.object_table.proofs.Rows.{entry-of_pair, outer_some, row-counted, row-within, rows-kept, pair-found}
use Rattle.object_table.proofs.Rows.{pair-written}
use Rattle.object_table.proofs.pair_table.PairTable.swap.Goals as goal

-- the card of an open pair has a row
row_there : {X : Type 0} (rs : List (ℕ × List (ℕ × Option X))) (pair : Pair) → AreApart (ids_in rs)
    → sets.contains (open_in (entries_of rs)) pair ≡ true → is_some (entry_at rs pair.1) ≡ true
row_there rs pair apart is_open = outer_some (λ r. entry_at r pair.0) (entry_at rs pair.1)
    (sym (contains-keys_of pairs (entries_of rs) pair ∙ ap (λ o. is_some o) (entry-of_pair rs pair apart)) ∙ is_open)

pub overflow_sub-place : goal.overflow_sub-place
overflow_sub-place g c =
    let es = c.self.inside.rows.items in
    let pair : Pair = (c.args.part, c.args.card) in
    let is_open : sets.contains (open_in (entries_of es)) pair ≡ true = rw c.self.view_is c.requires in
    let there = row_there es pair c.self.invariant.1 is_open in
    row-counted c.self.inside.numbers.pages.items es c.args.card c.get.result c.self.invariant.0 c.get.ensures there

pub index_mut-requires : goal.index_mut-requires
index_mut-requires g c =
    let es = c.self.inside.rows.items in
    let pair : Pair = (c.args.part, c.args.card) in
    let is_open : sets.contains (open_in (entries_of es)) pair ≡ true = rw c.self.view_is c.requires in
    let there = row_there es pair c.self.invariant.1 is_open in
    omega (
      arith,
      row-within c.self.inside.numbers.pages.items es c.args.card c.get.result c.self.invariant.0
          c.get.ensures there,
      c.self.inside.rows.ok.0,
    )

pub swap-requires : goal.swap-requires
swap-requires g c =
    let es = c.self.inside.rows.items in
    let pair : Pair = (c.args.part, c.args.card) in
    let is_open : sets.contains (open_in (entries_of es)) pair ≡ true = rw c.self.view_is c.requires in
    let there = row_there es pair c.self.invariant.1 is_open in
    let found = pair-found c.self.inside.numbers.pages.items es c.args.card c.get.result c.self.invariant.0
    c.get.ensures there c.self.invariant.1 c.index_mut.result.now c.index_mut.ensures.value c.args.part in
    sym (contains-keys_of pairs (entries_of es) pair ∙ ap (λ o. is_some o) found) ∙ is_open

pub invariant_of-self : goal.invariant_of-self
invariant_of-self g c =
    let es = c.self.inside.rows.items in
    let pair : Pair = (c.args.part, c.args.card) in
    let is_open : sets.contains (open_in (entries_of es)) pair ≡ true = rw c.self.view_is c.requires in
    let there = row_there es pair c.self.invariant.1 is_open in
    rows-kept c.self.inside.numbers.pages.items es c.args.card c.get.result c.self.invariant.0 c.get.ensures there
    c.self.invariant.1 c.index_mut.result.now c.index_mut.ensures.value c.swap.new.self

pub returns-clause-value : goal.returns-clause-value
returns-clause-value g c =
    let es = c.self.inside.rows.items in
    let pair : Pair = (c.args.part, c.args.card) in
    let is_open : sets.contains (open_in (entries_of es)) pair ≡ true = rw c.self.view_is c.requires in
    let there = row_there es pair c.self.invariant.1 is_open in
    let found = pair-found c.self.inside.numbers.pages.items es c.args.card c.get.result c.self.invariant.0
    c.get.ensures there c.self.invariant.1 c.index_mut.result.now c.index_mut.ensures.value c.args.part in
    rw (← c.self.view_is)
    (sym (get-map_of pairs (entries_of es) pair ∙ ap (option_and_then (λ x. x)) (found ∙ sym c.swap.ensures.value)))

pub returns-clause-values : goal.returns-clause-values
returns-clause-values g c =
    let es = c.self.inside.rows.items in
    let pair : Pair = (c.args.part, c.args.card) in
    let is_open : sets.contains (open_in (entries_of es)) pair ≡ true = rw c.self.view_is c.requires in
    let there = row_there es pair c.self.invariant.1 is_open in
    let written = pair-written c.self.inside.numbers.pages.items es c.args.card c.get.result c.self.invariant.0
    c.get.ensures there c.self.invariant.1 c.index_mut.result.now c.index_mut.ensures.value c.swap.new.self
    c.args.part _ c.swap.ensures.row in
    rw (← c.self.view_is) (map_of-updated pairs (entries_of es) _ pair _ written)

pub returns-clause-room : goal.returns-clause-room
returns-clause-room g c =
    let es = c.self.inside.rows.items in
    let pair : Pair = (c.args.part, c.args.card) in
    let is_open : sets.contains (open_in (entries_of es)) pair ≡ true = rw c.self.view_is c.requires in
    let there = row_there es pair c.self.invariant.1 is_open in
    let written = pair-written c.self.inside.numbers.pages.items es c.args.card c.get.result c.self.invariant.0
    c.get.ensures there c.self.invariant.1 c.index_mut.result.now c.index_mut.ensures.value c.swap.new.self
    c.args.part _ c.swap.ensures.row in
    rw (← c.self.view_is) (keys_of-updated pairs (entries_of es) _ pair _ written
    ∙ sym (inserted_again pairs (open_in (entries_of es)) pair is_open))
