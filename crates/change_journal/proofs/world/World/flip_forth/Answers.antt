use Rattle.std.proofs.Common.{◌≡◌, ◌<◌, None, length, ap, sym, ◌∙◌, arith}
use Rattle.journal_entries.specs.Exchange.{shape_of}
use Rattle.change_journal.specs.History.{flipped_forth}
use Rattle.change_journal.specs.Batches.{history_of}
use Rattle.change_journal.proofs.Journal.{journal}
use Rattle.change_journal.proofs.Ready.{AllReady-get}
use Rattle.change_journal.proofs.Steps.{length-future, closed}
use Rattle.change_journal.proofs.Flips.{IsSound-forth, history-forth}
use Rattle.change_journal.proofs.world.World.flip_forth.Goals as goal

pub go_forth-requires : goal.go_forth-requires
go_forth-requires g c =
    let w = c.self.inside in
    let b = journal w.present w.oldest w.depth w.batches.items w.cursor in
    let there = length-future b w.«open» ∙ ap (λ j. length j.history.future) c.self.view_is in
    let next : w.cursor < length w.batches.items = omega (arith, there, c.requires.there) in
    AllReady-get (shape_of w.present) w.batches.items w.cursor c.index_mut.result.now next c.index_mut.ensures.value
    c.self.invariant.ready

pub invariant_of-self : goal.invariant_of-self
invariant_of-self g c =
    let w = c.self.inside in
    let b = journal w.present w.oldest w.depth w.batches.items w.cursor in
    let there = length-future b w.«open» ∙ ap (λ j. length j.history.future) c.self.view_is in
    let next : w.cursor < length w.batches.items = omega (arith, there, c.requires.there) in
    let none = closed b w.«open» (ap (λ j. j.history.start) c.self.view_is ∙ c.requires.closed) in
    rw (c.go_forth.ensures.state, c.go_forth.ensures.entries, none)
    (IsSound-forth b _ c.index_mut.result.now next c.index_mut.ensures.value (rw none at c.self.invariant))

pub returns : goal.returns
returns g c =
    let w = c.self.inside in
    let b = journal w.present w.oldest w.depth w.batches.items w.cursor in
    let there = length-future b w.«open» ∙ ap (λ j. length j.history.future) c.self.view_is in
    let next : w.cursor < length w.batches.items = omega (arith, there, c.requires.there) in
    let none = closed b w.«open» (ap (λ j. j.history.start) c.self.view_is ∙ c.requires.closed) in
    let ready = AllReady-get (shape_of w.present) w.batches.items w.cursor c.index_mut.result.now next
    c.index_mut.ensures.value c.self.invariant.ready in
    let before : history_of b None ≡ c.args.self.now.history =
    ap (history_of b) (sym none) ∙ ap (λ j. j.history) c.self.view_is in
    rw (c.go_forth.ensures.state, c.go_forth.ensures.entries, none)
    (history-forth b c.index_mut.result.now next c.index_mut.ensures.value ready ∙ ap flipped_forth before)
