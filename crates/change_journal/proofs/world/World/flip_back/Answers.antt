use Rattle.std.proofs.Common.{◌≡◌, ◌-◌, ◌<◌, None, length, ap, sym, ◌∙◌, arith}
use Rattle.journal_entries.specs.Exchange.{shape_of}
use Rattle.change_journal.specs.History.{flipped_back}
use Rattle.change_journal.specs.Batches.{history_of}
use Rattle.change_journal.proofs.Journal.{journal}
use Rattle.change_journal.proofs.Ready.{AllReady-get}
use Rattle.change_journal.proofs.Steps.{length-past, closed}
use Rattle.change_journal.proofs.Flips.{IsSound-back, history-back}
use Rattle.change_journal.proofs.world.World.flip_back.Goals as goal

pub go_back-requires : goal.go_back-requires
go_back-requires g c =
    let w = c.self.inside in
    let b = journal w.present w.oldest w.depth w.batches.items w.cursor in
    let there = length-past b w.«open» c.self.invariant.within ∙ ap (λ j. length j.history.past) c.self.view_is in
    let some : 0 < w.cursor = omega (arith, there, c.requires.there) in
    AllReady-get (shape_of w.present) w.batches.items (w.cursor - 1) c.index_mut.result.now
    (omega (arith, c.self.invariant.within)) c.index_mut.ensures.value c.self.invariant.ready

pub invariant_of-self : goal.invariant_of-self
invariant_of-self g c =
    let w = c.self.inside in
    let b = journal w.present w.oldest w.depth w.batches.items w.cursor in
    let there = length-past b w.«open» c.self.invariant.within ∙ ap (λ j. length j.history.past) c.self.view_is in
    let some : 0 < w.cursor = omega (arith, there, c.requires.there) in
    let none = closed b w.«open» (ap (λ j. j.history.start) c.self.view_is ∙ c.requires.closed) in
    rw (c.go_back.ensures.state, c.go_back.ensures.entries, none)
    (IsSound-back b (w.cursor - 1) _ c.index_mut.result.now (omega arith) c.index_mut.ensures.value
    (rw none at c.self.invariant))

pub returns : goal.returns
returns g c =
    let w = c.self.inside in
    let b = journal w.present w.oldest w.depth w.batches.items w.cursor in
    let there = length-past b w.«open» c.self.invariant.within ∙ ap (λ j. length j.history.past) c.self.view_is in
    let some : 0 < w.cursor = omega (arith, there, c.requires.there) in
    let last : w.cursor - 1 < length w.batches.items = omega (arith, c.self.invariant.within) in
    let none = closed b w.«open» (ap (λ j. j.history.start) c.self.view_is ∙ c.requires.closed) in
    let ready = AllReady-get (shape_of w.present) w.batches.items (w.cursor - 1) c.index_mut.result.now last
    c.index_mut.ensures.value c.self.invariant.ready in
    let before : history_of b None ≡ c.args.self.now.history =
    ap (history_of b) (sym none) ∙ ap (λ j. j.history) c.self.view_is in
    rw (c.go_back.ensures.state, c.go_back.ensures.entries, none)
    (history-back b (w.cursor - 1) c.index_mut.result.now (omega arith) last c.index_mut.ensures.value ready
    ∙ ap flipped_back before)
