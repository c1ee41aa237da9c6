use Rattle.std.proofs.Common.{◌≡◌, ◌++◌, [], ◌∷◌, Some, IfSome, length, take, ap, subst, ◌∙◌, arith}
use Rattle.journal_entries.specs.Exchange.{trail_of}
use Rattle.journal_entries.specs.Trails.{IsShort, different, places_in}
use Rattle.journal_entries.proofs.Trails.{short-own}
use Rattle.change_journal.specs.History.{committed}
use Rattle.change_journal.specs.Batches.{history_of, newest, oldest_of}
use Rattle.change_journal.proofs.Journal.{journal}
use Rattle.change_journal.proofs.Commits.{IsSound-committed, history-committed}
use Rattle.change_journal.proofs.world.World.close_batch.Goals as goal

pub invariant_of-self : goal.invariant_of-self
invariant_of-self g c =
    let w = c.self.inside in
    let b = journal w.present w.oldest w.depth w.batches.items w.cursor in
    let batch = c.in-Some.batch in
    let e = c.keep-self-inside.ensures in
    let items : c.keep-self-inside.new.batches.items ≡ newest w.depth (take w.cursor w.batches.items ++ batch ∷ []) =
    e.batches ∙ (λ i. newest w.depth (c.truncate.ensures.items i ++ c.close-batch.ensures i ∷ [])) in
    let oldest : c.keep-self-inside.result ≡ oldest_of w.depth w.oldest (take w.cursor w.batches.items ++ batch ∷ []) =
    e.oldest ∙ (λ i. oldest_of w.depth w.oldest (c.truncate.ensures.items i ++ c.close-batch.ensures i ∷ [])) in
    let count : c.len-self-inside.result ≡ length (newest w.depth (take w.cursor w.batches.items ++ batch ∷ [])) =
    omega (arith, c.len-self-inside.ensures, ap length items) in
    rw (c.in-Some.ensures.after, items, oldest, count)
    (IsSound-committed b _ _ batch (rw (← c.in-Some.ensures.value) at c.self.invariant))

pub returns-in-Some-clause-history : goal.returns-in-Some-clause-history
returns-in-Some-clause-history g c =
    let w = c.self.inside in
    let b = journal w.present w.oldest w.depth w.batches.items w.cursor in
    let batch = c.in-Some.batch in
    let e = c.keep-self-inside.ensures in
    let items : c.keep-self-inside.new.batches.items ≡ newest w.depth (take w.cursor w.batches.items ++ batch ∷ []) =
    e.batches ∙ (λ i. newest w.depth (c.truncate.ensures.items i ++ c.close-batch.ensures i ∷ [])) in
    let oldest : c.keep-self-inside.result ≡ oldest_of w.depth w.oldest (take w.cursor w.batches.items ++ batch ∷ []) =
    e.oldest ∙ (λ i. oldest_of w.depth w.oldest (c.truncate.ensures.items i ++ c.close-batch.ensures i ∷ [])) in
    let count : c.len-self-inside.result ≡ length (newest w.depth (take w.cursor w.batches.items ++ batch ∷ [])) =
    omega (arith, c.len-self-inside.ensures, ap length items) in
    let before : history_of b (Some batch) ≡ c.args.self.now.history =
    ap (history_of b) c.in-Some.ensures.value ∙ ap (λ j. j.history) c.self.view_is in
    rw (c.in-Some.ensures.after, items, oldest, count)
    (history-committed b batch c.self.invariant.within c.self.invariant.few ∙ ap committed before)

pub returns-in-Some-clause-short : goal.returns-in-Some-clause-short
returns-in-Some-clause-short g c =
    let w = c.self.inside in
    let b = journal w.present w.oldest w.depth w.batches.items w.cursor in
    let batch = c.in-Some.batch in
    let sound = rw (← c.in-Some.ensures.value) at c.self.invariant in
    let before : history_of b (Some batch) ≡ c.args.self.now.history =
    ap (history_of b) c.in-Some.ensures.value ∙ ap (λ j. j.history) c.self.view_is in
    subst (λ h. IfSome h.start (λ o. IsShort o.trail (different (places_in o.trail)))) before
    (short-own (trail_of w.present.names batch.entries) sound.history.start.1)
