use Rattle.std.proofs.Common.{◌≡◌, [], ◌∷◌, map, refl, sym, ap, ◌∙◌, subst}
use Rattle.std.proofs.lemmas.Result.{IfOk-weaker}
use Rattle.structural_changes.specs.Prepared.{Adds}
use Rattle.structural_changes.specs.Writes.{following, writes_of_deletion}
use Rattle.journal_entries.specs.declared.entry.Entry.TheVariants.{Current, Stack}
use Rattle.journal_entries.proofs.Several.{prepares_deletion}
use Rattle.journal_entries.proofs.present.Present.prepare_deletion.Goals as goal

pub returns-clause-entries : goal.returns-clause-entries
returns-clause-entries g c =
    let old = c.self.inside.stack in
    let new = c.prepare_deletion.new.stack in
    let current = c.self.inside.current in
    let gone = c.in_ok-gone.gone.items in
    let same = c.prepare_deletion.ensures.opens.content in
    let next = c.following_card-next.ensures ∙ ap (λ s. following current s.cards) (sym same) in
    let adds =
    subst (λ s. Adds old new [] gone (writes_of_deletion s current)) (sym same) c.in_ok-gone.ensures.entries in
    IfOk-weaker c.current_with_entries.result _ _
    (λ entries is. let all : entries.items ≡ Current (following current new.content.cards)
    ∷ map (λ e. Stack e) gone = is ∙ ap (λ n. Current n ∷ map (λ e. Stack e) gone) next in rw all
    (prepares_deletion _ old new gone refl adds)) c.current_with_entries.ensures
