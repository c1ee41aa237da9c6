use Rattle.std.proofs.Common.{◌≡◌, ◌++◌, ◌+◌, [], ◌∷◌, map, refl, sym, ap, ◌∙◌, subst}
use Rattle.std.proofs.lemmas.Result.{IfOk-weaker}
use Rattle.structural_changes.specs.Prepared.{Adds}
use Rattle.structural_changes.specs.Writes.{writes_of_new_background}
use Rattle.journal_entries.specs.declared.entry.Entry.TheVariants.{Current, Stack}
use Rattle.journal_entries.proofs.Several.{prepares_new_background}
use Rattle.journal_entries.proofs.present.Present.prepare_new_background.Goals as goal

pub returns-clause-entries : goal.returns-clause-entries
returns-clause-entries g c =
    let old = c.self.inside.stack in
    let new = c.prepare_new_background.new.stack in
    let made = c.in_ok-made.made.items in
    let same = c.prepare_new_background.ensures.opens.content in
    let next = c.next_id-next.ensures ∙ ap (λ s. s.next) (sym same) in
    let adds = subst (λ s. Adds old new [] made (writes_of_new_background s c.self.inside.current)) (sym same)
    c.in_ok-made.ensures.entries in
    IfOk-weaker c.entries_with_current.result _ _
    (λ entries is. let all : entries.items ≡ map (λ e. Stack e) made ++ Current (new.content.next + 1) ∷ [] = is
    ∙ ap (λ n. map (λ e. Stack e) made ++ Current (n + 1) ∷ []) next in rw all
    (prepares_new_background _ old new made refl adds)) c.entries_with_current.ensures
