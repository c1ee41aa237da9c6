use Rattle.std.proofs.Common.{◌≡◌, ℕ, List, [], ◌∷◌, ◌++◌, length, map, sym, ap, ◌∙◌, refl, None, append-nil}
use Rattle.journal_entries.specs.Named.{IsNumberOf}
use Rattle.journal_entries.proofs.Numbering.{absent-left, absent-right, name-pushed}
use Rattle.journal_entries.proofs.numbered_names.NumberedNames.push.Goals as goal

pub push-requires : goal.push-requires
push-requires c =
    let ns = map (λ k. k.items) c.self.inside.few.keys in
    absent-right ns c.self.inside.more c.args.name.now (rw c.self.view_is c.requires)

pub returns-in_ok-insert_full-clause-ok : goal.returns-in_ok-insert_full-clause-ok
returns-in_ok-insert_full-clause-ok c =
    let keys = c.self.inside.few.keys in
    let ns = map (λ k. k.items) keys in
    let name = c.args.name.now in
    let none : c.self.inside.more ≡ [] = c.is_empty.ensures c.if-is_empty.true in
    let absent = absent-left ns c.self.inside.more name (rw c.self.view_is c.requires) in
    let added = name-pushed (λ k. k.items) keys c.insert_full.new.self.keys c.in_ok-from_slice.field-0 name absent
    c.in_ok-from_slice.ensures.items c.in_ok-insert_full.ensures.keys in
    rw (← c.self.view_is) ((λ k. added k ++ none k) ∙ append-nil (ns ++ name ∷ [])
    ∙ ap (λ ms. ms ++ name ∷ []) (sym (ap (λ ms. ns ++ ms) none ∙ append-nil ns)))
