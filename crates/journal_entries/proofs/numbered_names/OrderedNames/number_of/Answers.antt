use Rattle.std.proofs.Common.{◌≡◌, ◌<◌, ℕ, List, map, length, subst, sym, ap, ◌∙◌, arith, Option, IfSome, None, Some}
use Rattle.journal_entries.specs.Named.{IsNumberOf}
use Rattle.journal_entries.proofs.Numbering.{count-map}
use Rattle.journal_entries.proofs.Ordered.{below_count}
use Rattle.journal_entries.proofs.numbered_names.OrderedNames.number_of.Goals as goal

pub returns-clause-value : goal.returns-clause-value
returns-clause-value c =
    let ns = map (λ k. k.items) c.self.inside.names.items in
    rw (← c.self.view_is) (subst (λ o. IsNumberOf ns c.args.name.now o)
    (sym (c.copied.ensures ∙ c.get.ensures.value)) (c.self.invariant c.args.name.now))

pub returns-clause-small : goal.returns-clause-small
returns-clause-small c =
    let s = c.self.inside in
    let ns = map (λ k. k.items) s.names.items in
    let few : length ns < 9223372036854775808 =
    omega (arith, s.names.small, s.names.ok.0, count-map (λ k. k.items) s.names.items) in
    subst (λ o. IfSome o (λ i. i < 9223372036854775808)) (sym (c.copied.ensures ∙ c.get.ensures.value))
    (below_count 9223372036854775808 ns c.args.name.now _ (c.self.invariant c.args.name.now) few)
