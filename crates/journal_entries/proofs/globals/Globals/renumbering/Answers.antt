use Rattle.std.proofs.Common.{◌≡◌, ◌<◌, None, length, subst, ap, sym, ◌∙◌, arith, IsSome}
use Rattle.std.proofs.lemmas.List.{get_or_read}
use Rattle.std.specs.FinMap.{get}
use Rattle.journal_entries.specs.Exchange.{name_at}
use Rattle.journal_entries.proofs.Naming.{get-named}
use Rattle.journal_entries.proofs.Renumbered.{valued_step, not_some}
use Rattle.journal_entries.proofs.globals.Globals.renumbering.Goals.{then-is_some+in_ok-need, else-is_some}
use Rattle.journal_entries.proofs.globals.Globals.renumbering.Goals as goal

pub loop-i-preserved : goal.loop-i-preserved
loop-i-preserved c =
    let v = c.loop-i.invariant in
    let s = c.self.inside in
    let ns = s.names in
    let vs = s.values.items in
    let i = c.loop-i.i in
    let names : ns ≡ c.args.self.now.names = ap (λ n. n.names) c.self.view_is in
    let step = valued_step c.args.self.now.names c.args.self.now.texts c.loop-i.renumbering in
    elim c.if-is_some.branch [
      | then-is_some+in_ok-need w ↦ rw w.renumbering-is (record {
        of = w.in_ok-need.ensures.of;
        valued = step w.need.new.self i w.in_ok-need.ensures.more (λ _. w.in_ok-need.ensures.needed) v.valued;
      })
      | else-is_some w ↦
          let within : i < length vs = omega (arith, c.len-i-end.ensures, s.values.ok.0) in
          let value : get c.args.self.now.texts (name_at c.args.self.now.names i) ≡ c.index.result.now =
          (λ k. get (sym c.self.view_is k).texts (name_at (sym names k) i))
          ∙ get-named ns vs i c.self.invariant.1 (omega (arith, within, c.self.invariant.0)) c.self.invariant.0
          ∙ sym (get_or_read vs i _ within c.index.ensures None) in
          rw w.renumbering-is (record {
            of = v.of;
            valued = step c.loop-i.renumbering i (λ j q. q)
                (λ q. absurd (not_some c.index.result.now (sym c.is_some.ensures ∙ w.if-is_some.false)
                (subst (λ m. IsSome m) value q))) v.valued;
          })
    ]
