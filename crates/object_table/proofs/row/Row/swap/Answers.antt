use Rattle.std.proofs.Common.{◌≡◌, cond, nat_eq, length, set, get_or, Some, sym, subst, ap, ◌∙◌, arith, is_some}
use Rattle.std.proofs.lemmas.Bool.{false≢true}
use Rattle.std.proofs.lemmas.List.{length-map}
use Rattle.object_table.specs.Rows.{entry_at, ids_in, AreRising, IsAt}
use Rattle.object_table.proofs.Rows.{entry-none, entry-read, entry-set, ids-set, own-id, none_before, none_there}
use Rattle.object_table.proofs.row.Row.swap.Goals as goal

pub index_mut-requires : goal.index_mut-requires
index_mut-requires g c =
    let es = c.self.inside.places.items in
    let at : IsAt (ids_in es) c.args.part c.in-Ok.place = rw c.self.view_is c.in-Ok.ensures.found in
    let long : length (ids_in es) ≡ length es = length-map es (λ e. e.0) in
    omega (arith, at.within, long, c.self.inside.places.ok.0)

pub invariant_of-self : goal.invariant_of-self
invariant_of-self g c =
    let es = c.self.inside.places.items in
    let at : IsAt (ids_in es) c.args.part c.in-Ok.place = rw c.self.view_is c.in-Ok.ensures.found in
    let own = own-id es c.args.part c.in-Ok.place c.index_mut.result.now at c.index_mut.ensures.value in
    let kept = subst AreRising (sym (ids-set es c.args.part c.in-Ok.place c.swap.new.x at)) c.self.invariant in
    subst (λ n. AreRising (ids_in (set es c.in-Ok.place (n, c.swap.new.x)))) (sym own) kept

pub unreachable-requires : goal.unreachable-requires
unreachable-requires g c = false≢true
    (sym (ap is_some (entry-none _ c.args.part (none_there _ c.args.part _ c.in-Err.ensures.absent))) ∙ c.requires)

pub returns-clause-value : goal.returns-clause-value
returns-clause-value g c =
    let es = c.self.inside.places.items in
    let e = c.index_mut.result.now in
    let at : IsAt (ids_in es) c.args.part c.in-Ok.place = rw c.self.view_is c.in-Ok.ensures.found in
    let read = entry-read es c.args.part c.in-Ok.place e at
    (none_before (ids_in es) c.self.invariant c.args.part c.in-Ok.place at) in
    let is : e ≡ get_or es c.in-Ok.place e = c.index_mut.ensures.value in
    rw (← c.self.view_is) (ap (λ v. Some v) (c.swap.ensures.y_after ∙ ap (λ x. x.1) is) ∙ sym read)

pub returns-clause-row : goal.returns-clause-row
returns-clause-row g c =
    let es = c.self.inside.places.items in
    let at : IsAt (ids_in es) c.args.part c.in-Ok.place = rw c.self.view_is c.in-Ok.ensures.found in
    let own = own-id es c.args.part c.in-Ok.place c.index_mut.result.now at c.index_mut.ensures.value in
    let none = none_before (ids_in es) c.self.invariant c.args.part c.in-Ok.place at in
    rw (← c.self.view_is) (λ q.
    ap (λ n. entry_at (set es c.in-Ok.place (n, c.swap.new.x)) q) own
    ∙ entry-set es c.args.part c.in-Ok.place c.swap.new.x at none q
    ∙ ap (λ v. cond (nat_eq c.args.part q) (Some v) (entry_at es q)) c.swap.ensures.x_after)
