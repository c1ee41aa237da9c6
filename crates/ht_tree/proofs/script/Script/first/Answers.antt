use Rattle.std.proofs.Common.{◌≡◌, ◌∙◌, sym, ℕ, zero, suc, ◌<◌, true, List, [], ◌∷◌, length, drop, get_or, option_map}
use Rattle.std.proofs.Common.{slice_get, refl, arith}
use Rattle.ht_grammar.specs.declared.vocabulary.HandlerKind.{HandlerKind}
use Rattle.ht_grammar.specs.Handlers.{takes, handler_in}
use Rattle.ht_tree.specs.declared.script.Handler.{Handler}
use Rattle.ht_tree.specs.ScriptView.{handler_of, handlers_of}
use Rattle.ht_tree.proofs.script.Script.first.Goals as goal

-- where a handler takes the message, the first of it and those after it is that handler
first_there : (hs : List Handler) (i : ℕ) (k : HandlerKind) (n : List ℕ) (h : Handler) → i < length hs
    → h ≡ get_or hs i h → takes k n (handler_of h) ≡ true
    → handler_in (handlers_of (drop i hs)) k n ≡ option_map handler_of (slice_get hs i)
first_there [] i k n h l e t = absurd (omega (arith, l))
first_there (g ∷ hs) zero k n h l e t = rw (sym e, t) refl
first_there (g ∷ hs) (suc i) k n h l e t = first_there hs i k n h (omega (arith, l)) e t

pub returns-then-takes-clause-value : goal.returns-then-takes-clause-value
returns-then-takes-clause-value c =
    let e = c.deref-handler-items.ensures.value in
    let there : c.loop-place.place < length c.args.self.now.handlers.items = rw e at c.loop-place-test.true in
    let is : c.handler-item.result ≡ get_or c.args.self.now.handlers.items c.loop-place.place c.handler-item.result =
    rw e at c.handler-item.is in
    sym (first_there c.args.self.now.handlers.items c.loop-place.place c.args.kind c.args.name.now c.handler-item.result
    there is (sym c.takes.ensures ∙ c.if-takes.true)) ∙ c.loop-place.invariant
