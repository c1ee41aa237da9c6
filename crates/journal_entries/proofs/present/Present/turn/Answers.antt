use Rattle.std.proofs.Common.{◌≡◌, ◌<◌, length, map, ap, refl, arith}
use Rattle.std.proofs.lemmas.List.{length-map}
use Rattle.std.proofs.lemmas.Result.{IfOk-weaker}
use Rattle.journal_entries.specs.State.{State, seen_by}
use Rattle.journal_entries.specs.Exchange.{with_cells}
use Rattle.journal_entries.proofs.Turned.{turned, patched, unturned, logs_more, logs_same, on_ok, on_err_both}
use Rattle.journal_entries.proofs.present.Present.turn.Goals as goal

pub returns-clause-turn : goal.returns-clause-turn
returns-clause-turn g c =
    let f = seen_by g.E.External.title g.E.External.sort g.E.External.answers_calls g.E.External.cells in
    let xs = c.self.inside.externals.items in
    let y = c.turn.new.self in
    let x = c.index_mut.result.now in
    let h = c.turn.ensures in
    let there : c.args.i < length xs =
    omega (arith, c.requires, ap (λ w. length w.state.externals) c.self.view_is, length-map xs f) in
    let same : f y ≡ with_cells (f x) (f y).cells =
    λ k. record { title = h.title k; sort = h.sort k; answers_calls = h.flag k; cells = (f y).cells } in
    rw (← c.self.view_is) (on_ok c.turn.result
    (λ a. turned f xs c.args.i x y _ there c.index_mut.ensures.value refl same a) (IfOk-weaker c.turn.result _ _
    (λ r p. p.count) h.patch))

pub returns-clause-patch : goal.returns-clause-patch
returns-clause-patch g c =
    let f = seen_by g.E.External.title g.E.External.sort g.E.External.answers_calls g.E.External.cells in
    let xs = c.self.inside.externals.items in
    let there : c.args.i < length xs =
    omega (arith, c.requires, ap (λ w. length w.state.externals) c.self.view_is, length-map xs f) in
    rw (← c.self.view_is) (IfOk-weaker c.turn.result _ _
    (λ r a. patched f xs c.args.i c.index_mut.result.now c.turn.new.self r.1 there c.index_mut.ensures.value a)
    c.turn.ensures.patch)

pub returns-clause-present : goal.returns-clause-present
returns-clause-present g c =
    let f = seen_by g.E.External.title g.E.External.sort g.E.External.answers_calls g.E.External.cells in
    let xs = c.self.inside.externals.items in
    let there : c.args.i < length xs =
    omega (arith, c.requires, ap (λ w. length w.state.externals) c.self.view_is, length-map xs f) in
    let w = c.self.inside in
    let s : State = record {
      stack = w.stack.content;
      globals = w.globals.texts;
      current = w.current;
      externals = map f xs;
    } in
    rw (← c.self.view_is) (IfOk-weaker c.turn.result _ _
    (λ r a. rw (logs_more f g.E.External.log xs c.args.i c.index_mut.result.now c.turn.new.self c.args.input.now r.0
    there c.index_mut.ensures.value a s refl) refl) c.turn.ensures.log)

pub returns-clause-err : goal.returns-clause-err
returns-clause-err g c =
    let f = seen_by g.E.External.title g.E.External.sort g.E.External.answers_calls g.E.External.cells in
    let xs = c.self.inside.externals.items in
    let y = c.turn.new.self in
    let x = c.index_mut.result.now in
    let h = c.turn.ensures in
    let there : c.args.i < length xs =
    omega (arith, c.requires, ap (λ w. length w.state.externals) c.self.view_is, length-map xs f) in
    rw (← c.self.view_is) (on_err_both c.turn.result
    (λ cells log. let same : f y ≡ f x = λ k.
    record { title = h.title k; sort = h.sort k; answers_calls = h.flag k; cells = cells k } in
    let logs = logs_same g.E.External.log xs c.args.i x y there c.index_mut.ensures.value log in
    rw (unturned f xs c.args.i x y there c.index_mut.ensures.value same, logs) refl) h.err h.log_err)
