use Rattle.std.proofs.Common.{◌≡◌, ◌+◌, ◌<◌, length, ap, sym, ◌∙◌, arith}
use Rattle.std.proofs.lemmas.List.{drop-set-lt}
use Rattle.journal_entries.specs.Exchange.{exchanged, taken, shape_of}
use Rattle.journal_entries.proofs.Going.{forth_step, forth_taken_step, same_shape, AreReady-drop}
use Rattle.journal_entries.proofs.present.Present.go_forth.Goals as goal

pub loop-i-preserved : goal.loop-i-preserved
loop-i-preserved g c =
    let v = c.loop-i.invariant in
    let s = c.loop-i.self in
    let es = c.loop-i.entries in
    let x = c.index-entries-i.result in
    let i = c.loop-i.i in
    let within : i < length es = omega arith in
    let parts = AreReady-drop (shape_of s) es i x within c.index-entries-i.is v.ready in
    let self_is : c.exchange.new.self ≡ record s { state = exchanged s.names s.state x } = c.exchange.ensures.state
    ∙ ap (λ y. record s { state = exchanged s.names s.state y }) (sym c.index-entries-i.is) in
    let entry_is : c.exchange.new.entry ≡ taken s.names s.state x =
    c.exchange.ensures.entry ∙ ap (λ y. taken s.names s.state y) (sym c.index-entries-i.is) in
    rw (self_is, entry_is) (record {
      names = v.names;
      logs = v.logs;
      room = v.room;
      ready = rw (same_shape s.room s.names s.state x, drop-set-lt (i + 1) es i (taken s.names s.state x) (omega arith))
          parts.1;
      state = forth_step s.names s.state es i x within c.index-entries-i.is ∙ v.state;
      entries = forth_taken_step s.names s.state es i x within c.index-entries-i.is ∙ v.entries;
    })
