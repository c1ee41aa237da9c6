use Rattle.std.proofs.Common.{◌≡◌, ◌+◌, ◌-◌, ◌<◌, ◌++◌, length, take, drop, ap, sym, subst, ◌∙◌, arith, length-set}
use Rattle.std.proofs.lemmas.List.{take-set}
use Rattle.journal_entries.specs.Exchange.{exchanged, taken, back, back_taken, IsReady, shape_of}
use Rattle.journal_entries.proofs.Going.{back_step, back_taken_step, same_shape, AreReady-take}
use Rattle.journal_entries.proofs.present.Present.go_back.Goals as goal

pub exchange-requires : goal.exchange-requires
exchange-requires g c =
    let j = c.loop-i.i - 1 in
    let within : j < length c.loop-i.entries = omega (arith, c.loop-i.invariant.within) in
    let parts = AreReady-take (shape_of c.loop-i.self) c.loop-i.entries c.loop-i.i j c.index-entries-i.result
    (omega arith) within c.index-entries-i.is c.loop-i.invariant.ready in
    subst (λ x. IsReady (shape_of c.loop-i.self) x) c.index-entries-i.is parts.0

pub loop-i-preserved : goal.loop-i-preserved
loop-i-preserved g c =
    let v = c.loop-i.invariant in
    let s = c.loop-i.self in
    let es = c.loop-i.entries in
    let x = c.index-entries-i.result in
    let j = c.loop-i.i - 1 in
    let more : c.loop-i.i ≡ j + 1 = omega arith in
    let within : j < length es = omega (arith, v.within) in
    let parts = AreReady-take (shape_of s) es c.loop-i.i j x more within c.index-entries-i.is v.ready in
    let self_is : c.exchange.new.self ≡ record s { state = exchanged s.names s.state x } = c.exchange.ensures.state
    ∙ ap (λ y. record s { state = exchanged s.names s.state y }) (sym c.index-entries-i.is) in
    let entry_is : c.exchange.new.entry ≡ taken s.names s.state x =
    c.exchange.ensures.entry ∙ ap (λ y. taken s.names s.state y) (sym c.index-entries-i.is) in
    rw (self_is, entry_is) (record {
      names = v.names;
      logs = v.logs;
      room = v.room;
      within = omega (arith, length-set es j (taken s.names s.state x));
      ready = rw (same_shape s.room s.names s.state x, take-set es j (taken s.names s.state x)) parts.1;
      state = back_step s.names s.state es j x within c.index-entries-i.is
          ∙ ap (λ n. back s.names s.state (take n es)) (sym more) ∙ v.state;
      entries = back_taken_step s.names s.state es j x within c.index-entries-i.is
          ∙ ap (λ n. back_taken s.names s.state (take n es) ++ drop n es) (sym more) ∙ v.entries;
    })
