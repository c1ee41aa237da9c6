use Rattle.std.proofs.Common.{rules, ◌≡◌, ◌<◌, [], ◌∷◌, ◌++◌, length, take, get_or, set, sym, subst, ap, ◌∙◌, arith}
use Rattle.std.proofs.lemmas.List.{length-set, get_or-set_same}
use Rattle.journal_entries.specs.Exchange.{exchanged, taken, forth, shape_of}
use Rattle.journal_entries.specs.Indexed.{is_held, IsIndexed}
use Rattle.journal_entries.specs.Keys.{key_of}
use Rattle.journal_entries.specs.PlaceSets.{has_place}
use Rattle.journal_entries.proofs.Going.{forth_step, same_shape, AreReady-drop}
use Rattle.journal_entries.proofs.Keeping.{without, length-without, read_twice, held_before, held_behind, new_behind}
use Rattle.journal_entries.proofs.Keeping.{new_before, kept_held, kept_new}
use Rattle.journal_entries.proofs.open_batch.exchange_each.Goals as goal

pub loop-i-preserved-then-held : goal.loop-i-preserved-then-held
loop-i-preserved-then-held g c =
    let v = c.loop-i.invariant in
    let s = c.loop-i.present in
    let es = c.loop-i.entries.items in
    let i = c.loop-i.i in
    let x = c.index_mut.result.now in
    let before = c.args.before.now in
    let within : i < length es = search rules in
    let is : x ≡ get_or es i x = c.index_mut.ensures.value in
    let parts = AreReady-drop (shape_of s) es i x within is v.ready in
    let seen = v.indexed.held x
    ∙ ap (λ e. is_held (has_place c.loop-i.places) (key_of e))
    (read_twice i es x c.index.result.now within is c.index.ensures)
    ∙ sym c.is_found-held.ensures in
    let news = set es i (taken s.names s.state x) in
    let long = length-set es i (taken s.names s.state x) in
    let short = length-without i news (omega (arith, within, long)) in
    let here : c.remove.new.self.items ≡ without news i = c.remove.ensures.by_index.2
    ∙ ap (λ e. without (set es i e) i) c.exchange.ensures.entry in
    rw (c.exchange.ensures.state, here) (record {
      within = omega (arith, within, long, short);
      few = omega (arith, long, short, v.few);
      names = v.names;
      logs = v.logs;
      room = v.room;
      ready = rw (same_shape s.room s.names s.state x, held_behind s.names s.state before es i x within is) parts.1;
      state = ap (forth s.names (exchanged s.names s.state x)) (held_behind s.names s.state before es i x within is
          ∙ sym (new_behind s.names s.state before es i x within is))
          ∙ forth_step s.names s.state es i x within is ∙ v.state;
      entries = kept_held s.names s.state before es i x within is (seen ∙ c.if-held.true) ∙ v.entries;
      indexed = rw (held_before s.names s.state before es i x within is) v.indexed;
      free = omega (arith, within, long, short, v.free);
    })

pub loop-i-preserved : goal.loop-i-preserved
loop-i-preserved g c =
    let v = c.loop-i.invariant in
    let s = c.loop-i.present in
    let es = c.loop-i.entries.items in
    let i = c.loop-i.i in
    let x = c.index_mut.result.now in
    let before = c.args.before.now in
    let within : i < length es = search rules in
    let is : x ≡ get_or es i x = c.index_mut.ensures.value in
    let parts = AreReady-drop (shape_of s) es i x within is v.ready in
    let seen = v.indexed.held x
    ∙ ap (λ e. is_held (has_place c.loop-i.places) (key_of e))
    (read_twice i es x c.index.result.now within is c.index.ensures)
    ∙ sym c.is_found-held.ensures in
    let long = length-set es i (taken s.names s.state x) in
    let stored = c.index-else-held.ensures
    ∙ get_or-set_same es i c.exchange.new.entry c.index-else-held.result.now within in
    let placed = c.add_place.ensures.indexed (before ++ take i es) v.indexed in
    rw (c.exchange.ensures.state, c.exchange.ensures.entry) (record {
      within = omega (arith, within, long);
      few = omega (arith, long, v.few);
      names = v.names;
      logs = v.logs;
      room = v.room;
      ready = rw (same_shape s.room s.names s.state x, new_behind s.names s.state before es i x within is) parts.1;
      state = forth_step s.names s.state es i x within is ∙ v.state;
      entries = kept_new s.names s.state before es i x within is (seen ∙ c.if-held.false) ∙ v.entries;
      indexed = rw (new_before s.names s.state before es i x within is)
          (subst (λ e. IsIndexed ((before ++ take i es) ++ e ∷ []) c.add_place.new.places)
          (stored ∙ c.exchange.ensures.entry) placed);
      free = omega (arith, within, long, v.free, c.add_place.ensures.waiting, c.add_place.ensures.capacity);
    })
