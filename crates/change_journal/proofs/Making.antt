-- A change, and a turn of an external, in an open batch.
use Rattle.std.proofs.Common.{Bool, ◌≡◌, ◌++◌, ℕ, ◌+◌, ◌<◌, ◌≤◌, true, false, if◌then◌else◌, List, [], ◌∷◌, length, set}
use Rattle.std.proofs.Common.{take, drop, reverse, refl, sym, subst, ap, ◌∙◌, arith, Option, Some, None, All}
use Rattle.std.proofs.lemmas.List.{get_or-set_same}
use Rattle.std.proofs.lemmas.List.Sums.{sum_by-cons}
use Rattle.std.proofs.lemmas.List.Elements.{All-get_or, All-set}
use Rattle.ht_values.specs.Text.{IsText}
use Rattle.externals.specs.Cells.{Changes, IsPatch, IsExternal, none_seen}
use Rattle.externals.specs.Turns.{AskTexts}
use Rattle.externals.specs.declared.external.Input.{Input}
use Rattle.externals.specs.declared.external.Ask.{Ask}
use Rattle.object_table.specs.Content.{Content}
use Rattle.object_table.specs.Maps.{put_option}
use Rattle.object_table.specs.Setting.{with_value_at}
use Rattle.object_table.specs.declared.property.PropValue.{PropValue}
use Rattle.object_table.proofs.Rewritten.{text-rewritten, hilite-rewritten, property-rewritten, is_card-rewritten}
use Rattle.stack_places.specs.Places.{size_of, property, field_text, button_hilite, prop_of, setting, text, logical}
use Rattle.stack_places.specs.Places.{put as put_in_stack}
use Rattle.stack_places.specs.Exchange.{exchanged as exchanged_in_stack}
use Rattle.stack_places.specs.declared.entry.StackEntry.TheVariants as stack_entries
use Rattle.stack_places.proofs.Exchanging.{puts}
use Rattle.journal_entries.specs.State.{State, IsState, seen_at, titles_of, are_apart}
use Rattle.journal_entries.specs.Places.{Write, put, put_all, value_at}
use Rattle.journal_entries.specs.Changes.{changed, writes_of, fits, HasTexts}
use Rattle.journal_entries.specs.Replaced.{Replacement, replaced_by, replaced_in_turn, replaced_by_turn, back_weight}
use Rattle.journal_entries.specs.Replaced.{forth_weight}
use Rattle.journal_entries.specs.Trails.{Mark, at, structural, turned, holds, mark_at, marked, IsOnce}
use Rattle.journal_entries.specs.Exchange.{PresentView, BatchView, Shape, with_cells, shape_of, exchanged, taken, back}
use Rattle.journal_entries.specs.Exchange.{back_taken, forth, weight, entry_weight, mark_of, trail_of, IsReady}
use Rattle.journal_entries.specs.Exchange.{AreReady}
use Rattle.journal_entries.specs.Turning.{Carries, AreCarried, Prepares, Turns, IsNumbered, logs_after, with_cells_at}
use Rattle.journal_entries.specs.Changing.{Makes, kept, kept_in_turn, kept_turn, holds_one}
use Rattle.journal_entries.specs.declared.entry.Entry.{Entry}
use Rattle.journal_entries.specs.declared.entry.Entry.TheVariants.{External}
use Rattle.journal_entries.specs.declared.change.Change.TheVariants as changes
use Rattle.journal_entries.specs.declared.change.Change.{Change}
use Rattle.journal_entries.proofs.Going.{back-push, exchanged_back, taken_back, same_shape, shape-forth, AreReady-push}
use Rattle.journal_entries.proofs.Going.{IsReady-taken}
use Rattle.journal_entries.proofs.Weighing.{weight-recorded, redo-recorded, trail_of-recorded, mark_of-taken}
use Rattle.journal_entries.proofs.Once.{back-once, redo-once, plain-held, trail-kept}
use Rattle.change_journal.specs.History.{Open, History, IsStart, IsHistory}
use Rattle.change_journal.specs.Rising.{Rises, Made, TookTurn, BothOpen, trail_after, trail_after_turn}
use Rattle.change_journal.specs.Batches.{Journal, stamp_of, past_steps, future_steps, open_of, history_of, AllReady}
use Rattle.change_journal.specs.Batches.{IsSound}
use Rattle.journal_entries.proofs.Turned.{turned_back, unmoved, counts-turned, IsReady-turned, titles-turned}
use Rattle.journal_entries.proofs.Replacing.{patch_back, patch_forth, replaced-same, replaced-some}
use Rattle.change_journal.proofs.Growth.{with_present, history-grown, AllReady-grown, AreReady-grown}
use Rattle.change_journal.proofs.Globals.{globals-put}
use Rattle.change_journal.proofs.Objects.{state-new_card, state-new_background, state-new_part, state-deletion}
use Rattle.change_journal.proofs.Objects.{externals-new_card, externals-new_background, externals-new_part}
use Rattle.change_journal.proofs.Objects.{externals-deletion}

-- the history where the batch goes back to the same state
history-round : (b : Journal) (k : PresentView) (batch more : BatchView) → k.names ≡ b.present.names
    → back b.present.names k.state more.entries ≡ back b.present.names b.present.state batch.entries
    → history_of (with_present b k) (Some more)
    ≡ record (history_of b (Some batch)) { now = k.state; start = Some (open_of k.names k.state more); logs = k.logs }
history-round b k batch more names same =
    let s : back k.names k.state more.entries ≡ back b.present.names b.present.state batch.entries =
    (λ i. back (names i) k.state more.entries) ∙ same in
    λ i. record {
      past = past_steps (names i) b.oldest (s i) (reverse (take b.cursor b.batches));
      now = k.state;
      stamp = stamp_of b.oldest (reverse (take b.cursor b.batches));
      future = future_steps (names i) (s i) (drop b.cursor b.batches);
      start = Some (open_of k.names k.state more);
      depth = b.depth;
      logs = k.logs;
    }

-- ---- a write

-- what one write replaces
abbrev one : State → Write → List Replacement
one s w = record { place = w.place; old = value_at s w.place; new = w.value } ∷ []

sum_one-back : (s : State) (w : Write) → back_weight (one s w) ≡ 32 + size_of (value_at s w.place)
sum_one-back s w = omega arith

sum_one-forth : (s : State) (w : Write) → forth_weight (one s w) ≡ 32 + size_of w.value
sum_one-forth s w = omega arith

ready-kept : (h : Shape) (es : List Entry) (e t : Entry) → AreReady h es → IsReady h t → AreReady h (kept es e t)
ready-kept h es e t r q = elim (holds_one e es) as (λ b. AreReady h (if b then es else es ++ t ∷ []))
    [ true ↦ r | false ↦ AreReady-push h es t r q ]

ready-each : (h : Shape) (names : List (List ℕ)) (s : State) (es more : List Entry) → AreReady h es → AreReady h more
    → AreReady h (kept_in_turn names s es more)
ready-each h names s es [] r q = r
ready-each h names s es (e ∷ more) r q = ready-each h names (exchanged names s e) (kept es e (taken names s e)) more
    (ready-kept h es e (taken names s e) r (IsReady-taken h names s e q.0)) q.1

-- the batch with what an exchange keeps
abbrev with_entry : BatchView → Entry → Entry → BatchView
with_entry batch e t = record batch { entries = kept batch.entries e t }

-- the open batch after a write
rises : (h : PresentView) (batch : BatchView) (e : Entry) (w : Write) → IsReady (shape_of h) e → IsNumbered h.names e
    → AreReady (shape_of h) batch.entries → Carries h.names h.state w e
    → (let o = open_of h.names h.state batch in Rises (one h.state w) (trail_after (one h.state w) o.trail) o
    (open_of h.names (exchanged h.names h.state e) (with_entry batch e (taken h.names h.state e))))
rises h batch e w ready only opened carries = record {
  state = state (holds_one e batch.entries) refl;
  number = refl;
  undo = undo (holds_one e batch.entries);
  redo = redo (holds_one e batch.entries) refl;
  trail = sym (ap (λ m. marked m (trail_of names batch.entries)) (sym carries.mark)
      ∙ trail-kept names (shape_of h) e t batch.entries only refl opened (mark_of-taken names s e));
}
  where
    names : List (List ℕ)
    names = h.names

    s : State
    s = h.state

    t : Entry
    t = taken h.names h.state e

    next : State
    next = exchanged h.names h.state e

    undone : exchanged names next t ≡ s
    undone = exchanged_back h.room names s e ready

    state : (b : Bool) → holds_one e batch.entries ≡ b
        → back names next (if b then batch.entries else batch.entries ++ t ∷ []) ≡ back names s batch.entries
    state true held =
        back-once names s (shape_of h) e batch.entries only refl opened (plain-held e batch.entries held) held
    state false new = back-push names next batch.entries t ∙ ap (λ x. back names x batch.entries) undone

    undo : (b : Bool) → weight (if b then batch.entries else batch.entries ++ t ∷ [])
        ≤ weight batch.entries + back_weight (one s w)
    undo true = omega arith
    undo false = omega (arith, weight-recorded batch.entries t, carries.back, sum_one-back s w)

    redo : (b : Bool) → holds_one e batch.entries ≡ b
        → weight (back_taken names next (if b then batch.entries else batch.entries ++ t ∷ []))
        ≤ weight (back_taken names s batch.entries) + forth_weight (one s w)
    redo true held = omega (
      arith,
      redo-once names s (shape_of h) e batch.entries only refl opened
          (plain-held e batch.entries held) held,
      carries.forth,
      sum_one-forth s w,
    )
    redo false new = omega (
      arith,
      redo-recorded names s next batch.entries t undone,
      ap entry_weight
          (taken_back h.room names s e ready),
      carries.forth,
      sum_one-forth s w,
    )

-- one after the other
rises-then : (r : Replacement) (rs : List Replacement) (a b c : Open)
    → Rises (r ∷ []) (trail_after (r ∷ []) a.trail) a b → Rises rs (trail_after rs b.trail) b c
    → Rises (r ∷ rs) (trail_after (r ∷ rs) a.trail) a c
rises-then r rs a b c one two = record {
  state = two.state ∙ one.state;
  number = two.number ∙ one.number;
  undo = omega (arith, one.undo, two.undo, sum_by-cons (λ x. 32 + size_of x.old) r rs);
  redo = omega (arith, one.redo, two.redo, sum_by-cons (λ x. 32 + size_of x.new) r rs);
  trail = two.trail ∙ ap (trail_after rs) one.trail;
}

-- the open batch after all writes of a change
rises-each : (h : PresentView) (batch : BatchView) (es : List Entry) (ws : List Write) → AreReady (shape_of h) es
    → AreReady (shape_of h) batch.entries → AreCarried h.names h.state ws es
    → (let o = open_of h.names h.state batch in let rs = replaced_in_turn h.state ws in Rises rs
    (trail_after rs o.trail) o (open_of h.names (forth h.names h.state es)
    (record batch { entries = kept_in_turn h.names h.state batch.entries es })))
rises-each h batch [] [] ready opened carried =
    record { state = refl; number = refl; undo = omega arith; redo = omega arith; trail = refl }
rises-each h batch [] (w ∷ ws) ready opened carried = absurd carried
rises-each h batch (e ∷ es) [] ready opened carried = absurd carried
rises-each h batch (e ∷ es) (w ∷ ws) ready opened carried =
    let names = h.names in
    let t = taken names h.state e in
    let next : PresentView = record h { state = exchanged names h.state e } in
    let more = with_entry batch e t in
    let same = same_shape h.room names h.state e in
    let now : exchanged names h.state e ≡ put h.state w.place w.value = carried.1.state in
    let ready_next : AreReady (shape_of next) es = rw same ready.1 in
    let opened_next : AreReady (shape_of next) more.entries = rw same
    (ready-kept (shape_of h) batch.entries e t opened (IsReady-taken (shape_of h) names h.state e ready.0)) in
    let first = rises h batch e w ready.0 carried.0 opened carried.1 in
    let rest = rises-each next more es ws ready_next opened_next (rw now carried.2) in
    let r : Replacement = record { place = w.place; old = value_at h.state w.place; new = w.value } in
    rises-then r (replaced_in_turn (put h.state w.place w.value) ws) (open_of names h.state batch)
    (open_of names next.state more) _ first
    (subst (λ s. Rises (replaced_in_turn s ws) (trail_after (replaced_in_turn s ws) (trail_of names more.entries))
    (open_of names next.state more)
    (open_of names (forth names next.state es)
    (record batch { entries = kept_in_turn names next.state more.entries es }))) now rest)

-- the entries put what the change writes
puts-each : (names : List (List ℕ)) (s : State) (ws : List Write) (es : List Entry) → AreCarried names s ws es
    → forth names s es ≡ put_all s ws
puts-each names s [] [] h = refl
puts-each names s [] (e ∷ es) h = absurd h
puts-each names s (w ∷ ws) [] h = absurd h
puts-each names s (w ∷ ws) (e ∷ es) h =
    ap (λ x. forth names x es) h.1.state ∙ puts-each names (put s w.place w.value) ws es h.2

abbrev made_batch : PresentView → BatchView → List Entry → BatchView
made_batch h batch es = record batch { entries = kept_in_turn h.names h.state batch.entries es }

abbrev made_present : PresentView → List Entry → PresentView
made_present h es = record h { state = forth h.names h.state es }

history-made : (b : Journal) (batch : BatchView) (es : List Entry) (change : Change) → Prepares b.present change es
    → AreReady (shape_of b.present) batch.entries
    → Made (history_of b (Some batch))
    (history_of (with_present b (made_present b.present es)) (Some (made_batch b.present batch es))) change
history-made b batch es change prepared opened =
    let h = b.present in
    let up = rises-each h batch es (writes_of h.state change) prepared.ready opened prepared.carried in
    let round = history-round b (made_present h es) batch (made_batch h batch es) refl up.state in
    let now : forth h.names h.state es ≡ changed h.state change =
    puts-each h.names h.state (writes_of h.state change) es prepared.carried in
    record {
      history = round ∙ ap (λ s. record (history_of b (Some batch))
          { now = s; start = Some (open_of h.names (forth h.names h.state es) (made_batch h batch es)) }) now;
      start = up;
    }

-- ---- what stays true

set_text : (s : Content) (field card : ℕ) (t : List ℕ)
    → put_in_stack s (field_text field card) (Some (text t))
    ≡ record s { texts = put_option s.texts (field, card) (Some t) }
unfolding put_in_stack
set_text s field card t = refl

set_hilite : (s : Content) (button card : ℕ) (b : Bool)
    → put_in_stack s (button_hilite button card) (Some (logical b))
    ≡ record s { hilites = put_option s.hilites (button, card) (Some b) }
unfolding put_in_stack
set_hilite s button card b = refl

set_property : (s : Content) (id : ℕ) (v : PropValue)
    → put_in_stack s (property id (prop_of v)) (Some (setting v)) ≡ with_value_at s id v
unfolding exchanged_in_stack
set_property s id v = sym (puts s (stack_entries.Prop id v))

state-changed : (s : State) (change : Change) → fits s change ≡ true → HasTexts change → IsState s
    → IsState (changed s change)
unfolding put
state-changed s (changes.Global name None) f h
    q = record {
      stack = q.stack;
      globals = globals-put s.globals name None f h q.globals;
      current = q.current;
      externals = q.externals;
      apart = q.apart;
    }
state-changed s (changes.Global name (Some t)) f h
    q = record {
      stack = q.stack;
      globals = globals-put s.globals name (Some t) f h q.globals;
      current = q.current;
      externals = q.externals;
      apart = q.apart;
    }
state-changed s (changes.FieldText field card t) f h q = rw (set_text s.stack field card t)
    (record {
      stack = text-rewritten s.stack field card t f h q.stack;
      globals = q.globals;
      current = q.current;
      externals = q.externals;
      apart = q.apart;
    })
state-changed s (changes.Hilite button card b) f h q = rw (set_hilite s.stack button card b)
    (record {
      stack = hilite-rewritten s.stack button card b f q.stack;
      globals = q.globals;
      current = q.current;
      externals = q.externals;
      apart = q.apart;
    })
state-changed s (changes.Prop id v) f h q =
    rw (set_property s.stack id v)
    (record {
      stack = property-rewritten s.stack id v h q.stack;
      globals = q.globals;
      current = is_card-rewritten s.stack id v s.current ∙ q.current;
      externals = q.externals;
      apart = q.apart;
    })
state-changed s (changes.Current card) f h q =
    record { stack = q.stack; globals = q.globals; current = f; externals = q.externals; apart = q.apart }
state-changed s changes.NewCard f h q = state-new_card s f q
state-changed s changes.NewBackground f h q = state-new_background s f q
state-changed s (changes.NewPart layer kind) f h q = state-new_part s layer kind f q
state-changed s changes.DeleteCard f h q = state-deletion s f q

pub externals-changed : (s : State) (change : Change) → (changed s change).externals ≡ s.externals
unfolding put
externals-changed s (changes.Global name v) = refl
externals-changed s (changes.FieldText field card t) = refl
externals-changed s (changes.Hilite button card b) = refl
externals-changed s (changes.Prop id v) = refl
externals-changed s (changes.Current card) = refl
externals-changed s changes.NewCard = externals-new_card s
externals-changed s changes.NewBackground = externals-new_background s
externals-changed s (changes.NewPart layer kind) = externals-new_part s layer kind
externals-changed s changes.DeleteCard = externals-deletion s

once-marked : (m : Mark) (trail : List Mark) → IsOnce trail → IsOnce (marked m trail)
once-marked structural trail h = h
once-marked turned trail h = h
once-marked (at p) trail h = elim (holds p trail)
    as (λ b. holds p trail ≡ b → IsOnce (if b then trail else at p ∷ trail)) [ true ↦ λ e. h | false ↦ λ e. (e, h) ]
    refl

once-after : (rs : List Replacement) (trail : List Mark) → IsOnce trail → IsOnce (trail_after rs trail)
once-after [] trail h = h
once-after (r ∷ rs) trail h = once-after rs (marked (mark_at r.place) trail) (once-marked (mark_at r.place) trail h)

once-turned : (rs : List Replacement) (trail : List Mark) → IsOnce trail → IsOnce (trail_after_turn rs trail)
once-turned [] trail h = h
once-turned (r ∷ rs) trail h = h

start-risen : (ts : List (List ℕ)) (old new : Option Open) (rs : List Replacement) (marks : Open → List Mark)
    → ((o : Open) → IsOnce o.trail → IsOnce (marks o)) → BothOpen old new (λ o p. Rises rs (marks o) o p)
    → IsStart ts old → IsStart ts new
start-risen ts None None rs marks once up h = absurd up
start-risen ts None (Some p) rs marks once up h = absurd up
start-risen ts (Some o) None rs marks once up h = absurd up
start-risen ts (Some o) (Some p) rs marks once up h = (rw up.state h.0, rw up.trail (once o h.1))

pub IsHistory-made : (old new : History) (change : Change) → fits old.now change ≡ true → HasTexts change
    → Made old new change → IsHistory old → IsHistory new
IsHistory-made old new change f h made q =
    rw made.history (record {
      titles = q.titles;
      past = q.past;
      now = record {
        state = state-changed old.now change f h q.now.state;
        titles = ap titles_of (externals-changed old.now change) ∙ q.now.titles;
      };
      future = q.future;
      start = start-risen q.titles old.start new.start (replaced_by old.now change)
          (λ o. trail_after (replaced_by old.now change) o.trail)
          (λ o h. once-after (replaced_by old.now change) o.trail h) made.start q.start;
    })

pub made-all : (b : Journal) (k : PresentView) (batch more : BatchView) (change : Change)
    → Makes b.present k batch more change → AllReady (shape_of b.present) b.batches
    → AreReady (shape_of b.present) batch.entries
    → Made (history_of b (Some batch)) (history_of (with_present b k) (Some more)) change
made-all b k batch more change m ready opened =
    let mid = with_present b m.mid in
    let grown = history-grown b m.mid batch m.grows ready opened in
    let made =
    history-made mid batch m.entries change m.prepared (AreReady-grown b.present m.mid batch m.grows opened) in
    rw (m.present, m.batch)
    (subst (λ h. Made h (history_of (with_present b (made_present m.mid m.entries))
    (Some (made_batch m.mid batch m.entries))) change) grown made)

pub IsSound-made : (b : Journal) (k : PresentView) (room : ℕ) (batch more : BatchView) (change : Change)
    → fits b.present.state change ≡ true → HasTexts change → Makes b.present k batch more change
    → IsSound b room (Some batch) → IsSound (with_present b k) room (Some more)
IsSound-made b k room batch more change f texts m sound =
    let mid = m.mid in
    let h = shape_of mid in
    let same = shape-forth mid.room mid.names mid.state m.entries in
    let made = made-all b k batch more change m sound.ready sound.opened.0 in
    let shape : shape_of k ≡ h = ap shape_of m.present ∙ same in
    let entries : more.entries ≡ kept_in_turn mid.names mid.state batch.entries m.entries =
    ap (λ l. l.entries) m.batch in
    let opened : AreReady h (kept_in_turn mid.names mid.state batch.entries m.entries) = ready-each h mid.names
    mid.state batch.entries m.entries (AreReady-grown b.present mid batch m.grows sound.opened.0)
    m.prepared.ready in
    record {
      within = sound.within;
      few = sound.few;
      some = sound.some;
      ready = rw shape (AllReady-grown b mid m.grows sound.ready);
      opened = (rw (shape, entries) opened, sound.opened.1);
      history = IsHistory-made (history_of b (Some batch)) (history_of (with_present b k) (Some more)) change f texts
          made sound.history;
    }

-- ---- a turn

turned_trail : (rs : List Replacement) (trail : List Mark) → 0 < length rs → trail_after_turn rs trail ≡ turned ∷ trail
turned_trail [] trail h = absurd (omega arith)
turned_trail (r ∷ rs) trail h = refl

rises-turned : (h : PresentView) (batch : BatchView) (k : PresentView) (i : ℕ) (p : Changes) → k.names ≡ h.names
    → i < length h.state.externals → Turns h.state k.state i
    → IsPatch (seen_at h.state i).cells (seen_at k.state i).cells p
    → (let o = open_of h.names h.state batch in let rs = replaced_by_turn i (seen_at h.state i).cells
    (seen_at k.state i).cells in Rises rs (trail_after_turn rs o.trail) o
    (open_of h.names k.state (record batch { entries = kept_turn batch.entries i p })))
unfolding entry_weight taken mark_of
rises-turned h batch k i [] names there turn patch =
    let same : k.state ≡ h.state = unmoved h.names h.state k.state i there turn patch in
    let none = ap (λ s. replaced_by_turn i (seen_at h.state i).cells (seen_at s i).cells) same
    ∙ replaced-same i 0 (seen_at h.state i).cells in
    rw (none, same) (record { state = refl; number = refl; undo = omega arith; redo = omega arith; trail = refl })
rises-turned h batch k i (e ∷ p) names there turn patch =
    let whole : Changes = e ∷ p in
    let rs = replaced_by_turn i (seen_at h.state i).cells (seen_at k.state i).cells in
    let undone = turned_back h.names h.state k.state i whole there turn patch in
    record {
      state = back-push h.names k.state batch.entries (External i whole)
          ∙ ap (λ x. back h.names x batch.entries) undone;
      number = refl;
      undo = omega (
        arith,
        weight-recorded batch.entries (External i whole),
        patch_back i (seen_at h.state i).cells
            (seen_at k.state i).cells whole patch,
      );
      redo = omega (
        arith,
        redo-recorded h.names h.state k.state batch.entries (External i whole) undone,
        patch_forth i
            (seen_at h.state i).cells (seen_at k.state i).cells whole patch,
      );
      trail = trail_of-recorded h.names batch.entries (External i whole)
          ∙ sym (turned_trail rs (trail_of h.names batch.entries)
          (replaced-some i (seen_at h.state i).cells (seen_at k.state i).cells e p patch));
    }

pub turned-all : (b : Journal) (k : PresentView) (batch more : BatchView) (i : ℕ) (input : Input) (ask : Ask)
    (p : Changes) → i < length b.present.state.externals → Turns b.present.state k.state i → AskTexts ask
    → All IsText (seen_at k.state i).cells
    → IsPatch (seen_at b.present.state i).cells (seen_at k.state i).cells p
    → more ≡ record batch { entries = kept_turn batch.entries i p }
    → k ≡ record b.present
    { state = k.state; logs = logs_after b.present.logs b.present.state k.state i input ask }
    → TookTurn (history_of b (Some batch)) (history_of (with_present b k) (Some more)) i input ask
turned-all b k batch more i input ask p there turn asks cells patch batch_is present_is =
    let h = b.present in
    let names : k.names ≡ h.names = ap (λ x. x.names) present_is in
    let logs : k.logs ≡ logs_after h.logs h.state k.state i input ask = ap (λ x. x.logs) present_is in
    let new : BatchView = record batch { entries = kept_turn batch.entries i p } in
    let up = rises-turned h batch k i p names there turn patch in
    let round = history-round b k batch new names up.state in
    rw batch_is (record {
      turn = turn;
      asks = asks;
      cells = cells;
      history = round ∙ ap (λ ls. record (history_of b (Some batch))
          { now = k.state; start = Some (open_of k.names k.state new); logs = ls }) logs;
      start = rw names up;
    })

ready-turned : (h : Shape) (es : List Entry) (i : ℕ) (p : Changes) → AreReady h es → IsReady h (External i p)
    → AreReady h (kept_turn es i p)
ready-turned h es i [] r q = r
ready-turned h es i (e ∷ p) r q = AreReady-push h es (External i (e ∷ p)) r q

-- what a turn leaves of the i-th external
seen-turned : (old new : State) (i : ℕ) → i < length old.externals
    → new ≡ with_cells_at old i (seen_at new i).cells → seen_at new i ≡ with_cells (seen_at old i) (seen_at new i).cells
seen-turned old new i there is =
    ap (λ s. seen_at s i) is
    ∙ get_or-set_same old.externals i (with_cells (seen_at old i) (seen_at new i).cells) none_seen there

-- a turn puts what is seen of the i-th external in the place of what was seen
set-seen : (old new : State) (i : ℕ) → i < length old.externals → new ≡ with_cells_at old i (seen_at new i).cells
    → new.externals ≡ set old.externals i (seen_at new i)
set-seen old new i there is =
    ap (λ s. s.externals) is ∙ ap (set old.externals i) (sym (seen-turned old new i there is))

pub IsHistory-turned : (old new : History) (i : ℕ) (input : Input) (ask : Ask) → i < length old.now.externals
    → TookTurn old new i input ask → IsHistory old → IsHistory new
IsHistory-turned old new i input ask there took q =
    let cells = (seen_at new.now i).cells in
    let replaced = replaced_by_turn i (seen_at old.now i).cells cells in
    let same : titles_of new.now.externals ≡ titles_of old.now.externals =
    ap (λ s. titles_of s.externals) took.turn.state ∙ titles-turned old.now.externals i cells in
    let stack : new.now.stack ≡ old.now.stack = ap (λ s. s.stack) took.turn.state in
    let globals : new.now.globals ≡ old.now.globals = ap (λ s. s.globals) took.turn.state in
    let current : new.now.current ≡ old.now.current = ap (λ s. s.current) took.turn.state in
    let externals : new.now.externals ≡ set old.now.externals i (seen_at new.now i) =
    set-seen old.now new.now i there took.turn.state in
    let was : IsExternal (seen_at old.now i) =
    All-get_or IsExternal old.now.externals i none_seen there q.now.state.externals in
    let known : IsExternal (seen_at new.now i) =
    subst IsExternal (sym (seen-turned old.now new.now i there took.turn.state))
    (record { title = was.title; cells = took.cells }) in
    rw took.history (record {
      titles = q.titles;
      past = q.past;
      now = record {
        state = record {
          stack = rw stack q.now.state.stack;
          globals = rw globals q.now.state.globals;
          current = rw (stack, current) q.now.state.current;
          externals =
              rw externals (All-set IsExternal old.now.externals i (seen_at new.now i) known q.now.state.externals);
          apart = ap are_apart same ∙ q.now.state.apart;
        };
        titles = same ∙ q.now.titles;
      };
      future = q.future;
      start = start-risen q.titles old.start new.start replaced (λ o. trail_after_turn replaced o.trail)
          (λ o h. once-turned replaced o.trail h) took.start q.start;
    })

pub IsSound-turned : (b : Journal) (k : PresentView) (room : ℕ) (batch more : BatchView) (i : ℕ) (input : Input)
    (ask : Ask) (p : Changes) → i < length b.present.state.externals → Turns b.present.state k.state i → AskTexts ask
    → All IsText (seen_at k.state i).cells → IsPatch (seen_at b.present.state i).cells (seen_at k.state i).cells p
    → more ≡ record batch { entries = kept_turn batch.entries i p }
    → k ≡ record b.present
    { state = k.state; logs = logs_after b.present.logs b.present.state k.state i input ask }
    → IsSound b room (Some batch) → IsSound (with_present b k) room (Some more)
IsSound-turned b k room batch more i input ask p there turn asks cells patch batch_is present_is sound =
    let h = shape_of b.present in
    let shape : shape_of k ≡ h = λ x.
    record {
      names = length (present_is x).names;
      counts = counts-turned b.present.state k.state i turn x;
      room = (present_is x).room;
    } in
    let entries : more.entries ≡ kept_turn batch.entries i p = ap (λ l. l.entries) batch_is in
    record {
      within = sound.within;
      few = sound.few;
      some = sound.some;
      ready = rw shape sound.ready;
      opened = (
        rw (shape, entries) (ready-turned h batch.entries i p sound.opened.0
            (IsReady-turned h b.present.state k.state i p refl there patch)),
        sound.opened.1,
      );
      history = IsHistory-turned (history_of b (Some batch)) (history_of (with_present b k) (Some more)) i input ask
          there (turned-all b k batch more i input ask p there turn asks cells patch batch_is present_is) sound.history;
    }
