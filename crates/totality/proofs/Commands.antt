-- Typed commands and dot lines have an outcome.
use Rattle.std.proofs.Common.{◌≡◌, ◌⊎◌, inl, inr, ℕ, suc, List, [], ◌∷◌, Result, Ok, Err, refl, sym, ap, ◌∙◌, arith}
use Rattle.std.specs.Prelude.{is_some}
use Rattle.ht_values.specs.declared.fault.Fault.{Fault}
use Rattle.ht_values.specs.Outcome.{and_then}
use Rattle.ht_grammar.specs.declared.vocabulary.HandlerKind.TheVariants.{Command}
use Rattle.ht_grammar.specs.Statements as stm
use Rattle.ht_grammar.specs.Trees as tree
use Rattle.object_table.specs.Objects.{object_at}
use Rattle.change_journal.specs.History.{History}
use Rattle.containers.specs.Edits.{read_at}
use Rattle.containers.specs.Places.{PlaceView}
use Rattle.object_references.specs.declared.referent.Referent.{Referent}
use Rattle.object_references.specs.References.{met_here}
use Rattle.meaning.specs.Actions as act
use Rattle.meaning.specs.Actions.{Action, opening_stack, locks_text, leaving_message}
use Rattle.meaning.specs.declared.system.SystemMessage.{SystemMessage}
use Rattle.meaning.specs.declared.system.SystemMessage.TheVariants.{MouseDown, MouseUp, OpenField}
use Rattle.meaning.specs.Meaning.{Line, Message, Refers, Tells, TellsAll, Clicks, TypesOver, TypesInto, Acts}
use Rattle.meaning.specs.Menu.{message_name}
use Rattle.meaning.specs.Places.{field_text, field_place}
use Rattle.meaning.specs.State.{RunState, typed_frame}
use Rattle.meaning.specs.Locked.{MeetsLock}
use Rattle.preservation.proofs.Ends.{stopped}
use Rattle.totality.specs.Laws.{Behaves}
use Rattle.totality.proofs.Chain.{Begun, Underway, Has, has, ok, same, then, then_lines, choose, computed}
use Rattle.totality.proofs.Leaves.{then_done_lines, place_stands, stores}
use Rattle.totality.proofs.Levels.{Level}
use Rattle.totality.proofs.Expressions.{part_has, sends_has}
use Rattle.totality.proofs.Blocks.{block_has}

pub line_has : {begun : Begun} {n : ℕ} → Level begun n → (w : History) (r : RunState) (ss : stm.Stmts) →
    Underway begun (suc n) w r → Has begun (suc n) (Line w r ss)
line_has h w r ss k =
    then_lines (block_has h w r (typed_frame w) 0 ss (omega arith) k) (λ z w1 r1 f1 g. Line.line_stops refl g)
    (λ how w1 r1 f1 k1 g. ok _ k1 (Line.line refl g))

pub message_has : {begun : Begun} {n : ℕ} → Level begun n → (w : History) (r : RunState) (i : ℕ) (name : List ℕ)
    (vs : List (List ℕ)) → Underway begun (suc n) w r → Has begun (suc n) (Message w r i name vs)
message_has h w r i name vs k =
    then (sends_has h w r (typed_frame w) 0 i name vs Command (omega arith) k)
    (λ z w1 r1 g. Message.sent_alone_stops refl g) (λ v w1 r1 k1 g. ok _ k1 (Message.sent_alone refl g))

-- ---- dot lines that send messages

pub refers_has : {begun : Begun} {n : ℕ} → Level begun n → (w : History) (r : RunState) (pa : tree.Part) →
    Underway begun (suc n) w r → Has begun (suc n) (Refers w r pa)
refers_has h w r pa k =
    then (part_has h w r (typed_frame w) 0 pa (omega arith) k) (λ z w1 r1 g. Refers.refer_stops refl g)
    (λ met w1 r1 k1 g. ok _ k1 (Refers.refers refl g refl))

tells_has : {begun : Begun} {n : ℕ} → Level begun n → (w : History) (r : RunState) (i : ℕ) (mg : SystemMessage) →
    Underway begun (suc n) w r → Has begun (suc n) (Tells w r i mg)
tells_has h w r i mg k =
    choose r.lock_messages (λ locked. ok _ k (Tells.tells_nothing locked))
    (λ free. same (message_has h w r i (message_name mg) [] k) (λ o w1 r1 g. Tells.tells free refl g))

tells_all_has : {begun : Begun} {n : ℕ} → Level begun n → (w : History) (r : RunState) (ms : List SystemMessage) →
    Underway begun (suc n) w r → Has begun (suc n) (TellsAll w r ms)
tells_all_has h w r [] k = ok _ k (TellsAll.none_to_tell refl)
tells_all_has h w r (mg ∷ ms) k =
    then (tells_has h w r w.now.current mg k) (λ z w1 r1 g. TellsAll.tell_stops refl g)
    (λ _ w1 r1 k1 g. same (tells_all_has h w1 r1 ms k1) (λ o w2 r2 g2. TellsAll.tells_on refl g g2))

clicks_has : {begun : Begun} {n : ℕ} → Level begun n → (w : History) (r : RunState) (pa : tree.Part) →
    Underway begun (suc n) w r → Has begun (suc n) (Clicks w r pa)
clicks_has h w r pa k =
    then (refers_has h w r pa k) (λ z w1 r1 g. Clicks.click_misses g) (λ i w1 r1 k1 g.
    then (tells_has h w1 r1 i MouseDown k1) (λ z w2 r2 g2. Clicks.press_stops g g2) (λ _ w2 r2 k2 g2.
    choose (is_some (object_at w2.now.stack i))
    (λ there. same (tells_has h w2 r2 i MouseUp k2) (λ o w3 r3 g3. Clicks.clicks g g2 there g3))
    (λ gone. ok _ k2 (Clicks.part_goes g g2 gone))))

pub no_value : {A E : Type 0} {e : E} {a : A} → ◌≡◌ {A = Result A E} (Err e) (Ok a) → ⊥
no_value is = cc

types_over_has : {begun : Begun} {n : ℕ} → Level begun n → (w : History) (r : RunState) (o : Referent) (t : List ℕ) →
    Underway begun (suc n) w r → Has begun (suc n) (TypesOver w r o t)
types_over_has h w r o t k =
    computed (field_text w.now (typed_frame w).variables r.delimiter o)
    (λ old is. computed (field_place w.now o) (λ p at.
    let stands = place_stands w.now (typed_frame w).variables r.delimiter p (read_there at ∙ is) in
    then_done_lines k (stores w (typed_frame w) p.storage t stands k.is_open) (λ w1 f1 k1 g.
    same (tells_has h w1 r o.object (leaving_message old t) k1)
    (λ o w2 r1 g2. TypesOver.types_over refl is at g refl refl g2)))
    (λ fa at. absurd (no_value (read_there at ∙ is))))
    (λ fa gone. ok _ k (TypesOver.typed_field_goes refl gone))
  where
    read_there : {c : Result PlaceView Fault} → field_place w.now o ≡ c →
        and_then c (λ p. read_at w.now (typed_frame w).variables r.delimiter p)
        ≡ field_text w.now (typed_frame w).variables r.delimiter o
    read_there at = sym (ap (λ c. and_then c (λ p. read_at w.now (typed_frame w).variables r.delimiter p)) at)

-- an action is to type into a locked field, and each turn up to there is that of the behaviour
abbrev pub IsLocked : Begun → History → RunState → Action → History → RunState → Type 0
IsLocked begun w r ac w2 r2 = MeetsLock w r ac w2 r2 × Behaves begun.behaviour begun.history w2

-- a text is typed, unless the field is locked
types_into_has : {begun : Begun} {n : ℕ} → Level begun n → (w : History) (r : RunState) (t : List ℕ) (pa : tree.Part) →
    Underway begun (suc n) w r → Has begun (suc n) (TypesInto w r t pa) ⊎
    ((w2 : History) × ((r2 : RunState) × IsLocked begun w r (act.type_text t pa) w2 r2))
types_into_has {begun} {n} h w r t pa k = by_part (refers_has h w r pa k)
  where
    by_part : Has begun (suc n) (Refers w r pa) →
        Has begun (suc n) (TypesInto w r t pa) ⊎
        ((w2 : History) × ((r2 : RunState) × IsLocked begun w r (act.type_text t pa) w2 r2))
    by_part (has (Err z) w1 r1 has_memory k1 g) = inl
        (has (Err z) w1 r1 (stopped has_memory) k1 (TypesInto.type_misses g))
    by_part (has (Ok i) w1 r1 has_memory k1 g) =
        choose (locks_text w1.now.stack i) (λ locked. inr (w1, (r1, ((i, g, locked), k1.is_open.behaves)))) (λ free. inl
        (then (tells_has h w1 r1 i OpenField k1) (λ z w2 r2 g2. TypesInto.field_open_stops g free g2) (λ _ w2 r2 k2 g2.
        same (types_over_has h w2 r2 (met_here w1.now.current i) t k2)
        (λ o w3 r3 g3. TypesInto.types_into g free g2 refl g3))))

pub acts_has : {begun : Begun} {n : ℕ} → Level begun n → (w : History) (r : RunState) (ac : Action) →
    Underway begun (suc n) w r → Has begun (suc n) (Acts w r ac) ⊎
    ((w2 : History) × ((r2 : RunState) × IsLocked begun w r ac w2 r2))
acts_has h w r (act.run_lines ss) k = inl (same (line_has h w r ss k) (λ o w1 r1 g. Acts.acts_by_lines refl g))
acts_has h w r act.open_stack k = inl
    (same (tells_all_has h w r opening_stack k) (λ o w1 r1 g. Acts.acts_by_opening refl g))
acts_has h w r (act.click pa) k = inl
    (same (clicks_has h w r pa k) (λ o w1 r1 g. Acts.acts_by_click refl g))
acts_has {begun} {n} h w r (act.type_text t pa) k = by_typing (types_into_has h w r t pa k)
  where
    by_typing : Has begun (suc n) (TypesInto w r t pa) ⊎
        ((w2 : History) × ((r2 : RunState) × IsLocked begun w r (act.type_text t pa) w2 r2)) →
        Has begun (suc n) (Acts w r (act.type_text t pa)) ⊎
        ((w2 : History) × ((r2 : RunState) × IsLocked begun w r (act.type_text t pa) w2 r2))
    by_typing (inl typed) = inl (same typed (λ o w1 r1 g. Acts.acts_by_typing refl g))
    by_typing (inr locked) = inr locked
