-- Entries that are added.
use Rattle.std.proofs.Common.{◌≡◌, ℕ, ◌++◌, List, [], ◌∷◌, map, refl, sym, ap, ◌∙◌, subst, append_assoc}
use Rattle.std.proofs.lemmas.List.{append-nil, map-append}
use Rattle.std.specs.List.{AllByRecursion}
use Rattle.object_table.specs.Table.{Table}
use Rattle.stack_places.specs.Exchange.{IsReady, IsWider}
use Rattle.stack_places.specs.declared.entry.StackEntry.{StackEntry}
use Rattle.stack_places.proofs.Exchanging.{IsReady-wider}
use Rattle.std.specs.FinSet.{insert}
use Rattle.object_table.specs.Opened.{with_parts}
use Rattle.object_table.specs.Pairs.{Pair}
use Rattle.object_table.proofs.Pairs.{with_parts-wider}
use Rattle.stack_places.proofs.Wider.{IsWider-same, IsWider-slot, IsWider-text, IsWider-hilite}
use Rattle.object_table.specs.Table.{Room}
use Rattle.structural_changes.specs.Prepared.{Adds, Opens, write_of}
use Rattle.structural_changes.specs.Writes.{StackWrite}

pub all-append : {X : Type 0} (P : X → Type 0) (xs ys : List X) → AllByRecursion P xs → AllByRecursion P ys
    → AllByRecursion P (xs ++ ys)
all-append P [] ys h k = k
all-append P (x ∷ xs) ys h k = (h.0, all-append P xs ys h.1 k)

all-map : {X : Type 0} (P Q : X → Type 0) → ((x : X) → P x → Q x) → (xs : List X) → AllByRecursion P xs
    → AllByRecursion Q xs
all-map P Q f [] h = tt
all-map P Q f (x ∷ xs) h = (f x h.0, all-map P Q f xs h.1)

pub adds_one : (old new : Table) (before after : List StackEntry) (e : StackEntry) → after ≡ before ++ e ∷ []
    → new.content ≡ old.content → IsWider old.room new.room → IsReady new.room e
    → Adds old new before after (write_of e ∷ [])
adds_one old new before after e is same wider ready = record {
  content = same;
  wider = wider;
  written = ap (map write_of) is ∙ map-append write_of before (e ∷ []);
  ready = λ all. subst (AllByRecursion (IsReady new.room)) (sym is)
      (all-append (IsReady new.room) before (e ∷ [])
      (all-map (IsReady old.room) (IsReady new.room) (λ x h. IsReady-wider old.room new.room x wider h) before all)
      (ready, tt));
}

pub adds_none : (old new : Table) (es : List StackEntry) → Opens old new → Adds old new es es []
adds_none old new es opens = record {
  content = opens.content;
  wider = opens.wider;
  written = sym (append-nil (map write_of es));
  ready = λ all. all-map (IsReady old.room) (IsReady new.room)
      (λ x h. IsReady-wider old.room new.room x opens.wider h) es all;
}

IsWider-then : (a b c : Room) → IsWider a b → IsWider b c → IsWider a c
IsWider-then a b c v w = record {
  slots = λ id h. w.slots id (v.slots id h);
  texts = λ p h. w.texts p (v.texts p h);
  hilites = λ p h. w.hilites p (v.hilites p h);
}

pub adds_then : (a b c : Table) (es fs gs : List StackEntry) (ws vs : List StackWrite) → Adds a b es fs ws
    → Adds b c fs gs vs → Adds a c es gs (ws ++ vs)
adds_then a b c es fs gs ws vs one two = record {
  content = two.content ∙ one.content;
  wider = IsWider-then a.room b.room c.room one.wider two.wider;
  written = two.written ∙ ap (λ l. l ++ vs) one.written ∙ append_assoc (map write_of es) ws vs;
  ready = λ h. two.ready (one.ready h);
}

-- ---- room that grows

pub opens_nothing : (t : Table) → Opens t t
opens_nothing t = record { content = refl; wider = IsWider-same t.room }

pub opens_slot : (old new : Table) (id : ℕ)
    → new ≡ record old { room = record old.room { slots = insert old.room.slots id } } → Opens old new
opens_slot old new id e = record {
  content = ap (λ t. t.content) e;
  wider = subst (λ t. IsWider old.room t.room) (sym e)
      (IsWider-slot old.room id);
}

pub opens_text : (old new : Table) (p : Pair)
    → new ≡ record old { room = record old.room { texts = insert old.room.texts p } } → Opens old new
opens_text old new p e = record {
  content = ap (λ t. t.content) e;
  wider = subst (λ t. IsWider old.room t.room) (sym e)
      (IsWider-text old.room p);
}

pub opens_hilite : (old new : Table) (p : Pair)
    → new ≡ record old { room = record old.room { hilites = insert old.room.hilites p } } → Opens old new
opens_hilite old new p e = record {
  content = ap (λ t. t.content) e;
  wider = subst (λ t. IsWider old.room t.room)
      (sym e) (IsWider-hilite old.room p);
}

pub opens_texts : (old new : Table) (fields : List ℕ) (card : ℕ)
    → new ≡ record old { room = record old.room { texts = with_parts old.room.texts fields card } } → Opens old new
opens_texts old new fields card e = record {
  content = ap (λ t. t.content) e;
  wider = subst (λ t. IsWider old.room t.room) (sym e) (record {
    slots = λ id h. h;
    texts = λ p h. with_parts-wider old.room.texts fields card p h;
    hilites = λ p h. h;
  });
}

pub opens_hilites : (old new : Table) (buttons : List ℕ) (card : ℕ)
    → new ≡ record old { room = record old.room { hilites = with_parts old.room.hilites buttons card } } → Opens old new
opens_hilites old new buttons card e = record {
  content = ap (λ t. t.content) e;
  wider = subst (λ t. IsWider old.room t.room) (sym e) (record {
    slots = λ id h. h;
    texts = λ p h. h;
    hilites = λ p h. with_parts-wider old.room.hilites buttons card p h;
  });
}
