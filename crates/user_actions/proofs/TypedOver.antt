-- A text that is typed over another, by what its calls gave.
use Rattle.std.proofs.Common.{◌≡◌, ℕ, List, Result, Ok, Err, refl, sym, ap, subst, ◌∙◌, IsOk}
use Rattle.ht_values.specs.declared.fault.Fault.{Fault}
use Rattle.ht_values.specs.Outcome.{and_then}
use Rattle.change_journal.specs.History.{History}
use Rattle.containers.specs.Edits.{read_at}
use Rattle.containers.specs.Places.{PlaceView, whole}
use Rattle.object_references.specs.declared.referent.Referent.{Referent}
use Rattle.meaning.specs.Actions.{leaving_message}
use Rattle.meaning.specs.declared.end.Stop.{Stop}
use Rattle.meaning.specs.declared.end.Stop.TheVariants as stop
use Rattle.meaning.specs.declared.frame.Frame.{Frame}
use Rattle.meaning.specs.declared.system.SystemMessage.{SystemMessage}
use Rattle.meaning.specs.Meaning.{TypesOver, Tells}
use Rattle.meaning.specs.Places.{Stores, field_place, field_text}
use Rattle.meaning.specs.State.{RunState, typed_frame}
use Rattle.meaning.specs.Values.{Yields, yields, faults}

yielded : {A : Type 0} {c : Result A Fault} {a : A} → Yields c (Ok a) → c ≡ Ok a
yielded (yields is) = is

failed : {A : Type 0} {c : Result A Fault} {z : Stop} {n : Fault} → z ≡ stop.Fault n → Yields c (Err z) → c ≡ Err n
failed {c} is y = of_fault (subst (λ z. Yields c (Err z)) is y)
  where
    of_fault : {n : Fault} → Yields c (Err (stop.Fault n)) → c ≡ Err n
    of_fault (faults e) = e

was_read : (pieces : List ℕ → List ℕ) (old : List ℕ) (u : Result (List ℕ) Fault)
    → and_then u (λ x. Ok (pieces x)) ≡ Ok old → IsOk u
was_read pieces old (Ok x) is = refl
was_read pieces old (Err n) is = cc

module _ (w : History) (r : RunState) (m : Referent) (t : List ℕ) (f : Frame) (typed : f ≡ typed_frame w) where
  -- the field or the card is gone
  pub goes_without_place : (z : Stop) (n : Fault) → z ≡ stop.Fault n → Yields (field_place w.now m) (Err z)
      → TypesOver w r m t (Ok tt) w r
  goes_without_place z n is place =
      TypesOver.typed_field_goes typed
      (ap (λ (p : Result PlaceView Fault). and_then p (λ q. read_at w.now f.variables r.delimiter q))
      (failed is place))

  pub goes_without_text : (z : Stop) (n : Fault) → z ≡ stop.Fault n
      → Yields (field_text w.now f.variables r.delimiter m) (Err z) → TypesOver w r m t (Ok tt) w r
  goes_without_text z n is text = TypesOver.typed_field_goes typed (failed is text)

  module _ (old t1 : List ℕ) (place : PlaceView) (text : Yields (field_text w.now f.variables r.delimiter m) (Ok old))
      (found : Yields (field_place w.now m) (Ok place)) (same : t1 ≡ t) where
    -- a text that was read stands at its place
    pub stands : IsOk (whole w.now f.variables place.storage)
    stands =
        let read = ap (λ (p : Result PlaceView Fault). and_then p (λ q. read_at w.now f.variables r.delimiter q))
        (yielded found) in
        was_read _ old (whole w.now f.variables place.storage) (sym read ∙ yielded text)

    pub types : (w1 w2 : History) (f1 : Frame) (r1 : RunState) (message : SystemMessage) (end : Result (Unit {0}) Stop)
        → Stores w f place.storage t1 w1 f1
        → message ≡ leaving_message old t → Tells w1 r m.object message end w2 r1 → TypesOver w r m t end w2 r1
    types w1 w2 f1 r1 message end stored leaves told =
        TypesOver.types_over typed (yielded text) (yielded found)
        (subst (λ (u : List ℕ). Stores w f place.storage u w1 f1) same stored) refl leaves told
