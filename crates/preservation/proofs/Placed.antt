-- The place of a container names a global by its folded name.
use Rattle.std.proofs.Common.{◌≡◌, ℕ, List, [], Result, Ok, Err, IfOk, Bool, true, false, if◌then◌else◌, sym, subst}
use Rattle.ht_values.specs.declared.fault.Fault.{Fault}
use Rattle.ht_values.specs.declared.fault.Fault.TheVariants.{NoSuchObject}
use Rattle.ht_values.specs.Outcome.{and_then}
use Rattle.ht_values.specs.Text.{folded, is_folded}
use Rattle.ht_values.proofs.Folding.{folded_is_folded}
use Rattle.ht_grammar.specs.Trees as tree
use Rattle.chunks.specs.declared.chunk.Chunk.{Chunk}
use Rattle.journal_entries.specs.State.{State}
use Rattle.change_journal.specs.History.{History}
use Rattle.object_references.specs.declared.referent.Referent.{Referent}
use Rattle.object_references.specs.References.{field_named}
use Rattle.containers.specs.Places.{StorageView, PlaceView, global, own, field_text, named, keeps_for, is_shared, whole}
use Rattle.containers.specs.Variables.{VariablesView, is_global}
use Rattle.meaning.specs.declared.end.Stop.{Stop}
use Rattle.meaning.specs.declared.frame.Frame.{Frame}
use Rattle.meaning.specs.Meaning.{Resolves}
use Rattle.meaning.specs.Places.{field_place, field_named_place, layer_of_field, chunk_of_place}
use Rattle.meaning.specs.State.{RunState}
use Rattle.meaning.specs.Values.{Yields}

abbrev pub IsPlaced : StorageView → Type 0
IsPlaced (global name) = is_folded name ≡ true
IsPlaced _ = Unit {0}

abbrev IfPlaced : {E : Type 0} → Result PlaceView E → Type 0
IfPlaced o = IfOk o (λ p. IsPlaced p.storage)

pub placed_variable : (v : VariablesView) (name : List ℕ) → IsPlaced (named v name)
placed_variable v name = by (is_global v name)
  where
    by : (b : Bool) → IsPlaced (if b then global (folded name) else own name)
    by true = folded_is_folded name
    by false = tt

-- What holds of each text of a field holds where a place is one.
module _ (Holds : StorageView → Type 0) (of_fields : (field card : ℕ) → Holds (field_text field card)) where
  abbrev IfHolds : Result PlaceView Fault → Type 0
  IfHolds o = IfOk o (λ p. Holds p.storage)

  pub of_field : (s : State) (m : Referent) → IfOk (field_place s m) (λ p. Holds p.storage)
  of_field s m = by (keeps_for s.stack m.object m.card)
    where
      by : (b : Bool) → IfHolds
          (and_then (if b then Ok (field_text m.object (if is_shared s.stack m.object then 0 else m.card)) else Err
          NoSuchObject) (λ h. Ok (record { storage = h; chunks = [] })))
      by true = of_fields m.object (if is_shared s.stack m.object then 0 else m.card)
      by false = tt

  pub of_field_named : (s : State) (v : VariablesView) (b : Bool) (name : List ℕ)
      → IfOk (field_named_place s v b name) (λ p. Holds p.storage)
  of_field_named s v b name = by (field_named s.stack s.current (layer_of_field b) name)
    where
      filled : (p : PlaceView) (t : Result (List ℕ) Fault) → Holds p.storage → IfHolds (and_then t (λ u. Ok p))
      filled p (Ok u) h = h
      filled p (Err fault) h = tt

      at : (r : Result PlaceView Fault) → IfHolds r
          → IfHolds (and_then r (λ p. and_then (whole s v p.storage) (λ t. Ok p)))
      at (Ok p) h = filled p (whole s v p.storage) h
      at (Err fault) h = tt

      by : (r : Result Referent Fault) → IfHolds (and_then r (λ m. and_then (field_place s m)
          (λ p. and_then (whole s v p.storage) (λ t. Ok p))))
      by (Ok m) = at (field_place s m) (of_field s m)
      by (Err fault) = tt

placed_field : (s : State) (m : Referent) → IfPlaced (field_place s m)
placed_field s m = of_field IsPlaced (λ field card. tt) s m

yields_placed : {c : Result PlaceView Fault} {o : Result PlaceView Stop} → IfPlaced c → Yields c o → IfPlaced o
yields_placed h Yields.yields_memory = tt
yields_placed h (Yields.yields is) = subst IfPlaced is h
yields_placed h (Yields.faults _) = tt

pub placed_at : {p : PlaceView} (s : State) (m : Referent) → field_place s m ≡ Ok p → IsPlaced p.storage
placed_at s m is = subst IfPlaced is (placed_field s m)

pub placed_by_name : {p : PlaceView} (s : State) (v : VariablesView) (b : Bool) (name : List ℕ)
    → Yields (field_named_place s v b name) (Ok p) → IsPlaced p.storage
placed_by_name s v b name found = yields_placed (of_field_named IsPlaced (λ field card. tt) s v b name) found

pub placed_part : {q : PlaceView} (p : PlaceView) (c : Chunk) → q ≡ chunk_of_place p c → IsPlaced p.storage
    → IsPlaced q.storage
placed_part p c is h = subst (λ (x : PlaceView). IsPlaced x.storage) (sym is) h

pub placed : {w w2 : History} {r r2 : RunState} {f : Frame} {d : ℕ} {ct : tree.Container} {o : Result PlaceView Stop}
    → Resolves w r f d ct o w2 r2 → IfPlaced o
placed Resolves.place_memory = tt
placed {f = f} (Resolves.place_variable {n = n} _ is) =
    subst (λ (x : PlaceView). IsPlaced x.storage) (sym is) (placed_variable f.variables n)
placed (Resolves.place_field_stops _ _) = tt
placed (Resolves.place_field {w1 = w1} {m = m} _ _ found) = yields_placed (placed_field w1.now m) found
placed (Resolves.place_chunk_stops _ _) = tt
placed (Resolves.place_chunk_of_stops _ _ _) = tt
placed (Resolves.place_chunk {c = c} {pl = pl} _ _ inner is) = placed_part pl c is (placed inner)
