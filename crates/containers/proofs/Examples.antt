-- Worked examples, which check the definitions: names, edits, and a stack with a field 3 on background 1, whose one
-- card is 2; card 4 is on another background.
use Rattle.std.proofs.Common.{◌≡◌, ℕ, Bool, true, false, List, [], ◌∷◌, codes, Some, None, Ok, Err, refl, pos}
use Rattle.std.specs.Ordering.{nat_cmp}
use Rattle.std.specs.FinMap.{from_sorted, empty, get, find, get-from_sorted}
use Rattle.ht_values.specs.declared.fault.Fault.TheVariants as fault
use Rattle.ht_values.specs.declared.operator.Op.TheVariants as op
use Rattle.ht_values.specs.declared.word.ChunkKind.{ChunkKind}
use Rattle.ht_values.specs.declared.word.ChunkKind.TheVariants as kind
use Rattle.ht_values.specs.declared.word.Where.TheVariants as place
use Rattle.std.specs.Fmt.{digits}
use Rattle.ht_values.specs.Number.{number_of}
use Rattle.ht_values.specs.Operators.{binary}
use Rattle.chunks.specs.declared.chunk.Chunk.{Chunk}
use Rattle.chunks.specs.declared.chunk.Index.TheVariants as index
use Rattle.chunks.specs.Change.{put, removed}
use Rattle.chunks.specs.Pieces.{count, found, spans}
use Rattle.object_table.specs.Content.{Content}
use Rattle.object_table.specs.Empty.{empty_object}
use Rattle.object_table.specs.Pairs.{pair_cmp, Pair}
use Rattle.object_table.specs.declared.object.Kind.TheVariants.{BackgroundField}
use Rattle.object_table.specs.declared.object.Object.{Object}
use Rattle.containers.specs.declared.edit.Edit.TheVariants.{Put, Alter, Delete}
use Rattle.containers.specs.Edits.{edited}
use Rattle.containers.specs.Places.{global, own, field_text, named, text_met}
use Rattle.containers.specs.Variables.{VariablesView, own_value, with_local}

-- `unfolding computing` opens the definitions that a literal computes through
unfoldable pub computing : Unit {0}
unfolding count found put removed spans binary number_of digits
computing = tt

abbrev one : ChunkKind → ℕ → Chunk
one k n = record { kind = k; from = index.At (pos n); to = index.At (pos n) }

put_past_the_last_item : edited 44 (one kind.Item 3 ∷ []) (Put place.Into (codes "x")) [] ≡ Ok (Some (codes ",,x"))
unfolding computing
put_past_the_last_item = refl

put_after_the_whole : edited 44 [] (Put place.After (codes "b")) (codes "a") ≡ Ok (Some (codes "ab"))
put_after_the_whole = refl

add_to_nothing : edited 44 [] (Alter op.Add (codes "2")) [] ≡ Ok (Some (codes "2"))
unfolding computing
add_to_nothing = refl

subtract_from_an_item : edited 44 (one kind.Item 2 ∷ []) (Alter op.Subtract (codes "2")) (codes "1,9")
    ≡ Ok (Some (codes "1,7"))
unfolding computing
subtract_from_an_item = refl

computes_before_it_puts : edited 44 (one kind.Item 0 ∷ []) (Alter op.Add (codes "x")) (codes "1") ≡ Err fault.NotANumber
unfolding computing
computes_before_it_puts = refl

delete_an_item : edited 44 (one kind.Item 1 ∷ []) Delete (codes "a,b") ≡ Ok (Some (codes "b"))
unfolding computing
delete_an_item = refl

delete_what_is_not_there : edited 44 (one kind.Item 3 ∷ []) Delete (codes "a,b") ≡ Ok None
unfolding computing
delete_what_is_not_there = refl

abbrev handler : VariablesView
handler = record { all_global = false; locals = [] }

name_in_a_typed_line : named (record { all_global = true; locals = [] }) (codes "Sum") ≡ global (codes "sum")
name_in_a_typed_line = refl

name_in_a_handler : named handler (codes "Sum") ≡ own (codes "Sum")
name_in_a_handler = refl

name_that_is_declared : named (with_local (with_local handler (codes "sum") (Some (codes "1"))) (codes "SUM") None)
    (codes "Sum") ≡ global (codes "sum")
name_that_is_declared = refl

names_that_are_the_same_are_one : own_value
    (with_local (with_local handler (codes "sum") (Some (codes "1"))) (codes "SUM") (Some (codes "2"))) (codes "Sum")
    ≡ Some (codes "2")
names_that_are_the_same_are_one = refl

abbrev objects : Bool → List (ℕ × Object)
objects shared = (3, empty_object (BackgroundField true false shared)) ∷ []

abbrev texts : List (Pair × List ℕ)
texts = ((3, 0), codes "all") ∷ ((3, 2), codes "own") ∷ []

abbrev with_field : Bool → Content
with_field shared = record {
  objects = from_sorted (objects shared);
  backgrounds = [];
  cards = [];
  parts = empty;
  texts = from_sorted texts;
  hilites = empty;
  next = 5;
}

field_found : (shared : Bool) → get (from_sorted {R = nat_cmp} (objects shared)) 3
    ≡ Some (empty_object (BackgroundField true false shared))
field_found shared = get-from_sorted nat_cmp (objects shared) 3 tt

text_found : (p : Pair) → get (from_sorted {R = pair_cmp} texts) p ≡ find pair_cmp p texts
text_found p = get-from_sorted pair_cmp texts p tt

own_text : text_met (with_field false) 3 2 ≡ Ok (field_text 3 2)
own_text = simp (text_found, field_found) refl

shared_text : text_met (with_field true) 3 2 ≡ Ok (field_text 3 0)
shared_text = simp (text_found, field_found) refl

field_elsewhere : text_met (with_field false) 3 4 ≡ Err fault.NoSuchObject
field_elsewhere = simp (text_found, field_found) refl

shared_field_elsewhere : text_met (with_field true) 3 4 ≡ Err fault.NoSuchObject
shared_field_elsewhere = simp (text_found, field_found) refl
