-- Expressions, chunks, containers and references, computed. Each function says what one part comes to, and asks the
-- meanings `m` of its parts.
use Rattle.std.specs.Prelude.{ℕ, ◌+◌, ℤ, pos, List, [], ◌∷◌, ◌++◌, length, nat_lt, Bool, not, Ok, Err}
use Rattle.ht_values.specs.declared.fault.Fault.TheVariants.{TooDeep}
use Rattle.ht_values.specs.declared.word.Prop.TheVariants.{Number}
use Rattle.ht_values.specs.Functions.{built_in}
use Rattle.ht_values.specs.Number.{number_of}
use Rattle.ht_values.specs.Operators.{binary, unary, truth_of, word_of}
use Rattle.ht_values.specs.Text.{numeral}
use Rattle.ht_lex.specs.Constants.{constant_text}
use Rattle.ht_grammar.specs.declared.vocabulary.HandlerKind.TheVariants.{Function}
use Rattle.ht_grammar.specs.declared.vocabulary.Layer.{Layer}
use Rattle.ht_grammar.specs.Functions.{func_of}
use Rattle.ht_grammar.specs.Reading.{expression}
use Rattle.ht_grammar.specs.Statements as stm
use Rattle.ht_grammar.specs.Trees as tree
use Rattle.chunks.specs.declared.chunk.Chunk.{Chunk}
use Rattle.chunks.specs.Pieces.{count, read}
use Rattle.properties.specs.PropertyText.{property_of}
use Rattle.object_references.specs.declared.referent.PartScope.{PartScope}
use Rattle.object_references.specs.declared.referent.Pick.{Pick}
use Rattle.object_references.specs.declared.referent.Pick.TheVariants as pick
use Rattle.object_references.specs.declared.referent.Referent.{Referent}
use Rattle.object_references.specs.declared.referent.Sought.{Sought}
use Rattle.object_references.specs.declared.referent.Sought.TheVariants as sought
use Rattle.object_references.specs.References.{card_found, first_card_found, met_here, met_if_there, card_met}
use Rattle.object_references.specs.References.{background_met, layer_meant, scope_by, scope_of_card}
use Rattle.object_references.specs.References.{scope_of_background, part_met}
use Rattle.object_references.specs.Settings.{name_of, parts_here}
use Rattle.containers.specs.Places.{PlaceView, read_name}
use Rattle.meaning.specs.declared.frame.Frame.{Frame}
use Rattle.meaning.specs.declared.end.Stop.TheVariants.{Fault as Faults}
use Rattle.meaning.specs.Places.{pieces_at, nth_piece, variable_place, field_place, field_text, chunk_of_place}
use Rattle.meaning.specs.State.{RunState, run_property}
use Rattle.definitional_interpreter.specs.Told.{Visible, Told, told, after, choose, maybe, there}
use Rattle.definitional_interpreter.specs.Changes.{yielded, step}
use Rattle.definitional_interpreter.specs.Texts.{parsed}
use Rattle.definitional_interpreter.specs.Families.{Meanings}

-- ---- expressions

abbrev pub number_of_count : Meanings → Visible → RunState → Frame → ℕ → tree.Count → Told (List ℕ)
number_of_count m w r f d (tree.pieces_of kind x) =
    after (m.val w r f d x) (λ p w r. told (Ok (numeral (pos (count r.delimiter kind p)))) w r)
number_of_count m w r f d tree.cards = told (Ok (numeral (pos (length w.now.stack.cards)))) w r
number_of_count m w r f d tree.backgrounds = told (Ok (numeral (pos (length w.now.stack.backgrounds)))) w r
number_of_count m w r f d (tree.parts layer kind) =
    told (Ok (numeral (pos (length (parts_here w.now.stack w.now.current layer kind))))) w r
number_of_count m w r f d (tree.of_object ref) =
    after (m.meets w r f d ref) (λ o w r. told (yielded (property_of w.now.stack o.card o.object Number)) w r)

abbrev pub val_of : Meanings → Visible → RunState → Frame → ℕ → tree.Expr → Told (List ℕ)
val_of m w r f d (tree.number v) = told (Ok v) w r
val_of m w r f d (tree.quoted v) = told (Ok v) w r
val_of m w r f d (tree.constant c) = told (Ok (constant_text c)) w r
val_of m w r f d tree.return_ = told (Ok (13 ∷ [])) w r
val_of m w r f d (tree.name n) = told (Ok (read_name w.now f.variables n)) w r
val_of m w r f d (tree.paren x) = m.val w r f d x
val_of m w r f d (tree.unary un x) = after (m.val w r f d x) (λ p w r. told (yielded (unary un p)) w r)
val_of m w r f d (tree.binary op x y) =
    after (m.val w r f d x) (λ p w r. after (m.val w r f d y) (λ q w r. told (yielded (binary op p q)) w r))
val_of m w r f d (tree.there_is denied ref) =
    there (m.meets w r f d ref) (λ is. choose is (λ _. word_of (not denied)) (λ _. word_of denied))
val_of m w r f d (tree.chunk head x) =
    after (m.chunk_of w r f d head) (λ c w r. after (m.val w r f d x) (λ p w r. told (Ok (read r.delimiter c p)) w r))
val_of m w r f d (tree.field pa) =
    after (m.part_met w r f d pa) (λ o w r. told (yielded (field_text w.now f.variables r.delimiter o)) w r)
val_of m w r f d tree.result = told (Ok r.result) w r
val_of m w r f d tree.target = told (yielded (name_of w.now.stack w.now.current f.target)) w r
val_of m w r f d (tree.number_of c) = number_of_count m w r f d c
val_of m w r f d (tree.property p ref) =
    after (m.meets w r f d ref) (λ o w r. told (yielded (property_of w.now.stack o.card o.object p)) w r)
val_of m w r f d (tree.run_property p) = told (Ok (run_property r p)) w r
val_of m w r f d (tree.function word x) =
    after (m.val w r f d x)
    (λ p w r. maybe (func_of word) (λ fu. told (yielded (built_in fu (p ∷ []))) w r) (λ _. m.text_val w r f d p))
val_of m w r f d (tree.call n es) = m.calls w r f d f.me n es Function

abbrev pub vals_of : Meanings → Visible → RunState → Frame → ℕ → tree.Exprs → List (List ℕ) → Told (List (List ℕ))
vals_of m w r f d tree.none vs = told (Ok vs) w r
vals_of m w r f d (tree.more x xs) vs = after (m.val w r f d x) (λ v w r. m.vals w r f d xs (vs ++ v ∷ []))

abbrev pub number_val_of : Meanings → Visible → RunState → Frame → ℕ → tree.Expr → Told ℤ
number_val_of m w r f d x = after (m.val w r f d x) (λ p w r. told (yielded (number_of p)) w r)

abbrev pub truth_val_of : Meanings → Visible → RunState → Frame → ℕ → tree.Expr → Told Bool
truth_val_of m w r f d x = after (m.val w r f d x) (λ p w r. told (yielded (truth_of p)) w r)

-- `value`: a step, then the depth, then the text
abbrev pub text_val_of : Meanings → Visible → RunState → Frame → ℕ → List ℕ → Told (List ℕ)
text_val_of m w r f d t =
    after (step w r)
    (λ _ w r. choose (nat_lt d 100) (λ _. after (told (parsed expression t) w r) (λ e w r. m.val w r f (d + 1) e))
    (λ _. told (Err (Faults TooDeep)) w r))

-- ---- chunks and containers

abbrev pub chunk_of_of : Meanings → Visible → RunState → Frame → ℕ → tree.Chunk → Told Chunk
chunk_of_of m w r f d (tree.piece kind x) = after (m.number_val w r f d x) (λ u w r. told (Ok (pieces_at kind u u)) w r)
chunk_of_of m w r f d (tree.pieces kind x y) =
    after (m.number_val w r f d x)
    (λ u w r. after (m.number_val w r f d y) (λ v w r. told (Ok (pieces_at kind u v)) w r))
chunk_of_of m w r f d (tree.nth_piece od kind) = told (Ok (nth_piece od kind)) w r

abbrev pub resolves_of : Meanings → Visible → RunState → Frame → ℕ → tree.Container → Told PlaceView
resolves_of m w r f d (tree.variable n) = told (Ok (variable_place f.variables n)) w r
resolves_of m w r f d (tree.in_field pa) =
    after (m.part_met w r f d pa) (λ o w r. told (yielded (field_place w.now o)) w r)
resolves_of m w r f d (tree.in_chunk head ct) =
    after (m.chunk_of w r f d head)
    (λ c w r. after (m.resolves w r f d ct) (λ p w r. told (Ok (chunk_of_place p c)) w r))

-- ---- references

abbrev pub picks_of : Meanings → Visible → RunState → Frame → ℕ → tree.Which → Told Pick
picks_of m w r f d (tree.by_id x) = after (m.val w r f d x) (λ t w r. told (Ok (pick.ById t)) w r)
picks_of m w r f d (tree.by_text x) = after (m.val w r f d x) (λ t w r. told (Ok (pick.ByText t)) w r)

abbrev pub seeks_of : Meanings → Visible → RunState → Frame → ℕ → tree.Selector → Told Sought
seeks_of m w r f d tree.this = told (Ok sought.This) w r
seeks_of m w r f d tree.next = told (Ok sought.Next) w r
seeks_of m w r f d tree.previous = told (Ok sought.Previous) w r
seeks_of m w r f d (tree.nth od) = told (Ok (sought.Picked (pick.Nth od))) w r
seeks_of m w r f d (tree.which wh) = after (m.picks w r f d wh) (λ p w r. told (Ok (sought.Picked p)) w r)

abbrev pub owns_of : Meanings → Visible → RunState → Frame → ℕ → Layer → tree.Owner → Told PartScope
owns_of m w r f d layer tree.no_owner = told (Ok (scope_by w.now.stack layer w.now.current)) w r
owns_of m w r f d layer (tree.on_card sl) =
    after (m.seeks w r f d sl) (λ s w r. told (yielded (scope_of_card w.now.stack w.now.current layer s)) w r)
owns_of m w r f d layer (tree.on_background sl) =
    after (m.seeks w r f d sl) (λ s w r. told (yielded (scope_of_background w.now.stack w.now.current layer s)) w r)

abbrev pub part_met_of : Meanings → Visible → RunState → Frame → ℕ → tree.Part → Told Referent
part_met_of m w r f d (tree.part layer kind wh owner) =
    after (m.picks w r f d wh)
    (λ p w r. after (m.owns w r f d (layer_meant layer kind) owner)
    (λ s w r. told (yielded (part_met w.now.stack kind s p)) w r))
part_met_of m w r f d (tree.nth_part od layer kind owner) =
    after (m.owns w r f d (layer_meant layer kind) owner)
    (λ s w r. told (yielded (part_met w.now.stack kind s (pick.Nth od))) w r)

abbrev pub meets_of : Meanings → Visible → RunState → Frame → ℕ → tree.Ref → Told Referent
meets_of m w r f d tree.me = told (yielded (met_if_there w.now.stack w.now.current f.me)) w r
meets_of m w r f d tree.the_target = told (yielded (met_if_there w.now.stack w.now.current f.target)) w r
meets_of m w r f d tree.this_stack = told (Ok (met_here w.now.current 0)) w r
meets_of m w r f d (tree.card sl) =
    after (m.seeks w r f d sl) (λ s w r. told (yielded (card_met w.now.stack w.now.current s)) w r)
meets_of m w r f d (tree.background sl) =
    after (m.seeks w r f d sl) (λ s w r. told (yielded (background_met w.now.stack w.now.current s)) w r)
meets_of m w r f d (tree.a_part pa) = m.part_met w r f d pa

abbrev pub leads_of : Meanings → Visible → RunState → Frame → ℕ → stm.Destination → Told ℕ
leads_of m w r f d (stm.to_card sl) =
    after (m.seeks w r f d sl) (λ s w r. told (yielded (card_found w.now.stack w.now.current s)) w r)
leads_of m w r f d (stm.to_background sl) =
    after (m.seeks w r f d sl) (λ s w r. told (yielded (first_card_found w.now.stack w.now.current s)) w r)
