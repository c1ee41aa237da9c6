-- Commands and dot lines, computed.
use Rattle.std.specs.Prelude.{ℕ, List, [], ◌∷◌, is_some, Ok}
use Rattle.ht_grammar.specs.declared.vocabulary.HandlerKind.TheVariants.{Command}
use Rattle.ht_grammar.specs.Statements as stm
use Rattle.ht_grammar.specs.Trees as tree
use Rattle.object_table.specs.Objects.{object_at}
use Rattle.object_references.specs.declared.referent.Referent.{Referent}
use Rattle.object_references.specs.References.{met_here}
use Rattle.meaning.specs.declared.system.SystemMessage.{SystemMessage}
use Rattle.meaning.specs.declared.system.SystemMessage.TheVariants.{MouseDown, MouseUp, OpenField}
use Rattle.meaning.specs.Actions as act
use Rattle.meaning.specs.Actions.{Action, opening_stack, locks_text, leaving_message}
use Rattle.meaning.specs.Menu.{message_name}
use Rattle.meaning.specs.Places.{field_place, field_text}
use Rattle.meaning.specs.State.{RunState, typed_frame_at}
use Rattle.definitional_interpreter.specs.Told.{Visible, Told, unknown, told, after, after_lines, choose, computed}
use Rattle.definitional_interpreter.specs.Changes.{store}
use Rattle.definitional_interpreter.specs.Families.{Meanings}

abbrev pub line_of : Meanings → Visible → RunState → stm.Stmts → Told (Unit {0})
line_of m w r ss =
    after_lines (m.block w r (typed_frame_at w.now.current) 0 ss) (λ _ w r. told (Ok tt) w r)

abbrev pub message_of : Meanings → Visible → RunState → ℕ → List ℕ → List (List ℕ) → Told (Unit {0})
message_of m w r i n vs =
    after (m.sends w r (typed_frame_at w.now.current) 0 i n vs Command) (λ _ w r. told (Ok tt) w r)

-- ---- dot lines that send messages

abbrev pub refers_of : Meanings → Visible → RunState → tree.Part → Told ℕ
refers_of m w r pa =
    after (m.part_met w r (typed_frame_at w.now.current) 0 pa) (λ met w r. told (Ok met.object) w r)

abbrev pub tells_of : Meanings → Visible → RunState → ℕ → SystemMessage → Told (Unit {0})
tells_of m w r i message =
    choose r.lock_messages (λ _. told (Ok tt) w r) (λ _. m.message w r i (message_name message) [])

abbrev pub tells_all_of : Meanings → Visible → RunState → List SystemMessage → Told (Unit {0})
tells_all_of m w r [] = told (Ok tt) w r
tells_all_of m w r (message ∷ messages) =
    after (m.tells w r w.now.current message) (λ _ w r. m.tells_all w r messages)

abbrev pub clicks_of : Meanings → Visible → RunState → tree.Part → Told (Unit {0})
clicks_of m w r pa =
    after (m.refers w r pa) (λ i w r. after (m.tells w r i MouseDown)
    (λ _ w r. choose (is_some (object_at w.now.stack i)) (λ _. m.tells w r i MouseUp) (λ _. told (Ok tt) w r)))

abbrev pub types_over_of : Meanings → Visible → RunState → Referent → List ℕ → Told (Unit {0})
types_over_of m w r o t =
    computed (field_text w.now (typed_frame_at w.now.current).variables r.delimiter o)
    (λ old. computed (field_place w.now o)
    (λ p. after_lines (store w r (typed_frame_at w.now.current) p.storage t)
    (λ _ w r. m.tells w r o.object (leaving_message old t)))
    (λ _. unknown))
    (λ _. told (Ok tt) w r)

-- a locked field takes no text: the program refuses it before the run
abbrev pub types_into_of : Meanings → Visible → RunState → List ℕ → tree.Part → Told (Unit {0})
types_into_of m w r t pa =
    after (m.refers w r pa) (λ i w r. choose (locks_text w.now.stack i)
    (λ _. unknown)
    (λ _. after (m.tells w r i OpenField) (λ _ w2 r. m.types_over w2 r (met_here w.now.current i) t)))

abbrev pub acts_of : Meanings → Visible → RunState → Action → Told (Unit {0})
acts_of m w r (act.run_lines ss) = m.line w r ss
acts_of m w r act.open_stack = m.tells_all w r opening_stack
acts_of m w r (act.click pa) = m.clicks w r pa
acts_of m w r (act.type_text t pa) = m.types_into w r t pa
