-- What a user does beside typing HyperTalk: a stack is opened, a part is clicked, a text is typed into a field.
use Rattle.std.specs.Prelude.{ℕ, List, [], ◌∷◌, Bool, false, bytes_eq, unwrap_or, if◌then◌else◌}
use Rattle.ht_grammar.specs.Statements.{Stmts}
use Rattle.ht_grammar.specs.Trees.{Part}
use Rattle.object_table.specs.Content.{Content}
use Rattle.object_table.specs.Flags.{lock_text_of}
use Rattle.object_table.specs.Objects.{has_kind}
use Rattle.meaning.specs.declared.system.SystemMessage.{SystemMessage}
use Rattle.meaning.specs.declared.system.SystemMessage.TheVariants as system

-- a command of a user: lines of HyperTalk, `.open`, `.click` or `.type`
pub data Action : Type 0 where
  run_lines : Stmts → Action
  open_stack : Action
  click : Part → Action
  type_text : List ℕ → Part → Action

-- the messages of `.open`
abbrev pub opening_stack : List SystemMessage
opening_stack = system.OpenStack ∷ system.OpenBackground ∷ system.OpenCard ∷ []

-- a field whose text is locked against typing
abbrev pub locks_text : Content → ℕ → Bool
locks_text s field = has_kind (λ kind. unwrap_or (lock_text_of kind) false) s field

-- the message after a text was typed over another: whether a byte changed tells which
abbrev pub leaving_message : List ℕ → List ℕ → SystemMessage
leaving_message old new = if bytes_eq old new then system.ExitField else system.CloseField
