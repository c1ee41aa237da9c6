-- What a message meets after the stack: an external, what is built in, or nothing.
use Rattle.std.specs.Prelude.{ℕ, suc, Bool, true, false, not, ◌&&◌, List, [], ◌∷◌, Option, Some, None, option_map}
use Rattle.std.specs.Prelude.{if◌then◌else◌, codes}
use Rattle.std.specs.List.{list_any}
use Rattle.ht_values.specs.Text.{same}
use Rattle.ht_values.specs.Functions.{function_named}
use Rattle.ht_grammar.specs.declared.vocabulary.HandlerKind.{HandlerKind}
use Rattle.ht_grammar.specs.declared.vocabulary.HandlerKind.TheVariants.{Command, Function}
use Rattle.externals.specs.Cells.{Seen}
use Rattle.msg_path.specs.declared.built_in.BuiltIn.{BuiltIn}
use Rattle.msg_path.specs.declared.built_in.BuiltIn.TheVariants as built_in

-- whether messages of this kind are function calls
abbrev pub calls_function : HandlerKind → Bool
calls_function Command = false
calls_function Function = true

-- whether an external has this name and answers function calls, or commands
abbrev pub answers : Bool → List ℕ → Seen → Bool
answers true name e = e.answers_calls && same e.title name
answers false name e = not e.answers_calls && same e.title name

-- the number, from 0, of the external that has this name and answers function calls, or commands
abbrev pub external_named : List Seen → Bool → List ℕ → Option ℕ
external_named [] is_function name = None
external_named (e ∷ es) is_function name =
    if answers is_function name e then Some 0 else option_map suc (external_named es is_function name)

-- what is built in for messages of a kind and a name
abbrev pub built_in_named : HandlerKind → List ℕ → Option BuiltIn
built_in_named Command name = if same name (codes "doMenu") then Some built_in.DoMenu else None
built_in_named Function name =
    if same name (codes "value") then Some built_in.Value else option_map built_in.Function (function_named name)

-- the messages that the system sends, and then those that it doesn't send here
abbrev pub system_messages : List (List ℕ)
system_messages =
    codes "mouseDown" ∷ codes "mouseUp" ∷ codes "openStack" ∷ codes "openBackground" ∷ codes "openCard"
    ∷ codes "closeCard"
    ∷ codes "closeBackground" ∷ codes "newCard" ∷ codes "openField" ∷ codes "closeField" ∷ codes "exitField"
    ∷ codes "closeStack" ∷ codes "newBackground" ∷ codes "newButton" ∷ codes "newField" ∷ codes "deleteCard" ∷ []

-- whether a command with this name is ignored where nothing handles it
abbrev pub is_system_message : List ℕ → Bool
is_system_message name = list_any (λ message. same name message) system_messages
