-- A desk in memory, as its calls show it.
use Rattle.std.specs.Prelude.{ℕ, Bool, List, Option, Some, None, if◌then◌else◌}
use Rattle.devices.specs.declared.desk.HeardMessage.{HeardMessage}
use Rattle.devices.specs.declared.shelf.Shelf.{Shelf}

-- the text that it keeps
abbrev pub text_on : Shelf → List ℕ
text_on s = s.text.items

-- the messages that it remembers
abbrev pub messages_on : Shelf → List HeardMessage
messages_on s = s.messages.items

-- it was out of memory for a message
abbrev pub has_forgotten : Shelf → Bool
has_forgotten s = s.forgets

-- the messages that it heard of, where it remembers all of them
abbrev pub heard_on : Shelf → Option (List HeardMessage)
heard_on s = if has_forgotten s then None else Some (messages_on s)

-- what it heard of why lines faulted or were refused
abbrev pub explained_on : Shelf → List ℕ
explained_on s = s.explained.items

-- how many times it was asked to keep a text
abbrev pub calls_on : Shelf → ℕ
calls_on s = s.calls

-- the number of the call that is to fail, from 1
abbrev pub fails_at : Shelf → Option ℕ
fails_at s = s.fails_at

-- how many of these calls failed
abbrev pub failures_on : Shelf → ℕ
failures_on s = s.failures
