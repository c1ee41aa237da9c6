-- Replies, and what they leave of a history or of a list of states.
use Rattle.std.specs.Prelude.{◌≡◌, ◌⊎◌, ℕ, List, [], ◌∷◌, ◌++◌, map, decimal, Option, Some, None, option_map, Result}
use Rattle.std.specs.Prelude.{Ok, Err, if◌then◌else◌}
use Rattle.std.specs.FinMap.{entries}
use Rattle.ht_parse.specs.declared.error.ParseError.{ParseError}
use Rattle.ht_parse.specs.declared.error.ParseError.TheVariants as error
use Rattle.meaning.specs.Actions.{Action}
use Rattle.stack_text.specs.declared.sheets.Version.TheVariants.{Second as second}
use Rattle.stack_text.specs.Listing.{spelling}
use Rattle.stack_text.specs.Words.{spelled}
use Rattle.ht_lex.specs.Words.{is_name}
use Rattle.journal_entries.specs.State.{State, seen_at, titles_of, index_of}
use Rattle.session.specs.Splits.{Splits}
use Rattle.session.specs.declared.reply.Refusal.{Refusal}
use Rattle.session.specs.declared.reply.Refusal.TheVariants.{NothingToUndo, NothingToRedo, BadCommand, NoMemory}
use Rattle.session.specs.declared.reply.Refusal.TheVariants.{LineTooLong, FieldLocked, SaveFailed}
use Rattle.session.specs.declared.reply.Ending.{Ending}
use Rattle.session.specs.declared.reply.Ending.TheVariants as endings
use Rattle.session.specs.declared.reply.Reply.{Reply}

-- the number under which a refusal is answered
abbrev pub number_of_refusal : Refusal → ℕ
number_of_refusal NothingToUndo = 1
number_of_refusal NothingToRedo = 2
number_of_refusal BadCommand = 3
number_of_refusal NoMemory = 4
number_of_refusal LineTooLong = 5
number_of_refusal FieldLocked = 6
number_of_refusal SaveFailed = 7

-- an answer that shows and sends nothing
abbrev pub ended : Ending → Reply
ended ending = record { shown = []; sent = []; ending = ending }

abbrev pub refused : Refusal → Reply
refused refusal = ended (endings.Refused refusal)

abbrev pub moved_reply : Result (Unit {0}) Refusal → Reply
moved_reply (Ok done) = ended endings.Ok
moved_reply (Err refusal) = refused refusal

abbrev pub shown_reply : {E : Type 0} → Result (List (List ℕ)) E → Reply
shown_reply (Ok shown) = record { shown = shown; sent = []; ending = endings.Ok }
shown_reply (Err e) = refused NoMemory

abbrev pub typed_reply : Result Reply Refusal → Reply
typed_reply (Ok reply) = reply
typed_reply (Err refusal) = refused refusal

abbrev pub refusal_of : ParseError → Refusal
refusal_of (error.Syntax place) = BadCommand
refusal_of error.Memory = NoMemory

-- why a text isn't read so: it isn't in the grammar, or memory was refused
abbrev pub IsUnread : (List ℕ → Action → Type 0) → List ℕ → Refusal → Type 0
IsUnread IsRead text BadCommand = (does : Action) → IsRead text does → ⊥
IsUnread IsRead text NoMemory = Unit {0}
IsUnread IsRead text _ = ⊥

-- a line is refused, and nothing is left of what it did
pub record Refuses {S : Type 0} (refusal : Refusal) (old : S) (reply : Reply) (new : S) : Type 0 where
  pub answer : reply ≡ refused refusal
  pub same : new ≡ old

-- A text is read as what a user does, which is done so; or it is nothing of that kind and is refused. Or it is given
-- up, for memory.
pub data Obeys {S : Type 0} (IsRead : List ℕ → Action → Type 0) (IsDone : Action → Type 0) (GivenUp : Type 0)
    (text : List ℕ) (old : S) (reply : Reply) (new : S) : Type 0 where
  obeys : {does : Action} → IsRead text does → IsDone does → Obeys IsRead IsDone GivenUp text old reply new
  nothing : ((does : Action) → IsRead text does → ⊥) → Refuses BadCommand old reply new
      → Obeys IsRead IsDone GivenUp text old reply new
  given_up : GivenUp → Obeys IsRead IsDone GivenUp text old reply new

-- the cursor moves to another place, or there is none
abbrev pub Moves : {S : Type 0} → Option S → Refusal → S → Reply → S → Type 0
Moves (Some there) refusal old reply new = (reply ≡ ended endings.Ok) × (new ≡ there)
Moves None refusal old reply new = Refuses refusal old reply new

-- a look shows these lines, and changes nothing
pub record Looks {S : Type 0} (shown : List (List ℕ)) (old : S) (reply : Reply) (new : S) : Type 0 where
  pub answer : reply ≡ record { shown = shown; sent = []; ending = endings.Ok }
  pub same : new ≡ old

-- the lines of the stack's text, as they stand
pub record ShowsStack {S : Type 0} (state : State) (old : S) (reply : Reply) (new : S) : Type 0 where
  pub lines : Splits (spelling second state.stack) reply.shown []
  pub look : Looks reply.shown old reply new

-- a name, a space and a value, spelled as a text
abbrev pub global_line : List ℕ × List ℕ → List ℕ
global_line g = spelled (g.0 ++ 32 ∷ g.1)

-- the globals in the order of their names' bytes
abbrev pub global_lines : State → List (List ℕ)
global_lines s = map global_line (entries s.globals)

-- the cells of the external that has this name; none where the name is no word for one, or no external has it
abbrev pub cells_named : State → List ℕ → Option (List (List ℕ))
cells_named s name =
    if is_name name then option_map (λ i. (seen_at s i).cells) (index_of name (titles_of s.externals)) else None

-- the cells are shown, each spelled as a text; it is no command where there is no such external
abbrev pub ShowsCells : {S : Type 0} → Option (List (List ℕ)) → S → Reply → S → Type 0
ShowsCells (Some cells) old reply new = Looks (map spelled cells) old reply new ⊎ Refuses NoMemory old reply new
ShowsCells None old reply new = Refuses BadCommand old reply new

-- the stack's text is to be kept
abbrev pub Saves : {S : Type 0} → State → S → Reply → S → Type 0
Saves s old reply new = (reply ≡ ended (endings.Save (spelling second s.stack))) × (new ≡ old)

-- how many places can be undone, and how many redone
abbrev pub history_line : ℕ → ℕ → List ℕ
history_line undoable redoable = decimal undoable ++ 32 ∷ decimal redoable
