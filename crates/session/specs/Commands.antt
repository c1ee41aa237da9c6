-- What a dot line says.
use Rattle.std.specs.Prelude.{◌≡◌, ℕ, Bool, true, false, ◌==◌, nat_eq, List, [], ◌∷◌, drop, filter, codes, Option}
use Rattle.std.specs.Prelude.{Some, None, option_map, option_and_then, if◌then◌else◌, slice_index}
use Rattle.std.specs.Cmp.Lexicographic.{pointwise}
use Rattle.std.specs.Borrow.{Bor}
use Rattle.std.specs.List.{slice_split, position_or_len}
use Rattle.stack_text.specs.Words.{number_at}
use Rattle.ht_grammar.specs.Reads.{Reads, ReadsLines, ReadsPart, ReadsType}
use Rattle.ht_grammar.specs.Statements.{Typed, typed}
use Rattle.ht_lex.specs.Token.{Token}
use Rattle.meaning.specs.Actions as act
use Rattle.meaning.specs.Actions.{Action}
use Rattle.session.specs.declared.command.Command.{Command}
use Rattle.session.specs.declared.command.Command.TheVariants.{Undo, Redo, UndoTo, Show, Globals, Where, Cells}
use Rattle.session.specs.declared.command.Command.TheVariants.{History, Save, Act, Quit}
use Rattle.session.specs.declared.command.Reading.{Reading}
use Rattle.session.specs.declared.command.Reading.TheVariants.{Lines, Opening, Reference, Typing}

-- a dot line begins with the dot, and each other line is HyperTalk
abbrev pub is_dot_line : List ℕ → Bool
is_dot_line line = slice_index line 0 == 46

abbrev pub is : List ℕ → List ℕ → Bool
is word name = pointwise nat_eq word name

abbrev pub is_run : List ℕ → Bool
is_run [] = false
is_run (b ∷ bs) = true

-- the runs of bytes between spaces
abbrev pub words : List ℕ → List (List ℕ)
words line = filter is_run (slice_split (λ b. b == 32) line)

-- the line from its first byte that is no space
abbrev pub after_spaces : List ℕ → List ℕ
after_spaces [] = []
after_spaces (b ∷ bs) = if b == 32 then after_spaces bs else b ∷ bs

-- a word in front of what follows it
abbrev pub word_and_rest : Option (Bor (List ℕ) × Bor (List ℕ)) → List (List ℕ)
word_and_rest None = []
word_and_rest (Some p) = p.0.now ∷ words p.1.now

-- a number of places, which is not 0
abbrev pub places : List ℕ → Option ℕ
places word = option_and_then (λ k. if k == 0 then None else Some k) (number_at word)

-- a name alone
abbrev pub named : List ℕ → Option Command
named name =
    if is name (codes ".undo") then Some (Undo 1) else
    (if is name (codes ".redo") then Some (Redo 1) else
    (if is name (codes ".show") then Some Show else
    (if is name (codes ".globals") then Some Globals else
    (if is name (codes ".where") then Some Where else
    (if is name (codes ".history") then Some History else
    (if is name (codes ".save") then Some Save else
    (if is name (codes ".open") then Some (Act Opening) else
    (if is name (codes ".quit") then Some Quit else None))))))))

-- `.undo K`, `.redo K` and `.cells NAME`
abbrev pub counted : List ℕ → List ℕ → Option Command
counted name word =
    if is name (codes ".undo") then option_map Undo (places word) else
    (if is name (codes ".redo") then option_map Redo (places word) else
    (if is name (codes ".cells") then Some Cells else None))

-- `.undo to N`
abbrev pub to_line : List ℕ → List ℕ → List ℕ → Option Command
to_line name to word =
    if is name (codes ".undo") then (if is to (codes "to") then option_map UndoTo (number_at word) else None) else None

abbrev pub worded : List (List ℕ) → Option Command
worded (name ∷ []) = named name
worded (name ∷ word ∷ []) = counted name word
worded (name ∷ to ∷ word ∷ []) = to_line name to word
worded _ = None

-- `.click` and `.type`, behind which the text is read by the tokens of the language
abbrev pub command_by : List (List ℕ) → Option Command
command_by [] = None
command_by (name ∷ rest) =
    if is name (codes ".click") then Some (Act Reference) else
    (if is name (codes ".type") then Some (Act Typing) else worded (name ∷ rest))

-- what a dot line says, if it says anything
abbrev pub command_in : List ℕ → Option Command
command_in line = command_by (words line)

-- what stands behind the name of a dot line, from the first space on
abbrev pub behind_name : List ℕ → List ℕ
behind_name line = drop (position_or_len (λ b. b == 32) line) line

-- the text of a line that says what a user does, and how it is read
abbrev pub acted_behind : List ℕ → Option Command → Option (Reading × List ℕ)
acted_behind line (Some (Act reading)) = Some (reading, behind_name line)
acted_behind line _ = None

abbrev pub acted_in : List ℕ → Option (Reading × List ℕ)
acted_in line = if is_dot_line line then acted_behind line (command_in line) else Some (Lines, line)

-- the word behind the name
abbrev pub second : List (List ℕ) → List ℕ
second (name ∷ word ∷ rest) = word
second _ = []

-- ---- what a user does

-- a text has one tree of a kind, which makes this action
abbrev pub ReadAs : {T : Type 0} → (List Token → T → Type 0) → (T → Action) → List ℕ → Action → Type 0
ReadAs {T} IsTree action text does = (tree : T) × Reads IsTree text tree × (does ≡ action tree)

abbrev pub typing : Typed → Action
typing (typed text field) = act.type_text text field

-- a text is read as what a user does: lines of HyperTalk, the reference of `.click`, or a text in quotes and a field
abbrev pub ReadsAction : Reading → List ℕ → Action → Type 0
ReadsAction Lines text does = ReadAs ReadsLines act.run_lines text does
ReadsAction Opening text does = does ≡ act.open_stack
ReadsAction Reference text does = ReadAs ReadsPart act.click text does
ReadsAction Typing text does = ReadAs ReadsType typing text does
