-- Worked rows of the language: what is typed, and what is answered. With so many nested parts, or more, the function
-- gives each answer.
use Rattle.std.specs.Prelude.{zero, suc, ◌≡◌, ℕ, List, [], ◌∷◌, ◌++◌, map, codes, decimal, true, false, Result, Ok, Err}
use Rattle.std.specs.Prelude.{bytes_eq, if◌then◌else◌, slice_index_or, Some}
use Rattle.std.specs.FinMap.{empty, from_sorted}
use Rattle.ht_values.specs.Faults.{number_of_fault}
use Rattle.ht_grammar.specs.Lines.{typed_lines}
use Rattle.object_table.specs.Content.{Content}
use Rattle.object_table.specs.declared.object.Object.{Object}
use Rattle.object_table.specs.declared.object.Kind.TheVariants.{Stack, Background, Card, BackgroundField}
use Rattle.externals.specs.Cells.{Seen}
use Rattle.externals.specs.Turns.{TurnTable}
use Rattle.externals.specs.declared.external.Ask.TheVariants.{Done}
use Rattle.journal_entries.specs.State.{first_state}
use Rattle.meaning.specs.declared.end.Stop.{Stop}
use Rattle.meaning.specs.declared.end.Stop.TheVariants.{Fault as Faults, Exited}
use Rattle.meaning.specs.State.{RunState, fresh_run}
use Rattle.definitional_interpreter.specs.Told.{Visible, Told, unknown, told, after}
use Rattle.definitional_interpreter.specs.Texts.{parsed}
use Rattle.definitional_interpreter.specs.Meanings.{meanings}

-- ---- lines and their answers

-- how a command ends
abbrev pub ending : Result (Unit {0}) Stop → List ℕ
ending (Ok _) = codes "ok"
ending (Err Exited) = codes "ok"
ending (Err (Faults fault)) = codes "fault " ++ decimal (number_of_fault fault)
ending (Err stop) = codes "no answer"

-- what a command shows, and then how it ends
abbrev pub answer : Result (Unit {0}) Stop → RunState → List (List ℕ)
answer o r = map (λ line. codes "> " ++ line) r.shown ++ ending o ∷ []

-- so many, and so many more
abbrev pub and_more : ℕ → ℕ → ℕ
and_more zero more = more
and_more (suc n) more = suc (and_more n more)

-- a line that is typed, where so many nested parts can be told
abbrev pub typed : ℕ → Visible → List ℕ → Told (Unit {0})
typed parts w line =
    after (told (parsed typed_lines line) w (fresh_run 1000000)) (λ ss w r. (meanings parts).line w r ss)

abbrev pub answered : Told (Unit {0}) → (Visible → List (List ℕ)) → List (List ℕ)
answered unknown rest = codes "no answer" ∷ []
answered (told o w r) rest = answer o r ++ rest w

-- the answers of lines that are typed one after another
abbrev pub answers : ℕ → Visible → List (List ℕ) → List (List ℕ)
answers parts w [] = []
answers parts w (line ∷ lines) = answered (typed parts w line) (λ w. answers parts w lines)

-- ---- a stack of two cards with a field on their background, and externals

abbrev pub objects_of : (card background stack : List ℕ) → List (ℕ × Object)
objects_of card background stack =
    (0, record { name = codes "Demo"; script = stack; kind = Stack })
    ∷ (1, record { name = []; script = background; kind = Background false })
    ∷ (2, record { name = codes "A"; script = card; kind = Card 1 false })
    ∷ (3, record { name = codes "Note"; script = []; kind = BackgroundField true false false })
    ∷ (4, record { name = codes "B"; script = []; kind = Card 1 false })
    ∷ []

abbrev pub two_cards : (card background stack : List ℕ) → Content
two_cards card background stack = record {
  objects = from_sorted (objects_of card background stack);
  backgrounds = 1 ∷ [];
  cards = 2 ∷ 4 ∷ [];
  parts = from_sorted ((1, 3 ∷ []) ∷ (2, []) ∷ (4, []) ∷ []);
  texts = from_sorted (((3, 0), []) ∷ ((3, 2), []) ∷ ((3, 4), []) ∷ []);
  hilites = empty;
  next = 5;
}

-- externals that pass every other message on, and keep in a cell which one they passed last
abbrev pub every_other : TurnTable
every_other sort cells input =
    if bytes_eq (slice_index_or cells 0 []) (codes "0") then Some (Done [] false, codes "1" ∷ [])
    else Some (Done [] true, codes "0" ∷ [])

-- its first state, with these scripts of the first card, of the background and of the stack
abbrev pub first_card : (card background stack : List ℕ) → List Seen → Visible
first_card card background stack externals =
    record {
      now = first_state (two_cards card background stack) externals;
      logs = map (λ e. []) externals;
      table = every_other;
      turns = λ i. [];
    }

abbrev pub gate : Seen
gate = record { title = codes "Gate"; sort = 0; answers_calls = false; cells = codes "0" ∷ [] }

-- ---- rows of any state

abbrev pub Sum : Type 0
Sum = (k : ℕ) (w : Visible) → answers (and_more 20 k) w (codes "put 2 + 3" ∷ []) ≡ codes "> 5" ∷ codes "ok" ∷ []

-- the quotient is rounded towards zero
abbrev pub Quotient : Type 0
Quotient =
    (k : ℕ) (w : Visible) → answers (and_more 20 k) w (codes "put 7 div -2" ∷ []) ≡ codes "> -3" ∷ codes "ok" ∷ []

abbrev pub NoNumber : Type 0
NoNumber = (k : ℕ) (w : Visible) → answers (and_more 20 k) w (codes "put \"x\" + 1" ∷ []) ≡ codes "fault 4" ∷ []

-- a fault ends the command, and what was shown stays shown
abbrev pub FaultAfterLines : Type 0
FaultAfterLines =
    (k : ℕ) (w : Visible) → answers (and_more 20 k) w (codes "put 2\rput 3 div 0\rput 4" ∷ []) ≡ codes "> 2"
    ∷ codes "fault 6" ∷ []

abbrev pub Choice : Type 0
Choice =
    (k : ℕ) (w : Visible) →
    answers (and_more 20 k) w
    ((codes "do \"if false then\" & return & \"put 1\" & return & \"else if true then\" & return & \"put 2\""
    ++ codes " & return & \"else\" & return & \"put 3\" & return & \"end if\"") ∷ [])
    ≡ codes "> 2" ∷ codes "ok" ∷ []

abbrev pub Repeated : Type 0
Repeated =
    (k : ℕ) (w : Visible) →
    answers (and_more 20 k) w (codes "do \"repeat for 2 times\" & return & \"put 1\" & return & \"end repeat\"" ∷ [])
    ≡ codes "> 1" ∷ codes "> 1" ∷ codes "ok" ∷ []

abbrev pub Chunks : Type 0
Chunks =
    (k : ℕ) (w : Visible) →
    answers (and_more 20 k) w (codes "put \"[\" & char 4 to 9 of \"hello\" & \"]\" && \"[\" & item 0 of \"a,b\" & \"]\""
    ∷ [])
    ≡ codes "> [lo] []" ∷ codes "ok" ∷ []

abbrev pub NoExpression : Type 0
NoExpression =
    (k : ℕ) (w : Visible) → answers (and_more 20 k) w (codes "put the value of \"1 +\"" ∷ []) ≡ codes "fault 1" ∷ []

abbrev pub ExitToHyperCard : Type 0
ExitToHyperCard =
    (k : ℕ) (w : Visible) →
    answers (and_more 20 k) w (codes "do \"put 1\" & return & \"exit to HyperCard\" & return & \"put 2\"" ∷ [])
    ≡ codes "> 1" ∷ codes "ok" ∷ []

-- the delimiter of items is the run's: the next command has a comma again
abbrev pub Delimiter : Type 0
Delimiter =
    (k : ℕ) (w : Visible) →
    answers (and_more 20 k) w (codes "set itemDelimiter to \";\"\rput item 1 of \"a;b,c\""
    ∷ codes "put item 1 of \"a;b,c\"" ∷ [])
    ≡ codes "> a" ∷ codes "ok" ∷ codes "> a;b" ∷ codes "ok" ∷ []

-- ---- rows of a state

-- a name without a value reads as it is written, and names of globals are folded
abbrev pub GlobalVariable : Type 0
GlobalVariable =
    (k : ℕ) → answers (and_more 40 k) (first_card [] [] [] [])
    (codes "put Abc" ∷ codes "put 1 into ABC" ∷ codes "put abc" ∷ [])
    ≡ codes "> Abc" ∷ codes "ok" ∷ codes "ok" ∷ codes "> 1" ∷ codes "ok" ∷ []

-- the lines of a script, with a return after each
abbrev pub script_of : List (List ℕ) → List ℕ
script_of [] = []
script_of (line ∷ lines) = line ++ 13 ∷ script_of lines

-- a handler with each form of `repeat`
abbrev pub repeats_script : List ℕ
repeats_script = script_of (
    codes "on repeats n"
    ∷ codes "  repeat with i = 1 to n"
    ∷ codes "    if i = 2 then next repeat"
    ∷ codes "    if i = 5 then exit repeat"
    ∷ codes "    put i after row"
    ∷ codes "  end repeat"
    ∷ codes "  repeat with i = 3 down to 1"
    ∷ codes "    put i after row"
    ∷ codes "  end repeat"
    ∷ codes "  repeat 2 times"
    ∷ codes "    put \"x\" after row"
    ∷ codes "  end repeat"
    ∷ codes "  repeat while the length of row < 10"
    ∷ codes "    put \"w\" after row"
    ∷ codes "  end repeat"
    ∷ codes "  repeat until row contains \"u\""
    ∷ codes "    put \"u\" after row"
    ∷ codes "  end repeat"
    ∷ codes "  repeat forever"
    ∷ codes "    put \"f\" after row"
    ∷ codes "    if the length of row > 12 then exit repeat"
    ∷ codes "  end repeat"
    ∷ codes "  put row"
    ∷ codes "end repeats"
    ∷ [])

abbrev pub Repeats : Type 0
Repeats =
    (k : ℕ) → answers (and_more 40 k) (first_card [] [] repeats_script []) (codes "repeats 9" ∷ [])
    ≡ codes "> 134321xxwwuff" ∷ codes "ok" ∷ []

abbrev pub function_script : List ℕ
function_script = script_of (codes "function h" ∷ codes "return 4" ∷ codes "end h" ∷ [])

-- the value of a function, which leaves no result
abbrev pub Function : Type 0
Function =
    (k : ℕ) → answers (and_more 40 k) (first_card function_script [] [] [])
    (codes "do \"put h()\" & return & \"put the result\"" ∷ [])
    ≡ codes "> 4" ∷ codes "> " ∷ codes "ok" ∷ []

abbrev pub passing_script : List ℕ
passing_script =
    script_of (codes "on who" ∷ codes "put \"bg\"" ∷ codes "pass who" ∷ codes "put \"no\"" ∷ codes "end who" ∷ [])

abbrev pub last_script : List ℕ
last_script = script_of (codes "on who" ∷ codes "put \"stack\"" ∷ codes "end who" ∷ [])

-- a handler of the background passes a message on to the stack
abbrev pub Passed : Type 0
Passed =
    (k : ℕ) → answers (and_more 40 k) (first_card [] passing_script last_script []) (codes "who" ∷ [])
    ≡ codes "> bg" ∷ codes "> stack" ∷ codes "ok" ∷ []

-- three handlers, of which each calls the next, and the third calls what isn't there
abbrev pub deep_script : List ℕ
deep_script = script_of (
    codes "on a"
    ∷ codes "put 1"
    ∷ codes "b"
    ∷ codes "put 2"
    ∷ codes "end a"
    ∷ codes "on b"
    ∷ codes "put 3"
    ∷ codes "c"
    ∷ codes "put 4"
    ∷ codes "end b"
    ∷ codes "on c"
    ∷ codes "global g"
    ∷ codes "put 5 into g"
    ∷ codes "put foo()"
    ∷ codes "put 6 into g"
    ∷ codes "end c"
    ∷ [])

-- a fault in the third of three handlers: what was put before it stays
abbrev pub FaultThreeDeep : Type 0
FaultThreeDeep =
    (k : ℕ) → answers (and_more 40 k) (first_card deep_script [] [] []) (codes "a" ∷ codes "put g" ∷ [])
    ≡ codes "> 1" ∷ codes "> 3" ∷ codes "fault 2" ∷ codes "> 5" ∷ codes "ok" ∷ []

-- conversations with an external, which passes every other message on
abbrev pub Conversation : Type 0
Conversation =
    (k : ℕ) → answers (and_more 40 k) (first_card [] [] [] (gate ∷ [])) (codes "Gate" ∷ codes "Gate" ∷ []) ≡ codes "ok"
    ∷ codes "fault 2" ∷ []
