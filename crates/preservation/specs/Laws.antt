-- Laws over the rules: what each run keeps that doesn't run out of memory.
use Rattle.std.specs.Prelude.{◌≡◌, ◌≤◌, ℕ, List, [], ◌++◌, Result, Err}
use Rattle.ht_grammar.specs.Statements as stm
use Rattle.ht_grammar.specs.Trees as tree
use Rattle.journal_entries.specs.Replaced.{Replacement, places_of}
use Rattle.journal_entries.specs.Trails.{Mark, IsOnce, IsShort, different}
use Rattle.change_journal.specs.History.{History}
use Rattle.containers.specs.Base.{base}
use Rattle.meaning.specs.declared.end.Stop.{Stop}
use Rattle.meaning.specs.declared.end.Stop.TheVariants.{Memory}
use Rattle.meaning.specs.declared.frame.Frame.{Frame}
use Rattle.meaning.specs.State.{RunState}
use Rattle.meaning.specs.Actions.{Action}
use Rattle.meaning.specs.Meaning.{Val, Line, Message, Refers, Acts}
use Rattle.preservation.specs.Rising.{TrailAfter}
use Rattle.preservation.specs.Replaced.{replaced_val, replaced_line, replaced_message, replaced_refers, replaced_acts}
use Rattle.preservation.specs.Replaced.{RisesBy}
use Rattle.preservation.specs.Whole.{KeepsWhole}

-- an end other than out of memory
abbrev pub HasMemory : {A : Type 0} → Result A Stop → Type 0
HasMemory o = o ≡ Err Memory → ⊥

-- a list stands at the head of another
abbrev pub IsPrefix : {A : Type 0} → List A → List A → Type 0
IsPrefix {A} xs ys = (more : List A) × (ys ≡ xs ++ more)

-- A run goes on: no step comes back, and what was shown and sent stays, with more behind it.
pub record GoesOn (old new : RunState) : Type 0 where
  pub left : new.left ≤ old.left
  pub shown : IsPrefix old.shown new.shown
  pub sent : IsPrefix old.sent new.sent

-- ---- the lines of a command

abbrev pub LinesKeepBases : Type 0
LinesKeepBases =
    (w w2 : History) (r r2 : RunState) (ss : stm.Stmts) (o : Result (Unit {0}) Stop) →
    Line w r ss o w2 r2 → HasMemory o → base w2 ≡ base w

abbrev pub LinesRise : Type 0
LinesRise =
    (w w2 : History) (r r2 : RunState) (ss : stm.Stmts) (o : Result (Unit {0}) Stop) (line : Line w r ss o w2 r2) →
    HasMemory o → RisesBy (replaced_line line) w.start w2.start

abbrev pub LinesGoOn : Type 0
LinesGoOn =
    (w w2 : History) (r r2 : RunState) (ss : stm.Stmts) (o : Result (Unit {0}) Stop) →
    Line w r ss o w2 r2 → HasMemory o → GoesOn r r2

abbrev pub LinesStayWhole : Type 0
LinesStayWhole =
    (w w2 : History) (r r2 : RunState) (ss : stm.Stmts) (o : Result (Unit {0}) Stop) (line : Line w r ss o w2 r2) →
    HasMemory o → KeepsWhole (replaced_line line) w w2

-- ---- a message that is sent by itself

abbrev pub MessagesKeepBases : Type 0
MessagesKeepBases =
    (w w2 : History) (r r2 : RunState) (i : ℕ) (n : List ℕ) (vs : List (List ℕ)) (o : Result (Unit {0}) Stop) →
    Message w r i n vs o w2 r2 → HasMemory o → base w2 ≡ base w

abbrev pub MessagesRise : Type 0
MessagesRise =
    (w w2 : History) (r r2 : RunState) (i : ℕ) (n : List ℕ) (vs : List (List ℕ)) (o : Result (Unit {0}) Stop)
    (message : Message w r i n vs o w2 r2) →
    HasMemory o → RisesBy (replaced_message message) w.start w2.start

abbrev pub MessagesGoOn : Type 0
MessagesGoOn =
    (w w2 : History) (r r2 : RunState) (i : ℕ) (n : List ℕ) (vs : List (List ℕ)) (o : Result (Unit {0}) Stop) →
    Message w r i n vs o w2 r2 → HasMemory o → GoesOn r r2

abbrev pub MessagesStayWhole : Type 0
MessagesStayWhole =
    (w w2 : History) (r r2 : RunState) (i : ℕ) (n : List ℕ) (vs : List (List ℕ)) (o : Result (Unit {0}) Stop)
    (message : Message w r i n vs o w2 r2) →
    HasMemory o → KeepsWhole (replaced_message message) w w2

-- ---- what a user does

abbrev pub ActionsKeepBases : Type 0
ActionsKeepBases =
    (w w2 : History) (r r2 : RunState) (ac : Action) (o : Result (Unit {0}) Stop) →
    Acts w r ac o w2 r2 → HasMemory o → base w2 ≡ base w

abbrev pub ActionsRise : Type 0
ActionsRise =
    (w w2 : History) (r r2 : RunState) (ac : Action) (o : Result (Unit {0}) Stop) (acts : Acts w r ac o w2 r2) →
    HasMemory o → RisesBy (replaced_acts acts) w.start w2.start

abbrev pub ActionsGoOn : Type 0
ActionsGoOn =
    (w w2 : History) (r r2 : RunState) (ac : Action) (o : Result (Unit {0}) Stop) →
    Acts w r ac o w2 r2 → HasMemory o → GoesOn r r2

abbrev pub ActionsStayWhole : Type 0
ActionsStayWhole =
    (w w2 : History) (r r2 : RunState) (ac : Action) (o : Result (Unit {0}) Stop) (acts : Acts w r ac o w2 r2) →
    HasMemory o → KeepsWhole (replaced_acts acts) w w2

-- ---- the reference of a dot line

abbrev pub ReferencesKeepBases : Type 0
ReferencesKeepBases =
    (w w2 : History) (r r2 : RunState) (pa : tree.Part) (o : Result ℕ Stop) →
    Refers w r pa o w2 r2 → HasMemory o → base w2 ≡ base w

abbrev pub ReferencesRise : Type 0
ReferencesRise =
    (w w2 : History) (r r2 : RunState) (pa : tree.Part) (o : Result ℕ Stop) (refers : Refers w r pa o w2 r2) →
    HasMemory o → RisesBy (replaced_refers refers) w.start w2.start

abbrev pub ReferencesGoOn : Type 0
ReferencesGoOn =
    (w w2 : History) (r r2 : RunState) (pa : tree.Part) (o : Result ℕ Stop) →
    Refers w r pa o w2 r2 → HasMemory o → GoesOn r r2

abbrev pub ReferencesStayWhole : Type 0
ReferencesStayWhole =
    (w w2 : History) (r r2 : RunState) (pa : tree.Part) (o : Result ℕ Stop) (refers : Refers w r pa o w2 r2) →
    HasMemory o → KeepsWhole (replaced_refers refers) w w2

-- ---- the value of an expression

abbrev pub ValuesKeepBases : Type 0
ValuesKeepBases =
    (w w2 : History) (r r2 : RunState) (f : Frame) (d : ℕ) (e : tree.Expr) (o : Result (List ℕ) Stop) →
    Val w r f d e o w2 r2 → HasMemory o → base w2 ≡ base w

abbrev pub ValuesRise : Type 0
ValuesRise =
    (w w2 : History) (r r2 : RunState) (f : Frame) (d : ℕ) (e : tree.Expr) (o : Result (List ℕ) Stop)
    (value : Val w r f d e o w2 r2) →
    HasMemory o → RisesBy (replaced_val value) w.start w2.start

abbrev pub ValuesGoOn : Type 0
ValuesGoOn =
    (w w2 : History) (r r2 : RunState) (f : Frame) (d : ℕ) (e : tree.Expr) (o : Result (List ℕ) Stop) →
    Val w r f d e o w2 r2 → HasMemory o → GoesOn r r2

abbrev pub ValuesStayWhole : Type 0
ValuesStayWhole =
    (w w2 : History) (r r2 : RunState) (f : Frame) (d : ℕ) (e : tree.Expr) (o : Result (List ℕ) Stop)
    (value : Val w r f d e o w2 r2) →
    HasMemory o → KeepsWhole (replaced_val value) w w2

-- ---- entries

-- a batch whose trail is the one after these, each place once in a segment, is short for the different places of these
abbrev pub BatchesAreShort : Type 0
BatchesAreShort =
    (replaced : List Replacement) (trail : List Mark) →
    TrailAfter replaced [] trail → IsOnce trail → IsShort trail (different (places_of replaced))
