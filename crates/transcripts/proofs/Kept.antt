-- What steps keep of each list of states lines keep.
use Rattle.std.proofs.Common.{◌≡◌, ◌≢◌, ◌⊎◌, inl, inr, ℕ, zero, suc, ◌+◌, ◌-◌, ◌<◌, List, [], ◌∷◌, ◌++◌, Bool, true}
use Rattle.std.proofs.Common.{false, Option, Some, None, refl, sym, ap, subst}
use Rattle.std.specs.Prelude.{take, drop, MatchBool, nat_lt, length, option_map, slice_get}
use Rattle.std.specs.List.{AllByRecursion}
use Rattle.std.proofs.lemmas.Option.{none-some}
use Rattle.journal_entries.specs.State.{State}
use Rattle.meaning.specs.Actions.{Action}
use Rattle.session.specs.Commands.{ReadsAction, is_dot_line, command_in, behind_name, second as second_word, words}
use Rattle.session.specs.declared.command.Command.{Command}
use Rattle.session.specs.declared.command.Command.TheVariants.{Undo, Redo, UndoTo, Show, Globals, Where, Cells}
use Rattle.session.specs.declared.command.Command.TheVariants.{History as HistoryCommand, Save, Act, Quit}
use Rattle.session.specs.declared.command.Reading.{Reading}
use Rattle.session.specs.declared.command.Reading.TheVariants.{Lines}
use Rattle.session.specs.declared.limits.TheConstants.{LONGEST_LINE}
use Rattle.session.specs.declared.reply.Ending.TheVariants as endings
use Rattle.session.specs.declared.reply.Refusal.{Refusal}
use Rattle.session.specs.declared.reply.Refusal.TheVariants.{LineTooLong, NoMemory}
use Rattle.session.specs.declared.reply.Reply.{Reply}
use Rattle.session.specs.Meaning.{Moment}
use Rattle.session.specs.Replies.{Refuses, Obeys, Moves, ShowsCells, cells_named}
use Rattle.stack_text.proofs.Elements.{each_append}
use Rattle.headline.specs.Headline.{Snapshot, Timeline, IsPresent, followed_by, Replaces, KeepsOut, Commands, at_cursor}
use Rattle.headline.specs.Headline.{cursor_back, cursor_forth, cursor_back_to, last_numbered, Does, DoesLine}
use Rattle.headline.specs.Headline.{line_counted, LineMoves}
use Rattle.transcripts.proofs.Cursors.{present_within, back_within, forth_within, before_within}

-- a reply isn't refused for memory
abbrev pub HasRoom : Reply → Type 0
HasRoom reply = reply.ending ≢ endings.Refused NoMemory

pub refused_room : {old : Timeline} {reply : Reply} {new : Timeline} → Refuses NoMemory old reply new → HasRoom reply →
    ⊥
refused_room a room = room (ap (λ (r : Reply). r.ending) a.answer)

-- ---- lists

all_of_front : {X : Type 0} (P : X → Type 0) (n : ℕ) (xs : List X) → AllByRecursion P xs →
    AllByRecursion P (take n xs)
all_of_front P zero xs all = tt
all_of_front P (suc n) [] all = tt
all_of_front P (suc n) (x ∷ xs) all = (all.0, all_of_front P n xs all.1)

all_of_rest : {X : Type 0} (P : X → Type 0) (n : ℕ) (xs : List X) → AllByRecursion P xs → AllByRecursion P (drop n xs)
all_of_rest P zero xs all = all
all_of_rest P (suc n) [] all = tt
all_of_rest P (suc n) (x ∷ xs) all = all_of_rest P n xs all.1

-- the state that stands there
pub of_each : {X : Type 0} (P : X → Type 0) (xs : List X) (i : ℕ) (x : X) → AllByRecursion P xs →
    slice_get xs i ≡ Some x → P x
of_each P [] i x all e = absurd (none-some x e)
of_each P (y ∷ ys) zero x all e = let same : y ≡ x = cc in subst P same all.0
of_each P (y ∷ ys) (suc i) x all e = of_each P ys i x all.1 e

-- each member of a list that a state joins
pub of_joined : (P : Snapshot → Type 0) (t : Timeline) (after : Moment) → AllByRecursion P t.snapshots →
    P (record { state = after.state; number = t.lines }) → AllByRecursion P (followed_by t after).snapshots
of_joined P t after all last =
    let front : List Snapshot = take (t.cursor + 1) t.snapshots in
    let added : Snapshot = record { state = after.state; number = t.lines } in
    all_of_rest P (t.cursor + 1 - t.depth) (front ++ added ∷ [])
    (each_append P front (added ∷ []) (all_of_front P (t.cursor + 1) t.snapshots all) (last, tt))

-- ---- a line

-- what a text does, read whole or behind its first word, is of this kind
abbrev pub SaysSuch : (Action → Type 0) → List ℕ → Type 0
SaysSuch IsSuch line =
    (reading : Reading) (does : Action) →
    (ReadsAction reading line does → IsSuch does) × (ReadsAction reading (behind_name line) does → IsSuch does)

-- and so of each line that isn't too long
abbrev pub ShortSaysSuch : (Action → Type 0) → List ℕ → Type 0
ShortSaysSuch IsSuch line = nat_lt LONGEST_LINE (length line) ≡ false → SaysSuch IsSuch line

-- Where the cursor moves, where all stays, and where a command of this kind is done, this holds of the lists before and
-- after.
module _ (Leads : Timeline → Timeline → Type 0) (IsSuch : Action → Type 0)
    (stays : (t : Timeline) → Leads t t)
    (goes : (t : Timeline) (place : ℕ) → place < length t.snapshots → Leads t (at_cursor t place))
    (done : (does : Action) (state : State) (old : Timeline) (reply : Reply) (new : Timeline) → IsSuch does →
    IsPresent state old → Replaces does state old reply new ⊎ KeepsOut does state old reply new → Leads old new) where
  same_leads : {old new : Timeline} → new ≡ old → Leads old new
  same_leads {old = old} is = subst (Leads old) (sym is) (stays old)

  moved_leads : (t : Timeline) (x : Refusal) (place : Option ℕ) (reply : Reply) (new : Timeline) →
      ((p : ℕ) → place ≡ Some p → p < length t.snapshots) → Moves (option_map (at_cursor t) place) x t reply new →
      Leads t new
  moved_leads t x (Some place) reply new within a = subst (Leads t) (sym a.1) (goes t place (within place refl))
  moved_leads t x None reply new within a = same_leads a.same

  command_leads : (reading : Reading) (text : List ℕ) (state : State) (old : Timeline) (reply : Reply)
      (new : Timeline) → ((does : Action) → ReadsAction reading text does → IsSuch does) → IsPresent state old →
      HasRoom reply → Commands reading text state old reply new → Leads old new
  command_leads reading text state old reply new such here room (Obeys.obeys {does = does} reads a) =
      done does state old reply new (such does reads) here a
  command_leads reading text state old reply new such here room (Obeys.nothing none refuses) = same_leads refuses.same
  command_leads reading text state old reply new such here room (Obeys.given_up refuses) =
      absurd (refused_room refuses room)

  cells_lead : (old : Timeline) (cells : Option (List (List ℕ))) (reply : Reply) (new : Timeline) →
      ShowsCells cells old reply new → Leads old new
  cells_lead old (Some cells) reply new (inl a) = same_leads a.same
  cells_lead old (Some cells) reply new (inr a) = same_leads a.same
  cells_lead old None reply new a = same_leads a.same

  dot_line_leads : (line : List ℕ) (command : Option Command) (state : State) (old : Timeline) (reply : Reply)
      (new : Timeline) → SaysSuch IsSuch line → IsPresent state old → HasRoom reply →
      Does line command state old reply new → Leads old new
  dot_line_leads line None state old reply new such here room a = same_leads a.same
  dot_line_leads line (Some (Undo k)) state old reply new such here room a =
      moved_leads old _ (cursor_back k old) reply new (back_within k old (present_within state old here)) a
  dot_line_leads line (Some (Redo k)) state old reply new such here room a =
      moved_leads old _ (cursor_forth k old) reply new (forth_within k old) a
  dot_line_leads line (Some (UndoTo n)) state old reply new such here room a =
      moved_leads old _ (cursor_back_to n old) reply new
      (before_within old.cursor (length old.snapshots) (last_numbered n (take (old.cursor + 1) old.snapshots))
      (present_within state old here)) a
  dot_line_leads line (Some Show) state old reply new such here room (inl a) = same_leads a.look.same
  dot_line_leads line (Some Show) state old reply new such here room (inr a) = same_leads a.same
  dot_line_leads line (Some Globals) state old reply new such here room (inl a) = same_leads a.same
  dot_line_leads line (Some Globals) state old reply new such here room (inr a) = same_leads a.same
  dot_line_leads line (Some Where) state old reply new such here room (inl a) = same_leads a.same
  dot_line_leads line (Some Where) state old reply new such here room (inr a) = same_leads a.same
  dot_line_leads line (Some HistoryCommand) state old reply new such here room (inl a) = same_leads a.same
  dot_line_leads line (Some HistoryCommand) state old reply new such here room (inr a) = same_leads a.same
  dot_line_leads line (Some Cells) state old reply new such here room a =
      cells_lead old (cells_named state (second_word (words line))) reply new a
  dot_line_leads line (Some Save) state old reply new such here room a = same_leads a.1
  dot_line_leads line (Some (Act reading)) state old reply new such here room a =
      command_leads reading (behind_name line) state old reply new (λ does. (such reading does).1) here room a
  dot_line_leads line (Some Quit) state old reply new such here room a = same_leads a.1

  short_line_leads : (line : List ℕ) (dot : Bool) (state : State) (old : Timeline) (reply : Reply) (new : Timeline) →
      SaysSuch IsSuch line → IsPresent state old → HasRoom reply →
      MatchBool dot (Does line (command_in line) state old reply new) (Commands Lines line state old reply new) →
      Leads old new
  short_line_leads line true state old reply new such here room a =
      dot_line_leads line (command_in line) state old reply new such here room a
  short_line_leads line false state old reply new such here room a =
      command_leads Lines line state old reply new (λ does. (such Lines does).0) here room a

  line_of_leads : (line : List ℕ) (long : Bool) (state : State) (old : Timeline) (reply : Reply) (new : Timeline) →
      (long ≡ false → SaysSuch IsSuch line) → IsPresent state old → HasRoom reply →
      MatchBool long (Refuses LineTooLong old reply new) (DoesLine line state old reply new) → Leads old new
  line_of_leads line true state old reply new such here room a = same_leads a.same
  line_of_leads line false state old reply new such here room a =
      short_line_leads line (is_dot_line line) state old reply new (such refl) here room a

  pub line_leads : (line : List ℕ) (old : Timeline) (reply : Reply) (new : Timeline) →
      ShortSaysSuch IsSuch line → HasRoom reply →
      LineMoves line old reply new → Leads (line_counted old) new
  line_leads line old reply new such room a =
      line_of_leads line (nat_lt LONGEST_LINE (length line)) a.state (line_counted old) reply new such a.present room
      a.does
