-- Lines have a transcript.
use Rattle.std.proofs.Common.{◌≡◌, ◌≢◌, ◌⊎◌, inl, inr, ℕ, ◌+◌, ◌-◌, ◌<◌, List, [], ◌∷◌, ◌++◌, length, Bool}
use Rattle.std.proofs.Common.{true, false, Option, Some, None, Result, Ok, Err, refl, sym, ap, subst, ◌∙◌}
use Rattle.std.specs.List.{AllByRecursion}
use Rattle.std.specs.Prelude.{take, MatchBool, nat_lt, option_map}
use Rattle.std.proofs.lemmas.Option.{none-some}
use Rattle.devices.specs.Desks.{SeenDesk}
use Rattle.externals.specs.Log.{Log}
use Rattle.ht_grammar.specs.Laws.{TextsAreReadExactly}
use Rattle.ht_grammar.specs.Lines.{typed_lines}
use Rattle.ht_grammar.specs.Reads.{ReadsLines, ReadsPart, ReadsType}
use Rattle.ht_grammar.specs.Whole.{clicked_part, typed_text}
use Rattle.journal_entries.specs.State.{State}
use Rattle.meaning.specs.declared.end.Stop.{Stop}
use Rattle.meaning.specs.Sent.{SentMessage}
use Rattle.meaning.specs.declared.end.Stop.TheVariants.{Fault as Faults, Exited, Memory}
use Rattle.meaning.specs.Actions as act
use Rattle.meaning.specs.Actions.{Action}
use Rattle.stack_text.specs.declared.sheets.Version.TheVariants.{Second as second}
use Rattle.stack_text.specs.Listing.{document_of, spelling}
use Rattle.stack_text.specs.Spelling.{document_lines}
use Rattle.session.specs.Commands.{ReadsAction, typing, is_dot_line, command_in, behind_name, second as second_word}
use Rattle.session.specs.Commands.{words}
use Rattle.session.specs.declared.command.Command.{Command}
use Rattle.session.specs.declared.command.Command.TheVariants.{Undo, Redo, UndoTo, Show, Globals, Where, Cells}
use Rattle.session.specs.declared.command.Command.TheVariants.{History, Save, Act, Quit}
use Rattle.session.specs.declared.command.Reading.{Reading}
use Rattle.session.specs.declared.command.Reading.TheVariants.{Lines, Opening, Reference, Typing}
use Rattle.session.specs.declared.limits.TheConstants.{LONGEST_LINE}
use Rattle.session.specs.declared.reply.Ending.{Ending}
use Rattle.session.specs.declared.reply.Ending.TheVariants as endings
use Rattle.session.specs.declared.reply.Refusal.{Refusal}
use Rattle.session.specs.declared.reply.Refusal.TheVariants.{NothingToUndo, NothingToRedo, BadCommand, NoMemory}
use Rattle.session.specs.declared.reply.Refusal.TheVariants.{LineTooLong, FieldLocked, SaveFailed}
use Rattle.session.specs.declared.reply.Reply.{Reply}
use Rattle.session.specs.Meaning.{Moment, ending_of, Fresh, Locked}
use Rattle.session.specs.Replies.{ended, refused, Refuses, Obeys, Moves, Looks, ShowsStack, ShowsCells, cells_named}
use Rattle.session.proofs.LineFeeds.{splits_whole}
use Rattle.headline.specs.Answers.{answer}
use Rattle.headline.specs.Answering.{is_quit}
use Rattle.headline.specs.Headline.{Snapshot, Timeline, followed_by, moment_in, Commands, at_cursor, cursor_back}
use Rattle.headline.specs.Headline.{cursor_forth}
use Rattle.headline.specs.Headline.{before, last_numbered, cursor_back_to, Does, DoesLine, line_counted, LineMoves}
use Rattle.headline.specs.Saving.{Kept, SettlesHeard, as_heard}
use Rattle.headline.proofs.Sessions.{split_of}
use Rattle.totality.proofs.Leaves.{read_or_not}
use Rattle.transcripts.specs.Laws.{Succeeds, Transcript, HasPresent}
use Rattle.transcripts.proofs.Cursors.{standing, back_within, forth_within, before_within, followed_present}
use Rattle.transcripts.proofs.Kept.{SaysSuch, ShortSaysSuch, of_each, of_joined}

-- A way in which commands of a kind have replies: what is asked of the moments before them, what the turns do to the
-- logs, and that each has a reply, after which it is asked no more than before, or types into a locked field.
pub record Way : Type 1 where
  pub Fits : Moment → Type 0
  pub IsSuch : Action → Type 0
  pub Grows : List Log → List Log → Type 0
  pub stays : (logs : List Log) → Grows logs logs
  pub joined : (old mid new : List Log) → Grows old mid → Grows mid new → Grows old new
  pub carried : (s : State) (old new : List Log) → Grows old new → Fits (record { state = s; logs = old }) →
      Fits (record { state = s; logs = new })
  pub replies : (old : Moment) (steps : ℕ) (does : Action) → Fits old → IsSuch does →
      ((reply : Reply) × ((new : Moment) × (Fresh old steps does reply new × Fits new × Grows old.logs new.logs))) ⊎
      ((logs : List Log) × (Locked old steps does logs × Grows old.logs logs))

-- a reply is refused neither for memory nor for its file
record IsSound (reply : Reply) : Type 0 where
  memory : reply.ending ≢ endings.Refused NoMemory
  kept : reply.ending ≢ endings.Refused SaveFailed

-- each state of a list fits, with its logs
abbrev pub EachFits : Way → List Log → List Snapshot → Type 0
EachFits way logs = AllByRecursion (λ (s : Snapshot). way.Fits (record { state = s.state; logs = logs }))

-- the cursor stands on a state, and each state fits
record Stands (way : Way) (t : Timeline) : Type 0 where
  present : HasPresent t
  fits : EachFits way t.logs t.snapshots

-- such a list, whose logs grew from these
record Leaves (way : Way) (logs : List Log) (new : Timeline) : Type 0 where
  stands : Stands way new
  grown : way.Grows logs new.logs

-- a reply of this kind that leaves such a list
data Step (way : Way) (logs : List Log) (Takes : Reply → Timeline → Type 0) : Type 0 where
  step : (reply : Reply) (new : Timeline) → Takes reply new → IsSound reply → Leaves way logs new →
      Step way logs Takes

-- ---- a fresh command

no_refusal : (o : Result (Unit {0}) Stop) (e : Ending) (x : Refusal) → ending_of o ≡ Some e → e ≢ endings.Refused x
no_refusal (Ok end) e x is = λ same. cc
no_refusal (Err Exited) e x is = λ same. cc
no_refusal (Err (Faults fa)) e x is = λ same. cc
no_refusal (Err Memory) e x is = absurd (none-some _ is)

fresh_sound : {old : Moment} {steps : ℕ} {does : Action} {reply : Reply} {after : Moment} →
    Fresh old steps does reply after → IsSound reply
fresh_sound {reply = reply} fresh = record { memory = no NoMemory; kept = no SaveFailed }
  where
    no : (x : Refusal) → reply.ending ≢ endings.Refused x
    no x same = no_refusal fresh.runs.end fresh.runs.ending x fresh.runs.ends
        (sym (ap (λ (r : Reply). r.ending) fresh.runs.answer) ∙ same)

-- each state fits with logs that grew
each_carried : (way : Way) (old new : List Log) → way.Grows old new → (ss : List Snapshot) → EachFits way old ss →
    EachFits way new ss
each_carried way old new grown [] fits = tt
each_carried way old new grown (s ∷ ss) fits =
    (way.carried s.state old new grown fits.0, each_carried way old new grown ss fits.1)

module _ (way : Way) (texts : TextsAreReadExactly) where
  -- the list stays
  still : (old : Timeline) → Stands way old → Leaves way old.logs old
  still old stands = record { stands = stands; grown = way.stays old.logs }

  same_step : {logs : List Log} {P Q : Reply → Timeline → Type 0} → Step way logs P →
      ((reply : Reply) (new : Timeline) → P reply new → Q reply new) → Step way logs Q
  same_step (step reply new takes sound left) rule = step reply new (rule reply new takes) sound left

  refuses : (x : Refusal) (logs : List Log) (old : Timeline) → Leaves way logs old → IsSound (refused x) →
      Step way logs (Refuses x old)
  refuses x logs old left sound = step (refused x) old (record { answer = refl; same = refl }) sound left

  moves : (x : Refusal) (old : Timeline) (place : Option ℕ) → Stands way old → IsSound (refused x) →
      ((p : ℕ) → place ≡ Some p → p < length old.snapshots) →
      Step way old.logs (Moves (option_map (at_cursor old) place) x old)
  moves x old (Some p) stands sound within = step (ended endings.Ok) (at_cursor old p) (refl, refl)
      (record { memory = λ e. cc; kept = λ e. cc })
      (still (at_cursor old p) (record { present = within p refl; fits = stands.fits }))
  moves x old None stands sound within = refuses x old.logs old (still old stands) sound

  looks : (shown : List (List ℕ)) (old : Timeline) → Stands way old → Step way old.logs (Looks shown old)
  looks shown old stands = step (record { shown = shown; sent = []; ending = endings.Ok }) old
      (record { answer = refl; same = refl }) (record { memory = λ e. cc; kept = λ e. cc }) (still old stands)

  or_memory : {P : Reply → Timeline → Type 0} {old : Timeline} → Step way old.logs P →
      Step way old.logs (λ reply new. P reply new ⊎ Refuses NoMemory old reply new)
  or_memory s = same_step s (λ reply new p. inl p)

  shows_cells : (cells : Option (List (List ℕ))) (old : Timeline) → Stands way old →
      Step way old.logs (ShowsCells cells old)
  shows_cells (Some cells) old stands = or_memory (looks _ old stands)
  shows_cells None old stands = refuses BadCommand old.logs old (still old stands)
      (record { memory = λ e. cc; kept = λ e. cc })

  shows_stack : (state : State) (old : Timeline) → Stands way old → Step way old.logs (ShowsStack state old)
  shows_stack state old stands =
      let text = spelling second state.stack in
      let split = split_of text in
      let lines = splits_whole (document_lines second (document_of state.stack)) text split.0 split.1 refl split.2 in
      step (record { shown = split.0; sent = []; ending = endings.Ok }) old
      (record { lines = lines; look = record { answer = refl; same = refl } })
      (record { memory = λ e. cc; kept = λ e. cc }) (still old stands)

  -- ---- a fresh command

  deed : (reading : Reading) (text : List ℕ) (state : State) (old : Timeline) (does : Action) → Stands way old →
      way.Fits (moment_in state old) → way.IsSuch does → ReadsAction reading text does →
      Step way old.logs (Commands reading text state old)
  deed reading text state old does stands fits such reads =
      by_reply (way.replies (moment_in state old) old.steps does fits such)
    where
      by_reply : ((reply : Reply) × ((new : Moment) × (Fresh (moment_in state old) old.steps does reply new
          × way.Fits new × way.Grows old.logs new.logs))) ⊎
          ((logs : List Log) × (Locked (moment_in state old) old.steps does logs × way.Grows old.logs logs)) →
          Step way old.logs (Commands reading text state old)
      by_reply (inl (reply, (after, (fresh, fits_after, grown)))) =
          step reply (followed_by old after)
          (Obeys.obeys reads (inl (record { after = after; allowed = fresh; list = refl }))) (fresh_sound fresh)
          (record {
            stands = record {
              present = followed_present old after stands.present;
              fits = of_joined (λ (s : Snapshot). way.Fits (record { state = s.state; logs = after.logs })) old after
                  (each_carried way old.logs after.logs grown old.snapshots stands.fits) fits_after;
            };
            grown = grown;
          })
      by_reply (inr (logs, (locked, grown))) =
          same_step
          (refuses FieldLocked old.logs (record old { logs = logs })
          (record {
            stands = record {
              present = stands.present;
              fits = each_carried way old.logs logs grown old.snapshots stands.fits;
            };
            grown = grown;
          })
          (record { memory = λ e. cc; kept = λ e. cc }))
          (λ reply new refused. Obeys.obeys reads
          (inr (record { logs = logs; locked = locked; refuses = refused })))

  nothing : (reading : Reading) (text : List ℕ) (state : State) (old : Timeline) → Stands way old →
      ((does : Action) → ReadsAction reading text does → ⊥) →
      Step way old.logs (Commands reading text state old)
  nothing reading text state old stands none =
      same_step (refuses BadCommand old.logs old (still old stands) (record { memory = λ e. cc; kept = λ e. cc }))
      (λ reply new refused. Obeys.nothing none refused)

  command : (reading : Reading) (text : List ℕ) (state : State) (old : Timeline) → Stands way old →
      way.Fits (moment_in state old) → ((does : Action) → ReadsAction reading text does → way.IsSuch does) →
      Step way old.logs (Commands reading text state old)
  command Lines text state old stands fits such =
      read_or_not typed_lines ReadsLines text texts.cuts texts.lines
      (λ tree reads. let is : ReadsAction Lines text (act.run_lines tree) = (tree, reads, refl) in
      deed Lines text state old (act.run_lines tree) stands fits (such (act.run_lines tree) is) is)
      (λ none. nothing Lines text state old stands (λ does r. none r.0 r.1))
  command Opening text state old stands fits such =
      deed Opening text state old act.open_stack stands fits (such act.open_stack refl) refl
  command Reference text state old stands fits such =
      read_or_not clicked_part ReadsPart text texts.cuts texts.parts
      (λ tree reads. let is : ReadsAction Reference text (act.click tree) = (tree, reads, refl) in
      deed Reference text state old (act.click tree) stands fits (such (act.click tree) is) is)
      (λ none. nothing Reference text state old stands (λ does r. none r.0 r.1))
  command Typing text state old stands fits such =
      read_or_not typed_text ReadsType text texts.cuts texts.typing
      (λ tree reads. let is : ReadsAction Typing text (typing tree) = (tree, reads, refl) in
      deed Typing text state old (typing tree) stands fits (such (typing tree) is) is)
      (λ none. nothing Typing text state old stands (λ does r. none r.0 r.1))

  -- ---- a line

  dot_line : (line : List ℕ) (said : Option Command) (state : State) (old : Timeline) → Stands way old →
      way.Fits (moment_in state old) → SaysSuch way.IsSuch line → Step way old.logs (Does line said state old)
  dot_line line None state old stands fits such = refuses BadCommand old.logs old (still old stands)
      (record { memory = λ e. cc; kept = λ e. cc })
  dot_line line (Some (Undo k)) state old stands fits such = moves NothingToUndo old (cursor_back k old) stands
      (record { memory = λ e. cc; kept = λ e. cc }) (back_within k old stands.present)
  dot_line line (Some (Redo k)) state old stands fits such = moves NothingToRedo old (cursor_forth k old) stands
      (record { memory = λ e. cc; kept = λ e. cc }) (forth_within k old)
  dot_line line (Some (UndoTo n)) state old stands fits such =
      moves NothingToUndo old (cursor_back_to n old) stands (record { memory = λ e. cc; kept = λ e. cc })
      (before_within old.cursor (length old.snapshots) (last_numbered n (take (old.cursor + 1) old.snapshots))
      stands.present)
  dot_line line (Some Show) state old stands fits such = or_memory (shows_stack state old stands)
  dot_line line (Some Globals) state old stands fits such = or_memory (looks _ old stands)
  dot_line line (Some Where) state old stands fits such = or_memory (looks _ old stands)
  dot_line line (Some History) state old stands fits such = or_memory (looks _ old stands)
  dot_line line (Some Cells) state old stands fits such =
      shows_cells (cells_named state (second_word (words line))) old stands
  dot_line line (Some Save) state old stands fits such = step
      (ended (endings.Save (spelling second state.stack))) old (refl, refl)
      (record { memory = λ e. cc; kept = λ e. cc }) (still old stands)
  dot_line line (Some (Act reading)) state old stands fits such =
      command reading (behind_name line) state old stands fits (λ does. (such reading does).1)
  dot_line line (Some Quit) state old stands fits such = step (ended endings.Quit) old (refl, refl)
      (record { memory = λ e. cc; kept = λ e. cc }) (still old stands)

  short_line : (line : List ℕ) (dot : Bool) (state : State) (old : Timeline) → Stands way old →
      way.Fits (moment_in state old) → SaysSuch way.IsSuch line →
      Step way old.logs (λ reply new. MatchBool dot (Does line (command_in line) state old reply new)
      (Commands Lines line state old reply new))
  short_line line true state old stands fits such = dot_line line (command_in line) state old stands fits such
  short_line line false state old stands fits such =
      command Lines line state old stands fits (λ does. (such Lines does).0)

  line_by : (line : List ℕ) (long : Bool) (state : State) (old : Timeline) → Stands way old →
      way.Fits (moment_in state old) → (long ≡ false → SaysSuch way.IsSuch line) →
      Step way old.logs
      (λ reply new. MatchBool long (Refuses LineTooLong old reply new) (DoesLine line state old reply new))
  line_by line true state old stands fits such = refuses LineTooLong old.logs old (still old stands)
      (record { memory = λ e. cc; kept = λ e. cc })
  line_by line false state old stands fits such =
      short_line line (is_dot_line line) state old stands fits (such refl)

  line_moves : (line : List ℕ) (old : Timeline) → Stands way old → ShortSaysSuch way.IsSuch line →
      Step way old.logs (LineMoves line old)
  line_moves line old stands such =
      let here = standing old.snapshots old.cursor stands.present in
      let fits : way.Fits (moment_in here.0.state old) =
      of_each (λ (s : Snapshot). way.Fits (record { state = s.state; logs = old.logs })) old.snapshots old.cursor here.0
      stands.fits here.1 in
      same_step
      (line_by line (nat_lt LONGEST_LINE (length line)) here.0.state (line_counted old)
      (record { present = stands.present; fits = stands.fits }) fits such)
      (λ reply new does. record { state = here.0.state; present = (here.0.number, here.1); does = does })

-- ---- a desk, and all lines

-- how a line ends, told beside the desk
data Told (ending : Ending) (old : SeenDesk) : Type 0 where
  told : (end : Ending) (new : SeenDesk) → Kept ending old end new → end ≢ endings.Refused NoMemory →
      end ≢ endings.Refused SaveFailed → Told ending old

tell : (ending : Ending) (old : SeenDesk) → ending ≢ endings.Refused NoMemory → ending ≢ endings.Refused SaveFailed →
    Told ending old
tell (endings.Save text) old memory kept = told endings.Ok (record old { kept = option_map (λ _. text) old.kept })
    (refl, refl) (λ e. cc) (λ e. cc)
tell endings.Ok old memory kept = told endings.Ok old (refl, refl) memory kept
tell (endings.Fault fa) old memory kept = told (endings.Fault fa) old (refl, refl) memory kept
tell (endings.Refused x) old memory kept = told (endings.Refused x) old (refl, refl) memory kept
tell endings.Quit old memory kept = told endings.Quit old (refl, refl) memory kept

-- a desk that has heard of these messages
abbrev pub after_hearing : List SentMessage → SeenDesk → SeenDesk
after_hearing sent desk = record desk { heard = option_map (λ before. before ++ as_heard sent) desk.heard }

-- a line is taken beside a desk, and leaves such a list
data Settled (way : Way) (line : List ℕ) (old : Timeline × SeenDesk) : Type 0 where
  settled : (reply : Reply) (new : Timeline × SeenDesk) → Succeeds (SettlesHeard LineMoves) line old reply new →
      Leaves way old.0.logs new.0 → Settled way line old

settles : (way : Way) → TextsAreReadExactly → (line : List ℕ) (old : Timeline × SeenDesk) → Stands way old.0 →
    ShortSaysSuch way.IsSuch line → Settled way line old
settles way texts line old stands such = by_step (line_moves way texts line old.0 stands such)
  where
    by_end : (reply : Reply) (new : Timeline) → LineMoves line old.0 reply new → Leaves way old.0.logs new →
        Told reply.ending (after_hearing reply.sent old.1) → Settled way line old
    by_end reply new moves left (told end desk kept memory saved) =
        settled (record reply { ending = end }) (new, desk)
        (record {
          taken = record {
            ending = reply.ending;
            told = after_hearing reply.sent old.1;
            taken = moves;
            heard = refl;
            kept = inl kept;
          };
          memory = memory;
          kept = saved;
        }) left

    by_step : Step way old.0.logs (LineMoves line old.0) → Settled way line old
    by_step (step reply new moves sound left) = by_end reply new moves left
        (tell reply.ending (after_hearing reply.sent old.1) sound.memory sound.kept)

-- ---- all lines

-- the lines have a transcript, along which the logs grew so
pub record Transcribed (way : Way) (old : Timeline × SeenDesk) (lines : List (List ℕ)) : Type 0 where
  pub text : List ℕ
  pub new : Timeline × SeenDesk
  pub transcript : Transcript old lines text new
  pub grown : way.Grows old.0.logs new.0.logs

-- a line, and those behind it unless it quits
and_then : (way : Way) (line : List ℕ) (lines : List (List ℕ)) (old : Timeline × SeenDesk) (reply : Reply)
    (mid : Timeline × SeenDesk) → Succeeds (SettlesHeard LineMoves) line old reply mid →
    way.Grows old.0.logs mid.0.logs → (quits : Bool) → is_quit reply.ending ≡ quits → Transcribed way mid lines →
    Transcribed way old (line ∷ lines)
and_then way line lines old reply mid taken grown true q rest = record {
  text = answer reply ++ [];
  new = mid;
  transcript = (
    reply,
    mid,
    [],
    taken,
    refl,
    subst
        (λ b. MatchBool b ((◌≡◌ {A = List ℕ} [] []) × (mid ≡ mid)) (Transcript mid lines [] mid)) (sym q)
        (refl, refl),
  );
  grown = grown;
}
and_then way line lines old reply mid taken grown false q rest = record {
  text = answer reply ++ rest.text;
  new = rest.new;
  transcript = (
    reply,
    mid,
    rest.text,
    taken,
    refl,
    subst
        (λ b. MatchBool b ((rest.text ≡ []) × (rest.new ≡ mid)) (Transcript mid lines rest.text rest.new)) (sym q)
        rest.transcript,
  );
  grown = way.joined old.0.logs mid.0.logs rest.new.0.logs grown rest.grown;
}

from : (way : Way) → TextsAreReadExactly → (old : Timeline × SeenDesk) (lines : List (List ℕ)) → Stands way old.0 →
    AllByRecursion (ShortSaysSuch way.IsSuch) lines → Transcribed way old lines
from way texts old [] stands such =
    record { text = []; new = old; transcript = (refl, refl); grown = way.stays old.0.logs }
from way texts old (line ∷ lines) stands such = by_line (settles way texts line old stands such.0)
    (λ mid stands. from way texts mid lines stands such.1)
  where
    by_line : Settled way line old → ((mid : Timeline × SeenDesk) → Stands way mid.0 → Transcribed way mid lines) →
        Transcribed way old (line ∷ lines)
    by_line (settled reply mid taken left) later = and_then way line lines old reply mid taken left.grown
        (is_quit reply.ending) refl (later mid left.stands)

pub transcribed : (way : Way) → TextsAreReadExactly → (old : Timeline × SeenDesk) (lines : List (List ℕ)) → HasPresent
    old.0 → EachFits way old.0.logs old.0.snapshots → AllByRecursion (ShortSaysSuch way.IsSuch) lines → Transcribed way
    old lines
transcribed way texts old lines present fits such =
    from way texts old lines (record { present = present; fits = fits }) such
