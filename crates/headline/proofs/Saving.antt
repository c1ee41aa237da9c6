-- What a line saves is the text of the stack, and what a desk then keeps of it.
use Rattle.std.proofs.Common.{◌≡◌, ◌∙◌, ℕ, List, refl, sym, ap, subst, inl, inr, Bool, true, false}
use Rattle.std.specs.Prelude.{Option, Some, None, option_map, Result, Ok, Err, MatchBool, length, nat_lt}
use Rattle.std.proofs.lemmas.Option.{none-some}
use Rattle.devices.specs.Desks.{SeenDesk}
use Rattle.change_journal.specs.History.{History}
use Rattle.meaning.specs.Actions.{Action}
use Rattle.meaning.specs.declared.end.Stop.{Stop}
use Rattle.meaning.specs.declared.end.Stop.TheVariants.{Exited, Fault as Faults, Memory}
use Rattle.stack_text.specs.Listing.{spelling}
use Rattle.stack_text.specs.declared.sheets.Version.TheVariants.{Second as second}
use Rattle.session.specs.Commands.{is_dot_line, command_in, behind_name, second as second_word, words}
use Rattle.session.specs.Meaning.{ending_of}
use Rattle.session.specs.Moves.{undone, redone, undone_to}
use Rattle.session.specs.Replies.{Refuses, Moves, ShowsCells, cells_named, obeys, nothing, given_up}
use Rattle.session.specs.SessionView.{SessionView}
use Rattle.session.specs.TakesLine.{Does, Commands, Performs, Says, TakesLine}
use Rattle.session.specs.declared.command.Command.{Command}
use Rattle.session.specs.declared.command.Command.TheVariants as commands
use Rattle.session.specs.declared.command.Reading.{Reading}
use Rattle.session.specs.declared.command.Reading.TheVariants.{Lines}
use Rattle.session.specs.declared.limits.TheConstants.{LONGEST_LINE}
use Rattle.session.specs.declared.reply.Ending.{Ending}
use Rattle.session.specs.declared.reply.Ending.TheVariants as endings
use Rattle.session.specs.declared.reply.Refusal.{Refusal}
use Rattle.session.specs.declared.reply.Refusal.TheVariants.{NothingToUndo, NothingToRedo, LineTooLong}
use Rattle.session.specs.declared.reply.Reply.{Reply}
use Rattle.headline.specs.Saving.{IsSaved, KeptOrNot}

-- a command never ends by a save
command_saves : (end : Result (Unit {0}) Stop) (ending : Ending) (text : List ℕ) → ending_of end ≡ Some ending
    → IsSaved ending text
command_saves (Ok done) ending text is =
    let same : endings.Ok ≡ ending = cc in subst (λ (e : Ending). IsSaved e text) same tt
command_saves (Err Exited) ending text is =
    let same : endings.Ok ≡ ending = cc in subst (λ (e : Ending). IsSaved e text) same tt
command_saves (Err (Faults fault)) ending text is =
    let same : endings.Fault fault ≡ ending = cc in subst (λ (e : Ending). IsSaved e text) same tt
command_saves (Err Memory) ending text is = absurd (none-some _ is)

-- an answer whose ending is told
told_saves : (told reply : Reply) (text : List ℕ) → reply ≡ told → IsSaved told.ending text → IsSaved reply.ending text
told_saves told reply text is saved = subst (λ (r : Reply). IsSaved r.ending text) (sym is) saved

moves_save : (place : Option History) (refusal : Refusal) (old : History) (reply : Reply) (new : History)
    (text : List ℕ) → Moves place refusal old reply new → IsSaved reply.ending text
moves_save (Some there) refusal old reply new text m = told_saves _ reply text m.0 tt
moves_save None refusal old reply new text m = told_saves _ reply text m.answer tt

cells_save : (cells : Option (List (List ℕ))) (old : History) (reply : Reply) (new : History) (text : List ℕ)
    → ShowsCells cells old reply new → IsSaved reply.ending text
cells_save (Some cells) old reply new text (inl l) = told_saves _ reply text l.answer tt
cells_save (Some cells) old reply new text (inr r) = told_saves _ reply text r.answer tt
cells_save None old reply new text r = told_saves _ reply text r.answer tt

does_save : (steps : ℕ) (does : Action) (number : ℕ) (old : History) (reply : Reply) (new : History) (text : List ℕ)
    → Does steps does number old reply new → IsSaved reply.ending text
does_save steps does number old reply new text (inl a) = told_saves _ reply text a.runs.answer
    (command_saves a.runs.end a.runs.ending text a.runs.ends)
does_save steps does number old reply new text (inr k) = told_saves _ reply text k.answer tt

commands_save : (steps : ℕ) (reading : Reading) (line : List ℕ) (number : ℕ) (old : History) (reply : Reply)
    (new : History) (text : List ℕ) → Commands steps reading line number old reply new → IsSaved reply.ending text
commands_save steps reading line number old reply new text (obeys {does} reads done) =
    does_save steps does number old reply new text done
commands_save steps reading line number old reply new text (nothing none r) = told_saves _ reply text r.answer tt
commands_save steps reading line number old reply new text (given_up g) = told_saves _ reply text g.answer tt

performs_save : (steps : ℕ) (line : List ℕ) (number : ℕ) (command : Option Command) (old : History) (reply : Reply)
    (new : History) → Performs steps line number command old reply new
    → IsSaved reply.ending (spelling second new.now.stack)
performs_save steps line number None old reply new r = told_saves _ reply _ r.answer tt
performs_save steps line number (Some (commands.Undo k)) old reply new m =
    moves_save (undone k old) NothingToUndo old reply new _ m
performs_save steps line number (Some (commands.Redo k)) old reply new m =
    moves_save (redone k old) NothingToRedo old reply new _ m
performs_save steps line number (Some (commands.UndoTo n)) old reply new m =
    moves_save (undone_to n old) NothingToUndo old reply new _ m
performs_save steps line number (Some commands.Show) old reply new (inl s) = told_saves _ reply _ s.look.answer tt
performs_save steps line number (Some commands.Show) old reply new (inr r) = told_saves _ reply _ r.answer tt
performs_save steps line number (Some commands.Globals) old reply new (inl l) = told_saves _ reply _ l.answer tt
performs_save steps line number (Some commands.Globals) old reply new (inr r) = told_saves _ reply _ r.answer tt
performs_save steps line number (Some commands.Where) old reply new (inl l) = told_saves _ reply _ l.answer tt
performs_save steps line number (Some commands.Where) old reply new (inr r) = told_saves _ reply _ r.answer tt
performs_save steps line number (Some commands.History) old reply new (inl l) = told_saves _ reply _ l.answer tt
performs_save steps line number (Some commands.History) old reply new (inr r) = told_saves _ reply _ r.answer tt
performs_save steps line number (Some commands.Cells) old reply new c =
    cells_save (cells_named old.now (second_word (words line))) old reply new _ c
performs_save steps line number (Some commands.Save) old reply new s =
    told_saves _ reply _ s.0 (ap (λ (h : History). spelling second h.now.stack) (sym s.1))
performs_save steps line number (Some (commands.Act reading)) old reply new c =
    commands_save steps reading (behind_name line) number old reply new _ c
performs_save steps line number (Some commands.Quit) old reply new q = told_saves _ reply _ q.0 tt

says_saves : (dot : Bool) (steps : ℕ) (line : List ℕ) (number : ℕ) (old : History) (reply : Reply) (new : History)
    → MatchBool dot (Performs steps line number (command_in line) old reply new)
    (Commands steps Lines line number old reply new) → IsSaved reply.ending (spelling second new.now.stack)
says_saves true steps line number old reply new p = performs_save steps line number (command_in line) old reply new p
says_saves false steps line number old reply new c = commands_save steps Lines line number old reply new _ c

line_saves : (long : Bool) (steps : ℕ) (line : List ℕ) (number : ℕ) (old : History) (reply : Reply) (new : History)
    → MatchBool long (Refuses LineTooLong old reply new) (Says steps line number old reply new)
    → IsSaved reply.ending (spelling second new.now.stack)
line_saves true steps line number old reply new r = told_saves _ reply _ r.answer tt
line_saves false steps line number old reply new s =
    says_saves (is_dot_line line) steps line number old reply new s

-- the text that a line saves is that of the stack after it, which is the one before it
pub saves_stack : (line : List ℕ) (old : SessionView) (reply : Reply) (new : SessionView)
    → TakesLine line old reply new → IsSaved reply.ending (spelling second new.history.now.stack)
saves_stack line old reply new takes = line_saves (nat_lt LONGEST_LINE (length line)) old.steps line new.lines
    old.history reply new.history takes.performed

-- ---- a desk that is asked to keep it

pub desk_keeps : (ending : Ending) (text saved : List ℕ) (old new : SeenDesk) → ending ≡ endings.Save text
    → IsSaved ending saved → new.kept ≡ option_map (λ _. saved) old.kept → new.heard ≡ old.heard
    → new.failures ≡ old.failures → KeptOrNot ending old endings.Ok new
desk_keeps ending text saved old new same is kept heard failures =
    let here : text ≡ saved = subst (λ (e : Ending). IsSaved e saved) same is in
    let of_text : new.kept ≡ option_map (λ _. text) old.kept =
    kept ∙ ap (λ (t : List ℕ). option_map (λ _. t) old.kept) (sym here) in
    subst (λ (e : Ending). KeptOrNot e old endings.Ok new) (sym same)
    (inl (refl, λ i. record { kept = of_text i; heard = heard i; failures = failures i }))
