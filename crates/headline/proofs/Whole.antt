-- Each state of the list is whole, all along a run.
use Rattle.std.proofs.Common.{ℕ, List, [], ◌∷◌, ◌++◌, refl, sym, subst, reverse}
use Rattle.std.proofs.lemmas.List.{reverse-append}
use Rattle.devices.specs.Desks.{SeenDesk}
use Rattle.change_journal.specs.History.{History, Neighbour, AreStates, IsHistory}
use Rattle.stack_text.specs.Laws.{Spells, WrittenIsRead}
use Rattle.stack_text.specs.Listing.{spelling}
use Rattle.stack_text.specs.declared.sheets.Version.TheVariants.{Second as second}
use Rattle.headline.specs.Headline.{Snapshot}
use Rattle.headline.specs.Saving.{Settles, TakesWhole, Takes}
use Rattle.headline.specs.Unzipped.{snapshots_of, all_snapshots, timeline_of, timeline_beside}
use Rattle.headline.specs.Whole.{AreWhole, MovesWhole, RunsStayWhole, StopsStayWhole, SavesSpell}
use Rattle.headline.proofs.Following.{lines_follow}
use Rattle.headline.proofs.Sessions.{run_lines, ended_follows, stopped_follows}
use Rattle.std.specs.Io.KnownBytes.{IsAtEnd}
use Rattle.session.specs.SessionView.{SessionView}
use Rattle.session.specs.declared.reply.Reply.{Reply}

whole_append : (xs ys : List Snapshot) → AreWhole xs → AreWhole ys → AreWhole (xs ++ ys)
whole_append [] ys h k = k
whole_append (x ∷ xs) ys h k = (h.0, whole_append xs ys h.1 k)

whole_reverse : (xs : List Snapshot) → AreWhole xs → AreWhole (reverse xs)
whole_reverse [] h = tt
whole_reverse (x ∷ xs) h = subst AreWhole (sym (reverse-append (x ∷ []) xs))
    (whole_append (reverse xs) (x ∷ []) (whole_reverse xs h.1) (h.0, tt))

whole_steps : (titles : List (List ℕ)) (steps : List Neighbour) → AreStates titles steps → AreWhole (snapshots_of steps)
whole_steps titles [] h = tt
whole_steps titles (s ∷ ss) h = (h.0.state, whole_steps titles ss h.1)

whole_list : (h : History) → IsHistory h → AreWhole (all_snapshots h)
whole_list h q =
    let now : Snapshot = record { state = h.now; number = h.stamp } in
    whole_append (reverse (snapshots_of h.past)) (now ∷ snapshots_of h.future)
    (whole_reverse (snapshots_of h.past) (whole_steps q.titles h.past q.past))
    (q.now.state, whole_steps q.titles h.future q.future)

whole_follows : (line : List ℕ) (old : SessionView) (reply : Reply) (new : SessionView) → TakesWhole line old reply new
    → MovesWhole line (timeline_of old) reply (timeline_of new)
whole_follows line old reply new t = record {
  moves = lines_follow line old reply new t.takes;
  before = whole_list old.history t.before;
  after = whole_list new.history t.after;
}

settles_whole : (line : List ℕ) (old : SessionView × SeenDesk) (reply : Reply) (new : SessionView × SeenDesk)
    → Takes line old reply new → Settles MovesWhole line (timeline_beside old) reply (timeline_beside new)
settles_whole line old reply new s = record {
  ending = s.ending;
  told = s.told;
  taken = whole_follows line old.0 (record reply { ending = s.ending }) new.0 s.taken;
  heard = s.heard;
  kept = s.kept;
}

pub runs_stay_whole : RunsStayWhole
runs_stay_whole left ran old read written new e =
    let followed = ended_follows Takes (Settles MovesWhole) timeline_beside settles_whole (IsAtEnd left) ran old read
    written new e in (
      followed,
      run_lines (Settles MovesWhole) (IsAtEnd left) ran (timeline_beside old) read written
          (timeline_beside new) followed,
    )

pub stops_stay_whole : StopsStayWhole
stops_stay_whole left fault old read written new s = stopped_follows Takes (Settles MovesWhole) timeline_beside
    settles_whole (IsAtEnd left) fault old read written new s

pub saves_spell : WrittenIsRead → SavesSpell
saves_spell read_back state old reply new is s =
    let spells : Spells (spelling second state.stack) state.stack =
    record { well_formed = is.stack; version = second; said = tt; text = refl } in
    (spelling second state.stack, s.0, spells, read_back state.stack is.stack)
