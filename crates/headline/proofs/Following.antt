-- What lines, calls and runs do to the list of whole states.
use Rattle.std.proofs.Common.{◌≡◌, ℕ, zero, suc, ◌+◌, ◌-◌, ◌<◌, ◌≤◌, inl, inr, min, Bool, true, false, cond, List, []}
use Rattle.std.proofs.Common.{◌∷◌, ◌++◌, length, map, take, drop, refl, sym, ◌∙◌, ap, ap₂, subst, arith, append_assoc}
use Rattle.std.proofs.Common.{length-append, length-take, length-drop, ◌⊎◌, Option, Some, None, option_map, Result}
use Rattle.std.proofs.Common.{IsErrOf, ◌==◌, slice_get, nat_le, nat_lt, reverse, not, MatchBool, slice_index_or}
use Rattle.std.proofs.lemmas.List.{reverse-append, length-reverse, length-map, map-append, drop-append-le}
use Rattle.std.proofs.lemmas.List.{take-append-drop}
use Rattle.std.specs.Io.KnownBytes.{IsAtEnd}
use Rattle.std.specs.List.{position, position_or_len, take-map}
use Rattle.std.proofs.lemmas.List.Quantifiers.{position-Some}
use Rattle.std.proofs.lemmas.Option.{same_Some}
use Rattle.std.proofs.lemmas.Bool.{leb-true, leb-false, lt-ltb, le-ltb, cases_lt}
use Rattle.std.proofs.Math.Seq.{take-append-add, drop-append_seam}
use Rattle.devices.specs.Desks.{SeenDesk}
use Rattle.meaning.specs.Actions.{Action}
use Rattle.externals.specs.Cells.{Seen}
use Rattle.externals.specs.Log.{Log, Follows}
use Rattle.journal_entries.specs.State.{State, seen_at, titles_of, index_of}
use Rattle.change_journal.specs.History.{History, Neighbour, begun, step_with_external, plugged, unplugged_at}
use Rattle.change_journal.specs.History.{flipped_back, flipped_back_from, flipped_forth, flipped_forth_from, without_at}
use Rattle.session.specs.declared.limits.TheConstants.{LONGEST_LINE}
use Rattle.session.specs.Commands.{is_dot_line, command_in, behind_name, second, words}
use Rattle.headline.specs.Headline.{Snapshot, Timeline, LineMoves, Does, DoesLine, Replaces, KeepsOut, Commands, Moved}
use Rattle.headline.specs.Headline.{at_cursor, cursor_back, cursor_forth, cursor_back_to, before, later_or_here}
use Rattle.headline.specs.Headline.{last_numbered, with_one_more, without_one, line_counted, GivesUp}
use Rattle.session.specs.Moves.{MovesTo, back_by, forth_by, stamps, undone, redone, undone_to, undone_by, places_to}
use Rattle.session.specs.Replies.{Refuses, obeys, nothing, given_up, Moves, Looks, ShowsCells, cells_named}
use Rattle.headline.specs.Saving.{Settles, Takes}
use Rattle.session.specs.SessionView.{SessionView, next_number}
use Rattle.session.specs.TakesLine as taken
use Rattle.session.specs.TakesLine.{Adds, Performs, Says}
use Rattle.session.specs.Meaning.{moment}
use Rattle.headline.specs.Unzipped.{snapshots_of, all_snapshots, timeline_of, timeline_beside, LinesFollow, MovesFollow}
use Rattle.headline.specs.Unzipped.{PlugsFollow, OpensFollow, TablesFollow, RunsFollow, StopsFollow, without_if}
use Rattle.session.specs.declared.command.Command.{Command}
use Rattle.session.specs.declared.command.Command.TheVariants as commands
use Rattle.session.specs.declared.command.Reading.{Reading}
use Rattle.session.specs.declared.command.Reading.TheVariants.{Lines}
use Rattle.session.specs.declared.reply.Refusal.{Refusal}
use Rattle.session.specs.declared.reply.Refusal.TheVariants as refusals
use Rattle.session.specs.declared.reply.Reply.{Reply}
use Rattle.session.proofs.Moving.{past-flipped_back, future-flipped_forth}
use Rattle.headline.proofs.Sessions.{run_lines, ended_follows, stopped_follows}

reverse-cons : {A : Type 0} (x : A) (xs : List A) → reverse (x ∷ xs) ≡ reverse xs ++ x ∷ []
reverse-cons x xs = reverse-append (x ∷ []) xs

abbrev snapshot_of : Neighbour → Snapshot
snapshot_of step = record { state = step.state; number = step.stamp }

abbrev present_of : History → Snapshot
present_of h = record { state = h.now; number = h.stamp }

-- ---- flips

all_back : (h : History) (steps : List Neighbour) → h.past ≡ steps
    → all_snapshots (flipped_back_from h steps) ≡ all_snapshots h
all_back h [] e = refl
all_back h (s ∷ ss) e =
    let after = present_of h ∷ snapshots_of h.future in
    sym (ap (λ (steps : List Neighbour). reverse (snapshots_of steps) ++ after) e
    ∙ ap (λ (t : List Snapshot). t ++ after) (reverse-cons (snapshot_of s) (snapshots_of ss))
    ∙ append_assoc (reverse (snapshots_of ss)) (snapshot_of s ∷ []) after)

all_forth : (h : History) (steps : List Neighbour) → h.future ≡ steps
    → all_snapshots (flipped_forth_from h steps) ≡ all_snapshots h
all_forth h [] e = refl
all_forth h (s ∷ ss) e =
    let front = reverse (snapshots_of h.past) in
    ap (λ (t : List Snapshot). t ++ (snapshot_of s ∷ snapshots_of ss))
    (reverse-cons (present_of h) (snapshots_of h.past))
    ∙ append_assoc front (present_of h ∷ []) (snapshot_of s ∷ snapshots_of ss)
    ∙ sym (ap (λ (steps : List Neighbour). front ++ present_of h ∷ snapshots_of steps) e)

-- the bound of the list, and the logs
abbrev beside : History → ℕ × List Log
beside h = (h.depth, h.logs)

beside_back : (h : History) (steps : List Neighbour) → beside (flipped_back_from h steps) ≡ beside h
beside_back h [] = refl
beside_back h (s ∷ ss) = refl

beside_forth : (h : History) (steps : List Neighbour) → beside (flipped_forth_from h steps) ≡ beside h
beside_forth h [] = refl
beside_forth h (s ∷ ss) = refl

-- flips leave the list, its bound and the logs
all_back_by : (k : ℕ) (h : History)
    → (all_snapshots (back_by k h) ≡ all_snapshots h) × (beside (back_by k h) ≡ beside h)
all_back_by zero h = (refl, refl)
all_back_by (suc k) h =
    let rest = all_back_by k (flipped_back h) in (rest.0 ∙ all_back h h.past refl, rest.1 ∙ beside_back h h.past)

all_forth_by : (k : ℕ) (h : History)
    → (all_snapshots (forth_by k h) ≡ all_snapshots h) × (beside (forth_by k h) ≡ beside h)
all_forth_by zero h = (refl, refl)
all_forth_by (suc k) h = let rest = all_forth_by k (flipped_forth h) in
    (rest.0 ∙ all_forth h h.future refl, rest.1 ∙ beside_forth h h.future)

-- and move the cursor
cursor_back_by : (k : ℕ) (h : History) → k ≤ length h.past → length (back_by k h).past ≡ length h.past - k
cursor_back_by zero h le = omega arith
cursor_back_by (suc k) h le = let one = past-flipped_back h (omega arith) in omega
    (arith, one, cursor_back_by k (flipped_back h) (omega (arith, one)))

past_forth : (h : History) (steps : List Neighbour) → 0 < length steps
    → length (flipped_forth_from h steps).past ≡ length h.past + 1
past_forth h [] some = absurd (omega arith)
past_forth h (s ∷ ss) some = omega arith

cursor_forth_by : (k : ℕ) (h : History) → k ≤ length h.future → length (forth_by k h).past ≡ length h.past + k
cursor_forth_by zero h le = omega arith
cursor_forth_by (suc k) h le =
    let one = future-flipped_forth h (omega arith) in
    omega (arith, one, past_forth h h.future (omega arith), cursor_forth_by k (flipped_forth h) (omega (arith, one)))

length-all : (h : History) → length (all_snapshots h) ≡ length h.past + 1 + length h.future
length-all h = omega (
  arith,
  length-append (reverse (snapshots_of h.past)) (present_of h ∷ snapshots_of h.future),
  length-reverse (snapshots_of h.past),
  length-map h.past snapshot_of,
  length-map h.future snapshot_of,
)

length-before : (h : History) → length (reverse (snapshots_of h.past)) ≡ length h.past
length-before h = length-reverse (snapshots_of h.past) ∙ length-map h.past snapshot_of

abbrev standing_of : ℕ → ℕ → History → SessionView
standing_of lines steps h = record { history = h; lines = lines; steps = steps }

module _ (lines steps : ℕ) where
  abbrev at : History → Timeline
  at h = timeline_of (record { history = h; lines = lines; steps = steps })

  back_moves : (k : ℕ) (h : History) → k ≤ length h.past → at (back_by k h) ≡ at_cursor (at h) (length h.past - k)
  back_moves k h le = λ i. record {
    snapshots = (all_back_by k h).0 i;
    cursor = cursor_back_by k h le i;
    depth = ((all_back_by k h).1 i).0;
    lines = lines;
    steps = steps;
    logs = ((all_back_by k h).1 i).1;
  }

  forth_moves : (k : ℕ) (h : History) → k ≤ length h.future → at (forth_by k h) ≡ at_cursor (at h) (length h.past + k)
  forth_moves k h le = λ i. record {
    snapshots = (all_forth_by k h).0 i;
    cursor = cursor_forth_by k h le i;
    depth = ((all_forth_by k h).1 i).0;
    lines = lines;
    steps = steps;
    logs = ((all_forth_by k h).1 i).1;
  }

  -- ---- undo and redo

  undone_is : (k : ℕ) (h : History) → option_map at (undone k h) ≡ option_map (at_cursor (at h)) (cursor_back k (at h))
  undone_is k h =
      elim (nat_le k (length h.past))
      as (λ b. nat_le k (length h.past) ≡ b
      → option_map at (cond b (Some (back_by k h)) None)
      ≡ option_map (at_cursor (at h)) (cond b (Some (length h.past - k)) None)) [
        | true ↦ λ le. ap Some (back_moves k h (leb-true k (length h.past) le))
        | false ↦ λ gt. refl
      ] refl

  redone_is : (k : ℕ) (h : History) → option_map at (redone k h) ≡ option_map (at_cursor (at h)) (cursor_forth k (at h))
  redone_is k h =
      elim (nat_le k (length h.future)) as (λ b. nat_le k (length h.future) ≡ b
      → option_map at (cond b (Some (forth_by k h)) None)
      ≡ option_map (at_cursor (at h))
      (cond (nat_lt (length h.past + k) (length (all_snapshots h))) (Some (length h.past + k)) None)) [
        | true ↦ λ le.
            let fits : k ≤ length h.future = leb-true k (length h.future) le in
            rw (lt-ltb (length h.past + k) (length (all_snapshots h)) (omega (arith, fits, length-all h)))
            (ap Some (forth_moves k h fits))
        | false ↦ λ gt.
            let none : length h.future < k = leb-false k (length h.future) gt in
            rw (le-ltb (length h.past + k) (length (all_snapshots h)) (omega (arith, none, length-all h))) refl
      ] refl

-- ---- undo to a line

-- the first that passes, of one more
position-cons : (p : ℕ → Bool) (x : ℕ) (xs : List ℕ)
    → position p (x ∷ xs) ≡ cond (p x) (Some 0) (option_map suc (position p xs))
position-cons p x xs =
    let n = position_or_len p xs in
    elim (p x) as (λ b. cond (nat_lt (cond (not b) (1 + n) 0) (suc (length xs))) (Some (cond (not b) (1 + n) 0)) None
    ≡ cond b (Some 0) (option_map suc (position p xs))) [
      | true ↦ ap (λ (here : Bool). cond here (Some 0) None) (lt-ltb 0 (suc (length xs)) (omega arith))
      | false ↦ elim (cases_lt n (length xs)) [
        | inl lt ↦ rw (lt-ltb n (length xs) lt, lt-ltb (1 + n) (suc (length xs)) (omega arith))
            (ap Some (let e : 1 + n ≡ suc n = omega arith in e))
        | inr ge ↦ rw (le-ltb n (length xs) ge, le-ltb (1 + n) (suc (length xs)) (omega arith)) refl
      ]
    ]

last-snoc : (n : ℕ) (ys : List Snapshot) (y : Snapshot)
    → last_numbered n (ys ++ y ∷ []) ≡ cond (nat_le y.number n) (Some (length ys)) (last_numbered n ys)
last-snoc n [] y = refl
last-snoc n (x ∷ ys) y =
    ap (later_or_here (nat_le x.number n)) (last-snoc n ys y)
    ∙ (elim (nat_le y.number n) as (λ b. later_or_here (nat_le x.number n)
    (cond b (Some (length ys)) (last_numbered n ys))
    ≡ cond b (Some (suc (length ys))) (later_or_here (nat_le x.number n) (last_numbered n ys)))
    [ true ↦ refl | false ↦ refl ])

abbrev numbers : List Snapshot → List ℕ
numbers = map (λ s. s.number)

-- from the other end
last-reverse : (n : ℕ) (xs : List Snapshot)
    → last_numbered n (reverse xs) ≡ option_map (λ i. length xs - 1 - i)
    (position (λ number. nat_le number n) (numbers xs))
last-reverse n [] = refl
last-reverse n (x ∷ xs) =
    let p : ℕ → Bool = λ number. nat_le number n in
    let here : ℕ → ℕ = λ i. length (x ∷ xs) - 1 - i in
    ap (last_numbered n) (reverse-cons x xs) ∙ last-snoc n (reverse xs) x
    ∙ ap₂ (λ (k : ℕ) (o : Option ℕ). cond (p x.number) (Some k) o) (length-reverse xs) (last-reverse n xs)
    ∙ elim (p x.number) as (λ b. cond b (Some (length xs))
    (option_map (λ i. length xs - 1 - i) (position p (numbers xs)))
    ≡ option_map here (cond b (Some 0) (option_map suc (position p (numbers xs))))) [
      | true ↦ ap Some (omega arith)
      | false ↦ elim (position p (numbers xs))
          as (λ o. option_map (λ i. length xs - 1 - i) o ≡ option_map here (option_map suc o))
          [ None ↦ refl | Some i ↦ ap Some (omega arith) ]
    ]
    ∙ sym (ap (option_map here) (position-cons p x.number (numbers xs)))

numbers_of : (ss : List Neighbour) → numbers (snapshots_of ss) ≡ map (λ step. step.stamp) ss
numbers_of [] = refl
numbers_of (s ∷ ss) = ap (λ (t : List ℕ). s.stamp ∷ t) (numbers_of ss)

up_to_present : (h : History) → take (length h.past + 1) (all_snapshots h) ≡ reverse (snapshots_of h.past)
    ++ present_of h ∷ []
up_to_present h =
    subst (λ n. take (n + 1) (all_snapshots h) ≡ reverse (snapshots_of h.past) ++ present_of h ∷ []) (length-before h)
    (take-append-add (reverse (snapshots_of h.past)) (present_of h ∷ snapshots_of h.future) 1)

-- the last state that is numbered low enough, from the front and from the cursor
last_is : (n : ℕ) (h : History)
    → last_numbered n (take (length h.past + 1) (all_snapshots h)) ≡ option_map (λ i. length h.past - i) (places_to n h)
last_is n h =
    let near : List Snapshot = present_of h ∷ snapshots_of h.past in
    ap (last_numbered n) (up_to_present h ∙ sym (reverse-cons (present_of h) (snapshots_of h.past)))
    ∙ last-reverse n near
    ∙ ap (λ (o : Option ℕ). option_map (λ i. length near - 1 - i) o)
    (ap (λ (ns : List ℕ). position (λ number. nat_le number n) (h.stamp ∷ ns)) (numbers_of h.past))
    ∙ ap (λ m. option_map (λ i. m - i) (places_to n h))
    (let size : length near - 1 ≡ length h.past = omega (arith, length-map h.past snapshot_of) in size)

module _ (lines steps : ℕ) where
  undone_to_is : (n : ℕ) (h : History)
      → option_map (at lines steps) (undone_to n h)
      ≡ option_map (at_cursor (at lines steps h)) (cursor_back_to n (at lines steps h))
  undone_to_is n h = of_place (places_to n h) refl
      ∙ sym (ap (λ (o : Option ℕ). option_map (at_cursor (at lines steps h)) (before (length h.past) o)) (last_is n h))
    where
      of_place : (o : Option ℕ) → places_to n h ≡ o
          → option_map (at lines steps) (undone_by h o)
          ≡ option_map (at_cursor (at lines steps h)) (before (length h.past) (option_map (λ i. length h.past - i) o))
      of_place None is = refl
      of_place (Some zero) is = rw (le-ltb (length h.past - 0) (length h.past) (omega arith)) refl
      of_place (Some (suc k)) is =
          let found = position-Some (λ stamp. nat_le stamp n) (stamps h) (suc k) 0 is in
          let within : suc k ≤ length h.past = omega (arith, found.0, length-map h.past (λ step. step.stamp)) in
          rw (lt-ltb (length h.past - suc k) (length h.past) (omega (arith, within)))
          (ap Some (back_moves lines steps (suc k) h within))

module _ (lines steps : ℕ) (refusal : Refusal) (old h : History) (result : Result (Unit {0}) Refusal) where
  -- what a call does where it finds this history, and where it finds this place
  moved : (there : Option History) (place : Option ℕ)
      → option_map (at lines steps) there ≡ option_map (at_cursor (at lines steps old)) place
      → MovesTo there refusal old result h → Moved place refusal (at lines steps old) result (at lines steps h)
  moved None None is m = (m.0, ap (at lines steps) m.1)
  moved None (Some place) is m = let no : ⊥ = cc in absurd no
  moved (Some there) None is m = let no : ⊥ = cc in absurd no
  moved (Some there) (Some place) is m = (m.0, ap (at lines steps) m.1 ∙ cc)

  -- and where no places at all are asked for
  counted_moved : (k : ℕ) (there : Option History) (place : Option ℕ)
      → option_map (at lines steps) there ≡ option_map (at_cursor (at lines steps old)) place
      → MatchBool (k == 0) (IsErrOf result refusals.BadCommand
      × (standing_of lines steps h ≡ standing_of lines steps old)) (MovesTo there refusal old result h)
      → MatchBool (k == 0) (IsErrOf result refusals.BadCommand × (at lines steps h ≡ at lines steps old))
      (Moved place refusal (at lines steps old) result (at lines steps h))
  counted_moved k there place is m =
      elim (k == 0) as (λ b. MatchBool b
      (IsErrOf result refusals.BadCommand × (standing_of lines steps h ≡ standing_of lines steps old))
      (MovesTo there refusal old result h)
      → MatchBool b (IsErrOf result refusals.BadCommand × (at lines steps h ≡ at lines steps old))
      (Moved place refusal (at lines steps old) result (at lines steps h))) [
        | true ↦ λ p. (p.0, ap timeline_of p.1)
        | false ↦ λ p. moved there place is p
      ] m

pub moves_follow : MovesFollow
moves_follow s k result h =
    let t = timeline_of s in (
      λ m. counted_moved s.lines s.steps refusals.NothingToUndo s.history h result k (undone k s.history)
          (cursor_back k t) (undone_is s.lines s.steps k s.history) m,
      λ m. counted_moved s.lines s.steps refusals.NothingToRedo s.history h result k (redone k s.history)
          (cursor_forth k t) (redone_is s.lines s.steps k s.history) m,
      λ m. moved s.lines s.steps refusals.NothingToUndo s.history h result (undone_to k s.history) (cursor_back_to k t)
          (undone_to_is s.lines s.steps k s.history) m,
    )

-- ---- a state that is added

slice_get-seam : (xs : List Snapshot) (y : Snapshot) (ys : List Snapshot)
    → slice_get (xs ++ y ∷ ys) (length xs) ≡ Some y
slice_get-seam [] y ys = refl
slice_get-seam (x ∷ xs) y ys = slice_get-seam xs y ys

present_is : (h : History) → slice_get (all_snapshots h) (length h.past) ≡ Some (present_of h)
present_is h = subst (λ n. slice_get (all_snapshots h) n ≡ Some (present_of h)) (length-before h)
    (slice_get-seam (reverse (snapshots_of h.past)) (present_of h) (snapshots_of h.future))

reverse-take : (n : ℕ) (xs : List Snapshot) → reverse (take n xs) ≡ drop (length xs - n) (reverse xs)
reverse-take n xs =
    let back : List Snapshot = reverse (drop n xs) in
    let front : List Snapshot = reverse (take n xs) in
    let split : reverse xs ≡ back ++ front =
    ap reverse (sym (take-append-drop n xs)) ∙ reverse-append (take n xs) (drop n xs) in
    let size : length back ≡ length xs - n = length-reverse (drop n xs) ∙ length-drop n xs in
    sym (ap (drop (length xs - n)) split
    ∙ subst (λ m. drop m (back ++ front) ≡ front) size (drop-append_seam back front))

-- the states before the one that is added
kept_states : (depth : ℕ) (old : History) (step : Neighbour) → snapshot_of step ≡ present_of old
    → reverse (snapshots_of (take depth (step ∷ old.past)))
    ≡ drop (length old.past + 1 - depth) (reverse (snapshots_of old.past) ++ present_of old ∷ [])
kept_states depth old step is =
    let shown : snapshots_of (take depth (step ∷ old.past)) ≡ take depth (present_of old ∷ snapshots_of old.past) =
    sym (take-map snapshot_of depth (step ∷ old.past)) ∙ ap (λ s. take depth (s ∷ snapshots_of old.past)) is in
    let size : length (present_of old ∷ snapshots_of old.past) ≡ length old.past + 1 =
    omega (arith, length-map old.past snapshot_of) in
    ap reverse shown ∙ reverse-take depth (present_of old ∷ snapshots_of old.past)
    ∙ ap (λ (xs : List Snapshot). drop (length (present_of old ∷ snapshots_of old.past) - depth) xs)
    (reverse-cons (present_of old) (snapshots_of old.past))
    ∙ ap (λ n. drop (n - depth) (reverse (snapshots_of old.past) ++ present_of old ∷ [])) size

joined_list : (depth : ℕ) (old : History) (step : Neighbour) (added : Snapshot) → snapshot_of step ≡ present_of old
    → reverse (snapshots_of (take depth (step ∷ old.past))) ++ added ∷ []
    ≡ drop (length old.past + 1 - depth) (take (length old.past + 1) (all_snapshots old) ++ added ∷ [])
joined_list depth old step added is =
    let front : List Snapshot = reverse (snapshots_of old.past) ++ present_of old ∷ [] in
    let within : length old.past + 1 - depth ≤ length front =
    omega (arith, length-append (reverse (snapshots_of old.past)) (present_of old ∷ []), length-before old) in
    ap (λ (t : List Snapshot). t ++ added ∷ []) (kept_states depth old step is)
    ∙ sym (drop-append-le (length old.past + 1 - depth) front (added ∷ []) within)
    ∙ sym (ap (λ (t : List Snapshot). drop (length old.past + 1 - depth) (t ++ added ∷ [])) (up_to_present old))

-- ---- lines

module _ (lines steps : ℕ) where
  adds_follow : (does : Action) (old : History) (reply : Reply) (new : History) → Adds steps does lines old reply new
      → Replaces does old.now (at lines steps old) reply (at lines steps new)
  adds_follow does old reply new a =
      let step : Neighbour = record {
        state = a.batch.state;
        stamp = old.stamp;
        undo = a.batch.undo;
        redo = a.batch.redo;
        trail = a.batch.trail;
      } in
      let is : snapshot_of step ≡ present_of old =
      ap (λ (s : State). let x : Snapshot = record { state = s; number = old.stamp } in x) a.began in
      let numbered : Snapshot = record { state = a.end.now; number = a.batch.number } in
      let added : Snapshot = record { state = a.end.now; number = lines } in
      let same : numbered ≡ added =
      ap (λ (n : ℕ). let x : Snapshot = record { state = a.end.now; number = n } in x) a.numbered in
      let size : length (take old.depth (step ∷ old.past))
      ≡ min old.depth (length old.past + 1) = length-take old.depth (step ∷ old.past)
      ∙ ap (min old.depth) (let one : length (step ∷ old.past) ≡ length old.past + 1 = omega arith in one) in
      let all : reverse (snapshots_of (take old.depth (step ∷ old.past))) ++ numbered ∷ []
      ≡ drop (length old.past + 1 - old.depth) (take (length old.past + 1) (all_snapshots old) ++ added ∷ []) =
      ap (λ (s : Snapshot). reverse (snapshots_of (take old.depth (step ∷ old.past))) ++ s ∷ []) same
      ∙ joined_list old.depth old step added is in
      record {
        after = moment a.end;
        allowed = record { begin = begun old lines; end = a.end; runs = a.runs; here = refl; leaves = refl };
        list = ap (at lines steps) a.joined
            ∙ (λ i. record {
              snapshots = all i;
              cursor = size i;
              depth = old.depth;
              lines = lines;
              steps = steps;
              logs = a.end.logs;
            });
      }

  refuses_follow : (refusal : Refusal) (old : History) (reply : Reply) (new : History) → Refuses refusal old reply new
      → Refuses refusal (at lines steps old) reply (at lines steps new)
  refuses_follow refusal old reply new r = record { answer = r.answer; same = ap (at lines steps) r.same }

  moves_to : (there : Option History) (refusal : Refusal) (old : History) (reply : Reply) (new : History)
      → Moves there refusal old reply new
      → Moves (option_map (at lines steps) there) refusal (at lines steps old) reply (at lines steps new)
  moves_to None refusal old reply new m = refuses_follow refusal old reply new m
  moves_to (Some there) refusal old reply new m = (m.0, ap (at lines steps) m.1)

  moves_by : (there : Option History) (place : Option ℕ) (refusal : Refusal) (old : History) (reply : Reply)
      (new : History) → option_map (at lines steps) there ≡ option_map (at_cursor (at lines steps old)) place
      → Moves there refusal old reply new
      → Moves (option_map (at_cursor (at lines steps old)) place) refusal (at lines steps old) reply
      (at lines steps new)
  moves_by there place refusal old reply new is m =
      subst (λ (t : Option Timeline). Moves t refusal (at lines steps old) reply (at lines steps new)) is
      (moves_to there refusal old reply new m)

  looks_follow : (shown : List (List ℕ)) (old : History) (reply : Reply) (new : History) → Looks shown old reply new
      → Looks shown (at lines steps old) reply (at lines steps new)
  looks_follow shown old reply new l = record { answer = l.answer; same = ap (at lines steps) l.same }

  after_cursor : (h : History) → length (all_snapshots h) - (length h.past + 1) ≡ length h.future
  after_cursor h = omega (arith, length-all h)

  gives_up_follows : (old : History) (reply : Reply) (new : History) → taken.GivesUp old reply new
      → GivesUp (at lines steps old) reply (at lines steps new)
  gives_up_follows old reply new g = record { answer = g.answer; same = ap (at lines steps) g.same }

  does_follow : (does : Action) (old : History) (reply : Reply) (new : History)
      → taken.Does steps does lines old reply new
      → Replaces does old.now (at lines steps old) reply (at lines steps new)
      ⊎ KeepsOut does old.now (at lines steps old) reply (at lines steps new)
  does_follow does old reply new (inl a) = inl (adds_follow does old reply new a)
  does_follow does old reply new (inr k) = inr (record {
    logs = k.end.logs;
    locked = record {
      begin = begun old lines;
      end = k.end;
      run = k.run;
      meets = k.meets;
      here = refl;
      leaves = refl;
    };
    refuses = record { answer = k.answer; same = ap (at lines steps) k.same };
  })

  commands_follow : (reading : Reading) (text : List ℕ) (old : History) (reply : Reply) (new : History)
      → taken.Commands steps reading text lines old reply new
      → Commands reading text old.now (at lines steps old) reply (at lines steps new)
  commands_follow reading text old reply new (obeys {does} reads a) = obeys reads (does_follow does old reply new a)
  commands_follow reading text old reply new (nothing none r) =
      nothing none (refuses_follow refusals.BadCommand old reply new r)
  commands_follow reading text old reply new (given_up g) = given_up (gives_up_follows old reply new g)

  cells_follow : (cells : Option (List (List ℕ))) (old : History) (reply : Reply) (new : History)
      → ShowsCells cells old reply new → ShowsCells cells (at lines steps old) reply (at lines steps new)
  cells_follow (Some cells) old reply new (inl l) = inl (looks_follow _ old reply new l)
  cells_follow (Some cells) old reply new (inr r) = inr (refuses_follow refusals.NoMemory old reply new r)
  cells_follow None old reply new r = refuses_follow refusals.BadCommand old reply new r

  performs_follow : (line : List ℕ) (command : Option Command) (old : History) (reply : Reply) (new : History)
      → Performs steps line lines command old reply new
      → Does line command old.now (at lines steps old) reply (at lines steps new)
  performs_follow line None old reply new p = refuses_follow refusals.BadCommand old reply new p
  performs_follow line (Some (commands.Undo k)) old reply new p = moves_by (undone k old)
      (cursor_back k (at lines steps old)) refusals.NothingToUndo old reply new (undone_is lines steps k old) p
  performs_follow line (Some (commands.Redo k)) old reply new p = moves_by (redone k old)
      (cursor_forth k (at lines steps old)) refusals.NothingToRedo old reply new (redone_is lines steps k old) p
  performs_follow line (Some (commands.UndoTo n)) old reply new p = moves_by (undone_to n old)
      (cursor_back_to n (at lines steps old)) refusals.NothingToUndo old reply new (undone_to_is lines steps n old) p
  performs_follow line (Some commands.Show) old reply new (inl s) =
      inl (record { lines = s.lines; look = looks_follow reply.shown old reply new s.look })
  performs_follow line (Some commands.Show) old reply new (inr r) =
      inr (refuses_follow refusals.NoMemory old reply new r)
  performs_follow line (Some commands.Globals) old reply new (inl l) = inl (looks_follow _ old reply new l)
  performs_follow line (Some commands.Globals) old reply new (inr r) =
      inr (refuses_follow refusals.NoMemory old reply new r)
  performs_follow line (Some commands.Where) old reply new (inl l) = inl (looks_follow _ old reply new l)
  performs_follow line (Some commands.Where) old reply new (inr r) =
      inr (refuses_follow refusals.NoMemory old reply new r)
  performs_follow line (Some commands.History) old reply new (inl l) =
      inl (rw (after_cursor old) (looks_follow _ old reply new l))
  performs_follow line (Some commands.History) old reply new (inr r) =
      inr (refuses_follow refusals.NoMemory old reply new r)
  performs_follow line (Some commands.Cells) old reply new p =
      cells_follow (cells_named old.now (second (words line))) old reply new p
  performs_follow line (Some commands.Save) old reply new p = (p.0, ap (at lines steps) p.1)
  performs_follow line (Some (commands.Act reading)) old reply new p =
      commands_follow reading (behind_name line) old reply new p
  performs_follow line (Some commands.Quit) old reply new p = (p.0, ap (at lines steps) p.1)

  says_follows : (line : List ℕ) (old : History) (reply : Reply) (new : History) → Says steps line lines old reply new
      → DoesLine line old.now (at lines steps old) reply (at lines steps new)
  says_follows line old reply new says =
      elim (is_dot_line line) as (λ b. MatchBool b (Performs steps line lines (command_in line) old reply new)
      (taken.Commands steps Lines line lines old reply new)
      → MatchBool b (Does line (command_in line) old.now (at lines steps old) reply (at lines steps new))
      (Commands Lines line old.now (at lines steps old) reply (at lines steps new))) [
        | true ↦ λ p. performs_follow line (command_in line) old reply new p
        | false ↦ λ p. commands_follow Lines line old reply new p
      ] says

pub lines_follow : LinesFollow
lines_follow line old reply new t =
    let lines = next_number old.lines in
    let here : timeline_of new ≡ at lines old.steps new.history =
    λ i. timeline_of (record { history = new.history; lines = t.number i; steps = t.steps i }) in
    let performed = rw t.number at t.performed in
    record {
      state = old.history.now;
      present = (old.history.stamp, present_is old.history);
      does =
          subst (λ (n : Timeline). MatchBool (nat_lt LONGEST_LINE (length line))
          (Refuses refusals.LineTooLong (line_counted (timeline_of old)) reply n)
          (DoesLine line old.history.now (line_counted (timeline_of old)) reply n)) (sym here)
          (elim (nat_lt LONGEST_LINE (length line))
          as (λ b. MatchBool b (Refuses refusals.LineTooLong old.history reply new.history)
          (Says old.steps line lines old.history reply new.history)
          → MatchBool b (Refuses refusals.LineTooLong (at lines old.steps old.history) reply
          (at lines old.steps new.history))
          (DoesLine line old.history.now (at lines old.steps old.history) reply (at lines old.steps new.history))) [
            | true ↦ λ p. refuses_follow lines old.steps refusals.LineTooLong old.history reply new.history p
            | false ↦ λ p. says_follows lines old.steps line old.history reply new.history p
          ] performed);
    }

-- ---- externals plugged in and out

snapshots-with : (x : Seen) (ss : List Neighbour)
    → snapshots_of (map (step_with_external x) ss) ≡ map (with_one_more x) (snapshots_of ss)
snapshots-with x [] = refl
snapshots-with x (s ∷ ss) = ap (λ (t : List Snapshot). with_one_more x (snapshot_of s) ∷ t) (snapshots-with x ss)

map-reverse : (f : Snapshot → Snapshot) (xs : List Snapshot) → map f (reverse xs) ≡ reverse (map f xs)
map-reverse f [] = refl
map-reverse f (x ∷ xs) = ap (map f) (reverse-cons x xs) ∙ map-append f (reverse xs) (x ∷ [])
    ∙ ap (λ (t : List Snapshot). t ++ f x ∷ []) (map-reverse f xs) ∙ sym (reverse-cons (f x) (map f xs))

all_plugged : (x : Seen) (log : Log) (h : History)
    → all_snapshots (plugged h x log) ≡ map (with_one_more x) (all_snapshots h)
all_plugged x log h =
    let f : Snapshot → Snapshot = with_one_more x in
    ap₂ (λ (before after : List Snapshot). reverse before ++ f (present_of h) ∷ after) (snapshots-with x h.past)
    (snapshots-with x h.future)
    ∙ ap (λ (t : List Snapshot). t ++ f (present_of h) ∷ map f (snapshots_of h.future))
    (sym (map-reverse f (snapshots_of h.past)))
    ∙ sym (map-append f (reverse (snapshots_of h.past)) (present_of h ∷ snapshots_of h.future))

from_cursor : (h : History) → drop (length h.past) (all_snapshots h) ≡ present_of h ∷ snapshots_of h.future
from_cursor h = subst (λ n. drop n (all_snapshots h) ≡ present_of h ∷ snapshots_of h.future) (length-before h)
    (drop-append_seam (reverse (snapshots_of h.past)) (present_of h ∷ snapshots_of h.future))

unplug_follows : (lines steps : ℕ) (h : History) (o : Option ℕ)
    → at lines steps (unplugged_at h o) ≡ without_if o (at lines steps h)
unplug_follows lines steps h None = refl
unplug_follows lines steps h (Some i) =
    let alone : List Snapshot → Timeline = λ ss.
    record {
      snapshots = map (without_one i) (take 1 ss);
      cursor = 0;
      depth = h.depth;
      lines = lines;
      steps = steps;
      logs = without_at i h.logs;
    } in
    ap alone (sym (from_cursor h))

pub plugs_follow : PlugsFollow
plugs_follow s x log name = (
  (λ i. record {
    snapshots = all_plugged x log s.history i;
    cursor = length-map s.history.past (step_with_external x)
        i;
    depth = s.history.depth;
    lines = s.lines;
    steps = s.steps;
    logs = s.history.logs ++ log ∷ [];
  }),
  unplug_follows s.lines s.steps s.history (index_of name (titles_of s.history.now.externals)),
)

pub opens_follow : OpensFollow
opens_follow stack externals logs steps depth = refl

-- ---- the table of the externals

present_now : (h : History) (state : State) (number : ℕ)
    → slice_get (all_snapshots h) (length h.past) ≡ Some (record { state = state; number = number }) → h.now ≡ state
present_now h state number here = ap (λ (s : Snapshot). s.state) (same_Some _ _ (sym (present_is h) ∙ here))

pub tables_follow : TablesFollow
tables_follow table s follows state (number, here) =
    subst (λ (u : State). (i : ℕ) → i < length u.externals
    → Follows table (seen_at u i).sort (slice_index_or s.history.logs i []))
    (present_now s.history state number here) follows

-- ---- runs

settles_follow : (line : List ℕ) (old : SessionView × SeenDesk) (reply : Reply) (new : SessionView × SeenDesk)
    → Takes line old reply new → Settles LineMoves line (timeline_beside old) reply (timeline_beside new)
settles_follow line old reply new s = record {
  ending = s.ending;
  told = s.told;
  taken = lines_follow line old.0 (record reply { ending = s.ending }) new.0 s.taken.takes;
  heard = s.heard;
  kept = s.kept;
}

pub runs_follow : RunsFollow
runs_follow left ran old read written new e =
    let followed = ended_follows Takes (Settles LineMoves) timeline_beside settles_follow (IsAtEnd left) ran old read
    written new e in (
      followed,
      run_lines (Settles LineMoves) (IsAtEnd left) ran (timeline_beside old) read written (timeline_beside new)
          followed,
    )

pub stops_follow : StopsFollow
stops_follow left fault old read written new s = stopped_follows Takes (Settles LineMoves) timeline_beside
    settles_follow (IsAtEnd left) fault old read written new s
