-- Numbers of states that go down, whatever a session does.
use Rattle.std.proofs.Common.{◌≡◌, ℕ, zero, suc, ◌+◌, ◌<◌, ◌≤◌, Bool, true, false, cond, List, [], ◌∷◌, ◌++◌, length}
use Rattle.std.proofs.Common.{map, take, reverse, refl, sym, subst, ap, ◌∙◌, inl, inr, arith, append_assoc}
use Rattle.std.specs.Prelude.{Option, Some, None, IfSome, IfErr, OnOk, Result, Ok, Err, nat_le, slice_index_or}
use Rattle.std.proofs.lemmas.Bool.{lt-leb}
use Rattle.std.proofs.lemmas.List.{reverse-append, length-map}
use Rattle.meaning.specs.Actions.{Action}
use Rattle.externals.specs.Cells.{Seen}
use Rattle.externals.specs.Log.{Log}
use Rattle.journal_entries.specs.State.{titles_of, index_of}
use Rattle.change_journal.specs.History.{History, Neighbour, stamp_at, step_with_external, plugged, unplugged}
use Rattle.change_journal.specs.History.{unplugged_at}
use Rattle.change_journal.specs.History.{flipped_back, flipped_back_from, flipped_forth, flipped_forth_from}
use Rattle.session.specs.Moves.{MovesTo, back_by, forth_by, stamps, undone, redone, undone_to, undone_by, places_to}
use Rattle.session.specs.Commands.{behind_name, second, words}
use Rattle.session.specs.Replies.{Moves, obeys, nothing, given_up, ShowsCells, cells_named}
use Rattle.session.specs.Stamped.{DescendFrom, numbers_of, all_stamps, AreStamped}
use Rattle.session.specs.TakesLine.{Adds, Does, Commands, Performs}
use Rattle.session.specs.declared.command.Command.{Command}
use Rattle.session.specs.declared.command.Command.TheVariants as commands
use Rattle.session.specs.declared.command.Reading.{Reading}
use Rattle.session.specs.declared.reply.Refusal.{Refusal}
use Rattle.session.specs.declared.reply.Reply.{Reply}

-- ---- numbers that go down

descend-later : (m n : ℕ) (ns : List ℕ) → m ≤ n → DescendFrom m ns → DescendFrom n ns
descend-later m n [] le d = tt
descend-later m n (k ∷ ks) le d = (omega (arith, d.0), d.1)

descend-behind : (n : ℕ) (ms ns : List ℕ) → DescendFrom n (ms ++ ns) → DescendFrom n ns
descend-behind n [] ns d = d
descend-behind n (m ∷ ms) ns d = descend-later m n ns d.0 (descend-behind m ms ns d.1)

descend-taken : (n k : ℕ) (steps : List Neighbour) → DescendFrom n (numbers_of steps)
    → DescendFrom n (numbers_of (take k steps))
descend-taken n zero steps d = tt
descend-taken n (suc k) [] d = tt
descend-taken n (suc k) (s ∷ ss) d = (d.0, descend-taken s.stamp k ss d.1)

descend-first : (n : ℕ) (ns : List ℕ) (j : ℕ) → DescendFrom n ns → j < length ns → slice_index_or ns j 0 ≤ n
descend-first n [] j d lt = absurd (omega arith)
descend-first n (m ∷ ms) zero d lt = d.0
descend-first n (m ∷ ms) (suc j) d lt = omega (arith, d.0, descend-first m ms j d.1 (omega arith))

descend-at : (n : ℕ) (ns : List ℕ) (i j : ℕ) → DescendFrom n ns → i ≤ j → j < length ns
    → slice_index_or ns j 0 ≤ slice_index_or ns i 0
descend-at n [] i j d le lt = absurd (omega arith)
descend-at n (m ∷ ms) zero zero d le lt = omega arith
descend-at n (m ∷ ms) zero (suc j) d le lt = descend-first m ms j d.1 (omega arith)
descend-at n (m ∷ ms) (suc i) zero d le lt = absurd (omega arith)
descend-at n (m ∷ ms) (suc i) (suc j) d le lt = descend-at m ms i j d.1 (omega arith) (omega arith)

-- a state further back has no higher number
pub further_back : (h : History) (i j : ℕ) → DescendFrom h.stamp (numbers_of h.past) → i ≤ j → j ≤ length h.past
    → stamp_at h j ≤ stamp_at h i
further_back h i j d le within =
    descend-at h.stamp (stamps h) i j (same, d) le (omega (arith, length-map h.past (λ step. step.stamp)))
  where
    same : h.stamp ≤ h.stamp
    same = omega arith

-- where a state's number is too high, so are those of all nearer ones
pub all_high : (n i : ℕ) (h : History) → DescendFrom h.stamp (numbers_of h.past) → i ≤ length h.past → n < stamp_at h i
    → (k : ℕ) → k < i + 1 → nat_le (stamp_at h k) n ≡ false
all_high n i h d within here k lt =
    lt-leb (stamp_at h k) n (omega (arith, here, further_back h k i d (omega arith) within))

-- ---- what a session does

pub stamped-later : (m n : ℕ) (h : History) → m ≤ n → AreStamped m h → AreStamped n h
stamped-later m n h le d = descend-later m n (all_stamps h) le d

-- those up to the cursor
here_back : (n : ℕ) (h : History) → AreStamped n h → DescendFrom n (stamps h)
here_back n h d = descend-behind n (reverse (numbers_of h.future)) (stamps h) d

pub stamped-past : (n : ℕ) (h : History) → AreStamped n h → DescendFrom h.stamp (numbers_of h.past)
stamped-past n h d = (here_back n h d).1

all_back : (h : History) (steps : List Neighbour) → h.past ≡ steps
    → all_stamps (flipped_back_from h steps) ≡ all_stamps h
all_back h [] e = refl
all_back h (s ∷ ss) e =
    let front = reverse (numbers_of h.future) in
    ap (λ (t : List ℕ). t ++ (s.stamp ∷ numbers_of ss)) (reverse-append (h.stamp ∷ []) (numbers_of h.future))
    ∙ append_assoc front (h.stamp ∷ []) (s.stamp ∷ numbers_of ss)
    ∙ sym (ap (λ (steps : List Neighbour). front ++ h.stamp ∷ numbers_of steps) e)

all_forth : (h : History) (steps : List Neighbour) → h.future ≡ steps
    → all_stamps (flipped_forth_from h steps) ≡ all_stamps h
all_forth h [] e = refl
all_forth h (s ∷ ss) e =
    sym (ap (λ (steps : List Neighbour). reverse (numbers_of steps) ++ stamps h) e
    ∙ ap (λ (t : List ℕ). t ++ stamps h) (reverse-append (s.stamp ∷ []) (numbers_of ss))
    ∙ append_assoc (reverse (numbers_of ss)) (s.stamp ∷ []) (stamps h))

stamped-back_by : (n k : ℕ) (h : History) → AreStamped n h → AreStamped n (back_by k h)
stamped-back_by n zero h d = d
stamped-back_by n (suc k) h d =
    stamped-back_by n k (flipped_back h) (subst (DescendFrom n) (sym (all_back h h.past refl)) d)

stamped-forth_by : (n k : ℕ) (h : History) → AreStamped n h → AreStamped n (forth_by k h)
stamped-forth_by n zero h d = d
stamped-forth_by n (suc k) h d =
    stamped-forth_by n k (flipped_forth h) (subst (DescendFrom n) (sym (all_forth h h.future refl)) d)

-- a move leads to a history whose numbers go down, if to any
abbrev Leads : ℕ → Option History → Type 0
Leads n there = IfSome there (AreStamped n)

leads-undone : (n k : ℕ) (h : History) → AreStamped n h → Leads n (undone k h)
leads-undone n k h d = by (nat_le k (length h.past))
  where
    by : (b : Bool) → Leads n (cond b (Some (back_by k h)) None)
    by true = stamped-back_by n k h d
    by false = tt

leads-redone : (n k : ℕ) (h : History) → AreStamped n h → Leads n (redone k h)
leads-redone n k h d = by (nat_le k (length h.future))
  where
    by : (b : Bool) → Leads n (cond b (Some (forth_by k h)) None)
    by true = stamped-forth_by n k h d
    by false = tt

leads-undone_to : (n k : ℕ) (h : History) → AreStamped n h → Leads n (undone_to k h)
leads-undone_to n k h d = by (places_to k h)
  where
    by : (places : Option ℕ) → Leads n (undone_by h places)
    by None = tt
    by (Some zero) = tt
    by (Some (suc i)) = stamped-back_by n (suc i) h d

moved-to : (n : ℕ) (there : Option History) (refusal : Refusal) (old new : History) (result : Result (Unit {0}) Refusal)
    → Leads n there → AreStamped n old → MovesTo there refusal old result new → AreStamped n new
moved-to n (Some there) refusal old new result leads d m = subst (AreStamped n) (sym m.1) leads
moved-to n None refusal old new result leads d m = subst (AreStamped n) (sym m.1) d

pub stamped-undone : (n k : ℕ) (refusal : Refusal) (old new : History) (result : Result (Unit {0}) Refusal)
    → AreStamped n old → MovesTo (undone k old) refusal old result new → AreStamped n new
stamped-undone n k refusal old new result d m =
    moved-to n (undone k old) refusal old new result (leads-undone n k old d) d m

pub stamped-redone : (n k : ℕ) (refusal : Refusal) (old new : History) (result : Result (Unit {0}) Refusal)
    → AreStamped n old → MovesTo (redone k old) refusal old result new → AreStamped n new
stamped-redone n k refusal old new result d m =
    moved-to n (redone k old) refusal old new result (leads-redone n k old d) d m

pub stamped-undone_to : (n k : ℕ) (refusal : Refusal) (old new : History) (result : Result (Unit {0}) Refusal)
    → AreStamped n old → MovesTo (undone_to k old) refusal old result new → AreStamped n new
stamped-undone_to n k refusal old new result d m =
    moved-to n (undone_to k old) refusal old new result (leads-undone_to n k old d) d m

moves : (n : ℕ) (there : Option History) (refusal : Refusal) (old new : History) (reply : Reply) → Leads n there
    → AreStamped n old → Moves there refusal old reply new → AreStamped n new
moves n (Some there) refusal old new reply leads d m = subst (AreStamped n) (sym m.1) leads
moves n None refusal old new reply leads d m = subst (AreStamped n) (sym m.same) d

adds : (steps : ℕ) (does : Action) (n : ℕ) (old new : History) (reply : Reply) → AreStamped n old
    → Adds steps does n old reply new → AreStamped n new
adds steps does n old new reply d a =
    subst (AreStamped n) (sym a.joined)
    (subst (λ (m : ℕ). DescendFrom n
    (m ∷ numbers_of (take old.depth
    (record {
      state = a.batch.state;
      stamp = old.stamp;
      undo = a.batch.undo;
      redo = a.batch.redo;
      trail =
          a.batch.trail;
    } ∷ old.past)))) (sym a.numbered) (le, joined))
  where
    le : n ≤ n
    le = omega arith

    joined : DescendFrom n (numbers_of
        (take old.depth
        (record {
          state = a.batch.state;
          stamp = old.stamp;
          undo = a.batch.undo;
          redo = a.batch.redo;
          trail =
              a.batch.trail;
        } ∷ old.past)))
    joined = descend-taken n old.depth
        (record {
          state = a.batch.state;
          stamp = old.stamp;
          undo = a.batch.undo;
          redo = a.batch.redo;
          trail =
              a.batch.trail;
        } ∷ old.past) (here_back n old d)

done_stamps : (steps : ℕ) (does : Action) (n : ℕ) (old new : History) (reply : Reply) → AreStamped n old
    → Does steps does n old reply new → AreStamped n new
done_stamps steps does n old new reply d (inl a) = adds steps does n old new reply d a
done_stamps steps does n old new reply d (inr k) = subst (AreStamped n) (sym k.same) d

-- what a user does, as the line of this number
pub stamped-done : (steps : ℕ) (reading : Reading) (text : List ℕ) (n : ℕ) (old new : History) (reply : Reply)
    → AreStamped n old → Commands steps reading text n old reply new → AreStamped n new
stamped-done steps reading text n old new reply d (obeys {does} reads a) = done_stamps steps does n old new reply d a
stamped-done steps reading text n old new reply d (nothing none p) = subst (AreStamped n) (sym p.same) d
stamped-done steps reading text n old new reply d (given_up p) = subst (AreStamped n) (sym p.same) d

shows_cells : (cells : Option (List (List ℕ))) (n : ℕ) (old new : History) (reply : Reply) → AreStamped n old
    → ShowsCells cells old reply new → AreStamped n new
shows_cells (Some cells) n old new reply d (inl p) = subst (AreStamped n) (sym p.same) d
shows_cells (Some cells) n old new reply d (inr p) = subst (AreStamped n) (sym p.same) d
shows_cells None n old new reply d p = subst (AreStamped n) (sym p.same) d

-- a dot line
pub stamped-performed : (steps : ℕ) (line : List ℕ) (command : Option Command) (n : ℕ) (old new : History)
    (reply : Reply) → AreStamped n old → Performs steps line n command old reply new → AreStamped n new
stamped-performed steps line None n old new reply d p = subst (AreStamped n) (sym p.same) d
stamped-performed steps line (Some (commands.Undo k)) n old new reply d p =
    moves n (undone k old) _ old new reply (leads-undone n k old d) d p
stamped-performed steps line (Some (commands.Redo k)) n old new reply d p =
    moves n (redone k old) _ old new reply (leads-redone n k old d) d p
stamped-performed steps line (Some (commands.UndoTo k)) n old new reply d p =
    moves n (undone_to k old) _ old new reply (leads-undone_to n k old d) d p
stamped-performed steps line (Some commands.Show) n old new reply d (inl p) = subst (AreStamped n) (sym p.look.same) d
stamped-performed steps line (Some commands.Show) n old new reply d (inr p) = subst (AreStamped n) (sym p.same) d
stamped-performed steps line (Some commands.Globals) n old new reply d (inl p) = subst (AreStamped n) (sym p.same) d
stamped-performed steps line (Some commands.Globals) n old new reply d (inr p) = subst (AreStamped n) (sym p.same) d
stamped-performed steps line (Some commands.Where) n old new reply d (inl p) = subst (AreStamped n) (sym p.same) d
stamped-performed steps line (Some commands.Where) n old new reply d (inr p) = subst (AreStamped n) (sym p.same) d
stamped-performed steps line (Some commands.History) n old new reply d (inl p) = subst (AreStamped n) (sym p.same) d
stamped-performed steps line (Some commands.History) n old new reply d (inr p) = subst (AreStamped n) (sym p.same) d
stamped-performed steps line (Some commands.Cells) n old new reply d p =
    shows_cells (cells_named old.now (second (words line))) n old new reply d p
stamped-performed steps line (Some commands.Save) n old new reply d p = subst (AreStamped n) (sym p.1) d
stamped-performed steps line (Some (commands.Act reading)) n old new reply d p =
    stamped-done steps reading (behind_name line) n old new reply d p
stamped-performed steps line (Some commands.Quit) n old new reply d p = subst (AreStamped n) (sym p.1) d

numbers-plugged : (x : Seen) (steps : List Neighbour) → numbers_of (map (step_with_external x) steps) ≡ numbers_of steps
numbers-plugged x [] = refl
numbers-plugged x (s ∷ ss) = ap (λ (t : List ℕ). s.stamp ∷ t) (numbers-plugged x ss)

stamped-plugged : (n : ℕ) (h : History) (x : Seen) (log : Log) → AreStamped n h → AreStamped n (plugged h x log)
stamped-plugged n h x log d = subst (DescendFrom n)
    (λ i. reverse (sym (numbers-plugged x h.future) i) ++ h.stamp ∷ sym (numbers-plugged x h.past) i) d

pub stamped-unplugged : (n : ℕ) (name : List ℕ) (h : History) → AreStamped n h → AreStamped n (unplugged name h)
stamped-unplugged n name h d = by (index_of name (titles_of h.now.externals))
  where
    by : (at : Option ℕ) → AreStamped n (unplugged_at h at)
    by None = d
    by (Some i) = ((here_back n h d).0, tt)

-- an external that is plugged or handed back, and one that is unplugged, leave no batch open either
pub stands-plugged : {T A : Type 0} (n : ℕ) (old new : History) (x : Seen) (log : Log) (P : A → Type 0)
    (result : Result T A) → OnOk result (new ≡ plugged old x log) → IfErr result (λ e. P e × (new ≡ old))
    → old.start ≡ None → AreStamped n old → (new.start ≡ None) × AreStamped n new
stands-plugged n old new x log P (Ok done) ok err closed d =
    (ap (λ h. h.start) ok ∙ closed, subst (AreStamped n) (sym ok) (stamped-plugged n old x log d))
stands-plugged n old new x log P (Err e) ok err closed d =
    (ap (λ h. h.start) err.1 ∙ closed, subst (AreStamped n) (sym err.1) d)

pub closed-unplugged : (name : List ℕ) (h : History) → h.start ≡ None → (unplugged name h).start ≡ None
closed-unplugged name h closed = by (index_of name (titles_of h.now.externals))
  where
    by : (at : Option ℕ) → (unplugged_at h at).start ≡ None
    by None = closed
    by (Some i) = refl
