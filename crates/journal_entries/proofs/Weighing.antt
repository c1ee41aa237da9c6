-- Weights and trails of entries that are recorded and flipped.
use Rattle.std.proofs.Common.{◌≡◌, ◌++◌, ℕ, ◌+◌, List, [], ◌∷◌, map, reverse, refl, ap, ◌∙◌}
use Rattle.std.proofs.lemmas.List.{reverse-append, map-append}
use Rattle.std.proofs.lemmas.List.Sums.{sum_by_push}
use Rattle.stack_places.proofs.Exchanging as stack
use Rattle.journal_entries.specs.State.{State}
use Rattle.journal_entries.specs.Places.{in_stack}
use Rattle.journal_entries.specs.Trails.{mark_at}
use Rattle.journal_entries.specs.Exchange.{exchanged, taken, back, back_taken, forth_taken, entry_weight, weight}
use Rattle.journal_entries.specs.Exchange.{mark_of, trail_of}
use Rattle.journal_entries.specs.declared.entry.Entry.{Entry}
use Rattle.journal_entries.specs.declared.entry.Entry.TheVariants.{Global, Current, Stack, External}
use Rattle.journal_entries.proofs.Going.{back_taken-push}

pub weight-recorded : (es : List Entry) (t : Entry) → weight (es ++ t ∷ []) ≡ weight es + entry_weight t
weight-recorded es t = sum_by_push entry_weight es t

-- what is recorded adds to the batch as it will be once it is flipped the value that is written
pub redo-recorded : (names : List (List ℕ)) (old new : State) (es : List Entry) (t : Entry)
    → exchanged names new t ≡ old → weight (back_taken names new (es ++ t ∷ []))
    ≡ weight (back_taken names old es) + entry_weight (taken names new t)
redo-recorded names old new es t undone = ap weight (back_taken-push names new es t)
    ∙ weight-recorded (back_taken names (exchanged names new t) es) (taken names new t)
    ∙ ap (λ s. weight (back_taken names s es) + entry_weight (taken names new t)) undone

pub trail_of-recorded : (names : List (List ℕ)) (es : List Entry) (t : Entry)
    → trail_of names (es ++ t ∷ []) ≡ mark_of names t ∷ trail_of names es
trail_of-recorded names es t = ap reverse (map-append (mark_of names) es (t ∷ []))
    ∙ reverse-append (map (mark_of names) es) (mark_of names t ∷ [])

-- what comes out of a place has its mark
pub mark_of-taken : (names : List (List ℕ)) (s : State) (e : Entry) → mark_of names (taken names s e) ≡ mark_of names e
unfolding mark_of taken
mark_of-taken names s (Global i v) = refl
mark_of-taken names s (Current c) = refl
mark_of-taken names s (Stack e) = ap (λ p. mark_at (in_stack p)) (stack.place_of-taken s.stack e)
mark_of-taken names s (External i p) = refl

marks-back : (names : List (List ℕ)) (s : State) (es : List Entry)
    → map (mark_of names) (back_taken names s es) ≡ map (mark_of names) es
marks-back names s [] = refl
marks-back names s (e ∷ es) =
    let first = mark_of-taken names (back names s es) e in
    let rest = marks-back names s es in
    λ i. first i ∷ rest i

pub trail_of-back : (names : List (List ℕ)) (s : State) (es : List Entry)
    → trail_of names (back_taken names s es) ≡ trail_of names es
trail_of-back names s es = ap reverse (marks-back names s es)

marks-forth : (names : List (List ℕ)) (s : State) (es : List Entry)
    → map (mark_of names) (forth_taken names s es) ≡ map (mark_of names) es
marks-forth names s [] = refl
marks-forth names s (e ∷ es) =
    let first = mark_of-taken names s e in
    let rest = marks-forth names (exchanged names s e) es in
    λ i. first i ∷ rest i

pub trail_of-forth : (names : List (List ℕ)) (s : State) (es : List Entry)
    → trail_of names (forth_taken names s es) ≡ trail_of names es
trail_of-forth names s es = ap reverse (marks-forth names s es)
