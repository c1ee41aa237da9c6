-- What each move keeps of what holds of a history.
use Rattle.std.proofs.Common.{◌≡◌, ◌++◌, ◌+◌, ℕ, zero, suc, true, false, List, [], ◌∷◌, map, take, drop, refl, sym, ap}
use Rattle.std.proofs.Common.{◌∙◌, arith, Option, Some, None}
use Rattle.std.proofs.lemmas.Bool.{false_from_ne_true, false≢true, or_parts}
use Rattle.std.proofs.lemmas.Slice.Eq.{bytes_eq-Decides}
use Rattle.std.proofs.lemmas.List.{map-append}
use Rattle.std.proofs.lemmas.List.Elements.{All-append, All-push, All-take, All-drop}
use Rattle.ht_values.specs.Text.{same, folded}
use Rattle.externals.specs.Cells.{Seen, IsExternal}
use Rattle.externals.specs.Log.{Log}
use Rattle.journal_entries.proofs.Once.{and_not_parts}
use Rattle.journal_entries.proofs.Turned.{map-without}
use Rattle.journal_entries.specs.State.{State, titles_of, has_name, are_apart}
use Rattle.change_journal.specs.History.{Neighbour, Open, History, AreStates, IsStateOf, IsHistory, committed}
use Rattle.change_journal.specs.History.{rolled_back, flipped_back, flipped_forth, plugged, unplugged_at}
use Rattle.change_journal.specs.History.{with_external, step_with_external, without_at}

AreStates-take : (ts : List (List ℕ)) (n : ℕ) (steps : List Neighbour) → AreStates ts steps
    → AreStates ts (take n steps)
AreStates-take ts zero [] h = tt
AreStates-take ts (suc n) [] h = tt
AreStates-take ts zero (s ∷ steps) h = tt
AreStates-take ts (suc n) (s ∷ steps) h = (h.0, AreStates-take ts n steps h.1)

pub IsHistory-committed : (h : History) (o : Open) → h.start ≡ Some o → IsHistory h → IsHistory (committed h)
IsHistory-committed h o e q =
    let start = rw e at q.start in
    rw e (record {
      titles = q.titles;
      past = AreStates-take q.titles h.depth _ (start.0, q.past);
      now = q.now;
      future =
          tt;
      start = tt;
    })

pub IsHistory-rolled_back : (h : History) (o : Open) → h.start ≡ Some o → IsHistory h → IsHistory (rolled_back h)
IsHistory-rolled_back h o e q =
    let start = rw e at q.start in
    rw e (record { titles = q.titles; past = q.past; now = start.0; future = q.future; start = tt })

pub IsHistory-flipped_back : (h : History) (step : Neighbour) (rest : List Neighbour) → h.past ≡ step ∷ rest
    → IsHistory h
    → IsHistory (flipped_back h)
IsHistory-flipped_back h step rest e q =
    let past = rw e at q.past in
    rw e (record { titles = q.titles; past = past.1; now = past.0; future = (q.now, q.future); start = q.start })

pub IsHistory-flipped_forth : (h : History) (step : Neighbour) (rest : List Neighbour) → h.future ≡ step ∷ rest
    → IsHistory h
    → IsHistory (flipped_forth h)
IsHistory-flipped_forth h step rest e q =
    let future = rw e at q.future in
    rw e (record { titles = q.titles; past = (q.now, q.past); now = future.0; future = future.1; start = q.start })

-- ---- names

same-turned : (a b : List ℕ) → same a b ≡ true → same b a ≡ true
same-turned a b e = (bytes_eq-Decides (folded b) (folded a)).1 (sym ((bytes_eq-Decides (folded a) (folded b)).0 e))

differ-turned : (a b : List ℕ) → same a b ≡ false → same b a ≡ false
differ-turned a b e = false_from_ne_true (same b a) (λ t. false≢true (sym e ∙ same-turned b a t))

has_name-push : (n : List ℕ) (ns : List (List ℕ)) (t : List ℕ) → has_name n ns ≡ false → same t n ≡ false
    → has_name n (ns ++ t ∷ []) ≡ false
has_name-push n [] t h e = rw e refl
has_name-push n (m ∷ ms) t h e =
    let parts = or_parts (same m n) (has_name n ms) h in rw (parts.0, has_name-push n ms t parts.1 e) refl

are_apart-push : (ns : List (List ℕ)) (t : List ℕ) → are_apart ns ≡ true → has_name t ns ≡ false
    → are_apart (ns ++ t ∷ []) ≡ true
are_apart-push [] t a h = refl
are_apart-push (n ∷ ns) t a h =
    let one = and_not_parts (has_name n ns) (are_apart ns) a in
    let other = or_parts (same n t) (has_name t ns) h in
    rw (has_name-push n ns t one.0 (differ-turned n t other.0), are_apart-push ns t one.1 other.1) refl

has_name-without : (n : List ℕ) (ns : List (List ℕ)) (i : ℕ) → has_name n ns ≡ false
    → has_name n (take i ns ++ drop (i + 1) ns) ≡ false
has_name-without n [] zero h = refl
has_name-without n [] (suc i) h = let m : suc i + 1 ≡ suc (i + 1) = omega arith in rw m refl
has_name-without n (k ∷ ns) zero h = (or_parts (same k n) (has_name n ns) h).1
has_name-without n (k ∷ ns) (suc i) h =
    let m : suc i + 1 ≡ suc (i + 1) = omega arith in
    let parts = or_parts (same k n) (has_name n ns) h in
    rw (m, parts.0, has_name-without n ns i parts.1) refl

are_apart-without : (ns : List (List ℕ)) (i : ℕ) → are_apart ns ≡ true → are_apart (take i ns ++ drop (i + 1) ns) ≡ true
are_apart-without [] zero a = refl
are_apart-without [] (suc i) a = let m : suc i + 1 ≡ suc (i + 1) = omega arith in rw m refl
are_apart-without (n ∷ ns) zero a = (and_not_parts (has_name n ns) (are_apart ns) a).1
are_apart-without (n ∷ ns) (suc i) a =
    let m : suc i + 1 ≡ suc (i + 1) = omega arith in
    let parts = and_not_parts (has_name n ns) (are_apart ns) a in
    rw (m, has_name-without n ns i parts.0, are_apart-without ns i parts.1) refl

state-plugged : (ts : List (List ℕ)) (x : Seen) (s : State) → IsExternal x → has_name x.title ts ≡ false
    → IsStateOf ts s → IsStateOf (ts ++ x.title ∷ []) (with_external x s)
state-plugged ts x s known new q =
    let titles : titles_of (s.externals ++ x ∷ []) ≡ ts ++ x.title ∷ [] =
    map-append (λ e. e.title) s.externals (x ∷ []) ∙ ap (λ ns. ns ++ x.title ∷ []) q.titles in
    record {
      state = record {
        stack = q.state.stack;
        globals = q.state.globals;
        current = q.state.current;
        externals = All-push IsExternal s.externals x q.state.externals known;
        apart = ap are_apart titles ∙ are_apart-push ts x.title (sym (ap are_apart q.titles) ∙ q.state.apart) new;
      };
      titles = titles;
    }

steps-plugged : (ts : List (List ℕ)) (x : Seen) (steps : List Neighbour) → IsExternal x → has_name x.title ts ≡ false
    → AreStates ts steps → AreStates (ts ++ x.title ∷ []) (map (step_with_external x) steps)
steps-plugged ts x [] known new h = tt
steps-plugged ts x (s ∷ steps) known new h =
    (state-plugged ts x s.state known new h.0, steps-plugged ts x steps known new h.1)

pub IsHistory-plugged : (h : History) (x : Seen) (log : Log) → h.start ≡ None → IsExternal x
    → has_name x.title (titles_of h.now.externals) ≡ false → IsHistory h → IsHistory (plugged h x log)
IsHistory-plugged h x log none known new q =
    let free : has_name x.title q.titles ≡ false = rw q.now.titles at new in
    record {
      titles = q.titles ++ x.title ∷ [];
      past = steps-plugged q.titles x h.past known free q.past;
      now = state-plugged q.titles x h.now known free q.now;
      future = steps-plugged q.titles x h.future known free q.future;
      start = rw none tt;
    }

pub IsHistory-unplugged : (h : History) (o : Option ℕ) → IsHistory h → IsHistory (unplugged_at h o)
IsHistory-unplugged h None q = q
IsHistory-unplugged h (Some i) q =
    let titles : titles_of (without_at i h.now.externals) ≡ without_at i (titles_of h.now.externals) =
    map-without (λ e. e.title) h.now.externals i in
    record {
      titles = titles_of (without_at i h.now.externals);
      past = tt;
      now = record {
        state = record {
          stack = q.now.state.stack;
          globals = q.now.state.globals;
          current = q.now.state.current;
          externals = All-append IsExternal (take i h.now.externals) (drop (i + 1) h.now.externals)
              (All-take IsExternal i h.now.externals q.now.state.externals)
              (All-drop IsExternal (i + 1) h.now.externals q.now.state.externals);
          apart = ap are_apart titles ∙ are_apart-without (titles_of h.now.externals) i q.now.state.apart;
        };
        titles = refl;
      };
      future = tt;
      start = tt;
    }
