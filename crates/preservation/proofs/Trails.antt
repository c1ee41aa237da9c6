-- The trail after all that a run replaced, and how many entries it has.
use Rattle.std.proofs.Common.{List, [], ◌∷◌, ◌++◌, sym, ap, subst, ◌∙◌, append_assoc}
use Rattle.journal_entries.specs.Places.{Place}
use Rattle.journal_entries.specs.Replaced.{Replacement, replaced_by, replaced_by_turn, places_of}
use Rattle.journal_entries.specs.Trails.{Mark, IsOnce, IsShort, AreAmong, different}
use Rattle.journal_entries.proofs.Trails.{short}
use Rattle.change_journal.specs.Rising.{trail_after_turn}
use Rattle.change_journal.proofs.Short.{AreOf, of-own, among-after}
use Rattle.preservation.specs.Rising.{TrailAfter}

pub trail_trans : {rs ss : List Replacement} {t u v : List Mark} → TrailAfter rs t u → TrailAfter ss u v
    → TrailAfter (rs ++ ss) t v
trail_trans {rs} {ss} {t} {u} {v} (TrailAfter.nothing none same) next =
    subst (λ xs. TrailAfter (xs ++ ss) t v) (sym none) (subst (λ x. TrailAfter ss x v) same next)
trail_trans {rs} {ss} (TrailAfter.change {more = more} s c is rest) next =
    TrailAfter.change s c (ap (λ xs. xs ++ ss) is ∙ append_assoc (replaced_by s c) more ss) (trail_trans rest next)
trail_trans {rs} {ss} (TrailAfter.turn {more = more} i cells cells2 is rest) next =
    TrailAfter.turn i cells cells2 (ap (λ xs. xs ++ ss) is ∙ append_assoc (replaced_by_turn i cells cells2) more ss)
    (trail_trans rest next)

of_first : (ps : List Place) (rs ss : List Replacement) → AreOf ps (rs ++ ss) → AreOf ps rs
of_first ps [] ss h = tt
of_first ps (r ∷ rs) ss h = (h.0, of_first ps rs ss h.1)

of_rest : (ps : List Place) (rs ss : List Replacement) → AreOf ps (rs ++ ss) → AreOf ps ss
of_rest ps [] ss h = h
of_rest ps (r ∷ rs) ss h = of_rest ps rs ss h.1

among_after_turn : (ps : List Place) (rs : List Replacement) (trail : List Mark) → AreAmong ps trail
    → AreAmong ps (trail_after_turn rs trail)
among_after_turn ps [] trail h = h
among_after_turn ps (r ∷ rs) trail h = h

-- each place of the trail is one of those that were replaced
among_all : (ps : List Place) {rs : List Replacement} {t u : List Mark} → TrailAfter rs t u → AreOf ps rs
    → AreAmong ps t → AreAmong ps u
among_all ps (TrailAfter.nothing none same) of h = subst (AreAmong ps) (sym same) h
among_all ps {t = t} (TrailAfter.change {more = more} s c is rest) of h =
    let all = subst (AreOf ps) is of in
    let rs = replaced_by s c in
    among_all ps rest (of_rest ps rs more all) (among-after ps rs t (of_first ps rs more all) h)
among_all ps {t = t} (TrailAfter.turn {more = more} i cells cells2 is rest) of h =
    let all = subst (AreOf ps) is of in
    let rs = replaced_by_turn i cells cells2 in
    among_all ps rest (of_rest ps rs more all) (among_after_turn ps rs t h)

pub short_after : (rs : List Replacement) (trail : List Mark) → TrailAfter rs [] trail → IsOnce trail
    → IsShort trail (different (places_of rs))
short_after rs trail after once = short trail (places_of rs) once (among_all (places_of rs) after (of-own rs) tt)
