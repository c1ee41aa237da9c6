-- More names change nothing for entries that are ready.
use Rattle.std.proofs.Common.{◌≡◌, ◌++◌, ℕ, ◌≤◌, List, [], ◌∷◌, length, map, reverse, refl, ap, ◌∙◌, arith}
use Rattle.std.proofs.Math.ListN.{get_or-append}
use Rattle.std.specs.FinMap.{get}
use Rattle.object_table.specs.Maps.{put_option}
use Rattle.stack_places.specs.Exchange.{IsWider}
use Rattle.stack_places.proofs.Exchanging as stack
use Rattle.journal_entries.specs.State.{State}
use Rattle.journal_entries.specs.Places.{global}
use Rattle.journal_entries.specs.Trails.{at}
use Rattle.journal_entries.specs.Exchange.{Shape, back, back_taken, forth, forth_taken, exchanged, taken, mark_of}
use Rattle.journal_entries.specs.Exchange.{trail_of, IsReady, AreReady}
use Rattle.journal_entries.specs.declared.entry.Entry.{Entry}
use Rattle.journal_entries.specs.declared.entry.Entry.TheVariants.{Global, Current, Stack, External}

exchanged-more : (names more : List (List ℕ)) (h : Shape) (s : State) (e : Entry) → h.names ≡ length names → IsReady h e
    → exchanged (names ++ more) s e ≡ exchanged names s e
unfolding exchanged IsReady
exchanged-more names more h s (Global i v) n r =
    ap (λ k. record s { globals = put_option s.globals k v }) (get_or-append names more [] i (omega arith))
exchanged-more names more h s (Current c) n r = refl
exchanged-more names more h s (Stack e) n r = refl
exchanged-more names more h s (External i p) n r = refl

taken-more : (names more : List (List ℕ)) (h : Shape) (s : State) (e : Entry) → h.names ≡ length names → IsReady h e
    → taken (names ++ more) s e ≡ taken names s e
unfolding taken IsReady
taken-more names more h s (Global i v) n r =
    ap (λ k. Global i (get s.globals k)) (get_or-append names more [] i (omega arith))
taken-more names more h s (Current c) n r = refl
taken-more names more h s (Stack e) n r = refl
taken-more names more h s (External i p) n r = refl

mark_of-more : (names more : List (List ℕ)) (h : Shape) (e : Entry) → h.names ≡ length names → IsReady h e
    → mark_of (names ++ more) e ≡ mark_of names e
unfolding mark_of IsReady
mark_of-more names more h (Global i v) n r = ap (λ k. at (global k)) (get_or-append names more [] i (omega arith))
mark_of-more names more h (Current c) n r = refl
mark_of-more names more h (Stack e) n r = refl
mark_of-more names more h (External i p) n r = refl

pub back-more : (names more : List (List ℕ)) (h : Shape) (s : State) (es : List Entry) → h.names ≡ length names
    → AreReady h es → back (names ++ more) s es ≡ back names s es
back-more names more h s [] n r = refl
back-more names more h s (e ∷ es) n r = exchanged-more names more h (back (names ++ more) s es) e n r.0
    ∙ ap (λ x. exchanged names x e) (back-more names more h s es n r.1)

pub back_taken-more : (names more : List (List ℕ)) (h : Shape) (s : State) (es : List Entry) → h.names ≡ length names
    → AreReady h es → back_taken (names ++ more) s es ≡ back_taken names s es
back_taken-more names more h s [] n r = refl
back_taken-more names more h s (e ∷ es) n r =
    let first = taken-more names more h (back (names ++ more) s es) e n r.0
    ∙ ap (λ x. taken names x e) (back-more names more h s es n r.1) in
    let rest = back_taken-more names more h s es n r.1 in
    λ i. first i ∷ rest i

pub forth-more : (names more : List (List ℕ)) (h : Shape) (s : State) (es : List Entry) → h.names ≡ length names
    → AreReady h es → forth (names ++ more) s es ≡ forth names s es
forth-more names more h s [] n r = refl
forth-more names more h s (e ∷ es) n r = ap (λ x. forth (names ++ more) x es) (exchanged-more names more h s e n r.0)
    ∙ forth-more names more h (exchanged names s e) es n r.1

pub forth_taken-more : (names more : List (List ℕ)) (h : Shape) (s : State) (es : List Entry) → h.names ≡ length names
    → AreReady h es → forth_taken (names ++ more) s es ≡ forth_taken names s es
forth_taken-more names more h s [] n r = refl
forth_taken-more names more h s (e ∷ es) n r =
    let first = taken-more names more h s e n r.0 in
    let rest = ap (λ x. forth_taken (names ++ more) x es) (exchanged-more names more h s e n r.0)
    ∙ forth_taken-more names more h (exchanged names s e) es n r.1 in
    λ i. first i ∷ rest i

marks-more : (names more : List (List ℕ)) (h : Shape) (es : List Entry) → h.names ≡ length names → AreReady h es
    → map (mark_of (names ++ more)) es ≡ map (mark_of names) es
marks-more names more h [] n r = refl
marks-more names more h (e ∷ es) n r =
    let first = mark_of-more names more h e n r.0 in
    let rest = marks-more names more h es n r.1 in
    λ i. first i ∷ rest i

pub trail_of-more : (names more : List (List ℕ)) (h : Shape) (es : List Entry) → h.names ≡ length names → AreReady h es
    → trail_of (names ++ more) es ≡ trail_of names es
trail_of-more names more h es n r = ap reverse (marks-more names more h es n r)

IsReady-wider : (h k : Shape) (e : Entry) → h.names ≤ k.names → h.counts ≡ k.counts → IsWider h.room k.room
    → IsReady h e → IsReady k e
unfolding IsReady
IsReady-wider h k (Global i v) n c w q = omega arith
IsReady-wider h k (Current d) n c w q = tt
IsReady-wider h k (Stack e) n c w q = stack.IsReady-wider h.room k.room e w q
IsReady-wider h k (External i p) n c w q = rw (← c) q

pub AreReady-wider : (h k : Shape) (es : List Entry) → h.names ≤ k.names → h.counts ≡ k.counts → IsWider h.room k.room
    → AreReady h es → AreReady k es
AreReady-wider h k [] n c w q = tt
AreReady-wider h k (e ∷ es) n c w q = (IsReady-wider h k e n c w q.0, AreReady-wider h k es n c w q.1)
