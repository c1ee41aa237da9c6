-- Lines that go to a writer through a buffer.
use Rattle.std.proofs.Common.{◌≡◌, ℕ, List, [], ◌∷◌, ◌++◌, map, length, take, get_or, ◌<◌, ◌≤◌, ◌+◌, sym, ap, ◌∙◌}
use Rattle.std.proofs.Common.{subst, append_assoc, Option, Some, None, flat_map, OnOk, Result, Ok, Err}
use Rattle.std.specs.Io.KnownBytes.{Appends, append_known}
use Rattle.std.proofs.KnownBytes.{Appends-nil, Appends-trans}
use Rattle.std.proofs.lemmas.Grind.{flat_map-append}
use Rattle.std.proofs.lemmas.List.{append-nil, map_more, take_all}
use Rattle.ht_values.specs.Delimited.{ended_lines}
use Rattle.stack_file.specs.Lines.{with_lines}
use Rattle.stack_file.specs.Passing.{Passes}
use Rattle.stack_file.proofs.Adding.{with_lines-joined}

abbrev Known : Type 0
Known = Option (List ℕ)

abbrev Texts : Type 0
Texts = List (List ℕ)

pub nothing_passes : (w : Known) (b : List ℕ) → Passes [] w b w b
nothing_passes w b = record { grew = Appends-nil (append_known w b) }

pub put_passes : (lines : Texts) (w : Known) (b c : List ℕ) → c ≡ with_lines b lines → Passes lines w b w c
put_passes lines None b c e = record { grew = tt }
put_passes lines (Some x) b c e = record {
  grew = ap (λ (t : List ℕ). x ++ t) (e ∙ with_lines-joined b lines) ∙ sym (append_assoc x b (ended_lines lines));
}

-- lines, and then others
pub passes_then : (lines more : Texts) {w v u : Known} {b c d : List ℕ} → Passes lines w b v c → Passes more v c u d
    → Passes (lines ++ more) w b u d
passes_then lines more {w} {v} {u} {b} {c} {d} first later = record {
  grew = subst (Appends (append_known w b) (append_known u d)) (sym (flat_map-append (λ l. l ++ 10 ∷ []) lines more))
      (Appends-trans (append_known w b) (append_known v c) (append_known u d) (ended_lines lines) (ended_lines more)
      first.grew later.grew);
}

pub same_passes : {lines others : Texts} {w v : Known} {b c : List ℕ} → lines ≡ others → Passes lines w b v c
    → Passes others w b v c
same_passes e p = rw (sym e) p

-- lines that are put into the buffer, which may then be handed over
pub put_then_passed : (lines : Texts) (w v : Known) (b c d : List ℕ) → c ≡ with_lines b lines → Passes [] w c v d
    → Passes lines w b v d
put_then_passed lines w v b c d e p =
    same_passes (append-nil lines) (passes_then lines [] (put_passes lines w b c e) p)

-- ---- a buffer that is handed over

handed_over : (w v : Known) (b c : List ℕ) → Appends w v b → c ≡ [] → Passes [] w b v c
handed_over None v b c took none = record { grew = tt }
handed_over (Some x) None b c took none = absurd took
handed_over (Some x) (Some y) b c took none = record {
  grew = ap (λ (t : List ℕ). y ++ t) none ∙ append-nil y ∙ took ∙ sym (append-nil (x ++ b));
}

pub on_handed_over : {E : Type 0} (r : Result (Unit {0}) E) (w v : Known) (b c : List ℕ) → OnOk r (Appends w v b)
    → OnOk r (c ≡ []) → OnOk r (Passes [] w b v c)
on_handed_over (Ok x) w v b c took none = handed_over w v b c took none
on_handed_over (Err e) w v b c took none = tt

-- all lines are written once the buffer that has the last of them is handed over
pub all_written : (lines : Texts) (w v u : Known) (b c : List ℕ) → b ≡ [] → Passes lines w b v c → Appends v u c
    → Appends w u (ended_lines lines)
all_written lines None v u b c none p took = tt
all_written lines (Some x) None u b c none p took = absurd p.grew
all_written lines (Some x) (Some y) None b c none p took = absurd took
all_written lines (Some x) (Some y) (Some z) b c none p took =
    took ∙ p.grew ∙ ap (λ (t : List ℕ). (x ++ t) ++ ended_lines lines) none
    ∙ ap (λ (t : List ℕ). t ++ ended_lines lines) (append-nil x)

-- ---- the lines of one after the other

module _ {Y : Type 0} (lines : Y → Texts) (g : ℕ → Y) (ids : List ℕ) (i : ℕ) where
  one_more : i < length ids
      → flat_map lines (map g (take i ids)) ++ lines (g (get_or ids i 0)) ≡ flat_map lines (map g (take (i + 1) ids))
  one_more within =
      let next = g (get_or ids i 0) in
      let done = map g (take i ids) in
      sym (ap (flat_map lines) (map_more g ids i 0 within) ∙ flat_map-append lines done (next ∷ [])
      ∙ ap (λ (t : Texts). flat_map lines done ++ t) (append-nil (lines next)))

  pub next_passed : {w v u : Known} {b c d : List ℕ} → i < length ids
      → Passes (flat_map lines (map g (take i ids))) w b v c → Passes (lines (g (get_or ids i 0))) v c u d
      → Passes (flat_map lines (map g (take (i + 1) ids))) w b u d
  next_passed within done next = same_passes (one_more within)
      (passes_then (flat_map lines (map g (take i ids))) (lines (g (get_or ids i 0))) done next)

  pub all_passed : {w v : Known} {b c : List ℕ} → length ids ≤ i
      → Passes (flat_map lines (map g (take i ids))) w b v c → Passes (flat_map lines (map g ids)) w b v c
  all_passed past p = same_passes (ap (λ (xs : List ℕ). flat_map lines (map g xs)) (take_all i ids past)) p
