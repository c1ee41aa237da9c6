-- A write has one outcome, which is read next.
use Rattle.std.proofs.Common.{◌≡◌, ℕ, Bool, true, false, List, [], ◌∷◌, Option, Some, None, IsSome, refl, ap, arith}
use Rattle.std.specs.Char.{to_ascii_lowercase}
use Rattle.std.specs.List.{find}
use Rattle.std.specs.Option.{option_and_then}
use Rattle.std.proofs.lemmas.Bool.Decides.{nat_tests}
use Rattle.std.proofs.lemmas.Slice.Eq.{bytes_eq-Decides}
use Rattle.ht_values.specs.Text.{folded, same}
use Rattle.std.proofs.lemmas.Cmp.{nat_list_cmp_total}
use Rattle.object_table.proofs.Maps.{put_option-get}
use Rattle.object_table.proofs.Pairs.{pair_cmp_total, pair_cmp-IsAntisymmetric}
use Rattle.stack_places.specs.Places.{put as put_in_stack}
use Rattle.journal_entries.proofs.Naming.{antisymmetric}
use Rattle.journal_entries.specs.Places.{put}
use Rattle.change_journal.specs.History.{Open}
use Rattle.change_journal.specs.Rising.{BothOpen, Rises}
use Rattle.containers.specs.Laws.{WritesAreDue, WrittenIsRead}
use Rattle.containers.specs.Places.{global, own, field_text}
use Rattle.containers.specs.Variables.{with_value}
use Rattle.containers.specs.Writes.{Writes}
use Rattle.containers.specs.declared.variables.Local.{Local}

nothing_rises : (o : Option Open) → IsSome o → BothOpen o o (λ a b. Rises [] a.trail a b)
nothing_rises (Some o) h = record { state = refl; number = refl; undo = omega arith; redo = omega arith; trail = refl }
nothing_rises None h = cc

pub writes_are_due : WritesAreDue
writes_are_due h h2 v v2 p due s (Writes.nothing_due e) =
    (None, e, record { state = refl; variables = refl; batch = nothing_rises h.start s })
writes_are_due h h2 v v2 p due s (Writes.to_global {t = t} w e m) =
    (Some t, e, record { state = rw w (ap (λ k. k.now) m.history); variables = rw w refl; batch = rw w m.start })
writes_are_due h h2 v v2 p due s (Writes.to_own {t = t} w e m) =
    (Some t, e, record { state = rw w refl; variables = rw w m; batch = rw w (nothing_rises h.start s) })
writes_are_due h h2 v v2 p due s (Writes.to_field {t = t} w e m) =
    (Some t, e, record { state = rw w (ap (λ k. k.now) m.history); variables = rw w refl; batch = rw w m.start })

lowered_again : (b : ℕ) → to_ascii_lowercase (to_ascii_lowercase b) ≡ to_ascii_lowercase b
lowered_again b = grind (arith, nat_tests)

folded_again : (name : List ℕ) → folded (folded name) ≡ folded name
folded_again [] = refl
folded_again (b ∷ bs) = rw (lowered_again b, folded_again bs) refl

same_as_folded : (name : List ℕ) → same (folded name) name ≡ true
same_as_folded name = rw (folded_again name) ((bytes_eq-Decides (folded name) (folded name)).1 refl)

read_value : (name : List ℕ) (t : List ℕ) (ls : List Local)
    → option_and_then (λ l. l.value) (find (λ l. same l.name name) (with_value name (Some t) ls)) ≡ Some t
read_value name t [] = rw (same_as_folded name) refl
read_value name t (l ∷ ls) = step (same l.name name) refl (read_value name t ls)
  where
    step : (b : Bool) → same l.name name ≡ b
        → option_and_then (λ m. m.value) (find (λ m. same m.name name) (with_value name (Some t) ls)) ≡ Some t
        → option_and_then (λ m. m.value) (find (λ m. same m.name name) (with_value name (Some t) (l ∷ ls))) ≡ Some t
    step true e later = rw (e, e) refl
    step false e later = rw (e, e) later

pub written_is_read : WrittenIsRead
unfolding put put_in_stack
written_is_read s v (global name) t = rw (put_option-get nat_list_cmp_total antisymmetric s.globals name (Some t)) refl
written_is_read s v (own name) t = rw (read_value name t v.locals) refl
written_is_read s v (field_text field card) t =
    rw (put_option-get pair_cmp_total pair_cmp-IsAntisymmetric s.stack.texts (field, card) (Some t)) refl
