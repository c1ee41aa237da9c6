-- Bytes that go out piece by piece.
use Rattle.std.proofs.Common.{◌≡◌, ◌≢◌, ℕ, List, [], ◌∷◌, ◌++◌, Option, Result, Ok, Err, refl, ap, subst, sym, ◌∙◌}
use Rattle.std.proofs.Common.{append_assoc}
use Rattle.std.specs.Io.KnownBytes.{Appends}
use Rattle.devices.specs.Watching.{device_of, failures_of, Rose}
use Rattle.devices.specs.declared.watched.Watched.{Watched}
use Rattle.devices.proofs.Known.{Appends-Appends}
use Rattle.headline.specs.Writing.{WritesOut}

some_more : (xs ys : List ℕ) → xs ≢ [] → xs ++ ys ≢ []
some_more [] ys some is = absurd (some refl)
some_more (x ∷ xs) ys some is = cc

module _ {D E : Type 0} (contents : D → Option (List ℕ)) where
  -- nothing goes out behind a piece that was cut
  pub cut_before : (piece more : List ℕ) (e f : E) (old new : Watched D) → WritesOut contents piece old (Err e) new
      → WritesOut contents (piece ++ more) old (Err f) new
  cut_before piece more e f old new (sent, (unsent, some, is), went, rose) = (
    sent,
    (
      unsent ++ more,
      some_more unsent more some,
      ap (λ (t : List ℕ). t ++ more) is
          ∙ append_assoc sent unsent more,
    ),
    went,
    rose,
  )

  -- a piece goes out behind others
  pub goes_behind : (first piece : List ℕ) (result : Result (Unit {0}) E) (old mid new : Watched D)
      → Appends (contents (device_of old)) (contents (device_of mid)) first → failures_of mid ≡ failures_of old
      → WritesOut contents piece mid result new → WritesOut contents (first ++ piece) old result new
  goes_behind first piece (Ok done) old mid new p same w = (Appends-Appends _ _ _ first piece p w.0, w.1 ∙ same)
  goes_behind first piece (Err e) old mid new p same (sent, (unsent, some, is), went, rose) = (
    first ++ sent,
    (unsent, some, ap (λ (t : List ℕ). first ++ t) is ∙ sym (append_assoc first sent unsent)),
    Appends-Appends _ _ _ first sent p went,
    subst (λ n. Rose n (failures_of new)) same rose,
  )

  pub as_bytes : (a b : List ℕ) (result : Result (Unit {0}) E) (old new : Watched D) → a ≡ b
      → WritesOut contents a old result new → WritesOut contents b old result new
  as_bytes a b result old new is = subst (λ (t : List ℕ). WritesOut contents t old result new) is
