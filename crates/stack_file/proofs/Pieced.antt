-- The pieces of a text, as they are written one after the other.
use Rattle.std.proofs.Common.{◌≡◌, ℕ, ◌+◌, ◌-◌, ◌<◌, false, List, [], ◌∷◌, length, map, take, drop, refl, sym, ap}
use Rattle.std.proofs.Common.{subst, arith, count_by, Option, Some, None, length-drop, position, option_map, ◌==◌}
use Rattle.std.specs.List.{slice_split}
use Rattle.std.proofs.lemmas.Bool.{false≢true}
use Rattle.std.proofs.lemmas.List.Splits.{length-slice_split, slice_split_first, slice_split_none}
use Rattle.ht_values.specs.Delimited.{delimited}
use Rattle.stack_text.specs.Words.{barred}
use Rattle.stack_file.specs.Lines.{with_lines}
use Rattle.stack_file.specs.Pieces.{around}
use Rattle.stack_file.proofs.Found.{place-is, all-other}

pub pieces_counted : (t : List ℕ) → 0 < length t → length (delimited 13 t) ≡ count_by (λ b. b == 13) t + 1
pieces_counted [] h = absurd (omega arith)
pieces_counted (b ∷ bs) h = length-slice_split (λ c. c == 13) (b ∷ bs)

pub no_pieces : (out t : List ℕ) → length t ≡ 0 → out ≡ with_lines out (map barred (delimited 13 t))
no_pieces out [] e = refl
no_pieces out (b ∷ bs) e = absurd (omega arith)

pub some_pieces : (t : List ℕ) → (length t == 0) ≡ false → slice_split (λ b. b == 13) t ≡ delimited 13 t
some_pieces [] e = absurd (false≢true (sym e))
some_pieces (b ∷ bs) e = refl

-- ---- one piece after the other

abbrev Cut : Type 0
Cut = List ℕ × List ℕ

-- the first piece, and the pieces of what is left
pub first-piece : (rest piece after : List ℕ) → around 13 rest ≡ Some (piece, after)
    → (slice_split (λ b. b == 13) rest ≡ piece ∷ slice_split (λ b. b == 13) after) × (length after < length rest)
first-piece rest piece after is = by (position (λ b. b == 13) rest) refl is
  where
    by : (o : Option ℕ) → position (λ b. b == 13) rest ≡ o
        → option_map {U = Cut} (λ i. (take i rest, drop (i + 1) rest)) o ≡ Some (piece, after)
        → (slice_split (λ b. b == 13) rest ≡ piece ∷ slice_split (λ b. b == 13) after) × (length after < length rest)
    by None at e = absurd cc
    by (Some i) at e =
        let both : ◌≡◌ {A = Cut} (take i rest, drop (i + 1) rest) (piece, after) = cc in
        let front : take i rest ≡ piece = ap (λ (c : Cut). c.0) both in
        let back : drop (i + 1) rest ≡ after = ap (λ (c : Cut). c.1) both in
        let place = place-is (λ b. b == 13) rest i at in
        let within : i < length rest = omega (arith, place.0, place.1) in
        let cut : slice_split (λ b. b == 13) rest ≡ take i rest ∷ slice_split (λ b. b == 13) (drop (i + 1) rest) =
        subst (λ (n : ℕ). slice_split (λ b. b == 13) rest
        ≡ take n rest ∷ slice_split (λ b. b == 13) (drop (n + 1) rest)) place.0
        (slice_split_first (λ b. b == 13) rest 0 place.1) in
        let left : length (drop (i + 1) rest) ≡ length rest - (i + 1) = length-drop (i + 1) rest in
        (rw (← front, ← back) cut, rw (← back) (omega (arith, left, within)))

-- what is written, and then the lines of what is left
pub piece-step : (out new rest piece after : List ℕ) → around 13 rest ≡ Some (piece, after)
    → new ≡ with_lines out (barred piece ∷ [])
    → with_lines new (map barred (slice_split (λ b. b == 13) after))
    ≡ with_lines out (map barred (slice_split (λ b. b == 13) rest))
piece-step out new rest piece after is written = rw (written, (first-piece rest piece after is).0) refl

pub last_piece : (out new rest : List ℕ) → around 13 rest ≡ None → new ≡ with_lines out (barred rest ∷ [])
    → new ≡ with_lines out (map barred (slice_split (λ b. b == 13) rest))
last_piece out new rest none is = by (position (λ b. b == 13) rest) refl none
  where
    by : (o : Option ℕ) → position (λ b. b == 13) rest ≡ o
        → option_map {U = Cut} (λ i. (take i rest, drop (i + 1) rest)) o ≡ None
        → new ≡ with_lines out (map barred (slice_split (λ b. b == 13) rest))
    by (Some i) at e = absurd cc
    by None at e =
        rw (is, slice_split_none (λ b. b == 13) rest (all-other (λ b. b == 13) rest at)) refl

pub empty_piece : (out new rest : List ℕ) → length rest ≡ 0 → new ≡ with_lines out (barred rest ∷ [])
    → new ≡ with_lines out (map barred (slice_split (λ b. b == 13) rest))
empty_piece out new [] none is = is
empty_piece out new (b ∷ bs) none is = absurd (omega arith)
