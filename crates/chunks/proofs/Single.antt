-- A chunk of one piece.
use Rattle.std.proofs.Common.{◌≡◌, refl, sym, ◌∙◌, ap, ℕ, zero, suc, ◌-◌, ◌<◌, ◌≤◌, List, true, false, length, min}
use Rattle.std.proofs.Common.{max, nat_le, ◌⊎◌, inl, inr, Some, None, ℤ, pos, negsuc, arith}
use Rattle.std.specs.Prelude.{◌<ℤ◌, get_or, if◌then◌else◌, slice_get}
use Rattle.std.proofs.lemmas.Int.{ints}
use Rattle.std.proofs.lemmas.Option.{slice_get_cases}
use Rattle.chunks.specs.declared.chunk.Chunk.{Chunk}
use Rattle.chunks.specs.declared.chunk.Index.TheVariants as index
use Rattle.ht_values.specs.declared.word.ChunkKind.{ChunkKind}
use Rattle.chunks.specs.declared.chunk.Span.{Span}
use Rattle.chunks.specs.Pieces.{across, count, found, pieces, spans, stretch}
use Rattle.chunks.proofs.Puts.{count_spans}

abbrev at_number : ChunkKind → ℤ → Chunk
at_number k z = record { kind = k; from = index.At z; to = index.At z }

module _ (d : ℕ) (k : ChunkKind) (t : List ℕ) where
  pub single_none : (z : ℤ) → z <ℤ pos 1 → found d (record { kind = k; from = index.At z; to = index.At z }) t ≡ None
  unfolding found
  single_none (pos zero) low = let last : min 0 (count d k t) ≡ 0 = omega arith in ap (stretch (spans d k t) 1) last
  single_none (pos (suc n)) low = absurd (omega (arith, ints))
  single_none (negsuc n) low = refl

  single_by : (n : ℕ) → 0 < n → ((s : Span) × (n - 1 < length (spans d k t))
      × (slice_get (spans d k t) (n - 1) ≡ Some s) × (get_or (spans d k t) (n - 1) s ≡ s))
      ⊎ ((length (spans d k t) ≤ n - 1) × (slice_get (spans d k t) (n - 1) ≡ None))
      → stretch (spans d k t) (max n 1) (min n (length (pieces d k t))) ≡ slice_get (spans d k t) (n - 1)
  single_by n some (inl r) =
      let first : max n 1 ≡ n = omega arith in
      let last : min n (length (pieces d k t)) ≡ n = omega (arith, r.1, count_spans d k t) in
      let within : nat_le n n ≡ true = grind arith in
      ap (λ a. stretch (spans d k t) a (min n (length (pieces d k t)))) first
      ∙ ap (stretch (spans d k t) n) last
      ∙ ap (λ v. if v then across (slice_get (spans d k t) (n - 1)) (slice_get (spans d k t) (n - 1)) else None) within
      ∙ ap (λ o. across o o) r.2
      ∙ sym r.2
  single_by n some (inr r) =
      let many : ℕ = length (pieces d k t) in
      let past : nat_le (max n 1) (min n many) ≡ false = grind (arith, r.0, count_spans d k t) in
      ap (λ v. if v then across (slice_get (spans d k t) (max n 1 - 1)) (slice_get (spans d k t) (min n many - 1)) else
      None) past ∙ sym r.1

  pub single_there : (z : ℤ) (n : ℕ) → z ≡ pos n → 0 < n
      → found d (record { kind = k; from = index.At z; to = index.At z }) t ≡ slice_get (spans d k t) (n - 1)
  unfolding found count
  single_there z n e some =
      ap (λ y. found d (at_number k y) t) e ∙ single_by n some (slice_get_cases (spans d k t) (n - 1)).1
