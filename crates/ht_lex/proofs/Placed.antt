-- The tokens of a text stand in it.
use Rattle.std.proofs.Common.{ℕ, ◌≤◌, ◌+◌, List, [], ◌∷◌, length, arith}
use Rattle.std.specs.List.{AllByRecursion}
use Rattle.ht_lex.specs.declared.tokens.Span.{Span}
use Rattle.ht_lex.specs.Tokens.{InOrder}
use Rattle.ht_lex.specs.Place.{IsWithin}
use Rattle.ht_lex.proofs.Spans.{order_le}

pub spans_placed : (text : List ℕ) (place : ℕ) (spans : List Span) → InOrder place spans (length text)
    → AllByRecursion (IsWithin text) spans
spans_placed text place [] h = tt
spans_placed text place (s ∷ ss) h =
    (record { some = h.1; inside = order_le ss s.stop (length text) h.2 }, spans_placed text s.stop ss h.2)

few : (place : ℕ) (spans : List Span) (end : ℕ) → InOrder place spans end → place + length spans ≤ end
few place [] end h = omega (arith, h)
few place (s ∷ ss) end h = let rest = few s.stop ss end h.2 in omega (arith, h.0, h.1, rest)

-- Each token has a byte at least.
pub spans_few : (spans : List Span) (end : ℕ) → InOrder 0 spans end → length spans ≤ end
spans_few spans end h = let all = few 0 spans end h in omega (arith, all)
