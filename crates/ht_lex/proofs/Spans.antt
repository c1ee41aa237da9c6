-- Spans in order.
use Rattle.std.proofs.Common.{◌≡◌, ℕ, zero, suc, ◌<◌, ◌≤◌, List, [], ◌∷◌, ◌++◌, length, sym, subst, arith}
use Rattle.std.specs.Prelude.{slice_index_or}
use Rattle.ht_lex.specs.declared.tokens.Span.{Span}
use Rattle.ht_lex.specs.Tokens.{InOrder}

pub order_le : (spans : List Span) (place end : ℕ) → InOrder place spans end → place ≤ end
order_le [] place end h = h
order_le (s ∷ spans) place end h = omega (arith, h.0, h.1, order_le spans s.stop end h.2)

-- A span in the list has a byte, and lies before the end.
pub span_fits : (spans : List Span) (place end k : ℕ) (s : Span) → InOrder place spans end → k < length spans
    → s ≡ slice_index_or spans k s → (s.start < s.stop) × (s.stop ≤ end)
span_fits [] place end k s h below same = absurd (omega arith)
span_fits (x ∷ spans) place end zero s h below same =
    subst (λ (v : Span). (v.start < v.stop) × (v.stop ≤ end)) (sym same) (h.1, order_le spans x.stop end h.2)
span_fits (x ∷ spans) place end (suc k) s h below same = span_fits spans x.stop end k s h.2 (omega arith) same

pub order_snoc : (spans : List Span) (place end : ℕ) (s : Span) → InOrder place spans end → end ≤ s.start
    → s.start < s.stop → InOrder place (spans ++ s ∷ []) s.stop
order_snoc [] place end s h from some = (omega arith, some, omega arith)
order_snoc (x ∷ spans) place end s h from some = (h.0, h.1, order_snoc spans x.stop end s h.2 from some)

pub order_wider : (spans : List Span) (place end more : ℕ) → InOrder place spans end → end ≤ more
    → InOrder place spans more
order_wider [] place end more h le = omega arith
order_wider (x ∷ spans) place end more h le = (h.0, h.1, order_wider spans x.stop end more h.2 le)
