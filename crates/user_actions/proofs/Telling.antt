-- Messages of the system, one after the other.
use Rattle.std.proofs.Common.{◌≡◌, ◌≤◌, ◌-◌, ◌<◌, List, [], ◌∷◌, length, drop, take, get_or, arith, refl, sym, ap, ◌∙◌}
use Rattle.std.proofs.Math.Seq.{take-length}
use Rattle.meaning.specs.declared.system.SystemMessage.{SystemMessage}

pub none : (messages : List SystemMessage) → length messages < 1 → messages ≡ []
none [] short = refl
none (m ∷ ms) short = absurd (omega (arith, short))

pub split : (messages : List SystemMessage) (d : SystemMessage) → 1 ≤ length messages
    → messages ≡ get_or messages 0 d ∷ take (length messages - 1) (drop 1 messages)
split [] d some = absurd (omega (arith, some))
split (m ∷ ms) d some = ap (λ (xs : List SystemMessage). m ∷ xs)
    (let size : length (m ∷ ms) - 1 ≡ length ms = omega arith in sym (ap (λ n. take n ms) size ∙ take-length ms))
