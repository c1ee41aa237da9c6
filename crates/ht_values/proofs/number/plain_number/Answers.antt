use Rattle.std.proofs.Common.{◌≡◌, sym, ◌∙◌, SFits, w64, get_or, length, rules, arith}
use Rattle.std.proofs.lemmas.Int.{to_z-of_z}
use Rattle.ht_values.proofs.Spellings.{plain_is_spelled}
use Rattle.ht_values.proofs.number.plain_number.Goals.{else-text-eq48-via-then-text-eq48+else-text-gt1}
use Rattle.ht_values.proofs.number.plain_number.Goals.{else-text-eq48-via-else-text-eq48}
use Rattle.ht_values.proofs.number.plain_number.Goals as goal

pub returns-in-Ok : goal.returns-in-Ok
returns-in-Ok c =
    let z = c.in-Ok.number in
    let ds = c.args.text.now in
    let fits : SFits w64 z = search rules in
    let lead : get_or ds 0 0 ≡ 48 → length ds ≡ 1 =
    elim c.else-text-eq48.branch [
      | else-text-eq48-via-then-text-eq48+else-text-gt1 w ↦
          (λ e. grind (arith, w.if-text-gt1.false, c.is_empty.ensures, c.if-is_empty.false))
      | else-text-eq48-via-else-text-eq48 w ↦ (λ e. absurd (w.if-text-eq48.false e))
    ] in
    rw (to_z-of_z w64 z fits) (plain_is_spelled ds z c.in_ok-size.size (search rules)
    (grind (arith, c.is_empty.ensures, c.if-is_empty.false)) lead (search rules) (search rules)
    (sym c.signed.ensures ∙ c.in-Ok.is))
