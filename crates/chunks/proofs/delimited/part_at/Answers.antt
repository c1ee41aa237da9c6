use Rattle.std.proofs.Common.{◌≡◌, ◌+◌, ◌-◌, ◌<◌, ◌∙◌, sym, ap, drop, false, length, slice_get, true, arith}
use Rattle.std.proofs.Common.{slice_index, eq-eqb, ne_eqb}
use Rattle.chunks.specs.Scan.{all_kept, is_delimiter, scan}
use Rattle.chunks.proofs.Blocks.{next_part}
use Rattle.chunks.proofs.Scans.{inside}
use Rattle.chunks.proofs.delimited.part_at.Goals.{then-text-i+else-left-eq0, else-text-i}
use Rattle.chunks.proofs.delimited.part_at.Goals as goal

pub loop-i-preserved : goal.loop-i-preserved
loop-i-preserved c =
    let d = c.args.delimiter in
    let t = c.args.text.now in
    let i = c.loop-i.i in
    let left = c.loop-i.left in
    let start = c.loop-i.start in
    let within : i < length t = omega (arith, c.rest.invariant.within, c.min.ensures) in
    elim c.if-text-i.branch [
      | then-text-i+else-left-eq0 w ↦
          let cut : is_delimiter d (slice_index t i) ≡ true = eq-eqb (slice_index t i) d w.if-text-i.true in
          let some : 0 < left = omega (arith, w.if-left-eq0.false) in
          c.loop-i.invariant
          ∙ next_part d t start i left within cut some
          ∙ ap (λ s. slice_get (scan (is_delimiter d) all_kept s (i + 1) (drop (i + 1) t)) (left - 1)) (sym w.start-is)
          ∙ ap (slice_get (scan (is_delimiter d) all_kept c.if-text-i.start (i + 1) (drop (i + 1) t))) (sym w.left-is)
      | else-text-i w ↦
          let uncut : is_delimiter d (slice_index t i) ≡ false = ne_eqb (slice_index t i) d w.if-text-i.false in
          c.loop-i.invariant
          ∙ ap (λ ss. slice_get ss left) (inside (is_delimiter d) all_kept t start i left within uncut)
          ∙ ap (λ s. slice_get (scan (is_delimiter d) all_kept s (i + 1) (drop (i + 1) t)) left) (sym w.start-is)
          ∙ ap (slice_get (scan (is_delimiter d) all_kept c.if-text-i.start (i + 1) (drop (i + 1) t))) (sym w.left-is)
    ]
