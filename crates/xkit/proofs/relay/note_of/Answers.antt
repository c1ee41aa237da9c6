use Rattle.std.proofs.Common.{◌≡◌, ◌+◌, ◌<◌, get_or, [], ◌∷◌, drop, length, append_assoc, sym, ap, ◌∙◌}
use Rattle.std.proofs.Math.Seq.{drop-cons}
use Rattle.std.proofs.Math.Numerals.{suc-eq-add-one}
use Rattle.std.proofs.lemmas.Option.{get_or_from_slice_get, slice_get_within}
use Rattle.xkit.proofs.relay.note_of.Goals as goal

pub loop-i-preserved : goal.loop-i-preserved
loop-i-preserved c =
    let i = c.loop-i.i in
    let texts = c.args.texts.now in
    let read : get_or texts i [] ≡ c.in_ok-copy.copy =
    get_or_from_slice_get texts i c.at.result.now [] c.at.ensures ∙ sym c.in_ok-copy.ensures.value in
    let within : i < length texts = slice_get_within texts i c.at.result.now c.at.ensures in
    let first : drop i texts ≡ c.in_ok-copy.copy ∷ drop (i + 1) texts =
    drop-cons texts i [] within ∙ rw read (ap (λ n. c.in_ok-copy.copy ∷ drop n texts) (suc-eq-add-one i)) in
    rw (c.in_ok-add-2.ensures, append_assoc, ← first) c.loop-i.invariant
