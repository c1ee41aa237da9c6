use Rattle.std.proofs.Common.{◌≡◌, ◌≢◌, ℕ, ◌<◌, List, [], length, take, drop, ap, sym, arith, length-drop}
use Rattle.std.proofs.lemmas.List.{take-append-drop}
use Rattle.headline.proofs.answer.write_piece.Goals as goal

-- bytes are left behind those that went out
left : (n : ℕ) (bytes : List ℕ) → n < length bytes → drop n bytes ≢ []
left n bytes lt is = let none : length (drop n bytes) ≡ 0 = ap length is in omega (arith, none, length-drop n bytes)

pub returns-in-Err : goal.returns-in-Err
returns-in-Err g c =
    let n = c.in-Err.field-0.written in
    let bytes = c.args.bytes.now in
    let part = c.in-Err.ensures.part in
    (take n bytes, (drop n bytes, left n bytes part.0, sym (take-append-drop n bytes)), part.1, c.in-Err.ensures.failed)
