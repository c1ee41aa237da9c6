use Rattle.std.proofs.Common.{rules, ◌≡◌, ℕ, ◌+◌, ◌-◌, ◌<◌, ◌∷◌, ◌++◌, [], length, subst, ap, ◌∙◌, arith, List, Ok}
use Rattle.std.proofs.Common.{codes, ◌==◌, length-append}
use Rattle.stack_text.specs.Reading.{Fails, line_after, piece_at}
use Rattle.stack_file.specs.Pieces.{ended_at}
use Rattle.stack_file.proofs.PieceTexts.{piece-step, piece-fail}
use Rattle.stack_file.proofs.blocks.pieces.Goals as goal

pub returns-in_err-piece : goal.returns-in_err-piece
returns-in_err-piece c =
    let e = c.in_err-piece.field-0.0 in
    let left : c.args.count - c.loop.counter ≡ c.args.count - (c.loop.counter + 1) + 1 = omega arith in
    let size : c.len.result ≡ length c.loop.text.items = omega (arith, c.loop.text.ok.0, c.len.ensures) in
    let value = subst (λ (n : ℕ). Fails e
    (line_after (codes "|") (piece_at (c.args.count == 1) (30001 - n)) c.loop.lines)) size
    c.in_err-piece.ensures.value in
    let known : Fails e (ended_at c.args.count c.args.lines.now) = subst (λ r. Fails e r) c.loop.invariant.left
    (piece-fail (c.args.count == 1) _ _ (30001 - length c.loop.text.items) c.loop.text.items c.loop.lines e left
    value) in
    search (rules, known)

pub loop-preserved : goal.loop-preserved
loop-preserved c =
    let left : c.args.count - c.loop.counter ≡ c.args.count - (c.loop.counter + 1) + 1 = omega arith in
    let piece = c.in_ok-piece.piece.items in
    let text = c.loop.text.items in
    let room : c.len.result ≡ length text = omega (arith, c.loop.text.ok.0, c.len.ensures) in
    let short : length piece < 30001 - length text =
    subst (λ (n : ℕ). length piece < 30001 - n) room c.in_ok-piece.ensures.short in
    let value : line_after (codes "|") (piece_at (c.args.count == 1) (30001 - length text)) c.loop.lines
    ≡ Ok (piece, c.piece.new.self) = subst
    (λ (n : ℕ). line_after (codes "|") (piece_at (c.args.count == 1) (30001 - n)) c.loop.lines
    ≡ Ok (piece, c.piece.new.self)) room c.in_ok-piece.ensures.value in
    let more : c.push.new.self.items ≡ (text ++ piece) ++ 13 ∷ [] = c.in_ok-push.ensures.items
    ∙ ap (λ (t : List ℕ). t ++ 13 ∷ [])
    (c.in_ok-extend_from_slice.ensures.items
    ∙ ap (λ (t : List ℕ). t ++ c.deref.result.now) c.in_ok-reserve.ensures.items
    ∙ ap (λ (p : List ℕ). text ++ p) c.deref.ensures.value) in
    let size : length c.push.new.self.items ≡ length text + length piece + 1 =
    ap length more ∙ omega (arith, length-append (text ++ piece) (13 ∷ []), length-append text piece) in
    record {
      left = piece-step (c.args.count == 1) _ _ (30001 - length text) _ text _ piece c.loop.lines _ left value more
          (omega (arith, size, short)) ∙ c.loop.invariant.left;
      short = omega (arith, size, short);
    }
