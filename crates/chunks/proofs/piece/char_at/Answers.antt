use Rattle.std.proofs.Common.{sym, arith, ◌≤◌, length}
use Rattle.chunks.proofs.Scans.{char_found, char_none}
use Rattle.chunks.proofs.piece.char_at.Goals as goal

pub returns-then-before-text : goal.returns-then-before-text
returns-then-before-text c = sym (char_found c.args.before c.args.text.now c.if-before-text.true)

pub returns-else-before-text : goal.returns-else-before-text
returns-else-before-text c = let past : length c.args.text.now
    ≤ c.args.before = grind arith in sym (char_none c.args.before c.args.text.now past)
