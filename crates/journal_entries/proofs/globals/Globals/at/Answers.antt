use Rattle.std.proofs.Common.{length, ap, arith}
use Rattle.journal_entries.proofs.Listing.{at_end}
use Rattle.journal_entries.proofs.globals.Globals.at.Goals as goal

pub unreachable-requires : goal.unreachable-requires
unreachable-requires c =
    let g = c.args.self.now in
    let past = c.loop-number-test.false in
    at_end g.names g.texts c.loop-number.number c.loop-number.left c.args.i
    (omega (arith, ap (λ n. length n.names) c.self.view_is, c.self.invariant.0)) c.loop-number.invariant c.requires
