use Rattle.std.proofs.Common.{◌≡◌, arith, eqb, false, rules, slice_index, sym}
use Rattle.std.proofs.lemmas.Bool.Decides.{nat_tests}
use Rattle.ht_lex.proofs.Symbols.{one_ampersand, two_ampersands}
use Rattle.ht_lex.proofs.lexeme.ampersand_lexeme.Goals as goal

pub returns-then-byte_at-eq38-clause-value : goal.returns-then-byte_at-eq38-clause-value
returns-then-byte_at-eq38-clause-value c =
    let second : slice_index c.args.text.now 1 ≡ 38 = first_of (search rules, grind arith) in
    sym (two_ampersands c.args.text.now c.requires second)

pub returns-clause-value : goal.returns-clause-value
returns-clause-value c =
    let other : eqb 38 (slice_index c.args.text.now 1) ≡ false = grind (arith, nat_tests) in
    sym (one_ampersand c.args.text.now c.requires other)
