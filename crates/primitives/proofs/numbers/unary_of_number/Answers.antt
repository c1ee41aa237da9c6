use Rattle.std.proofs.Common.{SFits, ap, refl, rules, sym, w64}
use Rattle.std.proofs.lemmas.Int.{to_z-of_z}
use Rattle.ht_grammar.specs.Trees as tree
use Rattle.meaning.specs.Meaning.{Val}
use Rattle.primitives.proofs.numbers.unary_of_number.Goals as goal

pub returns : goal.returns
returns g c =
    let fits : SFits w64 c.args.number = search rules in
    let value = rw (to_z-of_z w64 c.args.number fits) at c.of_number.ensures in
    Val.one_operand refl (Val.number (ap tree.number (sym value))) c.apply_one.ensures
