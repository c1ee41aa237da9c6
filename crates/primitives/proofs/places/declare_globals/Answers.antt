use Rattle.std.proofs.Common.{rules, refl, drop_of_length-le}
use Rattle.meaning.specs.Places.{DeclaresAll}
use Rattle.primitives.proofs.Lists.{cut}
use Rattle.primitives.proofs.places.declare_globals.Goals as goal

pub loop-name-preserved : goal.loop-name-preserved
loop-name-preserved g c = record {
  base = search rules;
  rest = λ w f h. c.loop-name.invariant.rest w f
      (DeclaresAll.declared (cut c.args.names.now c.loop-name.name-index c.name-item.result c.loop-name-test.true
      c.name-item.is) c.in_ok-declare.ensures.ok refl h);
}

pub returns-clause-meaning : goal.returns-clause-meaning
returns-clause-meaning g c = c.loop-name.invariant.rest _ _
    (DeclaresAll.none_declared (drop_of_length-le c.args.names.now c.loop-name-test.false))
