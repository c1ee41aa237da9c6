use Rattle.std.proofs.Common.{◌<◌, length, refl, ap, arith}
use Rattle.object_table.proofs.Rows.{entry-there}
use Rattle.object_table.proofs.pair_table.PairTable.close_others.Goals as goal

pub loop-place-init : goal.loop-place-init
loop-place-init g c = record {
  count = rw (← c.self.view_is) (omega (arith, c.len-place-end.ensures, c.self.inside.rows.ok.0));
  values = refl;
  room = λ p k o. o;
}

pub index-requires : goal.index-requires
index-requires g c = omega (
  arith,
  c.loop-place-test.true,
  c.loop-place.invariant.count,
  ap (λ rs. length rs) c.self-in-loop-place.view_is,
  c.self-in-loop-place.inside.rows.ok.0,
)

pub close-requires : goal.close-requires
close-requires g c =
    let rows = c.self-in-loop-place.inside.rows.items in
    let within : c.loop-place.place < length rows = omega (
      arith,
      c.loop-place-test.true,
      c.loop-place.invariant.count,
      ap (λ rs. length rs) c.self-in-loop-place.view_is,
    ) in
    rw (← c.self-in-loop-place.view_is) (entry-there rows c.loop-place.place c.index.result.now within c.index.ensures)
