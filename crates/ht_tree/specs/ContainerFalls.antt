-- A container is less deep than those that it is a part of.
use Rattle.std.specs.Prelude.{◌≤◌, max}
use Rattle.std.proofs.Common.{arith}
use Rattle.ht_tree.specs.declared.container.Container.TheDeep.{deep-ContainerKind}
use Rattle.ht_tree.specs.declared.container.ContainerKind.{ContainerKind}
use Rattle.ht_tree.specs.declared.container.ContainerKind.TheVariants as container
use Rattle.ht_grammar.specs.Depth.{container_depth}
use Rattle.ht_tree.specs.ContainerView.{container_of}

pub container_falls : (x : ContainerKind) → max (deep-ContainerKind x) 0 ≤ container_depth (container_of x)
container_falls (container.Variable w) = omega arith
container_falls (container.Field p) = omega arith
container_falls (container.Chunk h c) = omega arith
