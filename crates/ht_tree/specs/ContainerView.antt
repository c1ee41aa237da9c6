-- The containers in memory, as plain trees.
use Rattle.ht_tree.specs.declared.container.ContainerKind.{ContainerKind}
use Rattle.ht_tree.specs.declared.container.ContainerKind.TheVariants as container
use Rattle.ht_grammar.specs.Trees as t
use Rattle.ht_tree.specs.View.{chunk_of, part_of}

abbrev pub container_of : ContainerKind → t.Container
container_of (container.Variable w) = t.variable w
container_of (container.Field p) = t.in_field (part_of p)
container_of (container.Chunk h c) = t.in_chunk (chunk_of h) c
