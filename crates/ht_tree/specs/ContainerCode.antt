-- Containers as lists of marks: chunks, and then what they are pieces of.
use Rattle.std.specs.Prelude.{ℕ, List, [], ◌∷◌}
use Rattle.std.proofs.Common.{◌≡◌, refl, ap}
use Rattle.ht_grammar.specs.Trees.{Chunk, Part, Container}
use Rattle.ht_grammar.specs.Trees as t

pub data Mark : Type 0 where
  variable : List ℕ → Mark
  field : Part → Mark
  chunk : Chunk → Mark

abbrev pub container_marks : Container → List Mark
container_marks (t.variable w) = variable w ∷ []
container_marks (t.in_field p) = field p ∷ []
container_marks (t.in_chunk h c) = chunk h ∷ container_marks c

abbrev pub container_at : List Mark → Container
container_at [] = t.variable []
container_at (variable w ∷ ms) = t.variable w
container_at (field p ∷ ms) = t.in_field p
container_at (chunk h ∷ ms) = t.in_chunk h (container_at ms)

pub container_back : (c : Container) → container_at (container_marks c) ≡ c
container_back (t.variable w) = refl
container_back (t.in_field p) = refl
container_back (t.in_chunk h c) = ap (t.in_chunk h) (container_back c)
