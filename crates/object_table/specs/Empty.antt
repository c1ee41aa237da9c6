-- The stack of one background and one card, all empty, and the stack of no object.
use Rattle.std.specs.Prelude.{false, [], ◌∷◌}
use Rattle.std.specs.FinMap.{from_entries, empty}
use Rattle.object_table.specs.Content.{Content}
use Rattle.object_table.specs.declared.object.Object.{Object}
use Rattle.object_table.specs.declared.object.Kind.{Kind}
use Rattle.object_table.specs.declared.object.Kind.TheVariants.{Stack, Background, Card}

-- an object without a name and a script
abbrev pub empty_object : Kind → Object
empty_object kind = record { name = []; script = []; kind = kind }

abbrev pub empty_stack : Content
empty_stack = record {
  objects = from_entries ((0, empty_object Stack) ∷ (1, empty_object (Background false))
      ∷ (2, empty_object (Card 1 false)) ∷ []);
  backgrounds = 1 ∷ [];
  cards = 2 ∷ [];
  parts = from_entries ((1, []) ∷ (2, []) ∷ []);
  texts = empty;
  hilites = empty;
  next = 3;
}

-- no object, not even the stack itself
abbrev pub blank_stack : Content
blank_stack = record {
  objects = empty;
  backgrounds = [];
  cards = [];
  parts = empty;
  texts = empty;
  hilites = empty;
  next = 1;
}
