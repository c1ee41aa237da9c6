-- What the path promises.
use Rattle.std.specs.Prelude.{◌≡◌, ℕ, List, Option, Result}
use Rattle.ht_values.specs.declared.fault.Fault.{Fault}
use Rattle.ht_grammar.specs.declared.vocabulary.HandlerKind.{HandlerKind}
use Rattle.object_table.specs.Content.{Content}
use Rattle.msg_path.specs.Handlers.{HandlerFound, First}

-- a message finds one handler at most, or one fault
abbrev pub FirstIsOne : Type 0
FirstIsOne =
    (s : Content) (path : List ℕ) (kind : HandlerKind) (name : List ℕ) (one other : Result (Option HandlerFound) Fault)
    →
    First s path kind name one → First s path kind name other → one ≡ other
