-- Reading a text: its tokens, each the longest there, and the tree that they are.
use Rattle.std.specs.Prelude.{ℕ, List, [], ◌∷◌, map, Option, Some, None, Result, Ok, Err}
use Rattle.ht_values.specs.declared.fault.Fault.TheVariants.{Syntax}
use Rattle.ht_lex.specs.Cutting.{spans_of}
use Rattle.ht_lex.specs.Token.{Token, token_in}
use Rattle.ht_grammar.specs.declared.vocabulary.HandlerKind.{HandlerKind}
use Rattle.ht_grammar.specs.Handlers.{handler_in}
use Rattle.ht_grammar.specs.Statements.{Handler}
use Rattle.ht_grammar.specs.Whole.{script}
use Rattle.object_table.specs.Content.{Content}
use Rattle.journal_entries.specs.ScriptTrees.{object_script}
use Rattle.msg_path.specs.Handlers.{HandlerFound}
use Rattle.meaning.specs.declared.end.Stop.{Stop}
use Rattle.meaning.specs.declared.end.Stop.TheVariants.{Fault as Faults}
use Rattle.definitional_interpreter.specs.Told.{maybe}

-- the tree of a text, by what reads tokens
abbrev pub read_by : {A : Type 0} → (List Token → Option A) → List ℕ → Option A
read_by read text = maybe (spans_of text) (λ spans. read (map (token_in text) spans)) (λ _. None)

abbrev pub or_syntax : {A : Type 0} → Option A → Result A Stop
or_syntax (Some tree) = Ok tree
or_syntax None = Err (Faults Syntax)

-- a text as it is read, or the fault that it isn't in the grammar
abbrev pub parsed : {A : Type 0} → (List Token → Option A) → List ℕ → Result A Stop
parsed read text = or_syntax (read_by read text)

-- the handler of a script, or else what the rest of the path has
abbrev pub handled : ℕ → Option Handler → (Unit {0} → Result (Option HandlerFound) Stop)
    → Result (Option HandlerFound) Stop
handled id (Some h) rest = Ok (Some (record { object = id; handler = h }))
handled id None rest = rest tt

-- the first handler on a path
abbrev pub first_found : Content → List ℕ → HandlerKind → List ℕ → Result (Option HandlerFound) Stop
first_found s [] kind name = Ok None
first_found s (id ∷ rest) kind name =
    maybe (read_by script (object_script s id))
    (λ hs. handled id (handler_in hs kind name) (λ _. first_found s rest kind name))
    (λ _. Err (Faults Syntax))
