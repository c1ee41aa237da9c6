use Rattle.std.proofs.Common.{◌≡◌, drop}
use Rattle.ht_grammar.specs.Handlers.{handler_in}
use Rattle.ht_tree.specs.ScriptView.{handlers_of}
use Rattle.ht_tree.proofs.script.Script.first.Given as goal

abbrev pub invariant-loop-place : goal.invariant-loop-place
invariant-loop-place l = handler_in (handlers_of (drop l.place l.self.handlers.items)) l.kind l.name
    ≡ handler_in (handlers_of l.self.handlers.items) l.kind l.name
