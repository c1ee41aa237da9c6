use Rattle.std.proofs.Common.{◌≡◌, ◌++◌, map}
use Rattle.std.specs.Map.Iter.{deref_pair}
use Rattle.session.specs.Replies.{global_line, global_lines}
use Rattle.session.proofs.queries.globals_shown.Given as goal

-- what is shown, and then the globals that are left
abbrev pub invariant-loop-name : goal.invariant-loop-name
invariant-loop-name g l = l.shown ++ map global_line (map deref_pair l.name-iterator) ≡ global_lines l.world.history.now
