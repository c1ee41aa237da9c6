use Rattle.std.proofs.Common.{◌≡◌, ◌+◌, drop, option_map}
use Rattle.msg_path.specs.BuiltIns.{external_named}
use Rattle.msg_path.proofs.next.external_named.Given as goal

abbrev pub invariant-loop-i : goal.invariant-loop-i
invariant-loop-i g l = external_named l.world.history.now.externals l.is_function l.name
    ≡ option_map (λ k. k + l.i) (external_named (drop l.i l.world.history.now.externals) l.is_function l.name)
