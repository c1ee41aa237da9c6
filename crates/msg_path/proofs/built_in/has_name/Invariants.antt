use Rattle.std.proofs.Common.{◌≡◌, map, drop}
use Rattle.std.specs.List.{list_any}
use Rattle.ht_values.specs.Text.{same}
use Rattle.msg_path.proofs.built_in.has_name.Given as goal

abbrev pub invariant-loop-message : goal.invariant-loop-message
invariant-loop-message l = list_any (λ message. same l.name message)
    (map (λ message. message.now) (drop l.message-index l.names))
    ≡ list_any (λ message. same l.name message) (map (λ message. message.now) l.names)
