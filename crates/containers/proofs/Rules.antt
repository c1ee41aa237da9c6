-- The rules of writes, for `search`.
use Rattle.containers.specs.Writes.{Declares, Writes}

pub ruleset writes_rules = (Writes.nothing_due, Writes.to_global, Writes.to_own, Writes.to_field)

pub ruleset declares_rules = (Declares.has_value, Declares.is_new)
