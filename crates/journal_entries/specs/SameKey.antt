-- Whether keys are the same, and their order.
use Rattle.std.specs.Prelude.{Bool}
use Rattle.std.specs.declared.cmp.Ordering.{Ordering}
use Rattle.journal_entries.specs.contracts.place_key.PlaceKeyPartialEq.TheImpl as derived
use Rattle.journal_entries.specs.contracts.place_key.PlaceKeyOrd.TheImpl as ordered
use Rattle.journal_entries.specs.declared.place_key.PlaceKey.{PlaceKey}

abbrev pub same_key : PlaceKey → PlaceKey → Bool
same_key a b = derived.eq-value.it a b

abbrev pub key_cmp : PlaceKey → PlaceKey → Ordering
key_cmp a b = ordered.cmp-value.it a b
