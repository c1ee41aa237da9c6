-- What a stack is to its callers: what it holds, and its room.
use Rattle.std.specs.Prelude.{◌≡◌, refl, ℕ}
use Rattle.std.specs.BTreeSet.{BTreeSet}
use Rattle.std.specs.Ordering.{nat_cmp}
use Rattle.std.specs.FinSet.{FinSet, empty, code as set_code}
use Rattle.std.specs.Coded.{Coded, code_by, coded×, coded_ℕ}
use Rattle.object_table.specs.Pairs.{pair_cmp, coded_pair}
use Rattle.object_table.specs.Content.{Content, coded_content}
use Rattle.object_table.specs.Opened.{StayOpen}

-- the ids and the pairs of ids that were opened, so that exchanges there take no memory
pub record Room : Type 0 where
  pub slots : FinSet nat_cmp
  pub texts : FinSet pair_cmp
  pub hilites : FinSet pair_cmp

-- nothing is open
abbrev pub no_room : Room
no_room = record { slots = empty; texts = empty; hilites = empty }

-- the room for ids stays, and so does that for the texts and the hilites of these cards
pub record KeepsRoom (cards : BTreeSet ℕ) (old new : Room) : Type 0 where
  pub slots : new.slots ≡ old.slots
  pub texts : StayOpen cards old.texts new.texts
  pub hilites : StayOpen cards old.hilites new.hilites

-- a stack with its room
pub record Table : Type 0 where
  pub content : Content
  pub room : Room

abbrev pub coded_room : Coded Room
coded_room = code_by (FinSet nat_cmp × (FinSet pair_cmp × FinSet pair_cmp))
    (coded× (set_code coded_ℕ) (coded× (set_code coded_pair) (set_code coded_pair)))
    (λ r. (r.slots, (r.texts, r.hilites))) (λ p. record { slots = p.0; texts = p.1.0; hilites = p.1.1 }) (λ _. refl)

abbrev pub coded_table : Coded Table
coded_table = code_by (Content × Room) (coded× coded_content coded_room) (λ t. (t.content, t.room))
    (λ p. record { content = p.0; room = p.1 }) (λ _. refl)
