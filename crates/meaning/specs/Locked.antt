-- Typing into a field whose text is locked.
use Rattle.std.specs.Prelude.{◌≡◌, ℕ, true, Ok}
use Rattle.ht_grammar.specs.Trees.{Part}
use Rattle.change_journal.specs.History.{History}
use Rattle.meaning.specs.Actions as act
use Rattle.meaning.specs.Actions.{locks_text}
use Rattle.meaning.specs.Meaning.{Refers}
use Rattle.meaning.specs.State.{RunState}

-- the reference leads to a field whose text is locked
abbrev pub IsLocked : History → RunState → Part → History → RunState → Type 0
IsLocked w r reference w2 r2 =
    (field : ℕ) × Refers w r reference (Ok field) w2 r2 × (locks_text w2.now.stack field ≡ true)

-- an action is refused that types into a locked field
abbrev pub MeetsLock : History → RunState → act.Action → History → RunState → Type 0
MeetsLock w r (act.type_text text reference) w2 r2 = IsLocked w r reference w2 r2
MeetsLock w r _ w2 r2 = ⊥
