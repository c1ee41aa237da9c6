-- A desk, which keeps the last text that is saved and hears of the messages that are sent.
use Rattle.std.specs.Prelude.{◌≡◌, ◌⊎◌, ◌++◌, ℕ, Bool, List, Option, None, option_map, if◌then◌else◌}
use Rattle.devices.specs.declared.desk.HeardMessage.{HeardMessage}

-- what is seen of a desk: the text that it keeps and the messages that it heard of, where it tells, and how many calls
-- failed
pub record SeenDesk : Type 0 where
  pub kept : Option (List ℕ)
  pub heard : Option (List HeardMessage)
  pub failures : ℕ

-- what it keeps after it was asked to keep a text, and did so or not
abbrev pub kept_after : Bool → List ℕ → Option (List ℕ) → Option (List ℕ)
kept_after done text kept = if done then option_map (λ _. text) kept else kept

-- it heard of these messages in their order, each once, and of no others
abbrev pub Hears : List HeardMessage → SeenDesk → SeenDesk → Type 0
Hears messages old new = new ≡ record old { heard = option_map (λ before. before ++ messages) old.heard }

-- it doesn't tell any more of what it heard
abbrev pub Forgets : SeenDesk → SeenDesk → Type 0
Forgets old new = new ≡ record old { heard = None }

abbrev pub HearsOrForgets : List HeardMessage → SeenDesk → SeenDesk → Type 0
HearsOrForgets messages old new = Hears messages old new ⊎ Forgets old new
