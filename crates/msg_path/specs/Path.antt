-- The message path: the objects whose scripts a message meets, one after another. The stack is 0.
use Rattle.std.specs.Prelude.{ℕ, List, [], ◌∷◌, drop, Option, Some, None, is_some, if◌then◌else◌}
use Rattle.object_table.specs.Content.{Content}
use Rattle.object_table.specs.Objects.{object_at, background_at}
use Rattle.object_table.specs.declared.object.Kind.{Kind}
use Rattle.object_table.specs.declared.object.Kind.TheVariants.{Stack, Background, Card, CardButton, BackgroundButton}
use Rattle.object_table.specs.declared.object.Kind.TheVariants.{CardField, BackgroundField}
use Rattle.object_table.specs.declared.object.Object.{Object}

-- a card, its background, the stack; of what is no card the stack alone
abbrev pub card_path : ℕ → Option ℕ → List ℕ
card_path card (Some background) = card ∷ background ∷ 0 ∷ []
card_path card None = 0 ∷ []

-- what follows an object of a kind on its path: a part is followed by the current card and that card's path
abbrev pub follows : Content → ℕ → Kind → List ℕ
follows s current Stack = []
follows s current (Background c) = 0 ∷ []
follows s current (Card background c) = background ∷ 0 ∷ []
follows s current (CardButton v h) = card_path current (background_at s current)
follows s current (BackgroundButton v h) = card_path current (background_at s current)
follows s current (CardField v l) = card_path current (background_at s current)
follows s current (BackgroundField v l t) = card_path current (background_at s current)

abbrev pub path_by : Content → ℕ → ℕ → Option Object → List ℕ
path_by s current id (Some o) = id ∷ follows s current o.kind
path_by s current id None = 0 ∷ []

-- the path of an object while a card is current; of an object that is gone the stack alone
abbrev pub path : Content → ℕ → ℕ → List ℕ
path s current id = path_by s current id (object_at s id)

-- where `pass` goes on: after `me` on its path, and on all of that path where `me` is gone
abbrev pub path_after : Content → ℕ → ℕ → List ℕ
path_after s current me = if is_some (object_at s me) then drop 1 (path s current me) else path s current me
