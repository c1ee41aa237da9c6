-- Names and ids of objects, as they are read.
use Rattle.std.specs.Prelude.{ℕ, Bool, false, List, ◌++◌, codes, decimal, length, ◌==◌, Option, Some, None}
use Rattle.std.specs.Prelude.{if◌then◌else◌}
use Rattle.object_table.specs.declared.object.Kind.{Kind}
use Rattle.object_table.specs.declared.object.Kind.TheVariants.{Stack, Background, Card, CardButton, BackgroundButton}
use Rattle.object_table.specs.declared.object.Kind.TheVariants.{CardField, BackgroundField}

-- what a name begins with, by the kind
abbrev pub words_of : Kind → List ℕ
words_of Stack = codes "stack"
words_of (Background c) = codes "bkgnd"
words_of (Card b c) = codes "card"
words_of (CardButton v h) = codes "card button"
words_of (BackgroundButton v s) = codes "bkgnd button"
words_of (CardField v l) = codes "card field"
words_of (BackgroundField v l s) = codes "bkgnd field"

-- an empty name is none, but for the stack
abbrev pub is_nameless : Kind → List ℕ → Bool
is_nameless Stack name = false
is_nameless kind name = length name == 0

-- what stands for the name of an object without one, as `card id 2`
abbrev pub by_id : Kind → ℕ → List ℕ
by_id kind id = words_of kind ++ codes " id " ++ decimal id

-- a name with its kind, as `card "A"`
abbrev pub by_name : Kind → List ℕ → List ℕ
by_name kind name = words_of kind ++ codes " \"" ++ name ++ codes "\""

-- the name property
abbrev pub full_name : Kind → ℕ → List ℕ → List ℕ
full_name kind id name = if is_nameless kind name then by_id kind id else by_name kind name

-- the short name property, without the kind where there is a name
abbrev pub short_name : Kind → ℕ → List ℕ → List ℕ
short_name kind id name = if is_nameless kind name then by_id kind id else name

-- the id of a background or a part
abbrev pub own_id : Kind → ℕ → Option ℕ
own_id Stack id = None
own_id (Card b c) id = None
own_id kind id = Some id

-- the id of anything but the stack
abbrev pub short_id : Kind → ℕ → Option ℕ
short_id Stack id = None
short_id kind id = Some id
