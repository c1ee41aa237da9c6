-- The bytes that names begin with.
use Rattle.std.proofs.Common.{◌≡◌, ℕ, List, [], ◌∷◌, ◌++◌, Bool, true, get_or}
use Rattle.std.proofs.lemmas.List.Elements.{All-append, All-from_recursion}
use Rattle.journal_entries.specs.Initials.{may_have, MayHaveAll}

-- a name more
pub with_one_more : (old new : List Bool) (names : List (List ℕ)) (name : List ℕ) → MayHaveAll old names
    → ((other : List ℕ) → may_have old other ≡ true → may_have new other ≡ true) → may_have new name ≡ true
    → MayHaveAll new (names ++ name ∷ [])
with_one_more old new names name all kept added =
    All-append (λ n. may_have new n ≡ true) names (name ∷ []) (λ i d l. kept (get_or names i d) (all i d l))
    (All-from_recursion (λ n. may_have new n ≡ true) (name ∷ []) (added, tt))
