-- What is known of a text that is kept with its tree.
use Rattle.std.specs.Prelude.{◌≡◌, ℕ, List}
use Rattle.ht_grammar.specs.Reads.{Reads}
use Rattle.ht_lex.specs.Token.{Token}

-- The text is read as this tree and as no other.
abbrev pub IsOnlyTree : {T : Type 0} → (List Token → T → Type 0) → List ℕ → T → Type 0
IsOnlyTree {T} IsRead text tree =
    Reads IsRead text tree × ((other : T) → Reads IsRead text other → other ≡ tree)
