-- Ends of lines, and small words that may be there.
use Rattle.std.specs.Prelude.{List, [], ◌∷◌, Option, Some, None, if◌then◌else◌, codes}
use Rattle.ht_lex.specs.declared.key.Key.TheVariants as k
use Rattle.ht_lex.specs.declared.key.TokenKind.{TokenKind}
use Rattle.ht_lex.specs.declared.key.TokenKind.TheVariants as kind
use Rattle.ht_lex.specs.Token.{Token, key, eol, first_kind, first_text, later}
use Rattle.ht_lex.specs.Token as token
use Rattle.ht_grammar.specs.Fronts.{same_name}

-- without the ends of lines in front
abbrev pub past_ends : List Token → List Token
past_ends [] = []
past_ends (eol ∷ ts) = past_ends ts
past_ends (token.name t ∷ ts) = token.name t ∷ ts
past_ends (token.number t ∷ ts) = token.number t ∷ ts
past_ends (token.quoted t ∷ ts) = token.quoted t ∷ ts
past_ends (key k ∷ ts) = key k ∷ ts

abbrev pub ended_by : Option TokenKind → List Token → Option (List Token)
ended_by None ts = Some ts
ended_by (Some kind.Eol) ts = Some (past_ends ts)
ended_by _ ts = None

-- One or more ends of lines, all there are. The end of the text is one.
unfoldable pub ended : List Token → Option (List Token)
ended ts = ended_by (first_kind ts) ts

abbrev pub for_by : Option TokenKind → List Token → List Token
for_by (Some (kind.Key k.For)) ts = later ts
for_by _ ts = ts

-- without a `for` in front, if there is one
abbrev pub past_for : List Token → List Token
past_for ts = for_by (first_kind ts) ts

abbrev pub to_by : Option TokenKind → List Token → List Token
to_by (Some (kind.Key k.To)) ts = later ts
to_by _ ts = ts

-- without a `to` in front, if there is one
abbrev pub past_to : List Token → List Token
past_to ts = to_by (first_kind ts) ts

abbrev pub times_by : Option TokenKind → List Token → List Token
times_by (Some kind.Name) ts = if same_name (first_text ts) (codes "times") then later ts else ts
times_by _ ts = ts

-- without a `times` in front, if there is one
unfoldable pub past_times : List Token → List Token
past_times ts = times_by (first_kind ts) ts
