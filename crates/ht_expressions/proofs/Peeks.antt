-- What the kind of the first token tells.
use Rattle.std.proofs.Common.{◌≡◌, List, Some}
use Rattle.ht_lex.specs.declared.key.TokenKind.TheVariants as kind
use Rattle.ht_lex.specs.declared.key.Key.TheVariants as k
use Rattle.ht_lex.specs.Token.{Token, first_kind, later}
use Rattle.ht_grammar.specs.Fronts.{after_of}

pub of_there : (ts : List Token) → first_kind ts ≡ Some (kind.Key k.Of) → after_of ts ≡ Some (later ts)
of_there ts e = cc

pub in_there : (ts : List Token) → first_kind ts ≡ Some (kind.Key k.In) → after_of ts ≡ Some (later ts)
in_there ts e = cc
