-- What stands in front, as the grammar sees it.
use Rattle.std.specs.Prelude.{ℕ, List, Option, Some, None}
use Rattle.ht_lex.specs.declared.key.Key.TheVariants as k
use Rattle.ht_lex.specs.declared.key.TokenKind.{TokenKind}
use Rattle.ht_lex.specs.declared.key.TokenKind.TheVariants as kind
use Rattle.ht_lex.specs.Token.{Token}
use Rattle.ht_values.specs.declared.word.PartKind.{PartKind}
use Rattle.ht_grammar.specs.declared.vocabulary.Layer.{Layer}
use Rattle.ht_grammar.specs.Fronts as f
use Rattle.ht_expressions.specs.declared.front.PartFront.{PartFront}
use Rattle.ht_expressions.specs.declared.operator.LeadingOperator.{LeadingOperator}
use Rattle.ht_expressions.specs.declared.operator.LeadingOperator.TheVariants.{Infix, Test, Neither}

abbrev pub front_view : PartFront → Option Layer × PartKind
front_view p = (p.layer, p.kind)

-- the operator that was taken, and the tokens after it
abbrev pub operator_view : LeadingOperator → List Token → f.LeadingOperator
operator_view (Infix rank op) ts = f.infix_at rank op ts
operator_view (Test op) ts = f.test_at op ts
operator_view Neither ts = f.neither

-- the rank of an operator, and 8 where there is none
abbrev pub rank_of : f.LeadingOperator → ℕ
rank_of (f.infix_at rank op ts) = rank
rank_of (f.test_at op ts) = f.equality
rank_of f.neither = 8

-- The rank of the operator that a token of this kind is by itself, 8 if any expression ends before it, and else 0. A
-- name or a literal before it is no call and no base of a power if this isn't 0, and operators below this don't join it.
abbrev pub end_rank : Option TokenKind → ℕ
end_rank None = 8
end_rank (Some kind.Eol) = 8
end_rank (Some (kind.Key k.CommaSign)) = 8
end_rank (Some (kind.Key k.RightParen)) = 8
end_rank (Some (kind.Key k.Or)) = 7
end_rank (Some (kind.Key k.And)) = 6
end_rank (Some (kind.Key k.Equal)) = 5
end_rank (Some (kind.Key k.NotEqual)) = 5
end_rank (Some (kind.Key k.Less)) = 4
end_rank (Some (kind.Key k.Greater)) = 4
end_rank (Some (kind.Key k.LessEqual)) = 4
end_rank (Some (kind.Key k.GreaterEqual)) = 4
end_rank (Some (kind.Key k.Contains)) = 4
end_rank (Some (kind.Key k.Ampersand)) = 3
end_rank (Some (kind.Key k.DoubleAmpersand)) = 3
end_rank (Some (kind.Key k.Plus)) = 2
end_rank (Some (kind.Key k.Minus)) = 2
end_rank (Some (kind.Key k.Star)) = 1
end_rank (Some (kind.Key k.Slash)) = 1
end_rank (Some (kind.Key k.Div)) = 1
end_rank (Some (kind.Key k.Mod)) = 1
end_rank _ = 0
