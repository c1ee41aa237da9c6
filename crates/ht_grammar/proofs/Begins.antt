-- What expressions and statements begin with.
use Rattle.std.proofs.Common.{◌≡◌, List, ◌∷◌, true, Some, refl, sym, subst}
use Rattle.ht_lex.specs.declared.key.Key.{Key}
use Rattle.ht_lex.specs.declared.key.Key.TheVariants as k
use Rattle.ht_lex.specs.declared.key.TokenKind.TheVariants as kind
use Rattle.ht_lex.specs.Token.{Token, key, first_kind}
use Rattle.ht_grammar.specs.Trees.{Expr, Chunk, Part}
use Rattle.ht_grammar.specs.Statements.{Stmt}
use Rattle.ht_grammar.specs.Fronts.{past_the}
use Rattle.ht_grammar.specs.Expressions.{Derives, DerivesChunk, DerivesPart, Level}
use Rattle.ht_grammar.specs.Expressions as e
use Rattle.ht_grammar.specs.Grammar.{Context, DerivesSimple}
use Rattle.ht_grammar.specs.Grammar as g
use Rattle.ht_grammar.specs.Lines.{begins_expr, begins_simple}

past_begins : (a m : List Token) (h : Key) → past_the a ≡ key h ∷ m → begins_expr (Some (kind.Key h)) ≡ true
    → begins_expr (first_kind a) ≡ true
past_begins (key k.The ∷ ts) m h same b = refl
past_begins a m h same b = subst (λ v. begins_expr (first_kind v) ≡ true) (sym same) b

mutual
  pub expr_begins : {p : Level} {a c : List Token} {x : Expr} → Derives p a x c → begins_expr (first_kind a) ≡ true
  expr_begins (e.join f g h) = expr_begins f
  expr_begins (e.is_a f g) = expr_begins f
  expr_begins (e.tighter f) = expr_begins f
  expr_begins (e.tightest f) = expr_begins f
  expr_begins (e.raised f g) = expr_begins f
  expr_begins (e.not_raised f) = expr_begins f
  expr_begins (e.minus f) = refl
  expr_begins (e.not_ f) = refl
  expr_begins (e.there_is f g) = refl
  expr_begins (e.no_prefix f) = expr_begins f
  expr_begins (e.no_form f) = expr_begins f
  expr_begins (e.chunk f g h) = chunk_begins f
  expr_begins (e.field f g) = part_begins f
  expr_begins (e.result f) = refl
  expr_begins (e.target f) = refl
  expr_begins (e.property f g h) = refl
  expr_begins (e.short_property f g h i j) = refl
  expr_begins (e.run_property f) = refl
  expr_begins (e.function f g h) = refl
  expr_begins e.number = refl
  expr_begins e.quoted = refl
  expr_begins (e.paren f) = refl
  expr_begins e.constant = refl
  expr_begins e.return_ = refl
  expr_begins (e.call f) = refl
  expr_begins e.call_bare = refl
  expr_begins e.name = refl
  expr_begins (e.number_of {a = a} {m = m} f h i) = past_begins a m k.Number f refl

  pub chunk_begins : {a c : List Token} {h : Chunk} → DerivesChunk a h c → begins_expr (first_kind a) ≡ true
  chunk_begins (e.piece f) = refl
  chunk_begins (e.pieces f h) = refl
  chunk_begins (e.nth_piece {n = n} {a = a} f) = past_begins a _ (k.Ordinal n) f refl

  pub part_begins : {a c : List Token} {p : Part} → DerivesPart a p c → begins_expr (first_kind a) ≡ true
  part_begins (e.part e.no_layer f h) = refl
  part_begins (e.part e.on_card f h) = refl
  part_begins (e.part e.on_background f h) = refl
  part_begins (e.nth_part f h) = refl

pub simple_begins : {x : Context} {a c : List Token} {s : Stmt} → DerivesSimple x a s c
    → begins_simple (first_kind a) ≡ true
simple_begins (g.put f) = refl
simple_begins (g.put_in f g h) = refl
simple_begins (g.get f) = refl
simple_begins (g.set f g h i) = refl
simple_begins (g.set_run f g h) = refl
simple_begins (g.add f g) = refl
simple_begins (g.subtract f g) = refl
simple_begins (g.multiply f g) = refl
simple_begins (g.divide f g) = refl
simple_begins (g.delete f g h) = refl
simple_begins (g.do_ f) = refl
simple_begins (g.send f g) = refl
simple_begins (g.go f) = refl
simple_begins (g.global f) = refl
simple_begins (g.exit_repeat f) = refl
simple_begins (g.next_repeat f) = refl
simple_begins (g.exit_to_hypercard f) = refl
simple_begins (g.exit f) = refl
simple_begins (g.pass f) = refl
simple_begins (g.return_nothing f) = refl
simple_begins (g.return_value f g) = refl
simple_begins g.command_bare = refl
simple_begins (g.command f) = refl
