-- The look-ahead after a part: an owner is read exactly where the grammar has one.
use Rattle.std.proofs.Common.{◌≡◌, ℕ, suc, List, ◌∷◌, Option, Some, None, refl, nat_le}
use Rattle.std.proofs.lemmas.Option.{none-some}
use Rattle.ht_lex.specs.declared.key.Key.TheVariants as k
use Rattle.ht_lex.specs.declared.key.TokenKind.{TokenKind}
use Rattle.ht_lex.specs.declared.key.TokenKind.TheVariants as kind
use Rattle.ht_lex.specs.Token.{Token, key, first_kind, later}
use Rattle.ht_grammar.specs.declared.vocabulary.Layer.{Layer}
use Rattle.ht_grammar.specs.declared.vocabulary.Layer.TheVariants as layer
use Rattle.ht_grammar.specs.Trees.{Expr, Which, Selector, Owner, Part}
use Rattle.ht_grammar.specs.Trees as t
use Rattle.ht_grammar.specs.Depth.{selector_depth}
use Rattle.ht_grammar.specs.Fronts.{after_of}
use Rattle.ht_grammar.specs.Expressions.{Derives, DerivesWhich, DerivesSelector, DerivesOwner, Level, primary}
use Rattle.ht_grammar.specs.Expressions as e
use Rattle.ht_grammar.specs.Reading.{Outcome, Parser, made, part_kind_by, unless_part, layer_by, referenced_layer}
use Rattle.ht_grammar.specs.Reading.{which_at, selector_at, owner_at, owner_by, owner_of_layer, fitting}
use Rattle.ht_grammar.proofs.Steps.{became, making, tested}

unless : (o : Option TokenKind) (l : Option Layer) → part_kind_by o ≡ None → unless_part o l ≡ l
unless None l f = refl
unless (Some (kind.Key (k.Part p))) l f = cc
unless (Some o) l f = refl

unless_some : (o : Option TokenKind) (l : Option Layer) (x : Layer) → unless_part o l ≡ Some x → l ≡ Some x
unless_some None l x f = f
unless_some (Some (kind.Key (k.Part p))) l x f = cc
unless_some (Some o) l x f = f

primary_no_part : {a c : List Token} {x : Expr} → Derives primary a x c → part_kind_by (first_kind a) ≡ None
primary_no_part e.number = refl
primary_no_part e.quoted = refl
primary_no_part (e.paren h) = refl
primary_no_part e.constant = refl
primary_no_part e.return_ = refl
primary_no_part (e.call h) = refl
primary_no_part e.call_bare = refl
primary_no_part e.name = refl

which_no_part : {a c : List Token} {w : Which} → DerivesWhich a w c → part_kind_by (first_kind a) ≡ None
which_no_part (e.by_id h) = refl
which_no_part (e.by_text h) = primary_no_part h

-- The look-ahead finds each card that the grammar has, where no part follows it.
pub referenced_card : {b c : List Token} {p : Selector} → DerivesSelector k.Card b p c
    → part_kind_by (first_kind c) ≡ None → referenced_layer b ≡ Some layer.Card
unfolding referenced_layer
referenced_card e.this f = refl
referenced_card e.next f = refl
referenced_card e.previous f = refl
referenced_card {b} {c} e.nth f = unless (first_kind c) (Some layer.Card) f
referenced_card (e.which {a = a} w) f = unless (first_kind a) (Some layer.Card) (which_no_part w)

pub referenced_background : {b c : List Token} {p : Selector} → DerivesSelector k.Background b p c
    → part_kind_by (first_kind c) ≡ None → referenced_layer b ≡ Some layer.Background
unfolding referenced_layer
referenced_background e.this f = refl
referenced_background e.next f = refl
referenced_background e.previous f = refl
referenced_background {b} {c} e.nth f = unless (first_kind c) (Some layer.Background) f
referenced_background (e.which {a = a} w) f = unless (first_kind a) (Some layer.Background) (which_no_part w)

-- The first argument reads only what the grammar has.
module _ (deeper : Level → Parser Expr) (d : ℕ)
    (good : (p : Level) (ts : List Token) (q : Expr × List Token) → deeper p ts ≡ Some q → Derives p ts q.0 q.1) where
  id_or_text : (ts : List Token) (q : Which × List Token) → made t.by_text (deeper primary ts) ≡ Some q
      → DerivesWhich ts q.0 q.1
  id_or_text ts q same =
      making t.by_text (deeper primary ts) (λ q. DerivesWhich ts q.0 q.1) same (λ p h. e.by_text (good primary ts p h))

  pub which_sound : (ts : List Token) (q : Which × List Token) → which_at deeper d ts ≡ Some q → DerivesWhich ts q.0 q.1
  unfolding which_at
  which_sound (key k.Id ∷ ts) q same = making t.by_id (deeper primary ts) (λ q. DerivesWhich (key k.Id ∷ ts) q.0 q.1)
      same (λ p h. e.by_id (good primary ts p h))
  which_sound ts q same = id_or_text _ q same

  pub card_sound : (ts : List Token) (q : Selector × List Token) → referenced_layer ts ≡ Some layer.Card
      → selector_at deeper d ts ≡ Some q → DerivesSelector k.Card ts q.0 q.1
  unfolding referenced_layer selector_at
  card_sound (key k.This ∷ key k.Card ∷ ts) q l same =
      became (λ q. DerivesSelector k.Card (key k.This ∷ key k.Card ∷ ts) q.0 q.1) same e.this
  card_sound (key k.Next ∷ key k.Card ∷ ts) q l same =
      became (λ q. DerivesSelector k.Card (key k.Next ∷ key k.Card ∷ ts) q.0 q.1) same e.next
  card_sound (key k.Previous ∷ key k.Card ∷ ts) q l same =
      became (λ q. DerivesSelector k.Card (key k.Previous ∷ key k.Card ∷ ts) q.0 q.1) same e.previous
  card_sound (key (k.Ordinal n) ∷ key k.Card ∷ ts) q l same =
      became (λ q. DerivesSelector k.Card (key (k.Ordinal n) ∷ key k.Card ∷ ts) q.0 q.1) same e.nth
  card_sound (key k.Card ∷ ts) q l same = making t.which (which_at deeper d ts)
      (λ q. DerivesSelector k.Card (key k.Card ∷ ts) q.0 q.1) same (λ p h. e.which (which_sound ts p h))
  card_sound (key k.Background ∷ ts) q l same = let h : Some layer.Background
      ≡ Some layer.Card = unless_some (first_kind ts) (Some layer.Background) layer.Card l in cc
  card_sound (key (k.Ordinal n) ∷ ts) q l same = let h : layer_by (first_kind ts)
      ≡ Some layer.Card = unless_some (first_kind (later ts)) (layer_by (first_kind ts)) layer.Card l in cc
  card_sound (key k.This ∷ key k.Background ∷ ts) q l same = cc
  card_sound (key k.Next ∷ key k.Background ∷ ts) q l same = cc
  card_sound (key k.Previous ∷ key k.Background ∷ ts) q l same = cc
  card_sound ts q l same = absurd (none-some _ l)

  pub background_sound : (ts : List Token) (q : Selector × List Token) → referenced_layer ts ≡ Some layer.Background
      → selector_at deeper d ts ≡ Some q → DerivesSelector k.Background ts q.0 q.1
  unfolding referenced_layer selector_at
  background_sound (key k.This ∷ key k.Background ∷ ts) q l same =
      became (λ q. DerivesSelector k.Background (key k.This ∷ key k.Background ∷ ts) q.0 q.1) same e.this
  background_sound (key k.Next ∷ key k.Background ∷ ts) q l same =
      became (λ q. DerivesSelector k.Background (key k.Next ∷ key k.Background ∷ ts) q.0 q.1) same e.next
  background_sound (key k.Previous ∷ key k.Background ∷ ts) q l same =
      became (λ q. DerivesSelector k.Background (key k.Previous ∷ key k.Background ∷ ts) q.0 q.1) same e.previous
  background_sound (key (k.Ordinal n) ∷ key k.Background ∷ ts) q l same =
      became (λ q. DerivesSelector k.Background (key (k.Ordinal n) ∷ key k.Background ∷ ts) q.0 q.1) same e.nth
  background_sound (key k.Background ∷ ts) q l same = making t.which (which_at deeper d ts)
      (λ q. DerivesSelector k.Background (key k.Background ∷ ts) q.0 q.1) same (λ p h. e.which (which_sound ts p h))
  background_sound (key k.Card ∷ ts) q l same = let h : Some layer.Card
      ≡ Some layer.Background = unless_some (first_kind ts) (Some layer.Card) layer.Background l in cc
  background_sound (key (k.Ordinal n) ∷ ts) q l same = let h : layer_by (first_kind ts)
      ≡ Some layer.Background = unless_some (first_kind (later ts)) (layer_by (first_kind ts)) layer.Background l in cc
  background_sound (key k.This ∷ key k.Card ∷ ts) q l same = cc
  background_sound (key k.Next ∷ key k.Card ∷ ts) q l same = cc
  background_sound (key k.Previous ∷ key k.Card ∷ ts) q l same = cc
  background_sound ts q l same = absurd (none-some _ l)

  pub fitted : {A : Type 0} (height : A → ℕ) (r : Outcome A) (q : A × List Token) → fitting deeper d height r ≡ Some q
      → r ≡ Some q
  fitted height None q same = cc
  fitted height (Some p) q same = tested (nat_le (height p.0) d) (Some p ≡ Some q) same (λ b h. h)

  owner_layer : (m b : List Token) (l : Option Layer) (q : Owner × List Token) → after_of m ≡ Some b
      → referenced_layer b ≡ l → owner_of_layer deeper d l m b ≡ Some q → DerivesOwner m q.0 q.1
  owner_layer m b None q o h same = became (λ q. DerivesOwner m q.0 q.1) same e.no_owner
  owner_layer m b (Some layer.Card) q o h same = making t.on_card
      (fitting deeper d (λ p. suc (selector_depth p)) (selector_at deeper d b)) (λ q. DerivesOwner m q.0 q.1) same
      (λ p f. e.of_card o (card_sound b p h (fitted _ _ p f)))
  owner_layer m b (Some layer.Background) q o h same = making t.on_background
      (fitting deeper d (λ p. suc (selector_depth p)) (selector_at deeper d b)) (λ q. DerivesOwner m q.0 q.1) same
      (λ p f. e.of_background o (background_sound b p h (fitted _ _ p f)))

  -- What is read as an owner is one of the grammar.
  pub owner_sound : (m : List Token) (q : Owner × List Token) → owner_at deeper d m ≡ Some q → DerivesOwner m q.0 q.1
  unfolding owner_at
  owner_sound m q same = go (after_of m) refl same
    where
      go : (o : Option (List Token)) → after_of m ≡ o → owner_by deeper d o m ≡ Some q → DerivesOwner m q.0 q.1
      go None o same = became (λ q. DerivesOwner m q.0 q.1) same e.no_owner
      go (Some b) o same = owner_layer m b (referenced_layer b) q o refl same
