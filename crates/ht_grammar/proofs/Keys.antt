-- Tests of the first token, and what they tell of the tokens.
use Rattle.std.proofs.Common.{◌≡◌, List, ◌∷◌, true, Option, Some, None, refl, subst}
use Rattle.std.proofs.lemmas.Bool.{false≢true}
use Rattle.ht_lex.specs.declared.key.Key.{Key}
use Rattle.ht_lex.specs.declared.key.Key.TheVariants as k
use Rattle.ht_lex.specs.Token.{Token, key, first_kind, later, is_key}
use Rattle.ht_grammar.specs.Trees.{Expr}
use Rattle.ht_grammar.specs.Expressions.{Derives, whole}
use Rattle.ht_grammar.specs.Reading.{Parser}
use Rattle.ht_grammar.specs.Lines.{after_key, ended_then}
use Rattle.ht_grammar.proofs.Sound.{chosen}

-- The test is true just of this key.
abbrev pub Recognizes : Key → Type 0
Recognizes h = (ts : List Token) → is_key h (first_kind ts) ≡ true → ts ≡ key h ∷ later ts

pub then_key : Recognizes k.Then
unfolding is_key
then_key (key k.Then ∷ ts) e = refl
then_key ts e = absurd (false≢true e)

pub else_key : Recognizes k.Else
unfolding is_key
else_key (key k.Else ∷ ts) e = refl
else_key ts e = absurd (false≢true e)

pub if_key : Recognizes k.If
unfolding is_key
if_key (key k.If ∷ ts) e = refl
if_key ts e = absurd (false≢true e)

pub end_key : Recognizes k.End
unfolding is_key
end_key (key k.End ∷ ts) e = refl
end_key ts e = absurd (false≢true e)

pub repeat_key : Recognizes k.Repeat
unfolding is_key
repeat_key (key k.Repeat ∷ ts) e = refl
repeat_key ts e = absurd (false≢true e)

pub to_key : Recognizes k.To
unfolding is_key
to_key (key k.To ∷ ts) e = refl
to_key ts e = absurd (false≢true e)

pub from_key : Recognizes k.From
unfolding is_key
from_key (key k.From ∷ ts) e = refl
from_key ts e = absurd (false≢true e)

pub by_key : Recognizes k.By
unfolding is_key
by_key (key k.By ∷ ts) e = refl
by_key ts e = absurd (false≢true e)

pub equal_key : Recognizes k.Equal
unfolding is_key
equal_key (key k.Equal ∷ ts) e = refl
equal_key ts e = absurd (false≢true e)

-- What came after a key.
pub keyed : {A : Type 0} {h : Key} → Recognizes h → (f : Parser A) (ts : List Token) {q : A × List Token} (P : Type 0)
    → after_key h f ts ≡ Some q → ((c : List Token) → ts ≡ key h ∷ c → f c ≡ Some q → P) → P
keyed {h = h} knows f ts {q} P same go =
    chosen (is_key h (first_kind ts)) P same (λ b same. go (later ts) (knows ts b) same) (λ b same. cc)

-- What is read up to a key is read up to what was found to be that key.
pub ended_by_key : {a m n : List Token} {v : Expr} → Derives whole a v m → m ≡ n → Derives whole a v n
ended_by_key {a} {v = v} h same = subst (λ c. Derives whole a v c) same h

-- What came after the ends of lines.
pub past_end : {A : Type 0} (o : Option (List Token)) (f : Parser A) {q : A × List Token} (P : Type 0)
    → ended_then o f ≡ Some q → ((l : List Token) → o ≡ Some l → f l ≡ Some q → P) → P
past_end None f P same go = cc
past_end (Some l) f P same go = go l refl same
