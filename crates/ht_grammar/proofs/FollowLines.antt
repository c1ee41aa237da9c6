-- What may stand after statements and their parts.
use Rattle.std.proofs.Common.{◌≡◌, ℕ, ◌<◌, List, [], ◌∷◌, Bool, true, false, Some, None, refl, sym, subst, arith}
use Rattle.std.proofs.lemmas.Option.{none-some}
use Rattle.std.proofs.lemmas.Bool.{false≢true}
use Rattle.ht_lex.specs.declared.key.Key.{Key}
use Rattle.ht_lex.specs.declared.key.Key.TheVariants as k
use Rattle.ht_lex.specs.Token.{Token, key, eol, first_kind}
use Rattle.ht_lex.specs.Token as token
use Rattle.ht_values.specs.declared.word.Where.{Where}
use Rattle.ht_grammar.specs.Fronts.{leading_operator}
use Rattle.ht_grammar.specs.Ends.{past_ends, ended, past_times}
use Rattle.ht_grammar.specs.Grammar.{Context, place_of}
use Rattle.ht_grammar.specs.Reading.{layer_by}
use Rattle.ht_grammar.specs.Lines.{begins_expr, place_front}
use Rattle.ht_grammar.proofs.Follow.{tie}
use Rattle.ht_grammar.proofs.Complete.{is_comma}

-- A statement on one line may stop here: at an end of a line, or before `else`.
abbrev pub stops : List Token → Bool
stops [] = true
stops (eol ∷ ts) = true
stops (key k.Else ∷ ts) = true
stops _ = false

-- What holds at each such place holds wherever it may stop.
stopping : (P : List Token → Type 0) → P [] → ((ts : List Token) → P (eol ∷ ts))
    → ((ts : List Token) → P (key k.Else ∷ ts)) → (c : List Token) → stops c ≡ true → P c
stopping P none end else [] f = none
stopping P none end else (eol ∷ ts) f = end ts
stopping P none end else (key k.Else ∷ ts) f = else ts
stopping P none end else c f = absurd (false≢true f)

pub stop_loose : (c : List Token) → stops c ≡ true → 9 < tie c
unfolding tie leading_operator
stop_loose = stopping (λ c. 9 < tie c) (omega arith) (λ ts. omega arith) (λ ts. omega arith)

pub stop_no_expr : (c : List Token) → stops c ≡ true → begins_expr (first_kind c) ≡ false
stop_no_expr = stopping (λ c. begins_expr (first_kind c) ≡ false) refl (λ ts. refl) (λ ts. refl)

pub stop_no_comma : (c : List Token) → stops c ≡ true → is_comma c ≡ false
stop_no_comma = stopping (λ c. is_comma c ≡ false) refl (λ ts. refl) (λ ts. refl)

pub stop_no_place : (d : ℕ) (x : Context) (c : List Token) → stops c ≡ true → place_front d x (first_kind c) ≡ None
stop_no_place d x = stopping (λ c. place_front d x (first_kind c) ≡ None) refl (λ ts. refl) (λ ts. refl)

pub stop_no_layer : (c : List Token) → stops c ≡ true → layer_by (first_kind c) ≡ None
stop_no_layer = stopping (λ c. layer_by (first_kind c) ≡ None) refl (λ ts. refl) (λ ts. refl)

pub ended_stops : (c : List Token) {l : List Token} → ended c ≡ Some l → stops c ≡ true
unfolding ended
ended_stops [] f = refl
ended_stops (eol ∷ ts) f = refl
ended_stops c f = absurd (none-some _ f)

pub else_stops : (c : List Token) {l : List Token} → past_ends c ≡ key k.Else ∷ l → stops c ≡ true
else_stops [] f = cc
else_stops (eol ∷ ts) f = refl
else_stops (key k.Else ∷ ts) f = refl
else_stops c f = subst (λ d. stops d ≡ true) (sym f) refl

loose_then : (ts : List Token) → 9 < tie (key k.Then ∷ ts)
unfolding tie leading_operator
loose_then ts = omega arith

pub then_loose : (c : List Token) {l : List Token} → past_ends c ≡ key k.Then ∷ l → 9 < tie c
unfolding tie leading_operator
then_loose [] f = cc
then_loose (eol ∷ ts) f = omega arith
then_loose (key k.Then ∷ ts) f = omega arith
then_loose c {l} f = subst (λ d. 9 < tie d) (sym f) (loose_then l)

pub place_loose : (h : Key) {w : Where} (ts : List Token) → place_of h ≡ Some w → 9 < tie (key h ∷ ts)
unfolding tie leading_operator
place_loose k.Into ts f = omega arith
place_loose k.Before ts f = omega arith
place_loose k.After ts f = omega arith
place_loose h ts f = absurd (none-some _ f)

pub times_loose : (c : List Token) {l : List Token} → ended (past_times c) ≡ Some l → 9 < tie c
unfolding tie leading_operator ended past_times
times_loose [] f = omega arith
times_loose (eol ∷ ts) f = omega arith
times_loose (token.name w ∷ ts) f = omega arith
times_loose c f = absurd (none-some _ f)

pub loose_from : (ts : List Token) → 9 < tie (key k.From ∷ ts)
unfolding tie leading_operator
loose_from ts = omega arith

pub loose_by : (ts : List Token) → 9 < tie (key k.By ∷ ts)
unfolding tie leading_operator
loose_by ts = omega arith

pub loose_name : (w : List ℕ) (ts : List Token) → 9 < tie (token.name w ∷ ts)
unfolding tie leading_operator
loose_name w ts = omega arith
