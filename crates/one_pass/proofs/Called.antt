-- How a call is computed with.
use Rattle.std.proofs.Common.{◌≡◌, ℕ, ◌≤◌, ◌<◌, ◌+◌, ◌-◌, List, [], ◌∷◌, ◌++◌, length, max, Some, Ok}
use Rattle.std.proofs.Common.{refl, sym, ap, arith, subst, ◌∙◌}
use Rattle.ht_lex.specs.declared.key.Key.TheVariants as k
use Rattle.ht_lex.specs.declared.key.TokenKind.TheVariants as kind
use Rattle.ht_lex.specs.Token.{Token, key, name, first_kind, first_text, later}
use Rattle.ht_grammar.specs.Trees as tree
use Rattle.ht_grammar.specs.Trees.{Exprs, none}
use Rattle.ht_grammar.specs.Depth.{depths, max_depth}
use Rattle.ht_grammar.specs.Expressions.{primary, Derives, DerivesList}
use Rattle.change_journal.specs.History.{History}
use Rattle.meaning.specs.declared.frame.Frame.{Frame}
use Rattle.meaning.specs.Meaning.{Val, Vals, Calls, Sends, Along, Outside, BuiltInGives}
use Rattle.meaning.specs.State.{RunState, Step}
use Rattle.meaning.specs.Values.{Yields}
use Rattle.ht_values.specs.declared.operator.Func.{Func}
use Rattle.ht_values.specs.Functions.{built_in}
use Rattle.one_pass.specs.Computed.{Computed, ComputedAll, CallGives, IsUnhandled, after, called}
use Rattle.one_pass.proofs.Operators.{key_first, name_first}

after_last : (me : ℕ) (names : List (List ℕ)) (n : List ℕ) (r : RunState)
    → after me (names ++ n ∷ []) r ≡ called me (after me names r) n
after_last me [] n r = refl
after_last me (m ∷ names) n r = after_last me names n (called me r m)

left_after : (me : ℕ) (names : List (List ℕ)) (r : RunState) → (after me names r).left ≡ r.left - length names
left_after me [] r = omega arith
left_after me (n ∷ names) r = left_after me names (called me r n) ∙ omega arith

longer : (names : List (List ℕ)) (n : List ℕ) → length (names ++ n ∷ []) ≡ length names + 1
longer [] n = omega arith
longer (m ∷ names) n = omega (arith, longer names n)

module _ {w : History} {f : Frame} {ts : List Token} {old : List (List ℕ)} {v : List ℕ} {m : ℕ} {past : List Token}
    {new : List (List ℕ)} where
  made : (met : List (List ℕ)) (n : List ℕ) (es : Exprs) (vs : List (List ℕ))
      → Derives primary ts (tree.call n es) past → depths es < max_depth → m ≡ depths es + 1 → length old ≤ length met
      → ((r : RunState) (d : ℕ) → length met ≤ r.left
      → Vals w (after f.me old r) f d es [] (Ok vs) w (after f.me met r))
      → CallGives w f n vs v → new ≡ met ++ n ∷ [] → Computed w f primary ts old v m past new
  made met n es vs g less one grows means gives last = record {
    tree = tree.call n es;
    derives = g;
    deep = omega (arith, one);
    fits = omega (arith, less, one);
    grows = omega (arith, grows, ap length last, longer met n);
    means = λ r d enough.
        let enough_met : length met + 1 ≤ r.left = omega (arith, enough, ap length last, longer met n) in
        let ends = sym (ap (λ names. after f.me names r) last ∙ after_last f.me met n r) in
        subst (λ r2. Val w (after f.me old r) f d (tree.call n es) (Ok v) w r2) ends
        (Val.call refl refl (Calls.calls (means r d (omega (arith, enough_met)))
        (gives (after f.me met r) d (omega (arith, enough_met, left_after f.me met r)))));
  }

  pub bare_call : {n : List ℕ} → first_kind ts ≡ Some kind.Name → first_kind (later ts) ≡ Some (kind.Key k.LeftParen)
      → first_kind (later (later ts)) ≡ Some (kind.Key k.RightParen) → n ≡ first_text ts
      → past ≡ later (later (later ts)) → CallGives w f n [] v → m ≡ 1 → new ≡ old ++ n ∷ []
      → Computed w f primary ts old v m past new
  bare_call {n = n} first second third same behind gives one last =
      let begins : ts ≡ name n ∷ key k.LeftParen ∷ key k.RightParen ∷ past = name_first ts first
      ∙ ap (λ t. name t ∷ later ts) (sym same) ∙ ap (λ t. name n ∷ t) (key_first k.LeftParen (later ts) second)
      ∙ ap (λ t. name n ∷ key k.LeftParen ∷ t) (key_first k.RightParen (later (later ts)) third)
      ∙ ap (λ t. name n ∷ key k.LeftParen ∷ key k.RightParen ∷ t) (sym behind) in
      made old n none [] (subst (λ t. Derives primary t (tree.call n none) past) (sym begins) Derives.call_bare)
      (omega arith) (omega (arith, one)) (omega arith) (λ r d enough. Vals.vals_done refl) gives last

  pub call : {n : List ℕ} {inner rest : List Token} {vs met : List (List ℕ)} {i : ℕ} → first_kind ts ≡ Some kind.Name
      → first_kind (later ts) ≡ Some (kind.Key k.LeftParen) → n ≡ first_text ts → inner ≡ later (later ts)
      → ComputedAll w f inner old [] vs i rest met → first_kind rest ≡ Some (kind.Key k.RightParen)
      → past ≡ later rest → CallGives w f n vs v → max i i < max_depth → m ≡ max i i + 1 → new ≡ met ++ n ∷ []
      → Computed w f primary ts old v m past new
  call {n = n} {inner = inner} {rest = rest} {vs = vs} {met = met} first second same within all third behind gives less one last =
      let begins : ts ≡ name n ∷ key k.LeftParen ∷ inner = name_first ts first
      ∙ ap (λ t. name t ∷ later ts) (sym same) ∙ ap (λ t. name n ∷ t) (key_first k.LeftParen (later ts) second)
      ∙ ap (λ t. name n ∷ key k.LeftParen ∷ t) (sym within) in
      let ends : rest ≡ key k.RightParen ∷ past = key_first k.RightParen rest third
      ∙ ap (λ t. key k.RightParen ∷ t) (sym behind) in
      made met n all.trees vs (subst (λ t. Derives primary t (tree.call n all.trees) past) (sym begins)
      (Derives.call (subst (λ t. DerivesList inner all.trees t) ends all.derives)))
      (omega (arith, all.deep, less)) (omega (arith, all.deep, one)) all.grows all.means gives last

-- a function that is built in, and that no script and no external handles
pub built_in_gives : {w : History} {f : Frame} {n : List ℕ} {vs : List (List ℕ)} {v : List ℕ} {fu : Func}
    → IsUnhandled w f n fu → Yields (built_in fu vs) (Ok v) → CallGives w f n vs v
built_in_gives is gives r d pos = Sends.sends (Step.taken pos refl) refl refl
    (Along.along_unhandled is.unfound (Outside.no_external is.untitled (BuiltInGives.function_call is.built_in gives)))
