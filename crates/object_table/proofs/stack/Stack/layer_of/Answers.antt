use Rattle.std.proofs.Common.{◌≡◌, ℕ, ◌++◌, Bool, List, ap, sym, ◌∙◌, Some, None, Option, find}
use Rattle.std.specs.Option.{option_or}
use Rattle.std.proofs.lemmas.List.Folds.{find-append}
use Rattle.object_table.proofs.stack.Stack.layer_of.Goals as goal

find_in_first : (p : ℕ → Bool) (xs ys zs : List ℕ) (x : ℕ) → zs ≡ xs → Some x ≡ find p zs → Some x ≡ find p (xs ++ ys)
find_in_first p xs ys zs x e found =
    ap (λ o. option_or o (find p ys)) (found ∙ ap (λ l. find p l) e) ∙ sym (find-append p xs ys)

find_in_second : (p : ℕ → Bool) (xs ys zs ws : List ℕ) (r : Option ℕ) → zs ≡ xs → None ≡ find p zs → ws ≡ ys
    → r ≡ find p ws → r ≡ find p (xs ++ ys)
find_in_second p xs ys zs ws r e none f found = found ∙ ap (λ l. find p l) f
    ∙ ap (λ o. option_or o (find p ys)) (none ∙ ap (λ l. find p l) e) ∙ sym (find-append p xs ys)

pub returns-in-Some : goal.returns-in-Some
returns-in-Some c =
    find_in_first _ _ c.args.self.now.content.cards _ _ (c.as_slice.ensures ∙ c.backgrounds.ensures) c.in-Some.ensures

pub returns-in-None : goal.returns-in-None
returns-in-None c =
    find_in_second _ _ _ _ _ _ (c.as_slice.ensures ∙ c.backgrounds.ensures) c.in-None.ensures
    (c.as_slice-in-None.ensures ∙ c.cards.ensures) c.layer_among-in-None.ensures
