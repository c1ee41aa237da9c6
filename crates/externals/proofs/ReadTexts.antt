-- Lists of texts that are read one after the other.
use Rattle.std.proofs.Common.{◌≡◌, ℕ, ◌+◌, List, get_or, All, take, slice_get, Some, unwrap_or, ap, sym, subst, ◌∙◌}
use Rattle.std.proofs.lemmas.List.Elements.{All-more}
use Rattle.std.proofs.lemmas.Option.{unwrap_or-slice_get, slice_get_within}
use Rattle.ht_values.specs.Text.{IsText}

-- one more text was read
pub texts_more : (texts : List (List ℕ)) (i : ℕ) (x : List ℕ) → slice_get texts i ≡ Some x → IsText x
    → All IsText (take i texts) → All IsText (take (i + 1) texts)
texts_more texts i x got text each =
    let is : get_or texts i x ≡ x = sym (unwrap_or-slice_get texts i x) ∙ ap (λ o. unwrap_or o x) got in
    All-more IsText texts i x (slice_get_within texts i x got) each (subst IsText (sym is) text)
