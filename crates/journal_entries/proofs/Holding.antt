-- Whether the segment since the last structural entry has an entry of a place.
use Rattle.std.proofs.Common.{◌≡◌, suc, Bool, true, false, ◌&&◌, ◌||◌, List, [], ◌∷◌}
use Rattle.std.proofs.Common.{length, slice_get, Some, None, refl, sym, ap, ◌∙◌, arith, ◌-◌}
use Rattle.stack_places.proofs.Exchanging as stack
use Rattle.journal_entries.specs.Exchange.{of_one_place, is_structural}
use Rattle.journal_entries.specs.Changing.{holds_one, kept}
use Rattle.journal_entries.specs.declared.entry.Entry.{Entry}
use Rattle.journal_entries.specs.declared.entry.Entry.TheVariants.{Global, Current, Stack, External}

pub structural_apart : (e f : Entry) → is_structural f ≡ true → of_one_place e f ≡ false
unfolding of_one_place is_structural
structural_apart (Global i v) (Global j w) h = stack.false_true h
structural_apart (Global i v) (Current d) h = refl
structural_apart (Global i v) (Stack f) h = refl
structural_apart (Global i v) (External j p) h = refl
structural_apart (Current c) (Global j w) h = refl
structural_apart (Current c) (Current d) h = stack.false_true h
structural_apart (Current c) (Stack f) h = refl
structural_apart (Current c) (External j p) h = refl
structural_apart (Stack e) (Global j w) h = refl
structural_apart (Stack e) (Current d) h = refl
structural_apart (Stack e) (Stack f) h = stack.structural_apart e f h
structural_apart (Stack e) (External j p) h = refl
structural_apart (External i q) f h = refl

pub neither : (a b c : Bool) → a ≡ false → c ≡ false → (a || (b && c)) ≡ false
neither a true c p q = rw (p, q) refl
neither a false c p q = rw p refl

-- the last entry is of the place
pub holds_one-last : (e t : Entry) (es : List Entry) → slice_get es (length es - 1) ≡ Some t → of_one_place e t ≡ true
    → holds_one e es ≡ true
holds_one-last e t [] is same = let never : None ≡ Some t → ⊥ = λ x. cc in absurd (never is)
holds_one-last e t (f ∷ []) is same = let here : f ≡ t = cc in rw here same
holds_one-last e t (f ∷ g ∷ es) is same =
    let one_less : length (f ∷ g ∷ es) - 1 ≡ suc (length (g ∷ es) - 1) = omega arith in
    rw (holds_one-last e t (g ∷ es) (ap (slice_get (f ∷ g ∷ es)) (sym one_less) ∙ is) same) refl

pub kept-held : (es : List Entry) (e t : Entry) → holds_one e es ≡ true → kept es e t ≡ es
kept-held es e t h = rw h refl
