-- Places in an order.
use Rattle.std.proofs.Common.{◌≡◌, ℕ, ◌<◌, ◌+◌, Bool, true, false, cond, ◌||◌, List, [], ◌∷◌, ◌++◌, length, take, drop}
use Rattle.std.proofs.Common.{get_or, Option, Some, None, refl, sym, ap, ◌∙◌}
use Rattle.std.specs.BTreeMap.{is_at}
use Rattle.std.specs.BTreeSet.{BTreeSet, contains}
use Rattle.std.specs.List.{list_any}
use Rattle.std.specs.Ordering.{is_le, is_gt, is_eq, ordering_reverse}
use Rattle.std.specs.declared.cmp.Ordering.{Ordering}
use Rattle.std.specs.declared.cmp.Ordering.TheVariants.{Less, Equal, Greater}
use Rattle.std.proofs.lemmas.Cmp.{upto, tied_back}
use Rattle.std.proofs.lemmas.List.{take-append-drop}
use Rattle.std.proofs.lemmas.List.Folds.{list_any-append, list_any_more}
use Rattle.stack_places.proofs.Exchanging.{false_true}
use Rattle.journal_entries.specs.PlaceSets.{is_within}
use Rattle.journal_entries.specs.SameKey.{same_key, key_cmp}
use Rattle.journal_entries.specs.contracts.place_key.PlaceKeyOrd.TheImpl.Laws as laws
use Rattle.journal_entries.specs.declared.place_key.PlaceKey.{PlaceKey}

-- ---- sorting

either : (e o a : Bool) → cond e true (o || a) ≡ o || (a || e)
either true true a = refl
either true false true = refl
either true false false = refl
either false true a = refl
either false false true = refl
either false false false = refl

-- the place of this number was sorted
pub sorted_one : (s n : BTreeSet PlaceKey) (old : Bool) (ws : List PlaceKey) (i : ℕ) (key q : PlaceKey) → i < length ws
    → key ≡ get_or ws i key → contains key_cmp n q ≡ cond (is_at (key_cmp key) q) true (contains key_cmp s q)
    → contains key_cmp s q ≡ old || list_any (λ k. same_key k q) (take i ws)
    → contains key_cmp n q ≡ old || list_any (λ k. same_key k q) (take (i + 1) ws)
sorted_one s n old ws i key q within is added before =
    added
    ∙ (λ j. cond (sym (laws.matches_eq-law key q) j) true (before j))
    ∙ either (same_key key q) old (list_any (λ k. same_key k q) (take i ws))
    ∙ (λ j. old || (list_any (λ k. same_key k q) (take i ws) || same_key (is j) q))
    ∙ ap (λ b. old || b) (sym (list_any_more (λ k. same_key k q) ws i key within))

twice : (o a b : Bool) → (o || a) || (a || b) ≡ o || (a || b)
twice true a b = refl
twice false true b = refl
twice false false b = refl

-- what was sorted first still waits
pub sorted_some : (s n : BTreeSet PlaceKey) (old : Bool) (ws : List PlaceKey) (i : ℕ) (q : PlaceKey) → n.keys ≡ s.keys
    → contains key_cmp s q ≡ old || list_any (λ k. same_key k q) (take i ws)
    → contains key_cmp n q || list_any (λ k. same_key k q) ws ≡ old || list_any (λ k. same_key k q) ws
sorted_some s n old ws i q same before =
    let p : PlaceKey → Bool = λ k. same_key k q in
    let parts : list_any p ws ≡ list_any p (take i ws) || list_any p (drop i ws) =
    ap (list_any p) (sym (take-append-drop i ws)) ∙ list_any-append p (take i ws) (drop i ws) in
    (λ j. list_any (is_at (key_cmp q)) (same j) || parts j)
    ∙ ap (λ b. b || (list_any p (take i ws) || list_any p (drop i ws))) before
    ∙ twice old (list_any p (take i ws)) (list_any p (drop i ws))
    ∙ ap (λ b. old || b) (sym parts)

-- ---- the greatest one

joined : (a w k : Bool) → a || (w || (k || false)) ≡ (a || w) || k
joined true w k = refl
joined false true k = refl
joined false false true = refl
joined false false false = refl

-- a place more that waits
pub has_more : (a : Bool) (ws : List PlaceKey) (key q : PlaceKey)
    → a || list_any (λ k. same_key k q) (ws ++ key ∷ []) ≡ (a || list_any (λ k. same_key k q) ws) || same_key key q
has_more a ws key q = ap (λ b. a || b) (list_any-append (λ k. same_key k q) ws (key ∷ []))
    ∙ joined a (list_any (λ k. same_key k q) ws) (same_key key q)

le_gt : (o : Ordering) → is_gt o ≡ false → is_le o ≡ true
le_gt Less h = refl
le_gt Equal h = refl
le_gt Greater h = false_true (sym h)

gt_le : (o : Ordering) → is_le o ≡ true → is_gt o ≡ false
gt_le Less h = refl
gt_le Equal h = refl
gt_le Greater h = false_true h

-- what comes above is below in turn
turned : (o r : Ordering) → o ≡ ordering_reverse r → is_le r ≡ false → is_gt o ≡ false
turned o Less is h = false_true (sym h)
turned o Equal is h = false_true (sym h)
turned o Greater is h = ap is_gt is

equal : (o : Ordering) → is_eq o ≡ true → o ≡ Equal
equal Less h = false_true h
equal Equal h = refl
equal Greater h = false_true h

same_place : (key q : PlaceKey) → same_key key q ≡ true → key_cmp key q ≡ Equal
same_place key q h = equal (key_cmp key q) (sym (laws.matches_eq-law key q) ∙ h)

alike : (g : Option PlaceKey) (key q : PlaceKey) → same_key key q ≡ true → is_within g q ≡ is_within g key
alike None key q h = refl
alike (Some greatest) key q h =
    ap is_le (laws.total-law.congr q key greatest (tied_back laws.total-law key q (same_place key q h)))

-- a place more, which isn't above the greatest one
pub within_still : (g : Option PlaceKey) (key q : PlaceKey) (old : Bool) → is_within g key ≡ true
    → (old ≡ true → is_within g q ≡ true) → old || same_key key q ≡ true → is_within g q ≡ true
within_still g key q true within before h = before refl
within_still g key q false within before h = alike g key q h ∙ within

-- a place more, which is above it
pub within_new : (g : Option PlaceKey) (key q : PlaceKey) (old : Bool) → is_within g key ≡ false
    → (old ≡ true → is_within g q ≡ true) → old || same_key key q ≡ true → is_within (Some key) q ≡ true
within_new None key q true above before h = false_true (before refl)
within_new (Some greatest) key q true above before h =
    le_gt (key_cmp q key) (upto laws.total-law q greatest key (gt_le (key_cmp q greatest) (before refl))
    (turned (key_cmp greatest key) (key_cmp key greatest) (laws.total-law.antisymm greatest key) above))
within_new g key q false above before h = ap is_le (tied_back laws.total-law key q (same_place key q h))
