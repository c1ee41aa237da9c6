-- A stack that is built from what a document lists, the last first.
use Rattle.std.proofs.Common.{◌≡◌, ℕ, Bool, true, List, [], ◌∷◌, ◌++◌, map, flat_map, refl, sym, ◌∙◌, ap, Option}
use Rattle.std.proofs.Common.{nat_eq, arith}
use Rattle.std.proofs.lemmas.List.Elements.{filter_map-append}
use Rattle.std.proofs.lemmas.Bool.Decides.{nat_tests}
use Rattle.std.proofs.lemmas.List.{map-append, append-nil}
use Rattle.std.proofs.lemmas.Grind.{flat_map-append}
use Rattle.std.specs.declared.cmp.Ordering.{Ordering}
use Rattle.std.specs.Ordering.{nat_cmp}
use Rattle.std.specs.FinMap.{FinMap, empty, insert, from_entries}
use Rattle.std.specs.FinSet as set
use Rattle.object_table.specs.Content.{Content}
use Rattle.object_table.specs.Pairs.{Pair, pair_cmp}
use Rattle.object_table.specs.Empty.{blank_stack}
use Rattle.object_table.proofs.Pairs.{pair_tied, pair_cmp_total}
use Rattle.stack_text.specs.declared.sheets.PartContent.{PartContent}
use Rattle.stack_text.specs.declared.sheets.Part.{Part}
use Rattle.stack_text.specs.declared.sheets.Keeping.{Keeping}
use Rattle.stack_text.specs.Document.{Sheet, Document}
use Rattle.stack_text.specs.Listing.{part_entry, object_entries, parts_entry, contents_on, written, lit, content_entry}
use Rattle.stack_text.specs.Listing.{content_entries, all_parts, all_contents, content_of}
use Rattle.stack_file.specs.Building.{inserted, own_contents, with_parts, with_keepings, with_rows, with_sheet}
use Rattle.stack_file.specs.Building.{card_for, with_sheets, with_document}

-- a pair that was opened is in the room
pub opened : (room : set.FinSet pair_cmp) (part card : ℕ)
    → set.contains (set.insert room (part, card)) (part, card) ≡ true
opened room part card = set.contains-insert pair_cmp_total room (part, card) (part, card)
    ∙ rw (pair_tied (part, card) (part, card), same part, same card) refl
  where
    same : (n : ℕ) → nat_eq n n ≡ true
    same n = grind (arith, nat_tests)

pub inserted-append : {K X : Type 0} {R : K → K → Ordering} (m : FinMap R X) (a b : List (K × X))
    → inserted m (a ++ b) ≡ inserted (inserted m b) a
inserted-append m [] b = refl
inserted-append m (e ∷ a) b = ap (λ n. insert n e.0 e.1) (inserted-append m a b)

pub inserted-empty : {K X : Type 0} {R : K → K → Ordering} (es : List (K × X))
    → from_entries {R = R} es ≡ inserted empty es
inserted-empty [] = refl
inserted-empty (e ∷ es) = ap (λ n. insert n e.0 e.1) (inserted-empty es)

-- ---- what is kept, in parts

module _ {X : Type 0} (pick : PartContent → Option X) (card : ℕ) where
  content_entries-append : (a b : List (ℕ × PartContent))
      → content_entries pick card (a ++ b) ≡ content_entries pick card a ++ content_entries pick card b
  content_entries-append a b = filter_map-append (content_entry pick card) a b

  content_entries-sheets : (xs : List Sheet)
      → content_entries pick card (flat_map contents_on xs)
      ≡ flat_map (λ (x : Sheet). content_entries pick card (contents_on x)) xs
  content_entries-sheets [] = refl
  content_entries-sheets (x ∷ xs) = content_entries-append (contents_on x) (flat_map contents_on xs)
      ∙ ap (λ (es : List (Pair × X)). content_entries pick card (contents_on x) ++ es) (content_entries-sheets xs)

  inserted-contents : (m : FinMap pair_cmp X) (a b : List (ℕ × PartContent))
      → inserted (inserted m (content_entries pick card b)) (content_entries pick card a)
      ≡ inserted m (content_entries pick card (a ++ b))
  inserted-contents m a b = sym (inserted-append m (content_entries pick card a) (content_entries pick card b))
      ∙ ap (inserted m) (sym (content_entries-append a b))

-- one more behind the others comes in before them
pub parts-onto : (card : ℕ) (ps : List Part) (p : Part) (s : Content)
    → with_parts card ps (with_parts card (p ∷ []) s) ≡ with_parts card (ps ++ p ∷ []) s
parts-onto card ps p s =
    let own : own_contents ps ++ own_contents (p ∷ []) ≡ own_contents (ps ++ p ∷ []) =
    sym (map-append (λ x. (x.id, x.content)) ps (p ∷ [])) in
    let objects = sym (ap (inserted s.objects) (map-append part_entry ps (p ∷ []))
    ∙ inserted-append s.objects (map part_entry ps) (part_entry p ∷ [])) in
    let texts = inserted-contents written card s.texts (own_contents ps) (own_contents (p ∷ []))
    ∙ ap (λ ks. inserted s.texts (content_entries written card ks)) own in
    let hilites = inserted-contents lit card s.hilites (own_contents ps) (own_contents (p ∷ []))
    ∙ ap (λ ks. inserted s.hilites (content_entries lit card ks)) own in
    λ i. record s { objects = objects i; texts = texts i; hilites = hilites i }

pub keepings-onto : (card : ℕ) (ks : List Keeping) (k : Keeping) (s : Content)
    → with_keepings card ks (with_keepings card (k ∷ []) s) ≡ with_keepings card (ks ++ k ∷ []) s
keepings-onto card ks k s =
    let pair : Keeping → ℕ × PartContent = λ x. (x.part, x.content) in
    let both = sym (map-append pair ks (k ∷ [])) in
    let texts = inserted-contents written card s.texts (map pair ks) (pair k ∷ [])
    ∙ ap (λ es. inserted s.texts (content_entries written card es)) both in
    let hilites = inserted-contents lit card s.hilites (map pair ks) (pair k ∷ [])
    ∙ ap (λ es. inserted s.hilites (content_entries lit card es)) both in
    λ i. record s { texts = texts i; hilites = hilites i }

-- a sheet, from its rows to its own object
pub sheet-is : (card : ℕ) (x : Sheet) (s a b : Content) → a ≡ with_rows x.id card x.parts x.keepings s
    → b ≡ record a { objects = insert a.objects x.id x.object } → b ≡ with_sheet card x s
sheet-is card x s a b rows last =
    last ∙ (λ i. record (rows i) { objects = insert (rows i).objects x.id x.object })
    ∙ (λ i. record (with_sheet card x s) {
      texts = inserted-contents written card s.texts (own_contents x.parts)
          (map (λ k. (k.part, k.content)) x.keepings) i;
      hilites = inserted-contents lit card s.hilites
          (own_contents x.parts) (map (λ k. (k.part, k.content)) x.keepings) i;
    })

last-joined : {Y : Type 0} (f : Sheet → List Y) (xs : List Sheet) (x : Sheet)
    → flat_map f (xs ++ x ∷ []) ≡ flat_map f xs ++ f x
last-joined f xs x = flat_map-append f xs (x ∷ []) ∙ ap (λ t. flat_map f xs ++ t) (append-nil (f x))

pub sheets-onto : (shared : Bool) (xs : List Sheet) (x : Sheet) (s : Content)
    → with_sheets shared xs (with_sheet (card_for shared x.id) x s) ≡ with_sheets shared (xs ++ x ∷ []) s
sheets-onto shared xs x s =
    let objects = sym (ap (inserted s.objects) (last-joined object_entries xs x)
    ∙ inserted-append s.objects (flat_map object_entries xs) (object_entries x)) in
    let parts = sym (ap (inserted s.parts) (map-append parts_entry xs (x ∷ []))
    ∙ inserted-append s.parts (map parts_entry xs) (parts_entry x ∷ [])) in
    let text : Sheet → List (Pair × List ℕ) = λ y. content_entries written (card_for shared y.id) (contents_on y) in
    let light : Sheet → List (Pair × Bool) = λ y. content_entries lit (card_for shared y.id) (contents_on y) in
    let texts =
    sym (ap (inserted s.texts) (last-joined text xs x) ∙ inserted-append s.texts (flat_map text xs) (text x)) in
    let hilites = sym (ap (inserted s.hilites) (last-joined light xs x)
    ∙ inserted-append s.hilites (flat_map light xs) (light x)) in
    λ i. record s { objects = objects i; parts = parts i; texts = texts i; hilites = hilites i }

-- the last of a list of sheets comes in
pub step : {X : Type 0} (view : X → Sheet) (shared : Bool) (xs all : List X) (x : X) (s : Content) → all ≡ xs ++ x ∷ []
    → with_sheets shared (map view xs) (with_sheet (card_for shared (view x).id) (view x) s)
    ≡ with_sheets shared (map view all) s
step view shared xs all x s e = sheets-onto shared (map view xs) (view x) s
    ∙ ap (λ l. with_sheets shared l s) (sym (map-append view xs (x ∷ [])))
    ∙ ap (λ l. with_sheets shared (map view l) s) (sym e)

-- what is built is the stack that the document lists
abbrev own : {X : Type 0} → (PartContent → Option X) → Sheet → List (Pair × X)
own pick x = content_entries pick x.id (contents_on x)

pub built-is : (d : Document) → with_document d blank_stack ≡ content_of d
built-is d =
    let objects = inserted-empty {R = nat_cmp}
    (flat_map object_entries d.backgrounds ++ flat_map object_entries d.cards)
    ∙ inserted-append empty (flat_map object_entries d.backgrounds) (flat_map object_entries d.cards) in
    let parts = inserted-empty {R = nat_cmp} (all_parts d)
    ∙ inserted-append empty (map parts_entry d.backgrounds) (map parts_entry d.cards) in
    let texts =
    inserted-empty {R = pair_cmp} (all_contents written d)
    ∙ inserted-append empty (content_entries written 0 (flat_map contents_on d.backgrounds))
    (flat_map (own written) d.cards)
    ∙ ap (inserted (inserted empty (flat_map (own written) d.cards))) (content_entries-sheets written 0 d.backgrounds)
    in
    let hilites =
    inserted-empty {R = pair_cmp} (all_contents lit d)
    ∙ inserted-append empty (content_entries lit 0 (flat_map contents_on d.backgrounds))
    (flat_map (own lit) d.cards)
    ∙ ap (inserted (inserted empty (flat_map (own lit) d.cards))) (content_entries-sheets lit 0 d.backgrounds)
    in
    λ i. record (content_of d) {
      objects = insert ((sym objects) i) 0 d.stack;
      parts = (sym parts) i;
      texts =
          (sym texts) i;
      hilites = (sym hilites) i;
    }
