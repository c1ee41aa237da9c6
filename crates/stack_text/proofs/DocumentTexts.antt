-- What is read is a document that lists a stack, and each such document is read.
use Rattle.std.proofs.Common.{◌≡◌, ℕ, suc, ◌+◌, ◌^◌, ◌<◌, ◌≤◌, true, false, List, [], ◌∷◌, ◌++◌, length, arith}
use Rattle.std.specs.Prelude.{IsTrue, flat_map, Ok}
use Rattle.std.specs.List.{AllByRecursion}
use Rattle.std.proofs.lemmas.List.{length-append, length-map}
use Rattle.std.proofs.lemmas.List.Sums.{AllPass-from_list_all, list_all-from_AllPass}
use Rattle.std.proofs.lemmas.List.Elements.{All-from_recursion, recursion_from_All}
use Rattle.stack_text.specs.declared.sheets.Part.{Part}
use Rattle.stack_text.specs.declared.sheets.Keeping.{Keeping}
use Rattle.stack_text.specs.Document.{Sheet, Document, contains_id, sheet_ids, part_ids, parts_of, background_or}
use Rattle.stack_text.specs.Document.{backgrounds_of, ids_on, ids_in}
use Rattle.stack_text.specs.Spelling.{Version, document_text}
use Rattle.stack_text.specs.Reading.{document_at}
use Rattle.stack_text.proofs.Forms.{Each, Pairs, adding}
use Rattle.stack_text.proofs.Parts.{IsSaidPart, IsNewPart}
use Rattle.stack_text.proofs.Layers.{IsNewBackground, IsNewCard, SaysKeeping}
use Rattle.stack_text.proofs.Whole.{IsRead, read-found, read-again}
use Rattle.stack_text.proofs.Elements.{each_so, each_both, each_parts, each_at, each_map, each_joined}
use Rattle.stack_text.proofs.Ids.{News, News-parts, News-joined, News-room, News-range, News-once, News-from}
use Rattle.stack_text.proofs.Ids.{apart_from_none}
use Rattle.stack_text.proofs.Listable.{IsBackgroundSheet, IsCardSheet, IsDocument, SaysParts, SaysKeepings, Says}
use Rattle.stack_text.proofs.Listable.{IsCardPart, Keeps, SaysContent}

-- ---- from what is read

module _ (Q : Part → Type 0) where
  parts-news : (next : ℕ) (used : List ℕ) (ps : List Part) → Each (IsNewPart Q next) (λ p. p.id ∷ []) used ps
      → News next used (part_ids ps) × AllByRecursion Q ps
  parts-news next used [] h = (tt, tt)
  parts-news next used (p ∷ ps) h =
      let rest = parts-news next (used ++ p.id ∷ []) ps h.1 in ((h.0.new, rest.0), (h.0.is, rest.1))

backgrounds-news : (v : Version) (next : ℕ) (used : List ℕ) (bs : List Sheet)
    → Each (IsNewBackground v next) ids_on used bs
    → News next used (flat_map ids_on bs) × (AllByRecursion IsBackgroundSheet bs × AllByRecursion (SaysParts v) bs)
backgrounds-news v next used [] h = (tt, (tt, tt))
backgrounds-news v next used (b ∷ bs) h =
    let p = parts-news (IsSaidPart v) next (used ++ b.id ∷ []) b.parts h.0.parts in
    let q = backgrounds-news v next (adding used (ids_on b)) bs h.1 in (
      News-joined next used (ids_on b) (flat_map ids_on bs) (h.0.new, p.0) q.0,
      (
        (record { is = h.0.is; named = h.0.named; parts = each_so (λ x k. k.0) b.parts p.1; none = h.0.none }, q.1.0),
        (each_so (λ x k. k.1) b.parts p.1, q.1.1),
      ),
    )

pairs_apart : (v : Version) (ps : List Part) (ks : List Keeping) → Pairs (SaysKeeping v) ps ks
    → Pairs Keeps ps ks × AllByRecursion (λ (k : Keeping). SaysContent v k.content) ks
pairs_apart v [] [] h = (tt, tt)
pairs_apart v (p ∷ ps) (k ∷ ks) h = let rest = pairs_apart v ps ks h.1 in ((h.0.0, rest.0), (h.0.1, rest.1))
pairs_apart v ps ks h = absurd h

pairs_joined : (v : Version) (ps : List Part) (ks : List Keeping) → Pairs Keeps ps ks
    → AllByRecursion (λ (k : Keeping). SaysContent v k.content) ks → Pairs (SaysKeeping v) ps ks
pairs_joined v [] [] h s = tt
pairs_joined v (p ∷ ps) (k ∷ ks) h s = ((h.0, s.0), pairs_joined v ps ks h.1 s.1)
pairs_joined v ps ks h s = absurd h

cards-news : (v : Version) (next : ℕ) (bs : List Sheet) (used : List ℕ) (cs : List Sheet)
    → Each (IsNewCard v next bs) ids_on used cs
    → News next used (flat_map ids_on cs) × (AllByRecursion (IsCardSheet bs) cs × AllByRecursion (SaysKeepings v) cs)
cards-news v next bs used [] h = (tt, (tt, tt))
cards-news v next bs used (c ∷ cs) h =
    let p = parts-news IsCardPart next (used ++ c.id ∷ []) c.parts h.0.parts in
    let k = pairs_apart v (parts_of bs (background_or c.object.kind)) c.keepings h.0.keepings in
    let q = cards-news v next bs (adding used (ids_on c)) cs h.1 in (
      News-joined next used (ids_on c) (flat_map ids_on cs) (h.0.new, p.0) q.0,
      ((record { is = h.0.is; named = h.0.named; parts = p.1; on = h.0.on; keepings = k.0 }, q.1.0), (k.1, q.1.1)),
    )

document-from_read : (v : Version) (d : Document) → IsRead v d → IsDocument d × Says v d
document-from_read v d h =
    let b = backgrounds-news v d.next [] d.backgrounds h.backgrounds in
    let c = cards-news v d.next d.backgrounds (adding [] (flat_map ids_on d.backgrounds)) d.cards h.cards in
    let news = News-joined d.next [] (flat_map ids_on d.backgrounds) (flat_map ids_on d.cards) b.0 c.0 in (
      record {
        next_low = h.next_low;
        next_high = h.next_high;
        ids = News-range d.next [] (ids_in d) news;
        once = News-once d.next [] (ids_in d) news;
        few = omega (arith, News-room d.next [] (ids_in d) news (omega arith));
        stack = h.stack;
        named = h.named;
        some_background = h.some_background;
        backgrounds = b.1.0;
        cards = c.1.0;
        some_card = recursion_from_All _ d.backgrounds
            (AllPass-from_list_all (λ x. contains_id x.id (backgrounds_of d.cards)) d.backgrounds h.have);
      },
      (b.1.1, c.1.1),
    )

-- ---- to what is read

-- ids that are spelled in seven digits
abbrev Small : ℕ → Type 0
Small n = n < 10 ^ 7

module _ (Q : Part → Type 0) where
  parts-each : (next : ℕ) (used : List ℕ) (ps : List Part) → next ≤ 1000001 → News next used (part_ids ps)
      → AllByRecursion Q ps → Each (IsNewPart Q next) (λ p. p.id ∷ []) used ps
  parts-each next used [] high h are = tt
  parts-each next used (p ∷ ps) high h are =
      let below : p.id < next = h.0.below in
      (record { small = omega arith; new = h.0; is = are.0 }, parts-each next (used ++ p.id ∷ []) ps high h.1 are.1)

-- the parts of a sheet are few
few_parts : (next : ℕ) (used : List ℕ) (s : Sheet) → News next used (ids_on s) → length s.parts ≤ 10000
few_parts next used s h =
    let room : length used < 10000 = h.0.room in
    let fits : length used + suc (length (part_ids s.parts)) ≤ 10000 = News-room next used (ids_on s) h (omega arith) in
    let same : length (part_ids s.parts) ≡ length s.parts = length-map s.parts (λ (p : Part). p.id) in
    omega arith

backgrounds-each : (v : Version) (next : ℕ) (used : List ℕ) (bs : List Sheet) → next ≤ 1000001
    → News next used (flat_map ids_on bs) → AllByRecursion IsBackgroundSheet bs → AllByRecursion (SaysParts v) bs
    → Each (IsNewBackground v next) ids_on used bs
backgrounds-each v next used [] high h are says = tt
backgrounds-each v next used (b ∷ bs) high h are says =
    let p = News-parts next used (ids_on b) (flat_map ids_on bs) h in
    let below : b.id < next = p.0.0.below in (
      record {
        small = omega arith;
        new = p.0.0;
        is = are.0.is;
        named = are.0.named;
        few = few_parts next used b p.0;
        parts = parts-each (IsSaidPart v) next (used ++ b.id ∷ []) b.parts high p.0.1
            (each_both (λ x i s. (i, s)) b.parts are.0.parts says.0);
        none = are.0.none;
      },
      backgrounds-each v next (adding used (ids_on b)) bs high p.1 are.1 says.1,
    )

small_contained : (bs : List Sheet) (id : ℕ) → AllByRecursion Small (flat_map ids_on bs)
    → IsTrue (contains_id id (sheet_ids bs)) → Small id
small_contained bs id h e = each_at Small id (sheet_ids bs)
    (each_map Small (λ s. s.id) bs (each_so (λ s k. k.0) bs (each_joined Small ids_on bs h))) e

cards-each : (v : Version) (next : ℕ) (bs : List Sheet) (used : List ℕ) (cs : List Sheet) → next ≤ 1000001
    → AllByRecursion Small (flat_map ids_on bs) → News next used (flat_map ids_on cs)
    → AllByRecursion (IsCardSheet bs) cs → AllByRecursion (SaysKeepings v) cs
    → Each (IsNewCard v next bs) ids_on used cs
cards-each v next bs used [] high small h are says = tt
cards-each v next bs used (c ∷ cs) high small h are says =
    let p = News-parts next used (ids_on c) (flat_map ids_on cs) h in
    let below : c.id < next = p.0.0.below in (
      record {
        small = omega arith;
        small_background = small_contained bs (background_or c.object.kind) small are.0.on;
        new = p.0.0;
        is = are.0.is;
        on = are.0.on;
        named = are.0.named;
        few = few_parts next used c p.0;
        parts = parts-each IsCardPart next (used ++ c.id ∷ []) c.parts high p.0.1 are.0.parts;
        keepings = pairs_joined v (parts_of bs (background_or c.object.kind)) c.keepings are.0.keepings says.0;
      },
      cards-each v next bs (adding used (ids_on c)) cs high small p.1 are.1 says.1,
    )

-- each sheet has an id at least
ids-many : (ss : List Sheet) → length ss ≤ length (flat_map ids_on ss)
ids-many [] = omega arith
ids-many (s ∷ ss) = omega (arith, ids-many ss, length-append (ids_on s) (flat_map ids_on ss))

some_card : (bs cs : List Sheet) → 1 ≤ length bs
    → AllByRecursion (λ b. IsTrue (contains_id b.id (backgrounds_of cs))) bs → 1 ≤ length cs
some_card [] cs some h = absurd (omega arith)
some_card (b ∷ bs) [] some h = absurd (let e : false ≡ true = h.0 in cc)
some_card (b ∷ bs) (c ∷ cs) some h = omega arith

read-from_document : (v : Version) (d : Document) → IsDocument d → Says v d → IsRead v d
read-from_document v d h says =
    let high : d.next ≤ 1000001 = h.next_high in
    let few : length (ids_in d) ≤ 10000 = h.few in
    let news = News-parts d.next [] (flat_map ids_on d.backgrounds) (flat_map ids_on d.cards)
    (News-from d.next [] (ids_in d) h.ids (apart_from_none (ids_in d)) h.once (omega arith)) in
    let small = (each_parts Small (flat_map ids_on d.backgrounds) (flat_map ids_on d.cards)
    (each_so (below_high d.next high) (ids_in d) h.ids)).0 in
    let parts = length-append (flat_map ids_on d.backgrounds) (flat_map ids_on d.cards) in
    let many = ids-many d.backgrounds in
    let many_cards = ids-many d.cards in
    record {
      next_low = h.next_low;
      next_high = high;
      named = h.named;
      stack = h.stack;
      some_background = h.some_background;
      few_backgrounds = omega arith;
      backgrounds = backgrounds-each v d.next [] d.backgrounds high news.0 h.backgrounds says.0;
      some_card = some_card d.backgrounds d.cards h.some_background h.some_card;
      few_cards = omega arith;
      cards = cards-each v d.next d.backgrounds (adding [] (flat_map ids_on d.backgrounds)) d.cards high small news.1
          h.cards says.1;
      have = list_all-from_AllPass (λ b. contains_id b.id (backgrounds_of d.cards)) d.backgrounds
          (All-from_recursion _ d.backgrounds h.some_card);
    }
  where
    below_high : (next : ℕ) → next ≤ 1000001 → (id : ℕ) → (0 < id) × (id < next) → Small id
    below_high next high id h = omega (arith, h.1)

-- ---- the two laws

-- what is read lists a stack, and is spelled so in a version that can say it
pub document-found : (bytes : List ℕ) (d : Document) → document_at bytes ≡ Ok d
    → (v : Version) × (IsDocument d × Says v d) × (bytes ≡ document_text v d)
document-found bytes d e = let p = read-found bytes d e in (p.0, document-from_read p.0 d p.1, p.2)

-- what is spelled so is read
pub document-again : (v : Version) (d : Document) → IsDocument d → Says v d → document_at (document_text v d) ≡ Ok d
document-again v d h says = read-again v d (read-from_document v d h says)
