-- The whole of a stack text, read and spelled.
use Rattle.std.proofs.Common.{◌≡◌, ℕ, ◌≤◌, Bool, true, false, eqb, List, [], ◌∷◌, ◌++◌, length, Result, Ok, Err, Some}
use Rattle.std.proofs.Common.{refl, sym, ap, subst, ◌∙◌, append_assoc, lit<, inl, inr, codes, not, flat_map}
use Rattle.std.specs.List.{AllByRecursion, list_all}
use Rattle.std.proofs.lemmas.Bool.{eqb-true, not-false}
use Rattle.std.proofs.lemmas.List.{nil_from_length}
use Rattle.object_table.specs.declared.object.Object.{Object}
use Rattle.object_table.specs.declared.object.Kind.{Kind}
use Rattle.object_table.specs.declared.object.Kind.TheVariants.{Stack}
use Rattle.stack_text.specs.declared.sheets.Part.{Part}
use Rattle.stack_text.specs.Words.{numbered}
use Rattle.stack_text.specs.Document.{Sheet, Document, contains_id, backgrounds_of, ids_on}
use Rattle.ht_values.specs.Delimited.{ended_lines}
use Rattle.stack_text.specs.Spelling.{Version, first, second, header, name_line, script_lines, background_lines}
use Rattle.stack_text.specs.Spelling.{card_lines, sheets_lines, document_lines, document_text}
use Rattle.stack_text.specs.Reading.{Position, Reader, chain, ◌>>=◌, give, times, bad_id_if, line_after, exactly}
use Rattle.stack_text.specs.Reading.{name_at, count_after, version_at, stack_at, background_at, backgrounds_at, card_at}
use Rattle.stack_text.specs.Reading.{cards_at, end_at, nothing_left, body_at, all_lines, document_at, value_of}
use Rattle.stack_text.specs.declared.fault.FileError.{FileError}
use Rattle.stack_text.proofs.Forms.{onto, onto-append, count_on, adding, position_at, Reads, Each, chain_ok, both}
use Rattle.stack_text.proofs.Forms.{gives, said, resaid, bad_id_if-reads, times-reads, giving}
use Rattle.stack_text.proofs.Keyed.{has, exactly-reads, keyed, Spelled}
use Rattle.stack_text.proofs.Productions.{name_at-reads, count_after-reads}
use Rattle.stack_text.proofs.Parts.{script-reads, IsSaidPart, IsNewPart}
use Rattle.stack_text.proofs.Layers.{IsNewBackground, background-reads, IsKeptFor, AreKeptFor, IsNewCard, card-reads}
use Rattle.stack_text.proofs.Flags.{chosen-found}
use Rattle.stack_text.proofs.Listable.{IsNamed}

-- ---- forms that go to the end

-- The reader reads all that is left.
pub record Ends {A : Type 0} (r : Reader A) (Holds : List ℕ → A → Type 0) (lines : A → List (List ℕ)) : Type 0 where
  pub found : (s t : Position) (x : A) → r s ≡ Ok (x, t) → Holds s.used x × (s.bytes ≡ onto (lines x) [])
  pub again : (n : ℕ) (used : List ℕ) (x : A) → Holds used x
      → (t : Position) × (r (position_at n used (onto (lines x) [])) ≡ Ok (x, t))

module _ {A B : Type 0} (r : Reader A) (f : A → Reader B) {P : List ℕ → A → Type 0} {l : A → List (List ℕ)}
    {i : A → List ℕ} {Q : A → List ℕ → B → Type 0} {m : A → B → List (List ℕ)} (first : Reads r P l i)
    (then : (x : A) (used : List ℕ) → P used x → Ends (f x) (Q x) (m x)) (back : B → A)
    (is : (x : A) (used : List ℕ) (y : B) → Q x used y → back y ≡ x) where
  abbrev Both : A → List ℕ → B → Type 0
  Both x used y = P used x × Q x (adding used (i x)) y

  ends-found : (s t : Position) (y : B) → (r >>= f) s ≡ Ok (y, t)
      → Both (back y) s.used y × (s.bytes ≡ onto (l (back y) ++ m (back y) y) [])
  ends-found s t y e =
      let c = chain_ok (r s) f y t e in
      let p = first.found s c.1 c.0 c.2 in
      let q = (then c.0 s.used p.0).found c.1 t y c.3 in
      let at : Both c.0 s.used y × (s.bytes
      ≡ onto (l c.0 ++ m c.0 y) []) = (
        (p.0, subst (λ (u : List ℕ). Q c.0 u y) p.1.used q.0),
        p.1.bytes ∙ ap (onto (l c.0)) q.1
            ∙ sym (onto-append (l c.0) (m c.0 y) []),
      ) in
      subst (λ (x : A). Both x s.used y × (s.bytes ≡ onto (l x ++ m x y) [])) (sym (is c.0 c.1.used y q.0)) at

  ends-again : (n : ℕ) (used : List ℕ) (y : B) → Both (back y) used y
      → (t : Position) × ((r >>= f) (position_at n used (onto (l (back y) ++ m (back y) y) [])) ≡ Ok (y, t))
  ends-again n used y h =
      let x = back y in
      let last = (then x used h.0).again (count_on n (l x)) (adding used (i x)) y h.1 in (
        last.0,
        ap (λ (b : List ℕ). (r >>= f) (position_at n used b)) (onto-append (l x) (m x y) [])
            ∙ ap (λ (o : Result (A × Position) FileError). chain o f) (first.again n used (onto (m x y) []) x h.0)
            ∙ last.1,
      )

  -- a form and then another to the end
  ends_given : Ends (r >>= f) (λ used y. Both (back y) used y) (λ y. l (back y) ++ m (back y) y)
  ends_given = record { found = ends-found; again = ends-again }

module _ {A B : Type 0} (r : Reader A) (f : A → Reader B) {P : List ℕ → A → Type 0} {l : A → List (List ℕ)}
    {i : A → List ℕ} {Q : A → List ℕ → B → Type 0} {m : A → B → List (List ℕ)} (first : Reads r P l i)
    (then : (x : A) → Ends (f x) (Q x) (m x)) (back : B → A)
    (is : (x : A) (used : List ℕ) (y : B) → Q x used y → back y ≡ x) where
  ends : Ends (r >>= f) (λ used y. P used (back y) × Q (back y) (adding used (i (back y))) y)
      (λ y. l (back y) ++ m (back y) y)
  ends = ends_given r f first (λ x used h. then x) back is

nothing_left-ends : Ends nothing_left (λ used x. Unit {0}) (λ x. [])
nothing_left-ends = record {
  found = λ s t x e. (tt, by s t x (eqb (length s.bytes) 0) refl e);
  again = λ n used x h.
      (position_at n used [], refl);
}
  where
    by : (s t : Position) (x : Unit {0}) (b : Bool) → eqb (length s.bytes) 0 ≡ b → nothing_left s ≡ Ok (x, t)
        → s.bytes ≡ []
    by s t x true is h = nil_from_length s.bytes (eqb-true _ _ is)
    by s t x false is h = absurd (let k = rw is at h in cc)

-- what is said once all is read
then_gives : {A B : Type 0} (r : Reader A) (x : A) (y : B) {P : List ℕ → A → Type 0} {l : A → List (List ℕ)}
    → Ends r P l → ((z : A) → z ≡ x) → Ends (r >>= λ z. give y) (λ used w. P used x × (w ≡ y)) (λ w. l x)
then_gives r x y {P} {l} form one = record {
  found = λ s t w e.
      let c = chain_ok (r s) (λ z. give y) w t e in
      let p = form.found s c.1 c.0 c.2 in
      let g = (gives y).found c.1 t w c.3 in
      ((subst (P s.used) (one c.0) p.0, g.0), p.1 ∙ ap (λ z. onto (l z) []) (one c.0));
  again = λ n used w h.
      let p = form.again n used x h.0 in
      (p.0, ap (λ o. chain o (λ z. give y)) p.1 ∙ ap (λ z. give z p.0) (sym h.1));
}

-- ---- the parts of a document

stack-reads : Reads stack_at (λ used x. ((3 ≤ x.0) × (x.0 ≤ 1000001)) × (IsNamed x.1 × (x.1.kind ≡ Stack)))
    (λ x. numbered (codes "next") x.0 ∷ name_line x.1.name ∷ script_lines x.1.script) (λ x. [])
unfolding stack_at
stack-reads =
    said (both (count_after (codes "next ") 3 1000001) _ (count_after-reads (codes "next ") 3 1000001 refl (lit< tt))
    (λ next. both name_at _ name_at-reads
    (λ name. giving script-reads (stack next name) (λ y. y.1.script) (λ script. refl))
    (λ y. y.1.name) (λ name used y h. ap (λ (z : ℕ × Object). z.1.name) h.1))
    (λ y. y.0) (λ next used y h. ap (λ (z : ℕ × Object). z.0) h.1.1))
    (λ used y h. (h.0, ((h.1.0, h.1.1.0), ap (λ (z : ℕ × Object). z.1.kind) h.1.1.1)))
    (λ used y h. (h.0, (h.1.0.0, (h.1.0.1, stack_is y.0 y.1.name y.1.script y.1.kind h.1.1))))
  where
    stack : ℕ → List ℕ → List ℕ → ℕ × Object
    stack next name script = (next, record { name = name; script = script; kind = Stack })

    stack_is : (n : ℕ) (name script : List ℕ) (k : Kind) → k ≡ Stack
        → ◌≡◌ {A = ℕ × Object} (n, record { name = name; script = script; kind = k }) (stack n name script)
    stack_is n name script k e =
        ap (λ (z : Kind). let x : ℕ × Object = (n, record { name = name; script = script; kind = z }) in x) e

backgrounds-reads : (v : Version) (next : ℕ)
    → Reads (backgrounds_at v next)
    (λ used bs. ((1 ≤ length bs) × (length bs ≤ 10000)) × Each (IsNewBackground v next) ids_on used bs)
    (sheets_lines (codes "backgrounds") (background_lines v)) (flat_map ids_on)
unfolding backgrounds_at
backgrounds-reads v next =
    said (both (count_after (codes "backgrounds ") 1 10000) (λ n. times n (background_at v next))
    (count_after-reads (codes "backgrounds ") 1 10000 refl (lit< tt))
    (times-reads (background_at v next) (background-reads v next)) length (λ n used y h. h.0))
    (λ used y h. (h.0, h.1.1))
    (λ used y h. (h.0, (refl, h.1)))

cards-reads : (v : Version) (next : ℕ) (bs : List Sheet) → AreKeptFor bs
    → Reads (cards_at v next bs) (λ used cs. ((1 ≤ length cs) × (length cs ≤ 10000))
    × Each (IsNewCard v next bs) ids_on used cs) (sheets_lines (codes "cards") (card_lines v)) (flat_map ids_on)
unfolding cards_at
cards-reads v next bs kept =
    said (both (count_after (codes "cards ") 1 10000) (λ n. times n (card_at v next bs))
    (count_after-reads (codes "cards ") 1 10000 refl (lit< tt))
    (times-reads (card_at v next bs) (card-reads v next bs kept)) length (λ n used y h. h.0))
    (λ used y h. (h.0, h.1.1))
    (λ used y h. (h.0, (refl, h.1)))

-- each background has a card
abbrev pub have_cards : List Sheet → List Sheet → Bool
have_cards bs cs = list_all (λ b. contains_id b.id (backgrounds_of cs)) bs

end-ends : (bs : List Sheet) (cs : List Sheet)
    → Ends (end_at bs cs) (λ used x. Unit {0} × ((not (have_cards bs cs) ≡ false) × Unit {0})) (λ x. codes "end" ∷ [])
unfolding end_at
end-ends bs cs =
    ends (exactly (codes "end")) (λ done. bad_id_if (not (have_cards bs cs)) >>= λ each. nothing_left)
    (exactly-reads (codes "end") refl)
    (λ done. ends (bad_id_if (not (have_cards bs cs))) (λ each. nothing_left) (bad_id_if-reads (not (have_cards bs cs)))
    (λ each. nothing_left-ends) (λ y. tt) (λ x used y h. refl))
    (λ y. tt) (λ x used y h. refl)

-- for the parts of the backgrounds that are read, cards keep something
parts_kept : (v : Version) (next : ℕ) (used : List ℕ) (ps : List Part)
    → Each (IsNewPart (IsSaidPart v) next) (λ p. p.id ∷ []) used ps → AllByRecursion IsKeptFor ps
parts_kept v next used [] h = tt
parts_kept v next used (p ∷ ps) h = ((h.0.small, h.0.is.0.0), parts_kept v next (used ++ p.id ∷ []) ps h.1)

sheets_kept : (v : Version) (next : ℕ) (used : List ℕ) (bs : List Sheet) → Each (IsNewBackground v next) ids_on used bs
    → AreKeptFor bs
sheets_kept v next used [] h = tt
sheets_kept v next used (b ∷ bs) h =
    (parts_kept v next (used ++ b.id ∷ []) b.parts h.0.parts, sheets_kept v next (adding used (ids_on b)) bs h.1)

-- ---- the whole

-- a document that is read
pub record IsRead (v : Version) (d : Document) : Type 0 where
  pub next_low : 3 ≤ d.next
  pub next_high : d.next ≤ 1000001
  pub named : IsNamed d.stack
  pub stack : d.stack.kind ≡ Stack
  pub some_background : 1 ≤ length d.backgrounds
  pub few_backgrounds : length d.backgrounds ≤ 10000
  pub backgrounds : Each (IsNewBackground v d.next) ids_on [] d.backgrounds
  pub some_card : 1 ≤ length d.cards
  pub few_cards : length d.cards ≤ 10000
  pub cards : Each (IsNewCard v d.next d.backgrounds) ids_on (adding [] (flat_map ids_on d.backgrounds)) d.cards
  pub have : have_cards d.backgrounds d.cards ≡ true

abbrev listed : ℕ × Object → List Sheet → List Sheet → Document
listed head bs cs = record { next = head.0; stack = head.1; backgrounds = bs; cards = cs }

-- the lines behind the version
abbrev pub body_lines : Version → Document → List (List ℕ)
body_lines v d = (numbered (codes "next") d.next ∷ name_line d.stack.name ∷ script_lines d.stack.script)
    ++ (sheets_lines (codes "backgrounds") (background_lines v) d.backgrounds
    ++ (sheets_lines (codes "cards") (card_lines v) d.cards ++ codes "end" ∷ []))

body-ends : (v : Version) → Ends (body_at v)
    (λ used d. (((3 ≤ d.next) × (d.next ≤ 1000001)) × (IsNamed d.stack × (d.stack.kind ≡ Stack)))
    × ((((1 ≤ length d.backgrounds) × (length d.backgrounds ≤ 10000))
    × Each (IsNewBackground v d.next) ids_on used d.backgrounds)
    × ((((1 ≤ length d.cards) × (length d.cards ≤ 10000))
    × Each (IsNewCard v d.next d.backgrounds) ids_on (adding used (flat_map ids_on d.backgrounds)) d.cards)
    × ((Unit {0} × ((not (have_cards d.backgrounds d.cards) ≡ false) × Unit {0})) × (d ≡ d)))))
    (body_lines v)
unfolding body_at
body-ends v =
    ends stack_at (λ head. backgrounds_at v head.0 >>= λ bs. cards_at v head.0 bs >>= λ cs. end_at bs cs >>= λ done.
    give (listed head bs cs)) stack-reads
    (λ head. ends_given (backgrounds_at v head.0)
    (λ bs. cards_at v head.0 bs >>= λ cs. end_at bs cs >>= λ done. give (listed head bs cs))
    (backgrounds-reads v head.0)
    (λ bs used are. ends (cards_at v head.0 bs) (λ cs. end_at bs cs >>= λ done. give (listed head bs cs))
    (cards-reads v head.0 bs (sheets_kept v head.0 used bs are.1))
    (λ cs. then_gives (end_at bs cs) tt (listed head bs cs) (end-ends bs cs) (λ z. refl))
    (λ y. y.cards) (λ cs used y h. ap (λ (z : Document). z.cards) h.1))
    (λ y. y.backgrounds) (λ bs used y h. ap (λ (z : Document). z.backgrounds) h.1.1))
    (λ y. (y.next, y.stack)) (λ head used y h. ap (λ (z : Document). let pair : ℕ × Object = (z.next, z.stack) in pair)
    h.1.1.1)

body-found : (v : Version) (s t : Position) (d : Document) → s.used ≡ [] → body_at v s ≡ Ok (d, t)
    → IsRead v d × (s.bytes ≡ onto (body_lines v d) [])
body-found v s t d none e =
    let p = (body-ends v).found s t d e in
    let h = p.0 in (
      record {
        next_low = h.0.0.0;
        next_high = h.0.0.1;
        named = h.0.1.0;
        stack = h.0.1.1;
        some_background = h.1.0.0.0;
        few_backgrounds = h.1.0.0.1;
        backgrounds = subst (λ u. Each (IsNewBackground v d.next) ids_on u d.backgrounds) none h.1.0.1;
        some_card = h.1.1.0.0.0;
        few_cards = h.1.1.0.0.1;
        cards = subst (λ u. Each (IsNewCard v d.next d.backgrounds) ids_on (adding u (flat_map ids_on d.backgrounds))
            d.cards) none h.1.1.0.1;
        have = not-false _ h.1.1.1.0.1.0;
      },
      p.1,
    )

body-again : (v : Version) (n : ℕ) (d : Document) → IsRead v d
    → (t : Position) × (body_at v (position_at n [] (onto (body_lines v d) [])) ≡ Ok (d, t))
body-again v n d h =
    (body-ends v).again n [] d (
      ((h.next_low, h.next_high), (h.named, h.stack)),
      (
        ((h.some_background, h.few_backgrounds), h.backgrounds),
        (((h.some_card, h.few_cards), h.cards), ((tt, (ap not h.have, tt)), refl)),
      ),
    )

-- ---- the version

abbrev version_word : Version → List ℕ
version_word first = codes "1"
version_word second = codes "2"

version-found : (word : List ℕ) (v : Version) → version_at word ≡ Some v → Unit {0} × (word ≡ version_word v)
version-found word v e =
    elim (chosen-found word (codes "1") (codes "2") first second v e) [
      | inl h ↦ (tt, rw h.0 h.1)
      | inr h ↦ (tt, rw h.0 h.1)
    ]

version-again : (v : Version) → version_at (version_word v) ≡ Some v
version-again first = refl
version-again second = refl

version-line : (v : Version) → has 10 (version_word v) ≡ false
version-line first = refl
version-line second = refl

versions : Spelled version_at (λ v. Unit {0}) version_word
versions = record { found = version-found; again = λ v h. version-again v; line = λ v h. version-line v }

version-header : (v : Version) → codes "htstack " ++ version_word v ≡ header v
version-header first = refl
version-header second = refl

version_line-reads : Reads (line_after (codes "htstack ") version_at) (λ used v. Unit {0}) (λ v. header v ∷ [])
    (λ v. [])
version_line-reads = resaid (keyed (codes "htstack ") version_at versions refl)
    (λ used v h. (tt, ap (λ (l : List ℕ). l ∷ []) (version-header v), refl)) (λ used v h. tt)

pub joined_onto : (lines : List (List ℕ)) → onto lines [] ≡ ended_lines lines
joined_onto [] = refl
joined_onto (l ∷ ls) =
    ap (λ (b : List ℕ). l ++ 10 ∷ b) (joined_onto ls) ∙ sym (append_assoc l (10 ∷ []) (ended_lines ls))

start : List ℕ → Position
start bytes = record { bytes = bytes; number = 0; used = [] }

value_ok : {A : Type 0} (r : Result (A × Position) FileError) (x : A) → value_of r ≡ Ok x
    → (t : Position) × (r ≡ Ok (x, t))
value_ok (Ok p) x e = let is : p.0 ≡ x = cc in (p.1, ap (λ y. Ok (y, p.1)) is)
value_ok (Err f) x e = absurd cc

-- what is read is spelled so, in one of the versions
pub read-found : (bytes : List ℕ) (d : Document) → document_at bytes ≡ Ok d
    → (v : Version) × IsRead v d × (bytes ≡ document_text v d)
unfolding document_at start all_lines
read-found bytes d e =
    let w = value_ok (all_lines (start bytes)) d e in
    let c = chain_ok (line_after (codes "htstack ") version_at (start bytes)) body_at d w.0 w.1 in
    let v = (version_line-reads.found (start bytes) c.1 c.0 c.2).1 in
    let b = body-found c.0 c.1 w.0 d v.used c.3 in
    (c.0, b.0, v.bytes ∙ ap (λ (r : List ℕ). header c.0 ++ 10 ∷ r) b.1 ∙ joined_onto (document_lines c.0 d))

-- what is spelled so is read
pub read-again : (v : Version) (d : Document) → IsRead v d → document_at (document_text v d) ≡ Ok d
unfolding document_at start all_lines
read-again v d h =
    let b = body-again v 1 d h in
    ap document_at (sym (joined_onto (document_lines v d)))
    ∙ ap (λ o. value_of (chain o body_at)) (version_line-reads.again 0 [] (onto (body_lines v d) []) v tt)
    ∙ ap value_of b.1
