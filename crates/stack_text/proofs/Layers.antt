-- Backgrounds and cards, read and spelled.
use Rattle.std.proofs.Common.{◌≡◌, ℕ, ◌<◌, ◌≤◌, ◌^◌, Bool, true, false, true≢false, List, [], ◌∷◌, ◌++◌, length, refl}
use Rattle.std.proofs.Common.{sym, ap, ap₂, subst, ◌==◌, codes, not, IsTrue, append-nil}
use Rattle.std.specs.List.{AllByRecursion}
use Rattle.std.proofs.lemmas.Bool.{eqb-true, not-false, eq-eqb, not_from_true, or_left, or_right}
use Rattle.ht_values.specs.Text.{IsText}
use Rattle.object_table.specs.Objects.{is_background, is_card, is_background_part, is_card_part}
use Rattle.object_table.specs.declared.object.Kind.{Kind}
use Rattle.object_table.specs.declared.object.Kind.TheVariants.{Background, Card, BackgroundButton, BackgroundField}
use Rattle.stack_text.specs.declared.sheets.PartContent.{PartContent}
use Rattle.stack_text.specs.declared.sheets.PartContent.TheVariants.{Written, Lit}
use Rattle.stack_text.specs.declared.sheets.Part.{Part}
use Rattle.stack_text.specs.declared.sheets.Keeping.{Keeping}
use Rattle.ht_values.specs.Delimited.{delimited}
use Rattle.stack_text.specs.Words.{number_at, numbered, flagged, block}
use Rattle.stack_text.specs.Document.{Sheet, contains_id, sheet_ids, part_ids, ids_on, parts_of, background_or}
use Rattle.stack_text.specs.Spelling.{Version, first, second, text_or_none, lit_or_not, content_lines, keeping_lines}
use Rattle.stack_text.specs.Spelling.{cant_delete_of, layer_lines, background_lines, card_lines}
use Rattle.stack_text.specs.Reading.{bad_id_if, name_at, flag_at, flag_after, number_after, line_after, pair_at}
use Rattle.stack_text.specs.Reading.{count_at, new_id, layer_at, background_header_at, background_at}
use Rattle.stack_text.specs.Reading.{background_part_at, own_text_at, own_hilite_at, keeping_by, keeping_at}
use Rattle.stack_text.specs.Reading.{card_header_at, card_at, card_part_at, parts_at}
use Rattle.stack_text.proofs.Forms.{Reads, Each, Pairs, both, after, giving, gives, said, resaid, bad_id_if-reads}
use Rattle.stack_text.proofs.Forms.{for_each-reads}
use Rattle.stack_text.proofs.Keyed.{keyed}
use Rattle.stack_text.proofs.Flags.{number_pairs, counted_fields, lit_buttons}
use Rattle.stack_text.proofs.Blocks.{text_of_pieces-reads, few_pieces}
use Rattle.stack_text.proofs.Elements.{each_so, each_part_of}
use Rattle.stack_text.proofs.Productions.{name_at-reads, flag_after-reads, number_after-reads, IsNew, new_id-reads}
use Rattle.stack_text.proofs.Parts.{script-reads, IsSaidPart, IsNewPart, background_part-reads, card_part-reads}
use Rattle.stack_text.proofs.Parts.{parts-reads}
use Rattle.stack_text.proofs.Listable.{IsNamed, Suits, IsCardPart, Keeps, SaysContent}

layer-reads : Reads layer_at (λ used x. IsText x.0 × IsText x.2) (λ x. layer_lines x.0 x.2 x.1) (λ x. [])
unfolding layer_at
layer-reads =
    said (both name_at _ name_at-reads
    (λ name. both (flag_after (codes "cantDelete ")) _ (flag_after-reads (codes "cantDelete ") refl)
    (λ cant. giving script-reads (λ script. (name, cant, script)) (λ y. y.2) (λ script. refl))
    (λ y. y.1) (λ cant used y h. ap (λ (z : List ℕ × Bool × List ℕ). z.1) h.1))
    (λ y. y.0) (λ name used y h. ap (λ (z : List ℕ × Bool × List ℕ). z.0) h.1.1))
    (λ used y h. (h.0, h.1.1.0))
    (λ used y h. (h.0, (tt, (h.1, refl))))

background_header-reads : (next : ℕ)
    → Reads (background_header_at next) (λ used id. (id < 10 ^ 7) × IsNew next used id)
    (λ id. numbered (codes "background") id ∷ []) (λ id. id ∷ [])
unfolding background_header_at
background_header-reads next =
    said (both (number_after (codes "background ")) _ (number_after-reads (codes "background ") refl)
    (λ id. after (new_id next id true) _ (new_id-reads next id true) (gives id)) (λ id. id) (λ id used y h. h.1))
    (λ used id h. (h.0, h.1.0.0))
    (λ used id h. (h.0, ((h.1, refl), refl)))

-- a background that is read where so many ids are used
pub record IsNewBackground (v : Version) (next : ℕ) (used : List ℕ) (b : Sheet) : Type 0 where
  pub small : b.id < 10 ^ 7
  pub new : IsNew next used b.id
  pub is : IsTrue (is_background b.object.kind)
  pub named : IsNamed b.object
  pub few : length b.parts ≤ 10000
  pub parts : Each (IsNewPart (IsSaidPart v) next) (λ p. p.id ∷ []) (used ++ b.id ∷ []) b.parts
  pub none : b.keepings ≡ []

abbrev background : ℕ → List ℕ × Bool × List ℕ → List Part → Sheet
background id layer parts = record {
  id = id;
  object =
      record { name = layer.0; script = layer.2; kind = Background layer.1 };
  parts = parts;
  keepings = [];
}

abbrev layer_of : Sheet → List ℕ × Bool × List ℕ
layer_of y = (y.object.name, cant_delete_of y.object.kind, y.object.script)

background_is : (y : Sheet) → IsTrue (is_background y.object.kind) → y.keepings ≡ []
    → y ≡ background y.id (layer_of y) y.parts
background_is y is none = by y.object.kind y.keepings is none
  where
    by : (k : Kind) (ks : List Keeping) → IsTrue (is_background k) → ks ≡ []
        → ◌≡◌ {A = Sheet}
        (record {
          id = y.id;
          object = record { name = y.object.name; script = y.object.script; kind = k };
          parts =
              y.parts;
          keepings = ks;
        }) (background y.id (y.object.name, cant_delete_of k, y.object.script) y.parts)
    by (Background c) ks e h = ap (λ (z : List Keeping). let s : Sheet =
        record {
          id = y.id;
          object = record { name = y.object.name; script = y.object.script; kind = Background c };
          parts = y.parts;
          keepings = z;
        } in s) h
    by k ks e h = absurd (true≢false (sym e))

pub background-reads : (v : Version) (next : ℕ)
    → Reads (background_at v next) (IsNewBackground v next) (background_lines v) ids_on
unfolding background_at
background-reads v next =
    said (both (background_header_at next) _ (background_header-reads next)
    (λ id. both layer_at _ layer-reads
    (λ layer. giving (parts-reads v next (background_part_at v) (IsSaidPart v)
    (λ p h. or_right (is_card_part p.object.kind) (is_background_part p.object.kind) h.0.0)
    (background_part-reads v)) (background id layer) (λ y. y.parts) (λ parts. refl))
    layer_of (λ layer used y h. ap layer_of h.1))
    (λ y. y.id) (λ id used y h. ap (λ (z : Sheet). z.id) h.1.1))
    (λ used y h. record {
      small = h.0.0;
      new = h.0.1;
      is = subst (λ (z : Sheet). IsTrue (is_background z.object.kind))
          (sym h.1.1.1) refl;
      named =
          h.1.0;
      few = h.1.1.0.0;
      parts = h.1.1.0.1;
      none = ap (λ (z : Sheet). z.keepings) h.1.1.1;
    })
    (λ used y h. ((h.small, h.new), (h.named, ((h.few, h.parts), background_is y h.is h.none))))

-- ---- what a card keeps

abbrev own_text : ℕ → List ℕ → Keeping
own_text due t = record { part = due; content = Written t }

own_text-reads : (due : ℕ) → due < 10 ^ 7
    → Reads (own_text_at due) (λ used k. IsText (text_or_none k.content) × (k ≡ own_text due (text_or_none k.content)))
    (λ k. block (numbered (codes "text") due) (text_or_none k.content)) (λ k. [])
unfolding own_text_at
own_text-reads due small =
    said (both (line_after (codes "text ") (pair_at number_at count_at)) _
    (keyed (codes "text ") (pair_at number_at count_at) counted_fields refl)
    (λ head. after (bad_id_if (not (head.0 == due))) _ (bad_id_if-reads (not (head.0 == due)))
    (giving (text_of_pieces-reads head.1) (own_text due) (λ k. text_or_none k.content) (λ t. refl)))
    (λ k. (due, length (delimited 13 (text_or_none k.content))))
    (λ head used k h. ap₂ (λ (a b : ℕ). (a, b)) (sym (eqb-true _ _ (not-false _ h.0))) h.1.0.1))
    (λ used k h. (h.1.1.0.0, h.1.1.1))
    (λ used k h. (
      (small, few_pieces (text_or_none k.content) h.0),
      (not_from_true _ (eq-eqb due due refl), ((h.0, refl), h.1)),
    ))

abbrev own_hilite : ℕ → Bool → Keeping
own_hilite due b = record { part = due; content = Lit b }

own_hilite-reads : (due : ℕ) → due < 10 ^ 7
    → Reads (own_hilite_at due) (λ used k. k ≡ own_hilite due (lit_or_not k.content))
    (λ k. flagged (numbered (codes "hilite") due) (lit_or_not k.content) ∷ []) (λ k. [])
unfolding own_hilite_at
own_hilite-reads due small =
    said (both (line_after (codes "hilite ") (pair_at number_at flag_at)) _
    (keyed (codes "hilite ") (pair_at number_at flag_at) lit_buttons refl)
    (λ head. after (bad_id_if (not (head.0 == due))) _ (bad_id_if-reads (not (head.0 == due)))
    (gives (own_hilite due head.1)))
    (λ k. (due, lit_or_not k.content))
    (λ head used k h. ap₂ (λ (a : ℕ) (b : Bool). let pair : ℕ × Bool = (a, b) in pair)
    (sym (eqb-true _ _ (not-false _ h.0))) (ap (λ (z : Keeping). lit_or_not z.content) h.1)))
    (λ used k h. h.1.1)
    (λ used k h. ((small, tt), (not_from_true _ (eq-eqb due due refl), h)))

-- what a card keeps for a part of its background, and a version can say
abbrev pub SaysKeeping : Version → Part → Keeping → Type 0
SaysKeeping v p k = Keeps p k × SaysContent v k.content

says_text : (v : Version) (t : List ℕ) → SaysContent v (Written t)
says_text first t = tt
says_text second t = tt

abbrev KeepsBy : Version → ℕ → Kind → Keeping → Type 0
KeepsBy v id kind k = ((k.part ≡ id) × Suits kind k.content) × SaysContent v k.content

text_is : (a b c : Bool) (x : PartContent) → Suits (BackgroundField a b c) x
    → IsText (text_or_none x) × (x ≡ Written (text_or_none x))
text_is a b c (Written t) h = (h, refl)
text_is a b c x h = absurd h

hilite_is : (a b : Bool) (x : PartContent) → Suits (BackgroundButton a b) x → x ≡ Lit (lit_or_not x)
hilite_is a b (Lit t) h = refl
hilite_is a b x h = absurd h

unlit : (a b : Bool) (x : PartContent) → Suits (BackgroundButton a b) x → SaysContent first x → x ≡ Lit false
unlit a b (Lit t) h says = ap Lit says
unlit a b x h says = absurd h

keeping_is : (k : Keeping) (id : ℕ) (x : PartContent) → k.part ≡ id → k.content ≡ x
    → k ≡ record { part = id; content = x }
keeping_is k id x p e = ap₂ (λ (a : ℕ) (b : PartContent). let z : Keeping = record { part = a; content = b } in z) p e

content_along : (v : Version) (id : ℕ) (k : Keeping) (x : PartContent) → k ≡ record { part = id; content = x }
    → keeping_lines v k ≡ content_lines v id x
content_along v id k x e = ap (λ (z : Keeping). keeping_lines v z) e

keeping_by-reads : (v : Version) (id : ℕ) (kind : Kind) → id < 10 ^ 7 → IsTrue (is_background_part kind)
    → Reads (keeping_by v id kind) (λ used k. KeepsBy v id kind k) (keeping_lines v) (λ k. [])
keeping_by-reads v id (BackgroundField a b c) small is =
    resaid (own_text-reads id small)
    (λ used k h. (
      subst (λ (z : Keeping). KeepsBy v id (BackgroundField a b c) z) (sym h.1)
          ((refl, h.0), says_text v (text_or_none k.content)),
      sym
          (content_along v id k (Written (text_or_none k.content)) h.1),
      refl,
    ))
    (λ used k h. let t = text_is a b c k.content h.0.1 in
    (t.0, keeping_is k id (Written (text_or_none k.content)) h.0.0 t.1))
keeping_by-reads second id (BackgroundButton a b) small is =
    resaid (own_hilite-reads id small)
    (λ used k h. (
      subst (λ (z : Keeping). KeepsBy second id (BackgroundButton a b) z) (sym h) ((refl, tt), tt),
      sym
          (content_along second id k (Lit (lit_or_not k.content)) h),
      refl,
    ))
    (λ used k h. keeping_is k id (Lit (lit_or_not k.content)) h.0.0 (hilite_is a b k.content h.0.1))
keeping_by-reads first id (BackgroundButton a b) small is =
    resaid (gives (own_hilite id false))
    (λ used k h. (
      subst (λ (z : Keeping). KeepsBy first id (BackgroundButton a b) z) (sym h) ((refl, tt), refl),
      sym
          (content_along first id k (Lit false) h),
      refl,
    ))
    (λ used k h. keeping_is k id (Lit false) h.0.0 (unlit a b k.content h.0.1 h.1))
keeping_by-reads v id k small is = absurd (true≢false (sym is))

-- ---- cards

card_header-reads : (next : ℕ) (backgrounds : List Sheet)
    → Reads (card_header_at next backgrounds)
    (λ used x. ((x.0 < 10 ^ 7) × (x.1 < 10 ^ 7))
    × (IsNew next used x.0 × (contains_id x.1 (sheet_ids backgrounds) ≡ true)))
    (λ x. numbered (numbered (codes "card") x.0) x.1 ∷ []) (λ x. x.0 ∷ [])
unfolding card_header_at
card_header-reads next backgrounds =
    said (both (line_after (codes "card ") (pair_at number_at number_at)) _
    (keyed (codes "card ") (pair_at number_at number_at) number_pairs refl)
    (λ head. after (new_id next head.0 (contains_id head.1 (sheet_ids backgrounds))) _
    (new_id-reads next head.0 (contains_id head.1 (sheet_ids backgrounds))) (gives head))
    (λ y. y) (λ head used y h. h.1))
    (λ used y h. (h.0, h.1.0))
    (λ used y h. (h.0, (h.1, refl)))

-- a part for which a card keeps something
abbrev pub IsKeptFor : Part → Type 0
IsKeptFor p = (p.id < 10 ^ 7) × IsTrue (is_background_part p.object.kind)

abbrev pub AreKeptFor : List Sheet → Type 0
AreKeptFor backgrounds = AllByRecursion (λ (b : Sheet). AllByRecursion IsKeptFor b.parts) backgrounds

-- a card that is read where so many ids are used
pub record IsNewCard (v : Version) (next : ℕ) (backgrounds : List Sheet) (used : List ℕ) (c : Sheet) : Type 0 where
  pub small : c.id < 10 ^ 7
  pub small_background : background_or c.object.kind < 10 ^ 7
  pub new : IsNew next used c.id
  pub is : IsTrue (is_card c.object.kind)
  pub on : contains_id (background_or c.object.kind) (sheet_ids backgrounds) ≡ true
  pub named : IsNamed c.object
  pub few : length c.parts ≤ 10000
  pub parts : Each (IsNewPart IsCardPart next) (λ p. p.id ∷ []) (used ++ c.id ∷ []) c.parts
  pub keepings : Pairs (SaysKeeping v) (parts_of backgrounds (background_or c.object.kind)) c.keepings

abbrev card : ℕ × ℕ → List ℕ × Bool × List ℕ → List Part → List Keeping → Sheet
card head layer parts keepings = record {
  id = head.0;
  object =
      record { name = layer.0; script = layer.2; kind = Card head.1 layer.1 };
  parts = parts;
  keepings = keepings;
}

card_is : (y : Sheet) → IsTrue (is_card y.object.kind)
    → y ≡ card (y.id, background_or y.object.kind) (layer_of y) y.parts y.keepings
card_is y is = by y.object.kind is
  where
    by : (k : Kind) → IsTrue (is_card k)
        → ◌≡◌ {A = Sheet}
        (record {
          id = y.id;
          object = record { name = y.object.name; script = y.object.script; kind = k };
          parts =
              y.parts;
          keepings = y.keepings;
        })
        (card (y.id, background_or k) (y.object.name, cant_delete_of k, y.object.script) y.parts y.keepings)
    by (Card b c) e = refl
    by k e = absurd (true≢false (sym e))

pub card-reads : (v : Version) (next : ℕ) (backgrounds : List Sheet) → AreKeptFor backgrounds
    → Reads (card_at v next backgrounds) (IsNewCard v next backgrounds) (card_lines v) ids_on
unfolding card_at
card-reads v next backgrounds kept =
    resaid (both (card_header_at next backgrounds) _ (card_header-reads next backgrounds)
    (λ head. both layer_at _ layer-reads
    (λ layer. both (parts_at next card_part_at) _
    (parts-reads v next card_part_at IsCardPart
    (λ p h. or_left (is_card_part p.object.kind) (is_background_part p.object.kind) h.0) (card_part-reads v))
    (λ parts. giving (for_each-reads (keeping_at v) (SaysKeeping v) (keeping_lines v) (parts_of backgrounds head.1)
    (each_so (λ p k. keeping_by-reads v p.id p.object.kind k.0 k.1) (parts_of backgrounds head.1)
    (each_part_of IsKeptFor backgrounds head.1 kept))) (card head layer parts) (λ y. y.keepings) (λ keepings. refl))
    (λ y. y.parts) (λ parts used y h. ap (λ (z : Sheet). z.parts) h.1))
    layer_of (λ layer used y h. ap layer_of h.1.1))
    (λ y. (y.id, background_or y.object.kind))
    (λ head used y h. ap (λ (z : Sheet). let pair : ℕ × ℕ = (z.id, background_or z.object.kind) in pair) h.1.1.1))
    (λ used y h. (
      record {
        small = h.0.0.0;
        small_background = h.0.0.1;
        new = h.0.1.0;
        is = subst
            (λ (z : Sheet). IsTrue (is_card z.object.kind)) (sym h.1.1.1.1) refl;
        on =
            h.0.1.1;
        named = h.1.0;
        few = h.1.1.0.0;
        parts = h.1.1.0.1;
        keepings = h.1.1.1.0;
      },
      refl,
      ap (λ (ids : List ℕ). y.id ∷ ids) (append-nil (part_ids y.parts)),
    ))
    (λ used y h. (
      ((h.small, h.small_background), (h.new, h.on)),
      (h.named, ((h.few, h.parts), (h.keepings, card_is y h.is))),
    ))
