-- Parts and what cards keep for them, read and spelled.
use Rattle.std.proofs.Common.{◌≡◌, ℕ, ◌<◌, ◌^◌, Bool, true, false, List, [], ◌∷◌, length, refl, sym, ap, subst, ◌∙◌}
use Rattle.std.proofs.Common.{arith, ap₂, true≢false, lit<, ◌≤◌, codes, IsTrue}
use Rattle.std.proofs.lemmas.List.Concat.{flat_map_single}
use Rattle.ht_values.specs.Text.{IsText}
use Rattle.object_table.specs.Objects.{is_background_part, is_card_part, is_part}
use Rattle.object_table.specs.declared.object.Kind.{Kind}
use Rattle.object_table.specs.declared.object.Kind.TheVariants.{Stack, Background, Card, CardButton, BackgroundButton}
use Rattle.object_table.specs.declared.object.Kind.TheVariants.{CardField, BackgroundField}
use Rattle.stack_text.specs.declared.sheets.PartContent.{PartContent}
use Rattle.stack_text.specs.declared.sheets.PartContent.TheVariants.{Nothing, Written, Lit}
use Rattle.stack_text.specs.declared.sheets.Part.{Part}
use Rattle.stack_text.specs.Words.{flagged}
use Rattle.stack_text.specs.Spelling.{Version, first, second, in_second, script_lines, lit_or_not, text_or_none}
use Rattle.stack_text.specs.Spelling.{part_lines, parts_lines}
use Rattle.stack_text.specs.Document.{part_ids}
use Rattle.stack_text.specs.Reading.{Reader, times, name_at, flag_after, count_after, line_after, new_id, in_second_or}
use Rattle.stack_text.specs.Reading.{script_at, background_button_at, background_field_at, background_part_at}
use Rattle.stack_text.specs.Reading.{card_button_at, card_field_at, card_part_at, part_header, part_at, parts_at}
use Rattle.ht_values.specs.declared.word.PartKind.{PartKind}
use Rattle.ht_values.specs.declared.word.PartKind.TheVariants.{Button, Field}
use Rattle.stack_text.proofs.Keyed.{keyed}
use Rattle.stack_text.proofs.Flags.{part_word, part_headers}
use Rattle.stack_text.proofs.Forms.{Reads, Each, both, after, giving, gives, said, resaid, times-reads}
use Rattle.stack_text.proofs.Blocks.{block-reads}
use Rattle.stack_text.proofs.Productions.{name_at-reads, flag_after-reads, count_after-reads, IsNew, new_id-reads}
use Rattle.stack_text.proofs.Listable.{IsNamed, Suits, IsBackgroundPart, IsCardPart, SaysKind}

pub script-reads : Reads script_at (λ used t. IsText t) script_lines (λ t. [])
unfolding script_at
script-reads = block-reads (codes "script ") refl

-- what version 1 says of a flag that it has not
abbrev pub SaysFlag : Version → Bool → Type 0
SaysFlag first b = b ≡ true
SaysFlag second b = Unit {0}

in_second-reads : (v : Version) (key line : List ℕ)
    → Reads (flag_after key) (λ used b. Unit {0}) (λ b. flagged line b ∷ []) (λ b. [])
    → Reads (in_second_or v true (flag_after key)) (λ used b. SaysFlag v b) (λ b. in_second v (flagged line b ∷ []))
    (λ b. [])
in_second-reads first key line form = gives true
in_second-reads second key line form = form

-- the lines behind a header
abbrev pub behind : List (List ℕ) → List (List ℕ)
behind [] = []
behind (l ∷ ls) = ls

abbrev visible_in : Kind → Bool
visible_in (CardButton v h) = v
visible_in (BackgroundButton v s) = v
visible_in (CardField v l) = v
visible_in (BackgroundField v l s) = v
visible_in other = false

abbrev second_flag : Kind → Bool
second_flag (CardButton v h) = h
second_flag (BackgroundButton v s) = s
second_flag (CardField v l) = l
second_flag (BackgroundField v l s) = l
second_flag other = false

abbrev third_flag : Kind → Bool
third_flag (BackgroundField v l s) = s
third_flag other = false

abbrev background_button : ℕ → List ℕ → Bool → Bool → Bool → List ℕ → Part
background_button id name visible shared lit
    script = record {
      id = id;
      object = record { name = name; script = script; kind = BackgroundButton visible shared };
      content = Lit lit;
    }

-- a part is of this form
abbrev IsBackgroundButton : Version → ℕ → Part → Type 0
IsBackgroundButton v id p = IsNamed p.object
    × (SaysFlag v (second_flag p.object.kind)
    × (p ≡ background_button id p.object.name (visible_in p.object.kind) (second_flag p.object.kind)
    (lit_or_not p.content) p.object.script))

background_button-reads : (v : Version) (id : ℕ)
    → Reads (background_button_at v id) (λ used p. IsBackgroundButton v id p) (λ p. behind (part_lines v p)) (λ p. [])
unfolding background_button_at
background_button-reads v id =
    resaid (both name_at _ name_at-reads
    (λ name. both (flag_after (codes "visible ")) _ (flag_after-reads (codes "visible ") refl)
    (λ visible. both (in_second_or v true (flag_after (codes "sharedHilite "))) _
    (in_second-reads v (codes "sharedHilite ") (codes "sharedHilite")
    (flag_after-reads (codes "sharedHilite ") refl))
    (λ shared. both (flag_after (codes "hilite ")) _ (flag_after-reads (codes "hilite ") refl)
    (λ lit. giving script-reads (λ script. background_button id name visible shared lit script) (λ p. p.object.script)
    (λ script. refl))
    (λ p. lit_or_not p.content) (λ lit used p h. ap (λ (z : Part). lit_or_not z.content) h.1))
    (λ p. second_flag p.object.kind) (λ shared used p h. ap (λ (z : Part). second_flag z.object.kind) h.1.1))
    (λ p. visible_in p.object.kind) (λ visible used p h. ap (λ (z : Part). visible_in z.object.kind) h.1.1.1))
    (λ p. p.object.name) (λ name used p h. ap (λ (z : Part). z.object.name) h.1.1.1.1))
    (λ used p h. (
      ((h.0, h.1.1.1.1.0), (h.1.1.0, h.1.1.1.1.1)),
      sym (ap (λ (z : Part). behind (part_lines v z)) h.1.1.1.1.1),
      refl,
    ))
    (λ used p h. (h.0.0, (tt, (h.1.0, (tt, (h.0.1, h.1.1))))))

abbrev background_field : ℕ → List ℕ → Bool → Bool → Bool → List ℕ → List ℕ → Part
background_field id name visible locked shared script
    text = record {
      id = id;
      object =
          record { name = name; script = script; kind = BackgroundField visible locked shared };
      content = Written text;
    }

abbrev IsBackgroundField : ℕ → Part → Type 0
IsBackgroundField id p = IsNamed p.object
    × (IsText (text_or_none p.content)
    × (p ≡ background_field id p.object.name (visible_in p.object.kind) (second_flag p.object.kind)
    (third_flag p.object.kind) p.object.script (text_or_none p.content)))

background_field-reads : (v : Version) (id : ℕ)
    → Reads (background_field_at id) (λ used p. IsBackgroundField id p) (λ p. behind (part_lines v p)) (λ p. [])
unfolding background_field_at
background_field-reads v id =
    resaid (both name_at _ name_at-reads
    (λ name. both (flag_after (codes "visible ")) _ (flag_after-reads (codes "visible ") refl)
    (λ visible. both (flag_after (codes "lockText ")) _ (flag_after-reads (codes "lockText ") refl)
    (λ locked. both (flag_after (codes "sharedText ")) _ (flag_after-reads (codes "sharedText ") refl)
    (λ shared. both script_at _ script-reads
    (λ script. giving (block-reads (codes "shared ") refl)
    (λ text. background_field id name visible locked shared script text) (λ p. text_or_none p.content)
    (λ text. refl))
    (λ p. p.object.script) (λ script used p h. ap (λ (z : Part). z.object.script) h.1))
    (λ p. third_flag p.object.kind) (λ shared used p h. ap (λ (z : Part). third_flag z.object.kind) h.1.1))
    (λ p. second_flag p.object.kind) (λ locked used p h. ap (λ (z : Part). second_flag z.object.kind) h.1.1.1))
    (λ p. visible_in p.object.kind) (λ visible used p h. ap (λ (z : Part). visible_in z.object.kind) h.1.1.1.1))
    (λ p. p.object.name) (λ name used p h. ap (λ (z : Part). z.object.name) h.1.1.1.1.1))
    (λ used p h. (
      ((h.0, h.1.1.1.1.0), (h.1.1.1.1.1.0, h.1.1.1.1.1.1)),
      sym (ap (λ (z : Part). behind (part_lines v z)) h.1.1.1.1.1.1),
      refl,
    ))
    (λ used p h. (h.0.0, (tt, (tt, (tt, (h.0.1, (h.1.0, h.1.1)))))))

abbrev card_button : ℕ → List ℕ → Bool → Bool → List ℕ → Part
card_button id name visible lit
    script = record {
      id = id;
      object = record { name = name; script = script; kind = CardButton visible lit };
      content = Nothing;
    }

abbrev IsCardButton : ℕ → Part → Type 0
IsCardButton id p = IsNamed p.object
    × (p ≡ card_button id p.object.name (visible_in p.object.kind) (second_flag p.object.kind) p.object.script)

card_button-reads : (v : Version) (id : ℕ)
    → Reads (card_button_at id) (λ used p. IsCardButton id p) (λ p. behind (part_lines v p)) (λ p. [])
unfolding card_button_at
card_button-reads v id =
    resaid (both name_at _ name_at-reads
    (λ name. both (flag_after (codes "visible ")) _ (flag_after-reads (codes "visible ") refl)
    (λ visible. both (flag_after (codes "hilite ")) _ (flag_after-reads (codes "hilite ") refl)
    (λ lit. giving script-reads (λ script. card_button id name visible lit script) (λ p. p.object.script)
    (λ script. refl))
    (λ p. second_flag p.object.kind) (λ lit used p h. ap (λ (z : Part). second_flag z.object.kind) h.1))
    (λ p. visible_in p.object.kind) (λ visible used p h. ap (λ (z : Part). visible_in z.object.kind) h.1.1))
    (λ p. p.object.name) (λ name used p h. ap (λ (z : Part). z.object.name) h.1.1.1))
    (λ used p h. (
      ((h.0, h.1.1.1.0), h.1.1.1.1),
      sym (ap (λ (z : Part). behind (part_lines v z)) h.1.1.1.1),
      refl,
    ))
    (λ used p h. (h.0.0, (tt, (tt, (h.0.1, h.1)))))

abbrev card_field : ℕ → List ℕ → Bool → Bool → List ℕ → List ℕ → Part
card_field id name visible locked script
    text = record {
      id = id;
      object = record { name = name; script = script; kind = CardField visible locked };
      content = Written text;
    }

abbrev IsCardField : ℕ → Part → Type 0
IsCardField id p = IsNamed p.object
    × (IsText (text_or_none p.content)
    × (p ≡ card_field id p.object.name (visible_in p.object.kind) (second_flag p.object.kind) p.object.script
    (text_or_none p.content)))

card_field-reads : (v : Version) (id : ℕ)
    → Reads (card_field_at id) (λ used p. IsCardField id p) (λ p. behind (part_lines v p)) (λ p. [])
unfolding card_field_at
card_field-reads v id =
    resaid (both name_at _ name_at-reads
    (λ name. both (flag_after (codes "visible ")) _ (flag_after-reads (codes "visible ") refl)
    (λ visible. both (flag_after (codes "lockText ")) _ (flag_after-reads (codes "lockText ") refl)
    (λ locked. both script_at _ script-reads
    (λ script. giving (block-reads (codes "text ") refl) (λ text. card_field id name visible locked script text)
    (λ p. text_or_none p.content) (λ text. refl))
    (λ p. p.object.script) (λ script used p h. ap (λ (z : Part). z.object.script) h.1))
    (λ p. second_flag p.object.kind) (λ locked used p h. ap (λ (z : Part). second_flag z.object.kind) h.1.1))
    (λ p. visible_in p.object.kind) (λ visible used p h. ap (λ (z : Part). visible_in z.object.kind) h.1.1.1))
    (λ p. p.object.name) (λ name used p h. ap (λ (z : Part). z.object.name) h.1.1.1.1))
    (λ used p h. (
      ((h.0, h.1.1.1.0), (h.1.1.1.1.0, h.1.1.1.1.1)),
      sym (ap (λ (z : Part). behind (part_lines v z)) h.1.1.1.1.1),
      refl,
    ))
    (λ used p h. (h.0.0, (tt, (tt, (h.0.1, (h.1.0, h.1.1))))))

-- ---- by their kinds

abbrev pub part_kind : Kind → PartKind
part_kind (CardButton v h) = Button
part_kind (BackgroundButton v s) = Button
part_kind other = Field

abbrev whole : ℕ → List ℕ → List ℕ → PartContent → Kind → Part
whole id name script content kind =
    record { id = id; object = record { name = name; script = script; kind = kind }; content = content }

says_flag : (v : Version) (a b : Bool) → SaysFlag v b → SaysKind v (BackgroundButton a b)
says_flag first a b h = h
says_flag second a b h = h

says_kind : (v : Version) (a b : Bool) → SaysKind v (BackgroundButton a b) → SaysFlag v b
says_kind first a b h = h
says_kind second a b h = h

says_field : (v : Version) (a b c : Bool) → SaysKind v (BackgroundField a b c)
says_field first a b c = tt
says_field second a b c = tt

-- a part of a background that a version can say
abbrev pub IsSaidPart : Version → Part → Type 0
IsSaidPart v p = IsBackgroundPart p × SaysKind v p.object.kind

background_button_is : (v : Version) (id : ℕ) (n s : List ℕ) (x : PartContent) (k : Kind)
    → IsTrue (is_background_part k) → part_kind k ≡ Button → Suits k x → SaysKind v k
    → SaysFlag v (second_flag k) × (whole id n s x k
    ≡ background_button id n (visible_in k) (second_flag k) (lit_or_not x) s)
background_button_is v id n s (Lit b) (BackgroundButton a c) is kind suits says = (says_kind v a c says, refl)
background_button_is v id n s x (BackgroundButton a c) is kind suits says = absurd suits
background_button_is v id n s x (BackgroundField a b c) is kind suits says = absurd cc
background_button_is v id n s x k is kind suits says = absurd (true≢false (sym is))

background_field_is : (id : ℕ) (n s : List ℕ) (x : PartContent) (k : Kind) → IsTrue (is_background_part k)
    → part_kind k ≡ Field → Suits k x
    → IsText (text_or_none x) × (whole id n s x k
    ≡ background_field id n (visible_in k) (second_flag k) (third_flag k) s (text_or_none x))
background_field_is id n s (Written t) (BackgroundField a b c) is kind suits = (suits, refl)
background_field_is id n s x (BackgroundField a b c) is kind suits = absurd suits
background_field_is id n s x (BackgroundButton a c) is kind suits = absurd cc
background_field_is id n s x k is kind suits = absurd (true≢false (sym is))

card_button_is : (id : ℕ) (n s : List ℕ) (x : PartContent) (k : Kind) → IsTrue (is_card_part k) → part_kind k ≡ Button
    → Suits k x → whole id n s x k ≡ card_button id n (visible_in k) (second_flag k) s
card_button_is id n s Nothing (CardButton a b) is kind suits = refl
card_button_is id n s x (CardButton a b) is kind suits = absurd suits
card_button_is id n s x (CardField a b) is kind suits = absurd cc
card_button_is id n s x k is kind suits = absurd (true≢false (sym is))

card_field_is : (id : ℕ) (n s : List ℕ) (x : PartContent) (k : Kind) → IsTrue (is_card_part k) → part_kind k ≡ Field
    → Suits k x → IsText (text_or_none x)
    × (whole id n s x k ≡ card_field id n (visible_in k) (second_flag k) s (text_or_none x))
card_field_is id n s (Written t) (CardField a b) is kind suits = (suits, refl)
card_field_is id n s x (CardField a b) is kind suits = absurd suits
card_field_is id n s x (CardButton a b) is kind suits = absurd cc
card_field_is id n s x k is kind suits = absurd (true≢false (sym is))

-- a part of which this holds, of the kind and the id of its header
abbrev pub Of : (Part → Type 0) → PartKind × ℕ → Part → Type 0
Of Q head p = Q p × ((p.id ≡ head.1) × (part_kind p.object.kind ≡ head.0))

pub background_part-reads : (v : Version) (head : PartKind × ℕ)
    → Reads (background_part_at v head) (λ used p. Of (IsSaidPart v) head p) (λ p. behind (part_lines v p)) (λ p. [])
unfolding background_part_at
background_part-reads v (Button, id) =
    said (background_button-reads v id)
    (λ used p h. subst (λ (z : Part). Of (IsSaidPart v) (Button, id) z) (sym h.1.1)
    (((refl, (h.0, tt)), says_flag v (visible_in p.object.kind) (second_flag p.object.kind) h.1.0), (refl, refl)))
    (λ used p h. let is = background_button_is v p.id p.object.name p.object.script p.content p.object.kind h.0.0.0
    h.1.1 h.0.0.1.1 h.0.1 in (
      h.0.0.1.0,
      (
        is.0,
        is.1 ∙ ap (λ n. background_button n p.object.name (visible_in p.object.kind) (second_flag p.object.kind)
            (lit_or_not p.content) p.object.script) h.1.0,
      ),
    ))
background_part-reads v (Field, id) =
    said (background_field-reads v id)
    (λ used p h. subst (λ (z : Part). Of (IsSaidPart v) (Field, id) z) (sym h.1.1) (
      (
        (refl, (h.0, h.1.0)),
        says_field v (visible_in p.object.kind) (second_flag p.object.kind)
            (third_flag p.object.kind),
      ),
      (refl, refl),
    ))
    (λ used p h. let is = background_field_is p.id p.object.name p.object.script p.content p.object.kind h.0.0.0 h.1.1
    h.0.0.1.1 in (
      h.0.0.1.0,
      (
        is.0,
        is.1 ∙ ap (λ n. background_field n p.object.name (visible_in p.object.kind) (second_flag p.object.kind)
            (third_flag p.object.kind) p.object.script (text_or_none p.content)) h.1.0,
      ),
    ))

pub card_part-reads : (v : Version) (head : PartKind × ℕ)
    → Reads (card_part_at head) (λ used p. Of IsCardPart head p) (λ p. behind (part_lines v p)) (λ p. [])
unfolding card_part_at
card_part-reads v (Button, id) =
    said (card_button-reads v id)
    (λ used p h. subst (λ (z : Part). Of IsCardPart (Button, id) z) (sym h.1) ((refl, (h.0, tt)), (refl, refl)))
    (λ used p h. (
      h.0.1.0,
      card_button_is p.id p.object.name p.object.script p.content p.object.kind h.0.0 h.1.1 h.0.1.1
          ∙ ap (λ n. card_button n p.object.name (visible_in p.object.kind) (second_flag p.object.kind) p.object.script)
          h.1.0,
    ))
card_part-reads v (Field, id) =
    said (card_field-reads v id)
    (λ used p h. subst (λ (z : Part). Of IsCardPart (Field, id) z) (sym h.1.1) ((refl, (h.0, h.1.0)), (refl, refl)))
    (λ used p h. let is = card_field_is p.id p.object.name p.object.script p.content p.object.kind h.0.0 h.1.1
    h.0.1.1 in (
      h.0.1.0,
      (
        is.0,
        is.1 ∙ ap (λ n. card_field n p.object.name (visible_in p.object.kind)
            (second_flag p.object.kind) p.object.script (text_or_none p.content)) h.1.0,
      ),
    ))

-- ---- a part with its header

with_header : (v : Version) (id : ℕ) (n s : List ℕ) (x : PartContent) (k : Kind) → IsTrue (is_part k)
    → part_word (part_kind k, id) ∷ behind (part_lines v (whole id n s x k)) ≡ part_lines v (whole id n s x k)
with_header v id n s x Stack is = absurd (true≢false (sym is))
with_header v id n s x (Background a) is = absurd (true≢false (sym is))
with_header v id n s x (Card a b) is = absurd (true≢false (sym is))
with_header v id n s x k is = refl

-- a part that is read where so many ids are used
pub record IsNewPart (Q : Part → Type 0) (next : ℕ) (used : List ℕ) (p : Part) : Type 0 where
  pub small : p.id < 10 ^ 7
  pub new : IsNew next used p.id
  pub is : Q p

module _ (v : Version) (next : ℕ) (rest : PartKind × ℕ → Reader Part) (Q : Part → Type 0)
    (parts : (p : Part) → Q p → IsTrue (is_part p.object.kind))
    (reads : (head : PartKind × ℕ) → Reads (rest head) (λ used p. Of Q head p) (λ p. behind (part_lines v p)) (λ p. []))
  where
    part-reads : Reads (part_at next rest) (IsNewPart Q next) (part_lines v) (λ p. p.id ∷ [])
    unfolding part_at
    part-reads =
        resaid (both (line_after [] part_header) _ (keyed [] part_header part_headers refl)
        (λ head. after (new_id next head.1 true) _ (new_id-reads next head.1 true) (reads head))
        (λ p. (part_kind p.object.kind, p.id))
        (λ head used p h. ap₂ (λ (k : PartKind) (n : ℕ). let pair : PartKind × ℕ = (k, n) in pair) h.1.1.1 h.1.1.0))
        (λ used p h. (
          record { small = h.0; new = h.1.0.0; is = h.1.1.0 },
          with_header v p.id p.object.name
              p.object.script p.content p.object.kind (parts p h.1.1.0),
          refl,
        ))
        (λ used p h. (h.small, ((h.new, refl), (h.is, (refl, refl)))))

    pub parts-reads : Reads (parts_at next rest)
        (λ used ps. (length ps ≤ 10000) × Each (IsNewPart Q next) (λ p. p.id ∷ []) used ps) (parts_lines v) part_ids
    unfolding parts_at
    parts-reads =
        resaid (both (count_after (codes "parts ") 0 10000) (λ n. times n (part_at next rest))
        (count_after-reads (codes "parts ") 0 10000 refl (lit< tt)) (times-reads (part_at next rest) part-reads)
        length (λ n used y h. h.0))
        (λ used y h. ((h.0.1, h.1.1), refl, flat_map_single (λ (p : Part). p.id) y))
        (λ used y h. ((omega arith, h.0), (refl, h.1)))
