-- What is read is of the grammar.
use Rattle.std.proofs.Common.{◌≡◌, ℕ, zero, suc, List, ◌∷◌, length, Bool, true, false, Option, Some, None, refl, sym}
use Rattle.std.proofs.Common.{subst, ap, ◌∙◌, eqb-true, nat_le, nat_eq, cond, codes}
use Rattle.std.proofs.lemmas.Option.{none-some}
use Rattle.ht_lex.specs.declared.key.Key.TheVariants as k
use Rattle.ht_values.specs.declared.word.ChunkKind.{ChunkKind}
use Rattle.ht_values.specs.declared.word.PartKind.{PartKind}
use Rattle.ht_values.specs.declared.word.PartKind.TheVariants as part_kind
use Rattle.ht_lex.specs.Token.{Token, key, first_kind, later}
use Rattle.ht_lex.specs.Token as token
use Rattle.ht_values.specs.declared.word.Prop.{Prop}
use Rattle.ht_grammar.specs.declared.vocabulary.RunProp.{RunProp}
use Rattle.ht_grammar.specs.declared.vocabulary.FunctionWord.{FunctionWord}
use Rattle.ht_grammar.specs.declared.vocabulary.Layer.{Layer}
use Rattle.ht_grammar.specs.declared.vocabulary.Layer.TheVariants as layer
use Rattle.ht_grammar.specs.Trees.{Expr, Exprs, Chunk, Part, Ref, Count, none, more, kind_of_part}
use Rattle.ht_grammar.specs.Trees as t
use Rattle.ht_grammar.specs.Depth.{depth, ref_depth}
use Rattle.ht_values.specs.declared.operator.Op.{Op}
use Rattle.ht_values.specs.declared.operator.Op.TheVariants as o
use Rattle.ht_values.specs.declared.operator.UnOp.TheVariants as un
use Rattle.ht_values.specs.declared.operator.UnOp.{UnOp}
use Rattle.ht_grammar.specs.Fronts.{LeadingOperator, infix_at, test_at, neither, leading_operator, equality, is_article}
use Rattle.ht_grammar.specs.Fronts.{past_the, after_of, same_name, prop_front, short_of, run_prop, function_of}
use Rattle.ht_grammar.specs.Expressions.{Derives, DerivesList, DerivesArticle, DerivesLayer}
use Rattle.ht_grammar.specs.Expressions.{DerivesPart, DerivesRef, DerivesCount}
use Rattle.ht_grammar.specs.Expressions.{DerivesChunk, Level, primary, factor, prefixed, power, rank, whole}
use Rattle.ht_grammar.specs.Expressions as e
use Rattle.ht_grammar.specs.Reading.{Parser, and_then, made, referenced_layer, part_front, if_field, which_at}
use Rattle.ht_grammar.specs.Reading.{selector_at, owner_at, part_end, nth_end, part_at, field_at, ref_of_layer, ref_at}
use Rattle.ht_grammar.specs.Reading.{inner_ref, of_part, count_at, piece_by, chunk_at, chunk_form, number_form}
use Rattle.ht_grammar.specs.Reading.{property_by, short_by, function_by, run_by, prop_or, the_name, closed, article}
use Rattle.ht_grammar.specs.Reading.{snoc, list_more, list_at, primary_at, factor_at, prefixed_at, power_end, power_at}
use Rattle.ht_grammar.specs.Reading.{join_at, asked_at, turn, chain_at, rank_at, level_at, read}
use Rattle.ht_grammar.proofs.Steps.{became, taken, making, tested}
use Rattle.ht_grammar.proofs.Owner.{which_sound, card_sound, background_sound, owner_sound, fitted}

part_front_sound : (ts : List Token) (q : (Option Layer × PartKind) × List Token) → part_front ts ≡ Some q
    → DerivesLayer ts q.0.0 (key (k.Part q.0.1) ∷ q.1)
unfolding part_front
part_front_sound (key k.Card ∷ key (k.Part p) ∷ ts) q same =
    became (λ q. DerivesLayer (key k.Card ∷ key (k.Part p) ∷ ts) q.0.0 (key (k.Part q.0.1) ∷ q.1)) same e.on_card
part_front_sound (key k.Background ∷ key (k.Part p) ∷ ts) q same = became
    (λ q. DerivesLayer (key k.Background ∷ key (k.Part p) ∷ ts) q.0.0 (key (k.Part q.0.1) ∷ q.1)) same e.on_background
part_front_sound (key (k.Part p) ∷ ts) q same =
    became (λ q. DerivesLayer (key (k.Part p) ∷ ts) q.0.0 (key (k.Part q.0.1) ∷ q.1)) same e.no_layer
part_front_sound ts q same = absurd (none-some _ same)

pub if_fielded : (f : PartKind) (p : Part) (ts : List Token) (q : Part × List Token) (P : Part × List Token → Type 0)
    → if_field f p ts ≡ Some q → (f ≡ part_kind.Field → P (p, ts)) → P q
if_fielded part_kind.Field p ts q P same h = became P same (h refl)
if_fielded part_kind.Button p ts q P same h = absurd (none-some _ same)

closing : {A : Type 0} (x : A) (ts : List Token) {q : A × List Token} (P : A × List Token → Type 0)
    → closed x ts ≡ Some q → ((c : List Token) → ts ≡ key k.RightParen ∷ c → P (x, c)) → P q
unfolding closed
closing x (key k.RightParen ∷ ts) P e h = became P e (h ts refl)
closing x _ P e h = absurd (none-some _ e)

pub chosen : {A : Type 0} (b : Bool) {x y z : Option A} (P : Type 0) → cond b x y ≡ z → (b ≡ true → x ≡ z → P)
    → (b ≡ false → y ≡ z → P) → P
chosen true P same f g = f refl same
chosen false P same f g = g refl same

unfoldable pub joined : Exprs → Exprs → Exprs
joined none ys = ys
joined (more x xs) ys = more x (joined xs ys)

pub joined_snoc : (found : Exprs) (x : Expr) (xs : Exprs) → joined (snoc found x) xs ≡ joined found (more x xs)
unfolding joined
joined_snoc none x xs = refl
joined_snoc (more y found) x xs = ap (more y) (joined_snoc found x xs)

-- The list that was found has grown by one that the tokens are.
pub record GoodList (found : Exprs) (ts : List Token) (q : Exprs × List Token) : Type 0 where
  pub xs : Exprs
  pub grown : q.0 ≡ joined found xs
  pub derives : DerivesList ts xs q.1

pub snoc_joined : (found : Exprs) (x : Expr) → snoc found x ≡ joined found (more x none)
unfolding joined
snoc_joined none x = refl
snoc_joined (more y found) x = ap (more y) (snoc_joined found x)

snoc_good : (found : Exprs) (x : Expr) (ts m : List Token) → Derives whole ts x m → GoodList found ts (snoc found x, m)
snoc_good found x ts m h = record { xs = more x none; grown = snoc_joined found x; derives = e.alone h }

article_sound : (ts : List Token) (q : Bool × List Token) → article ts ≡ Some q → DerivesArticle ts q.0 q.1
unfolding article
article_sound (token.name w ∷ ts) q same = chosen (is_article w) _ same (λ b same.
    became (λ q. DerivesArticle (token.name w ∷ ts) q.0 q.1) same (e.an b)) (λ b same.
    tested (same_name w (codes "no")) _ same (λ c same. became (λ q.
    DerivesArticle (token.name w ∷ ts) q.0 q.1) same (e.no_ c)))
article_sound (key k.Not ∷ token.name w ∷ ts) q same = tested (is_article w) _ same (λ b same.
    became (λ q. DerivesArticle (key k.Not ∷ token.name w ∷ ts) q.0 q.1) same (e.not_an b))
article_sound ts q same = absurd (none-some _ same)

module _ (deeper : Level → Parser Expr) (d : ℕ)
    (good : (p : Level) (ts : List Token) (q : Expr × List Token) → deeper p ts ≡ Some q → Derives p ts q.0 q.1) where
  pub after : {A : Type 0} (read : Parser A) (m : List Token) (q : A × List Token) (P : Type 0)
      → of_part deeper d read (after_of m) ≡ Some q → ((b : List Token) → after_of m ≡ Some b → read b ≡ Some q → P) → P
  after {A} read m q P same h = go (after_of m) refl same
    where
      go : (o : Option (List Token)) → after_of m ≡ o → of_part deeper d read o ≡ Some q → P
      go None f same = absurd (none-some _ same)
      go (Some b) f same = h b f same

  plain_part : (ts : List Token) (q : Part × List Token) → and_then (part_front ts) (part_end deeper d) ≡ Some q
      → DerivesPart ts q.0 q.1
  unfolding part_end
  plain_part ts q same = taken (part_front ts) (part_end deeper d) _ same (λ f h same.
      taken (which_at deeper d f.1) (λ w r. made (t.part f.0.0 f.0.1 w) (owner_at deeper d r)) _ same (λ w i same.
      making (t.part f.0.0 f.0.1 w.0) (owner_at deeper d w.1) (λ q. DerivesPart ts q.0 q.1) same (λ o j.
      e.part (part_front_sound ts f h) (which_sound deeper d good f.1 w i) (owner_sound deeper d good w.1 o j))))

  pub part_sound : (ts : List Token) (q : Part × List Token) → part_at deeper d ts ≡ Some q → DerivesPart ts q.0 q.1
  unfolding part_at nth_end
  part_sound (key (k.Ordinal n) ∷ ts) q same = taken (part_front ts) (nth_end deeper d n) _ same (λ f h same.
      making (t.nth_part n f.0.0 f.0.1) (owner_at deeper d f.1) (λ q.
      DerivesPart (key (k.Ordinal n) ∷ ts) q.0 q.1) same (λ o j.
      e.nth_part (part_front_sound ts f h) (owner_sound deeper d good f.1 o j)))
  part_sound ts q same = plain_part _ q same

  -- A field is read as a factor.
  pub field_sound : (ts : List Token) (q : Expr × List Token) → made t.field (field_at deeper d ts) ≡ Some q
      → Derives factor ts q.0 q.1
  unfolding field_at
  field_sound ts q same = making t.field (field_at deeper d ts) (λ q. Derives factor ts q.0 q.1) same (λ v h.
      taken (part_at deeper d ts) (λ p. if_field (kind_of_part p) p) (Derives factor ts (t.field v.0) v.1) h (λ p i h.
      if_fielded (kind_of_part p.0) p.0 p.1 v (λ v. Derives factor ts (t.field v.0) v.1) h
      (λ f. e.field (part_sound ts p i) f)))

  layer_ref : (l : Option Layer) (ts : List Token) (q : Ref × List Token) → referenced_layer ts ≡ l
      → ref_of_layer deeper d l ts ≡ Some q → DerivesRef ts q.0 q.1
  layer_ref (Some layer.Card) ts q h same = making t.card (selector_at deeper d ts) (λ q. DerivesRef ts q.0 q.1) same
      (λ p f. e.card (card_sound deeper d good ts p h f))
  layer_ref (Some layer.Background) ts q h same = making t.background (selector_at deeper d ts)
      (λ q. DerivesRef ts q.0 q.1) same (λ p f. e.background (background_sound deeper d good ts p h f))
  layer_ref None ts q h same =
      making t.a_part (part_at deeper d ts) (λ q. DerivesRef ts q.0 q.1) same (λ p f. e.a_part (part_sound ts p f))

  pub ref_sound : (ts : List Token) (q : Ref × List Token) → ref_at deeper d ts ≡ Some q → DerivesRef ts q.0 q.1
  unfolding ref_at
  ref_sound (key k.Me ∷ ts) q same = became (λ q. DerivesRef (key k.Me ∷ ts) q.0 q.1) same e.me
  ref_sound (key k.The ∷ token.name w ∷ ts) q same = tested (same_name w (codes "target")) _ same (λ b same.
      became (λ q. DerivesRef (key k.The ∷ token.name w ∷ ts) q.0 q.1) same (e.the_target b))
  ref_sound (key k.The ∷ ts) q same = absurd (none-some _ same)
  ref_sound (key k.This ∷ key k.Stack ∷ ts) q same =
      became (λ q. DerivesRef (key k.This ∷ key k.Stack ∷ ts) q.0 q.1) same e.this_stack
  ref_sound ts q same = layer_ref (referenced_layer _) _ q refl same

  pub inner_sound : (ts : List Token) (q : Ref × List Token) → inner_ref deeper d ts ≡ Some q → DerivesRef ts q.0 q.1
  unfolding inner_ref
  inner_sound ts q same = ref_sound ts q (fitted deeper d good ref_depth (ref_at deeper d ts) q same)

  counted : (ts : List Token) (q : Count × List Token) → made t.of_object (inner_ref deeper d ts) ≡ Some q
      → DerivesCount ts q.0 q.1
  counted ts q same = making t.of_object (inner_ref deeper d ts) (λ q. DerivesCount ts q.0 q.1) same
      (λ p h. e.of_object (inner_sound ts p h))

  pub count_sound : (ts : List Token) (q : Count × List Token) → count_at deeper d ts ≡ Some q → DerivesCount ts q.0 q.1
  unfolding count_at
  count_sound (key (k.Pieces p) ∷ ts) q same = making (t.pieces_of p) (of_part deeper d (deeper factor) (after_of ts))
      (λ q. DerivesCount (key (k.Pieces p) ∷ ts) q.0 q.1) same (λ v h.
      after (deeper factor) ts v (DerivesCount (key (k.Pieces p) ∷ ts) (t.pieces_of p v.0) v.1) h
      (λ b f i. e.pieces_of f (good factor b v i)))
  count_sound (key k.Cards ∷ ts) q same = became (λ q. DerivesCount (key k.Cards ∷ ts) q.0 q.1) same e.cards
  count_sound (key k.Backgrounds ∷ ts) q same =
      became (λ q. DerivesCount (key k.Backgrounds ∷ ts) q.0 q.1) same e.backgrounds
  count_sound (key (k.Parts p) ∷ ts) q same =
      became (λ q. DerivesCount (key (k.Parts p) ∷ ts) q.0 q.1) same (e.parts e.no_layer)
  count_sound (key k.Card ∷ key (k.Parts p) ∷ ts) q same =
      became (λ q. DerivesCount (key k.Card ∷ key (k.Parts p) ∷ ts) q.0 q.1) same (e.parts e.on_card)
  count_sound (key k.Background ∷ key (k.Parts p) ∷ ts) q same =
      became (λ q. DerivesCount (key k.Background ∷ key (k.Parts p) ∷ ts) q.0 q.1) same (e.parts e.on_background)
  count_sound ts q same = counted _ q same

  piece_sound : (p : ChunkKind) (a m : List Token) (i : Expr) (q : Chunk × List Token) → Derives whole a i m
      → piece_by deeper d (first_kind m) p i m ≡ Some q → DerivesChunk (key (k.Piece p) ∷ a) q.0 q.1
  piece_sound p a (key k.To ∷ m) i q h same = making (t.pieces p i) (deeper whole m)
      (λ q. DerivesChunk (key (k.Piece p) ∷ a) q.0 q.1) same (λ v f. e.pieces h (good whole m v f))
  piece_sound p a m i q h same = became (λ q. DerivesChunk (key (k.Piece p) ∷ a) q.0 q.1) same (e.piece h)

  pub chunk_sound : (ts : List Token) (q : Chunk × List Token) → chunk_at deeper d ts ≡ Some q → DerivesChunk ts q.0 q.1
  unfolding chunk_at
  chunk_sound (key (k.Piece p) ∷ ts) q same = taken (deeper whole ts) (λ i r.
      piece_by deeper d (first_kind r) p i r) _ same (λ v h same. piece_sound p ts v.1 v.0 q (good whole ts v h) same)
  chunk_sound (key k.The ∷ key (k.Ordinal n) ∷ key (k.Piece p) ∷ ts) q same =
      became (λ q. DerivesChunk (key k.The ∷ key (k.Ordinal n) ∷ key (k.Piece p) ∷ ts) q.0 q.1) same (e.nth_piece refl)
  chunk_sound (key (k.Ordinal n) ∷ key (k.Piece p) ∷ ts) q same =
      became (λ q. DerivesChunk (key (k.Ordinal n) ∷ key (k.Piece p) ∷ ts) q.0 q.1) same (e.nth_piece refl)
  chunk_sound ts q same = absurd (none-some _ same)

  pub chunk_form_sound : (ts : List Token) (q : Expr × List Token) → chunk_form deeper d ts ≡ Some q
      → Derives factor ts q.0 q.1
  unfolding chunk_form
  chunk_form_sound ts q same = taken (chunk_at deeper d ts) (λ h r.
      made (t.chunk h) (of_part deeper d (deeper factor) (after_of r))) _ same (λ h i same.
      making (t.chunk h.0) (of_part deeper d (deeper factor) (after_of h.1)) (λ q.
      Derives factor ts q.0 q.1) same (λ v f. after (deeper factor) h.1 v (Derives factor ts (t.chunk h.0 v.0) v.1) f
      (λ b g j. e.chunk (chunk_sound ts h i) g (good factor b v j))))

  ends_at : {p : Level} {ts m n : List Token} {x : Expr} → Derives p ts x m → m ≡ n → Derives p ts x n
  ends_at {p} {ts} {m} {n} {x} h same = subst (λ c. Derives p ts x c) same h

  more_sound : (ts : List Token) (q : Exprs × List Token) (again : Exprs → Parser Exprs)
      → ((found : Exprs) (ts : List Token) (q : Exprs × List Token) → again found ts ≡ Some q → GoodList found ts q)
      → (found : Exprs) (x : Expr) (m : List Token) → Derives whole ts x m
      → list_more deeper d again (first_kind m) (snoc found x) m ≡ Some q → GoodList found ts q
  more_sound ts q again sound found x (key k.CommaSign ∷ b) h f = let i = sound (snoc found x) b q f in
      record { xs = more x i.xs; grown = i.grown ∙ joined_snoc found x i.xs; derives = e.followed h i.derives }
  more_sound ts q again sound found x m h f = became (GoodList found ts) f (snoc_good found x ts m h)

  pub list_sound : (n : ℕ) (found : Exprs) (ts : List Token) (q : Exprs × List Token)
      → list_at deeper d n found ts ≡ Some q → GoodList found ts q
  unfolding list_at
  list_sound zero found ts q same = absurd (none-some _ same)
  list_sound (suc n) found ts q same = taken (deeper whole ts)
      (λ x r. list_more deeper d (list_at deeper d n) (first_kind r) (snoc found x) r) (GoodList found ts q) same
      (λ p i same.
      more_sound ts q (list_at deeper d n) (list_sound n) found p.0 p.1 (good whole ts p i) same)

  primary_sound : (ts : List Token) (q : Expr × List Token) → primary_at deeper d ts ≡ Some q
      → Derives primary ts q.0 q.1
  unfolding primary_at joined
  primary_sound (token.number w ∷ ts) q same = became (λ q. Derives primary (token.number w ∷ ts) q.0 q.1) same e.number
  primary_sound (token.quoted w ∷ ts) q same = became (λ q. Derives primary (token.quoted w ∷ ts) q.0 q.1) same e.quoted
  primary_sound (key (k.Constant n) ∷ ts) q same =
      became (λ q. Derives primary (key (k.Constant n) ∷ ts) q.0 q.1) same e.constant
  primary_sound (key k.Return ∷ ts) q same = became (λ q. Derives primary (key k.Return ∷ ts) q.0 q.1) same e.return_
  primary_sound (token.name w ∷ key k.LeftParen ∷ key k.RightParen ∷ ts) q same =
      became (λ q. Derives primary (token.name w ∷ key k.LeftParen ∷ key k.RightParen ∷ ts) q.0 q.1) same e.call_bare
  primary_sound (token.name w ∷ key k.LeftParen ∷ ts) q same = taken (list_at deeper d (length ts) none ts)
      (λ xs. closed (t.call w xs)) (Derives primary (token.name w ∷ key k.LeftParen ∷ ts) q.0 q.1) same (λ p i same.
      let l = list_sound (length ts) none ts p i in
      let grown : l.xs ≡ p.0 = sym l.grown in
      closing (t.call w p.0) p.1 (λ q. Derives primary (token.name w ∷ key k.LeftParen ∷ ts) q.0 q.1) same
      (λ c f. e.call (subst (λ m. DerivesList ts p.0 m) f (subst (λ v. DerivesList ts v p.1) grown l.derives))))
  primary_sound (token.name w ∷ ts) q same = became (λ q. Derives primary (token.name w ∷ ts) q.0 q.1) same e.name
  primary_sound (key k.LeftParen ∷ ts) q same = taken (deeper whole ts) (λ x. closed (t.paren x)) _ same (λ p i same.
      closing (t.paren p.0) p.1 (λ q. Derives primary (key k.LeftParen ∷ ts) q.0 q.1) same (λ c f.
      e.paren (ends_at (good whole ts p i) f)))
  primary_sound ts q same = absurd (none-some _ same)

  numbered : (a m : List Token) (q : Expr × List Token) → past_the a ≡ key k.Number ∷ m
      → number_form deeper d m ≡ Some q → Derives factor a q.0 q.1
  unfolding number_form
  numbered a m q f same = making t.number_of (of_part deeper d (count_at deeper d) (after_of m))
      (λ q. Derives factor a q.0 q.1) same (λ v h.
      after (count_at deeper d) m v (Derives factor a (t.number_of v.0) v.1) h
      (λ b g i. e.number_of f g (count_sound b v i)))

  property_sound : (ts : List Token) (p : Option Prop) (q : Expr × List Token) → prop_front ts ≡ p
      → property_by deeper d p ts ≡ Some q → Derives factor (key k.The ∷ ts) q.0 q.1
  property_sound ts None q f same = absurd (none-some _ same)
  property_sound ts (Some p) q f same = making (t.property p)
      (of_part deeper d (inner_ref deeper d) (after_of (later ts))) (λ q. Derives factor (key k.The ∷ ts) q.0 q.1) same
      (λ v h.
      after (inner_ref deeper d) (later ts) v (Derives factor (key k.The ∷ ts) (t.property p v.0) v.1) h
      (λ b g i. e.property f g (inner_sound b v i)))

  short_sound : (w : List ℕ) (ts : List Token) (p : Prop) (o : Option Prop) (q : Expr × List Token)
      → same_name w (codes "short") ≡ true → prop_front ts ≡ Some p → short_of p ≡ o
      → property_by deeper d o ts ≡ Some q → Derives factor (key k.The ∷ token.name w ∷ ts) q.0 q.1
  short_sound w ts p None q s f g same = absurd (none-some _ same)
  short_sound w ts p (Some o) q s f g same = making (t.property o)
      (of_part deeper d (inner_ref deeper d) (after_of (later ts)))
      (λ q. Derives factor (key k.The ∷ token.name w ∷ ts) q.0 q.1) same (λ v h.
      after (inner_ref deeper d) (later ts) v (Derives factor (key k.The ∷ token.name w ∷ ts) (t.property o v.0) v.1) h
      (λ c i j. e.short_property s f g i (inner_sound c v j)))

  short_taken : (w : List ℕ) (ts : List Token) (p : Option Prop) (q : Expr × List Token)
      → same_name w (codes "short") ≡ true → prop_front ts ≡ p → short_by deeper d p ts ≡ Some q
      → Derives factor (key k.The ∷ token.name w ∷ ts) q.0 q.1
  short_taken w ts None q s f same = absurd (none-some _ same)
  short_taken w ts (Some p) q s f same = short_sound w ts p (short_of p) q s f refl same

  function_sound : (w : List ℕ) (ts : List Token) (f : Option FunctionWord) (q : Expr × List Token) → function_of w ≡ f
      → function_by deeper d f (token.name w ∷ ts) ≡ Some q → Derives factor (key k.The ∷ token.name w ∷ ts) q.0 q.1
  function_sound w ts None q g same = absurd (none-some _ same)
  function_sound w ts (Some f) q g same = making (t.function f) (of_part deeper d (deeper factor) (after_of ts))
      (λ q. Derives factor (key k.The ∷ token.name w ∷ ts) q.0 q.1) same (λ v h.
      after (deeper factor) ts v (Derives factor (key k.The ∷ token.name w ∷ ts) (t.function f v.0) v.1) h
      (λ b i j. e.function g i (good factor b v j)))

  run_sound : (w : List ℕ) (ts : List Token) (p : Option RunProp) (q : Expr × List Token) → run_prop w ≡ p
      → run_by deeper d p w (token.name w ∷ ts) ≡ Some q → Derives factor (key k.The ∷ token.name w ∷ ts) q.0 q.1
  run_sound w ts None q g same = function_sound w ts (function_of w) q refl same
  run_sound w ts (Some p) q g same =
      became (λ q. Derives factor (key k.The ∷ token.name w ∷ ts) q.0 q.1) same (e.run_property g)

  prop_sound : (w : List ℕ) (ts : List Token) (p : Option Prop) (q : Expr × List Token)
      → prop_front (token.name w ∷ ts) ≡ p → prop_or deeper d p w (token.name w ∷ ts) ≡ Some q
      → Derives factor (key k.The ∷ token.name w ∷ ts) q.0 q.1
  prop_sound w ts None q g same = run_sound w ts (run_prop w) q refl same
  prop_sound w ts (Some p) q g same = property_sound (token.name w ∷ ts) (Some p) q g same

  the_sound : (w : List ℕ) (ts : List Token) (q : Expr × List Token) → the_name deeper d w (token.name w ∷ ts) ≡ Some q
      → Derives factor (key k.The ∷ token.name w ∷ ts) q.0 q.1
  the_sound w ts q same = chosen (same_name w (codes "result")) _ same (λ b same.
      became (λ q. Derives factor (key k.The ∷ token.name w ∷ ts) q.0 q.1) same (e.result b)) (λ b same.
      chosen (same_name w (codes "target")) _ same (λ b same.
      became (λ q. Derives factor (key k.The ∷ token.name w ∷ ts) q.0 q.1) same (e.target b)) (λ b same.
      chosen (same_name w (codes "short")) _ same (λ b same. short_taken w ts (prop_front ts) q b refl same) (λ b same.
      prop_sound w ts (prop_front (token.name w ∷ ts)) q refl same)))

  alone_sound : (ts : List Token) (q : Expr × List Token) → primary_at deeper d ts ≡ Some q → Derives factor ts q.0 q.1
  alone_sound ts q same = e.no_form (primary_sound ts q same)

  pub factor_sound : (ts : List Token) (q : Expr × List Token) → factor_at deeper d ts ≡ Some q
      → Derives factor ts q.0 q.1
  unfolding factor_at
  factor_sound (key (k.Piece p) ∷ ts) q same = chunk_form_sound _ q same
  factor_sound (key (k.Ordinal n) ∷ key (k.Piece p) ∷ ts) q same = chunk_form_sound _ q same
  factor_sound (key (k.Ordinal n) ∷ ts) q same = field_sound _ q same
  factor_sound (key (k.Part p) ∷ ts) q same = field_sound _ q same
  factor_sound (key k.Card ∷ ts) q same = field_sound _ q same
  factor_sound (key k.Background ∷ ts) q same = field_sound _ q same
  factor_sound (key k.Number ∷ ts) q same = numbered (key k.Number ∷ ts) ts q refl same
  factor_sound (key k.The ∷ key k.Number ∷ ts) q same = numbered (key k.The ∷ key k.Number ∷ ts) ts q refl same
  factor_sound (key k.The ∷ key k.Id ∷ ts) q same =
      property_sound (key k.Id ∷ ts) (prop_front (key k.Id ∷ ts)) q refl same
  factor_sound (key k.The ∷ token.name w ∷ ts) q same = the_sound w ts q same
  factor_sound (key k.The ∷ ts) q same = chunk_form_sound _ q same
  factor_sound ts q same = alone_sound _ q same

  there_sound : (ts : List Token) (q : Expr × List Token)
      → and_then (article ts) (λ b r. made (t.there_is b) (inner_ref deeper d r)) ≡ Some q
      → Derives prefixed (key k.There ∷ key k.Is ∷ ts) q.0 q.1
  there_sound ts q same = taken (article ts) (λ b r. made (t.there_is b) (inner_ref deeper d r)) _ same (λ b h same.
      making (t.there_is b.0) (inner_ref deeper d b.1) (λ q.
      Derives prefixed (key k.There ∷ key k.Is ∷ ts) q.0 q.1) same (λ v f.
      e.there_is (article_sound ts b h) (inner_sound b.1 v f)))

  bare_sound : (ts : List Token) (q : Expr × List Token) → factor_at deeper d ts ≡ Some q → Derives prefixed ts q.0 q.1
  bare_sound ts q same = e.no_prefix (factor_sound ts q same)

  pub prefixed_sound : (ts : List Token) (q : Expr × List Token) → prefixed_at deeper d ts ≡ Some q
      → Derives prefixed ts q.0 q.1
  unfolding prefixed_at
  prefixed_sound (key k.Minus ∷ ts) q same = making (t.unary un.Minus) (deeper prefixed ts)
      (λ q. Derives prefixed (key k.Minus ∷ ts) q.0 q.1) same (λ v h. e.minus (good prefixed ts v h))
  prefixed_sound (key k.Not ∷ ts) q same = making (t.unary un.Not) (deeper prefixed ts)
      (λ q. Derives prefixed (key k.Not ∷ ts) q.0 q.1) same (λ v h. e.not_ (good prefixed ts v h))
  prefixed_sound (key k.There ∷ key k.Is ∷ ts) q same = there_sound ts q same
  prefixed_sound (key k.There ∷ ts) q same = absurd (none-some _ same)
  prefixed_sound ts q same = bare_sound _ q same

  power_end_sound : (a m : List Token) (x : Expr) (q : Expr × List Token) → Derives prefixed a x m
      → power_end deeper d x m ≡ Some q → Derives power a q.0 q.1
  unfolding power_end
  power_end_sound a (key k.Caret ∷ b) x q h same = tested (nat_le (depth x) d) _ same (λ f same.
      making (t.binary o.Power x) (deeper power b) (λ q. Derives power a q.0 q.1) same (λ v i.
      e.raised h (good power b v i)))
  power_end_sound a m x q h same = became (λ q. Derives power a q.0 q.1) same (e.not_raised h)

  power_sound : (ts : List Token) (q : Expr × List Token) → power_at deeper d ts ≡ Some q → Derives power ts q.0 q.1
  unfolding power_at
  power_sound ts q same = taken (prefixed_at deeper d ts) (power_end deeper d) _ same (λ p h same.
      power_end_sound ts p.1 p.0 q (prefixed_sound ts p h) same)

  join_sound : (n : ℕ) (a m b : List Token) (op : Op) (x : Expr) (p : Expr × List Token)
      → leading_operator m ≡ infix_at (suc n) op b → Derives (rank (suc n)) a x m → join_at deeper d n op x b ≡ Some p
      → Derives (rank (suc n)) a p.0 p.1
  unfolding join_at
  join_sound n a m b op x p f h same = tested (nat_le (depth x) d) _ same (λ g same.
      making (t.binary op x) (deeper (rank n) b) (λ q. Derives (rank (suc n)) a q.0 q.1) same (λ v i.
      e.join h f (good (rank n) b v i)))

  asked_sound : (n : ℕ) (a m c : List Token) (op : UnOp) (x : Expr) (p : Expr × List Token) → equality ≡ suc n
      → leading_operator m ≡ test_at op c → Derives (rank (suc n)) a x m → asked_at deeper d op x c ≡ Some p
      → Derives (rank (suc n)) a p.0 p.1
  unfolding asked_at
  asked_sound n a m c op x p i f h same = tested (nat_le (depth x) d) _ same (λ g same.
      became (λ q. Derives (rank (suc n)) a q.0 q.1) same
      (subst (λ r. Derives (rank r) a (t.unary op x) c) i (e.is_a (subst (λ r. Derives (rank r) a x m) (sym i) h) f)))

  turn_sound : (n : ℕ) (again : Expr → Parser Expr) (a m : List Token) (x : Expr) (q : Expr × List Token)
      (f : LeadingOperator) → leading_operator m ≡ f → Derives (rank (suc n)) a x m
      → ((y : Expr) (c : List Token) → Derives (rank (suc n)) a y c → again y c ≡ Some q
      → Derives (rank (suc n)) a q.0 q.1)
      → turn deeper d again n x m f ≡ Some q → Derives (rank (suc n)) a q.0 q.1
  turn_sound n again a m x q (infix_at r op b) g h go same = chosen (nat_eq r (suc n)) _ same (λ i same.
      taken (join_at deeper d n op x b) again _ same (λ p j same.
      go p.0 p.1 (join_sound n a m b op x p (subst (λ r. leading_operator m ≡ infix_at r op b) (eqb-true r (suc n) i) g)
      h j) same)) (λ i same. became (λ q. Derives (rank (suc n)) a q.0 q.1) same h)
  turn_sound n again a m x q (test_at op c) g h go same = chosen (nat_eq equality (suc n)) _ same (λ i same.
      taken (asked_at deeper d op x c) again _ same (λ p j same.
      go p.0 p.1 (asked_sound n a m c op x p (eqb-true equality (suc n) i) g h j) same)) (λ i same.
      became (λ q. Derives (rank (suc n)) a q.0 q.1) same h)
  turn_sound n again a m x q neither g h go same = became (λ q. Derives (rank (suc n)) a q.0 q.1) same h

  chain_sound : (n j : ℕ) (a m : List Token) (x : Expr) (q : Expr × List Token) → Derives (rank (suc n)) a x m
      → chain_at deeper d n j x m ≡ Some q → Derives (rank (suc n)) a q.0 q.1
  unfolding chain_at
  chain_sound n zero a m x q h same = absurd (none-some _ same)
  chain_sound n (suc j) a m x q h same = turn_sound n (chain_at deeper d n j) a m x q (leading_operator m) refl h
      (λ y c h same. chain_sound n j a c y q h same) same

  rank_sound : (n : ℕ) (ts : List Token) (q : Expr × List Token) → rank_at deeper d n ts ≡ Some q
      → Derives (rank n) ts q.0 q.1
  unfolding rank_at
  rank_sound zero ts q same = e.tightest (power_sound ts q same)
  rank_sound (suc n) ts q same = taken (rank_at deeper d n ts) (chain_at deeper d n (suc (suc d))) _ same (λ p h same.
      chain_sound n (suc (suc d)) ts p.1 p.0 q (e.tighter (rank_sound n ts p h)) same)

  level_sound : (p : Level) (ts : List Token) (q : Expr × List Token) → level_at deeper d p ts ≡ Some q
      → Derives p ts q.0 q.1
  unfolding level_at
  level_sound (rank n) ts q same = rank_sound n ts q same
  level_sound power ts q same = power_sound ts q same
  level_sound prefixed ts q same = prefixed_sound ts q same
  level_sound factor ts q same = factor_sound ts q same
  level_sound primary ts q same = primary_sound ts q same

-- What is read is derived.
pub read_sound : (d : ℕ) (p : Level) (ts : List Token) (q : Expr × List Token) → read d p ts ≡ Some q
    → Derives p ts q.0 q.1
unfolding read
read_sound zero p ts q same = absurd (none-some _ same)
read_sound (suc d) p ts q same = level_sound (read d) d (read_sound d) p ts q same
