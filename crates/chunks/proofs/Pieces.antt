-- The laws of pieces.
use Rattle.std.proofs.Common.{◌≡◌, refl, sym, ◌∙◌, ap, ℕ, List, [], ◌∷◌, Bool, true, false, ◌==◌, subst, eq-eqb}
use Rattle.std.specs.List.{join_with_byte, slice_split, onto_first}
use Rattle.std.proofs.lemmas.List.Splits.{join_with_byte-slice_split, slice_split-cons_no, slice_split-cons_yes}
use Rattle.chunks.specs.Pieces.{delimited}
use Rattle.chunks.specs.Laws.{AreClean, AreDelimited, OneList}
use Rattle.chunks.proofs.Parts.{split_more, split_one}

module _ (d : ℕ) where
  abbrev is_cut : ℕ → Bool
  is_cut c = c == d

  self_cut : is_cut d ≡ true
  self_cut = eq-eqb d d refl

  pub split_joined : (x : List ℕ) (ps : List (List ℕ)) → AreClean d (x ∷ ps)
      → slice_split is_cut (join_with_byte d (x ∷ ps)) ≡ x ∷ ps
  split_joined x [] h = split_one is_cut x h.0
  split_joined x (y ∷ ys) h =
      split_more is_cut x d (join_with_byte d (y ∷ ys)) h.0 self_cut ∙ ap (λ ps. x ∷ ps) (split_joined y ys h.1)

  clean_onto : (b : ℕ) (ps : List (List ℕ)) → is_cut b ≡ false → AreClean d ps → AreClean d (onto_first b ps)
  clean_onto b [] e h = ((e, tt), tt)
  clean_onto b (p ∷ ps) e h = ((e, h.0), h.1)

  clean_cons : (b : ℕ) (bs : List ℕ) (v : Bool) → is_cut b ≡ v → AreClean d (slice_split is_cut bs)
      → AreClean d (slice_split is_cut (b ∷ bs))
  clean_cons b bs true e h = subst (AreClean d) (sym (slice_split-cons_yes is_cut b bs e)) (tt, h)
  clean_cons b bs false e h =
      subst (AreClean d) (sym (slice_split-cons_no is_cut b bs e)) (clean_onto b (slice_split is_cut bs) e h)

  clean_split : (t : List ℕ) → AreClean d (slice_split is_cut t)
  clean_split [] = (tt, tt)
  clean_split (b ∷ bs) = clean_cons b bs (is_cut b) refl (clean_split bs)

  are_delimited : (t : List ℕ) → AreDelimited d (delimited d t) t
  are_delimited [] = record { clean = tt; joined = refl; none = λ e. refl }
  are_delimited (b ∷ bs) =
      record { clean = clean_split (b ∷ bs); joined = join_with_byte-slice_split d (b ∷ bs); none = λ e. cc }

  only_one : (ps : List (List ℕ)) (t : List ℕ) → AreDelimited d ps t → ps ≡ delimited d t
  only_one ps [] r = r.none refl
  only_one [] (b ∷ bs) r = let e : [] ≡ b ∷ bs = r.joined in cc
  only_one (x ∷ ps) (b ∷ bs) r = sym (split_joined x ps r.clean) ∙ ap (slice_split is_cut) r.joined

pub one_list : OneList
one_list d ps t = (only_one d ps t, λ e. subst (λ qs. AreDelimited d qs t) (sym e) (are_delimited d t))
