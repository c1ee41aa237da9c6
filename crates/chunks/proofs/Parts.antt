-- Parts of a text between its cuts, one of them replaced.
use Rattle.std.proofs.Common.{◌≡◌, refl, sym, ◌∙◌, ap, subst, ℕ, zero, suc, ◌+◌, List, [], ◌∷◌, ◌++◌, Bool, true, false}
use Rattle.std.proofs.Common.{length, take, drop, ◌⊎◌, inl, inr, Some, None, append_assoc, length-append, arith}
use Rattle.std.specs.Prelude.{slice_get, slice_set}
use Rattle.std.specs.List.{slice_split, onto_first}
use Rattle.std.proofs.lemmas.Option.{same_Some}
use Rattle.std.proofs.lemmas.List.{append-nil, drop_all, drop_at, take_at}
use Rattle.std.proofs.lemmas.List.Splits.{slice_split-cons_no, slice_split-cons_yes}
use Rattle.chunks.specs.declared.chunk.Span.{Span}
use Rattle.chunks.specs.Laws.{IsWhole}
use Rattle.chunks.specs.Pieces.{left, right, spans_from}

module _ (cut : ℕ → Bool) where
  pub split_one : (x : List ℕ) → IsWhole cut x → slice_split cut x ≡ x ∷ []
  split_one [] h = refl
  split_one (b ∷ bs) h = slice_split-cons_no cut b bs h.0 ∙ ap (onto_first b) (split_one bs h.1)

  pub split_more : (x : List ℕ) (g : ℕ) (rest : List ℕ) → IsWhole cut x → cut g ≡ true
      → slice_split cut (x ++ g ∷ rest) ≡ x ∷ slice_split cut rest
  split_more [] g rest h e = slice_split-cons_yes cut g rest e
  split_more (b ∷ bs) g rest h e =
      slice_split-cons_no cut b (bs ++ g ∷ rest) h.0 ∙ ap (onto_first b) (split_more bs g rest h.1 e)

  -- a text is cut first at this byte
  record IsCutFirst (t before : List ℕ) (g : ℕ) (rest : List ℕ) : Type 0 where
    whole : IsWhole cut before
    cuts : cut g ≡ true
    same : t ≡ before ++ g ∷ rest

  abbrev Cut : List ℕ → Type 0
  Cut t = IsWhole cut t ⊎ ((before : List ℕ) × (g : ℕ) × (rest : List ℕ) × IsCutFirst t before g rest)

  cut_cons : (b : ℕ) (bs : List ℕ) (v : Bool) → cut b ≡ v → Cut bs → Cut (b ∷ bs)
  cut_cons b bs true e h = inr ([], b, bs, record { whole = tt; cuts = e; same = refl })
  cut_cons b bs false e (inl h) = inl (e, h)
  cut_cons b bs false e (inr h) =
      inr (b ∷ h.0, h.1, h.2, record { whole = (e, h.3.whole); cuts = h.3.cuts; same = ap (λ xs. b ∷ xs) h.3.same })

  first_cut : (t : List ℕ) → Cut t
  first_cut [] = inl tt
  first_cut (b ∷ bs) = cut_cons b bs (cut b) refl (first_cut bs)

  split_cut : (t before : List ℕ) (g : ℕ) (rest : List ℕ) → IsCutFirst t before g rest
      → slice_split cut t ≡ before ∷ slice_split cut rest
  split_cut t before g rest h = ap (slice_split cut) h.same ∙ split_more before g rest h.whole h.cuts

  module _ (x : List ℕ) (whole : IsWhole cut x) where
    -- a place in a text with another text in front, and what stands round it
    record IsReplaced (front t : List ℕ) (k : ℕ) (s : Span) : Type 0 where
      before : List ℕ
      after : List ℕ
      ends : take s.start (front ++ t) ≡ front ++ before
      begins : drop s.after (front ++ t) ≡ after
      parts : slice_split cut (before ++ x ++ after) ≡ slice_set (slice_split cut t) k x

    first_whole : (front t : List ℕ) → IsWhole cut t
        → IsReplaced front t 0 (record { start = length front; after = length front + length t })
    first_whole front t h =
        record {
          before = [];
          after = [];
          ends = take_at front t (length front) refl ∙ sym (append-nil front);
          begins = drop_all (length front + length t) (front ++ t) (omega (arith, length-append front t));
          parts = ap (slice_split cut) (append-nil x) ∙ split_one x whole
              ∙ sym (ap (λ ps. slice_set ps 0 x) (split_one t h));
        }

    first_part : (front t before : List ℕ) (g : ℕ) (rest : List ℕ) → IsCutFirst t before g rest
        → IsReplaced front t 0 (record { start = length front; after = length front + length before })
    first_part front t p g rest h =
        record {
          before = [];
          after = g ∷ rest;
          ends = take_at front t (length front) refl ∙ sym (append-nil front);
          begins = ap (λ xs. drop (length front + length p) (front ++ xs)) h.same
              ∙ ap (drop (length front + length p)) (sym (append_assoc front p (g ∷ rest)))
              ∙ drop_at (front ++ p) (g ∷ rest) (length front + length p) (length-append front p);
          parts = split_more x g rest whole h.cuts ∙ sym (ap (λ ps. slice_set ps 0 x) (split_cut t p g rest h));
        }

    later_part : (front t before : List ℕ) (g : ℕ) (rest : List ℕ) (k : ℕ) (s : Span) → IsCutFirst t before g rest
        → IsReplaced (front ++ before ++ g ∷ []) rest k s → IsReplaced front t (suc k) s
    later_part front t p g rest k s h r =
        let moved : (ys : List ℕ) → (front ++ p ++ g ∷ []) ++ ys ≡ front ++ (p ++ g ∷ ys) =
        λ ys. append_assoc (front ++ p) (g ∷ []) ys ∙ append_assoc front p (g ∷ ys) in
        let whole_text : (front ++ p ++ g ∷ []) ++ rest ≡ front ++ t =
        moved rest ∙ ap (λ xs. front ++ xs) (sym h.same) in
        record {
          before = p ++ g ∷ r.before;
          after = r.after;
          ends = ap (take s.start) (sym whole_text) ∙ r.ends ∙ moved r.before;
          begins = ap (drop s.after) (sym whole_text) ∙ r.begins;
          parts =
              ap (slice_split cut) (ap (λ xs. xs ++ r.after) (append_assoc p (g ∷ r.before) x)
              ∙ append_assoc p (g ∷ (r.before ++ x)) r.after)
              ∙ split_more p g (r.before ++ x ++ r.after) h.whole h.cuts
              ∙ ap (λ ps. p ∷ ps) r.parts
              ∙ sym (ap (λ ps. slice_set ps (suc k) x) (split_cut t p g rest h));
        }

    replaced : (k : ℕ) (front t : List ℕ) (s : Span)
        → slice_get (spans_from (length front) 1 (slice_split cut t)) k ≡ Some s → IsReplaced front t k s
    replaced zero front t s e = by (first_cut t)
      where
        by : Cut t → IsReplaced front t 0 s
        by (inl h) = subst (IsReplaced front t 0)
            (same_Some (record { start = length front; after = length front + length t }) s
            (sym (ap (λ ps. slice_get (spans_from (length front) 1 ps) 0) (split_one t h)) ∙ e)) (first_whole front t h)
        by (inr h) = subst (IsReplaced front t 0)
            (same_Some (record { start = length front; after = length front + length h.0 }) s
            (sym (ap (λ ps. slice_get (spans_from (length front) 1 ps) 0) (split_cut t h.0 h.1 h.2 h.3)) ∙ e))
            (first_part front t h.0 h.1 h.2 h.3)
    replaced (suc k) front t s e = by (λ f r. replaced k f r s) (first_cut t)
      where
        by : ((f r : List ℕ) → slice_get (spans_from (length f) 1 (slice_split cut r)) k ≡ Some s → IsReplaced f r k s)
            → Cut t → IsReplaced front t (suc k) s
        by later (inl h) = let none : None
            ≡ Some s = sym (ap (λ ps. slice_get (spans_from (length front) 1 ps) (suc k)) (split_one t h))
            ∙ e in let no_part : ⊥ = cc in absurd no_part
        by later (inr h) =
            let long : length front + length h.0 + 1 ≡ length (front ++ h.0 ++ h.1 ∷ []) =
            omega (arith, length-append (front ++ h.0) (h.1 ∷ []), length-append front h.0) in
            later_part front t h.0 h.1 h.2 k s h.3
            (later (front ++ h.0 ++ h.1 ∷ []) h.2
            (sym (ap (λ n. slice_get (spans_from n 1 (slice_split cut h.2)) k) long)
            ∙ sym (ap (λ ps. slice_get (spans_from (length front) 1 ps) (suc k)) (split_cut t h.0 h.1 h.2 h.3))
            ∙ e))

    -- a part replaced by a text without a cut
    pub part_replaced : (t : List ℕ) (k : ℕ) (s : Span) → slice_get (spans_from 0 1 (slice_split cut t)) k ≡ Some s
        → slice_split cut (left t s ++ x ++ right t s) ≡ slice_set (slice_split cut t) k x
    part_replaced t k s e =
        let r = replaced k [] t s e in
        ap (λ xs. slice_split cut (xs ++ x ++ right t s)) r.ends
        ∙ ap (λ xs. slice_split cut (r.before ++ x ++ xs)) r.begins ∙ r.parts
