-- Pieces that are read one after the other into one text.
use Rattle.std.proofs.Common.{◌≡◌, ℕ, suc, ◌+◌, ◌-◌, ◌<◌, ◌≤◌, List, [], ◌∷◌, ◌++◌, length, Result, Ok, Err, refl, sym}
use Rattle.std.proofs.Common.{ap, ◌∙◌, arith, append_assoc, add-one, is_some, IsSome, true≢false}
use Rattle.std.proofs.Common.{Bool, Option, Some, None, codes, ◌==◌, append-nil, length-append}
use Rattle.std.specs.Option.{option_to_list}
use Rattle.std.specs.List.{join_with_byte}
use Rattle.ht_values.specs.Delimited.{ended}
use Rattle.stack_text.specs.Reading.{Position, chain, ◌>>=◌, give, line_after, piece_at, pieces_at, text_of_pieces}
use Rattle.stack_text.specs.Reading.{Fails}
use Rattle.stack_text.specs.declared.fault.FileError.{FileError}
use Rattle.stack_text.specs.declared.fault.ReadError.{ReadError}
use Rattle.stack_text.specs.declared.fault.ReadError.TheVariants as errors
use Rattle.stack_text.proofs.Blocks.{text_of_pieces-reads}
use Rattle.stack_file.specs.Pieces.{ended_at}

-- a text, and then the pieces that are read
abbrev pub with_text : List ℕ → Result (List (List ℕ) × Position) FileError → Result (List ℕ × Position) FileError
with_text text (Ok x) = Ok (text ++ ended 13 x.0, x.1)
with_text text (Err e) = Err e

onto : (text piece : List ℕ) (r : Result (List (List ℕ) × Position) FileError)
    → with_text text (chain r (λ others. give (piece ∷ others))) ≡ with_text (text ++ (piece ++ 13 ∷ [])) r
onto text piece (Ok p) = ap (λ (t : List ℕ). let x : Result (List ℕ × Position) FileError = Ok (t, p.1) in x)
    (sym (append_assoc text (piece ++ 13 ∷ []) (ended 13 p.0)))
onto text piece (Err e) = refl

go : (alone : Bool) (m room : ℕ) (text piece : List ℕ) (start after : Position)
    → line_after (codes "|") (piece_at alone room) start ≡ Ok (piece, after)
    → with_text text (pieces_at alone (suc m) room start)
    ≡ with_text (text ++ (piece ++ 13 ∷ [])) (pieces_at alone m (room - (length piece + 1)) after)
go alone m room text piece start after e =
    ap (λ (o : Result (List ℕ × Position) FileError). with_text text
    (chain o (λ p. pieces_at alone m (room - (length p + 1)) >>= λ others. give (p ∷ others)))) e
    ∙ onto text piece (pieces_at alone m (room - (length piece + 1)) after)

-- one more piece is read
pub piece-step : (alone : Bool) (n m room left : ℕ) (text more piece : List ℕ) (start after : Position) → n ≡ m + 1
    → line_after (codes "|") (piece_at alone room) start ≡ Ok (piece, after) → more ≡ (text ++ piece) ++ 13 ∷ []
    → left ≡ room - (length piece + 1)
    → with_text more (pieces_at alone m left after) ≡ with_text text (pieces_at alone n room start)
piece-step alone n m room left text more piece start after is e added same =
    rw (is, add-one, added, same, append_assoc text piece (13 ∷ [])) (sym (go alone m room text piece start after e))

fail : (alone : Bool) (m room : ℕ) (text : List ℕ) (start : Position) (f : FileError)
    → line_after (codes "|") (piece_at alone room) start ≡ Err f
    → with_text text (pieces_at alone (suc m) room start) ≡ Err f
fail alone m room text start f e = ap
    (λ (o : Result (List ℕ × Position) FileError). with_text text
    (chain o (λ p. pieces_at alone m (room - (length p + 1)) >>= λ others. give (p ∷ others)))) e

pub piece-fail : (alone : Bool) (n m room : ℕ) (text : List ℕ) (start : Position) (e : ReadError) → n ≡ m + 1
    → Fails e (line_after (codes "|") (piece_at alone room) start)
    → Fails e (with_text text (pieces_at alone n room start))
piece-fail alone n m room text start errors.Memory is h = tt
piece-fail alone n m room text start (errors.File f) is h = rw (is, add-one) (fail alone m room text start f h)

-- ---- without the return behind the last

ended-joined : (p : List ℕ) (ps : List (List ℕ)) → ended 13 (p ∷ ps) ≡ join_with_byte 13 (p ∷ ps) ++ 13 ∷ []
ended-joined p [] = append-nil (p ++ 13 ∷ [])
ended-joined p (q ∷ ps) =
    ap (λ (t : List ℕ). (p ++ 13 ∷ []) ++ t) (ended-joined q ps)
    ∙ append_assoc p (13 ∷ []) (join_with_byte 13 (q ∷ ps) ++ 13 ∷ [])
    ∙ sym (append_assoc p (13 ∷ join_with_byte 13 (q ∷ ps)) (13 ∷ []))

last_same : (a b : List ℕ) (x y : ℕ) → a ++ x ∷ [] ≡ b ++ y ∷ [] → a ≡ b
last_same [] [] x y e = refl
last_same [] (b ∷ []) x y e = absurd (let n : 1 ≡ 2 = ap length e in omega (arith, n))
last_same [] (b ∷ c ∷ bs) x y e = absurd (let n : 1 ≡ length (b ∷ c ∷ bs ++ y ∷ []) = ap length e in omega (arith, n))
last_same (a ∷ []) [] x y e = absurd (let n : 2 ≡ 1 = ap length e in omega (arith, n))
last_same (a ∷ c ∷ as') [] x y e = absurd (let n : length (a ∷ c ∷ as' ++ x ∷ []) ≡ 1 = ap length e in omega (arith, n))
last_same (a ∷ as') (b ∷ bs) x y e =
    let front : a ≡ b = cc in
    let back : as' ++ x ∷ [] ≡ bs ++ y ∷ [] = cc in
    ap (λ (z : ℕ). z ∷ as') front ∙ ap (λ (zs : List ℕ). b ∷ zs) (last_same as' bs x y back)

-- nothing was read, and so the text has no piece
pub ended_none : (ps : List (List ℕ)) → ended 13 ps ≡ [] → join_with_byte 13 ps ≡ []
ended_none [] e = refl
ended_none (p ∷ ps) e = absurd (let n : length (join_with_byte 13 (p ∷ ps) ++ 13 ∷ [])
    ≡ 0 = ap length (sym (ended-joined p ps) ∙ e) in omega
    (arith, n, length-append (join_with_byte 13 (p ∷ ps)) (13 ∷ [])))

pub ended_some : (ps : List (List ℕ)) (t : List ℕ) (x : ℕ) → ended 13 ps ≡ t ++ x ∷ [] → join_with_byte 13 ps ≡ t
ended_some [] t x e =
    absurd (let n : 0 ≡ length (t ++ x ∷ []) = ap length e in omega (arith, n, length-append t (x ∷ [])))
ended_some (p ∷ ps) t x e = last_same (join_with_byte 13 (p ∷ ps)) t 13 x (sym (ended-joined p ps) ∙ e)

-- what is read without the last return is the text of the pieces
pub text-read : (count : ℕ) (start after : Position) (bytes t : List ℕ) → ended_at count start ≡ Ok (bytes, after)
    → ((ps : List (List ℕ)) → ended 13 ps ≡ bytes → join_with_byte 13 ps ≡ t)
    → text_of_pieces count start ≡ Ok (t, after)
unfolding text_of_pieces
text-read count start after bytes t e same = by (pieces_at (count == 1) count 30001 start) refl e
  where
    by : (r : Result (List (List ℕ) × Position) FileError) → pieces_at (count == 1) count 30001 start ≡ r
        → chain r (λ ps. give (ended 13 ps)) ≡ Ok (bytes, after)
        → chain r (λ ps. give (join_with_byte 13 ps)) ≡ Ok (t, after)
    by (Err f) is h = absurd cc
    by (Ok p) is h =
        let q : ◌≡◌ {A = List ℕ × Position} (ended 13 p.0, p.1) (bytes, after) = cc in
        ap (λ (z : List ℕ × Position). let x : Result (List ℕ × Position) FileError = Ok z in x)
        (λ i. (same p.0 (ap (λ (z : List ℕ × Position). z.0) q) i, (q i).1))

pub text-fails : (count : ℕ) (start : Position) (e : ReadError) → Fails e (ended_at count start)
    → Fails e (text_of_pieces count start)
unfolding text_of_pieces
text-fails count start errors.Memory h = tt
text-fails count start (errors.File f) h = by (pieces_at (count == 1) count 30001 start) h
  where
    by : (r : Result (List (List ℕ) × Position) FileError) → chain r (λ ps. give (ended 13 ps)) ≡ Err f
        → chain r (λ ps. give (join_with_byte 13 ps)) ≡ Err f
    by (Ok p) k = absurd cc
    by (Err g) k = cc

-- and it is no longer than a text may be
pub text-short : (count : ℕ) (start after : Position) (t : List ℕ) → text_of_pieces count start ≡ Ok (t, after)
    → length t ≤ 30000
text-short count start after t e = ((text_of_pieces-reads count).found start after t e).0.0.short

-- what is left where the last return is taken
pub popped : (bytes left : List ℕ) (o : Option ℕ) → bytes ≡ left ++ option_to_list o → (o ≡ None → bytes ≡ [])
    → (ps : List (List ℕ)) → ended 13 ps ≡ bytes → join_with_byte 13 ps ≡ left
popped bytes left None is none ps e =
    let empty = none refl in
    ended_none ps (e ∙ empty) ∙ sym empty ∙ is ∙ append-nil left
popped bytes left (Some x) is none ps e = ended_some ps left x (e ∙ is)

pub none_left : (bytes : List ℕ) (n : ℕ) (o : Option ℕ) → n ≡ length bytes → (0 < n → IsSome o) → o ≡ None → bytes ≡ []
none_left [] n o e some none = refl
none_left (b ∷ bs) n o e some none = absurd (true≢false (sym (some (omega arith)) ∙ ap is_some none))
