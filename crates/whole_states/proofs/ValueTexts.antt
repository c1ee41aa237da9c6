-- What is computed of texts is texts.
use Rattle.std.specs.List.{All, AllByRecursion, list_all, prefix_len}
use Rattle.std.specs.Fmt.{digits_onto, digits, decimal, digit_glyph}
use Rattle.std.proofs.Common.{◌≡◌, ◌+◌, ◌-◌, ◌/◌, ◌%◌, ◌<◌, ◌≤◌, ◌==◌, ◌&&◌, ℕ, zero, suc, ℤ, pos, negsuc, List, []}
use Rattle.std.proofs.Common.{◌∷◌, ◌++◌, length, take, drop, Bool, true, false, cond, codes, nat_lt, nat_le, Option}
use Rattle.std.proofs.Common.{Some, None, option_map, Result, Ok, Err, IfOk, refl, sym, ap, subst, arith, length-append}
use Rattle.std.proofs.Common.{length-take, length-drop, IfSome, ◌||◌, max, min, int_lt, unsigned_abs}
use Rattle.std.proofs.lemmas.Bool.{and_parts, ltb-true, leb-true}
use Rattle.std.proofs.lemmas.List.Elements.{All-nil, All-cons, All-take, All-drop, All-append, All-replicate}
use Rattle.std.proofs.lemmas.List.Elements.{All-from_recursion, All-tail}
use Rattle.ht_values.specs.declared.fault.Fault.{Fault}
use Rattle.ht_values.specs.declared.fault.Fault.TheVariants.{TooLong, BadArgument}
use Rattle.ht_values.specs.declared.operator.Func.{Func}
use Rattle.ht_values.specs.declared.operator.Func.TheVariants as func
use Rattle.ht_values.specs.declared.operator.Op.{Op}
use Rattle.ht_values.specs.declared.operator.Op.TheVariants as op
use Rattle.ht_values.specs.declared.operator.UnOp.{UnOp}
use Rattle.ht_values.specs.declared.operator.UnOp.TheVariants as un_op
use Rattle.ht_values.specs.declared.text.TheConstants.{LIMIT}
use Rattle.ht_values.specs.declared.word.ChunkKind.{ChunkKind}
use Rattle.ht_values.specs.declared.word.ChunkKind.TheVariants as kind
use Rattle.ht_values.specs.declared.word.Where.{Where}
use Rattle.ht_values.specs.declared.word.Where.TheVariants as place
use Rattle.ht_values.specs.Functions.{character, built_in, offset}
use Rattle.ht_values.specs.Number.{number_of, is_space}
use Rattle.ht_values.specs.Operators.{in_numerals, in_words, word_of, binary, unary}
use Rattle.ht_values.specs.Outcome.{and_then, within_limit}
use Rattle.ht_values.specs.Text.{IsText, numeral}
use Rattle.object_table.proofs.Empty.{no_bytes}
use Rattle.ht_lex.specs.declared.key.Constant.{Constant}
use Rattle.ht_lex.specs.declared.key.Constant.TheVariants as constant
use Rattle.ht_lex.specs.Constants.{constant_text}
use Rattle.chunks.specs.declared.chunk.Chunk.{Chunk}
use Rattle.chunks.specs.declared.chunk.Span.{Span}
use Rattle.chunks.specs.Pieces.{left, middle, right, middle_of, found, read, count, number_at, stretch, spans}
use Rattle.chunks.specs.Change.{placed, padding, put_at, put_from, put, joined_up, closed_up, removed}
use Rattle.chunks.specs.Laws.{PartsCut}
use Rattle.containers.specs.declared.edit.Edit.{Edit}
use Rattle.containers.specs.declared.edit.Edit.TheVariants.{Put, Alter, Delete}
use Rattle.containers.specs.Edits.{edited}
use Rattle.chunks.specs.Nested.{read_within, put_within, put_changed, removed_within, deleted_within}
use Rattle.whole_states.proofs.TreeTexts.{sliced}

abbrev pub IfText : {E : Type 0} → Result (List ℕ) E → Type 0
IfText o = IfOk o IsText

abbrev pub AreBytes : List ℕ → Type 0
AreBytes t = All (λ b. b < 256) t

-- ---- texts that stand in the definitions

bytes_of : (t : List ℕ) → list_all (λ b. nat_lt b 256) t ≡ true → AllByRecursion (λ b. b < 256) t
bytes_of [] h = tt
bytes_of (b ∷ bs) h = let parts = and_parts (nat_lt b 256) (list_all (λ c. nat_lt c 256) bs) h in
    (ltb-true b 256 parts.0, bytes_of bs parts.1)

pub short_text : (t : List ℕ) → length t ≤ 1000 → AreBytes t → IsText t
short_text t h bytes = record { short = omega (arith, h); bytes = bytes }

pub given_text : (t : List ℕ) → (nat_le (length t) 1000 && list_all (λ b. nat_lt b 256) t) ≡ true → IsText t
given_text t h =
    let parts = and_parts (nat_le (length t) 1000) (list_all (λ b. nat_lt b 256) t) h in
    short_text t (leb-true (length t) 1000 parts.0) (All-from_recursion (λ b. b < 256) t (bytes_of t parts.1))

pub word_text : (b : Bool) → IsText (word_of b)
word_text true = given_text (codes "true") refl
word_text false = given_text (codes "false") refl

pub byte_text : (b : ℕ) → b < 256 → IsText (b ∷ [])
byte_text b h = short_text (b ∷ []) (omega arith) (All-cons (λ c. c < 256) b [] h (All-nil (λ c. c < 256)))

pub constant_is : (c : Constant) → IsText (constant_text c)
constant_is constant.Empty = no_bytes
constant_is constant.Quote = given_text (34 ∷ []) refl
constant_is constant.Space = given_text (32 ∷ []) refl
constant_is constant.Comma = given_text (codes ",") refl
constant_is constant.Colon = given_text (codes ":") refl
constant_is constant.Tab = given_text (9 ∷ []) refl
constant_is constant.LineFeed = given_text (10 ∷ []) refl
constant_is constant.FormFeed = given_text (12 ∷ []) refl
constant_is constant.True = word_text true
constant_is constant.False = word_text false
constant_is constant.Zero = given_text (codes "0") refl
constant_is constant.One = given_text (codes "1") refl
constant_is constant.Two = given_text (codes "2") refl
constant_is constant.Three = given_text (codes "3") refl
constant_is constant.Four = given_text (codes "4") refl
constant_is constant.Five = given_text (codes "5") refl
constant_is constant.Six = given_text (codes "6") refl
constant_is constant.Seven = given_text (codes "7") refl
constant_is constant.Eight = given_text (codes "8") refl
constant_is constant.Nine = given_text (codes "9") refl
constant_is constant.Ten = given_text (codes "10") refl

-- ---- numerals, of 64 digits at most

glyph : (n : ℕ) → digit_glyph false (n % 10) < 256
glyph n = by (nat_lt (n % 10) 10)
  where
    by : (b : Bool) → cond b (48 + n % 10) (87 + n % 10) < 256
    by true = omega arith
    by false = omega arith

digits_are : (k n : ℕ) (acc : List ℕ) → AreBytes acc
    → AreBytes (digits_onto k 10 false n acc) × (length (digits_onto k 10 false n acc) ≤ k + length acc)
digits_are zero n acc h = (h, omega arith)
digits_are (suc k) n acc h = by (n / 10 == 0) (digits_are k (n / 10) (digit_glyph false (n % 10) ∷ acc) more)
  where
    more : AreBytes (digit_glyph false (n % 10) ∷ acc)
    more = All-cons (λ b. b < 256) (digit_glyph false (n % 10)) acc (glyph n) h

    by : (b : Bool) → AreBytes (digits_onto k 10 false (n / 10) (digit_glyph false (n % 10) ∷ acc))
        × (length (digits_onto k 10 false (n / 10) (digit_glyph false (n % 10) ∷ acc))
        ≤ k + length (digit_glyph false (n % 10) ∷ acc)) →
        AreBytes (cond b (digit_glyph false (n % 10) ∷ acc)
        (digits_onto k 10 false (n / 10) (digit_glyph false (n % 10) ∷ acc)))
        × (length (cond b (digit_glyph false (n % 10) ∷ acc)
        (digits_onto k 10 false (n / 10) (digit_glyph false (n % 10) ∷ acc))) ≤ suc k + length acc)
    by true rest = (more, omega arith)
    by false rest = let fits = rest.1 in (rest.0, omega (arith, fits))

pub decimal_are : (n : ℕ) → AreBytes (decimal n) × (length (decimal n) ≤ 64)
unfolding digits
decimal_are n =
    let all = digits_are 64 n [] (All-nil (λ b. b < 256)) in let fits = all.1 in (all.0, omega (arith, fits))

pub decimal_text : (n : ℕ) → IsText (decimal n)
decimal_text n = let all = decimal_are n in let fits = all.1 in short_text (decimal n) (omega (arith, fits)) all.0

pub numeral_text : (z : ℤ) → IsText (numeral z)
numeral_text (pos n) = decimal_text n
numeral_text (negsuc n) =
    let all = decimal_are (suc n) in
    let fits = all.1 in
    short_text (45 ∷ decimal (suc n)) (omega (arith, fits))
    (All-cons (λ b. b < 256) 45 (decimal (suc n)) (omega arith) all.0)

-- ---- operators and functions

pub if_text : (r : Result (List ℕ) Fault) (f : List ℕ → Result (List ℕ) Fault) → IfText r
    → ((t : List ℕ) → IsText t → IfText (f t)) → IfText (and_then r f)
if_text (Ok t) f h k = k t h
if_text (Err fault) f h k = tt

pub numerals_text : (r : Result ℤ Fault) → IfText (in_numerals r)
numerals_text (Ok z) = numeral_text z
numerals_text (Err fault) = tt

pub words_text : (r : Result Bool Fault) → IfText (in_words r)
words_text (Ok b) = word_text b
words_text (Err fault) = tt

pub within_text : (t : List ℕ) → AreBytes t → IfText (within_limit t)
within_text t h = by (nat_le (length t) LIMIT) refl
  where
    by : (b : Bool) → nat_le (length t) LIMIT ≡ b → IfText {E = Fault} (cond b (Ok t) (Err TooLong))
    by true fits = record { short = leb-true (length t) LIMIT fits; bytes = h }
    by false over = tt

pub binary_text : (o : Op) (a b : List ℕ) → IsText a → IsText b → IfText (binary o a b)
unfolding binary
binary_text op.Or a b h k = words_text _
binary_text op.And a b h k = words_text _
binary_text op.Equal a b h k = word_text _
binary_text op.NotEqual a b h k = word_text _
binary_text op.Less a b h k = word_text _
binary_text op.Greater a b h k = word_text _
binary_text op.LessOrEqual a b h k = word_text _
binary_text op.GreaterOrEqual a b h k = word_text _
binary_text op.Contains a b h k = word_text _
binary_text op.IsIn a b h k = word_text _
binary_text op.IsNotIn a b h k = word_text _
binary_text op.Join a b h k = within_text (a ++ b) (All-append (λ c. c < 256) a b h.bytes k.bytes)
binary_text op.JoinSpaced a b h k = within_text (a ++ 32 ∷ b)
    (All-append (λ c. c < 256) a (32 ∷ b) h.bytes (All-cons (λ c. c < 256) 32 b (omega arith) k.bytes))
binary_text op.Add a b h k = numerals_text _
binary_text op.Subtract a b h k = numerals_text _
binary_text op.Multiply a b h k = numerals_text _
binary_text op.Divide a b h k = numerals_text _
binary_text op.Div a b h k = numerals_text _
binary_text op.Mod a b h k = numerals_text _
binary_text op.Power a b h k = numerals_text _

pub unary_text : (o : UnOp) (a : List ℕ) → IfText (unary o a)
unfolding unary
unary_text un_op.Minus a = numerals_text _
unary_text un_op.Not a = words_text _
unary_text (un_op.IsA kind) a = word_text _
unary_text (un_op.IsNotA kind) a = word_text _

character_text : (r : Result ℤ Fault) → IfText (and_then r character)
character_text (Err fault) = tt
character_text (Ok (negsuc n)) = tt
character_text (Ok (pos n)) = by (nat_lt n 256) refl
  where
    by : (b : Bool) → nat_lt n 256 ≡ b → IfText {E = Fault} (cond b (Ok (n ∷ [])) (Err BadArgument))
    by true below = byte_text n (ltb-true n 256 below)
    by false over = tt

pub built_in_text : (f : Func) (vs : List (List ℕ)) → IfText (built_in f vs)
unfolding built_in
built_in_text func.Abs (a ∷ []) = numerals_text _
built_in_text func.Max (a ∷ rest) = numerals_text _
built_in_text func.Min (a ∷ rest) = numerals_text _
built_in_text func.Length (a ∷ []) = numeral_text (pos (length a))
built_in_text func.CharToNum (a ∷ []) = numerals_text _
built_in_text func.NumToChar (a ∷ []) = character_text (number_of a)
built_in_text func.Offset (a ∷ b ∷ []) = numeral_text (pos (offset a b))
built_in_text f vs = tt

-- ---- chunks

pub read_text : (delimiter : ℕ) (c : Chunk) (t : List ℕ) → IsText t → IsText (read delimiter c t)
read_text delimiter c t h = by (found delimiter c t)
  where
    by : (o : Option Span) → IsText (middle_of t o)
    by None = no_bytes
    by (Some s) = sliced t s.start (s.after - s.start) h

pub within_read : (delimiter : ℕ) (cs : List Chunk) (t : List ℕ) → IsText t → IsText (read_within delimiter cs t)
within_read delimiter [] t h = h
within_read delimiter (c ∷ cs) t h = within_read delimiter cs (read delimiter c t) (read_text delimiter c t h)

placed_bytes : (w : Where) (new old : List ℕ) → AreBytes new → AreBytes old → AreBytes (placed w new old)
placed_bytes place.Into new old h k = h
placed_bytes place.Before new old h k = All-append (λ b. b < 256) new old h k
placed_bytes place.After new old h k = All-append (λ b. b < 256) old new k h

padding_bytes : (delimiter : ℕ) (k : ChunkKind) (many first : ℕ) (t : List ℕ) → delimiter < 256
    → AreBytes (padding delimiter k many first t)
padding_bytes delimiter kind.Char many first t h = All-nil (λ b. b < 256)
padding_bytes delimiter kind.Word many first [] h = All-nil (λ b. b < 256)
padding_bytes delimiter kind.Word many first (b ∷ bs) h =
    All-cons (λ b. b < 256) 32 [] (omega arith) (All-nil (λ b. b < 256))
padding_bytes delimiter kind.Item many first t h = All-replicate (λ b. b < 256) _ delimiter h
padding_bytes delimiter kind.Line many first t h = All-replicate (λ b. b < 256) _ 13 (omega arith)

put_at_bytes : (delimiter : ℕ) (k : ChunkKind) (many first : ℕ) (w : Where) (new t : List ℕ) (o : Option Span)
    → delimiter < 256 → AreBytes new → AreBytes t → AreBytes (put_at delimiter k many first w new t o)
put_at_bytes delimiter k many first w new t (Some s) d h a =
    let inside = placed_bytes w new (middle t s) h
    (All-take (λ b. b < 256) (s.after - s.start) (drop s.start t) (All-drop (λ b. b < 256) s.start t a)) in
    let front = All-append (λ b. b < 256) (left t s) (placed w new (middle t s)) (All-take (λ b. b < 256) s.start t a)
    inside in
    All-append (λ b. b < 256) (left t s ++ placed w new (middle t s)) (right t s) front
    (All-drop (λ b. b < 256) s.after t a)
put_at_bytes delimiter k many first w new t None d h a =
    All-append (λ b. b < 256) (t ++ padding delimiter k many first t) new
    (All-append (λ b. b < 256) t (padding delimiter k many first t) a (padding_bytes delimiter k many first t d)) h

if_within : (b : Bool) (fault : Fault) (t : List ℕ) → AreBytes t → IfText (cond b (Err fault) (within_limit t))
if_within true fault t h = tt
if_within false fault t h = within_text t h

put_text : (delimiter : ℕ) (c : Chunk) (w : Where) (new t : List ℕ) → delimiter < 256 → IsText new → IsText t
    → IfText (put delimiter c w new t)
unfolding put
put_text delimiter c w new t d h is =
    let many = count delimiter c.kind t in
    let a = number_at (max many 1) c.from in
    let b = number_at (max many 1) c.to in
    let n = unsigned_abs a in
    let m = unsigned_abs b in
    if_within (int_lt a (pos 1) || int_lt b a) BadArgument (put_from delimiter c.kind n m w new t)
    (put_at_bytes delimiter c.kind many n w new t (stretch (spans delimiter c.kind t) n (min m many)) d h.bytes
    is.bytes)

pub put_within_text : (delimiter : ℕ) (cs : List Chunk) (w : Where) (new t : List ℕ) → delimiter < 256 → IsText new
    → IsText t → IfText (put_within delimiter cs w new t)
put_within_text delimiter [] w new t d h a = within_text (placed w new t) (placed_bytes w new t h.bytes a.bytes)
put_within_text delimiter (c ∷ []) w new t d h a = put_text delimiter c w new t d h a
put_within_text delimiter (c ∷ e ∷ cs) w new t d h a =
    if_text (put_within delimiter (e ∷ cs) w new (read delimiter c t)) (λ part. put delimiter c place.Into part t)
    (put_within_text delimiter (e ∷ cs) w new (read delimiter c t) d h (read_text delimiter c t a))
    (λ part is. put_text delimiter c place.Into part t d is a)

-- ---- deletes

abbrev pub IfDue : {E : Type 0} → Result (Option (List ℕ)) E → Type 0
IfDue o = IfOk o (λ t. IfSome t IsText)

abbrev Fits : List ℕ → List ℕ → Type 0
Fits t u = (length u ≤ length t) × AreBytes u

fits_text : (t u : List ℕ) → IsText t → Fits t u → IsText u
fits_text t u h fits =
    let short = h.short in let less = fits.0 in record { short = omega (arith, short, less); bytes = fits.1 }

joined : (t rest : List ℕ) (s : Span) → s.start ≤ s.after → length rest ≤ length (drop s.after t) → AreBytes t
    → AreBytes rest → Fits t (take s.start t ++ rest)
joined t rest s forward less h k = (
  omega (arith, forward, less, length-append (take s.start t) rest, length-take s.start t, length-drop s.after t),
  All-append (λ b. b < 256) (take s.start t) rest (All-take (λ b. b < 256) s.start t h) k,
)

joined_up_fits : (t after : List ℕ) (s : Span) → s.start ≤ s.after → after ≡ drop s.after t → AreBytes t
    → Fits t (joined_up (take s.start t) after)
joined_up_fits t [] s forward is h =
    let front = take s.start t in (
      omega (arith, length-take (length front - 1) front, length-take s.start t),
      All-take (λ b. b < 256)
          (length front - 1) front (All-take (λ b. b < 256) s.start t h),
    )
joined_up_fits t (d ∷ after) s forward is h =
    let size : length (d ∷ after) ≡ length (drop s.after t) = ap (length {A = ℕ}) is in
    let bytes : AreBytes (d ∷ after) = subst AreBytes (sym is) (All-drop (λ b. b < 256) s.after t h) in
    joined t after s forward (omega (arith, size)) h (All-tail (λ b. b < 256) d after bytes)

closed_fits : (k : ChunkKind) (t : List ℕ) (s : Span) → s.start ≤ s.after → AreBytes t
    → Fits t (closed_up k (left t s) (right t s))
closed_fits kind.Char t s forward h =
    joined t (drop s.after t) s forward (omega arith) h (All-drop (λ b. b < 256) s.after t h)
closed_fits kind.Word t s forward h =
    let n = prefix_len is_space (drop s.after t) in
    joined t (drop n (drop s.after t)) s forward (omega (arith, length-drop n (drop s.after t))) h
    (All-drop (λ b. b < 256) n (drop s.after t) (All-drop (λ b. b < 256) s.after t h))
closed_fits kind.Item t s forward h = joined_up_fits t (drop s.after t) s forward refl h
closed_fits kind.Line t s forward h = joined_up_fits t (drop s.after t) s forward refl h

removed_text : PartsCut → (delimiter : ℕ) (c : Chunk) (t : List ℕ) → IsText t → IfSome (removed delimiter c t) IsText
unfolding removed
removed_text cut delimiter c t h = by (found delimiter c t) refl
  where
    by : (o : Option Span) → found delimiter c t ≡ o
        → IfSome (option_map (λ s. closed_up c.kind (left t s) (right t s)) o) IsText
    by None is = tt
    by (Some s) is = fits_text t (closed_up c.kind (left t s) (right t s)) h
        (closed_fits c.kind t s (cut delimiter c t s is).forward h.bytes)

due_text : (r : Result (List ℕ) Fault) → IfText r → IfDue (and_then r (λ u. Ok (Some u)))
due_text (Ok t) h = h
due_text (Err fault) h = tt

if_due : (r : Result (Option (List ℕ)) Fault) (f : Option (List ℕ) → Result (Option (List ℕ)) Fault) → IfDue r
    → ((t : Option (List ℕ)) → IfSome t IsText → IfDue (f t)) → IfDue (and_then r f)
if_due (Ok t) f h k = k t h
if_due (Err fault) f h k = tt

put_changed_text : (delimiter : ℕ) (c : Chunk) (t : List ℕ) (part : Option (List ℕ)) → delimiter < 256 → IsText t
    → IfSome part IsText → IfDue (put_changed delimiter c t part)
put_changed_text delimiter c t None d a h = tt
put_changed_text delimiter c t (Some part) d a h =
    due_text (put delimiter c place.Into part t) (put_text delimiter c place.Into part t d h a)

removed_within_text : PartsCut → (delimiter : ℕ) (c : Chunk) (cs : List Chunk) (t : List ℕ) → delimiter < 256 → IsText t
    → IfDue (removed_within delimiter c cs t)
removed_within_text cut delimiter c [] t d a = removed_text cut delimiter c t a
removed_within_text cut delimiter c (e ∷ cs) t d a =
    if_due (removed_within delimiter e cs (read delimiter c t)) (λ part. put_changed delimiter c t part)
    (removed_within_text cut delimiter e cs (read delimiter c t) d (read_text delimiter c t a))
    (λ part h. put_changed_text delimiter c t part d a h)

deleted_text : PartsCut → (delimiter : ℕ) (cs : List Chunk) (t : List ℕ) → delimiter < 256 → IsText t
    → IfDue (deleted_within delimiter cs t)
deleted_text cut delimiter [] t d a = tt
deleted_text cut delimiter (c ∷ cs) t d a = removed_within_text cut delimiter c cs t d a

-- ---- edits

abbrev pub EditTexts : Edit → Type 0
EditTexts (Put w new) = IsText new
EditTexts (Alter o operand) = IsText operand
EditTexts Delete = Unit {0}

pub edited_text : PartsCut → (delimiter : ℕ) (cs : List Chunk) (e : Edit) (t : List ℕ) → delimiter < 256 → EditTexts e
    → IsText t → IfDue (edited delimiter cs e t)
edited_text cut delimiter cs (Put w new) t d h a =
    due_text (put_within delimiter cs w new t) (put_within_text delimiter cs w new t d h a)
edited_text cut delimiter cs (Alter o operand) t d h a = altered (binary o (read_within delimiter cs t) operand)
    (binary_text o (read_within delimiter cs t) operand (within_read delimiter cs t a) h)
  where
    altered : (r : Result (List ℕ) Fault) → IfText r
        → IfDue (and_then r (λ v. and_then (put_within delimiter cs place.Into v t) (λ u. Ok (Some u))))
    altered (Ok v) is =
        due_text (put_within delimiter cs place.Into v t) (put_within_text delimiter cs place.Into v t d is a)
    altered (Err fault) is = tt
edited_text cut delimiter cs Delete t d h a = deleted_text cut delimiter cs t d a
