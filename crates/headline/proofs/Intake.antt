-- A run, byte by byte: what is read and not yet answered.
use Rattle.std.proofs.Common.{◌≡◌, ◌≢◌, ℕ, ◌+◌, ◌-◌, ◌<◌, ◌≤◌, ◌⊎◌, inl, inr, true, false, cond, List, [], ◌∷◌, ◌++◌}
use Rattle.std.proofs.Common.{length, map, take, drop, refl, sym, ◌∙◌, ap, subst, arith, append_assoc, length-append}
use Rattle.std.proofs.Common.{length-take, get_or, add-one, drop-cons, Option, Some, None, ◌==◌, slice_index}
use Rattle.std.proofs.Math.Seq.{take-suc}
use Rattle.std.proofs.lemmas.List.{take-append-drop, append-nil, length-map, take_all, length-take-le, take-append-le}
use Rattle.std.proofs.lemmas.List.{nil_from_length}
use Rattle.std.proofs.lemmas.Bool.{lt-ltb, cases_lt}
use Rattle.std.specs.Io.KnownBytes.{Appends, Consumes}
use Rattle.devices.specs.Desks.{SeenDesk}
use Rattle.headline.specs.declared.transcript.TheConstants.{BLOCK, KEPT}
use Rattle.session.specs.declared.limits.TheConstants.{LONGEST_LINE}
use Rattle.headline.specs.declared.limits.TheConstants.{MOST_BYTES, MOST_LINES}
use Rattle.headline.specs.Answers.{answer}
use Rattle.session.specs.TakesLine.{TakesLine}
use Rattle.session.specs.Splits.{IsLine, ended_lines, Splits}
use Rattle.headline.specs.InputLines.{without_return, last_line}
use Rattle.headline.specs.Saving.{Takes}
use Rattle.session.specs.SessionView.{SessionView}
use Rattle.headline.specs.Answering.{is_quit, Answered, OneMore, Finishes, Quits, Breaks, Exceeds}
use Rattle.headline.specs.Intake.{Reached, Broken}
use Rattle.headline.specs.Writing.{IsCut}
use Rattle.stack_text.proofs.Elements.{each_append}
use Rattle.session.proofs.LineFeeds.{ended_lines-snoc}
use Rattle.headline.proofs.Sessions.{mapped-snoc, last_line-some, Answered-snoc}
use Rattle.session.specs.declared.reply.Reply.{Reply}

pub Appends-nothing : (a : Option (List ℕ)) → Appends a a []
Appends-nothing None = tt
Appends-nothing (Some xs) = sym (append-nil xs)

pub Consumes-nothing : (a : Option (List ℕ)) → Consumes a a []
Consumes-nothing None = tt
Consumes-nothing (Some xs) = refl

-- what a line does that is the kept one
pub as_kept : (line kept : List ℕ) (old : SessionView × SeenDesk) (reply : Reply) (new : SessionView × SeenDesk)
    → line ≡ kept → Takes line old reply new → Takes kept old reply new
as_kept line kept old reply new is takes = subst (λ (t : List ℕ). Takes t old reply new) is takes

-- a byte that ends no line goes on with the rest
pub splits_more : (read : List ℕ) (lines : List (List ℕ)) (rest : List ℕ) (b : ℕ) → b ≢ 10 → Splits read lines rest
    → Splits (read ++ b ∷ []) lines (rest ++ b ∷ [])
splits_more read lines rest b ne s = record {
  whole = rw s.whole (append_assoc (ended_lines lines) rest (b ∷ []));
  each = s.each;
  partial = each_append (λ x. x ≢ 10) rest (b ∷ []) s.partial (ne, tt);
}

-- a line feed ends a line
pub splits_ended : (read : List ℕ) (lines : List (List ℕ)) (rest : List ℕ) → Splits read lines rest
    → Splits (read ++ 10 ∷ []) (lines ++ rest ∷ []) []
splits_ended read lines rest s = record {
  whole = rw (s.whole, ended_lines-snoc lines rest)
      (append_assoc (ended_lines lines) rest (10 ∷ []) ∙ sym (append-nil (ended_lines lines ++ (rest ++ 10 ∷ []))));
  each = each_append IsLine lines (rest ∷ []) s.each (s.partial, tt);
  partial = tt;
}

-- the part of the rest that is kept
kept_pushed : (k : ℕ) (pending rest : List ℕ) (b : ℕ) → pending ≡ take k rest → length pending < k
    → pending ++ b ∷ [] ≡ take k (rest ++ b ∷ [])
kept_pushed k pending rest b e lt =
    let size : length pending ≡ length (take k rest) = ap length e in
    let short : length rest < k = omega (arith, size, length-take k rest) in
    let same : take k rest ≡ rest = take_all k rest (omega arith) in
    let more : length (rest ++ b ∷ []) ≤ k = simp length-append (omega arith) in
    rw (e, same) (sym (take_all k (rest ++ b ∷ []) more))

kept_full : (k : ℕ) (pending rest : List ℕ) (b : ℕ) → pending ≡ take k rest → k ≤ length pending
    → pending ≡ take k (rest ++ b ∷ [])
kept_full k pending rest b e le =
    let size : length pending ≡ length (take k rest) = ap length e in
    let long : k ≤ length rest = omega (arith, size, length-take k rest) in
    e ∙ sym (take-append-le k rest (b ∷ []) long)

length-without_return : (line : List ℕ) → length line ≤ length (without_return line) + 1
length-without_return line =
    elim (slice_index line (length line - 1) == 13)
    as (λ b. length line ≤ length (cond b (take (length line - 1) line) line) + 1) [
      | true ↦ omega (arith, length-take (length line - 1) line)
      | false ↦ omega arith
    ]

-- lines that are too long are answered alike
TakesLine-long : (a b : List ℕ) (old : SessionView) (reply : Reply) (new : SessionView) → LONGEST_LINE < length a
    → LONGEST_LINE < length b → TakesLine a old reply new → TakesLine b old reply new
TakesLine-long a b old reply new p q s =
    let done = rw (lt-ltb LONGEST_LINE (length a) p) at s.performed in
    record { number = s.number; steps = s.steps; performed = rw (lt-ltb LONGEST_LINE (length b) q) done }

Takes-long : (a b : List ℕ) (old : SessionView × SeenDesk) (reply : Reply) (new : SessionView × SeenDesk)
    → LONGEST_LINE < length a → LONGEST_LINE < length b → Takes a old reply new → Takes b old reply new
Takes-long a b old reply new p q s =
    let taken = TakesLine-long a b old.0 (record reply { ending = s.ending }) new.0 p q s.taken.takes in
    record {
      ending = s.ending;
      told = s.told;
      taken = record { takes = taken; before = s.taken.before; after = s.taken.after };
      heard = s.heard;
      kept = s.kept;
    }

-- the part that is kept of a line is answered as the line
kept_line : (f : List ℕ → List ℕ) → ((line : List ℕ) → length line ≤ length (f line) + 1) → (k : ℕ) → 30001 < k
    → (pending rest : List ℕ) → pending ≡ take k rest
    → (old : SessionView × SeenDesk) (reply : Reply) (new : SessionView × SeenDesk) → Takes (f pending) old reply new
    → Takes (f rest) old reply new
kept_line f size k big pending rest e old reply new s =
    elim (cases_lt k (length rest)) [
      | inr short ↦ subst (λ (t : List ℕ). Takes (f t) old reply new) (e ∙ take_all k rest short) s
      | inl long ↦
          let kept : length pending ≡ k = ap length e ∙ length-take-le k rest (omega arith) in
          Takes-long (f pending) (f rest) old reply new (omega (arith, size pending)) (omega (arith, size rest)) s
    ]

module _ (old : SessionView × SeenDesk) (read written : List ℕ) (now : SessionView × SeenDesk) (pending : List ℕ)
    (lines bytes : ℕ) (r : Reached old read written now pending lines bytes) where
  -- one byte more, which ends no line
  pub reached_more : (b : ℕ) (pending2 : List ℕ) → b ≢ 10 → lines < MOST_LINES
      → (pending2 ≡ pending ++ b ∷ []) × (length pending < KEPT) ⊎ (pending2 ≡ pending) × (KEPT ≤ length pending)
      → Reached old (read ++ b ∷ []) (written ++ []) now pending2 lines (bytes + 1)
  reached_more b pending2 ne few how = record {
    lines = r.lines;
    rest = r.rest ++ b ∷ [];
    splits = splits_more read r.lines r.rest b ne r.splits;
    answers = subst (λ (t : List ℕ). Answered Takes old (map without_return r.lines) t now) (sym (append-nil written))
        r.answers;
    kept = elim how [
      | inl h ↦ h.0 ∙ kept_pushed KEPT pending r.rest b r.kept h.1
      | inr h ↦ h.0 ∙ kept_full KEPT pending r.rest b r.kept h.1
    ];
    room = inr few;
    lines_counted = r.lines_counted;
    bytes_counted = simp length-append (omega (arith, r.bytes_counted));
  }

  -- the line that a line feed ends, as it is answered
  ended_step : (reply : Reply) (new : SessionView × SeenDesk) → Takes (without_return pending) now reply new
      → Takes (without_return r.rest) now reply new
  ended_step reply new s =
      kept_line without_return length-without_return KEPT (omega arith) pending r.rest r.kept now reply new s

  -- a line feed, and an answer that does not quit
  pub reached_line : (reply : Reply) (new : SessionView × SeenDesk) → Takes (without_return pending) now reply new
      → is_quit reply.ending ≡ false
      → Reached old (read ++ 10 ∷ []) (written ++ answer reply) new [] (lines + 1) (bytes + 1)
  reached_line reply new s q = record {
    lines = r.lines ++ r.rest ∷ [];
    rest = [];
    splits = splits_ended read r.lines r.rest r.splits;
    answers = rw mapped-snoc (Answered-snoc Takes old (map without_return r.lines) written now (without_return r.rest)
        reply new r.answers (ended_step reply new s) q);
    kept = refl;
    room = inl refl;
    lines_counted = simp length-append (omega (arith, r.lines_counted));
    bytes_counted = simp length-append (omega (arith, r.bytes_counted));
  }

  -- a line feed ends one more line
  pub ended_one : (reply : Reply) (new : SessionView × SeenDesk) → lines < MOST_LINES → bytes < MOST_BYTES
      → Takes (without_return pending) now reply new
      → (o : OneMore Takes ⊥ old (read ++ 10 ∷ []) written reply new) × (length o.ahead ≤ 0)
  ended_one reply new few short s =
      let whole : read ++ 10 ∷ [] ≡ ended_lines r.lines ++ (r.rest ++ 10 ∷ []) =
      ap (λ (t : List ℕ). t ++ 10 ∷ []) r.splits.whole ∙ append_assoc (ended_lines r.lines) r.rest (10 ∷ []) in
      let size : length (read ++ 10 ∷ []) ≡ length (ended_lines r.lines ++ (r.rest ++ 10 ∷ [])) = ap length whole in
      let one : length (read ++ 10 ∷ []) ≡ length read + 1 = length-append read (10 ∷ []) in (
        record {
          lines = r.lines;
          bytes = r.rest ++ 10 ∷ [];
          ahead = [];
          whole = whole ∙ ap (λ (t : List ℕ). ended_lines r.lines ++ t) (sym (append-nil (r.rest ++ 10 ∷ [])));
          each = r.splits.each;
          mid = now;
          before = r.answers;
          line = without_return r.rest;
          next = inl (record { before = r.rest; single = r.splits.partial; whole = refl; taken = refl });
          step = ended_step reply new s;
          few_lines = omega (arith, r.lines_counted);
          few_bytes = omega (arith, size, one, r.bytes_counted);
          close = omega arith;
        },
        omega arith,
      )

  pub reached_quit : (reply : Reply) (new : SessionView × SeenDesk) → lines < MOST_LINES → bytes < MOST_BYTES
      → Takes (without_return pending) now reply new → is_quit reply.ending ≡ true
      → (q : Quits Takes ⊥ old (read ++ 10 ∷ []) (written ++ answer reply) new) × (length q.taken.ahead ≤ 0)
  reached_quit reply new few short s q =
      let o = ended_one reply new few short s in
      (record { text = written; reply = reply; taken = o.0; quits = q; sent = refl }, o.1)

  -- a line feed, and an answer of which a part is written
  pub reached_break : (reply : Reply) (sent : List ℕ) (new : SessionView × SeenDesk) → lines < MOST_LINES
      → bytes < MOST_BYTES → Takes (without_return pending) now reply new → IsCut (answer reply) sent
      → Broken 0 old (read ++ 10 ∷ []) (written ++ sent) new
  reached_break reply sent new few short s cut =
      let o = ended_one reply new few short s in
      (record { text = written; reply = reply; taken = o.0; sent = sent; cut = cut; went = refl }, o.1)

  -- as much is read as may be, and a byte follows
  pub reached_full : (all : List ℕ) (byte : ℕ) (ahead : List ℕ) → all ≡ read ++ byte ∷ ahead
      → (lines ≡ MOST_LINES) ⊎ (bytes ≡ MOST_BYTES) → length ahead < BLOCK → Exceeds Takes old all written now
  reached_full all byte ahead e most close = record {
    front = read;
    byte = byte;
    ahead = ahead;
    whole = e;
    stands = record { lines = r.lines; rest = r.rest; splits = r.splits; answers = r.answers };
    most = elim most [ inl h ↦ inl (sym r.lines_counted ∙ h) | inr h ↦ inr (sym r.bytes_counted ∙ h) ];
    close = close;
  }

  -- ---- the end of the input

  some_rest : 0 < length pending → r.rest ≢ []
  some_rest some is =
      let size : length pending ≡ length (take KEPT r.rest) = ap length r.kept in
      let none : length r.rest ≡ 0 = ap length is in
      omega (arith, size, none, length-take KEPT r.rest)

  room_left : 0 < length pending → lines < MOST_LINES
  room_left some = elim r.room [ inl none ↦ absurd (some_rest some none) | inr few ↦ few ]

  last_step : (reply : Reply) (new : SessionView × SeenDesk) → Takes pending now reply new → Takes r.rest now reply new
  last_step reply new s =
      let id : List ℕ → List ℕ = λ t. t in
      kept_line id (λ line. omega arith) KEPT (omega arith) pending r.rest r.kept now reply new s

  -- the last line, which nothing ended
  pub last_one : (reply : Reply) (new : SessionView × SeenDesk) → 0 < length pending → bytes ≤ MOST_BYTES
      → Takes pending now reply new → OneMore Takes (Unit {0}) old read written reply new
  last_one reply new some short s =
      let few : lines < MOST_LINES = room_left some in
      let size : length read ≡ length (ended_lines r.lines ++ r.rest) = ap length r.splits.whole in
      record {
        lines = r.lines;
        bytes = r.rest;
        ahead = [];
        whole = r.splits.whole ∙ ap (λ (t : List ℕ). ended_lines r.lines ++ t) (sym (append-nil r.rest));
        each = r.splits.each;
        mid = now;
        before = r.answers;
        line = r.rest;
        next = inr (record { single = r.splits.partial; some = some_rest some; taken = refl; none = refl; ended = tt });
        step = last_step reply new s;
        few_lines = omega (arith, few, r.lines_counted);
        few_bytes = omega (arith, size, r.bytes_counted);
        close = omega arith;
      }

  pub last_quits : (reply : Reply) (new : SessionView × SeenDesk) → 0 < length pending → bytes ≤ MOST_BYTES
      → Takes pending now reply new → is_quit reply.ending ≡ true
      → Quits Takes (Unit {0}) old read (written ++ answer reply) new
  last_quits reply new some short s q =
      record { text = written; reply = reply; taken = last_one reply new some short s; quits = q; sent = refl }

  pub last_breaks : (reply : Reply) (sent : List ℕ) (new : SessionView × SeenDesk) → 0 < length pending
      → bytes ≤ MOST_BYTES → Takes pending now reply new → IsCut (answer reply) sent
      → Breaks Takes (Unit {0}) old read (written ++ sent) new
  last_breaks reply sent new some short s
      cut = record {
        text = written;
        reply = reply;
        taken = last_one reply new some short s;
        sent = sent;
        cut = cut;
        went = refl;
      }

  pub last_finishes : (reply : Reply) (new : SessionView × SeenDesk) → 0 < length pending → bytes ≤ MOST_BYTES
      → Takes pending now reply new → is_quit reply.ending ≡ false
      → Finishes Takes old read (written ++ answer reply) new
  last_finishes reply new some short s q =
      let few : lines < MOST_LINES = room_left some in
      let one : last_line r.rest ≡ r.rest ∷ [] = last_line-some r.rest (some_rest some) in
      record {
        lines = r.lines;
        rest = r.rest;
        splits = r.splits;
        answers = rw one (Answered-snoc Takes old (map without_return r.lines) written now r.rest reply new r.answers
            (last_step reply new s) q);
        few_lines =
            rw one (simp length-append (omega (arith, few, r.lines_counted, length-map r.lines without_return)));
        few_bytes = omega (arith, r.bytes_counted);
      }

  -- there is no last line
  pub none_finishes : length pending ≡ 0 → lines ≤ MOST_LINES → bytes ≤ MOST_BYTES
      → Finishes Takes old read (written ++ []) now
  none_finishes none few short =
      let size : length pending ≡ length (take KEPT r.rest) = ap length r.kept in
      let no_rest : r.rest ≡ [] = nil_from_length r.rest (omega (arith, size, length-take KEPT r.rest)) in
      record {
        lines = r.lines;
        rest = r.rest;
        splits = r.splits;
        answers =
            rw (no_rest, append-nil, append-nil) r.answers;
        few_lines = rw (no_rest, append-nil) (omega (arith, r.lines_counted, length-map r.lines without_return));
        few_bytes = omega (arith, r.bytes_counted);
      }

-- ---- more bytes behind

one_more_behind : (old : SessionView × SeenDesk) (read text : List ℕ) (reply : Reply) (new : SessionView × SeenDesk)
    (more : List ℕ) (o : OneMore Takes ⊥ old read text reply new) → length o.ahead ≤ 0 → length more < BLOCK
    → (p : OneMore Takes ⊥ old (read ++ more) text reply new) × (length p.ahead ≤ length more)
one_more_behind old read text reply new more o none close =
    let size : length (o.ahead ++ more) ≡ length o.ahead + length more = length-append o.ahead more in (
      record {
        lines = o.lines;
        bytes = o.bytes;
        ahead = o.ahead ++ more;
        whole =
            ap (λ (t : List ℕ). t ++ more) o.whole ∙ append_assoc (ended_lines o.lines) (o.bytes ++ o.ahead) more
            ∙ ap (λ (t : List ℕ). ended_lines o.lines ++ t) (append_assoc o.bytes o.ahead more);
        each = o.each;
        mid = o.mid;
        before = o.before;
        line = o.line;
        next = elim o.next [ inl e ↦ inl e | inr e ↦ absurd e.ended ];
        step = o.step;
        few_lines = o.few_lines;
        few_bytes = o.few_bytes;
        close = omega (arith, size);
      },
      omega (arith, size),
    )

pub Breaks-more : (old : SessionView × SeenDesk) (read written : List ℕ) (new : SessionView × SeenDesk) (more : List ℕ)
    → length more < BLOCK → Broken 0 old read written new → Breaks Takes ⊥ old (read ++ more) written new
Breaks-more old read written new more close (b, none) =
    record {
      text = b.text;
      reply = b.reply;
      taken =
          (one_more_behind old read b.text b.reply new more b.taken none close).0;
      sent =
          b.sent;
      cut = b.cut;
      went = b.went;
    }

pub Quits-more : (old : SessionView × SeenDesk) (read written : List ℕ) (new : SessionView × SeenDesk) (more : List ℕ)
    → length more < BLOCK → (q : Quits Takes ⊥ old read written new) × (length q.taken.ahead ≤ 0)
    → (p : Quits Takes ⊥ old (read ++ more) written new) × (length p.taken.ahead ≤ length more)
Quits-more old read written new more close (q, none) =
    let o = one_more_behind old read q.text q.reply new more q.taken none close in
    (record { text = q.text; reply = q.reply; taken = o.0; quits = q.quits; sent = q.sent }, o.1)

-- a block in three parts
pub block_parts : (read block : List ℕ) (i : ℕ) → i < length block
    → (read ++ take i block) ++ (get_or block i 0 ∷ drop (i + 1) block) ≡ read ++ block
block_parts read block i lt =
    append_assoc read (take i block) (get_or block i 0 ∷ drop (i + 1) block)
    ∙ ap (λ (t : List ℕ). read ++ t)
    (rw add-one (ap (λ (t : List ℕ). take i block ++ t) (sym (drop-cons block i 0 lt)) ∙ take-append-drop i block))

pub block_more : (read block : List ℕ) (i : ℕ) → i < length block
    → (read ++ take i block) ++ (get_or block i 0 ∷ []) ≡ read ++ take (i + 1) block
block_more read block i lt = append_assoc read (take i block) (get_or block i 0 ∷ [])
    ∙ ap (λ (t : List ℕ). read ++ t) (rw add-one (sym (take-suc block i 0 lt)))
