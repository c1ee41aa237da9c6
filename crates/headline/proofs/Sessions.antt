-- Laws of lines and of the answers to them, whatever takes a line.
use Rattle.std.proofs.Common.{◌≡◌, ◌≢◌, ℕ, inl, inr, Bool, true, false, List, [], ◌∷◌, ◌++◌, map, refl, sym, ◌∙◌, ap}
use Rattle.std.proofs.Common.{subst, append_assoc, MatchBool}
use Rattle.std.proofs.lemmas.List.{append-nil, map-append}
use Rattle.std.proofs.lemmas.Bool.{cases_eq}
use Rattle.std.specs.List.{AllByRecursion}
use Rattle.headline.specs.Answers.{answer}
use Rattle.session.specs.Splits.{IsLine, ended_lines, Splits}
use Rattle.headline.specs.InputLines.{AreLines, without_return, last_line, all_lines}
use Rattle.headline.specs.Answering.{is_quit, Answered, Session, OneMore, IsEndedLine, IsLastLine, Stands, Quits}
use Rattle.headline.specs.Answering.{Breaks}
use Rattle.headline.specs.Stops.{Ended, Stopped}
use Rattle.headline.specs.declared.transcript.Ran.{Ran}
use Rattle.headline.specs.declared.transcript.Ran.TheVariants as runs
use Rattle.headline.specs.declared.transcript.RunFault.{RunFault}
use Rattle.headline.specs.declared.transcript.RunFault.TheVariants as faults
use Rattle.session.specs.declared.reply.Reply.{Reply}
use Rattle.stack_text.proofs.Elements.{each_append}
use Rattle.session.proofs.LineFeeds.{ended_lines-append, ended_lines-snoc}

pub mapped-snoc : (lines : List (List ℕ)) (line : List ℕ)
    → map without_return (lines ++ line ∷ []) ≡ map without_return lines ++ without_return line ∷ []
mapped-snoc lines line = map-append without_return lines (line ∷ [])

-- a line that nothing ended counts where it isn't empty
pub last_line-some : (rest : List ℕ) → rest ≢ [] → last_line rest ≡ rest ∷ []
last_line-some [] some = absurd (some refl)
last_line-some (b ∷ bs) some = refl

onto_first : (b : ℕ) (bytes : List ℕ) (lines : List (List ℕ)) (rest : List ℕ) → b ≢ 10 → Splits bytes lines rest
    → (lines2 : List (List ℕ)) × (rest2 : List ℕ) × Splits (b ∷ bytes) lines2 rest2
onto_first b bytes [] rest ne s =
    ([], b ∷ rest, record { whole = ap (λ (t : List ℕ). b ∷ t) s.whole; each = tt; partial = (ne, s.partial) })
onto_first b bytes (l ∷ lines) rest ne
    s = (
      (b ∷ l) ∷ lines,
      rest,
      record {
        whole = ap (λ (t : List ℕ). b ∷ t) s.whole;
        each = ((ne, s.each.0), s.each.1);
        partial = s.partial;
      },
    )

-- a byte in front of some lines and a rest
onto : (b : ℕ) (bytes : List ℕ) → ((lines : List (List ℕ)) × (rest : List ℕ) × Splits bytes lines rest)
    → (lines : List (List ℕ)) × (rest : List ℕ) × Splits (b ∷ bytes) lines rest
onto b bytes (lines, rest, s) =
    elim (cases_eq b 10) [
      | inl is ↦ (
        [] ∷ lines,
        rest,
        record {
          whole = rw is (ap (λ (t : List ℕ). 10 ∷ t) s.whole);
          each = (tt, s.each);
          partial = s.partial;
        },
      )
      | inr isnt ↦ onto_first b bytes lines rest isnt s
    ]

-- bytes are some lines and a rest
pub split_of : (bytes : List ℕ) → (lines : List (List ℕ)) × (rest : List ℕ) × Splits bytes lines rest
split_of [] = ([], [], record { whole = refl; each = tt; partial = tt })
split_of (b ∷ bytes) = onto b bytes (split_of bytes)

-- lines, one that stands out, and others
regrouped : (lines : List (List ℕ)) (line : List ℕ) (others tail : List (List ℕ))
    → map without_return ((lines ++ line ∷ []) ++ others) ++ tail ≡ map without_return lines
    ++ (without_return line ∷ (map without_return others ++ tail))
regrouped lines line others tail =
    let front = map without_return lines in
    ap (λ (t : List (List ℕ)). t ++ tail)
    (map-append without_return (lines ++ line ∷ []) others
    ∙ ap (λ (t : List (List ℕ)). t ++ map without_return others) (mapped-snoc lines line))
    ∙ append_assoc (front ++ without_return line ∷ []) (map without_return others) tail
    ∙ append_assoc front (without_return line ∷ []) (map without_return others ++ tail)

module _ {S : Type 0} (takes : List ℕ → S → Reply → S → Type 0) where
  -- ---- sessions

  pub Answered-snoc : (old : S) (lines : List (List ℕ)) (text : List ℕ) (mid : S) (line : List ℕ) (reply : Reply)
      (new : S)
      → Answered takes old lines text mid → takes line mid reply new → is_quit reply.ending ≡ false
      → Answered takes old (lines ++ line ∷ []) (text ++ answer reply) new
  Answered-snoc old [] text mid line reply new a s
      q = (
        reply,
        new,
        [],
        subst (λ (h : S). takes line h reply new) a.1 s,
        q,
        rw a.0 (sym (append-nil (answer reply))),
        (refl, refl),
      )
  Answered-snoc old (l ∷ lines) text mid line reply new a s q = (
    a.0,
    a.1,
    a.2 ++ answer reply,
    a.3,
    a.4,
    rw a.5 (append_assoc (answer a.0) a.2 (answer reply)),
    Answered-snoc a.1
        lines a.2 mid line reply new a.6 s q,
  )

  pub Answered-Session : (old : S) (lines : List (List ℕ)) (text : List ℕ) (new : S) → Answered takes old lines text new
      → Session takes old lines text new
  Answered-Session old [] text new a = a
  Answered-Session old (l ∷ lines) text new a = (
    a.0,
    a.1,
    a.2,
    a.3,
    a.5,
    (let P : Bool
        → Type 0 = λ b. MatchBool b ((a.2 ≡ []) × (new ≡ a.1)) (Session takes a.1 lines a.2 new) in subst P (sym a.4)
        (Answered-Session a.1 lines a.2 new a.6)),
  )

  pub Session-after : (old : S) (front lines : List (List ℕ)) (text more : List ℕ) (mid new : S)
      → Answered takes old front text mid → Session takes mid lines more new
      → Session takes old (front ++ lines) (text ++ more) new
  Session-after old [] lines text more mid new a s = rw a.0 (subst (λ (h : S). Session takes h lines more new) a.1 s)
  Session-after old (l ∷ front) lines text more mid new a s = (
    a.0,
    a.1,
    a.2 ++ more,
    a.3,
    rw a.5 (append_assoc (answer a.0) a.2 more),
    (let P : Bool → Type 0 = λ b. MatchBool b ((a.2 ++ more ≡ []) × (new ≡ a.1))
        (Session takes a.1 (front ++ lines) (a.2 ++ more) new) in
        subst P (sym a.4) (Session-after a.1 front lines a.2 more mid new a.6 s)),
  )

  -- the first line quits, and no other line matters
  pub Session-quit : (old : S) (line : List ℕ) (lines : List (List ℕ)) (reply : Reply) (new : S)
      → takes line old reply new → is_quit reply.ending ≡ true → Session takes old (line ∷ lines) (answer reply) new
  Session-quit old line lines reply new s q = (
    reply,
    new,
    [],
    s,
    sym (append-nil (answer reply)),
    (let P : Bool → Type 0 = λ b. MatchBool b (◌≡◌ {A = List ℕ} [] [] × (new ≡ new)) (Session takes new lines [] new) in
        subst P (sym q) (refl, refl)),
  )

  -- ---- how a run ends

  -- less is asked of the end of the input
  pub OneMore-by : {P Q : Type 0} (old : S) (read text : List ℕ) (reply : Reply) (new : S) → (P → Q)
      → OneMore takes P old read text reply new → OneMore takes Q old read text reply new
  OneMore-by old read text reply new f o = record {
    lines = o.lines;
    bytes = o.bytes;
    ahead = o.ahead;
    whole = o.whole;
    each = o.each;
    mid = o.mid;
    before = o.before;
    line = o.line;
    next = elim o.next [
      | inl ended ↦ inl ended
      | inr last ↦ inr
          (record {
            single = last.single;
            some = last.some;
            taken = last.taken;
            none = last.none;
            ended = f last.ended;
          })
    ];
    step = o.step;
    few_lines = o.few_lines;
    few_bytes = o.few_bytes;
    close = o.close;
  }

  pub Quits-by : {P Q : Type 0} (old : S) (read written : List ℕ) (new : S) → (P → Q)
      → Quits takes P old read written new → Quits takes Q old read written new
  Quits-by old read written new f
      q = record {
        text = q.text;
        reply = q.reply;
        taken = OneMore-by old read q.text q.reply new f q.taken;
        quits =
            q.quits;
        sent = q.sent;
      }

  pub Ended-by : {P Q : Type 0} (ran : Ran) (old : S) (read written : List ℕ) (new : S) → (P → Q)
      → Ended takes P ran old read written new → Ended takes Q ran old read written new
  Ended-by runs.EndOfInput old read written new f e = (e.0, f e.1)
  Ended-by runs.Quit old read written new f q = Quits-by old read written new f q

  pub Breaks-by : {P Q : Type 0} (old : S) (read written : List ℕ) (new : S) → (P → Q)
      → Breaks takes P old read written new → Breaks takes Q old read written new
  Breaks-by old read written new f
      b = record {
        text = b.text;
        reply = b.reply;
        taken = OneMore-by old read b.text b.reply new f b.taken;
        sent =
            b.sent;
        cut = b.cut;
        went = b.went;
      }

  -- what stopped before the input ended stopped so too whatever its end means
  pub Stopped-by : (ends : Type 0) (e : RunFault) (old : S) (read written : List ℕ) (new : S)
      → Stopped takes ⊥ e old read written new → Stopped takes ends e old read written new
  Stopped-by ends faults.Memory old read written new never = never
  Stopped-by ends faults.Write old read written new b = Breaks-by old read written new (λ no. absurd no) b
  Stopped-by ends faults.Read old read written new s = s
  Stopped-by ends faults.TooManyLines old read written new s = s

  -- ---- the lines of a run that ended

  -- the line that quits was ended by a line feed
  quit_ended : (old : S) (lines : List (List ℕ)) (bytes ahead line text : List ℕ) (mid : S) (reply : Reply) (new : S)
      → AllByRecursion IsLine lines → Answered takes old (map without_return lines) text mid
      → takes line mid reply new → is_quit reply.ending ≡ true → IsEndedLine bytes line
      → (all : List (List ℕ)) × AreLines (ended_lines lines ++ (bytes ++ ahead)) all
      × Session takes old all (text ++ answer reply) new
  quit_ended old lines bytes ahead line text mid reply new each before step quits e =
      let others = split_of ahead in
      let front = lines ++ e.before ∷ [] in
      let behind = map without_return others.0 ++ last_line others.1 in
      let is : bytes ++ ahead ≡ (e.before ++ 10 ∷ []) ++ ahead = ap (λ (t : List ℕ). t ++ ahead) e.whole in
      let taken : takes (without_return e.before) mid reply new =
      subst (λ (t : List ℕ). takes t mid reply new) e.taken step in (
        all_lines (front ++ others.0) others.1,
        record {
          ended = front ++ others.0;
          rest = others.1;
          splits = record {
            whole =
                ap (λ (t : List ℕ). ended_lines lines ++ t) is
                ∙ sym (append_assoc (ended_lines lines) (e.before ++ 10 ∷ []) ahead)
                ∙ ap (λ (t : List ℕ). t ++ ahead) (sym (ended_lines-snoc lines e.before))
                ∙ ap (λ (t : List ℕ). ended_lines front ++ t) others.2.whole
                ∙ sym (append_assoc (ended_lines front) (ended_lines others.0) others.1)
                ∙ ap (λ (t : List ℕ). t ++ others.1) (sym (ended_lines-append front others.0));
            each = each_append IsLine front others.0 (each_append IsLine lines (e.before ∷ []) each (e.single, tt))
                others.2.each;
            partial = others.2.partial;
          };
          all = refl;
        },
        subst (λ (ls : List (List ℕ)). Session takes old ls (text ++ answer reply) new)
            (sym (regrouped lines e.before others.0 (last_line others.1)))
            (Session-after old (map without_return lines) (without_return e.before ∷ behind) text (answer reply) mid new
            before (Session-quit mid (without_return e.before) behind reply new taken quits)),
      )

  -- the input ended it
  quit_last : (ends : Type 0) (old : S) (lines : List (List ℕ)) (bytes ahead line text : List ℕ) (mid : S)
      (reply : Reply) (new : S) → AllByRecursion IsLine lines → Answered takes old (map without_return lines) text mid
      → takes line mid reply new → is_quit reply.ending ≡ true → IsLastLine ends bytes line ahead
      → (all : List (List ℕ)) × AreLines (ended_lines lines ++ (bytes ++ ahead)) all
      × Session takes old all (text ++ answer reply) new
  quit_last ends old lines bytes ahead line text mid reply new each before step quits e =
      let taken : takes bytes mid reply new = subst (λ (t : List ℕ). takes t mid reply new) e.taken step in (
        all_lines lines bytes,
        record {
          ended = lines;
          rest = bytes;
          splits = record {
            whole = ap (λ (t : List ℕ). ended_lines lines ++ t)
                (ap (λ (t : List ℕ). bytes ++ t) e.none ∙ append-nil bytes);
            each = each;
            partial = e.single;
          };
          all = refl;
        },
        subst (λ (ls : List (List ℕ)). Session takes old (map without_return lines ++ ls) (text ++ answer reply) new)
            (sym (last_line-some bytes e.some))
            (Session-after old (map without_return lines) (bytes ∷ []) text (answer reply) mid new before
            (Session-quit mid bytes [] reply new taken quits)),
      )

  quit_lines : (ends : Type 0) (old : S) (read written : List ℕ) (new : S) → Quits takes ends old read written new
      → (all : List (List ℕ)) × AreLines read all × Session takes old all written new
  quit_lines ends old read written new q =
      let o = q.taken in
      let by_line : (all : List (List ℕ)) × AreLines (ended_lines o.lines ++ (o.bytes ++ o.ahead)) all
      × Session takes old all (q.text ++ answer q.reply) new = elim o.next [
        | inl e ↦ quit_ended old o.lines o.bytes o.ahead o.line q.text o.mid q.reply new o.each o.before o.step q.quits
            e
        | inr e ↦ quit_last ends old o.lines o.bytes o.ahead o.line q.text o.mid q.reply new o.each o.before o.step
            q.quits e
      ] in (
        by_line.0,
        subst (λ (t : List ℕ). AreLines t by_line.0) (sym o.whole) by_line.1,
        subst
            (λ (t : List ℕ). Session takes old by_line.0 t new) (sym q.sent) by_line.2,
      )

  -- what is written is the answers to the lines that are read
  pub run_lines : (ends : Type 0) (ran : Ran) (old : S) (read written : List ℕ) (new : S)
      → Ended takes ends ran old read written new
      → (all : List (List ℕ)) × AreLines read all × Session takes old all written new
  run_lines ends runs.EndOfInput old read written new e =
      let f = e.0 in (
        all_lines f.lines f.rest,
        record { ended = f.lines; rest = f.rest; splits = f.splits; all = refl },
        Answered-Session old
            (all_lines f.lines f.rest) written new f.answers,
      )
  run_lines ends runs.Quit old read written new q = quit_lines ends old read written new q

-- ---- from one way to take lines to another

module _ {S U : Type 0} (takes : List ℕ → S → Reply → S → Type 0) (other : List ℕ → U → Reply → U → Type 0) (f : S → U)
    (follow : (line : List ℕ) (old : S) (reply : Reply) (new : S) → takes line old reply new
    → other line (f old) reply (f new)) where
  answered : (old : S) (lines : List (List ℕ)) (text : List ℕ) (new : S) → Answered takes old lines text new
      → Answered other (f old) lines text (f new)
  answered old [] text new a = (a.0, ap f a.1)
  answered old (l ∷ lines) text new a =
      (a.0, f a.1, a.2, follow l old a.0 a.1 a.3, a.4, a.5, answered a.1 lines a.2 new a.6)

  one_more : (ends : Type 0) (old : S) (read text : List ℕ) (reply : Reply) (new : S)
      → OneMore takes ends old read text reply new → OneMore other ends (f old) read text reply (f new)
  one_more ends old read text reply new o = record {
    lines = o.lines;
    bytes = o.bytes;
    ahead = o.ahead;
    whole = o.whole;
    each = o.each;
    mid = f o.mid;
    before = answered old (map without_return o.lines) text o.mid o.before;
    line = o.line;
    next = o.next;
    step = follow o.line o.mid reply new o.step;
    few_lines = o.few_lines;
    few_bytes = o.few_bytes;
    close = o.close;
  }

  pub ended_follows : (ends : Type 0) (ran : Ran) (old : S) (read written : List ℕ) (new : S)
      → Ended takes ends ran old read written new → Ended other ends ran (f old) read written (f new)
  ended_follows ends runs.EndOfInput old read written new e =
      let h = e.0 in (
        record {
          lines = h.lines;
          rest = h.rest;
          splits = h.splits;
          answers = answered old (all_lines h.lines h.rest)
              written new h.answers;
          few_lines = h.few_lines;
          few_bytes = h.few_bytes;
        },
        e.1,
      )
  ended_follows ends runs.Quit old read written new q =
      record {
        text = q.text;
        reply = q.reply;
        taken = one_more ends old read q.text q.reply new q.taken;
        quits =
            q.quits;
        sent = q.sent;
      }

  stands : (old : S) (read written : List ℕ) (new : S) → Stands takes old read written new
      → Stands other (f old) read written (f new)
  stands old read written new s = record {
    lines = s.lines;
    rest = s.rest;
    splits = s.splits;
    answers = answered old
        (map without_return s.lines) written new s.answers;
  }

  breaks : (ends : Type 0) (old : S) (read written : List ℕ) (new : S) → Breaks takes ends old read written new
      → Breaks other ends (f old) read written (f new)
  breaks ends old read written new
      b = record {
        text = b.text;
        reply = b.reply;
        taken = one_more ends old read b.text b.reply new b.taken;
        sent =
            b.sent;
        cut = b.cut;
        went = b.went;
      }

  pub stopped_follows : (ends : Type 0) (fault : RunFault) (old : S) (read written : List ℕ) (new : S)
      → Stopped takes ends fault old read written new → Stopped other ends fault (f old) read written (f new)
  unfolding stands
  stopped_follows ends faults.Memory old read written new never =
      record { unread = never.unread; unwritten = never.unwritten; same = ap f never.same }
  stopped_follows ends faults.Write old read written new b = breaks ends old read written new b
  stopped_follows ends faults.Read old read written new s = stands old read written new s
  stopped_follows ends faults.TooManyLines old read written new e =
      record {
        front = e.front;
        byte = e.byte;
        ahead = e.ahead;
        whole = e.whole;
        stands = stands old e.front written new
            e.stands;
        most = e.most;
        close = e.close;
      }
