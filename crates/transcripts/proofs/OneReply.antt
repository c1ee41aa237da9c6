-- Two replies to one fresh command, whose turns are told alike, are the same; and so are two references.
use Rattle.std.proofs.Common.{◌≡◌, ℕ, ◌+◌, List, length, Result, Some, sym, ap, subst, ◌∙◌, arith}
use Rattle.externals.specs.Log.{Log}
use Rattle.externals.specs.Turns.{TurnTable}
use Rattle.ht_grammar.specs.Trees as tree
use Rattle.change_journal.specs.History.{History}
use Rattle.meaning.specs.declared.end.Stop.{Stop}
use Rattle.meaning.specs.Meaning.{Refers}
use Rattle.meaning.specs.State.{RunState, fresh_run}
use Rattle.preservation.specs.Laws.{HasMemory}
use Rattle.definitional_interpreter.specs.Families.{Meanings}
use Rattle.definitional_interpreter.specs.Laws.{ActionsAreComputed, ReferencesAreComputed, AreTold, Enough}
use Rattle.definitional_interpreter.specs.Meanings.{meanings}
use Rattle.definitional_interpreter.specs.Told.{Visible, Told, told, seen_since}
use Rattle.definitional_interpreter.specs.Turns.{sorts_of, logs_since}
use Rattle.session.specs.declared.reply.Ending.{Ending}
use Rattle.session.specs.Meaning.{Moment, moment, ending_of, reply_of}
use Rattle.session.proofs.Adding.{answered}
use Rattle.transcripts.specs.Replies.{AreToldBy, RepliesAreOne}
use Rattle.transcripts.proofs.Grown.{Grows, fresh_kept, refers_grow, logs_kept}
use Rattle.transcripts.proofs.Told.{turns_after, told_since, logs_by_since}

-- ---- two runs

told_parts : {A : Type 0} {o p : Result A Stop} {u v : Visible} {r q : RunState} → told o u r ≡ told p v q →
    (o ≡ p) × (u ≡ v) × (r ≡ q)
told_parts e = (cc, cc, cc)

-- two runs begin at one moment, with externals of these kinds
pub record Begin (kinds : List ℕ) (w v : History) : Type 0 where
  pub same : moment v ≡ moment w
  pub sorts : sorts_of w.now.externals ≡ kinds
  pub logs : length w.logs ≡ length kinds

-- where the turns of the logs after them are told alike, and what is told is computed, they come to one thing
module _ {A : Type 0} (table : TurnTable) (turns : ℕ → Log) (kinds : List ℕ) (w v w2 v2 : History) (r2 q2 : RunState)
    (o p : Result A Stop) (F : Visible → Meanings → Told A) where
  abbrev Comes : (ℕ → Log) → History → History → Result A Stop → RunState → Type 0
  Comes turns w w2 o r2 =
      Enough (λ m. F (seen_since table turns w.logs w) m ≡ told o (seen_since table turns w.logs w2) r2)

  outcome : Begin kinds w v → Grows w.logs w2.logs → Grows v.logs v2.logs →
      AreToldBy table turns kinds w2.logs → AreToldBy table turns kinds v2.logs →
      ((left : ℕ → Log) → AreTold table left w w2 → Comes left w w2 o r2) →
      ((left : ℕ → Log) → AreTold table left v v2 → Comes left v v2 p q2) →
      (o ≡ p) × (moment w2 ≡ moment v2) × (r2 ≡ q2)
  outcome begin grown others_grown are others_are first second =
      let left : ℕ → Log = turns_after table turns kinds w.logs in
      let had : v.logs ≡ w.logs = ap (λ (m : Moment). m.logs) begin.same in
      let a = first left (told_since w w2 begin.sorts begin.logs grown are) in
      let b = second left
      (subst (λ (logs : List Log). AreTold table (turns_after table turns kinds logs) v v2) had
      (told_since v v2 (ap (λ (m : Moment). sorts_of m.state.externals) begin.same ∙ begin.sorts)
      (ap length had ∙ begin.logs) others_grown others_are)) in
      let fuel = a.0 + b.0 in
      let begins : seen_since table left v.logs v ≡ seen_since table left w.logs w =
      ap (λ (m : Moment). record { now = m.state; logs = logs_since m.logs m.logs; table = table; turns = left })
      begin.same in
      let parts : (o ≡ p) × (seen_since table left w.logs w2 ≡ seen_since table left v.logs v2) × (r2 ≡ q2) =
      told_parts (sym (a.1 fuel (omega arith)) ∙ ap (λ u. F u (meanings fuel)) (sym begins) ∙ b.1 fuel (omega arith)) in
      let logs : w2.logs ≡ v2.logs =
      logs_by_since w.logs w2.logs v2.logs grown (subst (λ logs. Grows logs v2.logs) had others_grown)
      (ap (λ (u : Visible). u.logs) parts.1 ∙ ap (λ logs. logs_since logs v2.logs) had) in (
        parts.0,
        λ i. record { state = (parts.1 i).now; logs = logs i },
        parts.2,
      )

-- ---- a reference

pub one_reference : ReferencesAreComputed → (table : TurnTable) (turns : ℕ → Log) (kinds : List ℕ) (w v : History)
    {w2 v2 : History} {r r2 q2 : RunState} {pa : tree.Part} {o p : Result ℕ Stop} → Begin kinds w v →
    AreToldBy table turns kinds w2.logs → AreToldBy table turns kinds v2.logs → HasMemory o → HasMemory p →
    Refers w r pa o w2 r2 → Refers v r pa p v2 q2 → (o ≡ p) × (moment w2 ≡ moment v2)
one_reference law table turns kinds w v {w2} {v2} {r} {r2} {q2} {pa} {o} {p} begin are others_are has had a b =
    let one = outcome table turns kinds w v w2 v2 r2 q2 o p (λ u m. m.refers u r pa) begin (refers_grow a has)
    (refers_grow b had) are others_are (λ left told. law table left w w2 r r2 pa o told a has)
    (λ left told. law table left v v2 r q2 pa p told b had) in (one.0, one.1)

-- ---- a fresh command

same_ending : (o p : Result (Unit {0}) Stop) (e f : Ending) → o ≡ p → ending_of o ≡ Some e → ending_of p ≡ Some f
    → e ≡ f
same_ending o p e f same is was = let both : ending_of o ≡ ending_of p = ap ending_of same in cc

same_reply : (r q : RunState) (e f : Ending) → r ≡ q → e ≡ f → reply_of r e ≡ reply_of q f
same_reply r q e f is same = ap (λ r. reply_of r e) is ∙ ap (reply_of q) same

pub one_reply : ActionsAreComputed → RepliesAreOne
one_reply law table turns kinds old steps does reply reply2 new new2 of_kinds are others_are a b =
    let x = a.runs in
    let y = b.runs in
    let has = answered x.ends in
    let had = answered y.ends in
    let begin : Begin kinds a.begin b.begin =
    record {
      same = b.here ∙ sym a.here;
      sorts = ap (λ (m : Moment). sorts_of m.state.externals) a.here ∙ of_kinds.sorts;
      logs = ap (λ (m : Moment). length m.logs) a.here ∙ of_kinds.logs;
    } in
    let one = outcome table turns kinds a.begin b.begin a.end b.end x.run y.run x.end y.end
    (λ u m. m.acts u (fresh_run steps) does) begin (logs_kept (fresh_kept a)) (logs_kept (fresh_kept b))
    (subst (λ (m : Moment). AreToldBy table turns kinds m.logs) a.leaves are)
    (subst (λ (m : Moment). AreToldBy table turns kinds m.logs) b.leaves others_are)
    (λ left told. law table left a.begin a.end (fresh_run steps) x.run does x.end told x.means has)
    (λ left told. law table left b.begin b.end (fresh_run steps) y.run does y.end told y.means had) in
    let ending = same_ending x.end y.end x.ending y.ending one.0 x.ends y.ends in (
      x.answer ∙ same_reply x.run y.run x.ending y.ending one.2 ending ∙ sym y.answer,
      a.leaves ∙ one.1 ∙ sym b.leaves,
    )
