-- Logs that grow by turns that are given.
use Rattle.std.proofs.Common.{◌≡◌, ℕ, ◌<◌, List, [], ◌∷◌, ◌++◌, refl, sym, ap, subst, ◌∙◌, append_assoc, append-nil}
use Rattle.std.proofs.lemmas.List.Elements.{All-append, All-from_recursion}
use Rattle.std.specs.Prelude.{Option, Some, None, IfSome}
use Rattle.externals.specs.Log.{Log, LoggedTurn, IsTurnOf, Follows}
use Rattle.externals.specs.Turns.{Turn, TurnTable}
use Rattle.externals.specs.declared.external.Input.{Input}
use Rattle.change_journal.specs.Logs.{log_at}
use Rattle.totality.specs.Laws.{Behaviour}
use Rattle.transcripts.specs.Laws.{BehavioursFollowTables}
use Rattle.transcripts.specs.Replies.{AreTurnsOf, LogsFollow}

turns_append : (gives : Log → List (List ℕ) → Input → Turn) (log turns more : Log) → AreTurnsOf gives log turns →
    AreTurnsOf gives (log ++ turns) more → AreTurnsOf gives log (turns ++ more)
turns_append gives log [] more first later = subst (λ l. AreTurnsOf gives l more) (append-nil log) later
turns_append gives log (turn ∷ turns) more first later = (
  first.0,
  turns_append gives (log ++ turn ∷ []) turns more first.1
      (subst (λ l. AreTurnsOf gives l more) (sym (append_assoc log (turn ∷ []) turns)) later),
)

pub follows_refl : (behaviour : Behaviour) (logs : List Log) → LogsFollow behaviour logs logs
follows_refl behaviour logs = record {
  count = refl;
  each = λ i there. record { turns = []; log = sym (append-nil (log_at logs i)); given = tt };
}

pub follows_trans : (behaviour : Behaviour) (old mid new : List Log) → LogsFollow behaviour old mid →
    LogsFollow behaviour mid new → LogsFollow behaviour old new
follows_trans behaviour old mid new first later = record {
  count = later.count ∙ first.count;
  each = λ i there.
      let a = first.each i there in
      let b = later.each i (subst (λ n. i < n) (sym first.count) there) in
      let before : Log = log_at old i in
      record {
        turns = a.turns ++ b.turns;
        log = b.log ∙ ap (λ l. l ++ b.turns) a.log ∙ append_assoc before a.turns b.turns;
        given = turns_append (behaviour i) before a.turns b.turns a.given
            (subst (λ l. AreTurnsOf (behaviour i) l b.turns) a.log b.given);
      };
}

-- ---- by a table

-- a turn that is given as the table says
by_table : (due : Option Turn) (given : Turn) (turn : LoggedTurn) → IfSome due (λ t. given ≡ t) →
    given ≡ (turn.ask, turn.cells) → IfSome due (λ t. (turn.ask ≡ t.0) × (turn.cells ≡ t.1))
by_table None given turn says is = tt
by_table (Some t) given turn says is =
    let same : t ≡ (turn.ask, turn.cells) = sym says ∙ is in
    (sym (ap (λ (p : Turn). p.0) same), sym (ap (λ (p : Turn). p.1) same))

turns_follow : (table : TurnTable) (kind : ℕ) (gives : Log → List (List ℕ) → Input → Turn) →
    ((log : Log) (cells : List (List ℕ)) (input : Input) →
    IfSome (table kind cells input) (λ turn. gives log cells input ≡ turn)) → (log turns : Log) →
    AreTurnsOf gives log turns → Follows table kind log → Follows table kind (log ++ turns)
turns_follow table kind gives says log [] given follows = subst (Follows table kind) (sym (append-nil log)) follows
turns_follow table kind gives says log (turn ∷ turns) given follows =
    subst (Follows table kind) (append_assoc log (turn ∷ []) turns)
    (turns_follow table kind gives says (log ++ turn ∷ []) turns given.1
    (All-append (IsTurnOf table kind) log (turn ∷ []) follows one))
  where
    is : IsTurnOf table kind turn
    is = by_table (table kind turn.before turn.input) (gives log turn.before turn.input) turn
        (says log turn.before turn.input) given.0

    one : Follows table kind (turn ∷ [])
    one = All-from_recursion (IsTurnOf table kind) (turn ∷ []) (is, tt)

pub behaviours_follow : BehavioursFollowTables
behaviours_follow table behaviour kind i old new says grown follows =
    subst (Follows table kind) (sym grown.log)
    (turns_follow table kind (behaviour i) says old grown.turns grown.given follows)
