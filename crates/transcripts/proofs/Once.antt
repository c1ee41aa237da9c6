-- A line is taken in one way, by the turns of the externals.
use Rattle.std.proofs.Common.{◌≡◌, ◌⊎◌, inl, inr, ℕ, List, [], ◌∷◌, ◌++◌, Bool, true, false, Option, Some, None, Result}
use Rattle.std.proofs.Common.{Ok, refl, sym, ap, subst, ◌∙◌, append_assoc, true≢false, MatchBool, length, nat_lt}
use Rattle.std.specs.List.{AllByRecursion}
use Rattle.std.proofs.lemmas.Option.{same_Some}
use Rattle.externals.specs.Log.{Log}
use Rattle.externals.specs.Turns.{TurnTable}
use Rattle.ht_grammar.specs.Laws.{TextsAreReadExactly}
use Rattle.ht_grammar.specs.Trees as tree
use Rattle.journal_entries.specs.State.{State}
use Rattle.change_journal.specs.History.{History}
use Rattle.meaning.specs.declared.end.Stop.{Stop}
use Rattle.meaning.specs.Actions as act
use Rattle.meaning.specs.Actions.{Action, locks_text}
use Rattle.meaning.specs.Locked.{MeetsLock}
use Rattle.meaning.specs.Meaning.{Refers, TypesInto, Acts}
use Rattle.meaning.specs.State.{RunState, fresh_run}
use Rattle.preservation.specs.Laws.{HasMemory}
use Rattle.preservation.proofs.Ends.{stopped}
use Rattle.definitional_interpreter.specs.Laws.{ReferencesAreComputed}
use Rattle.definitional_interpreter.specs.Turns.{sorts_of}
use Rattle.totality.proofs.Commands.{no_value}
use Rattle.session.specs.Commands.{ReadsAction, typing, is_dot_line, command_in, behind_name, second as second_word}
use Rattle.session.specs.Commands.{words}
use Rattle.session.specs.declared.command.Command.{Command}
use Rattle.session.specs.declared.command.Command.TheVariants.{Undo, Redo, UndoTo, Show, Globals, Where, Cells}
use Rattle.session.specs.declared.command.Command.TheVariants.{History as HistoryCommand, Save, Act, Quit}
use Rattle.session.specs.declared.command.Reading.{Reading}
use Rattle.session.specs.declared.command.Reading.TheVariants.{Lines, Opening, Reference, Typing}
use Rattle.session.specs.declared.limits.TheConstants.{LONGEST_LINE}
use Rattle.session.specs.declared.reply.Ending.TheVariants as endings
use Rattle.session.specs.declared.reply.Refusal.{Refusal}
use Rattle.session.specs.declared.reply.Refusal.TheVariants.{NoMemory, LineTooLong}
use Rattle.session.specs.declared.reply.Reply.{Reply}
use Rattle.session.specs.Meaning.{Moment, moment, Fresh, Locked}
use Rattle.session.specs.Replies.{Refuses, Obeys, Moves, Looks, ShowsStack, ShowsCells, cells_named}
use Rattle.session.specs.Splits.{IsLine, Splits, ended_lines}
use Rattle.session.proofs.Adding.{answered}
use Rattle.headline.specs.Headline.{Snapshot, Timeline, IsPresent, followed_by, moment_in, Replaces, KeepsOut, Commands}
use Rattle.headline.specs.Headline.{Does, DoesLine, line_counted, LineMoves}
use Rattle.transcripts.specs.Laws.{HasKinds}
use Rattle.transcripts.specs.Replies.{IsOfKinds, AreToldBy, RepliesAreOne}
use Rattle.transcripts.proofs.Grown.{tells_grow, typing_grows}
use Rattle.transcripts.proofs.Kept.{HasRoom, refused_room, of_each}
use Rattle.transcripts.proofs.OneReply.{Begin, one_reference}
use Rattle.transcripts.proofs.Told.{told_before}

-- two replies with what they leave are the same
abbrev pub Same : {S : Type 0} → Reply → S → Reply → S → Type 0
Same reply new reply2 new2 = (reply ≡ reply2) × (new ≡ new2)

one_refusal : {x : Refusal} {old : Timeline} {reply reply2 : Reply} {new new2 : Timeline} → Refuses x old reply new →
    Refuses x old reply2 new2 → Same reply new reply2 new2
one_refusal a b = (a.answer ∙ sym b.answer, a.same ∙ sym b.same)

one_move : {reply reply2 : Reply} {new new2 : Timeline} (x : Refusal) (old : Timeline) (there : Option Timeline) →
    Moves there x old reply new → Moves there x old reply2 new2 → Same reply new reply2 new2
one_move x old (Some t) a b = (a.0 ∙ sym b.0, a.1 ∙ sym b.1)
one_move x old None a b = one_refusal a b

-- what isn't refused for memory
roomy : {P : Type 0} {old : Timeline} {reply : Reply} {new : Timeline} → P ⊎ Refuses NoMemory old reply new →
    HasRoom reply → P
roomy (inl p) room = p
roomy (inr refuses) room = absurd (refused_room refuses room)

one_look : {shown : List (List ℕ)} {old : Timeline} {reply reply2 : Reply} {new new2 : Timeline} →
    Looks shown old reply new → Looks shown old reply2 new2 → Same reply new reply2 new2
one_look a b = (a.answer ∙ sym b.answer, a.same ∙ sym b.same)

one_show_of_cells : {reply reply2 : Reply} {new new2 : Timeline} (old : Timeline) (cells : Option (List (List ℕ))) →
    ShowsCells cells old reply new → ShowsCells cells old reply2 new2 → HasRoom reply → HasRoom reply2 →
    Same reply new reply2 new2
one_show_of_cells old (Some cells) a b room room2 = one_look (roomy a room) (roomy b room2)
one_show_of_cells old None a b room room2 = one_refusal a b

-- ---- lines of a text

first_line : (l m : List ℕ) (xs ys : List ℕ) → IsLine l → IsLine m → (l ++ 10 ∷ []) ++ xs ≡ (m ++ 10 ∷ []) ++ ys →
    (l ≡ m) × (xs ≡ ys)
first_line [] [] xs ys p q e = (refl, cc)
first_line [] (c ∷ m) xs ys p q e = let it : c ≡ 10 = cc in absurd (q.0 it)
first_line (b ∷ l) [] xs ys p q e = let it : b ≡ 10 = cc in absurd (p.0 it)
first_line (b ∷ l) (c ∷ m) xs ys p q e =
    let heads : b ≡ c = cc in
    let tails : (l ++ 10 ∷ []) ++ xs ≡ (m ++ 10 ∷ []) ++ ys = cc in
    let rest = first_line l m xs ys p.1 q.1 tails in (ap (λ h. h ∷ l) heads ∙ ap (λ t. c ∷ t) rest.0, rest.1)

-- a line feed stands in no line
no_feed : (m xs rest : List ℕ) → IsLine rest → rest ≡ (m ++ 10 ∷ []) ++ xs → ⊥
no_feed [] xs [] p e = cc
no_feed [] xs (b ∷ rest) p e = let it : b ≡ 10 = cc in absurd (p.0 it)
no_feed (c ∷ m) xs [] p e = cc
no_feed (c ∷ m) xs (b ∷ rest) p e = let tails : rest ≡ (m ++ 10 ∷ []) ++ xs = cc in no_feed m xs rest p.1 tails

one_list_of_lines : (ls ms : List (List ℕ)) (rest rest2 : List ℕ) → AllByRecursion IsLine ls →
    AllByRecursion IsLine ms → IsLine rest → IsLine rest2 → ended_lines ls ++ rest ≡ ended_lines ms ++ rest2 →
    (ls ≡ ms) × (rest ≡ rest2)
one_list_of_lines [] [] rest rest2 p q r t e = (refl, e)
one_list_of_lines [] (m ∷ ms) rest rest2 p q r t e =
    absurd (no_feed m _ rest r (e ∙ append_assoc (m ++ 10 ∷ []) (ended_lines ms) rest2))
one_list_of_lines (l ∷ ls) [] rest rest2 p q r t e =
    absurd (no_feed l _ rest2 t (sym e ∙ append_assoc (l ++ 10 ∷ []) (ended_lines ls) rest))
one_list_of_lines (l ∷ ls) (m ∷ ms) rest rest2 p q r t e =
    let both =
    first_line l m (ended_lines ls ++ rest) (ended_lines ms ++ rest2) p.0 q.0
    (sym (append_assoc (l ++ 10 ∷ []) (ended_lines ls) rest) ∙ e ∙ append_assoc (m ++ 10 ∷ []) (ended_lines ms) rest2)
    in
    let others = one_list_of_lines ls ms rest rest2 p.1 q.1 r t both.1 in
    (ap (λ h. h ∷ ls) both.0 ∙ ap (λ t. m ∷ t) others.0, others.1)

-- bytes have one list of lines
pub one_split : {bytes : List ℕ} {ls ms : List (List ℕ)} {rest rest2 : List ℕ} → Splits bytes ls rest →
    Splits bytes ms rest2 → (ls ≡ ms) × (rest ≡ rest2)
one_split {ls = ls} {ms} {rest} {rest2} a b =
    one_list_of_lines ls ms rest rest2 a.each b.each a.partial b.partial (sym a.whole ∙ b.whole)

one_show : (state : State) {old : Timeline} {reply reply2 : Reply} {new new2 : Timeline} →
    ShowsStack state old reply new → ShowsStack state old reply2 new2 → Same reply new reply2 new2
one_show state {reply = reply} {reply2 = reply2} a b =
    let shown : reply.shown ≡ reply2.shown = (one_split a.lines b.lines).0 in (
      a.look.answer ∙ ap (λ lines. record { shown = lines; sent = []; ending = endings.Ok }) shown ∙ sym
          b.look.answer,
      a.look.same ∙ sym b.look.same,
    )

-- ---- a fresh command

-- two runs from one moment, whose turns are told alike
module _ (references : ReferencesAreComputed) (table : TurnTable) (turns : ℕ → Log) (kinds : List ℕ) (w v : History)
    (begin : Begin kinds w v) where
  abbrev Told : History → Type 0
  Told w2 = AreToldBy table turns kinds w2.logs

  -- a field that two references find is locked for both
  is_locked : {w1 v2 : History} {r r1 q2 : RunState} {pa : tree.Part} {i field : ℕ} → Told w1 → Told v2 →
      Refers w r pa (Ok i) w1 r1 → Refers v r pa (Ok field) v2 q2 → locks_text w1.now.stack i ≡ false →
      locks_text v2.now.stack field ≡ true → ⊥
  is_locked {w1} {v2} {i = i} {field} are others_are a b unlocked locked =
      let both = one_reference references table turns kinds w v begin are others_are (λ e. cc) (λ e. cc) a b in
      let field_is : i ≡ field = cc in
      true≢false (sym locked ∙ ap (λ (m : Moment). locks_text m.state.stack field) (sym both.1)
      ∙ ap (locks_text w1.now.stack) (sym field_is) ∙ unlocked)

  -- a text that is typed into a field which was locked when it was found
  typed_unlocked : {w2 v2 : History} {r r2 q2 : RunState} {t : List ℕ} {pa : tree.Part} {field : ℕ}
      {o : Result (Unit {0}) Stop} → Told w2 → Told v2 → HasMemory o → TypesInto w r t pa o w2 r2 →
      Refers v r pa (Ok field) v2 q2 → locks_text v2.now.stack field ≡ true → ⊥
  typed_unlocked are others_are has TypesInto.type_memory found locked = has refl
  typed_unlocked are others_are has (TypesInto.type_misses {z = z} g) found locked =
      let both = one_reference references table turns kinds w v begin are others_are (stopped has) (λ e. cc) g
      found in no_value both.0
  typed_unlocked are others_are has (TypesInto.field_open_stops {w1 = w1} {w2 = w2} g unlocked rest) found locked =
      is_locked (told_before table turns kinds w1.logs w2.logs (tells_grow rest has) are) others_are g found unlocked
      locked
  typed_unlocked are others_are has
      (TypesInto.types_into {w1 = w1} {w2 = w2} {w3 = w3} g unlocked opens here over) found locked =
      is_locked
      (told_before table turns kinds w1.logs w2.logs (tells_grow opens (λ e. cc))
      (told_before table turns kinds w2.logs w3.logs (typing_grows over has) are)) others_are g found unlocked locked

  -- two that find a locked field leave the same
  one_lock : (w2 v2 : History) (r r2 q2 : RunState) (ac : Action) → Told w2 → Told v2 → MeetsLock w r ac w2 r2 →
      MeetsLock v r ac v2 q2 → moment w2 ≡ moment v2
  one_lock w2 v2 r r2 q2 (act.type_text text reference) are others_are (field, found, locked)
      (field2, found2, locked2) =
      (one_reference references table turns kinds w v begin are others_are (λ e. cc) (λ e. cc) found found2).1
  one_lock w2 v2 r r2 q2 (act.run_lines ss) are others_are a b = absurd a
  one_lock w2 v2 r r2 q2 act.open_stack are others_are a b = absurd a
  one_lock w2 v2 r r2 q2 (act.click pa) are others_are a b = absurd a

  -- a command that has memory isn't one for a locked field
  fresh_is_unlocked : {w2 : History} {r r2 : RunState} (v2 : History) (q2 : RunState) (ac : Action)
      {o : Result (Unit {0}) Stop} → Told w2 → Told v2 → HasMemory o → Acts w r ac o w2 r2 → MeetsLock v r ac v2 q2 → ⊥
  fresh_is_unlocked {w2} {r} {r2} v2 q2 (act.type_text text reference) {o} are others_are has
      (Acts.acts_by_typing {t = t} {pa = pa} p typed) (field, found, locked) =
      let part : pa ≡ reference = cc in
      typed_unlocked are others_are has (subst (λ pa. TypesInto w r t pa o w2 r2) part typed) found locked
  fresh_is_unlocked v2 q2 (act.type_text text reference) are others_are has (Acts.acts_by_lines p line) lock = cc
  fresh_is_unlocked v2 q2 (act.type_text text reference) are others_are has (Acts.acts_by_opening p sent) lock = cc
  fresh_is_unlocked v2 q2 (act.type_text text reference) are others_are has (Acts.acts_by_click p clicked) lock = cc
  fresh_is_unlocked v2 q2 (act.run_lines ss) are others_are has acts lock = absurd lock
  fresh_is_unlocked v2 q2 act.open_stack are others_are has acts lock = absurd lock
  fresh_is_unlocked v2 q2 (act.click pa) are others_are has acts lock = absurd lock

-- ---- a line

one_action : TextsAreReadExactly → (reading : Reading) (text : List ℕ) {does does2 : Action} → ReadsAction reading text
    does → ReadsAction reading text does2 → does ≡ does2
one_action texts Lines text (tree, reads, is) (tree2, reads2, is2) = is ∙ ap act.run_lines
    (texts.one_list_of_lines text tree tree2 reads reads2) ∙ sym is2
one_action texts Opening text is is2 = is ∙ sym is2
one_action texts Reference text (tree, reads, is) (tree2, reads2, is2) = is ∙ ap act.click
    (texts.one_part text tree tree2 reads reads2) ∙ sym is2
one_action texts Typing text (tree, reads, is) (tree2, reads2, is2) = is ∙ ap typing
    (texts.one_typing text tree tree2 reads reads2) ∙ sym is2

-- what the two laws below give a line
pub record Laws : Type 0 where
  pub texts : TextsAreReadExactly
  pub replies : RepliesAreOne
  pub references : ReferencesAreComputed

same_state : (t : Timeline) {s u : State} → IsPresent s t → IsPresent u t → s ≡ u
same_state t a b = ap (λ (s : Snapshot). s.state) (same_Some _ _ (sym a.1 ∙ b.1))

-- the turns of the externals after a line are told
module _ (laws : Laws) (table : TurnTable) (turns : ℕ → Log) (kinds : List ℕ) where
  abbrev Tells : Timeline → Type 0
  Tells t = AreToldBy table turns kinds t.logs

  fresh_or_locked : {old : Moment} {steps : ℕ} (does : Action) {reply : Reply} {new : Moment} {logs : List Log} →
      IsOfKinds kinds old → AreToldBy table turns kinds new.logs → AreToldBy table turns kinds logs →
      Fresh old steps does reply new → Locked old steps does logs → ⊥
  fresh_or_locked does of_kinds are others_are fresh locked =
      fresh_is_unlocked laws.references table turns kinds fresh.begin locked.begin
      (record {
        same = locked.here ∙ sym fresh.here;
        sorts = ap (λ (m : Moment). sorts_of m.state.externals) fresh.here ∙ of_kinds.sorts;
        logs = ap (λ (m : Moment). length m.logs) fresh.here ∙ of_kinds.logs;
      }) locked.end locked.run does
      (subst (λ (m : Moment). AreToldBy table turns kinds m.logs) fresh.leaves are)
      (subst (AreToldBy table turns kinds) locked.leaves others_are) (answered fresh.runs.ends) fresh.runs.means
      locked.meets

  one_locked : {old : Moment} {steps : ℕ} (does : Action) {logs logs2 : List Log} → IsOfKinds kinds old →
      AreToldBy table turns kinds logs → AreToldBy table turns kinds logs2 → Locked old steps does logs →
      Locked old steps does logs2 → logs ≡ logs2
  one_locked {steps = steps} does of_kinds are others_are a b =
      a.leaves
      ∙ ap (λ (m : Moment). m.logs)
      (one_lock laws.references table turns kinds a.begin b.begin
      (record {
        same = b.here ∙ sym a.here;
        sorts = ap (λ (m : Moment). sorts_of m.state.externals) a.here ∙ of_kinds.sorts;
        logs = ap (λ (m : Moment). length m.logs) a.here ∙ of_kinds.logs;
      }) a.end b.end (fresh_run steps) a.run b.run does (subst (AreToldBy table turns kinds) a.leaves are)
      (subst (AreToldBy table turns kinds) b.leaves others_are) a.meets b.meets) ∙ sym b.leaves

  -- two lists that come after one, in which the command begins with this state
  record Alike (state : State) (old new new2 : Timeline) : Type 0 where
    of_kinds : IsOfKinds kinds (moment_in state old)
    first : Tells new
    second : Tells new2

  one_deed : (does : Action) (state : State) (old : Timeline) {reply reply2 : Reply} {new new2 : Timeline} →
      Alike state old new new2 → Replaces does state old reply new ⊎ KeepsOut does state old reply new →
      Replaces does state old reply2 new2 ⊎ KeepsOut does state old reply2 new2 → Same reply new reply2 new2
  one_deed does state old {reply} {reply2} alike (inl a) (inl b) =
      let both = laws.replies table turns kinds (moment_in state old) old.steps does reply reply2 a.after b.after
      alike.of_kinds (subst Tells a.list alike.first) (subst Tells b.list alike.second) a.allowed b.allowed in
      (both.0, a.list ∙ ap (followed_by old) both.1 ∙ sym b.list)
  one_deed does state old alike (inl a) (inr b) =
      absurd (fresh_or_locked does alike.of_kinds (subst Tells a.list alike.first)
      (subst Tells b.refuses.same alike.second) a.allowed b.locked)
  one_deed does state old alike (inr a) (inl b) =
      absurd (fresh_or_locked does alike.of_kinds (subst Tells b.list alike.second)
      (subst Tells a.refuses.same alike.first) b.allowed a.locked)
  one_deed does state old alike (inr a) (inr b) =
      let same = one_locked does alike.of_kinds (subst Tells a.refuses.same alike.first)
      (subst Tells b.refuses.same alike.second) a.locked b.locked in (
        a.refuses.answer ∙ sym b.refuses.answer,
        a.refuses.same ∙ ap (λ logs. record old { logs = logs }) same ∙ sym b.refuses.same,
      )

  one_command : (reading : Reading) (text : List ℕ) (state : State) (old : Timeline) {reply reply2 : Reply}
      {new new2 : Timeline} → Alike state old new new2
      → Commands reading text state old reply new → Commands reading text state old reply2 new2 → HasRoom reply →
      HasRoom reply2 → Same reply new reply2 new2
  one_command reading text state old {reply} {reply2} {new} {new2} alike (Obeys.obeys {does = does} reads done)
      (Obeys.obeys {does = does2} reads2 done2) room room2 =
      one_deed does state old alike done
      (subst (λ does. Replaces does state old reply2 new2 ⊎ KeepsOut does state old reply2 new2)
      (one_action laws.texts reading text reads2 reads) done2)
  one_command reading text state old alike (Obeys.obeys {does = does} reads done) (Obeys.nothing none refuses) room
      room2 = absurd (none does reads)
  one_command reading text state old alike (Obeys.nothing none refuses) (Obeys.obeys {does = does} reads done) room
      room2 = absurd (none does reads)
  one_command reading text state old alike (Obeys.nothing none refuses) (Obeys.nothing none2 refuses2) room room2 =
      one_refusal refuses refuses2
  one_command reading text state old alike (Obeys.given_up refuses) b room room2 = absurd
      (refused_room refuses room)
  one_command reading text state old alike (Obeys.obeys reads done) (Obeys.given_up refuses) room room2 = absurd
      (refused_room refuses room2)
  one_command reading text state old alike (Obeys.nothing none refuses) (Obeys.given_up refuses2) room room2 =
      absurd (refused_room refuses2 room2)

  one_dot_line : (line : List ℕ) (command : Option Command) (state : State) (old : Timeline)
      {reply reply2 : Reply} {new new2 : Timeline} → Alike state old new new2
      → Does line command state old reply new → Does line command state old reply2 new2 → HasRoom reply →
      HasRoom reply2 →
      Same reply new reply2 new2
  one_dot_line line None state old alike a b room room2 = one_refusal a b
  one_dot_line line (Some (Undo k)) state old alike a b room room2 = one_move _ old _ a b
  one_dot_line line (Some (Redo k)) state old alike a b room room2 = one_move _ old _ a b
  one_dot_line line (Some (UndoTo n)) state old alike a b room room2 = one_move _ old _ a b
  one_dot_line line (Some Show) state old alike a b room room2 = one_show state (roomy a room) (roomy b room2)
  one_dot_line line (Some Globals) state old alike a b room room2 = one_look (roomy a room) (roomy b room2)
  one_dot_line line (Some Where) state old alike a b room room2 = one_look (roomy a room) (roomy b room2)
  one_dot_line line (Some HistoryCommand) state old alike a b room room2 = one_look (roomy a room) (roomy b room2)
  one_dot_line line (Some Cells) state old alike a b room room2 = one_show_of_cells old
      (cells_named state (second_word (words line))) a b room room2
  one_dot_line line (Some Save) state old alike a b room room2 = (a.0 ∙ sym b.0, a.1 ∙ sym b.1)
  one_dot_line line (Some (Act reading)) state old alike a b room room2 = one_command reading
      (behind_name line) state old alike a b room room2
  one_dot_line line (Some Quit) state old alike a b room room2 = (a.0 ∙ sym b.0, a.1 ∙ sym b.1)

  -- a line that isn't too long
  one_short_line : (line : List ℕ) (dot : Bool) (state : State) (old : Timeline) {reply reply2 : Reply}
      {new new2 : Timeline} →
      Alike state old new new2
      → MatchBool dot (Does line (command_in line) state old reply new) (Commands Lines line state old reply new)
      → MatchBool dot (Does line (command_in line) state old reply2 new2) (Commands Lines line state old reply2 new2) →
      HasRoom reply → HasRoom reply2 → Same reply new reply2 new2
  one_short_line line true state old alike a b room room2 = one_dot_line line (command_in line) state old alike
      a b room room2
  one_short_line line false state old alike a b room room2 = one_command Lines line state old alike a b room
      room2

  one_line_of : (line : List ℕ) (long : Bool) (state : State) (old : Timeline) {reply reply2 : Reply}
      {new new2 : Timeline} → Alike state old new new2
      → MatchBool long (Refuses LineTooLong old reply new) (DoesLine line state old reply new) →
      MatchBool long (Refuses LineTooLong old reply2 new2) (DoesLine line state old reply2 new2) → HasRoom reply →
      HasRoom reply2 → Same reply new reply2 new2
  one_line_of line true state old alike a b room room2 = one_refusal a b
  one_line_of line false state old alike a b room room2 = one_short_line line (is_dot_line line) state old alike
      a b room room2

  one_line_from : (line : List ℕ) (old : Timeline) {reply reply2 : Reply} {new new2 : Timeline} →
      HasKinds kinds old → Tells new → Tells new2 → LineMoves line old reply new → LineMoves line old reply2 new2 →
      HasRoom reply → HasRoom reply2 → Same reply new reply2 new2
  one_line_from line old {reply} {reply2} {new} {new2} has are others_are a b room room2 =
      let state : a.state ≡ b.state = same_state old a.present b.present in
      one_line_of line (nat_lt LONGEST_LINE (length line)) a.state (line_counted old)
      (record {
        of_kinds = record {
          sorts = of_each (λ (s : Snapshot). sorts_of s.state.externals ≡ kinds) old.snapshots old.cursor
              (record { state = a.state; number = a.present.0 }) has.sorts a.present.1;
          logs = has.logs;
        };
        first = are;
        second = others_are;
      }) a.does
      (subst (λ s. MatchBool (nat_lt LONGEST_LINE (length line)) (Refuses LineTooLong (line_counted old) reply2 new2)
      (DoesLine line s (line_counted old) reply2 new2)) (sym state) b.does) room room2

pub one_line : Laws → (table : TurnTable) (turns : ℕ → Log) (kinds : List ℕ) (line : List ℕ) (old : Timeline)
    {reply reply2 : Reply} {new new2 : Timeline} → HasKinds kinds old → AreToldBy table turns kinds new.logs →
    AreToldBy table turns kinds new2.logs → LineMoves line old reply new → LineMoves line old reply2 new2 →
    HasRoom reply → HasRoom reply2 → Same reply new reply2 new2
one_line laws table turns kinds line old has are others_are a b room room2 =
    one_line_from laws table turns kinds line old has are others_are a b room room2
