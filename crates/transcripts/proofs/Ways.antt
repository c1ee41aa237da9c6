-- Replies, transcripts and outputs exist, by each behaviour of the externals too.
use Rattle.std.proofs.Common.{◌⊎◌, inl, inr, ℕ, List, [], ◌∷◌, length, refl, sym, ap, subst, ◌∙◌}
use Rattle.std.specs.List.{AllByRecursion}
use Rattle.std.proofs.lemmas.List.{length-map}
use Rattle.ht_grammar.specs.Laws.{TextsAreReadExactly}
use Rattle.externals.specs.Log.{Log}
use Rattle.journal_entries.specs.State.{IsState}
use Rattle.change_journal.specs.History.{History}
use Rattle.change_journal.specs.Logs.{HaveLogs}
use Rattle.meaning.specs.Actions.{Action}
use Rattle.definitional_interpreter.proofs.Comes.{Kept}
use Rattle.totality.specs.Laws.{Behaviour, IsBehaviour}
use Rattle.whole_states.specs.Texts.{ActionTexts}
use Rattle.session.specs.declared.reply.Reply.{Reply}
use Rattle.session.specs.Meaning.{Moment, Fresh, Locked}
use Rattle.headline.specs.Headline.{Snapshot}
use Rattle.headline.specs.InputLines.{AreLines, all_lines}
use Rattle.headline.proofs.Sessions.{split_of}
use Rattle.transcripts.specs.Laws.{TranscriptsExist, OutputsExist, TranscriptsExistBy, OutputsExistBy}
use Rattle.transcripts.specs.Replies.{LogsFollow, HasReplyBy, IsLockedBy, RepliesExist, RepliesExistBy}
use Rattle.transcripts.specs.Replies.{RepliesStayWhole}
use Rattle.transcripts.proofs.Exists.{Way, EachFits, transcribed}
use Rattle.transcripts.proofs.Grown.{fresh_kept}
use Rattle.transcripts.proofs.Kept.{ShortSaysSuch}
use Rattle.transcripts.proofs.Logs.{follows_refl, follows_trans}
use Rattle.transcripts.proofs.Said.{TextReadings, each_says_texts, lines_of_bytes}

-- ---- whatever the externals do

any_reply : {old : Moment} {steps : ℕ} {does : Action} →
    ((reply : Reply) × ((new : Moment) × Fresh old steps does reply new)) ⊎
    ((logs : List Log) × Locked old steps does logs) →
    ((reply : Reply) × ((new : Moment) × (Fresh old steps does reply new × Unit {0} × Unit {0}))) ⊎
    ((logs : List Log) × (Locked old steps does logs × Unit {0}))
any_reply (inl (reply, (new, fresh))) = inl (reply, (new, (fresh, tt, tt)))
any_reply (inr (logs, locked)) = inr (logs, (locked, tt))

abbrev any_way : RepliesExist → Way
any_way replies = record {
  Fits = λ m. Unit {0};
  IsSuch = λ does. Unit {0};
  Grows = λ old new. Unit {0};
  stays = λ logs. tt;
  joined = λ old mid new first later. tt;
  carried = λ s old new grown fits. tt;
  replies = λ old steps does fits such. any_reply (replies old steps does);
}

each_fits : (replies : RepliesExist) (logs : List Log) (ss : List Snapshot) → EachFits (any_way replies) logs ss
each_fits replies logs [] = tt
each_fits replies logs (s ∷ ss) = (tt, each_fits replies logs ss)

each_says : (lines : List (List ℕ)) → AllByRecursion (ShortSaysSuch (λ does. Unit {0})) lines
each_says [] = tt
each_says (line ∷ lines) = (λ short reading does. (λ reads. tt, λ reads. tt), each_says lines)

pub transcript : RepliesExist → TextsAreReadExactly → TranscriptsExist
transcript replies readings old lines present =
    let is = transcribed (any_way replies) readings old lines present (each_fits replies old.0.logs old.0.snapshots)
    (each_says lines) in
    (is.text, (is.new, is.transcript))

pub output : TranscriptsExist → OutputsExist
output exist old read present =
    let split = split_of read in
    let lines = all_lines split.0 split.1 in
    let are : AreLines read lines = record { ended = split.0; rest = split.1; splits = split.2; all = refl } in
    let answers = exist old lines present in (answers.0, (answers.1.0, (lines, (are, answers.1.1))))

-- ---- by a behaviour

-- a command leaves each external its log
logs_left : (w w2 : History) → Kept w w2 → HaveLogs w.now w.logs → HaveLogs w2.now w2.logs
logs_left w w2 kept have =
    kept.count ∙ have ∙ sym (length-map w.now.externals (λ e. e.sort)) ∙ ap length (sym kept.kinds)
    ∙ length-map w2.now.externals (λ e. e.sort)

fresh_logs : {old : Moment} {steps : ℕ} {does : Action} {reply : Reply} {new : Moment} →
    Fresh old steps does reply new → HaveLogs old.state old.logs → HaveLogs new.state new.logs
fresh_logs fresh have =
    subst (λ (m : Moment). HaveLogs m.state m.logs) (sym fresh.leaves)
    (logs_left fresh.begin fresh.end (fresh_kept fresh)
    (subst (λ (m : Moment). HaveLogs m.state m.logs) (sym fresh.here) have))

reply_by : {behaviour : Behaviour} {old : Moment} {steps : ℕ} {does : Action} → RepliesStayWhole →
    IsState old.state × HaveLogs old.state old.logs → ActionTexts does →
    HasReplyBy behaviour old steps does ⊎ IsLockedBy behaviour old steps does →
    ((reply : Reply) × ((new : Moment) × (Fresh old steps does reply new
    × (IsState new.state × HaveLogs new.state new.logs) × LogsFollow behaviour old.logs new.logs))) ⊎
    ((logs : List Log) × (Locked old steps does logs × LogsFollow behaviour old.logs logs))
reply_by {old = old} {steps} {does} whole fits such (inl r) = inl (
  r.reply,
  (
    r.new,
    (
      r.fresh,
      (whole old steps does r.reply r.new fits.0 such r.fresh, fresh_logs r.fresh fits.1),
      r.followed,
    ),
  ),
)
reply_by whole fits such (inr l) = inr (l.logs, (l.locked, l.followed))

abbrev way_by : (behaviour : Behaviour) → IsBehaviour behaviour → RepliesExistBy → RepliesStayWhole → Way
way_by behaviour is replies whole = record {
  Fits = λ m. IsState m.state × HaveLogs m.state m.logs;
  IsSuch = ActionTexts;
  Grows = LogsFollow behaviour;
  stays = follows_refl behaviour;
  joined = follows_trans behaviour;
  carried = λ s old new grown fits. (fits.0, grown.count ∙ fits.1);
  replies = λ old steps does fits such.
      reply_by whole fits such (replies behaviour old steps does is fits.0 fits.1 such);
}

pub transcript_by : RepliesExistBy → RepliesStayWhole → TextsAreReadExactly → TextReadings → TranscriptsExistBy
transcript_by replies whole readings texts behaviour old lines is present fits bytes =
    let found = transcribed (way_by behaviour is replies whole) readings old lines present fits
    (each_says_texts texts lines bytes) in
    record { text = found.text; new = found.new; transcript = found.transcript; followed = found.grown }

pub output_by : TranscriptsExistBy → OutputsExistBy
output_by exist behaviour old read is present fits bytes =
    let split = split_of read in
    let lines = all_lines split.0 split.1 in
    let are : AreLines read lines = record { ended = split.0; rest = split.1; splits = split.2; all = refl } in
    let found = exist behaviour old lines is present fits (lines_of_bytes read lines bytes are) in
    record {
      text = found.text;
      new = found.new;
      output = (lines, (are, found.transcript));
      followed = found.followed;
    }
