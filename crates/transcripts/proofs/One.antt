-- Lines have one transcript, by the turns of the externals.
use Rattle.std.proofs.Common.{◌≡◌, ℕ, List, [], ◌∷◌, ◌++◌, Bool, true, false, sym, ap, subst, ◌∙◌, MatchBool}
use Rattle.devices.specs.Desks.{SeenDesk}
use Rattle.externals.specs.Log.{Log}
use Rattle.externals.specs.Turns.{TurnTable}
use Rattle.session.specs.declared.reply.Reply.{Reply}
use Rattle.headline.specs.Answers.{answer}
use Rattle.headline.specs.Answering.{is_quit}
use Rattle.headline.specs.Headline.{Timeline, LineMoves}
use Rattle.headline.specs.InputLines.{all_lines}
use Rattle.headline.specs.Saving.{Kept, SettlesHeard}
use Rattle.transcripts.specs.Laws.{Succeeds, Transcript, HasKinds, TranscriptsAreOne, OutputsAreOne}
use Rattle.transcripts.specs.Replies.{AreToldBy}
use Rattle.transcripts.proofs.Exists.{after_hearing}
use Rattle.transcripts.proofs.Grown.{Grows, grows_same, step_goes, transcript_goes}
use Rattle.transcripts.proofs.Once.{Laws, one_line, one_split}
use Rattle.transcripts.proofs.OneDesk.{kept_by, one_desk, room_of_step}
use Rattle.transcripts.proofs.Told.{told_before}

-- a line beside a desk is taken in one way
one_step : Laws → (table : TurnTable) (turns : ℕ → Log) (kinds : List ℕ) (line : List ℕ) (old : Timeline × SeenDesk)
    {reply reply2 : Reply} {new new2 : Timeline × SeenDesk} → HasKinds kinds old.0 →
    AreToldBy table turns kinds new.0.logs → AreToldBy table turns kinds new2.0.logs →
    Succeeds (SettlesHeard LineMoves) line old reply new → Succeeds (SettlesHeard LineMoves) line old reply2 new2 →
    (reply ≡ reply2) × (new ≡ new2)
one_step laws table turns kinds line old {reply} {reply2} {new} {new2} has are others_are a b =
    let kept = kept_by a.taken.ending a.taken.told new.1 a.taken.kept a.kept in
    let kept2 = kept_by b.taken.ending b.taken.told new2.1 b.taken.kept b.kept in
    let moved = one_line laws table turns kinds line old.0 has are others_are a.taken.taken b.taken.taken
    (room_of_step a) (room_of_step b) in
    let ended : a.taken.ending ≡ b.taken.ending = ap (λ (r : Reply). r.ending) moved.0 in
    let told : a.taken.told ≡ b.taken.told =
    a.taken.heard ∙ ap (λ (r : Reply). after_hearing r.sent old.1) moved.0 ∙ sym b.taken.heard in
    let desks = one_desk a.taken.ending a.taken.told kept
    (subst (λ d. Kept a.taken.ending d reply2.ending new2.1) (sym told)
    (subst (λ e. Kept e b.taken.told reply2.ending new2.1) (sym ended) kept2)) in (
      ap (λ (r : Reply). record r { ending = reply.ending }) moved.0 ∙ ap (λ e. record reply2 { ending = e }) desks.0,
      ap (λ t. (t, new.1)) moved.1 ∙ ap (λ d. (new2.0, d)) desks.1,
    )

-- the rest after a line
one_rest : (lines : List (List ℕ)) (quits : Bool) (mid mid2 new new2 : Timeline × SeenDesk) (more more2 : List ℕ)
    → (Transcript mid lines more new → Transcript mid lines more2 new2 → (more ≡ more2) × (new ≡ new2))
    → MatchBool quits ((more ≡ []) × (new ≡ mid)) (Transcript mid lines more new)
    → MatchBool quits ((more2 ≡ []) × (new2 ≡ mid2)) (Transcript mid2 lines more2 new2)
    → mid ≡ mid2 → (more ≡ more2) × (new ≡ new2)
one_rest lines true mid mid2 new new2 more more2 later a b same = (a.0 ∙ sym b.0, a.1 ∙ same ∙ sym b.1)
one_rest lines false mid mid2 new new2 more more2 later a b same = later a
    (subst (λ m. Transcript m lines more2 new2) (sym same) b)

-- the rest grows the logs
rest_grows : (kinds : List ℕ) (lines : List (List ℕ)) (quits : Bool) (mid new : Timeline × SeenDesk) (more : List ℕ) →
    HasKinds kinds mid.0 → MatchBool quits ((more ≡ []) × (new ≡ mid)) (Transcript mid lines more new) →
    Grows mid.0.logs new.0.logs
rest_grows kinds lines true mid new more has ended =
    grows_same (ap (λ (t : Timeline × SeenDesk). t.0.logs) ended.1)
rest_grows kinds lines false mid new more has rest = (transcript_goes kinds mid lines more new rest has).1

pub one_transcript : Laws → TranscriptsAreOne
one_transcript laws table turns kinds old [] text text2 new new2 has are others_are a b =
    (a.0 ∙ sym b.0, a.1 ∙ sym b.1)
one_transcript laws table turns kinds old (line ∷ lines) text text2 new new2 has are others_are
    (reply, mid, more, taken, is, rest) (reply2, mid2, more2, taken2, is2, rest2) =
    let kept = (step_goes kinds line old reply mid taken has).0 in
    let kept2 = (step_goes kinds line old reply2 mid2 taken2 has).0 in
    let step = one_step laws table turns kinds line old has
    (told_before table turns kinds mid.0.logs new.0.logs
    (rest_grows kinds lines (is_quit reply.ending) mid new more kept rest) are)
    (told_before table turns kinds mid2.0.logs new2.0.logs
    (rest_grows kinds lines (is_quit reply2.ending) mid2 new2 more2 kept2 rest2) others_are)
    taken taken2 in
    let later =
    one_rest lines (is_quit reply.ending) mid mid2 new new2 more more2
    (λ a b. one_transcript laws table turns kinds mid lines more more2 new new2 kept are others_are a b) rest
    (subst (λ (r : Reply). MatchBool (is_quit r.ending) ((more2 ≡ []) × (new2 ≡ mid2))
    (Transcript mid2 lines more2 new2)) (sym step.0) rest2) step.1 in
    (is ∙ ap (λ t. answer reply ++ t) later.0 ∙ ap (λ (r : Reply). answer r ++ more2) step.0 ∙ sym is2, later.1)

-- the bytes of an input have one list of lines
pub one_output : TranscriptsAreOne → OutputsAreOne
one_output one table turns kinds old read text text2 new new2 has are others_are (lines, (split_is, transcript))
    (lines2, (split_is2, transcript2)) =
    let split = one_split split_is.splits split_is2.splits in
    let same : lines2 ≡ lines =
    split_is2.all ∙ sym (ap (λ ended. all_lines ended split_is2.rest) split.0)
    ∙ sym (ap (all_lines split_is.ended) split.1) ∙ sym split_is.all in
    one table turns kinds old lines text text2 new new2 has are others_are transcript
    (subst (λ ls. Transcript old ls text2 new2) same transcript2)
