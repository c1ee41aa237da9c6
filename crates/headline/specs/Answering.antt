-- Lines of input, and the answers to all of them. What takes a line is a relation of a line, where things stand, a
-- reply, and where they stand then: the one that `line` promises, or what it does to a list of whole states.
use Rattle.std.specs.Prelude.{◌≡◌, ◌≢◌, ◌⊎◌, ℕ, ◌<◌, ◌≤◌, Bool, true, false, List, [], ◌∷◌, ◌++◌, length, map}
use Rattle.std.specs.Prelude.{MatchBool}
use Rattle.std.specs.List.{AllByRecursion}
use Rattle.headline.specs.Answers.{answer}
use Rattle.session.specs.Splits.{Splits, IsLine, ended_lines}
use Rattle.headline.specs.InputLines.{without_return, all_lines}
use Rattle.headline.specs.Writing.{IsCut}
use Rattle.headline.specs.declared.transcript.TheConstants.{BLOCK}
use Rattle.headline.specs.declared.limits.TheConstants.{MOST_BYTES, MOST_LINES}
use Rattle.session.specs.declared.reply.Ending.{Ending}
use Rattle.session.specs.declared.reply.Ending.TheVariants.{Quit}
use Rattle.session.specs.declared.reply.Reply.{Reply}

abbrev pub is_quit : Ending → Bool
is_quit Quit = true
is_quit _ = false

-- each line is answered in turn, up to the first that quits
abbrev pub Session : {S : Type 0} → (List ℕ → S → Reply → S → Type 0) → S → List (List ℕ) → List ℕ → S → Type 0
Session takes old [] text new = (text ≡ []) × (new ≡ old)
Session {S} takes old (line ∷ lines) text new = (reply : Reply) × (mid : S) × (more : List ℕ) × takes line old reply mid
    × (text ≡ answer reply ++ more)
    × MatchBool (is_quit reply.ending) ((more ≡ []) × (new ≡ mid)) (Session takes mid lines more new)

-- each line is answered in turn, and none of them quits
abbrev pub Answered : {S : Type 0} → (List ℕ → S → Reply → S → Type 0) → S → List (List ℕ) → List ℕ → S → Type 0
Answered takes old [] text new = (text ≡ []) × (new ≡ old)
Answered {S} takes old (line ∷ lines) text new = (reply : Reply) × (mid : S) × (more : List ℕ)
    × takes line old reply mid × (is_quit reply.ending ≡ false) × (text ≡ answer reply ++ more)
    × Answered takes mid lines more new

-- ---- how a run goes on

-- the lines that are ended are answered, and the rest is not done
pub record Stands {S : Type 0} (takes : List ℕ → S → Reply → S → Type 0) (old : S) (read written : List ℕ)
    (new : S) : Type 0 where
  pub lines : List (List ℕ)
  pub rest : List ℕ
  pub splits : Splits read lines rest
  pub answers : Answered takes old (map without_return lines) written new

-- these bytes are a line with its line feed, less the return before it
pub record IsEndedLine (bytes line : List ℕ) : Type 0 where
  pub before : List ℕ
  pub single : IsLine before
  pub whole : bytes ≡ before ++ 10 ∷ []
  pub taken : line ≡ without_return before

-- these bytes are a line that the end of the input ends, and not empty
pub record IsLastLine (ends : Type 0) (bytes line ahead : List ℕ) : Type 0 where
  pub single : IsLine bytes
  pub some : bytes ≢ []
  pub taken : line ≡ bytes
  pub none : ahead ≡ []
  pub ended : ends

-- Some lines are answered whole with this text, and one more is taken, with this reply. At most 1,000,000 lines and
-- 1,000,000,000 bytes are taken so, and less than a block of 4,096 bytes is read behind them.
pub record OneMore {S : Type 0} (takes : List ℕ → S → Reply → S → Type 0) (ends : Type 0) (old : S) (read text : List ℕ)
    (reply : Reply) (new : S) : Type 0 where
  pub lines : List (List ℕ)
  pub bytes : List ℕ
  pub ahead : List ℕ
  pub whole : read ≡ ended_lines lines ++ (bytes ++ ahead)
  pub each : AllByRecursion IsLine lines
  pub mid : S
  pub before : Answered takes old (map without_return lines) text mid
  pub line : List ℕ
  pub next : IsEndedLine bytes line ⊎ IsLastLine ends bytes line ahead
  pub step : takes line mid reply new
  pub few_lines : length lines < MOST_LINES
  pub few_bytes : length (ended_lines lines ++ bytes) ≤ MOST_BYTES
  pub close : length ahead < BLOCK

-- ---- how a run ends

-- the input ended: all that is read is answered, and no line quit
pub record Finishes {S : Type 0} (takes : List ℕ → S → Reply → S → Type 0) (old : S) (read written : List ℕ)
    (new : S) : Type 0 where
  pub lines : List (List ℕ)
  pub rest : List ℕ
  pub splits : Splits read lines rest
  pub answers : Answered takes old (all_lines lines rest) written new
  pub few_lines : length (all_lines lines rest) ≤ MOST_LINES
  pub few_bytes : length read ≤ MOST_BYTES

-- one line more quits
pub record Quits {S : Type 0} (takes : List ℕ → S → Reply → S → Type 0) (ends : Type 0) (old : S)
    (read written : List ℕ) (new : S) : Type 0 where
  pub text : List ℕ
  pub reply : Reply
  pub taken : OneMore takes ends old read text reply new
  pub quits : is_quit reply.ending ≡ true
  pub sent : written ≡ text ++ answer reply

-- One line more is done, and its answer is cut. What is written is all answers before it, and what went out of its own.
pub record Breaks {S : Type 0} (takes : List ℕ → S → Reply → S → Type 0) (ends : Type 0) (old : S)
    (read written : List ℕ) (new : S) : Type 0 where
  pub text : List ℕ
  pub reply : Reply
  pub taken : OneMore takes ends old read text reply new
  pub sent : List ℕ
  pub cut : IsCut (answer reply) sent
  pub went : written ≡ text ++ sent

-- nothing was read, and nothing is done
pub record NeverBegan {S : Type 0} (old : S) (read written : List ℕ) (new : S) : Type 0 where
  pub unread : read ≡ []
  pub unwritten : written ≡ []
  pub same : new ≡ old

-- a byte comes after as many lines, or as many bytes, as one run takes
pub record Exceeds {S : Type 0} (takes : List ℕ → S → Reply → S → Type 0) (old : S) (read written : List ℕ)
    (new : S) : Type 0 where
  pub front : List ℕ
  pub byte : ℕ
  pub ahead : List ℕ
  pub whole : read ≡ front ++ byte ∷ ahead
  pub stands : Stands takes old front written new
  pub most : (length stands.lines ≡ MOST_LINES) ⊎ (length front ≡ MOST_BYTES)
  pub close : length ahead < BLOCK
