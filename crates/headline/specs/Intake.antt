-- Lines on their way: what is read and not yet answered.
use Rattle.std.specs.Prelude.{◌≡◌, ◌⊎◌, ℕ, ◌<◌, ◌≤◌, Bool, List, [], length, map, take, MatchBool}
use Rattle.devices.specs.Desks.{SeenDesk}
use Rattle.headline.specs.Answering.{Answered, Quits, Breaks}
use Rattle.headline.specs.Saving.{Takes}
use Rattle.session.specs.Splits.{Splits}
use Rattle.headline.specs.InputLines.{without_return}
use Rattle.session.specs.SessionView.{SessionView}
use Rattle.headline.specs.declared.transcript.TheConstants.{KEPT}
use Rattle.headline.specs.declared.limits.TheConstants.{MOST_LINES}

-- After these bytes this text is written, and this much is kept of the line that isn't ended. Such a line begins only
-- where there may be one more.
pub record Reached (old : SessionView × SeenDesk) (read written : List ℕ) (now : SessionView × SeenDesk)
    (pending : List ℕ)
    (line_count byte_count : ℕ) : Type 0 where
  pub lines : List (List ℕ)
  pub rest : List ℕ
  pub splits : Splits read lines rest
  pub answers : Answered Takes old (map without_return lines) written now
  pub kept : pending ≡ take KEPT rest
  pub room : (rest ≡ []) ⊎ (line_count < MOST_LINES)
  pub lines_counted : line_count ≡ length lines
  pub bytes_counted : byte_count ≡ length read

-- a line quit, with so many bytes behind it at most, or more bytes may come
abbrev pub Onward : ℕ → Bool → SessionView × SeenDesk → List ℕ → List ℕ → SessionView × SeenDesk → List ℕ → ℕ → ℕ
    → Type 0
Onward most quits old read written now pending line_count byte_count = MatchBool quits
    ((q : Quits Takes ⊥ old read written now) × (length q.taken.ahead ≤ most))
    (Reached old read written now pending line_count byte_count)

-- an answer was cut, with so many bytes behind its line at most
abbrev pub Broken : ℕ → SessionView × SeenDesk → List ℕ → List ℕ → SessionView × SeenDesk → Type 0
Broken most old read written new = (b : Breaks Takes ⊥ old read written new) × (length b.taken.ahead ≤ most)
