-- Where a session stands.
use Rattle.std.specs.Prelude.{ℕ, ◌+◌, min, refl}
use Rattle.std.specs.Coded.{Coded, code_by, coded×, coded_ℕ}
use Rattle.change_journal.specs.History.{History, coded_history}
use Rattle.session.specs.declared.limits.TheConstants.{LAST_NUMBER}

-- its history, how many lines it has taken, and how many steps a command may take
pub record SessionView : Type 0 where
  pub history : History
  pub lines : ℕ
  pub steps : ℕ

abbrev pub coded_session_view : Coded SessionView
coded_session_view = code_by (History × (ℕ × ℕ)) (coded× coded_history (coded× coded_ℕ coded_ℕ))
    (λ s. (s.history, (s.lines, s.steps))) (λ p. record { history = p.0; lines = p.1.0; steps = p.1.1 }) (λ _. refl)

-- The number of the line after so many; it stays at its greatest value.
abbrev pub next_number : ℕ → ℕ
next_number lines = min (lines + 1) LAST_NUMBER
