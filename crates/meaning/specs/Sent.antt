-- Messages that were sent.
use Rattle.std.specs.Prelude.{ℕ, List}

-- a message that was sent: its name as it was written, and the id of the object that it was sent to
pub record SentMessage : Type 0 where
  pub name : List ℕ
  pub object : ℕ
