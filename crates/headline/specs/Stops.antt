-- What holds after a run.
use Rattle.std.specs.Prelude.{ℕ, List}
use Rattle.headline.specs.Answering.{Finishes, Quits, Stands, Breaks, NeverBegan, Exceeds}
use Rattle.headline.specs.declared.transcript.Ran.{Ran}
use Rattle.headline.specs.declared.transcript.Ran.TheVariants as runs
use Rattle.headline.specs.declared.transcript.RunFault.{RunFault}
use Rattle.headline.specs.declared.transcript.RunFault.TheVariants as faults
use Rattle.session.specs.declared.reply.Reply.{Reply}

-- how a run ended well; what it means that the input ended
abbrev pub Ended : {S : Type 0} → (List ℕ → S → Reply → S → Type 0) → Type 0 → Ran → S → List ℕ → List ℕ → S → Type 0
Ended takes ends runs.EndOfInput old read written new = Finishes takes old read written new × ends
Ended takes ends runs.Quit old read written new = Quits takes ends old read written new

-- what is read, what is written, and where things stand, by the fault
abbrev pub Stopped : {S : Type 0} → (List ℕ → S → Reply → S → Type 0) → Type 0 → RunFault → S → List ℕ → List ℕ → S
    → Type 0
Stopped takes ends faults.Memory old read written new = NeverBegan old read written new
Stopped takes ends faults.Write old read written new = Breaks takes ends old read written new
Stopped takes ends faults.Read old read written new = Stands takes old read written new
Stopped takes ends faults.TooManyLines old read written new = Exceeds takes old read written new
