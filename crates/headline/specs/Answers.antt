-- The bytes of an answer.
use Rattle.std.specs.Prelude.{ℕ, List, [], ◌∷◌, ◌++◌, codes, decimal}
use Rattle.std.specs.List.{flat_map}
use Rattle.ht_values.specs.Faults.{number_of_fault}
use Rattle.session.specs.Replies.{number_of_refusal}
use Rattle.session.specs.declared.reply.Ending.{Ending}
use Rattle.session.specs.declared.reply.Ending.TheVariants.{Ok, Fault, Refused, Save, Quit}
use Rattle.session.specs.declared.reply.Reply.{Reply}

abbrev pub shown_line : List ℕ → List ℕ
shown_line line = codes "> " ++ line ++ 10 ∷ []

abbrev pub numbered_line : List ℕ → ℕ → List ℕ
numbered_line word number = word ++ decimal number ++ 10 ∷ []

abbrev pub ending_line : Ending → List ℕ
ending_line Ok = codes "ok\n"
ending_line (Fault fault) = numbered_line (codes "fault ") (number_of_fault fault)
ending_line (Refused refusal) = numbered_line (codes "refused ") (number_of_refusal refusal)
ending_line (Save text) = codes "ok\n"
ending_line Quit = codes "ok\n"

-- the shown lines, and then the ending
abbrev pub answer : Reply → List ℕ
answer reply = flat_map shown_line reply.shown ++ ending_line reply.ending
