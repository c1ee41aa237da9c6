-- Expressions that send no message, computed; and that the rules allow what they come to.
use Rattle.std.specs.Prelude.{◌≡◌, ℕ, zero, suc, List, Result}
use Rattle.ht_grammar.specs.Trees as tree
use Rattle.change_journal.specs.History.{History}
use Rattle.meaning.specs.declared.end.Stop.{Stop}
use Rattle.meaning.specs.declared.frame.Frame.{Frame}
use Rattle.meaning.specs.Meaning.{Val}
use Rattle.meaning.specs.State.{RunState}
use Rattle.definitional_interpreter.specs.Told.{Visible, visible, unknown, told}
use Rattle.definitional_interpreter.specs.Families.{Meanings}
use Rattle.definitional_interpreter.specs.Meanings.{nothing, one_more}

-- a call, and `value` of a text, aren't known
abbrev pub without_messages : Meanings → Meanings
without_messages m = record m { calls = λ _ _ _ _ _ _ _ _. unknown; text_val = λ _ _ _ _ _. unknown }

-- the meanings of expressions that send no message
unfoldable pub meanings_alone : ℕ → Meanings
meanings_alone zero = nothing
meanings_alone (suc fuel) = without_messages (one_more (meanings_alone fuel))

-- What such an expression comes to, the rules allow, and nothing changes.
abbrev pub ExpressionsAreAllowed : Type 0
ExpressionsAreAllowed =
    (fuel : ℕ) (w : History) (r q : RunState) (f : Frame) (d : ℕ) (e : tree.Expr) (o : Result (List ℕ) Stop)
    (v : Visible) →
    (meanings_alone fuel).val (visible w) r f d e ≡ told o v q → Val w r f d e o w r × (v ≡ visible w) × (q ≡ r)
