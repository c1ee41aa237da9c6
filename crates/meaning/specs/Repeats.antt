-- How repeats and handlers end.
use Rattle.std.specs.Prelude.{ℕ, ℤ, pos, ◌+ℤ◌, ◌-ℤ◌, int_lt, List, [], Bool, true, false, not, if◌then◌else◌, Option}
use Rattle.std.specs.Prelude.{Some, None, Result, Ok}
use Rattle.ht_values.specs.declared.fault.Fault.{Fault}
use Rattle.ht_values.specs.Number.{number_of}
use Rattle.ht_values.specs.Outcome.{and_then}
use Rattle.ht_grammar.specs.declared.vocabulary.HandlerKind.{HandlerKind}
use Rattle.ht_grammar.specs.declared.vocabulary.HandlerKind.TheVariants.{Command, Function}
use Rattle.meaning.specs.declared.end.How.{How}
use Rattle.meaning.specs.declared.end.How.TheVariants.{Next, ExitRepeat, NextRepeat, Exit, Pass, Returns}
use Rattle.meaning.specs.State.{RunState}

-- how a repeat ends by the end of its lines; none where it goes on
abbrev pub leaves_repeat : How → Option How
leaves_repeat Next = None
leaves_repeat NextRepeat = None
leaves_repeat ExitRepeat = Some Next
leaves_repeat Exit = Some Exit
leaves_repeat Pass = Some Pass
leaves_repeat (Returns v) = Some (Returns v)

-- whether a repeat goes on that wants its condition to be so
abbrev pub goes_on : Bool → Bool → Bool
goes_on true truth = truth
goes_on false truth = not truth

-- the number of the turn that comes next, and the bound, which is passed upward or downward
pub record CounterState : Type 0 where
  pub at : ℤ
  pub bound : ℤ
  pub is_down : Bool

abbrev pub is_over : CounterState → Bool
is_over c = if c.is_down then int_lt c.at c.bound else int_lt c.bound c.at

abbrev pub stepped : CounterState → CounterState
stepped c = record c { at = if c.is_down then c.at -ℤ pos 1 else c.at +ℤ pos 1 }

-- a number, or the one past it
abbrev pub at_or_past : Bool → Bool → ℤ → ℤ
at_or_past false is_down n = n
at_or_past true is_down n = if is_down then n -ℤ pos 1 else n +ℤ pos 1

-- so many turns
abbrev pub turns : ℤ → CounterState
turns n = record { at = pos 1; bound = n; is_down = false }

-- the numbers from one text to another, both converted, the first one first
abbrev pub counter_of : List ℕ → List ℕ → Bool → Result CounterState Fault
counter_of from to down =
    and_then (number_of from) (λ a. and_then (number_of to) (λ b. Ok (record { at = a; bound = b; is_down = down })))

-- what a handler gives, and the run after it
pub record Outcome : Type 0 where
  pub value : List ℕ
  pub run : RunState

-- a value that is returned is a function's; of a command it becomes the result
abbrev pub returned : HandlerKind → List ℕ → RunState → Outcome
returned Command v r = record { value = []; run = record r { result = v } }
returned Function v r = record { value = v; run = r }

-- what a handler gives by the end of its lines; none where the message is passed
abbrev pub ends : HandlerKind → How → RunState → Option Outcome
ends kind Pass r = None
ends kind (Returns v) r = Some (returned kind v r)
ends kind _ r = Some (record { value = []; run = r })
