-- Blocks and repeats, by how what is in them ends.
use Rattle.std.proofs.Common.{◌≡◌, ℕ, List, Bool, Option, true, false, Result, Ok}
use Rattle.ht_values.specs.Text.{numeral}
use Rattle.ht_grammar.specs.Statements as stm
use Rattle.ht_grammar.specs.Trees as tree
use Rattle.change_journal.specs.History.{History}
use Rattle.meaning.specs.declared.end.How.{How}
use Rattle.meaning.specs.declared.end.Stop.{Stop}
use Rattle.meaning.specs.declared.frame.Frame.{Frame}
use Rattle.meaning.specs.Meaning.{Block, Counts, Endless, Form, TruthVal, While}
use Rattle.meaning.specs.Places.{Assigns}
use Rattle.meaning.specs.Repeats.{CounterState, goes_on, is_over, stepped}
use Rattle.meaning.specs.State.{RunState, Step}
use Rattle.primitives.specs.Blocks.{EndsBlock, EndsRepeat}

module _ {w w1 : History} {r r1 r2 : RunState} {f f1 : Frame} {d : ℕ} {s : stm.Stmt} {ss ss1 : stm.Stmts} where
  pub block_ends : {o : Result How Stop} → ss ≡ stm.also s ss1 → Step r (Ok tt) r1 → Form w r1 f d s o w1 r2 f1
      → EndsBlock o true → Block w r f d ss o w1 r2 f1
  block_ends first step form (EndsBlock.leaves other) = Block.block_leaves first step form other
  block_ends first step form EndsBlock.stops = Block.block_stops first step form

  pub block_goes_on : {w2 : History} {r3 : RunState} {f2 : Frame} {o oh : Result How Stop} → ss ≡ stm.also s ss1
      → Step r (Ok tt) r1 → Form w r1 f d s o w1 r2 f1 → EndsBlock o false → Block w1 r2 f1 d ss1 oh w2 r3 f2
      → Block w r f d ss oh w2 r3 f2
  block_goes_on first step form EndsBlock.goes_on rest = Block.block_goes_on first step form rest

module _ {w w1 : History} {r r1 r2 : RunState} {f f1 : Frame} {d : ℕ} {ss : stm.Stmts} where
  pub endless_ends : {o o1 : Result How Stop} → Step r (Ok tt) r1 → Block w r1 f d ss o w1 r2 f1
      → EndsRepeat o true o1 → Endless w r f d ss o1 w1 r2 f1
  endless_ends step lines (EndsRepeat.leaves is) = Endless.endless_leaves step lines is
  endless_ends step lines EndsRepeat.stops = Endless.endless_stops step lines

  pub endless_turns : {w2 : History} {r3 : RunState} {f2 : Frame} {o o1 oh : Result How Stop} → Step r (Ok tt) r1
      → Block w r1 f d ss o w1 r2 f1 → EndsRepeat o false o1 → Endless w1 r2 f1 d ss oh w2 r3 f2
      → Endless w r f d ss oh w2 r3 f2
  endless_turns step lines (EndsRepeat.turns is) rest = Endless.endless_goes_on step lines is rest

module _ {w w1 w2 : History} {r r1 r2 r3 : RunState} {f f1 : Frame} {d : ℕ} {e : tree.Expr} {b1 b : Bool}
    {ss : stm.Stmts} where
  pub while_ends : {o o1 : Result How Stop} → Step r (Ok tt) r1 → TruthVal w r1 f d e (Ok b1) w1 r2
      → goes_on b b1 ≡ true → Block w1 r2 f d ss o w2 r3 f1 → EndsRepeat o true o1 → While w r f d b e ss o1 w2 r3 f1
  while_ends step truth on lines (EndsRepeat.leaves is) = While.while_leaves step truth on lines is
  while_ends step truth on lines EndsRepeat.stops = While.while_stops step truth on lines

  pub while_turns : {w3 : History} {r4 : RunState} {f2 : Frame} {o o1 oh : Result How Stop} → Step r (Ok tt) r1
      → TruthVal w r1 f d e (Ok b1) w1 r2 → goes_on b b1 ≡ true → Block w1 r2 f d ss o w2 r3 f1
      → EndsRepeat o false o1 → While w2 r3 f1 d b e ss oh w3 r4 f2 → While w r f d b e ss oh w3 r4 f2
  while_turns step truth on lines (EndsRepeat.turns is) rest = While.while_goes_on step truth on lines is rest

module _ {w w1 w2 : History} {r r1 r2 : RunState} {co : CounterState} {f f1 f2 : Frame} {on : Option (List ℕ)} {d : ℕ}
    {ss : stm.Stmts} where
  pub counts_end : {o o1 : Result How Stop} → Step r (Ok tt) r1 → is_over co ≡ false
      → Assigns w f on (numeral co.at) w1 f1 → Block w1 r1 f1 d ss o w2 r2 f2 → EndsRepeat o true o1
      → Counts w r f d on co ss o1 w2 r2 f2
  counts_end step more assigned lines (EndsRepeat.leaves is) = Counts.counts_leave step more assigned lines is
  counts_end step more assigned lines EndsRepeat.stops = Counts.counts_stop step more assigned lines

  pub counts_turn : {w3 : History} {r3 : RunState} {f3 : Frame} {co1 : CounterState} {o o1 oh : Result How Stop}
      → Step r (Ok tt) r1 → is_over co ≡ false → Assigns w f on (numeral co.at) w1 f1
      → Block w1 r1 f1 d ss o w2 r2 f2 → EndsRepeat o false o1 → co1 ≡ stepped co
      → Counts w2 r2 f2 d on co1 ss oh w3 r3 f3 → Counts w r f d on co ss oh w3 r3 f3
  counts_turn step more assigned lines (EndsRepeat.turns is) at rest =
      Counts.counts_go_on step more assigned lines is at rest

pub ruleset block_rules = (Block.block_memory, Block.block_end, Block.block_no_step, block_ends, block_goes_on)

pub ruleset endless_rules = (Endless.endless_memory, Endless.endless_no_step, endless_ends, endless_turns)

pub ruleset while_rules =
    (While.while_memory, While.while_no_step, While.while_test_stops, While.while_ends, while_ends, while_turns)

pub ruleset counts_rules = (Counts.counts_memory, Counts.counts_no_step, Counts.counts_end, counts_end, counts_turn)
