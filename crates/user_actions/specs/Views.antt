-- What a user does, and how it ends.
use Rattle.std.specs.Prelude.{ℕ, ◌≤◌, List, Option, Some, None, Result, Ok, Err}
use Rattle.ht_grammar.specs.Depth.{max_depth, part_depth}
use Rattle.ht_grammar.specs.Trees.{Part}
use Rattle.ht_tree.specs.StatementView.{stmts_of}
use Rattle.ht_tree.specs.View.{part_of}
use Rattle.change_journal.specs.History.{History}
use Rattle.meaning.specs.declared.end.Ended.{Ended}
use Rattle.meaning.specs.declared.end.Stop.{Stop}
use Rattle.meaning.specs.Actions as act
use Rattle.meaning.specs.Ends.{end_of}
use Rattle.meaning.specs.Meaning.{Acts, TypesInto}
use Rattle.meaning.specs.Locked.{IsLocked, MeetsLock}
use Rattle.meaning.specs.State.{RunState}
use Rattle.user_actions.specs.declared.action.Action.{Action}
use Rattle.user_actions.specs.declared.action.Action.TheVariants.{RunLines, OpenStack, Click, TypeText}

abbrev pub action_of : Action → act.Action
action_of (RunLines lines) = act.run_lines (stmts_of lines.items.items)
action_of OpenStack = act.open_stack
action_of (Click part) = act.click (part_of part)
action_of (TypeText typing) = act.type_text typing.text (part_of typing.field)

-- its reference is no deeper than a tree may be
abbrev pub Fits : act.Action → Type 0
Fits (act.click reference) = part_depth reference ≤ max_depth
Fits (act.type_text text reference) = part_depth reference ≤ max_depth
Fits _ = Unit {0}

-- typing ends so, or doesn't begin, as the field is locked
abbrev pub TypingEnds : History → RunState → List ℕ → Part → Result (Option Ended) Stop → History → RunState → Type 0
TypingEnds w r text reference (Ok (Some ended)) w2 r2 = TypesInto w r text reference (end_of (Ok ended)) w2 r2
TypingEnds w r text reference (Ok None) w2 r2 = IsLocked w r reference w2 r2
TypingEnds w r text reference (Err stop) w2 r2 = TypesInto w r text reference (Err stop) w2 r2

-- an action ends so, or is refused for a locked field
abbrev pub ActionEnds : History → RunState → act.Action → Result (Option Ended) Stop → History → RunState → Type 0
ActionEnds w r action (Ok (Some ended)) w2 r2 = Acts w r action (end_of (Ok ended)) w2 r2
ActionEnds w r action (Ok None) w2 r2 = MeetsLock w r action w2 r2
ActionEnds w r action (Err stop) w2 r2 = Acts w r action (Err stop) w2 r2
