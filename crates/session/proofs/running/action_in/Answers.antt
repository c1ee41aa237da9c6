use Rattle.ht_grammar.specs.Reads.{ReadsLines, ReadsPart, ReadsType}
use Rattle.ht_tree.specs.declared.statement.Stmts.{Stmts}
use Rattle.ht_tree.specs.ScriptView.{typing_of}
use Rattle.ht_tree.specs.StatementView.{stmts_of}
use Rattle.ht_tree.specs.View.{part_of}
use Rattle.meaning.specs.Actions as act
use Rattle.session.specs.Commands.{typing}
use Rattle.session.proofs.Unread.{unread}
use Rattle.session.proofs.running.action_in.Goals as goal

pub returns-in-Lines-clause-err : goal.returns-in-Lines-clause-err
returns-in-Lines-clause-err c =
    rw (c.in-Lines.is, c.refusal_of.ensures)
    (unread {C = Stmts} (λ lines. stmts_of lines.items.items) ReadsLines act.run_lines c.in-Ok.text _
    c.in-Ok.ensures.value c.in-Err.error c.in-Err.ensures)

pub returns-in-Reference-clause-err : goal.returns-in-Reference-clause-err
returns-in-Reference-clause-err c =
    rw (c.in-Reference.is, c.refusal_of-in-Err-parse_part.ensures)
    (unread part_of ReadsPart act.click c.in-Ok.text _ c.in-Ok.ensures.value c.in-Err-parse_part.error
    c.in-Err-parse_part.ensures)

pub returns-clause-err : goal.returns-clause-err
returns-clause-err c =
    rw (c.in-Typing.is, c.refusal_of-in-Err-parse_type.ensures)
    (unread typing_of ReadsType typing c.in-Ok.text _ c.in-Ok.ensures.value c.in-Err-parse_type.error
    c.in-Err-parse_type.ensures)
