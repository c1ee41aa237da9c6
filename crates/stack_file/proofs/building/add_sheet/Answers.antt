use Rattle.stack_file.specs.Views.{sheet_seen}
use Rattle.std.proofs.lemmas.Result.{on_ok_weaker}
use Rattle.stack_file.proofs.Built.{sheet-is}
use Rattle.stack_file.proofs.building.add_sheet.Goals as goal

pub returns : goal.returns
returns c =
    on_ok_weaker c.put_object.result (λ last. sheet-is c.args.card (sheet_seen c.args.sheet) c.args.stack.now.content
    c.add_rows.new.stack.content c.put_object.new.stack.content c.in_ok-add_rows.ensures last) c.put_object.ensures
