use Rattle.std.proofs.lemmas.Result.{on_ok_weaker}
use Rattle.stack_text.specs.Listing.{document_of}
use Rattle.stack_text.specs.Spelling.{document_lines}
use Rattle.stack_text.specs.declared.sheets.Version.TheVariants.{Second as second}
use Rattle.stack_file.proofs.Passing.{all_written}
use Rattle.stack_file.proofs.writing.write_to.Goals as goal

pub returns : goal.returns
returns g c = on_ok_weaker c.hand_over.result
    (λ last. all_written (document_lines second (document_of c.args.stack.now.content)) _ _ _ _ _
    c.new-buffer.ensures.items c.in_ok-put_stack.ensures last) c.hand_over.ensures.written
