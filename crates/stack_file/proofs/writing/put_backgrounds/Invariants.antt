use Rattle.std.proofs.Common.{map, take, flat_map}
use Rattle.stack_text.specs.Listing.{background_sheet}
use Rattle.stack_text.specs.Spelling.{background_lines}
use Rattle.stack_text.specs.declared.sheets.Version.TheVariants.{Second as second}
use Rattle.stack_file.specs.Passing.{Passes}
use Rattle.stack_file.proofs.writing.put_backgrounds.Given as goal

-- the lines of those that are done have passed
abbrev pub invariant-loop-id : goal.invariant-loop-id
invariant-loop-id g l = Passes
    (flat_map (background_lines second) (map (background_sheet l.stack.content) (take l.id-index l.ids)))
    (g.W.Write.contents l.fn.out) l.fn.buffer.items (g.W.Write.contents l.out) l.buffer.items
