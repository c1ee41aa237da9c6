use Rattle.std.proofs.Common.{map, take, flat_map}
use Rattle.stack_text.specs.Listing.{part_of}
use Rattle.stack_text.specs.Spelling.{part_lines}
use Rattle.stack_text.specs.declared.sheets.Version.TheVariants.{Second as second}
use Rattle.stack_file.specs.Passing.{Passes}
use Rattle.stack_file.proofs.writing.put_each_part.Given as goal

-- the lines of those that are done have passed
abbrev pub invariant-loop-id : goal.invariant-loop-id
invariant-loop-id g l = Passes
    (flat_map (part_lines second) (map (part_of l.stack.content l.card) (take l.id-index l.ids)))
    (g.W.Write.contents l.fn.out) l.fn.buffer.items (g.W.Write.contents l.out) l.buffer.items
