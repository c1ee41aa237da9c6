use Rattle.std.proofs.Common.{map, take, flat_map}
use Rattle.stack_text.specs.Listing.{keeping_of}
use Rattle.stack_text.specs.Spelling.{keeping_lines}
use Rattle.stack_text.specs.declared.sheets.Version.TheVariants.{Second as second}
use Rattle.stack_file.specs.Passing.{Passes}
use Rattle.stack_file.proofs.writing.put_keepings.Given as goal

-- the lines of those that are done have passed
abbrev pub invariant-loop-id : goal.invariant-loop-id
invariant-loop-id g l = Passes
    (flat_map (keeping_lines second) (map (keeping_of l.stack.content l.card) (take l.id-index l.ids)))
    (g.W.Write.contents l.fn.out) l.fn.buffer.items (g.W.Write.contents l.out) l.buffer.items
