use Rattle.std.proofs.Common.{rules}
use Rattle.stack_text.specs.Reading.{Fails, text_of_pieces as text_at}
use Rattle.stack_file.proofs.PieceTexts.{text-read, text-fails, text-short, popped, none_left}
use Rattle.stack_file.proofs.blocks.text_of_pieces.Goals as goal

pub returns-in_err-bytes : goal.returns-in_err-bytes
returns-in_err-bytes c = let known : Fails c.in_err-bytes.field-0.0 (text_at c.args.count c.args.lines.now) = text-fails
    c.args.count c.args.lines.now c.in_err-bytes.field-0.0 c.in_err-bytes.ensures in search (rules, known)

pub fitting_vec-requires : goal.fitting_vec-requires
fitting_vec-requires c =
    let bytes = c.in_ok-bytes.bytes.items in
    let left = c.pop.new.self.items in
    let none = none_left bytes c.in_ok-bytes.bytes.len c.pop.result c.in_ok-bytes.bytes.ok.0 c.pop.ensures.variant.1 in
    let read = text-read c.args.count c.args.lines.now c.pieces.new.lines bytes left c.in_ok-bytes.ensures
    (popped bytes left c.pop.result c.pop.ensures.items none) in
    text-short c.args.count c.args.lines.now c.pieces.new.lines left read

pub returns : goal.returns
returns c =
    let bytes = c.in_ok-bytes.bytes.items in
    let left = c.pop.new.self.items in
    let none = none_left bytes c.in_ok-bytes.bytes.len c.pop.result c.in_ok-bytes.bytes.ok.0 c.pop.ensures.variant.1 in
    let read = text-read c.args.count c.args.lines.now c.pieces.new.lines bytes left c.in_ok-bytes.ensures
    (popped bytes left c.pop.result c.pop.ensures.items none) in
    rw c.in_ok-fitting_vec.ensures.value read
