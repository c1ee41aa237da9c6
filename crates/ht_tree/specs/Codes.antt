-- Codes of the parts of an expression, from one of their marks.
use Rattle.std.specs.Prelude.{List, [], ◌∷◌, None}
use Rattle.std.proofs.Common.{ap}
use Rattle.std.specs.Coded.{Coded, code_by}
use Rattle.ht_values.specs.declared.word.ChunkKind.TheVariants.{Char}
use Rattle.ht_values.specs.declared.word.PartKind.TheVariants.{Button}
use Rattle.ht_grammar.specs.Trees.{Exprs, Chunk, Selector, Part, Ref}
use Rattle.ht_grammar.specs.Trees as t
use Rattle.ht_tree.specs.Postfix.{Mark, Item, some_exprs, a_chunk, a_selector, a_part_item, a_ref, run, exprs_marks}
use Rattle.ht_tree.specs.Postfix.{chunk_marks, selector_marks, part_marks, ref_marks, exprs_back, chunk_back}
use Rattle.ht_tree.specs.Postfix.{selector_back, part_back, ref_back}

abbrev pub exprs_on : List Item → Exprs
exprs_on (some_exprs x ∷ ts) = x
exprs_on _ = t.none

abbrev pub chunk_on : List Item → Chunk
chunk_on (a_chunk x ∷ ts) = x
chunk_on _ = t.piece Char t.return_

abbrev pub selector_on : List Item → Selector
selector_on (a_selector x ∷ ts) = x
selector_on _ = t.this

abbrev pub part_on : List Item → Part
part_on (a_part_item x ∷ ts) = x
part_on _ = t.part None Button (t.by_id t.return_) t.no_owner

abbrev pub ref_on : List Item → Ref
ref_on (a_ref x ∷ ts) = x
ref_on _ = t.me

abbrev pub coded_exprs : Coded (List Mark) → Coded Exprs
coded_exprs c =
    code_by (List Mark) c (λ x. exprs_marks x []) (λ ms. exprs_on (run ms [])) (λ x. ap exprs_on (exprs_back x [] []))

abbrev pub coded_chunk : Coded (List Mark) → Coded Chunk
coded_chunk c =
    code_by (List Mark) c (λ x. chunk_marks x []) (λ ms. chunk_on (run ms [])) (λ x. ap chunk_on (chunk_back x [] []))

abbrev pub coded_selector : Coded (List Mark) → Coded Selector
coded_selector c = code_by (List Mark) c (λ x. selector_marks x []) (λ ms. selector_on (run ms []))
    (λ x. ap selector_on (selector_back x [] []))

abbrev pub coded_part : Coded (List Mark) → Coded Part
coded_part c =
    code_by (List Mark) c (λ x. part_marks x []) (λ ms. part_on (run ms [])) (λ x. ap part_on (part_back x [] []))

abbrev pub coded_ref : Coded (List Mark) → Coded Ref
coded_ref c = code_by (List Mark) c (λ x. ref_marks x []) (λ ms. ref_on (run ms [])) (λ x. ap ref_on (ref_back x [] []))
