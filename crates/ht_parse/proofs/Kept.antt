-- What is known of a tree that is kept, when it is handed out.
use Rattle.std.proofs.Common.{◌≡◌, IfErr, IfOk, ℕ, List, Result, Ok, Err}
use Rattle.ht_lex.specs.Token.{Token}
use Rattle.ht_parse.specs.Answer.{Parses}
use Rattle.ht_parse.specs.OnlyTree.{IsOnlyTree}
use Rattle.ht_parse.specs.declared.error.ParseError.{ParseError}
use Rattle.ht_parse.specs.declared.error.ParseError.TheVariants.{Memory}

pub shared-parses : {C D T : Type 0} (inner : D → C) (view : C → T) (IsRead : List Token → T → Type 0)
    (text : List ℕ) (tree : C) (result : Result D ParseError)
    → IsOnlyTree IsRead text (view tree) → IfOk result (λ x. inner x ≡ tree)
    → IfErr result (λ error. error ≡ Memory) → Parses (λ x. view (inner x)) IsRead text result
shared-parses inner view IsRead text tree (Ok x) only same _ = rw same only
shared-parses inner view IsRead text tree (Err error) only _ same = rw same tt
