use Rattle.std.proofs.Common.{List, ℕ, map, inl, inr, subst, sym, ap, ◌∙◌}
use Rattle.std.proofs.lemmas.Bool.{false≢true}
use Rattle.std.specs.String.{string_bytes}
use Rattle.clap.specs.Words.{IsAmong, fault_of, is_simple_and_free, kind_of}
use Rattle.command_line.proofs.words.options_of.Goals as goal

pub returns-in_ok-options_in-in-Ok-clause-taken : goal.returns-in_ok-options_in-in-Ok-clause-taken
returns-in_ok-options_in-in-Ok-clause-taken c =
    let known = c.in_ok-command.ensures in
    let words : List (List ℕ) = map (λ s. string_bytes s) c.args.words.now in
    ap (λ a. fault_of a words) (sym known) ∙ c.in-Ok.ensures.kinds (ap is_simple_and_free known)

pub returns-in_ok-cut-in-Err-clause-memory : goal.returns-in_ok-cut-in-Err-clause-memory
returns-in_ok-cut-in-Err-clause-memory c =
    let known = c.in_ok-command.ensures in
    let words : List (List ℕ) = map (λ s. string_bytes s) c.args.words.now in
    λ none. elim (c.in-Err.ensures.kinds (ap is_simple_and_free known)) [
      | inl h ↦ absurd (false≢true (sym c.if-is_out_of_memory.false ∙ c.is_out_of_memory.ensures.1 h))
      | inr k ↦ absurd (subst (λ ks. IsAmong (kind_of c.in-Err.error) ks) (ap (λ a. fault_of a words) known ∙ none) k)
    ]
