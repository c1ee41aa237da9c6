-- Whole texts.
use Rattle.std.proofs.Common.{◌≡◌, ℕ, List, [], ◌∷◌, map, None, Ok, ap, subst, arith, ◌∙◌}
use Rattle.ht_lex.specs.Token.{Token, token_in, first_kind}
use Rattle.ht_lex.specs.Tokens.{Lexed, IsCut, tokens_of}
use Rattle.ht_grammar.specs.Expressions.{rank, whole, Derives}
use Rattle.change_journal.specs.History.{History}
use Rattle.meaning.specs.declared.frame.Frame.{Frame}
use Rattle.meaning.specs.Meaning.{Val}
use Rattle.one_pass.specs.Computed.{Computed, ComputedText, after}

at_end : (ts : List Token) → first_kind ts ≡ None → ts ≡ []
at_end [] e = cc
at_end (t ∷ ts) e = cc

pub computed_text : {w : History} {f : Frame} {text v : List ℕ} {calls old : List (List ℕ)} {n : ℕ}
    {ts rest : List Token} {tokens : Lexed} → IsCut text tokens.spans → tokens.text ≡ text → ts ≡ tokens_of tokens
    → old ≡ [] → Computed w f (rank 7) ts old v n rest calls → first_kind rest ≡ None → ComputedText w f text v calls
computed_text {w = w} {f = f} {text = text} {v = v} {calls = calls} {ts = ts} {rest = rest} {tokens = tokens} cut source all
    nothing c ends =
    let same = all ∙ ap (λ t. map (token_in t) tokens.spans) source in
    let all_of_it = subst (λ t. Derives whole ts c.tree t) (at_end rest ends) c.derives in
    let reached = subst (λ t. Derives whole t c.tree []) same all_of_it in
    record {
      tree = c.tree;
      reads = record {
        spans = tokens.spans;
        cut = cut;
        reads = record { derives = reached; fits = omega (arith, c.deep, c.fits) };
      };
      means = λ r d enough. subst (λ o. Val w (after f.me o r) f d c.tree (Ok v) w (after f.me calls r)) nothing
          (c.means r d enough);
    }
