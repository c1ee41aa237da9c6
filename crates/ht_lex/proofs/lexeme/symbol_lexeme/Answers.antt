use Rattle.std.proofs.Common.{◌≡◌, ap, arith, rules, slice_index, ◌∙◌, sym, subst}
use Rattle.ht_lex.specs.Lexemes.{FitsIn, symbol_among, symbol_lexeme}
use Rattle.ht_lex.proofs.Symbols.{hyphen_is_symbol, rows_of_symbols, symbol_fits}
use Rattle.ht_lex.proofs.lexeme.symbol_lexeme.Goals as goal

pub returns-then-first-eq45-clause-value : goal.returns-then-first-eq45-clause-value
returns-then-first-eq45-clause-value c =
    let first : slice_index c.args.text.now 0 ≡ 45 = first_of (search rules, grind arith) in
    sym (hyphen_is_symbol c.args.text.now first)

pub returns-clause-value : goal.returns-clause-value
unfolding symbol_lexeme
returns-clause-value c =
    c.symbol_among.ensures ∙ ap (λ rows. symbol_among rows c.args.text.now) rows_of_symbols

pub returns-clause-within : goal.returns-clause-within
returns-clause-within c =
    subst (FitsIn c.args.text.now) (sym (returns-clause-value c)) (symbol_fits c.args.text.now)
