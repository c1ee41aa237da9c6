use Rattle.std.proofs.Common.{◌≡◌, ◌-◌, [], ap, sym, ◌∙◌}
use Rattle.std.proofs.Math.ListN.{get_or}
use Rattle.std.specs.Char.{to_ascii_lowercase}
use Rattle.ht_values.specs.Text.{entry}
use Rattle.ht_lex.proofs.Reserved.{initial, rows_by_letter, found_under, none_found, short_is_free}
use Rattle.ht_lex.proofs.names.key_of.Goals as goal

pub returns-then-word-lt2 : goal.returns-then-word-lt2
returns-then-word-lt2 c = sym (short_is_free c.args.word.now c.if-word-lt2.true)

pub returns-then-not-is_ascii_lowercase : goal.returns-then-not-is_ascii_lowercase
returns-then-not-is_ascii_lowercase c =
    sym (none_found c.args.word.now c.to_ascii_lowercase-first.result
    (c.to_ascii_lowercase-first.ensures.value ∙ ap to_ascii_lowercase c.byte_at.ensures)
    (sym c.is_ascii_lowercase.ensures.value ∙ c.if-not-is_ascii_lowercase.true))

pub returns : goal.returns
returns c =
    let first : c.to_ascii_lowercase-first.result ≡ initial c.args.word.now =
    c.to_ascii_lowercase-first.ensures.value ∙ ap to_ascii_lowercase c.byte_at.ensures in
    c.key_among.ensures
    ∙ ap (λ rows. entry rows c.args.word.now)
    (c.rows_at.ensures ∙ ap (λ table. get_or table (c.to_ascii_lowercase-first.result - 97) []) rows_by_letter)
    ∙ found_under c.args.word.now c.to_ascii_lowercase-first.result first c.if-not-is_ascii_lowercase.ensures.cases.0
    c.if-not-is_ascii_lowercase.ensures.cases.1
