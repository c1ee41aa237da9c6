use Rattle.std.proofs.Common.{◌≡◌, ◌+◌, ◌++◌, [], ◌∷◌, length, rules, arith, sym, ap, subst, append-nil}
use Rattle.ht_lex.specs.declared.lexeme.Lexeme.TheVariants.{Gap, Token, Nothing}
use Rattle.ht_lex.specs.declared.tokens.Span.{Span}
use Rattle.ht_lex.specs.Tokens.{Cuts, IsCut, IsStuck, InOrder, halt, gap, token}
use Rattle.ht_lex.proofs.Spans.{order_snoc, order_wider}
use Rattle.ht_lex.proofs.Cutting.{cut_once, end_cut, taken_in, longest_there, fits_there}
use Rattle.ht_lex.proofs.cut.lex.Goals as goal

pub loop-place-preserved-in-Gap : goal.loop-place-preserved-in-Gap
loop-place-preserved-in-Gap c =
    let i = c.loop-place.invariant in
    let text = c.as_slice-text.result.now in
    let place = c.loop-place.place in
    record {
      grown = λ rest stop h. i.grown rest stop
          (gap (longest_there text place (Gap c.in-Gap.size) c.in-Gap.ensures.value) h);
      ordered = order_wider c.loop-place.spans.items 0 place (place + c.in-Gap.size) i.ordered (omega arith);
      within = fits_there text place c.in-Gap.size c.in-Gap.ensures.within.1 i.within;
    }

pub loop-place-preserved : goal.loop-place-preserved
loop-place-preserved c =
    let i = c.loop-place.invariant in
    let text = c.as_slice-text.result.now in
    let place = c.loop-place.place in
    let found = c.loop-place.spans.items in
    let span : Span = record { kind = c.in-Token.kind; start = place; stop = place + c.in-Token.size } in
    let kept : c.push.new.self.items ≡ found ++ span ∷ [] = search rules in
    record {
      grown = λ rest stop h. subst (λ v. Cuts text 0 (v ++ rest) stop) (sym kept)
          (taken_in found span rest (i.grown (span ∷ rest) stop
          (token (longest_there text place (Token c.in-Token.kind c.in-Token.size) c.in-Token.ensures.value) h)));
      ordered = subst (λ v. InOrder 0 v span.stop) (sym kept)
          (order_snoc found 0 place span i.ordered (omega arith) (omega (arith, c.in-Token.ensures.within.0)));
      within = fits_there text place c.in-Token.size c.in-Token.ensures.within.1 i.within;
    }

pub returns-in-Nothing-clause-stuck : goal.returns-in-Nothing-clause-stuck
returns-in-Nothing-clause-stuck c =
    let i = c.loop-place.invariant in
    let text = c.as_slice-text.result.now in
    let place = c.loop-place.place in
    let h : IsStuck text place = record {
      spans = c.loop-place.spans.items ++ [];
      cuts = i.grown [] place (halt (longest_there text place Nothing c.in-Nothing.ensures.value));
      within = c.loop-place-test.true;
    } in
    subst (λ v. IsStuck v place) c.as_slice-text.ensures.value h

pub returns-in-Nothing-clause-only : goal.returns-in-Nothing-clause-only
returns-in-Nothing-clause-only c = λ spans stop h. (cut_once (returns-in-Nothing-clause-stuck c).cuts h).1

pub returns-clause-found : goal.returns-clause-found
returns-clause-found c =
    let i = c.loop-place.invariant in
    let text = c.as_slice-text.result.now in
    let place = c.loop-place.place in
    let found = c.loop-place.spans.items in
    let whole : place ≡ length text = omega arith in
    let cuts = i.grown [] place (end_cut text place c.loop-place-test.false) in
    let h : IsCut text found =
    subst (λ v. Cuts text 0 found v) whole (subst (λ v. Cuts text 0 v place) (append-nil found) cuts) in
    let there = subst (λ v. IsCut v found) c.as_slice-text.ensures.value h in
    subst (λ v. IsCut c.args.text.now v) (sym (ap (λ v. v.spans) c.new.ensures)) there

pub returns-clause-only : goal.returns-clause-only
returns-clause-only c = λ spans stop h. cut_once (returns-clause-found c) h
