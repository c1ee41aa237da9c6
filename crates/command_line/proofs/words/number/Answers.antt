use Rattle.std.proofs.Common.{◌≡◌, Some, None, max, min, refl, ap, ◌∙◌}
use Rattle.clap.specs.Words.{found_of}
use Rattle.clap.proofs.WalkLemmas.{one_text-rows}
use Rattle.command_line.proofs.words.number.Goals as goal

pub returns-in-Some-clause-value : goal.returns-in-Some-clause-value
returns-in-Some-clause-value c =
    let here = one_text-rows (found_of c.args.matches.now) c.args.name.now in
    record {
      none = λ e. let no : Some c.in-Some.number ≡ None → c.clamp.result ≡ c.args.unless =
          λ q. cc in no (c.in-Some.ensures.none (here ∙ e));
      some = λ t e r. c.clamp.ensures ∙ ap (λ n. max 1 (min n c.args.most)) (c.in-Some.ensures.value t (here ∙ e)).0.1;
      other = λ t e no. absurd (no (c.in-Some.ensures.value t (here ∙ e)).0.0);
    }

pub returns-in-None-clause-value : goal.returns-in-None-clause-value
returns-in-None-clause-value c =
    let here = one_text-rows (found_of c.args.matches.now) c.args.name.now in
    record {
      none = λ e. refl;
      some = λ t e r. absurd ((c.in-None.ensures.value t (here ∙ e)).1.0 r);
      other = λ t e no. refl;
    }
