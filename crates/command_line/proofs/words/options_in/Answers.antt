use Rattle.std.proofs.Common.{◌≡◌, List, ℕ, [], Option, Some, None, option_map, unwrap_or, codes, refl, ap, ◌∙◌}
use Rattle.std.specs.Borrow.{Bor}
use Rattle.clap.specs.Words.{found_of}
use Rattle.clap.proofs.WalkLemmas.{one_text-rows, first_value-rows}
use Rattle.command_line.proofs.words.options_in.Goals as goal

given_or : (o : Option (Bor (List ℕ))) (d : Bor (List ℕ))
    → (unwrap_or o d).now ≡ unwrap_or (option_map (λ s. s.now) o) d.now
given_or None d = refl
given_or (Some s) d = refl

pub returns : goal.returns
returns c =
    let f = found_of c.args.matches.now in
    record {
      stack = c.in_ok-from_str.ensures.ok ∙ ap (λ s. s.now) c.unwrap_or.ensures ∙ given_or c.get_str.result _
          ∙ ap (λ o. unwrap_or o []) (c.get_str.ensures ∙ first_value-rows f (codes "STACK"));
      steps = c.number.ensures.value;
      depth = c.number-2.ensures.value;
      watch = record {
        none = λ e. c.get_flag.ensures.none (one_text-rows f (codes "watch") ∙ e);
        yes = λ e. c.get_flag.ensures.value (one_text-rows f (codes "watch") ∙ e);
        no = λ e. c.get_flag.ensures.other (one_text-rows f (codes "watch") ∙ e);
      };
      explain = record {
        none = λ e. c.get_flag-2.ensures.none (one_text-rows f (codes "explain") ∙ e);
        yes = λ e. c.get_flag-2.ensures.value (one_text-rows f (codes "explain") ∙ e);
        no = λ e. c.get_flag-2.ensures.other (one_text-rows f (codes "explain") ∙ e);
      };
      check = record {
        none = λ e. c.get_flag-3.ensures.none (one_text-rows f (codes "check") ∙ e);
        yes = λ e. c.get_flag-3.ensures.value (one_text-rows f (codes "check") ∙ e);
        no = λ e. c.get_flag-3.ensures.other (one_text-rows f (codes "check") ∙ e);
      };
    }
