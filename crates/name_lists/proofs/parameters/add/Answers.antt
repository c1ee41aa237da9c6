use Rattle.std.proofs.Common.{◌≡◌, ◌<◌, ◌≤◌, ◌++◌, ◌∷◌, ℕ, List, [], length, cond, Option, Some, None}
use Rattle.std.proofs.Common.{ap, sym, ◌∙◌, arith}
use Rattle.std.specs.Str.{bytes_eq}
use Rattle.std.proofs.lemmas.List.{length-map, map-append}
use Rattle.std.proofs.lemmas.Bool.Decides.{nat_tests}
use Rattle.ht_values.specs.Text.{folded, same}
use Rattle.name_lists.specs.Places.{place_in, place_of_name}
use Rattle.name_lists.specs.Parameters.{names_bound}
use Rattle.name_lists.specs.declared.places.TheConstants.{MOST_SCANNED}
use Rattle.name_lists.proofs.Indexed.{far_added, near_added, position_of-map}
use Rattle.name_lists.proofs.parameters.add.Goals as goal

pub returns-then-len-lt-MOST_SCANNED-clause-places : goal.returns-then-len-lt-MOST_SCANNED-clause-places
returns-then-len-lt-MOST_SCANNED-clause-places c =
    let bs = c.args.bound.now.bindings.items in
    let name : List ℕ = c.args.name in
    let counted : c.len.result ≡ length (names_bound bs) = omega
    (arith, c.len.ensures, c.args.bound.now.bindings.ok.0, length-map bs (λ b. b.name)) in
    let few : length (names_bound bs) < MOST_SCANNED =
    grind (arith, nat_tests, counted, c.if-len-lt-MOST_SCANNED.true) in
    let grown : names_bound c.push.new.self.items ≡ names_bound bs ++ name ∷ [] =
    ap names_bound c.in_ok-push.ensures.items ∙ map-append (λ b. b.name) bs _ in
    rw grown
    (near_added MOST_SCANNED (names_bound bs) name (place_in c.args.bound.now.places) c.requires.indexed few)

pub returns-clause-places : goal.returns-clause-places
returns-clause-places c =
    let bs = c.args.bound.now.bindings.items in
    let name : List ℕ = c.args.name in
    let old : List ℕ → Option ℕ = place_in c.args.bound.now.places in
    let counted : c.len.result ≡ length (names_bound bs) = omega
    (arith, c.len.ensures, c.args.bound.now.bindings.ok.0, length-map bs (λ b. b.name)) in
    let many : MOST_SCANNED ≤ length (names_bound bs) =
    grind (arith, nat_tests, counted, c.if-len-lt-MOST_SCANNED.false) in
    let size : c.len-2.result ≡ length (names_bound bs) = omega
    (arith, c.len-2.ensures, c.args.bound.now.bindings.ok.0, length-map bs (λ b. b.name)) in
    let grown : names_bound c.push-2.new.self.items ≡ names_bound bs ++ name ∷ [] =
    ap names_bound c.in_ok-push-2.ensures.items ∙ map-append (λ b. b.name) bs _ in
    let absent : place_of_name name (names_bound bs) ≡ None =
    sym (position_of-map (λ b. b.name) (λ n. same n name) bs) ∙ c.requires.absent in
    let updates : (q : List ℕ) → place_in c.keep.new.self q
    ≡ cond (bytes_eq (folded name) (folded q)) (Some (length (names_bound bs))) (old q) =
    λ q. c.in_ok-keep.ensures.ok q
    ∙ ap (λ t. cond (bytes_eq t (folded q)) (Some c.len-2.result) (old q)) c.form.ensures.form
    ∙ ap (λ n. cond (bytes_eq (folded name) (folded q)) (Some n) (old q)) size in
    rw grown
    (far_added MOST_SCANNED (names_bound bs) name old (place_in c.keep.new.self) c.requires.indexed many
    name (sym c.form.ensures.value ∙ c.form.ensures.form) absent updates)
