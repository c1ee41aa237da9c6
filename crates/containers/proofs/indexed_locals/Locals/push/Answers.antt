use Rattle.std.proofs.Common.{◌≡◌, ◌<◌, ◌≤◌, ◌++◌, ◌∷◌, ℕ, List, [], length, map, position, cond, Some, None}
use Rattle.std.proofs.Common.{ap, sym, ◌∙◌, arith}
use Rattle.std.specs.Str.{bytes_eq}
use Rattle.std.proofs.lemmas.List.{length-map, map-append}
use Rattle.std.proofs.lemmas.Bool.Decides.{nat_tests}
use Rattle.ht_values.specs.Text.{folded, same}
use Rattle.containers.specs.declared.variables.Local.{Local}
use Rattle.name_lists.specs.Places.{place_kept, place_of_name}
use Rattle.name_lists.specs.declared.places.TheConstants.{MOST_SCANNED}
use Rattle.name_lists.proofs.Indexed.{far_added, near_added, position_of-map}
use Rattle.containers.proofs.indexed_locals.Locals.push.Goals as goal

abbrev names : List Local → List (List ℕ)
names ls = map (λ l. l.name) ls

pub invariant_of-self-then-len-lt-MOST_SCANNED : goal.invariant_of-self-then-len-lt-MOST_SCANNED
invariant_of-self-then-len-lt-MOST_SCANNED c =
    let ls = c.self.inside.items.items in
    let counted : c.len.result ≡ length (names ls) = omega
    (arith, c.len.ensures, c.self.inside.items.ok.0, length-map ls (λ l. l.name)) in
    let few : length (names ls) < MOST_SCANNED = grind (arith, nat_tests, counted, c.if-len-lt-MOST_SCANNED.true) in
    let grown : names c.push.new.self.items ≡ names ls ++ c.in_ok-of.field-0 ∷ [] =
    ap names c.in_ok-push.ensures.items ∙ map-append (λ l. l.name) ls _ in
    rw grown
    (near_added MOST_SCANNED (names ls) c.in_ok-of.field-0 (place_kept c.self.inside.places) c.self.invariant few)

pub invariant_of-self-2 : goal.invariant_of-self-2
invariant_of-self-2 c =
    let ls = c.self.inside.items.items in
    let name = c.args.name.now in
    let counted : c.len.result ≡ length (names ls) = omega
    (arith, c.len.ensures, c.self.inside.items.ok.0, length-map ls (λ l. l.name)) in
    let many : MOST_SCANNED ≤ length (names ls) = grind (arith, nat_tests, counted, c.if-len-lt-MOST_SCANNED.false) in
    let size : c.len-2.result ≡ length (names ls) = omega (
      arith,
      c.reserve.ensures.items,
      c.reserve.new.self.ok.0,
      c.len-2.ensures,
      ap length c.reserve.ensures.items,
      length-map ls (λ l. l.name),
    ) in
    let grown : names c.push_reserved.new.self.items ≡ names ls ++ c.in_ok-of.field-0 ∷ [] =
    ap names c.push_reserved.ensures.items
    ∙ ap (λ xs. names (xs ++ record { name = c.in_ok-of.field-0; value = c.args.value } ∷ [])) c.reserve.ensures.items
    ∙ map-append (λ l. l.name) ls _ in
    let absent : place_of_name name (names ls) ≡ None = sym (position_of-map (λ l. l.name) (λ n. same n name) ls)
    ∙ ap (position (λ l. same l.name name)) c.self.view_is ∙ c.requires in
    let updates : (q : List ℕ) → place_kept c.keep.new.self q
    ≡ cond (bytes_eq (folded name) (folded q)) (Some (length (names ls))) (place_kept c.self.inside.places q) =
    λ q. c.in_ok-keep.ensures.ok q
    ∙ ap (λ n. cond (bytes_eq (folded name) (folded q)) (Some n) (place_kept c.self.inside.places q)) size in
    rw grown
    (far_added MOST_SCANNED (names ls) c.in_ok-of.field-0 (place_kept c.self.inside.places) (place_kept c.keep.new.self)
    c.self.invariant many name c.in_ok-of.ensures absent updates)
