-- What is in the grammar is read: containers and statements on one line.
use Rattle.std.proofs.Common.{◌≡◌, ℕ, zero, suc, ◌<◌, ◌≤◌, inl, inr, List, [], ◌∷◌, length, true, false, Some, None}
use Rattle.std.proofs.Common.{codes, refl, sym, ap, ◌∙◌, subst, arith, is_some}
use Rattle.std.proofs.lemmas.Bool.{cond-true, cond-false}
use Rattle.ht_lex.specs.declared.key.Key.TheVariants as k
use Rattle.ht_lex.specs.Token.{Token, key, first_kind, later, is_key}
use Rattle.ht_lex.specs.Token as token
use Rattle.ht_grammar.specs.Trees.{Expr, Chunk, Container, Part, none, kind_of_part}
use Rattle.ht_grammar.specs.Trees as t
use Rattle.ht_grammar.specs.Statements.{Destination, Stmt}
use Rattle.ht_grammar.specs.Statements as s
use Rattle.ht_grammar.specs.Depth.{depth, ref_depth, container_depth, destination_depth, stmt_depth}
use Rattle.ht_grammar.specs.Fronts.{after_of, past_the, same_name, prop_front}
use Rattle.ht_grammar.specs.Expressions.{Derives, DerivesChunk, DerivesPart, DerivesContainer, whole}
use Rattle.ht_grammar.specs.Expressions as e
use Rattle.ht_grammar.specs.Grammar.{Context, names_handler, DerivesNames, DerivesDestination, DerivesSimple}
use Rattle.ht_grammar.specs.Grammar as g
use Rattle.ht_grammar.specs.Reading.{Parser, and_then, made, read, field_at, if_field, inner_ref, unless_part}
use Rattle.ht_grammar.specs.Reading.{referenced_layer, of_part}
use Rattle.ht_grammar.specs.Lines.{container, container_by, chunk_container, deleted, names_at, names_more}
use Rattle.ht_grammar.specs.Lines.{begins_expr, after_key, put_by, place_front, set_by, set_run_by, destination_at}
use Rattle.ht_grammar.specs.Lines.{destination_by, simple_at}
use Rattle.ht_grammar.proofs.Owner.{referenced_card, referenced_background}
use Rattle.ht_grammar.proofs.Sound.{joined}
use Rattle.ht_grammar.proofs.Begins.{expr_begins}
use Rattle.ht_grammar.proofs.Follow.{tie, tie_no_part, tie_of, past_cases, part_depth_pos, unless_none, part_no_layer}
use Rattle.ht_grammar.proofs.Follow.{chunk_no_layer, loose_to}
use Rattle.ht_grammar.proofs.FollowLines.{stops, stop_loose, stop_no_expr, stop_no_comma, stop_no_place, stop_no_layer}
use Rattle.ht_grammar.proofs.FollowLines.{place_loose, loose_from, loose_by}
use Rattle.ht_grammar.proofs.Names.{run_no_prop}
use Rattle.ht_grammar.proofs.Complete.{step, make, fits_in, is_comma, list_begins, finish, claim}
use Rattle.ht_grammar.proofs.Complete.{claim_list, claim_chunk, claim_ref, claim_selector, claim_part}

container_no_layer : {a c : List Token} {x : Container} → DerivesContainer a x c → referenced_layer a ≡ None
unfolding referenced_layer is_key
container_no_layer e.variable = refl
container_no_layer (e.in_field h f) = part_no_layer h
container_no_layer (e.in_chunk h o i) = chunk_no_layer h

module _ (again : Parser Container) (d : ℕ) where
  container_is_field : {a c : List Token} {p : Part} → DerivesPart a p c
      → container_by again d (first_kind a) a ≡ made t.in_field (field_at (read d) d a)
  container_is_field (e.part e.no_layer w o) = refl
  container_is_field (e.part e.on_card w o) = refl
  container_is_field (e.part e.on_background w o) = refl
  container_is_field (e.nth_part e.no_layer o) = refl
  container_is_field (e.nth_part e.on_card o) = refl
  container_is_field (e.nth_part e.on_background o) = refl

  container_is_chunk : {a c : List Token} {h : Chunk} → DerivesChunk a h c
      → container_by again d (first_kind a) a ≡ chunk_container again d a
  container_is_chunk (e.piece i) = refl
  container_is_chunk (e.pieces i j) = refl
  container_is_chunk (e.nth_piece {n} {p} {a} {c} f) = elim (past_cases a (key (k.Ordinal n) ∷ key (k.Piece p) ∷ c) f) [
    | inl same ↦ subst (λ v. container_by again d (first_kind v) v ≡ chunk_container again d v) (sym same) refl
    | inr same ↦ subst (λ v. container_by again d (first_kind v) v ≡ chunk_container again d v) (sym same) refl
  ]

pub claim_container : {a : List Token} {x : Container} {c : List Token} → DerivesContainer a x c → (d : ℕ)
    → container_depth x ≤ d → 1 < tie c → container d a ≡ Some (x, c)
unfolding container field_at is_key
claim_container e.variable zero fits f = absurd (omega arith)
claim_container e.variable (suc d) fits f = refl
claim_container (e.in_field {p = p} h i) zero fits f = absurd (omega (arith, part_depth_pos p))
claim_container (e.in_field {a} {c} {p} h i) (suc d) fits f =
    container_is_field (container d) d h
    ∙ make t.in_field (step (λ p. if_field (kind_of_part p) p) (claim_part h d fits f) ∙ ap (λ v. if_field v p c) i)
claim_container (e.in_chunk h o i) zero fits f = absurd (omega arith)
claim_container (e.in_chunk {a} {b} {c} {m} {h} {x} l o i) (suc d) fits f =
    container_is_chunk (container d) d l
    ∙ step (λ h r. made (t.in_chunk h) (of_part (read d) d (container d) (after_of r)))
    (claim_chunk l d (omega arith) (omega (arith, tie_of m o (container_no_layer i))) b o)
    ∙ ap (λ v. made (t.in_chunk h) (of_part (read d) d (container d) v)) o
    ∙ make (t.in_chunk h) (claim_container i d (omega arith) f)

names_stop : (again : Parser (List (List ℕ))) (c : List Token) → is_comma c ≡ false
    → names_more again (first_kind c) c ≡ Some ([], c)
names_stop again (key k.CommaSign ∷ c) f = cc
names_stop again [] f = refl
names_stop again (x ∷ c) f = refl

pub claim_names : {a : List Token} {ws : List (List ℕ)} {c : List Token} → DerivesNames a ws c → is_comma c ≡ false
    → (n : ℕ) → length a ≤ n → names_at n a ≡ Some (ws, c)
unfolding names_at is_key
claim_names g.one_name f zero le = absurd (omega arith)
claim_names (g.one_name {w} {c}) f (suc n) le = make (λ ws. w ∷ ws) (names_stop (names_at n) c f)
claim_names (g.more_names h) f zero le = absurd (omega arith)
claim_names (g.more_names {w} {ws} {a} {c} h) f (suc n) le = make (λ ws. w ∷ ws) (claim_names h f n (omega arith))

claim_destination : {a : List Token} {v : Destination} {c : List Token} → DerivesDestination a v c
    → (d : ℕ) (x : Context) → destination_depth v ≤ d → stops c ≡ true → destination_at d x a ≡ Some (v, c)
unfolding destination_at referenced_layer is_key
claim_destination (g.destination_card {a} {c} {p} h) d x fits f =
    let loose = stop_loose c f in
    fits_in (read d) d destination_depth
    (ap (λ l. destination_by d x l a) (referenced_card h (tie_no_part c (omega (arith, loose))))
    ∙ make s.to_card (claim_selector h refl d (omega arith) (omega (arith, loose)))) fits
claim_destination (g.destination_background {a} {c} {p} h) d x fits f =
    let loose = stop_loose c f in
    fits_in (read d) d destination_depth
    (ap (λ l. destination_by d x l a) (referenced_background h (tie_no_part c (omega (arith, loose))))
    ∙ make s.to_background (claim_selector h refl d (omega arith) (omega (arith, loose)))) fits
claim_destination (g.this_alone {c}) d x fits f =
    fits_in (read d) d destination_depth (ap (λ l. destination_by d x l (key k.This ∷ c)) (stop_no_layer c f)) fits
claim_destination (g.next_alone {c}) d x fits f =
    fits_in (read d) d destination_depth (ap (λ l. destination_by d x l (key k.Next ∷ c)) (stop_no_layer c f)) fits
claim_destination (g.previous_alone {c}) d x fits f =
    fits_in (read d) d destination_depth (ap (λ l. destination_by d x l (key k.Previous ∷ c)) (stop_no_layer c f)) fits
claim_destination (g.nth_alone {n} {c}) d x fits f =
    fits_in (read d) d destination_depth
    (ap (λ l. destination_by d x (unless_part (first_kind (later c)) l) (key (k.Ordinal n) ∷ c)) (stop_no_layer c f)
    ∙ ap (λ l. destination_by d x l (key (k.Ordinal n) ∷ c)) (unless_none (first_kind (later c)))) fits

-- a whole expression, before what ends it
pub ahead : {a c : List Token} {v : Expr} → Derives whole a v c → (d : ℕ) → depth v ≤ d → 9 < tie c
    → read d whole a ≡ Some (v, c)
ahead {a} {c} {v} h d fits loose = finish whole a v c (claim h) d fits loose

pub claim_simple : {x : Context} {a : List Token} {v : Stmt} {c : List Token} → DerivesSimple x a v c → (d : ℕ)
    → stmt_depth v ≤ suc d → stops c ≡ true → simple_at d x a ≡ Some (v, c)
unfolding simple_at joined inner_ref is_key
claim_simple (g.put {x} {a} {c} {e = v} h) d fits f =
    step (λ e r. put_by d x (place_front d x (first_kind r)) e r) (ahead h d (omega arith) (stop_loose c f))
    ∙ ap (λ o. put_by d x o v c) (stop_no_place d x c f)
claim_simple (g.put_in {x} {h} {a} {b} {c} {w} {e = v} {t} i o j) d fits f =
    step (λ e r. put_by d x (place_front d x (first_kind r)) e r) (ahead i d (omega arith) (place_loose h b o))
    ∙ ap (λ o. put_by d x o v (key h ∷ b)) o
    ∙ make (s.put_in w v) (claim_container j d (omega arith) (omega (arith, stop_loose c f)))
claim_simple (g.get {x} {a} {c} {e = v} h) d fits f = make s.get (ahead h d (omega arith) (stop_loose c f))
claim_simple (g.set {x} {a} {b} {c} {m} {p} {r} {e = v} i o h j) d fits f =
    ap (λ p. set_by d x p (past_the a)) i
    ∙ ap (λ o. and_then (of_part (read d) d (inner_ref (read d) d) o)
    (λ r. after_key k.To (λ m. made (s.set p r) (read d whole m)))) o
    ∙ step (λ r. after_key k.To (λ m. made (s.set p r) (read d whole m)))
    (fits_in (read d) d ref_depth (claim_ref h d (omega arith) (omega (arith, loose_to m))) (omega arith))
    ∙ make (s.set p r) (ahead j d (omega arith) (stop_loose c f))
claim_simple (g.set_run {x} {w} {a} {c} {m} {p} {e = v} i o h) d fits f =
    ap (λ l. set_by d x (prop_front l) l) i
    ∙ ap (λ o. set_by d x o (token.name w ∷ key k.To ∷ m)) (run_no_prop w (key k.To ∷ m) p o)
    ∙ ap (λ o. set_run_by d x o (token.name w ∷ key k.To ∷ m)) o
    ∙ make (s.set_run p) (ahead h d (omega arith) (stop_loose c f))
claim_simple (g.add {x} {a} {b} {c} {e = v} {t} h i) d fits f =
    step (λ e. after_key k.To (λ m. made (s.add e) (container d m))) (ahead h d (omega arith) (loose_to b))
    ∙ make (s.add v) (claim_container i d (omega arith) (omega (arith, stop_loose c f)))
claim_simple (g.subtract {x} {a} {b} {c} {e = v} {t} h i) d fits f =
    step (λ e. after_key k.From (λ m. made (s.subtract e) (container d m))) (ahead h d (omega arith) (loose_from b))
    ∙ make (s.subtract v) (claim_container i d (omega arith) (omega (arith, stop_loose c f)))
claim_simple (g.multiply {x} {a} {b} {c} {t} {e = v} h i) d fits f =
    step (λ t. after_key k.By (λ m. made (s.multiply t) (read d whole m)))
    (claim_container h d (omega arith) (omega (arith, loose_by b)))
    ∙ make (s.multiply t) (ahead i d (omega arith) (stop_loose c f))
claim_simple (g.divide {x} {a} {b} {c} {t} {e = v} h i) d fits f =
    step (λ t. after_key k.By (λ m. made (s.divide t) (read d whole m)))
    (claim_container h d (omega arith) (omega (arith, loose_by b)))
    ∙ make (s.divide t) (ahead i d (omega arith) (stop_loose c f))
claim_simple (g.delete {x} {a} {b} {c} {m} {h} {t} i o j) d fits f =
    step deleted (claim_container (e.in_chunk i o j) d (omega arith) (omega (arith, stop_loose c f)))
claim_simple (g.do_ {x} {a} {c} {e = v} h) d fits f = make s.do_ (ahead h d (omega arith) (stop_loose c f))
claim_simple (g.send {x} {a} {b} {c} {e = v} {r} h i) d fits f =
    step (λ e. after_key k.To (λ m. made (s.send e) (inner_ref (read d) d m))) (ahead h d (omega arith) (loose_to b))
    ∙ make (s.send v) (fits_in (read d) d ref_depth (claim_ref i d (omega arith) (omega (arith, stop_loose c f)))
    (omega arith))
claim_simple (g.go {x} {a} {c} {g = v} h) d fits f = make s.go (claim_destination h d x (omega arith) f)
claim_simple (g.global {x} {a} {c} {ws} h) d fits f =
    make s.global (claim_names h (stop_no_comma c f) (suc (length a)) (omega arith))
claim_simple (g.exit_repeat {x} {c} i) d fits f = cond-true x.in_repeat _ _ i
claim_simple (g.next_repeat {x} {c} i) d fits f = cond-true x.in_repeat _ _ i
claim_simple (g.exit_to_hypercard {x} {w} {c} i) d fits f = cond-true (same_name w (codes "HyperCard")) _ _ i
claim_simple (g.exit {x} {w} {c} i) d fits f = cond-true (names_handler x.handler w) _ _ i
claim_simple (g.pass {x} {w} {c} i) d fits f = cond-true (names_handler x.handler w) _ _ i
claim_simple (g.return_nothing {x} {c} i) d fits f =
    cond-true (is_some x.handler) _ _ i ∙ cond-false (begins_expr (first_kind c)) _ _ (stop_no_expr c f)
claim_simple (g.return_value {x} {a} {c} {e = v} i h) d fits f =
    cond-true (is_some x.handler) _ _ i ∙ cond-true (begins_expr (first_kind a)) _ _ (expr_begins h)
    ∙ make s.return_value (ahead h d (omega arith) (stop_loose c f))
claim_simple (g.command_bare {x} {w} {c}) d fits f = cond-false (begins_expr (first_kind c)) _ _ (stop_no_expr c f)
claim_simple (g.command {x} {w} {a} {c} {es = vs} h) d fits f =
    cond-true (begins_expr (first_kind a)) _ _ (list_begins h)
    ∙ make (s.command w) (claim_list h d (omega arith) (stop_loose c f) (stop_no_comma c f) (suc (length a)) none
    (omega arith))
