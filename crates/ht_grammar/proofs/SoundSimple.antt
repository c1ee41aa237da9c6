-- What is read as a container or as a statement on one line is of the grammar.
use Rattle.std.proofs.Common.{◌≡◌, ℕ, zero, suc, List, ◌∷◌, length, Option, Some, None, refl, sym, subst, codes}
use Rattle.std.proofs.lemmas.Option.{none-some}
use Rattle.std.specs.Prelude.{is_some}
use Rattle.ht_lex.specs.declared.key.Key.TheVariants as k
use Rattle.ht_lex.specs.Token.{Token, key, first_kind, later, is_key}
use Rattle.ht_lex.specs.Token as token
use Rattle.ht_values.specs.declared.word.Prop.{Prop}
use Rattle.ht_grammar.specs.declared.vocabulary.RunProp.{RunProp}
use Rattle.ht_grammar.specs.declared.vocabulary.Layer.{Layer}
use Rattle.ht_grammar.specs.declared.vocabulary.Layer.TheVariants as layer
use Rattle.ht_values.specs.declared.word.Where.TheVariants as place
use Rattle.ht_grammar.specs.Trees.{Expr, Exprs, Container, none, kind_of_part}
use Rattle.ht_grammar.specs.Trees as t
use Rattle.ht_grammar.specs.Statements.{Destination, Stmt}
use Rattle.ht_grammar.specs.Statements as s
use Rattle.ht_grammar.specs.Depth.{destination_depth}
use Rattle.ht_grammar.specs.Fronts.{after_of, past_the, same_name, prop_front}
use Rattle.ht_grammar.specs.Ends.{past_to}
use Rattle.ht_grammar.specs.Expressions.{Derives, DerivesList, DerivesContainer, whole}
use Rattle.ht_grammar.specs.Expressions as e
use Rattle.ht_grammar.specs.Grammar.{Context, names_handler, DerivesNames, DerivesDestination, DerivesSimple}
use Rattle.ht_grammar.specs.Grammar as g
use Rattle.ht_grammar.specs.Reading.{Parser, made, read, list_at, part_at, chunk_at, field_at, if_field, inner_ref}
use Rattle.ht_grammar.specs.Reading.{referenced_layer, selector_at, of_part}
use Rattle.ht_grammar.specs.Lines.{container, container_by, chunk_container, deleted, names_at, begins_expr, after_key}
use Rattle.ht_grammar.specs.Lines.{put_by, place_front, set_by, set_run_by, run_prop_front, destination_at}
use Rattle.ht_grammar.specs.Lines.{destination_by, exit_by, simple_at, simple_within}
use Rattle.ht_grammar.proofs.Steps.{became, taken, making, tested}
use Rattle.ht_grammar.proofs.Owner.{card_sound, background_sound, fitted}
use Rattle.ht_grammar.proofs.Sound.{joined, chosen, if_fielded, after, part_sound, chunk_sound, inner_sound}
use Rattle.ht_grammar.proofs.Sound.{list_sound, read_sound}
use Rattle.ht_grammar.proofs.Keys.{keyed, by_key, from_key, to_key, ended_by_key}

field_container : (d : ℕ) (ts : List Token) (q : Container × List Token)
    → made t.in_field (field_at (read d) d ts) ≡ Some q → DerivesContainer ts q.0 q.1
unfolding field_at
field_container d ts q same = making t.in_field (field_at (read d) d ts) (λ q. DerivesContainer ts q.0 q.1) same (λ v h.
    taken (part_at (read d) d ts) (λ p. if_field (kind_of_part p) p) (DerivesContainer ts (t.in_field v.0) v.1) h
    (λ p i h.
    if_fielded (kind_of_part p.0) p.0 p.1 v (λ v. DerivesContainer ts (t.in_field v.0) v.1) h
    (λ f. e.in_field (part_sound (read d) d (read_sound d) ts p i) f)))

-- The first argument reads only what the grammar has.
module _ (again : Parser Container) (d : ℕ)
    (good : (ts : List Token) (q : Container × List Token) → again ts ≡ Some q → DerivesContainer ts q.0 q.1) where
  chunk_taken : (ts : List Token) (q : Container × List Token) → chunk_container again d ts ≡ Some q
      → DerivesContainer ts q.0 q.1
  chunk_taken ts q same = taken (chunk_at (read d) d ts) (λ h r.
      made (t.in_chunk h) (of_part (read d) d again (after_of r))) _ same (λ h i same.
      making (t.in_chunk h.0) (of_part (read d) d again (after_of h.1)) (λ q. DerivesContainer ts q.0 q.1) same (λ v f.
      after (read d) d (read_sound d) again h.1 v (DerivesContainer ts (t.in_chunk h.0 v.0) v.1) f (λ b o j.
      e.in_chunk (chunk_sound (read d) d (read_sound d) ts h i) o (good b v j))))

  container_step : (ts : List Token) (q : Container × List Token) → container_by again d (first_kind ts) ts ≡ Some q
      → DerivesContainer ts q.0 q.1
  container_step (token.name w ∷ ts) q same = became (λ q. DerivesContainer (token.name w ∷ ts) q.0 q.1) same e.variable
  container_step (key (k.Part p) ∷ ts) q same = field_container d _ q same
  container_step (key k.Card ∷ ts) q same = field_container d _ q same
  container_step (key k.Background ∷ ts) q same = field_container d _ q same
  container_step (key (k.Ordinal n) ∷ key (k.Piece p) ∷ ts) q same = chunk_taken _ q same
  container_step (key (k.Ordinal n) ∷ ts) q same = field_container d _ q same
  container_step ts q same = chunk_taken _ q same

pub container_sound : (d : ℕ) (ts : List Token) (q : Container × List Token) → container d ts ≡ Some q
    → DerivesContainer ts q.0 q.1
unfolding container
container_sound zero ts q same = absurd (none-some _ same)
container_sound (suc d) ts q same = container_step (container d) d (container_sound d) ts q same

pub names_sound : (n : ℕ) (ts : List Token) (q : List (List ℕ) × List Token) → names_at n ts ≡ Some q
    → DerivesNames ts q.0 q.1
unfolding names_at
names_sound zero ts q same = absurd (none-some _ same)
names_sound (suc n) (token.name w ∷ key k.CommaSign ∷ ts) q same = making (λ ws. w ∷ ws) (names_at n ts)
    (λ q. DerivesNames (token.name w ∷ key k.CommaSign ∷ ts) q.0 q.1) same (λ p h. g.more_names (names_sound n ts p h))
names_sound (suc n) (token.name w ∷ ts) q same = became (λ q. DerivesNames (token.name w ∷ ts) q.0 q.1) same g.one_name
names_sound (suc n) ts q same = absurd (none-some _ same)

pub whole_list : (d n : ℕ) (ts : List Token) (q : Exprs × List Token) → list_at (read d) d n none ts ≡ Some q
    → DerivesList ts q.0 q.1
unfolding joined
whole_list d n ts q same = let l = list_sound (read d) d (read_sound d) n none ts q same in let grown : l.xs
    ≡ q.0 = sym l.grown in subst (λ v. DerivesList ts v q.1) grown l.derives

module _ (d : ℕ) (x : Context) where
  put_sound : (a m : List Token) (v : Expr) (q : Stmt × List Token) → Derives whole a v m
      → put_by d x (place_front d x (first_kind m)) v m ≡ Some q → DerivesSimple x (key k.Put ∷ a) q.0 q.1
  put_sound a (key k.Into ∷ m) v q h same = making (s.put_in place.Into v) (container d m)
      (λ q. DerivesSimple x (key k.Put ∷ a) q.0 q.1) same (λ p i. g.put_in h refl (container_sound d m p i))
  put_sound a (key k.Before ∷ m) v q h same = making (s.put_in place.Before v) (container d m)
      (λ q. DerivesSimple x (key k.Put ∷ a) q.0 q.1) same (λ p i. g.put_in h refl (container_sound d m p i))
  put_sound a (key k.After ∷ m) v q h same = making (s.put_in place.After v) (container d m)
      (λ q. DerivesSimple x (key k.Put ∷ a) q.0 q.1) same (λ p i. g.put_in h refl (container_sound d m p i))
  put_sound a m v q h same = became (λ q. DerivesSimple x (key k.Put ∷ a) q.0 q.1) same (g.put h)

  set_run_sound : (a ts : List Token) (o : Option RunProp) (q : Stmt × List Token) → past_the a ≡ ts
      → run_prop_front ts ≡ o → set_run_by d x o ts ≡ Some q → DerivesSimple x (key k.Set ∷ a) q.0 q.1
  set_run_sound a (token.name w ∷ ts) (Some p) q f h same = keyed to_key (λ m.
      made (s.set_run p) (read d whole m)) ts _ same (λ m i same.
      making (s.set_run p) (read d whole m) (λ q. DerivesSimple x (key k.Set ∷ a) q.0 q.1) same (λ v j.
      g.set_run (subst (λ l. past_the a ≡ token.name w ∷ l) i f) h (read_sound d whole m v j)))
  set_run_sound a ts None q f h same = absurd (none-some _ same)
  set_run_sound a ts o q f h same = cc

  set_sound : (a : List Token) (o : Option Prop) (q : Stmt × List Token) → prop_front (past_the a) ≡ o
      → set_by d x o (past_the a) ≡ Some q → DerivesSimple x (key k.Set ∷ a) q.0 q.1
  set_sound a (Some p) q f same = taken (of_part (read d) d (inner_ref (read d) d) (after_of (later (past_the a))))
      (λ r. after_key k.To (λ m. made (s.set p r) (read d whole m))) _ same (λ r h same.
      keyed to_key (λ m. made (s.set p r.0) (read d whole m)) r.1 _ same (λ m i same.
      making (s.set p r.0) (read d whole m) (λ q. DerivesSimple x (key k.Set ∷ a) q.0 q.1) same (λ v j.
      after (read d) d (read_sound d) (inner_ref (read d) d) (later (past_the a)) r
      (DerivesSimple x (key k.Set ∷ a) (s.set p r.0 v.0) v.1) h (λ b o l.
      g.set f o (subst (λ c. e.DerivesRef b r.0 c) i (inner_sound (read d) d (read_sound d) b r l))
      (read_sound d whole m v j)))))
  set_sound a None q f same = set_run_sound a (past_the a) (run_prop_front (past_the a)) q refl refl same

  destination_sound : (ts : List Token) (l : Option Layer) (q : Destination × List Token) → referenced_layer ts ≡ l
      → destination_by d x l ts ≡ Some q → DerivesDestination ts q.0 q.1
  destination_sound ts (Some layer.Card) q f same = making s.to_card (selector_at (read d) d ts)
      (λ q. DerivesDestination ts q.0 q.1) same
      (λ p h. g.destination_card (card_sound (read d) d (read_sound d) ts p f h))
  destination_sound ts (Some layer.Background) q f same = making s.to_background (selector_at (read d) d ts)
      (λ q. DerivesDestination ts q.0 q.1) same
      (λ p h. g.destination_background (background_sound (read d) d (read_sound d) ts p f h))
  destination_sound (key k.This ∷ ts) None q f same =
      became (λ q. DerivesDestination (key k.This ∷ ts) q.0 q.1) same g.this_alone
  destination_sound (key k.Next ∷ ts) None q f same =
      became (λ q. DerivesDestination (key k.Next ∷ ts) q.0 q.1) same g.next_alone
  destination_sound (key k.Previous ∷ ts) None q f same =
      became (λ q. DerivesDestination (key k.Previous ∷ ts) q.0 q.1) same g.previous_alone
  destination_sound (key (k.Ordinal n) ∷ ts) None q f same =
      became (λ q. DerivesDestination (key (k.Ordinal n) ∷ ts) q.0 q.1) same g.nth_alone
  destination_sound ts None q f same = absurd (none-some _ same)

  go_sound : (a : List Token) (q : Stmt × List Token) → made s.go (destination_at d x (past_to a)) ≡ Some q
      → DerivesSimple x (key k.Go ∷ a) q.0 q.1
  unfolding destination_at
  go_sound a q same =
      making s.go (destination_at d x (past_to a)) (λ q. DerivesSimple x (key k.Go ∷ a) q.0 q.1) same (λ p h.
      g.go (destination_sound (past_to a) (referenced_layer (past_to a)) p refl
      (fitted (read d) d (read_sound d) destination_depth
      (destination_by d x (referenced_layer (past_to a)) (past_to a)) p h)))

  exit_sound : (ts : List Token) (q : Stmt × List Token) → exit_by d x (first_kind ts) ts ≡ Some q
      → DerivesSimple x (key k.Exit ∷ ts) q.0 q.1
  exit_sound (key k.Repeat ∷ ts) q same = tested x.in_repeat _ same (λ b same.
      became (λ q. DerivesSimple x (key k.Exit ∷ key k.Repeat ∷ ts) q.0 q.1) same (g.exit_repeat b))
  exit_sound (key k.To ∷ token.name w ∷ ts) q same = tested (same_name w (codes "HyperCard")) _ same (λ b same.
      became (λ q. DerivesSimple x (key k.Exit ∷ key k.To ∷ token.name w ∷ ts) q.0 q.1) same (g.exit_to_hypercard b))
  exit_sound (token.name w ∷ ts) q same = tested (names_handler x.handler w) _ same (λ b same.
      became (λ q. DerivesSimple x (key k.Exit ∷ token.name w ∷ ts) q.0 q.1) same (g.exit b))
  exit_sound ts q same = absurd (none-some _ same)

  deleted_sound : (a m : List Token) (c : Container) (q : Stmt × List Token) → DerivesContainer a c m
      → deleted c m ≡ Some q → DerivesSimple x (key k.Delete ∷ a) q.0 q.1
  deleted_sound a m (t.in_chunk h c) q (e.in_chunk f o i) same =
      became (λ q. DerivesSimple x (key k.Delete ∷ a) q.0 q.1) same (g.delete f o i)
  deleted_sound a m (t.variable w) q h same = absurd (none-some _ same)
  deleted_sound a m (t.in_field p) q h same = absurd (none-some _ same)

  pub simple_sound : (ts : List Token) (q : Stmt × List Token) → simple_at d x ts ≡ Some q → DerivesSimple x ts q.0 q.1
  unfolding simple_at is_key
  simple_sound (token.name w ∷ ts) q same = chosen (begins_expr (first_kind ts)) _ same (λ b same.
      making (s.command w) (list_at (read d) d (suc (length ts)) none ts) (λ q.
      DerivesSimple x (token.name w ∷ ts) q.0 q.1) same (λ p h. g.command (whole_list d (suc (length ts)) ts p h)))
      (λ b same. became (λ q. DerivesSimple x (token.name w ∷ ts) q.0 q.1) same g.command_bare)
  simple_sound (key k.Put ∷ ts) q same = taken (read d whole ts) (λ e r.
      put_by d x (place_front d x (first_kind r)) e r) _ same (λ p h same.
      put_sound ts p.1 p.0 q (read_sound d whole ts p h) same)
  simple_sound (key k.Get ∷ ts) q same = making s.get (read d whole ts) (λ q. DerivesSimple x (key k.Get ∷ ts) q.0 q.1)
      same (λ p h. g.get (read_sound d whole ts p h))
  simple_sound (key k.Set ∷ ts) q same = set_sound ts (prop_front (past_the ts)) q refl same
  simple_sound (key k.Add ∷ ts) q same = taken (read d whole ts) (λ e.
      after_key k.To (λ m. made (s.add e) (container d m))) _ same (λ p h same.
      keyed to_key (λ m. made (s.add p.0) (container d m)) p.1 _ same (λ m i same.
      making (s.add p.0) (container d m) (λ q. DerivesSimple x (key k.Add ∷ ts) q.0 q.1) same (λ v j.
      g.add (ended_by_key (read_sound d whole ts p h) i) (container_sound d m v j))))
  simple_sound (key k.Subtract ∷ ts) q same = taken (read d whole ts) (λ e.
      after_key k.From (λ m. made (s.subtract e) (container d m))) _ same (λ p h same.
      keyed from_key (λ m. made (s.subtract p.0) (container d m)) p.1 _ same (λ m i same.
      making (s.subtract p.0) (container d m) (λ q. DerivesSimple x (key k.Subtract ∷ ts) q.0 q.1) same (λ v j.
      g.subtract (ended_by_key (read_sound d whole ts p h) i) (container_sound d m v j))))
  simple_sound (key k.Multiply ∷ ts) q same = taken (container d ts) (λ c.
      after_key k.By (λ m. made (s.multiply c) (read d whole m))) _ same (λ p h same.
      keyed by_key (λ m. made (s.multiply p.0) (read d whole m)) p.1 _ same (λ m i same.
      making (s.multiply p.0) (read d whole m) (λ q. DerivesSimple x (key k.Multiply ∷ ts) q.0 q.1) same (λ v j.
      g.multiply (subst (λ c. DerivesContainer ts p.0 c) i (container_sound d ts p h)) (read_sound d whole m v j))))
  simple_sound (key k.Divide ∷ ts) q same = taken (container d ts) (λ c.
      after_key k.By (λ m. made (s.divide c) (read d whole m))) _ same (λ p h same.
      keyed by_key (λ m. made (s.divide p.0) (read d whole m)) p.1 _ same (λ m i same.
      making (s.divide p.0) (read d whole m) (λ q. DerivesSimple x (key k.Divide ∷ ts) q.0 q.1) same (λ v j.
      g.divide (subst (λ c. DerivesContainer ts p.0 c) i (container_sound d ts p h)) (read_sound d whole m v j))))
  simple_sound (key k.Delete ∷ ts) q same = taken (container d ts) deleted _ same (λ p h same.
      deleted_sound ts p.1 p.0 q (container_sound d ts p h) same)
  simple_sound (key k.Do ∷ ts) q same = making s.do_ (read d whole ts) (λ q. DerivesSimple x (key k.Do ∷ ts) q.0 q.1)
      same (λ p h. g.do_ (read_sound d whole ts p h))
  simple_sound (key k.Send ∷ ts) q same = taken (read d whole ts) (λ e.
      after_key k.To (λ m. made (s.send e) (inner_ref (read d) d m))) _ same (λ p h same.
      keyed to_key (λ m. made (s.send p.0) (inner_ref (read d) d m)) p.1 _ same (λ m i same.
      making (s.send p.0) (inner_ref (read d) d m) (λ q. DerivesSimple x (key k.Send ∷ ts) q.0 q.1) same (λ v j.
      g.send (ended_by_key (read_sound d whole ts p h) i) (inner_sound (read d) d (read_sound d) m v j))))
  simple_sound (key k.Go ∷ ts) q same = go_sound ts q same
  simple_sound (key k.Global ∷ ts) q same = making s.global (names_at (suc (length ts)) ts)
      (λ q. DerivesSimple x (key k.Global ∷ ts) q.0 q.1) same (λ p h. g.global (names_sound (suc (length ts)) ts p h))
  simple_sound (key k.Exit ∷ ts) q same = exit_sound ts q same
  simple_sound (key k.Next ∷ key k.Repeat ∷ ts) q same = tested x.in_repeat _ same (λ b same.
      became (λ q. DerivesSimple x (key k.Next ∷ key k.Repeat ∷ ts) q.0 q.1) same (g.next_repeat b))
  simple_sound (key k.Pass ∷ token.name w ∷ ts) q same = tested (names_handler x.handler w) _ same (λ b same.
      became (λ q. DerivesSimple x (key k.Pass ∷ token.name w ∷ ts) q.0 q.1) same (g.pass b))
  simple_sound (key k.Return ∷ ts) q same = tested (is_some x.handler) _ same (λ b same.
      chosen (begins_expr (first_kind ts)) _ same (λ f same.
      making s.return_value (read d whole ts) (λ q. DerivesSimple x (key k.Return ∷ ts) q.0 q.1) same (λ p h.
      g.return_value b (read_sound d whole ts p h))) (λ f same.
      became (λ q. DerivesSimple x (key k.Return ∷ ts) q.0 q.1) same (g.return_nothing b)))
  simple_sound ts q same = absurd (none-some _ same)

pub within_sound : (d : ℕ) (x : Context) (ts : List Token) (q : Stmt × List Token) → simple_within d x ts ≡ Some q
    → DerivesSimple x ts q.0 q.1
within_sound zero x ts q same = absurd (none-some _ same)
within_sound (suc d) x ts q same = simple_sound d x ts q same
