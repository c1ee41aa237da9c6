-- Each statement takes a token at least.
use Rattle.std.proofs.Common.{◌≡◌, ℕ, ◌<◌, ◌≤◌, List, [], ◌∷◌, length, Some, ap, arith, cond, Bool, true, false, codes}
use Rattle.ht_lex.specs.declared.key.Key.TheVariants as k
use Rattle.ht_lex.specs.Token.{Token, key, eol, later}
use Rattle.ht_lex.specs.Token as token
use Rattle.ht_grammar.specs.Trees.{Container}
use Rattle.ht_grammar.specs.Statements.{Destination, Head, Stmt, Stmts, Handler}
use Rattle.ht_grammar.specs.Fronts.{past_the, same_name}
use Rattle.ht_grammar.specs.Ends.{past_ends, ended, past_for, past_to, past_times}
use Rattle.ht_grammar.specs.Expressions.{DerivesContainer}
use Rattle.ht_grammar.specs.Expressions as e
use Rattle.ht_grammar.specs.Grammar.{Context, DerivesNames, DerivesDestination, DerivesSimple, DerivesHead}
use Rattle.ht_grammar.specs.Grammar.{DerivesStmt, DerivesLines, DerivesElse, DerivesParams, DerivesHandler}
use Rattle.ht_grammar.specs.Grammar as g
use Rattle.ht_grammar.proofs.Shorter.{shorter, shorter_list, shorter_chunk, shorter_ref, shorter_selector}
use Rattle.ht_grammar.proofs.Shorter.{shorter_part, shorter_of, shorter_the, shorter_later}

pub shorter_ends : (ts : List Token) → length (past_ends ts) ≤ length ts
shorter_ends [] = omega arith
shorter_ends (eol ∷ ts) = omega (arith, shorter_ends ts)
shorter_ends (t ∷ ts) = omega arith

pub shorter_ended : (m : List Token) {b : List Token} → ended m ≡ Some b → length b ≤ length m
unfolding ended
shorter_ended [] {b} f = let same : [] ≡ b = cc in omega (arith, ap (length {A = Token}) same)
shorter_ended (eol ∷ ts) {b} f =
    let same : past_ends ts ≡ b = cc in omega (arith, ap (length {A = Token}) same, shorter_ends ts)
shorter_ended m f = cc

shorter_for : (ts : List Token) → length (past_for ts) ≤ length ts
shorter_for [] = omega arith
shorter_for (key k.For ∷ ts) = omega arith
shorter_for (t ∷ ts) = omega arith

shorter_to : (ts : List Token) → length (past_to ts) ≤ length ts
shorter_to [] = omega arith
shorter_to (key k.To ∷ ts) = omega arith
shorter_to (t ∷ ts) = omega arith

shorter_times : (ts : List Token) → length (past_times ts) ≤ length ts
unfolding past_times
shorter_times (token.name w ∷ ts) = go (same_name w (codes "times"))
  where
    go : (b : Bool) → length (cond b ts (token.name w ∷ ts)) ≤ length (token.name w ∷ ts)
    go true = omega arith
    go false = omega arith
shorter_times [] = omega arith
shorter_times (t ∷ ts) = omega arith

shorter_container : {a c : List Token} {x : Container} → DerivesContainer a x c → length c < length a
shorter_container e.variable = omega arith
shorter_container (e.in_field h f) = shorter_part h
shorter_container (e.in_chunk {m = m} h o i) = omega (arith, shorter_chunk h, shorter_of m o, shorter_container i)

pub shorter_names : {a c : List Token} {ws : List (List ℕ)} → DerivesNames a ws c → length c < length a
shorter_names g.one_name = omega arith
shorter_names (g.more_names h) = omega (arith, shorter_names h)

shorter_destination : {a c : List Token} {v : Destination} → DerivesDestination a v c → length c < length a
shorter_destination (g.destination_card h) = shorter_selector h
shorter_destination (g.destination_background h) = shorter_selector h
shorter_destination g.this_alone = omega arith
shorter_destination g.next_alone = omega arith
shorter_destination g.previous_alone = omega arith
shorter_destination g.nth_alone = omega arith

pub shorter_simple : {x : Context} {a c : List Token} {v : Stmt} → DerivesSimple x a v c → length c < length a
shorter_simple (g.put h) = omega (arith, shorter h)
shorter_simple (g.put_in h f i) = omega (arith, shorter h, shorter_container i)
shorter_simple (g.get h) = omega (arith, shorter h)
shorter_simple (g.set {a = a} f o h i) = omega
    (arith, shorter_the a, shorter_later (past_the a), shorter_of (later (past_the a)) o, shorter_ref h, shorter i)
shorter_simple (g.set_run {a = a} f o h) = omega (arith, shorter_the a, ap (length {A = Token}) f, shorter h)
shorter_simple (g.add h i) = omega (arith, shorter h, shorter_container i)
shorter_simple (g.subtract h i) = omega (arith, shorter h, shorter_container i)
shorter_simple (g.multiply h i) = omega (arith, shorter_container h, shorter i)
shorter_simple (g.divide h i) = omega (arith, shorter_container h, shorter i)
shorter_simple (g.delete {m = m} h o i) = omega (arith, shorter_chunk h, shorter_of m o, shorter_container i)
shorter_simple (g.do_ h) = omega (arith, shorter h)
shorter_simple (g.send h i) = omega (arith, shorter h, shorter_ref i)
shorter_simple (g.go {a = a} h) = omega (arith, shorter_to a, shorter_destination h)
shorter_simple (g.global h) = omega (arith, shorter_names h)
shorter_simple (g.exit_repeat f) = omega arith
shorter_simple (g.next_repeat f) = omega arith
shorter_simple (g.exit_to_hypercard f) = omega arith
shorter_simple (g.exit f) = omega arith
shorter_simple (g.pass f) = omega arith
shorter_simple (g.return_nothing f) = omega arith
shorter_simple (g.return_value f h) = omega (arith, shorter h)
shorter_simple g.command_bare = omega arith
shorter_simple (g.command h) = omega (arith, shorter_list h)

shorter_head : {a c : List Token} {h : Head} → DerivesHead a h c → length c ≤ length a
shorter_head g.no_head = omega arith
shorter_head g.forever = omega arith
shorter_head (g.times {a = a} {m = m} h) = omega (arith, shorter_for a, shorter h, shorter_times m)
shorter_head (g.while h) = omega (arith, shorter h)
shorter_head (g.until h) = omega (arith, shorter h)
shorter_head (g.counted_up h i) = omega (arith, shorter h, shorter i)
shorter_head (g.counted_down h f i) = omega (arith, shorter h, shorter i)

mutual
  pub shorter_stmt : {x : Context} {a c : List Token} {v : Stmt} → DerivesStmt x a v c → length c < length a
  shorter_stmt (g.simple h) = shorter_simple h
  shorter_stmt (g.short {m = m} h f i) =
      omega (arith, shorter h, shorter_ends m, ap (length {A = Token}) f, shorter_simple i)
  shorter_stmt (g.short_else {m = m} {n = n} h f i j l) = omega (
    arith,
    shorter h,
    shorter_ends m,
    ap (length {A = Token}) f,
    shorter_simple i,
    shorter_ends n,
    ap
        (length {A = Token}) j,
    shorter_simple l,
  )
  shorter_stmt (g.long {b = b} {m = m} h f i j l) = omega
      (arith, shorter h, shorter_ends m, ap (length {A = Token}) f, shorter_ended b i, shorter_lines j, shorter_else l)
  shorter_stmt (g.repeat {m = m} h f i) = omega (arith, shorter_head h, shorter_ended m f, shorter_lines i)

  pub shorter_lines : {x : Context} {a c : List Token} {v : Stmts} → DerivesLines x a v c → length c ≤ length a
  shorter_lines g.done = omega arith
  shorter_lines (g.line {m = m} h f i) = omega (arith, shorter_stmt h, shorter_ended m f, shorter_lines i)

  pub shorter_else : {x : Context} {a c : List Token} {v : Stmts} → DerivesElse x a v c → length c < length a
  shorter_else g.end_if = omega arith
  shorter_else (g.else_lines {a = a} f h) = omega (arith, shorter_ended a f, shorter_lines h)
  shorter_else (g.else_if {b = b} {m = m} h f i j l) = omega
      (arith, shorter h, shorter_ends m, ap (length {A = Token}) f, shorter_ended b i, shorter_lines j, shorter_else l)

shorter_params : {a c : List Token} {ws : List (List ℕ)} → DerivesParams a ws c → length c ≤ length a
shorter_params g.no_params = omega arith
shorter_params (g.params h) = omega (arith, shorter_names h)

pub shorter_handler : {a c : List Token} {h : Handler} → DerivesHandler a h c → length c < length a
shorter_handler (g.handler {m = m} {n = n} f h i j l o) =
    omega (arith, shorter_params h, shorter_ended m i, shorter_lines j, shorter_ended n o)
