-- Handlers are read exactly.
use Rattle.std.proofs.Common.{◌≡◌, ℕ, zero, suc, ◌<◌, ◌≤◌, List, [], ◌∷◌, length, Some, refl, ap, ◌∙◌, subst, arith}
use Rattle.std.proofs.lemmas.Bool.{cond-true}
use Rattle.ht_lex.specs.declared.key.Key.{Key}
use Rattle.ht_lex.specs.declared.key.Key.TheVariants as k
use Rattle.ht_lex.specs.Token.{Token, key, eol, first_kind, is_key}
use Rattle.ht_lex.specs.Token as token
use Rattle.ht_grammar.specs.declared.vocabulary.HandlerKind.{HandlerKind}
use Rattle.ht_grammar.specs.declared.vocabulary.HandlerKind.TheVariants as handler_kind
use Rattle.ht_grammar.specs.Statements.{Stmts, Handler, handler, Handlers, and_handler}
use Rattle.ht_grammar.specs.Depth.{handlers_depth, max_depth}
use Rattle.ht_grammar.specs.Fronts.{same_name}
use Rattle.ht_grammar.specs.Ends.{ended}
use Rattle.ht_grammar.specs.Grammar.{in_handler, kind_of_handler, DerivesLines, DerivesNames, DerivesParams}
use Rattle.ht_grammar.specs.Grammar.{DerivesHandler, DerivesHandlers}
use Rattle.ht_grammar.specs.Grammar as g
use Rattle.ht_grammar.specs.Reading.{and_then, made}
use Rattle.ht_grammar.specs.Lines.{blocks, lines, names_at, after_key, ended_then}
use Rattle.ht_grammar.specs.Whole.{name_by, body_at, params_by, named_by, handler_by, handlers_at}
use Rattle.ht_grammar.proofs.Steps.{became, taken, making, tested}
use Rattle.ht_grammar.proofs.Keys.{keyed, past_end, end_key}
use Rattle.ht_grammar.proofs.SoundSimple.{names_sound}
use Rattle.ht_grammar.proofs.SoundLines.{blocks_sound}
use Rattle.ht_grammar.proofs.FollowLines.{stop_no_comma, ended_stops}
use Rattle.ht_grammar.proofs.ShorterLines.{shorter_handler}
use Rattle.ht_grammar.proofs.Complete.{step, make}
use Rattle.ht_grammar.proofs.CompleteSimple.{claim_names}
use Rattle.ht_grammar.proofs.CompleteLines.{lines_complete}

bare_params : (ts : List Token) (q : List (List ℕ) × List Token) → Some ([], ts) ≡ Some q → DerivesParams ts q.0 q.1
bare_params ts q same = became (λ q. DerivesParams ts q.0 q.1) same g.no_params

params_sound : (ts : List Token) (q : List (List ℕ) × List Token) → params_by (first_kind ts) ts ≡ Some q
    → DerivesParams ts q.0 q.1
params_sound (token.name w ∷ ts) q same = g.params (names_sound (suc (length ts)) (token.name w ∷ ts) q same)
params_sound ts q same = bare_params _ q same

name_sound : (h : Key) (f : HandlerKind) (w : List ℕ) (a l m : List Token) (ps : List (List ℕ)) (ss : Stmts)
    (n : List Token) (q : Handler × List Token) → kind_of_handler h ≡ Some f → DerivesParams a ps m → ended m ≡ Some l
    → DerivesLines (in_handler w) l ss (key k.End ∷ n) → name_by (first_kind n) w (handler f w ps ss) n ≡ Some q
    → DerivesHandler (key h ∷ token.name w ∷ a) q.0 q.1
name_sound h f w a l m ps ss (token.name v ∷ n) q e i j o same =
    let P : Type 0 = DerivesHandler (key h ∷ token.name w ∷ a) q.0 q.1 in
    tested (same_name w v) P same (λ b same.
    past_end (ended n) (λ c. Some (handler f w ps ss, c)) P same (λ c r same.
    became (λ q. DerivesHandler (key h ∷ token.name w ∷ a) q.0 q.1) same (g.handler e i j o b r)))
name_sound h f w a l m ps ss n q e i j o same = cc

body_sound : (h : Key) (f : HandlerKind) (w : List ℕ) (a m : List Token) (ps : List (List ℕ)) (q : Handler × List Token)
    → kind_of_handler h ≡ Some f → DerivesParams a ps m → body_at f w ps m ≡ Some q
    → DerivesHandler (key h ∷ token.name w ∷ a) q.0 q.1
body_sound h f w a m ps q e i same =
    let P : Type 0 = DerivesHandler (key h ∷ token.name w ∷ a) q.0 q.1 in
    past_end (ended m) (λ l. and_then (blocks max_depth lines (in_handler w) l)
    (λ ss. after_key k.End (λ r. name_by (first_kind r) w (handler f w ps ss) r))) P same (λ l j same.
    taken (blocks max_depth lines (in_handler w) l)
    (λ ss. after_key k.End (λ r. name_by (first_kind r) w (handler f w ps ss) r)) P same (λ v o same.
    keyed end_key (λ r. name_by (first_kind r) w (handler f w ps v.0) r) v.1 P same (λ n r same.
    name_sound h f w a l m ps v.0 n q e i j
    (subst (λ c. DerivesLines (in_handler w) l v.0 c) r (blocks_sound max_depth lines (in_handler w) l v o)) same)))

named_sound : (h : Key) (f : HandlerKind) (ts : List Token) (q : Handler × List Token) → kind_of_handler h ≡ Some f
    → named_by (first_kind ts) f ts ≡ Some q → DerivesHandler (key h ∷ ts) q.0 q.1
named_sound h f (token.name w ∷ ts) q e same = taken (params_by (first_kind ts) ts) (λ ps.
    body_at f w ps) _ same (λ p i same. body_sound h f w ts p.1 p.0 q e (params_sound ts p i) same)
named_sound h f ts q e same = cc

handler_sound : (ts : List Token) (q : Handler × List Token) → handler_by (first_kind ts) ts ≡ Some q
    → DerivesHandler ts q.0 q.1
handler_sound (key k.On ∷ ts) q same = named_sound k.On handler_kind.Command ts q refl same
handler_sound (key k.Function ∷ ts) q same = named_sound k.Function handler_kind.Function ts q refl same
handler_sound ts q same = cc

-- What is read as handlers is derived.
pub handlers_sound : (n : ℕ) (ts : List Token) (q : Handlers × List Token) → handlers_at n ts ≡ Some q
    → DerivesHandlers ts q.0
unfolding handlers_at is_key
handlers_sound zero ts q same = cc
handlers_sound (suc n) [] q same = became (λ q. DerivesHandlers [] q.0) same g.no_handlers
handlers_sound (suc n) (t ∷ ts) q same = taken (handler_by (first_kind (t ∷ ts)) (t ∷ ts))
    (λ h r. made (and_handler h) (handlers_at n r)) (DerivesHandlers (t ∷ ts) q.0) same (λ p h same.
    making (and_handler p.0) (handlers_at n p.1) (λ q. DerivesHandlers (t ∷ ts) q.0) same
    (λ v i. g.and_handler (handler_sound (t ∷ ts) p h) (handlers_sound n p.1 v i)))

no_params_read : (m : List Token) {l : List Token} → ended m ≡ Some l → params_by (first_kind m) m ≡ Some ([], m)
unfolding ended is_key
no_params_read [] f = refl
no_params_read (eol ∷ ts) f = refl
no_params_read m f = cc

names_are_params : {a c : List Token} {ws : List (List ℕ)} → DerivesNames a ws c
    → params_by (first_kind a) a ≡ names_at (length a) a
names_are_params g.one_name = refl
names_are_params (g.more_names h) = refl

claim_params : {a m : List Token} {ps : List (List ℕ)} → DerivesParams a ps m → {l : List Token} → ended m ≡ Some l
    → params_by (first_kind a) a ≡ Some (ps, m)
claim_params (g.no_params {c}) f = no_params_read c f
claim_params (g.params {a} {c} {ws} h) f =
    names_are_params h ∙ claim_names h (stop_no_comma c (ended_stops c f)) (length a) (omega arith)

handler_goes : (h : Key) (f : HandlerKind) (ts : List Token) → kind_of_handler h ≡ Some f
    → handler_by (first_kind (key h ∷ ts)) (key h ∷ ts) ≡ named_by (first_kind ts) f ts
handler_goes k.On f ts e = let same : handler_kind.Command ≡ f = cc in ap (λ f. named_by (first_kind ts) f ts) same
handler_goes k.Function f ts e =
    let same : handler_kind.Function ≡ f = cc in ap (λ f. named_by (first_kind ts) f ts) same
handler_goes h f ts e = cc

-- Handlers that are in the grammar, and not too deep, are read.
pub handlers_complete : {ts : List Token} {hs : Handlers} → DerivesHandlers ts hs → handlers_depth hs ≤ max_depth
    → (n : ℕ) → length ts < n → handlers_at n ts ≡ Some (hs, [])
unfolding handlers_at is_key
handlers_complete g.no_handlers fits zero le = absurd (omega arith)
handlers_complete g.no_handlers fits (suc n) le = refl
handlers_complete (g.and_handler i j) fits zero le = absurd (omega arith)
handlers_complete (g.and_handler {b = b} {hs = hs}
    (g.handler {h} {f} {w} {v} {ps} {ss} {a} {c} {l} {m} {n = r} e i j o s t) q) fits (suc n) le =
    let given = g.handler e i j o s t in
    step (λ h r. made (and_handler h) (handlers_at n r))
    (handler_goes h f (token.name w ∷ a) e
    ∙ step (λ ps. body_at f w ps) (claim_params i j)
    ∙ ap (λ o. ended_then o (λ l. and_then (blocks max_depth lines (in_handler w) l)
    (λ ss. after_key k.End (λ r. name_by (first_kind r) w (handler f w ps ss) r)))) j
    ∙ step (λ ss. after_key k.End (λ r. name_by (first_kind r) w (handler f w ps ss) r))
    (lines_complete max_depth o (omega arith) refl refl)
    ∙ cond-true (same_name w v) _ _ s
    ∙ ap (λ o. ended_then o (λ c. Some (handler f w ps ss, c))) t)
    ∙ make (and_handler (handler f w ps ss))
    (handlers_complete q (omega arith) n (omega (arith, shorter_handler given)))
