-- Reading whole texts: it answers just the trees of the grammar, and the tokens have one at most.
use Rattle.std.proofs.Common.{◌≡◌, ℕ, suc, ◌≤◌, length, arith, map, List, [], ◌∷◌, Bool, true, false, Option, Some}
use Rattle.std.proofs.Common.{None, nat_le, cond, refl, sym, ap, ◌∙◌, subst, le-leb, leb-true}
use Rattle.std.proofs.lemmas.Bool.{cond-true}
use Rattle.ht_lex.specs.Token.{Token, key, first_kind, token_in}
use Rattle.ht_lex.specs.declared.key.Key.TheVariants as k
use Rattle.ht_values.specs.declared.word.PartKind.{PartKind}
use Rattle.ht_values.specs.declared.word.PartKind.TheVariants as part_kind
use Rattle.ht_lex.proofs.Cutting.{cut_once}
use Rattle.ht_lex.specs.Token as token
use Rattle.ht_grammar.specs.Trees.{Part, Owner, no_owner, on_card, on_background, owner_of, kind_of_part, none}
use Rattle.ht_grammar.specs.Statements.{Message, message, Typed}
use Rattle.ht_grammar.specs.Depth.{depth, part_depth, stmts_depth, handlers_depth, message_depth, max_depth}
use Rattle.ht_grammar.specs.Ends.{past_ends}
use Rattle.ht_grammar.specs.Expressions.{DerivesList, whole}
use Rattle.ht_grammar.specs.Grammar.{DerivesMessage, at_large}
use Rattle.ht_grammar.specs.Grammar as g
use Rattle.ht_grammar.specs.Reads.{ReadsExpr, ReadsLines, ReadsScript, ReadsMessage, ReadsPart, ReadsType, reads_type}
use Rattle.ht_grammar.specs.Reading.{Outcome, made, read, list_at, part_at, all_of, not_too_deep, expression}
use Rattle.ht_grammar.specs.Lines.{begins_expr, blocks, lines, typed_lines}
use Rattle.ht_grammar.specs.Whole.{handlers_at, script, unowned_by, unowned, clicked_part, field_for, typed_for}
use Rattle.ht_grammar.specs.Whole.{typed_text, message_by, sent_by, sent_message}
use Rattle.ht_grammar.specs.Laws.{ReadsExactly, OneTree, OneTreePerText}
use Rattle.ht_grammar.proofs.Steps.{became, making}
use Rattle.ht_grammar.proofs.Sound.{read_sound, part_sound, joined}
use Rattle.ht_grammar.proofs.SoundSimple.{whole_list}
use Rattle.ht_grammar.proofs.SoundLines.{blocks_sound}
use Rattle.ht_grammar.proofs.Follow.{loose_end}
use Rattle.ht_grammar.proofs.ShorterLines.{shorter_ends}
use Rattle.ht_grammar.proofs.Complete.{read_complete, make, list_begins, claim_list, claim_part}
use Rattle.ht_grammar.proofs.CompleteLines.{lines_complete}
use Rattle.ht_grammar.proofs.Handlers.{handlers_sound, handlers_complete}

-- All tokens were taken.
pub whole_of : {A : Type 0} (r : Outcome A) (x : A) → all_of r ≡ Some x → r ≡ Some (x, [])
whole_of None x e = cc
whole_of (Some (y, [])) x e = let same : y ≡ x = cc in ap (λ v. Some (v, [])) same
whole_of (Some (y, t ∷ ts)) x e = cc

-- a tree that is read, and not too deep
pub record IsShallow {A : Type 0} (height : A → ℕ) (o : Option A) (x : A) : Type 0 where
  pub is : o ≡ Some x
  pub fits : height x ≤ max_depth

pub kept : {A : Type 0} (height : A → ℕ) (o : Option A) (x : A) → not_too_deep height o ≡ Some x → IsShallow height o x
kept height None x e = cc
kept {A} height (Some y) x e = go (nat_le (height y) max_depth) refl e
  where
    go : (b : Bool) → nat_le (height y) max_depth ≡ b → cond b (Some y) None ≡ Some x → IsShallow height (Some y) x
    go true f e = let same : y ≡ x = cc in
        record { is = ap Some same; fits = subst (λ v. height v ≤ max_depth) same (leb-true (height y) max_depth f) }
    go false f e = cc

pub keeps : {A : Type 0} (height : A → ℕ) {o : Option A} {x : A} → o ≡ Some x → height x ≤ max_depth
    → not_too_deep height o ≡ Some x
keeps height {o} {x} e le =
    ap (not_too_deep height) e ∙ cond-true (nat_le (height x) max_depth) (Some x) None (le-leb (height x) max_depth le)

pub one_tree : {A : Type 0} {read : List Token → Option A} {IsRead : List Token → A → Type 0} → ReadsExactly read IsRead
    → OneTree IsRead
one_tree h ts tree other a b = let same : Some tree ≡ Some other = sym ((h ts tree).1 a) ∙ (h ts other).1 b in cc

pub one_tree_per_text : {A : Type 0} {read : List Token → Option A} {IsRead : List Token → A → Type 0}
    → ReadsExactly read IsRead → OneTreePerText IsRead
one_tree_per_text {IsRead = IsRead} h text tree other a b =
    let same : a.spans ≡ b.spans = (cut_once a.cut b.cut).0 in
    one_tree h (map (token_in text) b.spans) tree other
    (subst (λ spans. IsRead (map (token_in text) spans) tree) same a.reads) b.reads

pub expressions_exact : ReadsExactly expression ReadsExpr
expressions_exact ts e = (sound, complete)
  where
    sound : expression ts ≡ Some e → ReadsExpr ts e
    sound h = let w = kept depth (all_of (read max_depth whole ts)) e h in
        record {
          derives = read_sound max_depth whole ts (e, []) (whole_of (read max_depth whole ts) e w.is);
          fits =
              w.fits;
        }

    complete : ReadsExpr ts e → expression ts ≡ Some e
    complete r = keeps depth (ap all_of (read_complete max_depth ts e r.derives r.fits)) r.fits

pub lines_exact : ReadsExactly typed_lines ReadsLines
unfolding token.is_key
lines_exact ts ss = (sound, complete)
  where
    sound : typed_lines ts ≡ Some ss → ReadsLines ts ss
    sound h = let w = kept stmts_depth (all_of (blocks max_depth lines at_large (past_ends ts))) ss h in
        record {
          derives = blocks_sound max_depth lines at_large (past_ends ts) (ss, [])
              (whole_of (blocks max_depth lines at_large (past_ends ts)) ss w.is);
          fits = w.fits;
        }

    complete : ReadsLines ts ss → typed_lines ts ≡ Some ss
    complete r = keeps stmts_depth (ap all_of (lines_complete max_depth r.derives r.fits refl refl)) r.fits

pub scripts_exact : ReadsExactly script ReadsScript
scripts_exact ts hs = (sound, complete)
  where
    sound : script ts ≡ Some hs → ReadsScript ts hs
    sound h = let w = kept handlers_depth (all_of (handlers_at (suc (length ts)) (past_ends ts))) hs h in
        record {
          derives = handlers_sound (suc (length ts)) (past_ends ts) (hs, [])
              (whole_of (handlers_at (suc (length ts)) (past_ends ts)) hs w.is);
          fits = w.fits;
        }

    complete : ReadsScript ts hs → script ts ≡ Some hs
    complete r = keeps handlers_depth
        (ap all_of (handlers_complete r.derives r.fits (suc (length ts)) (omega (arith, shorter_ends ts)))) r.fits

-- a part that was kept, since it has no owner
record Unowned (o : Option Part) (p : Part) : Type 0 where
  is : o ≡ Some p
  free : owner_of p ≡ no_owner

unowned_is : (o : Option Part) (p : Part) → unowned o ≡ Some p → Unowned o p
unowned_is None p e = cc
unowned_is (Some v) p e = go (owner_of v) refl e
  where
    go : (o : Owner) → owner_of v ≡ o → unowned_by o v ≡ Some p → Unowned (Some v) p
    go no_owner f e =
        let same : v ≡ p = cc in record { is = ap Some same; free = subst (λ p. owner_of p ≡ no_owner) same f }
    go (on_card s) f e = cc
    go (on_background s) f e = cc

pub parts_exact : ReadsExactly clicked_part ReadsPart
parts_exact ts p = (sound, complete)
  where
    sound : clicked_part ts ≡ Some p → ReadsPart ts p
    sound h =
        let w = kept part_depth (unowned (all_of (part_at (read max_depth) max_depth ts))) p h in
        let u = unowned_is (all_of (part_at (read max_depth) max_depth ts)) p w.is in
        record {
          derives = part_sound (read max_depth) max_depth (read_sound max_depth) ts (p, [])
              (whole_of (part_at (read max_depth) max_depth ts) p u.is);
          unowned = u.free;
          fits = w.fits;
        }

    complete : ReadsPart ts p → clicked_part ts ≡ Some p
    complete r = keeps part_depth (ap (λ o. unowned (all_of o))
        (claim_part r.derives max_depth (omega (arith, r.fits)) (omega (arith, loose_end)))
        ∙ ap (λ o. unowned_by o p) r.unowned) r.fits

typed_sound : (w : List ℕ) (a : List Token) (o : Option Part) (v : Typed) → clicked_part a ≡ o → typed_for w o ≡ Some v
    → ReadsType (token.quoted w ∷ key k.Into ∷ a) v
typed_sound w a None v e f = cc
typed_sound w a (Some p) v e f = go (kind_of_part p) refl f
  where
    go : (h : PartKind) → kind_of_part p ≡ h → field_for h w p ≡ Some v → ReadsType (token.quoted w ∷ key k.Into ∷ a) v
    go part_kind.Field i f =
        became (λ v. ReadsType (token.quoted w ∷ key k.Into ∷ a) v) f (reads_type ((parts_exact a p).0 e) i)
    go part_kind.Button i f = cc

typing_sound : (ts : List Token) (v : Typed) → typed_text ts ≡ Some v → ReadsType ts v
typing_sound (token.quoted w ∷ key k.Into ∷ a) v e = typed_sound w a (clicked_part a) v refl e
typing_sound ts v e = cc

typing_complete : (ts : List Token) (v : Typed) → ReadsType ts v → typed_text ts ≡ Some v
typing_complete ts v (reads_type {w} {a} {p} r f) =
    ap (typed_for w) ((parts_exact a p).1 r) ∙ ap (λ h. field_for h w p) f

pub typing_exact : ReadsExactly typed_text ReadsType
typing_exact ts v = (typing_sound ts v, typing_complete ts v)

sent_sound : (ts : List Token) (q : Message × List Token) → sent_by (first_kind ts) ts ≡ Some q → q.1 ≡ []
    → DerivesMessage ts q.0
sent_sound (token.name w ∷ []) q e =
    became (λ q. q.1 ≡ [] → DerivesMessage (token.name w ∷ []) q.0) e (λ _. g.message_bare)
sent_sound (token.name w ∷ t ∷ ts) q e = making (message w)
    (list_at (read max_depth) max_depth (suc (length ts)) none (t ∷ ts))
    (λ q. q.1 ≡ [] → DerivesMessage (token.name w ∷ t ∷ ts) q.0) e (λ p h nothing.
    g.message_given (subst (λ c. DerivesList (t ∷ ts) p.0 c) nothing
    (whole_list max_depth (suc (length ts)) (t ∷ ts) p h)))
sent_sound ts q e = cc

message_goes : (w : List ℕ) (a : List Token) → begins_expr (first_kind a) ≡ true
    → message_by (first_kind a) w a ≡ made (message w) (list_at (read max_depth) max_depth (length a) none a)
message_goes w [] f = cc
message_goes w (t ∷ ts) f = refl

sent_complete : (ts : List Token) (v : Message) → DerivesMessage ts v → message_depth v ≤ max_depth
    → sent_by (first_kind ts) ts ≡ Some (v, [])
unfolding joined
sent_complete ts v g.message_bare fits = refl
sent_complete ts v (g.message_given {w} {a} {es} h) fits = message_goes w a (list_begins h)
    ∙ make (message w) (claim_list h max_depth fits loose_end refl (length a) none (omega arith))

pub messages_exact : ReadsExactly sent_message ReadsMessage
messages_exact ts v = (sound, complete)
  where
    sound : sent_message ts ≡ Some v → ReadsMessage ts v
    sound h = let w = kept message_depth (all_of (sent_by (first_kind ts) ts)) v h in
        record { derives = sent_sound ts (v, []) (whole_of (sent_by (first_kind ts) ts) v w.is) refl; fits = w.fits }

    complete : ReadsMessage ts v → sent_message ts ≡ Some v
    complete r = keeps message_depth (ap all_of (sent_complete ts v r.derives r.fits)) r.fits
