-- Expressions, chunks, containers and references have an outcome.
use Rattle.std.proofs.Common.{ℕ, suc, ◌+◌, ◌≤◌, List, [], ◌∷◌, ◌++◌, refl}
use Rattle.ht_values.specs.Functions.{built_in}
use Rattle.ht_values.specs.Number.{number_of}
use Rattle.ht_values.specs.Operators.{unary, binary, truth_of}
use Rattle.ht_grammar.specs.declared.vocabulary.HandlerKind.{HandlerKind}
use Rattle.ht_grammar.specs.declared.vocabulary.Layer.{Layer}
use Rattle.ht_grammar.specs.Functions.{func_of}
use Rattle.ht_grammar.specs.Reading.{expression}
use Rattle.ht_grammar.specs.Reads.{ReadsExpr}
use Rattle.ht_grammar.specs.Statements as stm
use Rattle.ht_grammar.specs.Trees as tree
use Rattle.change_journal.specs.History.{History}
use Rattle.msg_path.specs.Path.{path}
use Rattle.meaning.specs.declared.frame.Frame.{Frame}
use Rattle.meaning.specs.Meaning.{Val, Vals, NumberVal, TruthVal, TextVal, ChunkOf, Resolves, Picks, Seeks, Owns}
use Rattle.meaning.specs.Meaning.{PartMet, Meets, Leads, Calls, Sends}
use Rattle.meaning.specs.State.{RunState, noted}
use Rattle.totality.proofs.Chain.{Begun, Underway, Has, ok, fault, yield, same, then, maybe, there, deep, nested}
use Rattle.totality.proofs.Leaves.{then_step, lift, then_parsed}
use Rattle.totality.proofs.Levels.{Level}

-- ---- behind a step

pub sends_has : {begun : Begun} {n : ℕ} → Level begun n → (w : History) (r : RunState) (f : Frame) (d i : ℕ)
    (name : List ℕ) (vs : List (List ℕ)) (kind : HandlerKind) → d ≤ 100 → Underway begun (suc n) w r →
    Has begun (suc n) (Sends w r f d i name vs kind)
sends_has h w r f d i name vs kind le k =
    then_step w r k (λ z r1 st. Sends.sends_no_step st)
    (λ r1 k1 st. lift (same
    (h.along w (noted r1 name i) f d i (path w.now.stack w.now.current i) name vs kind le
    (record { is_open = k1.is_open; left = k1.left })) (λ o w1 r3 g. Sends.sends st refl refl g)))

pub text_val_has : {begun : Begun} {n : ℕ} → Level begun n → (w : History) (r : RunState) (f : Frame) (d : ℕ)
    (t : List ℕ) → d ≤ 100 → Underway begun (suc n) w r → Has begun (suc n) (TextVal w r f d t)
text_val_has h w r f d t le k =
    then_step w r k (λ z r1 st. TextVal.value_no_step st) (λ r1 k1 st. lift
    (deep d le (λ lt. then_parsed expression ReadsExpr t h.texts.cuts h.texts.expressions k1
    (λ z p. TextVal.value_syntax st lt p)
    (λ e p. same (h.val w r1 f (d + 1) e (nested lt) k1) (λ o w1 r2 g. TextVal.value st lt p g)))
    (λ at. fault _ k1 (TextVal.value_too_deep st at))))

-- ---- expressions that are converted

pub number_by : {begun : Begun} {n : ℕ} {w : History} {r : RunState} {f : Frame} {d : ℕ} {x : tree.Expr} →
    Has begun n (Val w r f d x) → Has begun n (NumberVal w r f d x)
number_by v = then v (λ z w1 r1 g. NumberVal.no_number g)
    (λ p w1 r1 k1 g. yield (number_of p) k1 (λ o y. NumberVal.a_number g y))

pub truth_by : {begun : Begun} {n : ℕ} {w : History} {r : RunState} {f : Frame} {d : ℕ} {x : tree.Expr} →
    Has begun n (Val w r f d x) → Has begun n (TruthVal w r f d x)
truth_by v = then v (λ z w1 r1 g. TruthVal.no_truth g)
    (λ p w1 r1 k1 g. yield (truth_of p) k1 (λ o y. TruthVal.a_truth g y))

-- a message that is sent with these arguments
calls_by : {begun : Begun} {n : ℕ} {w : History} {r : RunState} {f : Frame} {d i : ℕ} {name : List ℕ} {es : tree.Exprs}
    {kind : HandlerKind} → Level begun n → d ≤ 100 → Has begun (suc n) (Vals w r f d es []) →
    Has begun (suc n) (Calls w r f d i name es kind)
calls_by {f = f} {d} {i} {name} {kind = kind} h le values = then values (λ z w1 r1 g. Calls.calls_stop g)
    (λ vs w1 r1 k1 g. same (sends_has h w1 r1 f d i name vs kind le k1) (λ o w2 r2 g2. Calls.calls g g2))

-- ---- all others

mutual
  pub val_has : {begun : Begun} {n : ℕ} → Level begun n → (w : History) (r : RunState) (f : Frame) (d : ℕ)
      (e : tree.Expr) → d ≤ 100 → Underway begun (suc n) w r → Has begun (suc n) (Val w r f d e)
  val_has h w r f d (tree.number v) le k = ok _ k (Val.number refl)
  val_has h w r f d (tree.quoted v) le k = ok _ k (Val.quoted refl)
  val_has h w r f d (tree.constant c) le k = ok _ k (Val.constant refl refl)
  val_has h w r f d tree.return_ le k = ok _ k (Val.return_sign refl refl)
  val_has h w r f d (tree.name n) le k = ok _ k (Val.name refl refl)
  val_has h w r f d (tree.paren x) le k = same (val_has h w r f d x le k) (λ o w1 r1 g. Val.paren refl g)
  val_has h w r f d (tree.unary un x) le k =
      then (val_has h w r f d x le k) (λ z w1 r1 g. Val.operand_stops refl g)
      (λ p w1 r1 k1 g. yield (unary un p) k1 (λ o y. Val.one_operand refl g y))
  val_has h w r f d (tree.binary op x y) le k =
      then (val_has h w r f d x le k) (λ z w1 r1 g. Val.left_stops refl g) (λ p w1 r1 k1 g.
      then (val_has h w1 r1 f d y le k1) (λ z w2 r2 g2. Val.right_stops refl g g2)
      (λ q w2 r2 k2 g2. yield (binary op p q) k2 (λ o y. Val.two_operands refl g g2 y)))
  val_has h w r f d (tree.there_is denied ref) le k =
      there _ _ (meets_has h w r f d ref le k) (λ m w1 r1 g. Val.there_is refl g refl)
      (λ w1 r1 g. Val.there_is_none refl g refl) (λ z w1 r1 isnt g. Val.there_stops refl g isnt)
  val_has h w r f d (tree.chunk head x) le k =
      then (chunk_has h w r f d head le k) (λ z w1 r1 g. Val.chunk_stops refl g) (λ c w1 r1 k1 g.
      then (val_has h w1 r1 f d x le k1) (λ z w2 r2 g2. Val.chunk_of_stops refl g g2)
      (λ p w2 r2 k2 g2. ok _ k2 (Val.chunk refl g g2 refl)))
  val_has h w r f d (tree.field pa) le k = then (part_has h w r f d pa le k)
      (λ z w1 r1 g. Val.field_stops refl g) (λ m w1 r1 k1 g. yield _ k1 (λ o y. Val.field refl g y))
  val_has h w r f d tree.result le k = ok _ k (Val.the_result refl refl)
  val_has h w r f d tree.target le k = yield _ k (λ o y. Val.the_target refl y)
  val_has h w r f d (tree.number_of (tree.pieces_of kind x)) le k = then (val_has h w r f d x le k)
      (λ z w1 r1 g. Val.pieces_stop refl g) (λ p w1 r1 k1 g. ok _ k1 (Val.pieces refl g refl))
  val_has h w r f d (tree.number_of tree.cards) le k = ok _ k (Val.cards refl refl)
  val_has h w r f d (tree.number_of tree.backgrounds) le k = ok _ k (Val.backgrounds refl refl)
  val_has h w r f d (tree.number_of (tree.parts layer kind)) le k = ok _ k (Val.parts refl refl)
  val_has h w r f d (tree.number_of (tree.of_object ref)) le k =
      then (meets_has h w r f d ref le k) (λ z w1 r1 g. Val.number_stops refl g)
      (λ m w1 r1 k1 g. yield _ k1 (λ o y. Val.number_of_object refl g y))
  val_has h w r f d (tree.property p ref) le k = then (meets_has h w r f d ref le k)
      (λ z w1 r1 g. Val.property_stops refl g) (λ m w1 r1 k1 g. yield _ k1 (λ o y. Val.property refl g y))
  val_has h w r f d (tree.run_property p) le k = ok _ k (Val.run_property_read refl refl)
  val_has h w r f d (tree.function word x) le k =
      then (val_has h w r f d x le k) (λ z w1 r1 g. Val.the_stops refl g) (λ p w1 r1 k1 g.
      maybe (func_of word) (λ fu is. yield (built_in fu (p ∷ [])) k1 (λ o y. Val.the_function refl g is y))
      (λ is. same (text_val_has h w1 r1 f d p le k1) (λ o w2 r2 g2. Val.the_value refl g is g2)))
  val_has h w r f d (tree.call n es) le k = same (calls_by h le (vals_has h w r f d es [] le k))
      (λ o w1 r1 g. Val.call refl refl g)

  pub vals_has : {begun : Begun} {n : ℕ} → Level begun n → (w : History) (r : RunState) (f : Frame) (d : ℕ)
      (es : tree.Exprs) (vs : List (List ℕ)) → d ≤ 100 → Underway begun (suc n) w r →
      Has begun (suc n) (Vals w r f d es vs)
  vals_has h w r f d tree.none vs le k = ok _ k (Vals.vals_done refl)
  vals_has h w r f d (tree.more x xs) vs le k =
      then (val_has h w r f d x le k) (λ z w1 r1 g. Vals.vals_stop refl g)
      (λ v w1 r1 k1 g. same (vals_has h w1 r1 f d xs (vs ++ v ∷ []) le k1)
      (λ o w2 r2 g2. Vals.vals_more refl g g2))

  pub chunk_has : {begun : Begun} {n : ℕ} → Level begun n → (w : History) (r : RunState) (f : Frame) (d : ℕ)
      (head : tree.Chunk) → d ≤ 100 → Underway begun (suc n) w r → Has begun (suc n) (ChunkOf w r f d head)
  chunk_has h w r f d (tree.piece kind x) le k = then (number_by (val_has h w r f d x le k))
      (λ z w1 r1 g. ChunkOf.one_stops refl g) (λ u w1 r1 k1 g. ok _ k1 (ChunkOf.one refl g refl))
  chunk_has h w r f d (tree.pieces kind x y) le k =
      then (number_by (val_has h w r f d x le k)) (λ z w1 r1 g. ChunkOf.from_stops refl g) (λ u w1 r1 k1 g.
      then (number_by (val_has h w1 r1 f d y le k1)) (λ z w2 r2 g2. ChunkOf.to_stops refl g g2)
      (λ v w2 r2 k2 g2. ok _ k2 (ChunkOf.range refl g g2 refl)))
  chunk_has h w r f d (tree.nth_piece od kind) le k = ok _ k (ChunkOf.ordinal refl refl)

  pub picks_has : {begun : Begun} {n : ℕ} → Level begun n → (w : History) (r : RunState) (f : Frame) (d : ℕ)
      (wh : tree.Which) → d ≤ 100 → Underway begun (suc n) w r → Has begun (suc n) (Picks w r f d wh)
  picks_has h w r f d (tree.by_id x) le k = then (val_has h w r f d x le k)
      (λ z w1 r1 g. Picks.pick_id_stops refl g) (λ t w1 r1 k1 g. ok _ k1 (Picks.pick_id refl g refl))
  picks_has h w r f d (tree.by_text x) le k = then (val_has h w r f d x le k)
      (λ z w1 r1 g. Picks.pick_text_stops refl g) (λ t w1 r1 k1 g. ok _ k1 (Picks.pick_text refl g refl))

  pub seeks_has : {begun : Begun} {n : ℕ} → Level begun n → (w : History) (r : RunState) (f : Frame) (d : ℕ)
      (sl : tree.Selector) → d ≤ 100 → Underway begun (suc n) w r → Has begun (suc n) (Seeks w r f d sl)
  seeks_has h w r f d tree.this le k = ok _ k (Seeks.seek_this refl refl)
  seeks_has h w r f d tree.next le k = ok _ k (Seeks.seek_next refl refl)
  seeks_has h w r f d tree.previous le k = ok _ k (Seeks.seek_previous refl refl)
  seeks_has h w r f d (tree.nth od) le k = ok _ k (Seeks.seek_nth refl refl)
  seeks_has h w r f d (tree.which wh) le k = then (picks_has h w r f d wh le k)
      (λ z w1 r1 g. Seeks.seek_stops refl g) (λ p w1 r1 k1 g. ok _ k1 (Seeks.seek_which refl g refl))

  pub owns_has : {begun : Begun} {n : ℕ} → Level begun n → (w : History) (r : RunState) (f : Frame) (d : ℕ)
      (layer : Layer) (owner : tree.Owner) → d ≤ 100 → Underway begun (suc n) w r →
      Has begun (suc n) (Owns w r f d layer owner)
  owns_has h w r f d layer tree.no_owner le k = ok _ k (Owns.no_owner refl refl)
  owns_has h w r f d layer (tree.on_card sl) le k = then (seeks_has h w r f d sl le k)
      (λ z w1 r1 g. Owns.owner_card_stops refl g) (λ s w1 r1 k1 g. yield _ k1 (λ o y. Owns.owner_card refl g y))
  owns_has h w r f d layer (tree.on_background sl) le k = then (seeks_has h w r f d sl le k)
      (λ z w1 r1 g. Owns.owner_background_stops refl g)
      (λ s w1 r1 k1 g. yield _ k1 (λ o y. Owns.owner_background refl g y))

  pub part_has : {begun : Begun} {n : ℕ} → Level begun n → (w : History) (r : RunState) (f : Frame) (d : ℕ)
      (pa : tree.Part) → d ≤ 100 → Underway begun (suc n) w r → Has begun (suc n) (PartMet w r f d pa)
  part_has h w r f d (tree.part layer kind wh owner) le k =
      then (picks_has h w r f d wh le k) (λ z w1 r1 g. PartMet.part_stops refl g) (λ p w1 r1 k1 g.
      then (owns_has h w1 r1 f d _ owner le k1) (λ z w2 r2 g2. PartMet.part_owner_stops refl g refl g2)
      (λ s w2 r2 k2 g2. yield _ k2 (λ o y. PartMet.part_of_owner refl g refl g2 y)))
  part_has h w r f d (tree.nth_part od layer kind owner) le k =
      then (owns_has h w r f d _ owner le k) (λ z w1 r1 g. PartMet.nth_owner_stops refl refl g)
      (λ s w1 r1 k1 g. yield _ k1 (λ o y. PartMet.nth_of_owner refl refl g y))

  pub meets_has : {begun : Begun} {n : ℕ} → Level begun n → (w : History) (r : RunState) (f : Frame) (d : ℕ)
      (ref : tree.Ref) → d ≤ 100 → Underway begun (suc n) w r → Has begun (suc n) (Meets w r f d ref)
  meets_has h w r f d tree.me le k = yield _ k (λ o y. Meets.meet_me refl y)
  meets_has h w r f d tree.the_target le k = yield _ k (λ o y. Meets.meet_target refl y)
  meets_has h w r f d tree.this_stack le k = ok _ k (Meets.meet_stack refl refl)
  meets_has h w r f d (tree.card sl) le k = then (seeks_has h w r f d sl le k)
      (λ z w1 r1 g. Meets.card_stops refl g) (λ s w1 r1 k1 g. yield _ k1 (λ o y. Meets.meet_card refl g y))
  meets_has h w r f d (tree.background sl) le k = then (seeks_has h w r f d sl le k)
      (λ z w1 r1 g. Meets.background_stops refl g)
      (λ s w1 r1 k1 g. yield _ k1 (λ o y. Meets.meet_background refl g y))
  meets_has h w r f d (tree.a_part pa) le k = same (part_has h w r f d pa le k) (λ o w1 r1 g. Meets.meet_part refl g)

pub resolves_has : {begun : Begun} {n : ℕ} → Level begun n → (w : History) (r : RunState) (f : Frame) (d : ℕ)
    (ct : tree.Container) → d ≤ 100 → Underway begun (suc n) w r → Has begun (suc n) (Resolves w r f d ct)
resolves_has h w r f d (tree.variable n) le k = ok _ k (Resolves.place_variable refl refl)
resolves_has h w r f d (tree.in_field pa) le k = then (part_has h w r f d pa le k)
    (λ z w1 r1 g. Resolves.place_field_stops refl g)
    (λ m w1 r1 k1 g. yield _ k1 (λ o y. Resolves.place_field refl g y))
resolves_has h w r f d (tree.in_chunk head ct) le k =
    then (chunk_has h w r f d head le k) (λ z w1 r1 g. Resolves.place_chunk_stops refl g) (λ c w1 r1 k1 g.
    then (resolves_has h w1 r1 f d ct le k1) (λ z w2 r2 g2. Resolves.place_chunk_of_stops refl g g2)
    (λ p w2 r2 k2 g2. ok _ k2 (Resolves.place_chunk refl g g2 refl)))

pub leads_has : {begun : Begun} {n : ℕ} → Level begun n → (w : History) (r : RunState) (f : Frame) (d : ℕ)
    (de : stm.Destination) → d ≤ 100 → Underway begun (suc n) w r → Has begun (suc n) (Leads w r f d de)
leads_has h w r f d (stm.to_card sl) le k = then (seeks_has h w r f d sl le k)
    (λ z w1 r1 g. Leads.lead_card_stops refl g) (λ s w1 r1 k1 g. yield _ k1 (λ o y. Leads.lead_card refl g y))
leads_has h w r f d (stm.to_background sl) le k = then (seeks_has h w r f d sl le k)
    (λ z w1 r1 g. Leads.lead_background_stops refl g)
    (λ s w1 r1 k1 g. yield _ k1 (λ o y. Leads.lead_background refl g y))

pub calls_has : {begun : Begun} {n : ℕ} → Level begun n → (w : History) (r : RunState) (f : Frame) (d i : ℕ)
    (name : List ℕ) (es : tree.Exprs) (kind : HandlerKind) → d ≤ 100 → Underway begun (suc n) w r →
    Has begun (suc n) (Calls w r f d i name es kind)
calls_has h w r f d i name es kind le k = calls_by h le (vals_has h w r f d es [] le k)
