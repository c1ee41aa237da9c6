-- What an expression that sends no message comes to, the rules allow.
use Rattle.std.proofs.Common.{◌≡◌, ℕ, zero, suc, List, [], ◌∷◌, Bool, true, false, Option, Some, None, Result, Ok, Err}
use Rattle.std.proofs.Common.{refl, sym, subst, ◌≢◌}
use Rattle.ht_values.specs.declared.fault.Fault.{Fault}
use Rattle.ht_values.specs.declared.fault.Fault.TheVariants.{NoSuchObject}
use Rattle.ht_values.specs.declared.operator.Func.{Func}
use Rattle.ht_values.specs.Functions.{built_in}
use Rattle.ht_values.specs.Operators.{unary, binary}
use Rattle.ht_grammar.specs.declared.vocabulary.FunctionWord.{FunctionWord}
use Rattle.ht_grammar.specs.declared.vocabulary.HandlerKind.{HandlerKind}
use Rattle.ht_grammar.specs.declared.vocabulary.Layer.{Layer}
use Rattle.ht_grammar.specs.Functions.{func_of}
use Rattle.ht_grammar.specs.Trees as tree
use Rattle.change_journal.specs.History.{History}
use Rattle.object_references.specs.declared.referent.Referent.{Referent}
use Rattle.meaning.specs.declared.end.Stop.{Stop}
use Rattle.meaning.specs.declared.end.Stop.TheVariants.{Fault as Faults, Exited, Memory}
use Rattle.meaning.specs.declared.frame.Frame.{Frame}
use Rattle.meaning.specs.Meaning.{Val, NumberVal, ChunkOf, Picks, Seeks, Owns, PartMet, Meets}
use Rattle.meaning.specs.State.{RunState}
use Rattle.meaning.specs.Values.{Yields}
use Rattle.definitional_interpreter.specs.Told.{Visible, visible, Told, unknown, told, after, maybe, there}
use Rattle.definitional_interpreter.specs.Changes.{yielded}
use Rattle.definitional_interpreter.specs.Alone.{meanings_alone, ExpressionsAreAllowed}

-- an outcome, if it is known, is allowed, and nothing has changed
data Allowed {A : Type 0} (P : Result A Stop → Type 0) (w : History) (r : RunState) : Told A → Type 0 where
  not_known : Allowed P w r unknown
  known : {o : Result A Stop} → P o → Allowed P w r (told o (visible w) r)

same : {A : Type 0} {P Q : Result A Stop → Type 0} {w : History} {r : RunState} {t : Told A} → Allowed P w r t
    → ((o : Result A Stop) → P o → Q o) → Allowed Q w r t
same not_known rule = not_known
same (known {o} h) rule = known (rule o h)

-- one part after another
then : {A B : Type 0} {P : Result A Stop → Type 0} {Q : Result B Stop → Type 0} {w : History} {r : RunState}
    {t : Told A} (next : A → Visible → RunState → Told B) → Allowed P w r t
    → ((z : Stop) → P (Err z) → Q (Err z)) → ((a : A) → P (Ok a) → Allowed Q w r (next a (visible w) r))
    → Allowed Q w r (after t next)
then next not_known stops goes_on = not_known
then next (known {o = Ok a} h) stops goes_on = goes_on a h
then next (known {o = Err z} h) stops goes_on = known (stops z h)

yields_it : {A : Type 0} (c : Result A Fault) → Yields c (yielded c)
yields_it (Ok a) = Yields.yields refl
yields_it (Err n) = Yields.faults refl

there_allowed : {P : Result Referent Stop → Type 0} {Q : Result (List ℕ) Stop → Type 0} {w : History} {r : RunState}
    {t : Told Referent} (say : Bool → List ℕ) → Allowed P w r t
    → ((m : Referent) → P (Ok m) → Q (Ok (say true))) → (P (Err (Faults NoSuchObject)) → Q (Ok (say false)))
    → ((z : Stop) → z ≢ Faults NoSuchObject → P (Err z) → Q (Err z))
    → Allowed Q w r (there t say)
there_allowed say not_known is isnt stops = not_known
there_allowed say (known {o = Ok m} h) is isnt stops = known (is m h)
there_allowed say (known {o = Err Memory} h) is isnt stops = known (stops Memory (λ e. cc) h)
there_allowed say (known {o = Err Exited} h) is isnt stops = known (stops Exited (λ e. cc) h)
there_allowed say (known {o = Err (Faults NoSuchObject)} h) is isnt stops = known (isnt h)
there_allowed say (known {o = Err (Faults n)} h) is isnt stops = known (stops (Faults n) (λ e. cc) h)

not_told : {A : Type 0} {P : Result A Stop → Type 0} {w : History} {r : RunState} {t : Told A} → t ≡ unknown
    → Allowed P w r t
not_told {P = P} {w = w} {r = r} e = subst (λ t. Allowed P w r t) (sym e) not_known

no_call : (fuel : ℕ) (w : Visible) (r : RunState) (f : Frame) (d i : ℕ) (n : List ℕ) (es : tree.Exprs)
    (kind : HandlerKind) → (meanings_alone fuel).calls w r f d i n es kind ≡ unknown
unfolding meanings_alone
no_call zero w r f d i n es kind = refl
no_call (suc fuel) w r f d i n es kind = refl

no_value : (fuel : ℕ) (w : Visible) (r : RunState) (f : Frame) (d : ℕ) (t : List ℕ)
    → (meanings_alone fuel).text_val w r f d t ≡ unknown
unfolding meanings_alone
no_value zero w r f d t = refl
no_value (suc fuel) w r f d t = refl

-- a function that is built in; `value` isn't
by_function : (fuel : ℕ) (w : History) (r : RunState) (f : Frame) (d : ℕ) (word : FunctionWord) (x : tree.Expr)
    (p : List ℕ) (found : Option Func) → func_of word ≡ found → Val w r f d x (Ok p) w r
    → Allowed (λ o. Val w r f d (tree.function word x) o w r) w r
    (maybe found (λ fu. told (yielded (built_in fu (p ∷ []))) (visible w) r)
    (λ _. (meanings_alone fuel).text_val (visible w) r f d p))
by_function fuel w r f d word x p (Some fu) e h = known (Val.the_function refl h e (yields_it _))
by_function fuel w r f d word x p None e h = not_told (no_value fuel (visible w) r f d p)

mutual
  unfolding meanings_alone

  val_allowed : (fuel : ℕ) (w : History) (r : RunState) (f : Frame) (d : ℕ) (e : tree.Expr)
      → Allowed (λ o. Val w r f d e o w r) w r ((meanings_alone fuel).val (visible w) r f d e)
  val_allowed zero w r f d e = not_known
  val_allowed (suc fuel) w r f d (tree.number v) = known (Val.number refl)
  val_allowed (suc fuel) w r f d (tree.quoted v) = known (Val.quoted refl)
  val_allowed (suc fuel) w r f d (tree.constant c) = known (Val.constant refl refl)
  val_allowed (suc fuel) w r f d tree.return_ = known (Val.return_sign refl refl)
  val_allowed (suc fuel) w r f d (tree.name n) = known (Val.name refl refl)
  val_allowed (suc fuel) w r f d (tree.paren x) = same (val_allowed fuel w r f d x) (λ o h. Val.paren refl h)
  val_allowed (suc fuel) w r f d (tree.unary un x) =
      then _ (val_allowed fuel w r f d x) (λ z h. Val.operand_stops refl h)
      (λ p h. known (Val.one_operand refl h (yields_it (unary un p))))
  val_allowed (suc fuel) w r f d (tree.binary op x y) =
      then _ (val_allowed fuel w r f d x) (λ z h. Val.left_stops refl h) (λ p h.
      then _ (val_allowed fuel w r f d y) (λ z g. Val.right_stops refl h g)
      (λ q g. known (Val.two_operands refl h g (yields_it (binary op p q)))))
  val_allowed (suc fuel) w r f d (tree.there_is denied ref) =
      there_allowed _ (meets_allowed fuel w r f d ref) (λ m h. Val.there_is refl h refl)
      (λ h. Val.there_is_none refl h refl) (λ z isnt h. Val.there_stops refl h isnt)
  val_allowed (suc fuel) w r f d (tree.chunk head x) =
      then _ (chunk_allowed fuel w r f d head) (λ z h. Val.chunk_stops refl h) (λ c h.
      then _ (val_allowed fuel w r f d x) (λ z g. Val.chunk_of_stops refl h g) (λ p g. known (Val.chunk refl h g refl)))
  val_allowed (suc fuel) w r f d (tree.field pa) = then _ (part_allowed fuel w r f d pa) (λ z h. Val.field_stops refl h)
      (λ m h. known (Val.field refl h (yields_it _)))
  val_allowed (suc fuel) w r f d tree.result = known (Val.the_result refl refl)
  val_allowed (suc fuel) w r f d tree.target = known (Val.the_target refl (yields_it _))
  val_allowed (suc fuel) w r f d (tree.number_of (tree.pieces_of kind x)) =
      then _ (val_allowed fuel w r f d x) (λ z h. Val.pieces_stop refl h) (λ p h. known (Val.pieces refl h refl))
  val_allowed (suc fuel) w r f d (tree.number_of tree.cards) = known (Val.cards refl refl)
  val_allowed (suc fuel) w r f d (tree.number_of tree.backgrounds) = known (Val.backgrounds refl refl)
  val_allowed (suc fuel) w r f d (tree.number_of (tree.parts layer kind)) = known (Val.parts refl refl)
  val_allowed (suc fuel) w r f d (tree.number_of (tree.of_object ref)) =
      then _ (meets_allowed fuel w r f d ref) (λ z h. Val.number_stops refl h)
      (λ m h. known (Val.number_of_object refl h (yields_it _)))
  val_allowed (suc fuel) w r f d (tree.property p ref) = then _ (meets_allowed fuel w r f d ref)
      (λ z h. Val.property_stops refl h) (λ m h. known (Val.property refl h (yields_it _)))
  val_allowed (suc fuel) w r f d (tree.run_property p) = known (Val.run_property_read refl refl)
  val_allowed (suc fuel) w r f d (tree.function word x) =
      then _ (val_allowed fuel w r f d x) (λ z h. Val.the_stops refl h)
      (λ p h. by_function fuel w r f d word x p (func_of word) refl h)
  val_allowed (suc fuel) w r f d (tree.call n es) = not_told (no_call fuel (visible w) r f d f.me n es _)

  number_allowed : (fuel : ℕ) (w : History) (r : RunState) (f : Frame) (d : ℕ) (x : tree.Expr)
      → Allowed (λ o. NumberVal w r f d x o w r) w r ((meanings_alone fuel).number_val (visible w) r f d x)
  number_allowed zero w r f d x = not_known
  number_allowed (suc fuel) w r f d x = then _ (val_allowed fuel w r f d x) (λ z h. NumberVal.no_number h)
      (λ p h. known (NumberVal.a_number h (yields_it _)))

  chunk_allowed : (fuel : ℕ) (w : History) (r : RunState) (f : Frame) (d : ℕ) (head : tree.Chunk)
      → Allowed (λ o. ChunkOf w r f d head o w r) w r ((meanings_alone fuel).chunk_of (visible w) r f d head)
  chunk_allowed zero w r f d head = not_known
  chunk_allowed (suc fuel) w r f d (tree.piece kind x) =
      then _ (number_allowed fuel w r f d x) (λ z h. ChunkOf.one_stops refl h) (λ u h. known (ChunkOf.one refl h refl))
  chunk_allowed (suc fuel) w r f d (tree.pieces kind x y) =
      then _ (number_allowed fuel w r f d x) (λ z h. ChunkOf.from_stops refl h) (λ u h.
      then _ (number_allowed fuel w r f d y) (λ z g. ChunkOf.to_stops refl h g)
      (λ v g. known (ChunkOf.range refl h g refl)))
  chunk_allowed (suc fuel) w r f d (tree.nth_piece od kind) = known (ChunkOf.ordinal refl refl)

  picks_allowed : (fuel : ℕ) (w : History) (r : RunState) (f : Frame) (d : ℕ) (which : tree.Which)
      → Allowed (λ o. Picks w r f d which o w r) w r ((meanings_alone fuel).picks (visible w) r f d which)
  picks_allowed zero w r f d which = not_known
  picks_allowed (suc fuel) w r f d (tree.by_id x) = then _ (val_allowed fuel w r f d x)
      (λ z h. Picks.pick_id_stops refl h) (λ t h. known (Picks.pick_id refl h refl))
  picks_allowed (suc fuel) w r f d (tree.by_text x) = then _ (val_allowed fuel w r f d x)
      (λ z h. Picks.pick_text_stops refl h) (λ t h. known (Picks.pick_text refl h refl))

  seeks_allowed : (fuel : ℕ) (w : History) (r : RunState) (f : Frame) (d : ℕ) (sl : tree.Selector)
      → Allowed (λ o. Seeks w r f d sl o w r) w r ((meanings_alone fuel).seeks (visible w) r f d sl)
  seeks_allowed zero w r f d sl = not_known
  seeks_allowed (suc fuel) w r f d tree.this = known (Seeks.seek_this refl refl)
  seeks_allowed (suc fuel) w r f d tree.next = known (Seeks.seek_next refl refl)
  seeks_allowed (suc fuel) w r f d tree.previous = known (Seeks.seek_previous refl refl)
  seeks_allowed (suc fuel) w r f d (tree.nth od) = known (Seeks.seek_nth refl refl)
  seeks_allowed (suc fuel) w r f d (tree.which wh) = then _ (picks_allowed fuel w r f d wh)
      (λ z h. Seeks.seek_stops refl h) (λ p h. known (Seeks.seek_which refl h refl))

  owns_allowed : (fuel : ℕ) (w : History) (r : RunState) (f : Frame) (d : ℕ) (layer : Layer) (owner : tree.Owner)
      → Allowed (λ o. Owns w r f d layer owner o w r) w r ((meanings_alone fuel).owns (visible w) r f d layer owner)
  owns_allowed zero w r f d layer owner = not_known
  owns_allowed (suc fuel) w r f d layer tree.no_owner = known (Owns.no_owner refl refl)
  owns_allowed (suc fuel) w r f d layer (tree.on_card sl) = then _ (seeks_allowed fuel w r f d sl)
      (λ z h. Owns.owner_card_stops refl h) (λ s h. known (Owns.owner_card refl h (yields_it _)))
  owns_allowed (suc fuel) w r f d layer (tree.on_background sl) =
      then _ (seeks_allowed fuel w r f d sl) (λ z h. Owns.owner_background_stops refl h)
      (λ s h. known (Owns.owner_background refl h (yields_it _)))

  part_allowed : (fuel : ℕ) (w : History) (r : RunState) (f : Frame) (d : ℕ) (pa : tree.Part)
      → Allowed (λ o. PartMet w r f d pa o w r) w r ((meanings_alone fuel).part_met (visible w) r f d pa)
  part_allowed zero w r f d pa = not_known
  part_allowed (suc fuel) w r f d (tree.part layer kind wh owner) =
      then _ (picks_allowed fuel w r f d wh) (λ z h. PartMet.part_stops refl h) (λ p h.
      then _ (owns_allowed fuel w r f d _ owner) (λ z g. PartMet.part_owner_stops refl h refl g)
      (λ s g. known (PartMet.part_of_owner refl h refl g (yields_it _))))
  part_allowed (suc fuel) w r f d (tree.nth_part od layer kind owner) =
      then _ (owns_allowed fuel w r f d _ owner) (λ z h. PartMet.nth_owner_stops refl refl h)
      (λ s h. known (PartMet.nth_of_owner refl refl h (yields_it _)))

  meets_allowed : (fuel : ℕ) (w : History) (r : RunState) (f : Frame) (d : ℕ) (ref : tree.Ref)
      → Allowed (λ o. Meets w r f d ref o w r) w r ((meanings_alone fuel).meets (visible w) r f d ref)
  meets_allowed zero w r f d ref = not_known
  meets_allowed (suc fuel) w r f d tree.me = known (Meets.meet_me refl (yields_it _))
  meets_allowed (suc fuel) w r f d tree.the_target = known (Meets.meet_target refl (yields_it _))
  meets_allowed (suc fuel) w r f d tree.this_stack = known (Meets.meet_stack refl refl)
  meets_allowed (suc fuel) w r f d (tree.card sl) = then _ (seeks_allowed fuel w r f d sl)
      (λ z h. Meets.card_stops refl h) (λ s h. known (Meets.meet_card refl h (yields_it _)))
  meets_allowed (suc fuel) w r f d (tree.background sl) = then _ (seeks_allowed fuel w r f d sl)
      (λ z h. Meets.background_stops refl h) (λ s h. known (Meets.meet_background refl h (yields_it _)))
  meets_allowed (suc fuel) w r f d (tree.a_part pa) =
      same (part_allowed fuel w r f d pa) (λ o h. Meets.meet_part refl h)

outcome : {A : Type 0} {P : Result A Stop → Type 0} {w : History} {r q : RunState} {o : Result A Stop} {v : Visible}
    → Allowed P w r (told o v q) → P o × (v ≡ visible w) × (q ≡ r)
outcome (known h) = (h, refl, refl)

pub expressions_allowed : ExpressionsAreAllowed
expressions_allowed fuel w r q f d e o v is =
    outcome (subst (λ t. Allowed (λ o. Val w r f d e o w r) w r t) is (val_allowed fuel w r f d e))
