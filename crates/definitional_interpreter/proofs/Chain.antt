-- Parts one after another, with enough fuel for all.
use Rattle.std.proofs.Common.{◌≡◌, ℕ, zero, suc, ◌+◌, ◌≤◌, ◌<◌, List, Bool, true, false, Option, Some, None, Result, Ok}
use Rattle.std.proofs.Common.{Err, refl, sym, ap, subst, ◌∙◌, arith, nat_lt, ◌≢◌}
use Rattle.ht_values.specs.declared.fault.Fault.{Fault}
use Rattle.ht_values.specs.declared.fault.Fault.TheVariants.{NoSuchObject}
use Rattle.change_journal.specs.History.{History}
use Rattle.object_references.specs.declared.referent.Referent.{Referent}
use Rattle.meaning.specs.declared.end.How.{How}
use Rattle.meaning.specs.declared.end.How.TheVariants.{Next, ExitRepeat, NextRepeat, Exit, Pass, Returns}
use Rattle.meaning.specs.declared.end.Stop.{Stop}
use Rattle.meaning.specs.declared.end.Stop.TheVariants.{Fault as Faults, Exited, Memory}
use Rattle.meaning.specs.declared.frame.Frame.{Frame}
use Rattle.meaning.specs.Repeats.{Outcome}
use Rattle.meaning.specs.State.{RunState}
use Rattle.definitional_interpreter.specs.Told.{Visible, Told, told, ToldIn, told_in, after, after_in, after_run}
use Rattle.definitional_interpreter.specs.Told.{after_lines, after_next, choose, maybe, computed, there, gave}
use Rattle.definitional_interpreter.specs.Families.{Meanings}
use Rattle.definitional_interpreter.specs.Meanings.{meanings, one_more}
use Rattle.definitional_interpreter.specs.Laws.{Enough}
use Rattle.preservation.proofs.Logs.{kept_refl, kept_trans}
use Rattle.definitional_interpreter.proofs.Comes.{Sight, sight, Comes}
use Rattle.definitional_interpreter.proofs.Sights.{asks_first, asks_rest}

both : (P Q R : Meanings → Type 0) → ((parts : Meanings) → P parts → Q parts → R parts) → Enough P → Enough Q → Enough R
both P Q R f a b =
    (a.0 + b.0, λ fuel le. f (meanings fuel) (a.1 fuel (omega (arith, le))) (b.1 fuel (omega (arith, le))))

-- a part, and what follows from it
pub before : {g : Sight} {X Y : Type 0} {w w1 w2 : History} {F : Meanings → X} {x : X} {y : Y} (K : Meanings → X → Y) →
    Comes g w F x w1 → Comes g w1 (λ parts. K parts x) y w2 → Comes g w (λ parts. K parts (F parts)) y w2
before {g = g} {w = w} {w1 = w1} {w2 = w2} {F = F} {x = x} {y = y} K first rest = record {
  kept = kept_trans first.kept rest.kept;
  gives =
      λ exact asked. both (λ parts. F parts ≡ x) (λ parts. K parts x ≡ y) (λ parts. K parts (F parts) ≡ y)
      (λ parts p q. ap (K parts) p ∙ q) (first.gives exact (asks_first rest.kept asked))
      (rest.gives exact (asks_rest first.kept asked));
}

-- nothing is left to be computed
pub done : {g : Sight} {X : Type 0} {w : History} {x : X} → Comes g w (λ parts. x) x w
done = record { kept = kept_refl; gives = λ exact asked. (0, λ fuel le. refl) }

raised : {X : Type 0} (F : Meanings → X) (x : X) (least : ℕ) →
    ((fuel : ℕ) → least ≤ fuel → F (one_more (meanings fuel)) ≡ x) → (fuel : ℕ) → suc least ≤ fuel → F (meanings fuel)
    ≡ x
unfolding meanings
raised F x least h zero le = absurd (omega (arith, le))
raised F x least h (suc fuel) le = h fuel (omega (arith, le))

pub later : {g : Sight} {X : Type 0} {w w2 : History} {F : Meanings → X} {x : X} →
    Comes g w (λ parts. F (one_more parts)) x w2 → Comes g w F x w2
later {F = F} {x = x} h =
    record { kept = h.kept; gives = λ exact asked. let e = h.gives exact asked in (suc e.0, raised F x e.0 e.1) }

-- ---- a part that gives a value, and a part that stops

pub after_ok : {g : Sight} {A B : Type 0} {w w1 w2 : History} {F : Meanings → Told A}
    (G : Meanings → A → Visible → RunState → Told B) {a : A} {r1 : RunState} {x : Told B} →
    Comes g w F (told (Ok a) (sight g w1) r1) w1 → Comes g w1 (λ parts. G parts a (sight g w1) r1) x w2 →
    Comes g w (λ parts. after (F parts) (G parts)) x w2
after_ok G first rest = before (λ parts t. after t (G parts)) first rest

pub after_stop : {g : Sight} {A B : Type 0} {w w1 : History} {F : Meanings → Told A}
    (G : Meanings → A → Visible → RunState → Told B) {z : Stop} {r1 : RunState} →
    Comes g w F (told (Err z) (sight g w1) r1) w1 →
    Comes g w (λ parts. after (F parts) (G parts)) (told (Err z) (sight g w1) r1) w1
after_stop G first = before (λ parts t. after t (G parts)) first done

pub after_in_ok : {g : Sight} {A B : Type 0} {w w1 w2 : History} (f : Frame) {F : Meanings → Told A}
    (G : Meanings → A → Visible → RunState → ToldIn B) {a : A} {r1 : RunState} {x : ToldIn B} →
    Comes g w F (told (Ok a) (sight g w1) r1) w1 → Comes g w1 (λ parts. G parts a (sight g w1) r1) x w2 →
    Comes g w (λ parts. after_in f (F parts) (G parts)) x w2
after_in_ok f G first rest = before (λ parts t. after_in f t (G parts)) first rest

pub after_in_stop : {g : Sight} {A B : Type 0} {w w1 : History} (f : Frame) {F : Meanings → Told A}
    (G : Meanings → A → Visible → RunState → ToldIn B) {z : Stop} {r1 : RunState} →
    Comes g w F (told (Err z) (sight g w1) r1) w1 →
    Comes g w (λ parts. after_in f (F parts) (G parts)) (told_in (Err z) (sight g w1) r1 f) w1
after_in_stop f G first = before (λ parts t. after_in f t (G parts)) first done

pub after_run_ok : {g : Sight} {A B : Type 0} {w w1 w2 : History} {F : Meanings → ToldIn A}
    (G : Meanings → A → Visible → RunState → Frame → ToldIn B) {a : A} {r1 : RunState} {f1 : Frame} {x : ToldIn B} →
    Comes g w F (told_in (Ok a) (sight g w1) r1 f1) w1 → Comes g w1 (λ parts. G parts a (sight g w1) r1 f1) x w2 →
    Comes g w (λ parts. after_run (F parts) (G parts)) x w2
after_run_ok G first rest = before (λ parts t. after_run t (G parts)) first rest

pub after_run_stop : {g : Sight} {A B : Type 0} {w w1 : History} {F : Meanings → ToldIn A}
    (G : Meanings → A → Visible → RunState → Frame → ToldIn B) {z : Stop} {r1 : RunState} {f1 : Frame} →
    Comes g w F (told_in (Err z) (sight g w1) r1 f1) w1 →
    Comes g w (λ parts. after_run (F parts) (G parts)) (told_in (Err z) (sight g w1) r1 f1) w1
after_run_stop G first = before (λ parts t. after_run t (G parts)) first done

pub after_lines_ok : {g : Sight} {A B : Type 0} {w w1 w2 : History} {F : Meanings → ToldIn A}
    (G : Meanings → A → Visible → RunState → Told B) {a : A} {r1 : RunState} {f1 : Frame} {x : Told B} →
    Comes g w F (told_in (Ok a) (sight g w1) r1 f1) w1 → Comes g w1 (λ parts. G parts a (sight g w1) r1) x w2 →
    Comes g w (λ parts. after_lines (F parts) (G parts)) x w2
after_lines_ok G first rest = before (λ parts t. after_lines t (G parts)) first rest

pub after_lines_stop : {g : Sight} {A B : Type 0} {w w1 : History} {F : Meanings → ToldIn A}
    (G : Meanings → A → Visible → RunState → Told B) {z : Stop} {r1 : RunState} {f1 : Frame} →
    Comes g w F (told_in (Err z) (sight g w1) r1 f1) w1 →
    Comes g w (λ parts. after_lines (F parts) (G parts)) (told (Err z) (sight g w1) r1) w1
after_lines_stop G first = before (λ parts t. after_lines t (G parts)) first done

pub after_next_ok : {g : Sight} {w w1 w2 : History} {F : Meanings → ToldIn How}
    (G : Meanings → Visible → RunState → Frame → ToldIn How) {r1 : RunState} {f1 : Frame} {x : ToldIn How} →
    Comes g w F (told_in (Ok Next) (sight g w1) r1 f1) w1 → Comes g w1 (λ parts. G parts (sight g w1) r1 f1) x w2 →
    Comes g w (λ parts. after_next (F parts) (G parts)) x w2
after_next_ok G first rest = before (λ parts t. after_next t (G parts)) first rest

pub after_next_stop : {g : Sight} {w w1 : History} {F : Meanings → ToldIn How}
    (G : Meanings → Visible → RunState → Frame → ToldIn How) {z : Stop} {r1 : RunState} {f1 : Frame} →
    Comes g w F (told_in (Err z) (sight g w1) r1 f1) w1 →
    Comes g w (λ parts. after_next (F parts) (G parts)) (told_in (Err z) (sight g w1) r1 f1) w1
after_next_stop G first = before (λ parts t. after_next t (G parts)) first done

left_here : (h : How) (w : Visible) (r : RunState) (f : Frame) (next : Visible → RunState → Frame → ToldIn How) →
    h ≢ Next → after_next (told_in (Ok h) w r f) next ≡ told_in (Ok h) w r f
left_here Next w r f next isnt = absurd (isnt refl)
left_here ExitRepeat w r f next isnt = refl
left_here NextRepeat w r f next isnt = refl
left_here Exit w r f next isnt = refl
left_here Pass w r f next isnt = refl
left_here (Returns v) w r f next isnt = refl

-- what the meanings come to in one step
is_done : {g : Sight} {X : Type 0} {w : History} {F : Meanings → X} {x : X} → ((parts : Meanings) → F parts ≡ x) →
    Comes g w F x w
is_done is = record { kept = kept_refl; gives = λ exact asked. (0, λ fuel le. is (meanings fuel)) }

pub after_next_leaves : {g : Sight} {w w1 : History} {F : Meanings → ToldIn How}
    (G : Meanings → Visible → RunState → Frame → ToldIn How) {h : How} {r1 : RunState} {f1 : Frame} →
    h ≢ Next → Comes g w F (told_in (Ok h) (sight g w1) r1 f1) w1 →
    Comes g w (λ parts. after_next (F parts) (G parts)) (told_in (Ok h) (sight g w1) r1 f1) w1
after_next_leaves {g} {w1 = w1} G {h = h} {r1 = r1} {f1 = f1} isnt first =
    before (λ parts t. after_next t (G parts)) first (is_done (λ parts. left_here h (sight g w1) r1 f1 (G parts) isnt))

-- ---- cases

pub choose_true : {g : Sight} {X : Type 0} {w w2 : History} {b : Bool} (F G : Meanings → Unit {0} → X) {x : X} → b
    ≡ true → Comes g w (λ parts. F parts tt) x w2 → Comes g w (λ parts. choose b (F parts) (G parts)) x w2
choose_true {g} {w = w} {w2 = w2} F G {x = x} is rest =
    subst (λ c. Comes g w (λ parts. choose c (F parts) (G parts)) x w2) (sym is) rest

pub choose_false : {g : Sight} {X : Type 0} {w w2 : History} {b : Bool} (F G : Meanings → Unit {0} → X) {x : X} → b
    ≡ false → Comes g w (λ parts. G parts tt) x w2 → Comes g w (λ parts. choose b (F parts) (G parts)) x w2
choose_false {g} {w = w} {w2 = w2} F G {x = x} is rest =
    subst (λ c. Comes g w (λ parts. choose c (F parts) (G parts)) x w2) (sym is) rest

pub maybe_some : {g : Sight} {A X : Type 0} {w w2 : History} {c : Option A} {a : A} (F : Meanings → A → X)
    (G : Meanings → Unit {0} → X) {x : X} → c
    ≡ Some a → Comes g w (λ parts. F parts a) x w2 → Comes g w (λ parts. maybe c (F parts) (G parts)) x w2
maybe_some {g} {w = w} {w2 = w2} F G {x = x} is rest =
    subst (λ c. Comes g w (λ parts. maybe c (F parts) (G parts)) x w2) (sym is) rest

pub maybe_none : {g : Sight} {A X : Type 0} {w w2 : History} {c : Option A} (F : Meanings → A → X)
    (G : Meanings → Unit {0} → X) {x : X} → c
    ≡ None → Comes g w (λ parts. G parts tt) x w2 → Comes g w (λ parts. maybe c (F parts) (G parts)) x w2
maybe_none {g} {w = w} {w2 = w2} F G {x = x} is rest =
    subst (λ c. Comes g w (λ parts. maybe c (F parts) (G parts)) x w2) (sym is) rest

pub computed_ok : {g : Sight} {A X : Type 0} {w w2 : History} {c : Result A Fault} {a : A} (F : Meanings → A → X)
    (G : Meanings → Fault → X) {x : X} → c
    ≡ Ok a → Comes g w (λ parts. F parts a) x w2 → Comes g w (λ parts. computed c (F parts) (G parts)) x w2
computed_ok {g} {w = w} {w2 = w2} F G {x = x} is rest =
    subst (λ c. Comes g w (λ parts. computed c (F parts) (G parts)) x w2) (sym is) rest

pub computed_err : {g : Sight} {A X : Type 0} {w w2 : History} {c : Result A Fault} {n : Fault} (F : Meanings → A → X)
    (G : Meanings → Fault → X) {x : X} → c
    ≡ Err n → Comes g w (λ parts. G parts n) x w2 → Comes g w (λ parts. computed c (F parts) (G parts)) x w2
computed_err {g} {w = w} {w2 = w2} F G {x = x} is rest =
    subst (λ c. Comes g w (λ parts. computed c (F parts) (G parts)) x w2) (sym is) rest

pub below : {a b : ℕ} → a < b → nat_lt a b ≡ true
below le = grind (arith, le)

pub at_least : {a b : ℕ} → b ≤ a → nat_lt a b ≡ false
at_least le = grind (arith, le)

pub gives_outcome : {g : Sight} {w : History} {out : Outcome} {v : List ℕ} {r : RunState} → out
    ≡ record { value = v; run = r } → Comes g w (λ parts. gave (sight g w) out) (told (Ok v) (sight g w) r) w
gives_outcome {g} {w} {out} {v} {r} is = is_done (λ parts. ap (gave (sight g w)) is)

-- ---- references that may have no object

pub there_ok : {g : Sight} {w w1 : History} {F : Meanings → Told Referent}
    (say : Bool → List ℕ) {m : Referent} {r1 : RunState} → Comes g w F (told (Ok m) (sight g w1) r1) w1 →
    Comes g w (λ parts. there (F parts) say) (told (Ok (say true)) (sight g w1) r1) w1
there_ok say first = before (λ parts t. there t say) first done

pub there_none : {g : Sight} {w w1 : History} {F : Meanings → Told Referent} (say : Bool → List ℕ) {r1 : RunState} →
    Comes g w F (told (Err (Faults NoSuchObject)) (sight g w1) r1) w1 →
    Comes g w (λ parts. there (F parts) say) (told (Ok (say false)) (sight g w1) r1) w1
there_none say first = before (λ parts t. there t say) first done

there_is : (z : Stop) (w : Visible) (r : RunState) (say : Bool → List ℕ) → z ≢ Faults NoSuchObject →
    there (told (Err z) w r) say ≡ told (Err z) w r
there_is Exited w r say isnt = refl
there_is Memory w r say isnt = refl
there_is (Faults NoSuchObject) w r say isnt = absurd (isnt refl)
there_is (Faults _) w r say isnt = refl

pub there_stop : {g : Sight} {w w1 : History} {F : Meanings → Told Referent}
    (say : Bool → List ℕ) {z : Stop} {r1 : RunState} → z ≢ Faults NoSuchObject →
    Comes g w F (told (Err z) (sight g w1) r1) w1 →
    Comes g w (λ parts. there (F parts) say) (told (Err z) (sight g w1) r1) w1
there_stop {g} {w1 = w1} say {z = z} {r1 = r1} isnt first =
    before (λ parts t. there t say) first (is_done (λ parts. there_is z (sight g w1) r1 say isnt))
