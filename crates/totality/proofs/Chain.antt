-- Outcomes that exist, one part after another.
use Rattle.std.proofs.Common.{◌≡◌, ℕ, suc, ◌+◌, ◌≤◌, ◌<◌, List, Bool, true, false, Option, Some, None, Result, Ok, Err}
use Rattle.std.proofs.Common.{refl, arith, nat_lt, ◌≢◌, ltb-true, ltb-false}
use Rattle.ht_values.specs.declared.fault.Fault.{Fault}
use Rattle.ht_values.specs.declared.fault.Fault.TheVariants.{NoSuchObject}
use Rattle.change_journal.specs.History.{Open, History}
use Rattle.object_references.specs.declared.referent.Referent.{Referent}
use Rattle.meaning.specs.declared.end.How.{How}
use Rattle.meaning.specs.declared.end.How.TheVariants.{Next, ExitRepeat, NextRepeat, Exit, Pass, Returns}
use Rattle.meaning.specs.declared.end.Stop.{Stop}
use Rattle.meaning.specs.declared.end.Stop.TheVariants.{Fault as Faults, Exited, Memory}
use Rattle.meaning.specs.declared.frame.Frame.{Frame}
use Rattle.meaning.specs.State.{RunState}
use Rattle.meaning.specs.Values.{Yields}
use Rattle.preservation.specs.Laws.{HasMemory}
use Rattle.preservation.proofs.Ends.{stopped}
use Rattle.totality.specs.Laws.{Behaviour, Behaves}
use Rattle.totality.proofs.Behaving.{IsSafe}

-- the behaviour of externals that a run is to follow, and the history from which it does
pub record Begun : Type 0 where
  pub behaviour : Behaviour
  pub safe : IsSafe behaviour
  pub history : History

-- the batch that is open, in which a run can change the state, and that each turn up to here is that of the behaviour
pub record IsOpen (begun : Begun) (w : History) : Type 0 where
  pub batch : Open
  pub is : w.start ≡ Some batch
  pub behaves : Behaves begun.behaviour begun.history w

-- a batch is open, and fewer than n steps are left
pub record Underway (begun : Begun) (n : ℕ) (w : History) (r : RunState) : Type 0 where
  pub is_open : IsOpen begun w
  pub left : r.left < n

-- an outcome that isn't out of memory, after which the run could go on
pub data Has {A : Type 0} (begun : Begun) (n : ℕ) (Rule : Result A Stop → History → RunState → Type 0) : Type 0 where
  has : (o : Result A Stop) (w : History) (r : RunState) → HasMemory o → Underway begun n w r → Rule o w r →
      Has begun n Rule

-- and one of a statement, with the frame after it
pub data HasRun {A : Type 0} (begun : Begun) (n : ℕ) (Rule : Result A Stop → History → RunState → Frame →
    Type 0) : Type 0 where
  has_run : (o : Result A Stop) (w : History) (r : RunState) (f : Frame) → HasMemory o → Underway begun n w r →
      Rule o w r f → HasRun begun n Rule

-- ---- ends

pub ok : {A : Type 0} {begun : Begun} {n : ℕ} {Rule : Result A Stop → History → RunState → Type 0} {w : History}
    {r : RunState} (a : A) → Underway begun n w r → Rule (Ok a) w r → Has begun n Rule
ok {w = w} {r} a k h = has (Ok a) w r (λ e. cc) k h

pub fault : {A : Type 0} {begun : Begun} {n : ℕ} {Rule : Result A Stop → History → RunState → Type 0} {w : History}
    {r : RunState} (fa : Fault) → Underway begun n w r → Rule (Err (Faults fa)) w r → Has begun n Rule
fault {w = w} {r} fa k h = has (Err (Faults fa)) w r (λ e. cc) k h

pub run_ok : {A : Type 0} {begun : Begun} {n : ℕ} {Rule : Result A Stop → History → RunState → Frame → Type 0}
    {w : History} {r : RunState} (a : A) (f : Frame) → Underway begun n w r → Rule (Ok a) w r f → HasRun begun n Rule
run_ok {w = w} {r} a f k h = has_run (Ok a) w r f (λ e. cc) k h

pub run_fault : {A : Type 0} {begun : Begun} {n : ℕ} {Rule : Result A Stop → History → RunState → Frame → Type 0}
    {w : History} {r : RunState} (fa : Fault) (f : Frame) → Underway begun n w r → Rule (Err (Faults fa)) w r f →
    HasRun begun n Rule
run_fault {w = w} {r} fa f k h = has_run (Err (Faults fa)) w r f (λ e. cc) k h

pub run_exited : {A : Type 0} {begun : Begun} {n : ℕ} {Rule : Result A Stop → History → RunState → Frame → Type 0}
    {w : History} {r : RunState} (f : Frame) → Underway begun n w r → Rule (Err Exited) w r f → HasRun begun n Rule
run_exited {w = w} {r} f k h = has_run (Err Exited) w r f (λ e. cc) k h

-- a computed value, or its fault
pub yield : {A : Type 0} {begun : Begun} {n : ℕ} {Rule : Result A Stop → History → RunState → Type 0} {w : History}
    {r : RunState} (c : Result A Fault) → Underway begun n w r → ((o : Result A Stop) → Yields c o → Rule o w r) →
    Has begun n Rule
yield (Ok a) k rule = ok _ k (rule (Ok a) (Yields.yields refl))
yield (Err fa) k rule = fault _ k (rule (Err (Faults fa)) (Yields.faults refl))

-- the same outcome by another rule
pub same : {A : Type 0} {begun : Begun} {n : ℕ} {P Q : Result A Stop → History → RunState → Type 0} → Has begun n P →
    ((o : Result A Stop) (w : History) (r : RunState) → P o w r → Q o w r) → Has begun n Q
same (has o w r has_memory k h) rule = has o w r has_memory k (rule o w r h)

pub same_run : {A : Type 0} {begun : Begun} {n : ℕ} {P Q : Result A Stop → History → RunState → Frame → Type 0} →
    HasRun begun n P → ((o : Result A Stop) (w : History) (r : RunState) (f : Frame) → P o w r f → Q o w r f) →
    HasRun begun n Q
same_run (has_run o w r f has_memory k h) rule = has_run o w r f has_memory k (rule o w r f h)

-- ---- one part after another

-- fewer steps than n are fewer than one more
pub up : {begun : Begun} {n : ℕ} {w : History} {r : RunState} → Underway begun n w r → Underway begun (suc n) w r
up k = let fewer = k.left in record { is_open = k.is_open; left = omega (arith, fewer) }

pub then : {A B : Type 0} {begun : Begun} {n : ℕ} {P : Result A Stop → History → RunState → Type 0}
    {Q : Result B Stop → History → RunState → Type 0} → Has begun n P →
    ((z : Stop) (w : History) (r : RunState) → P (Err z) w r → Q (Err z) w r) →
    ((a : A) (w : History) (r : RunState) → Underway begun n w r → P (Ok a) w r → Has begun n Q) → Has begun n Q
then (has (Ok a) w r has_memory k h) stops goes_on = goes_on a w r k h
then (has (Err z) w r has_memory k h) stops goes_on = has (Err z) w r (stopped has_memory) k (stops z w r h)

pub then_in : {A B : Type 0} {begun : Begun} {n : ℕ} {P : Result A Stop → History → RunState → Type 0}
    {Q : Result B Stop → History → RunState → Frame → Type 0} (f : Frame) → Has begun n P →
    ((z : Stop) (w : History) (r : RunState) → P (Err z) w r → Q (Err z) w r f) →
    ((a : A) (w : History) (r : RunState) → Underway begun n w r → P (Ok a) w r → HasRun begun n Q) → HasRun begun n Q
then_in f (has (Ok a) w r has_memory k h) stops goes_on = goes_on a w r k h
then_in f (has (Err z) w r has_memory k h) stops goes_on = has_run (Err z) w r f (stopped has_memory) k
    (stops z w r h)

pub then_run : {A B : Type 0} {begun : Begun} {n : ℕ} {P : Result A Stop → History → RunState → Frame → Type 0}
    {Q : Result B Stop → History → RunState → Frame → Type 0} → HasRun begun n P →
    ((z : Stop) (w : History) (r : RunState) (f : Frame) → P (Err z) w r f → Q (Err z) w r f) →
    ((a : A) (w : History) (r : RunState) (f : Frame) → Underway begun n w r → P (Ok a) w r f → HasRun begun n Q) →
    HasRun begun n Q
then_run (has_run (Ok a) w r f has_memory k h) stops goes_on = goes_on a w r f k h
then_run (has_run (Err z) w r f has_memory k h) stops goes_on = has_run (Err z) w r f (stopped has_memory) k
    (stops z w r f h)

pub then_lines : {A B : Type 0} {begun : Begun} {n : ℕ} {P : Result A Stop → History → RunState → Frame → Type 0}
    {Q : Result B Stop → History → RunState → Type 0} → HasRun begun n P →
    ((z : Stop) (w : History) (r : RunState) (f : Frame) → P (Err z) w r f → Q (Err z) w r) →
    ((a : A) (w : History) (r : RunState) (f : Frame) → Underway begun n w r → P (Ok a) w r f → Has begun n Q) →
    Has begun n Q
then_lines (has_run (Ok a) w r f has_memory k h) stops goes_on = goes_on a w r f k h
then_lines (has_run (Err z) w r f has_memory k h) stops goes_on = has (Err z) w r (stopped has_memory) k
    (stops z w r f h)

-- a statement, and then the rest of its lines
pub then_next : {begun : Begun} {n : ℕ} {P Q : Result How Stop → History → RunState → Frame → Type 0} →
    HasRun begun n P → ((z : Stop) (w : History) (r : RunState) (f : Frame) → P (Err z) w r f → Q (Err z) w r f) →
    ((how : How) (w : History) (r : RunState) (f : Frame) → P (Ok how) w r f → how ≢ Next → Q (Ok how) w r f) →
    ((w : History) (r : RunState) (f : Frame) → Underway begun n w r → P (Ok Next) w r f → HasRun begun n Q) →
    HasRun begun n Q
then_next (has_run (Err z) w r f has_memory k h) stops leaves goes_on = has_run (Err z) w r f has_memory k
    (stops z w r f h)
then_next (has_run (Ok Next) w r f has_memory k h) stops leaves goes_on = goes_on w r f k h
then_next (has_run (Ok ExitRepeat) w r f has_memory k h) stops leaves goes_on = run_ok _ f k
    (leaves ExitRepeat w r f h (λ e. cc))
then_next (has_run (Ok NextRepeat) w r f has_memory k h) stops leaves goes_on = run_ok _ f k
    (leaves NextRepeat w r f h (λ e. cc))
then_next (has_run (Ok Exit) w r f has_memory k h) stops leaves goes_on = run_ok _ f k (leaves Exit w r f h (λ e. cc))
then_next (has_run (Ok Pass) w r f has_memory k h) stops leaves goes_on = run_ok _ f k (leaves Pass w r f h (λ e. cc))
then_next (has_run (Ok (Returns v)) w r f has_memory k h) stops leaves goes_on = run_ok _ f k
    (leaves (Returns v) w r f h (λ e. cc))

-- ---- cases

pub choose : {X : Type 0} (b : Bool) → (b ≡ true → X) → (b ≡ false → X) → X
choose true so otherwise = so refl
choose false so otherwise = otherwise refl

pub maybe : {A X : Type 0} (found : Option A) → ((a : A) → found ≡ Some a → X) → (found ≡ None → X) → X
maybe (Some a) is isnt = is a refl
maybe None is isnt = isnt refl

pub computed : {A X : Type 0} (c : Result A Fault) → ((a : A) → c ≡ Ok a → X) → ((n : Fault) → c ≡ Err n → X) → X
computed (Ok a) is isnt = is a refl
computed (Err n) is isnt = isnt n refl

-- whether a call may be nested
pub deep : {X : Type 0} (d : ℕ) → d ≤ 100 → (d < 100 → X) → (d ≡ 100 → X) → X
deep d le less equal = choose (nat_lt d 100) (λ e. less (ltb-true d 100 e))
    (λ e. equal (omega (arith, le, ltb-false d 100 e)))

pub nested : {d : ℕ} → d < 100 → d + 1 ≤ 100
nested lt = omega (arith, lt)

-- a reference that may have no object
pub there : {begun : Begun} {n : ℕ} {P : Result Referent Stop → History → RunState → Type 0}
    {Q : Result (List ℕ) Stop → History → RunState → Type 0} (some none : List ℕ) → Has begun n P →
    ((m : Referent) (w : History) (r : RunState) → P (Ok m) w r → Q (Ok some) w r) →
    ((w : History) (r : RunState) → P (Err (Faults NoSuchObject)) w r → Q (Ok none) w r) →
    ((z : Stop) (w : History) (r : RunState) → z ≢ Faults NoSuchObject → P (Err z) w r → Q (Err z) w r) → Has begun n Q
there some none (has (Ok m) w r has_memory k h) is isnt stops = ok _ k (is m w r h)
there some none (has (Err Memory) w r has_memory k h) is isnt stops = absurd (has_memory refl)
there some none (has (Err Exited) w r has_memory k h) is isnt stops = has (Err Exited) w r (λ e. cc) k
    (stops Exited w r (λ e. cc) h)
there some none (has (Err (Faults NoSuchObject)) w r has_memory k h) is isnt stops = ok _ k (isnt w r h)
there some none (has (Err (Faults n)) w r has_memory k h) is isnt stops = fault _ k (stops (Faults n) w r (λ e. cc) h)
