-- Behaviours that always make texts, as a run may need that is not of texts.
use Rattle.std.proofs.Common.{◌≡◌, ℕ, ◌<◌, List, [], ◌∷◌, length, map, Bool, true, false, refl, arith, All, nat_lt, ◌+◌}
use Rattle.std.specs.List.{AllByRecursion}
use Rattle.std.proofs.lemmas.Bool.{ltb-true, ltb-false}
use Rattle.std.proofs.lemmas.List.{length-map}
use Rattle.std.proofs.lemmas.List.Elements.{All-from_recursion, recursion_from_All}
use Rattle.ht_values.specs.Text.{IsText}
use Rattle.ht_values.specs.declared.text.TheConstants.{LIMIT}
use Rattle.object_table.proofs.Empty.{no_bytes}
use Rattle.externals.specs.Log.{Log}
use Rattle.externals.specs.Turns.{AskTexts, Turn}
use Rattle.externals.specs.declared.external.Ask.{Ask}
use Rattle.externals.specs.declared.external.Ask.TheVariants.{SendCardMessage, EvalExpr, SetGlobal, SetFieldByName}
use Rattle.externals.specs.declared.external.Ask.TheVariants.{Done, Fail}
use Rattle.externals.specs.declared.external.Input.{Input}
use Rattle.whole_states.specs.Texts.{AreTexts, InputTexts}
use Rattle.totality.specs.Laws.{Behaviour, IsBehaviour}

-- ---- whether a turn is of texts

below : (a b : ℕ) → Dec (a < b)
below a b = by (nat_lt a b) refl
  where
    by : (t : Bool) → nat_lt a b ≡ t → Dec (a < b)
    by true is = yes (ltb-true a b is)
    by false is = no (λ less. omega (arith, less, ltb-false a b is))

both : (P Q : Type 0) → Dec P → Dec Q → Dec (P × Q)
both P Q (yes p) (yes q) = yes (p, q)
both P Q (no isnt) q = no (λ h. isnt h.0)
both P Q (yes p) (no isnt) = no (λ h. isnt h.1)

-- of equivalent facts
of : (P Q : Type 0) → (P → Q) → (Q → P) → Dec P → Dec Q
of P Q to back (yes p) = yes (to p)
of P Q to back (no isnt) = no (λ q. isnt (back q))

each : {A : Type 0} (P : A → Type 0) → ((x : A) → Dec (P x)) → (xs : List A) → Dec (AllByRecursion P xs)
each P known [] = yes tt
each P known (x ∷ xs) = both (P x) (AllByRecursion P xs) (known x) (each P known xs)

all : {A : Type 0} (P : A → Type 0) → ((x : A) → Dec (P x)) → (xs : List A) → Dec (All P xs)
all P known xs =
    of (AllByRecursion P xs) (All P xs) (All-from_recursion P xs) (recursion_from_All P xs) (each P known xs)

text : (t : List ℕ) → Dec (IsText t)
text t =
    of ((length t < LIMIT + 1) × All (λ b. b < 256) t) (IsText t)
    (λ h. record { short = (let s = h.0 in omega (arith, s)); bytes = h.1 })
    (λ k. (let s = k.short in omega (arith, s), k.bytes))
    (both (length t < LIMIT + 1) (All (λ b. b < 256) t) (below (length t) (LIMIT + 1))
    (all (λ b. b < 256) (λ b. below b 256) t))

texts : (ts : List (List ℕ)) → Dec (AreTexts ts)
texts = each IsText text

named_texts : (note : List (List ℕ)) (n v : List ℕ) → Dec (AreTexts note × IsText n × IsText v)
named_texts note n v =
    of (AreTexts note × (IsText n × IsText v)) (AreTexts note × IsText n × IsText v) (λ h. (h.0, h.1.0, h.1.1))
    (λ h. (h.0, (h.1, h.2)))
    (both (AreTexts note) (IsText n × IsText v) (texts note) (both (IsText n) (IsText v) (text n) (text v)))

ask_texts : (ask : Ask) → Dec (AskTexts ask)
ask_texts (SendCardMessage note t) = both (AreTexts note) (IsText t) (texts note) (text t)
ask_texts (EvalExpr note t) = both (AreTexts note) (IsText t) (texts note) (text t)
ask_texts (SetGlobal note n v) = named_texts note n v
ask_texts (SetFieldByName note on_card n v) = named_texts note n v
ask_texts (Done v passes) = text v
ask_texts Fail = yes tt

abbrev pub TurnTexts : Turn → Type 0
TurnTexts t = AskTexts t.0 × All IsText t.1

pub turn_texts : (t : Turn) → Dec (TurnTexts t)
turn_texts t = both (AskTexts t.0) (All IsText t.1) (ask_texts t.0) (all IsText text t.1)

-- ---- safe behaviours

-- as many cells are left as there were, and always texts are made
pub record IsSafe (behaviour : Behaviour) : Type 0 where
  pub counts : (i : ℕ) (log : Log) (cells : List (List ℕ)) (input : Input) →
      length (behaviour i log cells input).1 ≡ length cells
  pub texts : (i : ℕ) (log : Log) (cells : List (List ℕ)) (input : Input) → TurnTexts (behaviour i log cells input)

-- fails, and leaves empty cells
abbrev pub gives_up : List (List ℕ) → Turn
gives_up cells = (Fail, map (λ _. []) cells)

emptied : (cells : List (List ℕ)) → AreTexts (map (λ _. []) cells)
emptied [] = tt
emptied (c ∷ cells) = (no_bytes, emptied cells)

given_up : (cells : List (List ℕ)) → TurnTexts (gives_up cells)
given_up cells = (tt, All-from_recursion IsText (map (λ _. []) cells) (emptied cells))

abbrev pub always_fails : Behaviour
always_fails i log cells input = gives_up cells

pub failing_is_safe : IsSafe always_fails
failing_is_safe = record {
  counts = λ i log cells input. length-map cells (λ _. []);
  texts = λ i log cells input. given_up cells;
}

-- the turn where it is of texts
abbrev pub if_known : (t : Turn) → Dec (TurnTexts t) → List (List ℕ) → Turn
if_known t (yes is) cells = t
if_known t (no isnt) cells = gives_up cells

-- the behaviour where it makes texts
abbrev pub safe : Behaviour → Behaviour
safe behaviour i log cells input =
    let t = behaviour i log cells input in if_known t (turn_texts t) cells

count_if : (t : Turn) (known : Dec (TurnTexts t)) (cells : List (List ℕ)) → length t.1 ≡ length cells →
    length (if_known t known cells).1 ≡ length cells
count_if t (yes is) cells same = same
count_if t (no isnt) cells same = length-map cells (λ _. [])

texts_if : (t : Turn) (known : Dec (TurnTexts t)) (cells : List (List ℕ)) → TurnTexts (if_known t known cells)
texts_if t (yes is) cells = is
texts_if t (no isnt) cells = given_up cells

same_if : (t : Turn) (known : Dec (TurnTexts t)) (cells : List (List ℕ)) → TurnTexts t → if_known t known cells ≡ t
same_if t (yes is) cells h = refl
same_if t (no isnt) cells h = absurd (isnt h)

pub safe_is_safe : {behaviour : Behaviour} → IsBehaviour behaviour → IsSafe (safe behaviour)
safe_is_safe {behaviour} h = record {
  counts = λ i log cells input. let t = behaviour i log cells input in
      count_if t (turn_texts t) cells (h.counts i log cells input);
  texts = λ i log cells input. let t = behaviour i log cells input in texts_if t (turn_texts t) cells;
}

-- of texts it is the behaviour itself
pub safe_is : (behaviour : Behaviour) → IsBehaviour behaviour → (i : ℕ) (log : Log) (cells : List (List ℕ))
    (input : Input) → All IsText cells → InputTexts input → safe behaviour i log cells input
    ≡ behaviour i log cells input
safe_is behaviour h i log cells input before handed =
    let t = behaviour i log cells input in
    same_if t (turn_texts t) cells (h.texts i log cells input before handed)
