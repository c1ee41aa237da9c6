-- The table of the kit leaves as many cells, and makes texts of texts.
use Rattle.std.proofs.Common.{◌≡◌, ℕ, zero, suc, ℤ, pos, negsuc, List, [], ◌∷◌, length, Bool, true, false, cond, codes}
use Rattle.std.proofs.Common.{nat_eq, nat_lt, get_or, set, ◌+ℤ◌, Option, Some, None, refl, length-set, IfSome}
use Rattle.std.proofs.lemmas.List.Elements.{All-from_recursion, recursion_from_All}
use Rattle.ht_values.specs.Text.{IsText, numeral}
use Rattle.object_table.proofs.Empty.{no_bytes}
use Rattle.externals.specs.Turns.{AskTexts, Turn}
use Rattle.externals.specs.declared.external.Ask.TheVariants.{SendCardMessage, EvalExpr, SetFieldByName, Done}
use Rattle.externals.specs.declared.external.Input.{Input}
use Rattle.externals.specs.declared.external.Input.TheVariants.{Start, Answer}
use Rattle.xkit.specs.Steps.{cell, fails}
use Rattle.xkit.specs.Table.{bins_turn, counted, counter_turn, gate_turn, is_stage, kit_table, may_count, number_in}
use Rattle.xkit.specs.Table.{relay_answer, relay_start, relay_turn, stored}
use Rattle.whole_states.specs.Texts.{AreTexts, InputTexts}
use Rattle.whole_states.proofs.ValueTexts.{given_text, numeral_text}
use Rattle.totality.specs.Tables.{IsTable}

-- as many cells, and texts of texts
abbrev IsFine : List (List ℕ) → Input → Turn → Type 0
IsFine cells input t =
    (length t.1 ≡ length cells) × (AreTexts cells → InputTexts input → AskTexts t.0 × AreTexts t.1)

set_texts : (cells : List (List ℕ)) (i : ℕ) (t : List ℕ) → AreTexts cells → IsText t → AreTexts (set cells i t)
set_texts [] i t h k = tt
set_texts (x ∷ xs) zero t h k = (k, h.1)
set_texts (x ∷ xs) (suc i) t h k = (h.0, set_texts xs i t h.1 k)

cell_text : (cells : List (List ℕ)) (i : ℕ) → AreTexts cells → IsText (get_or cells i [])
cell_text [] i h = no_bytes
cell_text (x ∷ xs) zero h = h.0
cell_text (x ∷ xs) (suc i) h = cell_text xs i h.1

failing : (cells : List (List ℕ)) (input : Input) → IsFine cells input (fails cells)
failing cells input = (refl, λ h k. (tt, h))

either : (cells : List (List ℕ)) (input : Input) (b : Bool) (x y : Turn) → IsFine cells input x →
    IsFine cells input y → IsFine cells input (cond b x y)
either cells input true x y h k = h
either cells input false x y h k = k

counts : (cells : List (List ℕ)) (input : Input) (o : Option ℤ) → IsFine cells input (counted cells o)
counts cells input None = failing cells input
counts cells input (Some n) =
    let more = numeral (n +ℤ pos 1) in
    let more_text = numeral_text (n +ℤ pos 1) in
    either cells input (may_count n) (Done more false, set cells 0 more) (fails cells)
    (length-set cells 0 more, λ h k. (more_text, set_texts cells 0 more h more_text)) (failing cells input)

counters : (cells : List (List ℕ)) (input : Input) → IsFine cells input (counter_turn cells input)
counters cells (Start args) = counts cells (Start args) (number_in (cell cells 0))
counters cells (Answer note value) = failing cells (Answer note value)

stores : (cells : List (List ℕ)) (n t : List ℕ) (o : Option ℤ) → IsFine cells (Start (n ∷ t ∷ [])) (stored cells o t)
stores cells n t (Some (pos (suc i))) =
    let input = Start (n ∷ t ∷ []) in
    either cells input (nat_lt i 16) (Done (cell cells i) false, set cells i t) (fails cells)
    (length-set cells i t, λ h k. (cell_text cells i h, set_texts cells i t h k.1.0)) (failing cells input)
stores cells n t (Some (pos zero)) = failing cells (Start (n ∷ t ∷ []))
stores cells n t (Some (negsuc i)) = failing cells (Start (n ∷ t ∷ []))
stores cells n t None = failing cells (Start (n ∷ t ∷ []))

bins : (cells : List (List ℕ)) (input : Input) → IsFine cells input (bins_turn cells input)
bins cells (Start (n ∷ t ∷ [])) = stores cells n t (number_in n)
bins cells (Start []) = failing cells (Start [])
bins cells (Start (n ∷ [])) = failing cells (Start (n ∷ []))
bins cells (Start (n ∷ t ∷ more ∷ rest)) = failing cells (Start (n ∷ t ∷ more ∷ rest))
bins cells (Answer note value) = failing cells (Answer note value)

starts : (cells args : List (List ℕ)) → IsFine cells (Start args) (relay_start cells args)
starts cells (global ∷ field ∷ expression ∷ message ∷ []) = (
  length-set cells 0 global,
  λ h k. (
    ((given_text (codes "1") refl, k.1), k.0, given_text (codes "relay") refl),
    set_texts cells 0 global h k.0,
  ),
)
starts cells [] = failing cells (Start [])
starts cells (a ∷ []) = failing cells (Start (a ∷ []))
starts cells (a ∷ b ∷ []) = failing cells (Start (a ∷ b ∷ []))
starts cells (a ∷ b ∷ c ∷ []) = failing cells (Start (a ∷ b ∷ c ∷ []))
starts cells (a ∷ b ∷ c ∷ d ∷ e ∷ rest) = failing cells (Start (a ∷ b ∷ c ∷ d ∷ e ∷ rest))

goes_on : (cells note : List (List ℕ)) (value : List ℕ) → IsFine cells (Answer note value)
    (relay_answer cells note value)
goes_on cells (stage ∷ field ∷ expression ∷ message ∷ []) value =
    let input = Answer (stage ∷ field ∷ expression ∷ message ∷ []) value in
    either cells input (is_stage stage (codes "1"))
    (SetFieldByName (codes "2" ∷ expression ∷ message ∷ []) false field (cell cells 0), cells) (fails cells)
    (refl, λ h k. (((given_text (codes "2") refl, k.0.1.1), k.0.1.0, cell_text cells 0 h), h)) (failing cells input)
goes_on cells (stage ∷ expression ∷ message ∷ []) value =
    let input = Answer (stage ∷ expression ∷ message ∷ []) value in
    either cells input (is_stage stage (codes "2")) (EvalExpr (codes "3" ∷ message ∷ []) expression, cells)
    (fails cells) (refl, λ h k. (((given_text (codes "3") refl, k.0.1.1), k.0.1.0), h)) (failing cells input)
goes_on cells (stage ∷ text ∷ []) value =
    let input = Answer (stage ∷ text ∷ []) value in
    let last : Turn = cond (is_stage stage (codes "4")) (Done text false, cells) (fails cells) in
    either cells input (is_stage stage (codes "3"))
    (SendCardMessage (codes "4" ∷ value ∷ []) text, set cells 1 value) last (
      length-set cells 1 value,
      λ h k. (((given_text (codes "4") refl, (k.1, tt)), k.0.1.0), set_texts cells 1 value h k.1),
    )
    (either cells input (is_stage stage (codes "4")) (Done text false, cells) (fails cells)
    (refl, λ h k. (k.0.1.0, h)) (failing cells input))
goes_on cells [] value = failing cells (Answer [] value)
goes_on cells (a ∷ []) value = failing cells (Answer (a ∷ []) value)
goes_on cells (a ∷ b ∷ c ∷ d ∷ e ∷ rest) value = failing cells (Answer (a ∷ b ∷ c ∷ d ∷ e ∷ rest) value)

relays : (cells : List (List ℕ)) (input : Input) → IsFine cells input (relay_turn cells input)
relays cells (Start args) = starts cells args
relays cells (Answer note value) = goes_on cells note value

gates : (cells : List (List ℕ)) (input : Input) → IsFine cells input (gate_turn cells input)
gates cells (Start args) =
    let input = Start args in
    let opened : Turn = (Done [] false, set cells 0 (codes "1")) in
    let closed : Turn = (Done [] true, set cells 0 (codes "0")) in
    either cells input (is_stage (cell cells 0) (codes "0")) opened
    (cond (is_stage (cell cells 0) (codes "1")) closed (fails cells)) (
      length-set cells 0 (codes "1"),
      λ h k. (no_bytes, set_texts cells 0 (codes "1") h (given_text (codes "1") refl)),
    )
    (either cells input (is_stage (cell cells 0) (codes "1")) closed (fails cells) (
      length-set cells 0 (codes "0"),
      λ h k. (no_bytes, set_texts cells 0 (codes "0") h (given_text (codes "0") refl)),
    ) (failing cells input))
gates cells (Answer note value) = failing cells (Answer note value)

-- ---- the table

choose : (P : Turn → Type 0) (b : Bool) (x : Turn) (rest : Option Turn) → P x → IfSome rest P →
    IfSome (cond b (Some x) rest) P
choose P true x rest h k = h
choose P false x rest h k = k

fine : (sort : ℕ) (cells : List (List ℕ)) (input : Input) → IfSome (kit_table sort cells input) (IsFine cells input)
fine sort cells input =
    choose (IsFine cells input) (nat_eq sort 1) (counter_turn cells input) _ (counters cells input)
    (choose (IsFine cells input) (nat_eq sort 2) (bins_turn cells input) _ (bins cells input)
    (choose (IsFine cells input) (nat_eq sort 3) (relay_turn cells input) _ (relays cells input)
    (choose (IsFine cells input) (nat_eq sort 4) (gate_turn cells input) None (gates cells input) tt)))

each : (P Q : Turn → Type 0) (o : Option Turn) → ((t : Turn) → P t → Q t) → IfSome o P → IfSome o Q
each P Q None so h = tt
each P Q (Some t) so h = so t h

pub kit_is_a_table : IsTable kit_table
kit_is_a_table = record {
  counts = λ sort cells input. each (IsFine cells input) (λ t. length t.1 ≡ length cells)
      (kit_table sort cells input) (λ t h. h.0) (fine sort cells input);
  texts = λ sort cells input before handed. each (IsFine cells input) _ (kit_table sort cells input)
      (λ t h. let made = h.1 (recursion_from_All IsText cells before) handed in
      (made.0, All-from_recursion IsText t.1 made.1)) (fine sort cells input);
}
