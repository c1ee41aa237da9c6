-- What lines of bytes do has texts.
use Rattle.std.proofs.Common.{◌≡◌, ℕ, ◌-◌, ◌≤◌, ◌<◌, List, [], ◌∷◌, ◌++◌, Bool, true, false, sym, subst, append_assoc}
use Rattle.std.proofs.Common.{nat_lt, length, take, slice_index, ◌==◌, if◌then◌else◌, ltb-false}
use Rattle.std.specs.List.{AllByRecursion, position_or_len}
use Rattle.std.proofs.lemmas.List.Elements.{All-take, All-from_recursion, recursion_from_All}
use Rattle.ht_values.specs.Text.{IsText}
use Rattle.ht_grammar.specs.Statements as stm
use Rattle.stack_text.proofs.Elements.{each_parts}
use Rattle.meaning.specs.Actions.{Action}
use Rattle.whole_states.specs.Texts.{ActionTexts, TypedTexts, TypedLinesHaveTexts, ClickedPartsHaveTexts}
use Rattle.whole_states.specs.Texts.{TypedTextsHaveTexts}
use Rattle.whole_states.proofs.TreeTexts.{dropped}
use Rattle.session.specs.Commands.{ReadsAction, typing, behind_name}
use Rattle.session.specs.declared.limits.TheConstants.{LONGEST_LINE}
use Rattle.session.specs.declared.command.Reading.{Reading}
use Rattle.session.specs.declared.command.Reading.TheVariants.{Lines, Opening, Reference, Typing}
use Rattle.session.specs.Splits.{ended_lines}
use Rattle.headline.specs.InputLines.{AreLines, without_return, all_lines}
use Rattle.transcripts.specs.Laws.{AreBytes}
use Rattle.transcripts.proofs.Kept.{ShortSaysSuch}

-- what is read of texts has texts
pub record TextReadings : Type 0 where
  pub lines : TypedLinesHaveTexts
  pub parts : ClickedPartsHaveTexts
  pub typing : TypedTextsHaveTexts

-- ---- what a line does has texts

typing_texts : (t : stm.Typed) → TypedTexts t → ActionTexts (typing t)
typing_texts (stm.typed text field) texts = texts

action_texts : TextReadings → (reading : Reading) (text : List ℕ) (does : Action) → IsText text →
    ReadsAction reading text does → ActionTexts does
action_texts readings Lines text does is (tree, reads, same) = subst ActionTexts (sym same)
    (readings.lines text tree is reads)
action_texts readings Opening text does is same = subst ActionTexts (sym same) tt
action_texts readings Reference text does is (tree, reads, same) = subst ActionTexts (sym same)
    (readings.parts text tree is reads)
action_texts readings Typing text does is (tree, reads, same) = subst ActionTexts (sym same)
    (typing_texts tree (readings.typing text tree is reads))

line_text : (line : List ℕ) → AreBytes line → nat_lt LONGEST_LINE (length line) ≡ false → IsText line
line_text line bytes short =
    let most : length line ≤ LONGEST_LINE = ltb-false LONGEST_LINE (length line) short in
    record { short = most; bytes = bytes }

pub says_texts : TextReadings → (line : List ℕ) → AreBytes line → ShortSaysSuch ActionTexts line
says_texts readings line bytes short reading does =
    let is = line_text line bytes short in (
      action_texts readings reading line does is,
      action_texts readings reading (behind_name line) does (dropped line (position_or_len (λ b. b == 32) line) is),
    )

-- ---- lines of bytes

bytes_of_each : (bs : List ℕ) → AllByRecursion (λ b. b < 256) bs → AreBytes bs
bytes_of_each bs each = All-from_recursion (λ b. b < 256) bs each

-- each of the ended lines, and what is left behind them
lines_each : (P : ℕ → Type 0) (ls : List (List ℕ)) (rest : List ℕ) → AllByRecursion P (ended_lines ls ++ rest) →
    AllByRecursion (AllByRecursion P) ls × AllByRecursion P rest
lines_each P [] rest all = (tt, all)
lines_each P (l ∷ ls) rest all =
    let first =
    each_parts P (l ++ 10 ∷ []) (ended_lines ls ++ rest)
    (subst (AllByRecursion P) (append_assoc (l ++ 10 ∷ []) (ended_lines ls) rest) all) in
    let line = each_parts P l (10 ∷ []) first.0 in
    let more = lines_each P ls rest first.1 in ((line.0, more.0), more.1)

returned_bytes : (line : List ℕ) → AreBytes line → AreBytes (without_return line)
returned_bytes line bytes = by (slice_index line (length line - 1) == 13)
  where
    by : (b : Bool) → AreBytes (if b then take (length line - 1) line else line)
    by true = All-take (λ b. b < 256) (length line - 1) line bytes
    by false = bytes

all_bytes : (ls : List (List ℕ)) (rest : List ℕ) → AllByRecursion (AllByRecursion (λ b. b < 256)) ls →
    AllByRecursion (λ b. b < 256) rest → AllByRecursion AreBytes (all_lines ls rest)
all_bytes [] [] each bytes = tt
all_bytes [] (b ∷ bs) each bytes = (bytes_of_each (b ∷ bs) bytes, tt)
all_bytes (l ∷ ls) rest each bytes = (returned_bytes l (bytes_of_each l each.0), all_bytes ls rest each.1 bytes)

-- the lines of bytes
pub lines_of_bytes : (read : List ℕ) (lines : List (List ℕ)) → AreBytes read → AreLines read lines →
    AllByRecursion AreBytes lines
lines_of_bytes read lines bytes are =
    let each : AllByRecursion (λ b. b < 256) (ended_lines are.ended ++ are.rest) =
    subst (AllByRecursion (λ b. b < 256)) are.splits.whole (recursion_from_All (λ b. b < 256) read bytes) in
    let parts = lines_each (λ b. b < 256) are.ended are.rest each in
    subst (AllByRecursion AreBytes) (sym are.all) (all_bytes are.ended are.rest parts.0 parts.1)

-- what they do has texts
pub each_says_texts : TextReadings → (lines : List (List ℕ)) → AllByRecursion AreBytes lines →
    AllByRecursion (ShortSaysSuch ActionTexts) lines
each_says_texts readings [] bytes = tt
each_says_texts readings (line ∷ lines) bytes =
    (says_texts readings line bytes.0, each_says_texts readings lines bytes.1)
