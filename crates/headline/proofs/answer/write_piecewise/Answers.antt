use Rattle.std.proofs.Common.{◌≡◌, ◌++◌, ◌+◌, ◌<◌, ◌≤◌, ℕ, List, ◌∷◌, Err, length, drop, get_or, sym, ap, ◌∙◌}
use Rattle.std.proofs.Common.{append_assoc, add-one, drop-cons, arith, suc}
use Rattle.std.proofs.lemmas.List.{append-nil, drop_all}
use Rattle.std.proofs.lemmas.Result.{err_from_is_err_and}
use Rattle.std.specs.List.{flat_map}
use Rattle.devices.proofs.Known.{Appends-Appends}
use Rattle.headline.specs.Answers.{shown_line, ending_line, answer}
use Rattle.headline.proofs.Writing.{cut_before, goes_behind, as_bytes}
use Rattle.headline.proofs.answer.write_piecewise.Goals as goal

-- the lines from one on
from_line : (lines : List (List ℕ)) (i : ℕ) (line bytes : List ℕ) → i < length lines → line ≡ get_or lines i line
    → bytes ≡ line
    → flat_map shown_line (drop i lines) ≡ shown_line bytes ++ flat_map shown_line (drop (i + 1) lines)
from_line lines i line bytes lt is same =
    let split : drop i lines ≡ line ∷ drop (i + 1) lines =
    rw add-one (drop-cons lines i line lt ∙ ap (λ (l : List ℕ). l ∷ drop (suc i) lines) (sym is)) in
    ap (flat_map shown_line) split ∙ ap (λ (t : List ℕ). shown_line t ++ flat_map shown_line (drop (i + 1) lines))
    (sym same)

-- no line is left
none_left : (lines : List (List ℕ)) (i : ℕ) (front : List ℕ) (all : List ℕ) → length lines ≤ i
    → front ++ flat_map shown_line (drop i lines) ≡ all → front ≡ all
none_left lines i front all le is = sym (append-nil front)
    ∙ ap (λ (ls : List (List ℕ)). front ++ flat_map shown_line ls) (sym (drop_all i lines le)) ∙ is

-- what went out before, a piece, what is left behind it, and an end
in_parts : (front piece left end all : List ℕ) → front ++ (piece ++ left) ≡ all
    → front ++ (piece ++ (left ++ end)) ≡ all ++ end
in_parts front piece left end all is = ap (λ (t : List ℕ). front ++ t) (sym (append_assoc piece left end))
    ∙ sym (append_assoc front (piece ++ left) end) ∙ ap (λ (t : List ℕ). t ++ end) is

pub loop-line-preserved : goal.loop-line-preserved
loop-line-preserved g c =
    let h = c.loop-line.invariant in
    let one = c.in_ok-write_three.ensures in
    let lines = c.as_slice-line-items.result.now in
    let i = c.loop-line.line-index in
    let piece = shown_line c.as_slice.result.now in
    let left = flat_map shown_line (drop (i + 1) lines) in
    let lt : i < length lines = omega arith in
    let split = from_line lines i c.line-item.result c.as_slice.result.now lt c.line-item.is c.as_slice.ensures in
    record {
      sent = (
        h.sent.0 ++ piece,
        Appends-Appends _ _ _ h.sent.0 piece h.sent.1 one.0,
        append_assoc h.sent.0 piece left
            ∙ ap (λ (t : List ℕ). h.sent.0 ++ t) (sym split) ∙ h.sent.2,
      );
      sound = one.1 ∙ h.sound;
    }

pub returns-in_err-write_three : goal.returns-in_err-write_three
returns-in_err-write_three g c =
    let p = err_from_is_err_and c.from_residual.result c.from_residual.ensures.1 in
    let h = c.loop-line.invariant in
    let reply = c.args.reply.now in
    let lines = c.as_slice-line-items.result.now in
    let i = c.loop-line.line-index in
    let piece = shown_line c.as_slice.result.now in
    let left = flat_map shown_line (drop (i + 1) lines) in
    let end = ending_line reply.ending in
    let lt : i < length lines = omega arith in
    let split = from_line lines i c.line-item.result c.as_slice.result.now lt c.line-item.is c.as_slice.ensures in
    let whole : h.sent.0 ++ (piece ++ (left ++ end)) ≡ answer reply =
    in_parts h.sent.0 piece left end _ (ap (λ (t : List ℕ). h.sent.0 ++ t) (sym split) ∙ h.sent.2) in
    let cut = c.in_err-write_three.field-0.0 in
    let contents = g.W.Write.contents in
    rw p.1 (as_bytes contents (h.sent.0 ++ (piece ++ (left ++ end))) (answer reply) (Err cut) _ _ whole
    (goes_behind contents h.sent.0 (piece ++ (left ++ end)) (Err cut) _ _ _ h.sent.1 h.sound
    (cut_before contents piece (left ++ end) cut cut _ _ c.in_err-write_three.ensures)))

pub returns : goal.returns
returns g c =
    let h = c.loop-line.invariant in
    let reply = c.args.reply.now in
    let end = ending_line reply.ending in
    let all : h.sent.0 ≡ flat_map shown_line reply.shown =
    none_left c.as_slice-line-items.result.now c.loop-line.line-index _ _ c.loop-line-test.false h.sent.2 in
    let contents = g.W.Write.contents in
    as_bytes contents (h.sent.0 ++ end) (answer reply) c.write_ending.result _ _ (ap (λ (t : List ℕ). t ++ end) all)
    (goes_behind contents h.sent.0 end c.write_ending.result _ _ _ h.sent.1 h.sound c.write_ending.ensures)
