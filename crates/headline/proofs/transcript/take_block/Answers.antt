use Rattle.std.proofs.Common.{◌-◌, ◌≡◌, ◌≤◌, ℕ, ◌+◌, ◌<◌, ◌⊎◌, List, [], ◌∷◌, ◌++◌, length, take, drop, get_or, sym}
use Rattle.std.proofs.Common.{◌∙◌, subst, arith, append_assoc, length-drop}
use Rattle.std.proofs.lemmas.Result.{err_from_is_err_and}
use Rattle.devices.proofs.Known.{Appends-Appends}
use Rattle.devices.specs.Desks.{SeenDesk}
use Rattle.headline.specs.declared.transcript.TheConstants.{BLOCK}
use Rattle.headline.specs.declared.limits.TheConstants.{MOST_BYTES, MOST_LINES}
use Rattle.headline.specs.Answering.{Breaks, Quits}
use Rattle.headline.specs.Intake.{Reached}
use Rattle.headline.specs.Saving.{Takes}
use Rattle.session.specs.SessionView.{SessionView}
use Rattle.headline.proofs.Intake.{Breaks-more, Quits-more, reached_full, block_parts, block_more}
use Rattle.headline.proofs.transcript.take_block.Goals as goal

-- what was taken before, and one byte more
parted : (P : List ℕ → List ℕ → Type 0) (read block : List ℕ) (i : ℕ) (written text more : List ℕ) → i < length block
    → P ((read ++ take i block) ++ (get_or block i 0 ∷ []) ++ drop (i + 1) block) ((written ++ text) ++ more)
    → P (read ++ block) (written ++ (text ++ more))
parted P read block i written text more lt p =
    let whole : (read ++ take i block) ++ (get_or block i 0 ∷ []) ++ drop (i + 1) block ≡ read
    ++ block = append_assoc (read ++ take i block) (get_or block i 0 ∷ []) (drop (i + 1) block)
    ∙ block_parts read block i lt in
    subst (λ (t : List ℕ). P (read ++ block) t) (append_assoc written text more)
    (subst (λ (t : List ℕ). P t ((written ++ text) ++ more)) whole p)

-- less than a block stands behind a byte of it
behind : (i : ℕ) (block : List ℕ) → length block ≤ BLOCK → i < length block → length (drop (i + 1) block) < BLOCK
behind i block most lt = omega (arith, length-drop (i + 1) block)

pub returns-then-is_full-clause-err : goal.returns-then-is_full-clause-err
returns-then-is_full-clause-err g c =
    let inv = c.loop-byte.invariant.taken in
    let i = c.loop-byte.byte-index in
    let block = c.args.block.now in
    let lt : i < length block = omega arith in
    let most : (c.loop-byte.intake.lines ≡ MOST_LINES) ⊎ (c.loop-byte.intake.bytes ≡ MOST_BYTES) =
    c.is_full.ensures.0 c.if-is_full.true in (
      inv.0,
      inv.1,
      λ start read written r.
          reached_full start (read ++ take i block) (written ++ inv.0)
          (c.loop-byte.session, g.D.Desk.seen c.loop-byte.desk) c.loop-byte.intake.pending.items
          c.loop-byte.intake.lines c.loop-byte.intake.bytes (inv.2 start read written r)
          (read ++ block) (get_or block i 0) (drop (i + 1) block) (sym (block_parts read block i lt)) most
          (behind i block c.requires lt),
    )

pub returns-in_err-take_byte-clause-err : goal.returns-in_err-take_byte-clause-err
returns-in_err-take_byte-clause-err g c =
    let inv = c.loop-byte.invariant.taken in
    let i = c.loop-byte.byte-index in
    let block = c.args.block.now in
    let lt : i < length block = omega arith in
    let h = c.in_err-take_byte.ensures.err in
    let new : SessionView × SeenDesk = (c.take_byte.new.session, g.D.Desk.seen c.take_byte.new.desk) in
    let p = err_from_is_err_and c.from_residual.result c.from_residual.ensures.1 in
    rw (p.1, p.2) (
      inv.0 ++ h.0,
      Appends-Appends _ _ _ inv.0 h.0 inv.1 h.1,
      λ start read written r.
          parted (λ (t u : List ℕ). Breaks Takes ⊥ start t u new) read block i written inv.0 h.0 lt
          (Breaks-more start ((read ++ take i block) ++ (get_or block i 0 ∷ [])) ((written ++ inv.0) ++ h.0) new
          (drop (i + 1) block) (behind i block c.requires lt)
          (h.2 start (read ++ take i block) (written ++ inv.0) (inv.2 start read written r))),
    )

pub returns-then-branch-clause-ok : goal.returns-then-branch-clause-ok
returns-then-branch-clause-ok g c =
    let inv = c.loop-byte.invariant.taken in
    let i = c.loop-byte.byte-index in
    let block = c.args.block.now in
    let lt : i < length block = omega arith in
    let new : SessionView × SeenDesk = (c.take_byte.new.session, g.D.Desk.seen c.take_byte.new.desk) in
    let h = rw c.if-branch.true at c.in_ok-take_byte.ensures.ok in
    let close : length (drop (i + 1) block) < BLOCK = behind i block c.requires lt in (
      inv.0 ++ h.0,
      Appends-Appends _ _ _ inv.0 h.0 inv.1 h.1,
      λ start read written r.
          parted (λ (t u : List ℕ). (q : Quits Takes ⊥ start t u new) × (length q.taken.ahead ≤ BLOCK - 1)) read block i
          written inv.0 h.0 lt
          (let q = Quits-more start ((read ++ take i block) ++ (get_or block i 0 ∷ [])) ((written ++ inv.0) ++ h.0) new
          (drop (i + 1) block) close
          (h.2 start (read ++ take i block) (written ++ inv.0) (inv.2 start read written r)) in
          (q.0, omega (arith, q.1, close))),
    )

pub loop-byte-preserved : goal.loop-byte-preserved
loop-byte-preserved g c =
    let inv = c.loop-byte.invariant.taken in
    let i = c.loop-byte.byte-index in
    let block = c.args.block.now in
    let lt : i < length block = omega arith in
    let h = rw c.if-branch.false at c.in_ok-take_byte.ensures.ok in
    record {
      taken = (
        inv.0 ++ h.0,
        Appends-Appends _ _ _ inv.0 h.0 inv.1 h.1,
        λ start read written r.
            (let P : List ℕ → List ℕ → Type 0 = λ t u. Reached start t u
            (c.take_byte.new.session, g.D.Desk.seen c.take_byte.new.desk) c.take_byte.new.intake.pending.items
            c.take_byte.new.intake.lines c.take_byte.new.intake.bytes in
            subst (λ (u : List ℕ). P (read ++ take (i + 1) block) u) (append_assoc written inv.0 h.0)
            (subst (λ (t : List ℕ). P t ((written ++ inv.0) ++ h.0)) (block_more read block i lt)
            (h.2 start (read ++ take i block) (written ++ inv.0) (inv.2 start read written r)))),
      );
      sound = c.in_ok-take_byte.ensures.sound ∙ c.loop-byte.invariant.sound;
    }
