-- What a desk keeps over many lines.
use Rattle.std.proofs.Common.{◌≡◌, ℕ, ◌-◌, ◌≤◌, ◌^◌, ◌⊎◌, inl, inr, true, false, List, [], ◌∷◌, sym, ◌∙◌, ap, subst}
use Rattle.std.proofs.Common.{arith, MatchBool}
use Rattle.std.proofs.lemmas.Bool.{cases_lt}
use Rattle.devices.specs.Desks.{SeenDesk, HearsOrForgets}
use Rattle.devices.specs.Watching.{counted, Rose}
use Rattle.headline.specs.Answering.{is_quit, Session}
use Rattle.headline.specs.Headline.{LineMoves}
use Rattle.devices.specs.declared.desk.HeardMessage.{HeardMessage}
use Rattle.headline.specs.Saving.{Kept, Unkept, Beside, Settles, as_heard}
use Rattle.headline.specs.Unzipped.{SavesFollow}
use Rattle.session.specs.declared.reply.Ending.{Ending}
use Rattle.session.specs.declared.reply.Ending.TheVariants as endings
use Rattle.session.specs.declared.reply.Reply.{Reply}

abbrev most : ℕ
most = 2 ^ 64 - 1

-- no failure was counted, or some were
abbrev Outcome : Type 0 → SeenDesk → SeenDesk → Type 0
Outcome P old new = (P × (new.failures ≡ old.failures)) ⊎ (Rose old.failures new.failures × (new.failures ≤ most))

counted_rises : (n : ℕ) → Rose n (counted true n) × (counted true n ≤ most)
counted_rises n =
    elim (cases_lt n most) [
      | inl lt ↦ (inl (omega arith), omega arith)
      | inr ge ↦ (inr (omega arith), omega arith)
    ]

rises_on : (a b c : ℕ) → a ≤ most → Rose a b → Rose b c → Rose a c
rises_on a b c le (inl one) (inl two) = inl (omega arith)
rises_on a b c le (inl one) (inr two) = inr two
rises_on a b c le (inr one) (inl two) = inl (omega arith)
rises_on a b c le (inr one) (inr two) = inr two

kept_same : (ending : Ending) (old : SeenDesk) (told : Ending) (new : SeenDesk) → Kept ending old told new
    → new.failures ≡ old.failures
kept_same endings.Ok old told new k = ap (λ (d : SeenDesk). d.failures) k.1
kept_same (endings.Fault f) old told new k = ap (λ (d : SeenDesk). d.failures) k.1
kept_same (endings.Refused r) old told new k = ap (λ (d : SeenDesk). d.failures) k.1
kept_same (endings.Save t) old told new k = ap (λ (d : SeenDesk). d.failures) k.1
kept_same endings.Quit old told new k = ap (λ (d : SeenDesk). d.failures) k.1

unkept_counted : (ending : Ending) (old : SeenDesk) (told : Ending) (new : SeenDesk) → Unkept ending old told new
    → new.failures ≡ counted true old.failures
unkept_counted endings.Ok old told new u = absurd u
unkept_counted (endings.Fault f) old told new u = absurd u
unkept_counted (endings.Refused r) old told new u = absurd u
unkept_counted (endings.Save t) old told new u = ap (λ (d : SeenDesk). d.failures) u.1
unkept_counted endings.Quit old told new u = absurd u

-- hearing of messages is no failure
heard_same : (messages : List HeardMessage) (old new : SeenDesk) → HearsOrForgets messages old new →
    new.failures ≡ old.failures
heard_same messages old new (inl h) = ap (λ (d : SeenDesk). d.failures) h
heard_same messages old new (inr f) = ap (λ (d : SeenDesk). d.failures) f

-- what the rest says, after a line that was kept or not
joined : {P Q : Type 0} (a b c : SeenDesk) → a.failures ≤ most
    → (P × (b.failures ≡ a.failures)) ⊎ (b.failures ≡ counted true a.failures) → (b.failures ≤ most → Outcome Q b c)
    → Outcome (P × Q) a c
joined a b c le (inl k) rest =
    elim (rest (omega (arith, k.1))) [
      | inl r ↦ inl ((k.0, r.0), r.1 ∙ k.1)
      | inr r ↦ inr (subst (λ n. Rose n c.failures) k.1 r.0, r.1)
    ]
joined a b c le (inr u) rest =
    let rose = counted_rises a.failures in
    let here : Rose a.failures b.failures = subst (λ n. Rose a.failures n) (sym u) rose.0 in
    elim (rest (subst (λ n. n ≤ most) (sym u) rose.1)) [
      | inl r ↦ inr (subst (λ n. Rose a.failures n) (sym r.1) here, subst (λ n. n ≤ most) (sym (r.1 ∙ u)) rose.1)
      | inr r ↦ inr (rises_on a.failures b.failures c.failures le here r.0, r.1)
    ]

module _ {S : Type 0} (takes : List ℕ → S → Reply → S → Type 0) where
  one : (line : List ℕ) (old : S × SeenDesk) (reply : Reply) (new : S × SeenDesk) → Settles takes line old reply new
      → (Beside HearsOrForgets Kept takes line old reply new × (new.1.failures ≡ old.1.failures))
      ⊎ (new.1.failures ≡ counted true old.1.failures)
  one line old reply new s =
      let same = heard_same (as_heard reply.sent) old.1 s.told s.heard in
      elim s.kept [
        | inl k ↦ inl (
          record { ending = s.ending; told = s.told; taken = s.taken; heard = s.heard; kept = k },
          kept_same s.ending s.told reply.ending new.1 k ∙ same,
        )
        | inr u ↦ inr (unkept_counted s.ending s.told reply.ending new.1 u ∙ ap (counted true) same)
      ]

  pub saved : (old : S × SeenDesk) (lines : List (List ℕ)) (text : List ℕ) (new : S × SeenDesk) → old.1.failures ≤ most
      → Session (Settles takes) old lines text new
      → Outcome (Session (Beside HearsOrForgets Kept takes) old lines text new) old.1 new.1
  saved old [] text new le s = inl (s, ap (λ (p : S × SeenDesk). p.1.failures) s.1)
  saved old (line ∷ lines) text new le (reply, mid, more, step, is, rest) =
      let behind : mid.1.failures ≤ most
      → Outcome (MatchBool (is_quit reply.ending) ((more ≡ []) × (new ≡ mid))
      (Session (Beside HearsOrForgets Kept takes) mid lines more new)) mid.1 new.1 = λ few.
      elim (is_quit reply.ending) as (λ b. MatchBool b ((more ≡ []) × (new ≡ mid))
      (Session (Settles takes) mid lines more new)
      → Outcome (MatchBool b ((more ≡ []) × (new ≡ mid))
      (Session (Beside HearsOrForgets Kept takes) mid lines more new)) mid.1 new.1) [
        | true ↦ λ last. inl (last, ap (λ (p : S × SeenDesk). p.1.failures) last.1)
        | false ↦ λ more_lines. saved mid lines more new few more_lines
      ] rest in
      elim (joined old.1 mid.1 new.1 le (one line old reply mid step) behind) [
        | inl k ↦ inl ((reply, mid, more, k.0.0, is, k.0.1), k.1)
        | inr r ↦ inr r
      ]

pub saves_follow : SavesFollow
saves_follow old lines text new le s =
    elim (saved LineMoves old lines text new le s) [ inl k ↦ inl k.0 | inr r ↦ inr r.0 ]
