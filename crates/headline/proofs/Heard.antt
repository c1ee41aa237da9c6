-- What a desk heard over many lines.
use Rattle.std.proofs.Common.{◌≡◌, ◌≢◌, ℕ, zero, suc, ◌+◌, inl, inr, true, false, List, [], ◌∷◌, ◌++◌, take, refl, sym}
use Rattle.std.proofs.Common.{ap, subst, ◌∙◌, add-one, MatchBool, Some, None, option_map, slice_get}
use Rattle.std.proofs.lemmas.List.{map-append}
use Rattle.std.proofs.lemmas.Option.{none-some}
use Rattle.meaning.specs.Sent.{SentMessage}
use Rattle.devices.proofs.Hearing.{hears_on}
use Rattle.devices.specs.Desks.{SeenDesk, Hears, HearsOrForgets}
use Rattle.devices.specs.declared.desk.HeardMessage.{HeardMessage}
use Rattle.headline.specs.Answering.{is_quit, Session}
use Rattle.headline.specs.Headline.{LineMoves}
use Rattle.headline.specs.Saving.{Kept, Unkept, KeptOrNot, Settles, SettlesHeard, as_heard}
use Rattle.headline.specs.Unzipped.{MessagesFollow}
use Rattle.session.specs.declared.reply.Ending.{Ending}
use Rattle.session.specs.declared.reply.Ending.TheVariants as endings
use Rattle.session.specs.declared.reply.Reply.{Reply}

-- keeping a text changes nothing of what is heard
kept_same : (ending : Ending) (old : SeenDesk) (told : Ending) (new : SeenDesk) → Kept ending old told new →
    new.heard ≡ old.heard
kept_same endings.Ok old told new k = ap (λ (d : SeenDesk). d.heard) k.1
kept_same (endings.Fault f) old told new k = ap (λ (d : SeenDesk). d.heard) k.1
kept_same (endings.Refused r) old told new k = ap (λ (d : SeenDesk). d.heard) k.1
kept_same (endings.Save t) old told new k = ap (λ (d : SeenDesk). d.heard) k.1
kept_same endings.Quit old told new k = ap (λ (d : SeenDesk). d.heard) k.1

unkept_same : (ending : Ending) (old : SeenDesk) (told : Ending) (new : SeenDesk) → Unkept ending old told new →
    new.heard ≡ old.heard
unkept_same endings.Ok old told new u = absurd u
unkept_same (endings.Fault f) old told new u = absurd u
unkept_same (endings.Refused r) old told new u = absurd u
unkept_same (endings.Save t) old told new u = ap (λ (d : SeenDesk). d.heard) u.1
unkept_same endings.Quit old told new u = absurd u

asked_same : (ending : Ending) (old : SeenDesk) (told : Ending) (new : SeenDesk) → KeptOrNot ending old told new →
    new.heard ≡ old.heard
asked_same ending old told new (inl k) = kept_same ending old told new k
asked_same ending old told new (inr u) = unkept_same ending old told new u

take_next : (messages : List SentMessage) (i : ℕ) (next : SentMessage) → slice_get messages i ≡ Some next →
    take (suc i) messages ≡ take i messages ++ next ∷ []
take_next [] zero next is = absurd (none-some next is)
take_next [] (suc i) next is = absurd (none-some next is)
take_next (m ∷ ms) zero next is = ap (λ (t : SentMessage). t ∷ []) (let same : m ≡ next = cc in same)
take_next (m ∷ ms) (suc i) next is = ap (λ (t : List SentMessage). m ∷ t) (take_next ms i next is)

-- a desk hears one message after the other
pub heard_more : (messages : List SentMessage) (i : ℕ) (next : SentMessage) (old mid new : SeenDesk) →
    slice_get messages i ≡ Some next → HearsOrForgets (as_heard (take i messages)) old mid →
    HearsOrForgets (as_heard (next ∷ [])) mid new → HearsOrForgets (as_heard (take (i + 1) messages)) old new
heard_more messages i next old mid new is before then =
    let taken : take (i + 1) messages ≡ take i messages ++ next ∷ [] = rw add-one (take_next messages i next is) in
    let whole : as_heard (take (i + 1) messages) ≡ as_heard (take i messages) ++ as_heard (next ∷ []) =
    ap as_heard taken ∙ map-append _ (take i messages) (next ∷ []) in
    subst (λ (heard : List HeardMessage). HearsOrForgets heard old new) (sym whole)
    (hears_on (as_heard (take i messages)) (as_heard (next ∷ [])) old mid new before then)

-- a desk that doesn't tell what it heard doesn't tell later
none_more : (messages : List HeardMessage) (old new : SeenDesk) → HearsOrForgets messages old new → old.heard ≡ None →
    new.heard ≡ None
none_more messages old new (inl h) none = ap (λ (d : SeenDesk). d.heard) h ∙ ap (option_map _) none
none_more messages old new (inr f) none = ap (λ (d : SeenDesk). d.heard) f

-- one that tells afterwards has heard of these messages
all_heard : (messages : List HeardMessage) (old new : SeenDesk) → new.heard ≢ None → HearsOrForgets messages old new →
    Hears messages old new
all_heard messages old new tells (inl h) = h
all_heard messages old new tells (inr f) = absurd (tells (ap (λ (d : SeenDesk). d.heard) f))

module _ {S : Type 0} (takes : List ℕ → S → Reply → S → Type 0) where
  none_after : (line : List ℕ) (old : S × SeenDesk) (reply : Reply) (new : S × SeenDesk) →
      Settles takes line old reply new → old.1.heard ≡ None → new.1.heard ≡ None
  none_after line old reply new s none =
      asked_same s.ending s.told reply.ending new.1 s.kept
      ∙ none_more (as_heard reply.sent) old.1 s.told s.heard none

  none_in_the_end : (old : S × SeenDesk) (lines : List (List ℕ)) (text : List ℕ) (new : S × SeenDesk) →
      Session (Settles takes) old lines text new → old.1.heard ≡ None → new.1.heard ≡ None
  none_in_the_end old [] text new s none = ap (λ (p : S × SeenDesk). p.1.heard) s.1 ∙ none
  none_in_the_end old (line ∷ lines) text new (reply, mid, more, step, is, rest) none =
      elim (is_quit reply.ending) as (λ b. MatchBool b ((more ≡ []) × (new ≡ mid))
      (Session (Settles takes) mid lines more new) → new.1.heard ≡ None) [
        | true ↦ λ last. ap (λ (p : S × SeenDesk). p.1.heard) last.1 ∙ none_after line old reply mid step none
        | false ↦ λ more_lines.
            none_in_the_end mid lines more new more_lines (none_after line old reply mid step none)
      ] rest

  one : (line : List ℕ) (old : S × SeenDesk) (reply : Reply) (new : S × SeenDesk) → new.1.heard ≢ None →
      Settles takes line old reply new → SettlesHeard takes line old reply new
  one line old reply new tells s =
      let before : s.told.heard ≢ None = λ none. tells (asked_same s.ending s.told reply.ending new.1 s.kept ∙ none) in
      record {
        ending = s.ending;
        told = s.told;
        taken = s.taken;
        heard = all_heard (as_heard reply.sent) old.1 s.told before s.heard;
        kept = s.kept;
      }

  pub heard : (old : S × SeenDesk) (lines : List (List ℕ)) (text : List ℕ) (new : S × SeenDesk) → new.1.heard ≢ None →
      Session (Settles takes) old lines text new → Session (SettlesHeard takes) old lines text new
  heard old [] text new tells s = s
  heard old (line ∷ lines) text new tells (reply, mid, more, step, is, rest) =
      elim (is_quit reply.ending) as (λ b. is_quit reply.ending ≡ b
      → MatchBool b ((more ≡ []) × (new ≡ mid)) (Session (Settles takes) mid lines more new)
      → Session (SettlesHeard takes) old (line ∷ lines) text new) [
        | true ↦ λ quits last. (
          reply,
          mid,
          more,
          one line old reply mid (λ none. tells (ap (λ (p : S × SeenDesk). p.1.heard) last.1 ∙ none)) step,
          is,
          rw quits last,
        )
        | false ↦ λ goes_on more_lines. (
          reply,
          mid,
          more,
          one line old reply mid (λ none. tells (none_in_the_end mid lines more new more_lines none)) step,
          is,
          rw goes_on (heard mid lines more new tells more_lines),
        )
      ] refl rest

pub messages_follow : MessagesFollow
messages_follow old lines text new tells s = heard LineMoves old lines text new tells s
