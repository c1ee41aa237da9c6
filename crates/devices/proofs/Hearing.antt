-- What a desk hears, piece by piece.
use Rattle.std.proofs.Common.{◌≡◌, inl, inr, List, [], ◌++◌, refl, sym, ap, ◌∙◌, append_assoc, append-nil}
use Rattle.std.specs.Prelude.{Option, Some, None, option_map}
use Rattle.devices.specs.Desks.{SeenDesk, HearsOrForgets}
use Rattle.devices.specs.declared.desk.HeardMessage.{HeardMessage}

abbrev with_heard : SeenDesk → Option (List HeardMessage) → SeenDesk
with_heard desk heard = record desk { heard = heard }

nothing_more : (heard : Option (List HeardMessage)) → heard ≡ option_map (λ before. before ++ []) heard
nothing_more None = refl
nothing_more (Some before) = ap Some (sym (append-nil before))

both : (a b : List HeardMessage) (heard : Option (List HeardMessage)) →
    option_map (λ before. before ++ b) (option_map (λ before. before ++ a) heard)
    ≡ option_map (λ before. before ++ (a ++ b)) heard
both a b None = refl
both a b (Some before) = ap Some (append_assoc before a b)

pub hears_nothing : (desk : SeenDesk) → HearsOrForgets [] desk desk
hears_nothing desk = inl (ap (with_heard desk) (nothing_more desk.heard))

-- what was heard before, and what is heard then
pub hears_on : (a b : List HeardMessage) (old mid new : SeenDesk) → HearsOrForgets a old mid → HearsOrForgets b mid new
    →
    HearsOrForgets (a ++ b) old new
hears_on a b old mid new (inl first) (inl then) =
    inl (then ∙ ap (λ (d : SeenDesk). with_heard d (option_map (λ before. before ++ b) d.heard)) first
    ∙ ap (with_heard old) (both a b old.heard))
hears_on a b old mid new (inr first) (inl then) =
    inr (then ∙ ap (λ (d : SeenDesk). with_heard d (option_map (λ before. before ++ b) d.heard)) first)
hears_on a b old mid new (inl first) (inr then) = inr (then ∙ ap (λ (d : SeenDesk). with_heard d None) first)
hears_on a b old mid new (inr first) (inr then) = inr (then ∙ ap (λ (d : SeenDesk). with_heard d None) first)
