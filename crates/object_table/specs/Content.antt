-- What a stack holds.
use Rattle.std.specs.Prelude.{◌≡◌, ℕ, zero, suc, Bool, false, List, refl}
use Rattle.std.specs.Ordering.{nat_cmp}
use Rattle.std.specs.FinMap.{FinMap, code as map_code}
use Rattle.std.specs.Coded.{Coded, code_by, coded×, coded_ℕ, coded_bool, coded_list}
use Rattle.object_table.specs.Pairs.{PairMap, coded_pair}
use Rattle.object_table.specs.declared.object.Object.{Object}
use Rattle.object_table.specs.declared.object.Kind.{Kind}
use Rattle.object_table.specs.declared.object.Kind.TheVariants.{Stack, Background, Card, CardButton, BackgroundButton}
use Rattle.object_table.specs.declared.object.Kind.TheVariants.{CardField, BackgroundField}

-- The objects by id, where 0 is the stack itself; the two orders; the parts of each layer in theirs; a
-- field's text and a background button's hilite for each card, 0 standing for the shared one; the next id.
pub record Content : Type 0 where
  pub objects : FinMap nat_cmp Object
  pub backgrounds : List ℕ
  pub cards : List ℕ
  pub parts : FinMap nat_cmp (List ℕ)
  pub texts : PairMap (List ℕ)
  pub hilites : PairMap Bool
  pub next : ℕ

abbrev pub Flags : Type 0
Flags = Bool × (Bool × Bool)

abbrev pub coded_flags : Coded Flags
coded_flags = coded× coded_bool (coded× coded_bool coded_bool)

-- a kind as a number, an id and flags
abbrev pub numbered_kind : Kind → ℕ × (ℕ × Flags)
numbered_kind Stack = (0, (0, (false, (false, false))))
numbered_kind (Background c) = (1, (0, (c, (false, false))))
numbered_kind (Card b c) = (2, (b, (c, (false, false))))
numbered_kind (CardButton v h) = (3, (0, (v, (h, false))))
numbered_kind (BackgroundButton v h) = (4, (0, (v, (h, false))))
numbered_kind (CardField v l) = (5, (0, (v, (l, false))))
numbered_kind (BackgroundField v l s) = (6, (0, (v, (l, s))))

abbrev pub kind_numbered : ℕ → ℕ → Bool → Bool → Bool → Kind
kind_numbered zero b x y z = Stack
kind_numbered (suc zero) b x y z = Background x
kind_numbered (suc (suc zero)) b x y z = Card b x
kind_numbered (suc (suc (suc zero))) b x y z = CardButton x y
kind_numbered (suc (suc (suc (suc zero)))) b x y z = BackgroundButton x y
kind_numbered (suc (suc (suc (suc (suc zero))))) b x y z = CardField x y
kind_numbered n b x y z = BackgroundField x y z

pub kind_back : (k : Kind) → (let p = numbered_kind k in kind_numbered p.0 p.1.0 p.1.1.0 p.1.1.1.0 p.1.1.1.1) ≡ k
kind_back Stack = refl
kind_back (Background c) = refl
kind_back (Card b c) = refl
kind_back (CardButton v h) = refl
kind_back (BackgroundButton v h) = refl
kind_back (CardField v l) = refl
kind_back (BackgroundField v l s) = refl

abbrev pub coded_kind : Coded Kind
coded_kind = code_by (ℕ × (ℕ × Flags)) (coded× coded_ℕ (coded× coded_ℕ coded_flags)) numbered_kind
    (λ p. kind_numbered p.0 p.1.0 p.1.1.0 p.1.1.1.0 p.1.1.1.1) kind_back

abbrev pub coded_text : Coded (List ℕ)
coded_text = coded_list coded_ℕ

abbrev pub coded_object : Coded Object
coded_object = code_by (List ℕ × (List ℕ × Kind)) (coded× coded_text (coded× coded_text coded_kind))
    (λ o. (o.name, (o.script, o.kind))) (λ p. record { name = p.0; script = p.1.0; kind = p.1.1 }) (λ _. refl)

abbrev pub coded_content : Coded Content
coded_content = code_by (FinMap nat_cmp Object
    × (List ℕ × (List ℕ × (FinMap nat_cmp (List ℕ) × (PairMap (List ℕ) × (PairMap Bool × ℕ))))))
    (coded× (map_code coded_ℕ coded_object)
    (coded× (coded_list coded_ℕ) (coded× (coded_list coded_ℕ)
    (coded× (map_code coded_ℕ (coded_list coded_ℕ))
    (coded× (map_code coded_pair coded_text) (coded× (map_code coded_pair coded_bool) coded_ℕ))))))
    (λ c. (c.objects, (c.backgrounds, (c.cards, (c.parts, (c.texts, (c.hilites, c.next)))))))
    (λ p. record {
      objects = p.0;
      backgrounds = p.1.0;
      cards = p.1.1.0;
      parts = p.1.1.1.0;
      texts = p.1.1.1.1.0;
      hilites = p.1.1.1.1.1.0;
      next = p.1.1.1.1.1.1;
    }) (λ _. refl)
