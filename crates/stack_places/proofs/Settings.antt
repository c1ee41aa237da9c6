-- Values of properties, put into an object.
use Rattle.std.proofs.Common.{◌≡◌, ◌≤◌, ◌+◌, ℕ, true, false, if◌then◌else◌, List, refl, sym, ap, ◌∙◌, arith, Option}
use Rattle.std.proofs.Common.{Some, None, is_some, option_map, option_and_then, unwrap_or}
use Rattle.std.proofs.lemmas.Bool.{false≢true}
use Rattle.object_table.specs.Setting.{with_value, value_in}
use Rattle.object_table.specs.declared.object.Object.{Object}
use Rattle.object_table.specs.declared.object.Kind.{Kind}
use Rattle.object_table.specs.declared.object.Kind.TheVariants.{Stack, Background, Card, CardButton, BackgroundButton}
use Rattle.object_table.specs.declared.object.Kind.TheVariants.{CardField, BackgroundField}
use Rattle.object_table.specs.declared.property.PropValue.{PropValue}
use Rattle.object_table.specs.declared.property.PropValue.TheVariants.{NameIs, ScriptIs, VisibleIs, HiliteIs}
use Rattle.object_table.specs.declared.property.PropValue.TheVariants.{SharedHiliteIs, LockTextIs, SharedTextIs}
use Rattle.object_table.specs.declared.property.PropValue.TheVariants.{CantDeleteIs}
use Rattle.stack_places.specs.Exchange.{of_one_property}
use Rattle.stack_places.specs.Places.{prop_of, same_prop, setting_of, setting_size, as_setting, setting}

abbrev made : Kind → List ℕ → List ℕ → Object
made k n s = record { name = n; script = s; kind = k }

-- ---- one value

-- the object's own value of the same property, or the value itself where it has none
abbrev pub own : PropValue → Option Object → PropValue
own v found = unwrap_or (option_and_then (value_in v) found) v

back_made : (k : Kind) (v : PropValue) (n s : List ℕ)
    → with_value (own v (Some (made k n s))) (with_value v (made k n s)) ≡ made k n s
back_made Stack (NameIs p) n s = refl
back_made (Background c) (NameIs p) n s = refl
back_made (Card b c) (NameIs p) n s = refl
back_made (CardButton x h) (NameIs p) n s = refl
back_made (BackgroundButton x h) (NameIs p) n s = refl
back_made (CardField x l) (NameIs p) n s = refl
back_made (BackgroundField x l u) (NameIs p) n s = refl
back_made _ _ n s = refl

again_made : (k : Kind) (v : PropValue) (n s : List ℕ)
    → own (own v (Some (made k n s))) (Some (with_value v (made k n s))) ≡ v
again_made Stack (NameIs p) n s = refl
again_made (Background c) (NameIs p) n s = refl
again_made (Card b c) (NameIs p) n s = refl
again_made (CardButton x h) (NameIs p) n s = refl
again_made (BackgroundButton x h) (NameIs p) n s = refl
again_made (CardField x l) (NameIs p) n s = refl
again_made (BackgroundField x l u) (NameIs p) n s = refl
again_made _ _ n s = refl

-- the value that was there, put back
pub own_back : (v : PropValue) (found : Option Object)
    → option_map (with_value (own v found)) (option_map (with_value v) found) ≡ found
own_back v None = refl
own_back v (Some o) = ap (λ x. Some x) (back_made o.kind v o.name o.script)

pub own_again : (v : PropValue) (found : Option Object) → own (own v found) (option_map (with_value v) found) ≡ v
own_again v None = refl
own_again v (Some o) = again_made o.kind v o.name o.script

prop_made : (k : Kind) (v : PropValue) (n s : List ℕ) → prop_of (own v (Some (made k n s))) ≡ prop_of v
prop_made Stack (NameIs p) n s = refl
prop_made (Background c) (NameIs p) n s = refl
prop_made (Card b c) (NameIs p) n s = refl
prop_made (CardButton x h) (NameIs p) n s = refl
prop_made (BackgroundButton x h) (NameIs p) n s = refl
prop_made (CardField x l) (NameIs p) n s = refl
prop_made (BackgroundField x l u) (NameIs p) n s = refl
prop_made _ _ n s = refl

-- it is of the same property
pub own_prop : (v : PropValue) (found : Option Object) → prop_of (own v found) ≡ prop_of v
own_prop v None = refl
own_prop v (Some o) = prop_made o.kind v o.name o.script

pub setting_of-prop : (v : PropValue) (o : Object) → setting_of (prop_of v) o ≡ value_in v o
setting_of-prop (NameIs p) o = refl
setting_of-prop _ o = refl

pub as_setting-prop : (v : PropValue) → as_setting (prop_of v) (Some (setting v)) ≡ Some v
as_setting-prop (NameIs p) = refl
as_setting-prop _ = refl

pub same_prop-is : (v w : PropValue) → same_prop (prop_of v) (prop_of w) ≡ of_one_property v w
same_prop-is (NameIs p) (NameIs q) = refl
same_prop-is (ScriptIs p) (ScriptIs q) = refl
same_prop-is (VisibleIs p) (VisibleIs q) = refl
same_prop-is (HiliteIs p) (HiliteIs q) = refl
same_prop-is (SharedHiliteIs p) (SharedHiliteIs q) = refl
same_prop-is (LockTextIs p) (LockTextIs q) = refl
same_prop-is (SharedTextIs p) (SharedTextIs q) = refl
same_prop-is (CantDeleteIs p) (CantDeleteIs q) = refl
same_prop-is _ _ = refl

-- ---- two values

-- a second value of a property replaces the first; values of two properties are put in either order
both_made : (k : Kind) (v w : PropValue) (n s : List ℕ)
    → with_value w (with_value v (made k n s))
    ≡ (if of_one_property v w then with_value w (made k n s) else with_value v (with_value w (made k n s)))
both_made Stack (NameIs p) (NameIs q) n s = refl
both_made Stack (ScriptIs p) (ScriptIs q) n s = refl
both_made Stack (VisibleIs p) (VisibleIs q) n s = refl
both_made Stack (HiliteIs p) (HiliteIs q) n s = refl
both_made Stack (SharedHiliteIs p) (SharedHiliteIs q) n s = refl
both_made Stack (LockTextIs p) (LockTextIs q) n s = refl
both_made Stack (SharedTextIs p) (SharedTextIs q) n s = refl
both_made Stack (CantDeleteIs p) (CantDeleteIs q) n s = refl
both_made (Background c) (NameIs p) (NameIs q) n s = refl
both_made (Background c) (ScriptIs p) (ScriptIs q) n s = refl
both_made (Background c) (VisibleIs p) (VisibleIs q) n s = refl
both_made (Background c) (HiliteIs p) (HiliteIs q) n s = refl
both_made (Background c) (SharedHiliteIs p) (SharedHiliteIs q) n s = refl
both_made (Background c) (LockTextIs p) (LockTextIs q) n s = refl
both_made (Background c) (SharedTextIs p) (SharedTextIs q) n s = refl
both_made (Background c) (CantDeleteIs p) (CantDeleteIs q) n s = refl
both_made (Card b c) (NameIs p) (NameIs q) n s = refl
both_made (Card b c) (ScriptIs p) (ScriptIs q) n s = refl
both_made (Card b c) (VisibleIs p) (VisibleIs q) n s = refl
both_made (Card b c) (HiliteIs p) (HiliteIs q) n s = refl
both_made (Card b c) (SharedHiliteIs p) (SharedHiliteIs q) n s = refl
both_made (Card b c) (LockTextIs p) (LockTextIs q) n s = refl
both_made (Card b c) (SharedTextIs p) (SharedTextIs q) n s = refl
both_made (Card b c) (CantDeleteIs p) (CantDeleteIs q) n s = refl
both_made (CardButton x h) (NameIs p) (NameIs q) n s = refl
both_made (CardButton x h) (ScriptIs p) (ScriptIs q) n s = refl
both_made (CardButton x h) (VisibleIs p) (VisibleIs q) n s = refl
both_made (CardButton x h) (HiliteIs p) (HiliteIs q) n s = refl
both_made (CardButton x h) (SharedHiliteIs p) (SharedHiliteIs q) n s = refl
both_made (CardButton x h) (LockTextIs p) (LockTextIs q) n s = refl
both_made (CardButton x h) (SharedTextIs p) (SharedTextIs q) n s = refl
both_made (CardButton x h) (CantDeleteIs p) (CantDeleteIs q) n s = refl
both_made (BackgroundButton x h) (NameIs p) (NameIs q) n s = refl
both_made (BackgroundButton x h) (ScriptIs p) (ScriptIs q) n s = refl
both_made (BackgroundButton x h) (VisibleIs p) (VisibleIs q) n s = refl
both_made (BackgroundButton x h) (HiliteIs p) (HiliteIs q) n s = refl
both_made (BackgroundButton x h) (SharedHiliteIs p) (SharedHiliteIs q) n s = refl
both_made (BackgroundButton x h) (LockTextIs p) (LockTextIs q) n s = refl
both_made (BackgroundButton x h) (SharedTextIs p) (SharedTextIs q) n s = refl
both_made (BackgroundButton x h) (CantDeleteIs p) (CantDeleteIs q) n s = refl
both_made (CardField x l) (NameIs p) (NameIs q) n s = refl
both_made (CardField x l) (ScriptIs p) (ScriptIs q) n s = refl
both_made (CardField x l) (VisibleIs p) (VisibleIs q) n s = refl
both_made (CardField x l) (HiliteIs p) (HiliteIs q) n s = refl
both_made (CardField x l) (SharedHiliteIs p) (SharedHiliteIs q) n s = refl
both_made (CardField x l) (LockTextIs p) (LockTextIs q) n s = refl
both_made (CardField x l) (SharedTextIs p) (SharedTextIs q) n s = refl
both_made (CardField x l) (CantDeleteIs p) (CantDeleteIs q) n s = refl
both_made (BackgroundField x l u) (NameIs p) (NameIs q) n s = refl
both_made (BackgroundField x l u) (ScriptIs p) (ScriptIs q) n s = refl
both_made (BackgroundField x l u) (VisibleIs p) (VisibleIs q) n s = refl
both_made (BackgroundField x l u) (HiliteIs p) (HiliteIs q) n s = refl
both_made (BackgroundField x l u) (SharedHiliteIs p) (SharedHiliteIs q) n s = refl
both_made (BackgroundField x l u) (LockTextIs p) (LockTextIs q) n s = refl
both_made (BackgroundField x l u) (SharedTextIs p) (SharedTextIs q) n s = refl
both_made (BackgroundField x l u) (CantDeleteIs p) (CantDeleteIs q) n s = refl
both_made _ _ _ n s = refl

seen_made : (k : Kind) (v w : PropValue) (n s : List ℕ)
    → value_in w (with_value v (made k n s))
    ≡ (if of_one_property v w then option_map (λ x. v) (value_in w (made k n s)) else value_in w (made k n s))
seen_made Stack (NameIs p) (NameIs q) n s = refl
seen_made Stack (ScriptIs p) (ScriptIs q) n s = refl
seen_made Stack (VisibleIs p) (VisibleIs q) n s = refl
seen_made Stack (HiliteIs p) (HiliteIs q) n s = refl
seen_made Stack (SharedHiliteIs p) (SharedHiliteIs q) n s = refl
seen_made Stack (LockTextIs p) (LockTextIs q) n s = refl
seen_made Stack (SharedTextIs p) (SharedTextIs q) n s = refl
seen_made Stack (CantDeleteIs p) (CantDeleteIs q) n s = refl
seen_made (Background c) (NameIs p) (NameIs q) n s = refl
seen_made (Background c) (ScriptIs p) (ScriptIs q) n s = refl
seen_made (Background c) (VisibleIs p) (VisibleIs q) n s = refl
seen_made (Background c) (HiliteIs p) (HiliteIs q) n s = refl
seen_made (Background c) (SharedHiliteIs p) (SharedHiliteIs q) n s = refl
seen_made (Background c) (LockTextIs p) (LockTextIs q) n s = refl
seen_made (Background c) (SharedTextIs p) (SharedTextIs q) n s = refl
seen_made (Background c) (CantDeleteIs p) (CantDeleteIs q) n s = refl
seen_made (Card b c) (NameIs p) (NameIs q) n s = refl
seen_made (Card b c) (ScriptIs p) (ScriptIs q) n s = refl
seen_made (Card b c) (VisibleIs p) (VisibleIs q) n s = refl
seen_made (Card b c) (HiliteIs p) (HiliteIs q) n s = refl
seen_made (Card b c) (SharedHiliteIs p) (SharedHiliteIs q) n s = refl
seen_made (Card b c) (LockTextIs p) (LockTextIs q) n s = refl
seen_made (Card b c) (SharedTextIs p) (SharedTextIs q) n s = refl
seen_made (Card b c) (CantDeleteIs p) (CantDeleteIs q) n s = refl
seen_made (CardButton x h) (NameIs p) (NameIs q) n s = refl
seen_made (CardButton x h) (ScriptIs p) (ScriptIs q) n s = refl
seen_made (CardButton x h) (VisibleIs p) (VisibleIs q) n s = refl
seen_made (CardButton x h) (HiliteIs p) (HiliteIs q) n s = refl
seen_made (CardButton x h) (SharedHiliteIs p) (SharedHiliteIs q) n s = refl
seen_made (CardButton x h) (LockTextIs p) (LockTextIs q) n s = refl
seen_made (CardButton x h) (SharedTextIs p) (SharedTextIs q) n s = refl
seen_made (CardButton x h) (CantDeleteIs p) (CantDeleteIs q) n s = refl
seen_made (BackgroundButton x h) (NameIs p) (NameIs q) n s = refl
seen_made (BackgroundButton x h) (ScriptIs p) (ScriptIs q) n s = refl
seen_made (BackgroundButton x h) (VisibleIs p) (VisibleIs q) n s = refl
seen_made (BackgroundButton x h) (HiliteIs p) (HiliteIs q) n s = refl
seen_made (BackgroundButton x h) (SharedHiliteIs p) (SharedHiliteIs q) n s = refl
seen_made (BackgroundButton x h) (LockTextIs p) (LockTextIs q) n s = refl
seen_made (BackgroundButton x h) (SharedTextIs p) (SharedTextIs q) n s = refl
seen_made (BackgroundButton x h) (CantDeleteIs p) (CantDeleteIs q) n s = refl
seen_made (CardField x l) (NameIs p) (NameIs q) n s = refl
seen_made (CardField x l) (ScriptIs p) (ScriptIs q) n s = refl
seen_made (CardField x l) (VisibleIs p) (VisibleIs q) n s = refl
seen_made (CardField x l) (HiliteIs p) (HiliteIs q) n s = refl
seen_made (CardField x l) (SharedHiliteIs p) (SharedHiliteIs q) n s = refl
seen_made (CardField x l) (LockTextIs p) (LockTextIs q) n s = refl
seen_made (CardField x l) (SharedTextIs p) (SharedTextIs q) n s = refl
seen_made (CardField x l) (CantDeleteIs p) (CantDeleteIs q) n s = refl
seen_made (BackgroundField x l u) (NameIs p) (NameIs q) n s = refl
seen_made (BackgroundField x l u) (ScriptIs p) (ScriptIs q) n s = refl
seen_made (BackgroundField x l u) (VisibleIs p) (VisibleIs q) n s = refl
seen_made (BackgroundField x l u) (HiliteIs p) (HiliteIs q) n s = refl
seen_made (BackgroundField x l u) (SharedHiliteIs p) (SharedHiliteIs q) n s = refl
seen_made (BackgroundField x l u) (LockTextIs p) (LockTextIs q) n s = refl
seen_made (BackgroundField x l u) (SharedTextIs p) (SharedTextIs q) n s = refl
seen_made (BackgroundField x l u) (CantDeleteIs p) (CantDeleteIs q) n s = refl
seen_made _ _ _ n s = refl

pub put_over : (v w : PropValue) (found : Option Object) → of_one_property v w ≡ true
    → option_map (with_value w) (option_map (with_value v) found) ≡ option_map (with_value w) found
put_over v w None h = refl
put_over v w (Some o) h = ap (λ x. Some x)
    (both_made o.kind v w o.name o.script ∙ ap (λ b. if b then with_value w o else with_value v (with_value w o)) h)

pub put_both : (v w : PropValue) (found : Option Object) → of_one_property v w ≡ false
    → option_map (with_value w) (option_map (with_value v) found)
    ≡ option_map (with_value v) (option_map (with_value w) found)
put_both v w None h = refl
put_both v w (Some o) h = ap (λ x. Some x)
    (both_made o.kind v w o.name o.script ∙ ap (λ b. if b then with_value w o else with_value v (with_value w o)) h)

of_itself : (v : PropValue) → of_one_property v v ≡ true
of_itself (NameIs p) = refl
of_itself _ = refl

-- an object without the property stays
pub put_nowhere : (v : PropValue) (found : Option Object) → is_some (option_and_then (value_in v) found) ≡ false
    → option_map (with_value v) found ≡ found
put_nowhere v found h =
    sym (put_over v v found (of_itself v))
    ∙ ap (λ x. option_map (with_value x) (option_map (with_value v) found))
    (sym (by (option_and_then (value_in v) found) h))
    ∙ own_back v found
  where
    by : (was : Option PropValue) → is_some was ≡ false → unwrap_or was v ≡ v
    by None e = refl
    by (Some x) e = absurd (false≢true (sym e))

-- a value of another property changes nothing of this one
pub own_apart : (v w : PropValue) (found : Option Object) → of_one_property v w ≡ false
    → own w (option_map (with_value v) found) ≡ own w found
own_apart v w None h = refl
own_apart v w (Some o) h = ap (λ x. unwrap_or x w)
    (seen_made o.kind v w o.name o.script ∙ ap (λ b. if b then option_map (λ x. v) (value_in w o) else value_in w o) h)

weighs : (v w : PropValue) (was : Option PropValue)
    → setting_size (unwrap_or (option_map (λ x. v) was) w) ≤ setting_size (unwrap_or was w) + setting_size v
weighs v w None = omega arith
weighs v w (Some x) = omega arith

-- what comes out is what was put, or what would have come out
pub own_over : (v w : PropValue) (found : Option Object) → of_one_property v w ≡ true
    → setting_size (own w (option_map (with_value v) found)) ≤ setting_size (own w found) + setting_size v
own_over v w None h = omega arith
own_over v w (Some o) h =
    let seen = ap (λ x. setting_size (unwrap_or x w))
    (seen_made o.kind v w o.name o.script
    ∙ ap (λ b. if b then option_map (λ x. v) (value_in w o) else value_in w o) h) in
    omega (arith, seen, weighs v w (value_in w o))
