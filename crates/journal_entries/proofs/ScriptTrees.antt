-- Trees of scripts over exchanges of the stack.
use Rattle.std.proofs.Common.{◌≡◌, ◌≢◌, ℕ, ◌+◌, ◌<◌, List, [], Bool, true, false, cond, Option, Some, None, IfSome}
use Rattle.std.proofs.Common.{option_map, option_and_then, unwrap_or, sum_by, refl, sym, ap, ◌∙◌, subst, arith}
use Rattle.std.proofs.lemmas.Bool.{eq-eqb, false≢true}
use Rattle.std.proofs.lemmas.Bool.Decides.{nat_tests}
use Rattle.std.proofs.lemmas.Map.Entries.{sum_by-insert_entry, sum_by-remove_entry}
use Rattle.std.proofs.lemmas.Option.{none-some, same_Some}
use Rattle.std.specs.BTreeMap as tree
use Rattle.std.specs.BTreeMap.{BTreeMap, IsOrdered, insert_entry, values}
use Rattle.std.specs.Cmp.{nat_cmp_total, unsigned_tied}
use Rattle.std.specs.Map.{lookup, remove_entry, values_of}
use Rattle.std.specs.Ordering.{nat_cmp, eq_by_cmp}
use Rattle.std.specs.FinMap.{get, nat_cmp-IsAntisymmetric}
use Rattle.object_table.specs.Content.{Content}
use Rattle.object_table.specs.Setting.{with_value}
use Rattle.object_table.specs.declared.object.Object as object
use Rattle.object_table.specs.declared.property.PropValue.{PropValue}
use Rattle.object_table.specs.declared.property.PropValue.TheVariants as settings
use Rattle.object_table.proofs.Maps.{get-put_option, get-put_option_apart}
use Rattle.stack_places.specs.Exchange.{exchanged}
use Rattle.stack_places.specs.declared.entry.StackEntry.{StackEntry}
use Rattle.stack_places.specs.declared.entry.StackEntry.TheVariants.{Prop, FieldText, Hilite, Object, CardOrder}
use Rattle.stack_places.specs.declared.entry.StackEntry.TheVariants.{BackgroundOrder, Parts, NextId}
use Rattle.journal_entries.specs.ScriptTrees.{AreTrees, IsTreeOf, Kept, KeepsFewer, changes_script_of, last_reading}
use Rattle.journal_entries.specs.ScriptTrees.{object_script, tree_read, trees_by, trees_in}
use Rattle.journal_entries.specs.declared.script_trees.KeptTree.{KeptTree}
use Rattle.journal_entries.specs.declared.script_trees.ScriptTrees.{ScriptTrees}

-- a property of objects that isn't the script
abbrev KeepsScript : PropValue → Type 0
KeepsScript v = (o : object.Object) → (with_value v o).script ≡ o.script

abbrev script_in : Option object.Object → List ℕ
script_in o = unwrap_or (option_map (λ x. x.script) o) []

set_in : (v : PropValue) → KeepsScript v → (o : Option object.Object)
    → script_in (option_map (with_value v) o) ≡ script_in o
set_in v keeps None = refl
set_in v keeps (Some o) = keeps o

set_there : (b : Bool) (s : Content) (v : PropValue) → KeepsScript v → (id q : ℕ) → eq_by_cmp nat_cmp q id ≡ b
    → script_in (cond b (option_map (with_value v) (get s.objects id)) (get s.objects q)) ≡ object_script s q
set_there false s v keeps id q e = refl
set_there true s v keeps id q e =
    let same : q ≡ id = let t = sym (unsigned_tied q id) ∙ e in grind (arith, nat_tests) in
    set_in v keeps (get s.objects id) ∙ ap (object_script s) (sym same)

kept_by : (s : Content) (v : PropValue) → KeepsScript v → (id q : ℕ)
    → object_script (exchanged s (Prop id v)) q ≡ object_script s q
unfolding exchanged
kept_by s v keeps id q = ap script_in
    (get-put_option nat_cmp_total nat_cmp-IsAntisymmetric s.objects id (option_map (with_value v) (get s.objects id)) q)
    ∙ set_there (eq_by_cmp nat_cmp q id) s v keeps id q refl

-- an exchange leaves the script of each object but the one that it names
others : (s : Content) (e : StackEntry) (q : ℕ) → changes_script_of e ≢ Some q
    → object_script (exchanged s e) q ≡ object_script s q
unfolding exchanged
others s (Prop id (settings.ScriptIs t)) q apart = ap script_in
    (get-put_option_apart nat_cmp_total nat_cmp-IsAntisymmetric s.objects id q
    (option_map (with_value (settings.ScriptIs t)) (get s.objects id)) (λ same. apart (ap Some same)))
others s (Object id o) q apart = ap script_in
    (get-put_option_apart nat_cmp_total nat_cmp-IsAntisymmetric s.objects id q o (λ same. apart (ap Some same)))
others s (Prop id (settings.NameIs t)) q apart = kept_by s (settings.NameIs t) (λ o. refl) id q
others s (Prop id (settings.VisibleIs b)) q apart = kept_by s (settings.VisibleIs b) (λ o. refl) id q
others s (Prop id (settings.HiliteIs b)) q apart = kept_by s (settings.HiliteIs b) (λ o. refl) id q
others s (Prop id (settings.SharedHiliteIs b)) q apart = kept_by s (settings.SharedHiliteIs b) (λ o. refl) id q
others s (Prop id (settings.LockTextIs b)) q apart = kept_by s (settings.LockTextIs b) (λ o. refl) id q
others s (Prop id (settings.SharedTextIs b)) q apart = kept_by s (settings.SharedTextIs b) (λ o. refl) id q
others s (Prop id (settings.CantDeleteIs b)) q apart = kept_by s (settings.CantDeleteIs b) (λ o. refl) id q
others s (FieldText field card v) q apart = refl
others s (Hilite button card v) q apart = refl
others s (CardOrder l) q apart = refl
others s (BackgroundOrder l) q apart = refl
others s (Parts layer v) q apart = refl
others s (NextId n) q apart = refl

abbrev IsTreeAt : Content → ℕ → Option Kept → Type 0
IsTreeAt s id tree = IfSome tree (λ k. IsTreeOf (object_script s id) k)

-- a tree stays where the script does
with_script : (s t : Content) (q : ℕ) (tree : Option Kept) → object_script t q ≡ object_script s q → IsTreeAt s q tree
    → IsTreeAt t q tree
with_script s t q tree e = subst (λ script. IfSome tree (λ k. IsTreeOf script k)) (sym e)

-- nothing is forgotten, and no script changes
pub kept_trees : (s : Content) (e : StackEntry) (trees : ℕ → Option Kept) → changes_script_of e ≡ None
    → AreTrees s trees → AreTrees (exchanged s e) trees
unfolding AreTrees
kept_trees s e trees none are q =
    with_script s (exchanged s e) q (trees q) (others s e q (λ is. none-some q (sym none ∙ is))) (are q)

-- what holds of what is found holds still where less is found
fewer_at : {A : Type 0} (P : A → Type 0) (old new : Option A) → ((x : A) → new ≡ Some x → old ≡ Some x) → IfSome old P
    → IfSome new P
fewer_at P old None fewer h = tt
fewer_at P old (Some x) fewer h = subst (λ o. IfSome o P) (fewer x refl) h

fewer_by : (P : Kept → Type 0) (old new : ℕ → Option Kept) (reading : Option ℕ)
    → ((n : ℕ) (k : Kept) → reading ≡ Some n → new n ≡ Some k → old n ≡ Some k) → IfSome (option_and_then old reading) P
    → IfSome (option_and_then new reading) P
fewer_by P old new None fewer h = tt
fewer_by P old new (Some n) fewer h = fewer_at P (old n) (new n) (λ k is. fewer n k refl is) h

abbrev IsFewer : (ℕ → Option Kept) → (ℕ → Option Kept) → Type 0
IsFewer old new = (n : ℕ) (k : Kept) → new n ≡ Some k → old n ≡ Some k

-- fewer trees are kept
pub fewer_trees : (s : Content) (readings : ℕ → Option ℕ) (old new : ℕ → Option Kept) → IsFewer old new
    → AreTrees s (trees_by readings old) → AreTrees s (trees_by readings new)
unfolding AreTrees
fewer_trees s readings old new fewer are q =
    fewer_by (λ k. IsTreeOf (object_script s q) k) old new (readings q) (λ n k _ is. fewer n k is) (are q)

pub fewer_in : (s : Content) (old new : ScriptTrees) → KeepsFewer old new → AreTrees s (trees_in old)
    → AreTrees s (trees_in new)
fewer_in s old new f are = subst
    (λ m. AreTrees s (trees_by (λ id. option_map (λ r. r.last) (tree.get nat_cmp m id)) (tree_read new)))
    (sym f.readings) (fewer_trees s (last_reading old) (tree_read old) (tree_read new) f.trees are)

-- the tree that is found is one of them
pub found_tree : (P : Kept → Type 0) (trees : ℕ → Option Kept) (reading : Option ℕ) (n : ℕ) (k : Kept)
    → reading ≡ Some n → trees n ≡ Some k → IfSome (option_and_then trees reading) P → P k
found_tree P trees reading n k read found h =
    subst (λ o. IfSome o P) found (subst (λ r. IfSome (option_and_then trees r) P) read h)

-- what is put at a number
abbrev IsPut : {A : Type 0} → ℕ → Option A → (ℕ → Option A) → (ℕ → Option A) → Type 0
IsPut k w old new = (q : ℕ) → new q ≡ cond (eq_by_cmp nat_cmp k q) w (old q)

same_at : (k q : ℕ) → eq_by_cmp nat_cmp k q ≡ true → k ≡ q
same_at k q e = let t = sym (unsigned_tied k q) ∙ e in grind (arith, nat_tests)

apart_at : (k q : ℕ) → eq_by_cmp nat_cmp k q ≡ false → k ≢ q
apart_at k q e same = false≢true (sym e ∙ unsigned_tied k q ∙ eq-eqb k q same)

-- the readings of the script that may change are forgotten
pub forgot_tree : (s : Content) (e : StackEntry) (id : ℕ) (readings left : ℕ → Option ℕ) (old new : ℕ → Option Kept)
    → changes_script_of e ≡ Some id → IsPut id None readings left → IsFewer old new → AreTrees s (trees_by readings old)
    → AreTrees (exchanged s e) (trees_by left new)
unfolding AreTrees
forgot_tree s e id readings left old new is forgets fewer are q = subst
    (λ r. IsTreeAt (exchanged s e) q (option_and_then new r)) (sym (forgets q)) (by (eq_by_cmp nat_cmp id q) refl)
  where
    by : (b : Bool) → eq_by_cmp nat_cmp id q ≡ b
        → IsTreeAt (exchanged s e) q (option_and_then new (cond b None (readings q)))
    by true same = tt
    by false apart = with_script s (exchanged s e) q (option_and_then new (readings q))
        (others s e q (λ changes. apart_at id q apart (same_Some id q (sym is ∙ changes))))
        (fewer_by (λ k. IsTreeOf (object_script s q) k) old new (readings q) (λ n k _ f. fewer n k f) (are q))

from_found : {A : Type 0} (P : A → Type 0) (o : Option A) → ((x : A) → o ≡ Some x → P x) → IfSome o P
from_found P None h = tt
from_found P (Some x) h = h x refl

-- a script is read, and its tree may be kept
pub put_tree : (s : Content) (id reading : ℕ) (readings more : ℕ → Option ℕ) (old new : ℕ → Option Kept)
    → IsPut id (Some reading) readings more → ((n : ℕ) (k : Kept) → n ≢ reading → new n ≡ Some k → old n ≡ Some k)
    → ((k : Kept) → new reading ≡ Some k → IsTreeOf (object_script s id) k)
    → ((q n : ℕ) → readings q ≡ Some n → n < reading) → AreTrees s (trees_by readings old)
    → AreTrees s (trees_by more new)
unfolding AreTrees
put_tree s id reading readings more old new puts rest here below are q =
    subst (λ r. IsTreeAt s q (option_and_then new r)) (sym (puts q)) (by (eq_by_cmp nat_cmp id q) refl)
  where
    by : (b : Bool) → eq_by_cmp nat_cmp id q ≡ b
        → IsTreeAt s q (option_and_then new (cond b (Some reading) (readings q)))
    by true same = subst (λ (i : ℕ). IsTreeAt s i (new reading)) (same_at id q same)
        (from_found (λ k. IsTreeOf (object_script s id) k) (new reading) here)
    by false apart = fewer_by (λ k. IsTreeOf (object_script s q) k) old new (readings q)
        (λ n k r is. rest n k (λ same. let lower : n < reading = below q n r in omega arith) is) (are q)

-- what is put in a map, seen by a function
pub seen_put : {A B : Type 0} (f : A → B) (b : Bool) (w o : Option A)
    → option_map f (cond b w o) ≡ cond b (option_map f w) (option_map f o)
seen_put f true w o = refl
seen_put f false w o = refl

-- elsewhere than at the number nothing is put
pub put_elsewhere : {A : Type 0} (k : ℕ) (w : Option A) (old new : ℕ → Option A) → IsPut k w old new → (n : ℕ) (x : A)
    → n ≢ k → new n ≡ Some x → old n ≡ Some x
put_elsewhere k w old new puts n x apart is = by (eq_by_cmp nat_cmp k n) refl
  where
    by : (b : Bool) → eq_by_cmp nat_cmp k n ≡ b → old n ≡ Some x
    by true same = absurd (apart (sym (same_at k n same)))
    by false e = sym (ap (λ b. cond b w (old n)) e) ∙ sym (puts n) ∙ is

-- what is found where something was taken out was there
pub taken_out : {A : Type 0} (k : ℕ) (old new : ℕ → Option A) → IsPut k None old new → (n : ℕ) (x : A) → new n ≡ Some x
    → old n ≡ Some x
taken_out k old new puts n x is = by (eq_by_cmp nat_cmp k n) refl
  where
    by : (b : Bool) → eq_by_cmp nat_cmp k n ≡ b → old n ≡ Some x
    by true e = absurd (none-some x (sym (ap (λ b. cond b None (old n)) e) ∙ sym (puts n) ∙ is))
    by false e = sym (ap (λ b. cond b None (old n)) e) ∙ sym (puts n) ∙ is

-- each number that is in use stays below the next one
pub below_put : {A : Type 0} (k : ℕ) (w : Option A) (old new : ℕ → Option A) → IsPut k w old new
    → ((n : ℕ) (x : A) → old n ≡ Some x → n < k) → (n : ℕ) (x : A) → new n ≡ Some x → n < k + 1
below_put k w old new puts below n x is = by (eq_by_cmp nat_cmp k n) refl
  where
    by : (b : Bool) → eq_by_cmp nat_cmp k n ≡ b → n < k + 1
    by true e = let same : k ≡ n = same_at k n e in omega arith
    by false e = let lower : n < k = below n x (sym (ap (λ b. cond b w (old n)) e) ∙ sym (puts n) ∙ is) in omega arith

pub below_noted : (id reading : ℕ) (old new : ℕ → Option ℕ) → IsPut id (Some reading) old new
    → ((q n : ℕ) → old q ≡ Some n → n < reading) → (q n : ℕ) → new q ≡ Some n → n < reading + 1
below_noted id reading old new puts below q n is = by (eq_by_cmp nat_cmp id q) refl
  where
    by : (b : Bool) → eq_by_cmp nat_cmp id q ≡ b → n < reading + 1
    by true e = let same : reading ≡ n = same_Some reading n
        (sym (ap (λ b. cond b (Some reading) (old q)) e) ∙ sym (puts q) ∙ is) in omega arith
    by false e = let lower : n < reading = below q n
        (sym (ap (λ b. cond b (Some reading) (old q)) e) ∙ sym (puts q) ∙ is) in omega arith

abbrev bytes_in : BTreeMap ℕ KeptTree → ℕ
bytes_in m = sum_by (λ k. k.bytes) (values m)

-- the bytes of a tree that goes are given back
pub sum-removed : (old new : BTreeMap ℕ KeptTree) (test : ℕ → Bool) (k : KeptTree) → Some k ≡ lookup test old.entries
    → new.entries ≡ remove_entry test old.entries → bytes_in new + k.bytes ≡ bytes_in old
sum-removed old new test k found left =
    ap (λ es. sum_by (λ k. k.bytes) (values_of es) + k.bytes) left
    ∙ ap (λ o. sum_by (λ k. k.bytes) (values_of (remove_entry test old.entries)) + unwrap_or
    (option_map (λ k. k.bytes) o) 0) found
    ∙ sum_by-remove_entry (λ k. k.bytes) test old.entries

found_none : {A : Type 0} (o : Option A) → ((x : A) → o ≡ Some x → ⊥) → o ≡ None
found_none None none = refl
found_none (Some x) none = absurd (none x refl)

-- those of a tree that comes are added
pub sum-put : (old new : BTreeMap ℕ KeptTree) (n : ℕ) (k : KeptTree) → IsOrdered nat_cmp old
    → ((x : KeptTree) → tree.get nat_cmp old n ≡ Some x → ⊥) → new.entries ≡ insert_entry nat_cmp old.entries n k
    → bytes_in new ≡ bytes_in old + k.bytes
sum-put old new n k ordered none put =
    let total = sum_by-insert_entry (λ k. k.bytes) nat_cmp_total old.entries n k ordered in
    let nothing = ap (λ o. unwrap_or (option_map (λ k. k.bytes) o) 0) (found_none (tree.get nat_cmp old n) none) in
    let same = ap (λ es. sum_by (λ k. k.bytes) (values_of es)) put in
    omega (arith, total, nothing, same)
