-- Names of different tables differ, whatever their case.
use Rattle.std.proofs.Common.{◌≡◌, ℕ, List, [], ◌∷◌, Bool, true, false, Some, None, cond, refl, sym, ap, ◌∙◌, codes}
use Rattle.std.proofs.Common.{rules}
use Rattle.std.specs.List.{AllByRecursion}
use Rattle.std.specs.Str.{bytes_eq, str_to_ascii_lowercase}
use Rattle.std.proofs.lemmas.Slice.Eq.{bytes_eq-Decides}
use Rattle.ht_lex.specs.Token.{Token}
use Rattle.ht_lex.specs.Token as token
use Rattle.ht_values.specs.declared.word.Prop.{Prop}
use Rattle.ht_grammar.specs.declared.vocabulary.RunProp.{RunProp}
use Rattle.ht_grammar.specs.declared.vocabulary.FunctionWord.{FunctionWord}
use Rattle.ht_values.specs.Text.{entry}
use Rattle.ht_grammar.specs.Fronts.{same_name, prop_names, run_prop_names, function_names, prop_front, run_prop}
use Rattle.ht_grammar.specs.Fronts.{function_of}

folds_alike : (u w : List ℕ) → same_name u w ≡ true → str_to_ascii_lowercase u ≡ str_to_ascii_lowercase w
folds_alike u w e = (bytes_eq-Decides (str_to_ascii_lowercase u) (str_to_ascii_lowercase w)).0 e

-- What is the same as one name isn't the same as another.
pub apart : (w u v : List ℕ) → same_name w u ≡ true → same_name u v ≡ false → same_name w v ≡ false
apart w u v e f = ap (λ l. bytes_eq l (str_to_ascii_lowercase v)) (folds_alike w u e) ∙ f

-- Where a name is found, it has what each name of the table has, if names that are the same share that.
entry_such : {A : Type 0} (P : List ℕ → Type 0) (rows : List (List ℕ × A)) (w : List ℕ) (x : A)
    → ((u : List ℕ) → same_name u w ≡ true → P u → P w) → AllByRecursion (λ row. P row.0) rows
    → entry rows w ≡ Some x → P w
entry_such P [] w x shared h e = cc
entry_such {A} P (row ∷ rows) w x shared h e =
    go (same_name row.0 w) refl e (entry_such P rows w x shared h.1)
  where
    go : (b : Bool) → same_name row.0 w ≡ b → cond b (Some row.1) (entry rows w) ≡ Some x
        → (entry rows w ≡ Some x → P w) → P w
    go true is e later = shared row.0 is h.0
    go false is e later = later e

-- no name of one table is the same as one of the other
abbrev TablesApart : {A B : Type 0} → List (List ℕ × A) → List (List ℕ × B) → Type 0
TablesApart rows = AllByRecursion (λ other. AllByRecursion (λ row. same_name other.0 row.0 ≡ false) rows)

entry_none : {A B : Type 0} (rows : List (List ℕ × A)) (others : List (List ℕ × B)) (w : List ℕ) (x : A)
    → TablesApart rows others → entry rows w ≡ Some x → entry others w ≡ None
entry_none rows [] w x f e = refl
entry_none {A} {B} rows (other ∷ others) w x f e =
    ap (λ b. cond b (Some other.1) (entry others w)) (entry_such (λ u. same_name other.0 u ≡ false) rows w x
    (λ u is f. ap (λ l. bytes_eq (str_to_ascii_lowercase other.0) l) (sym (folds_alike u w is)) ∙ f) f.0 e)
    ∙ entry_none rows others w x f.1 e

-- A property's name is none of the other words after `the`, and likewise for the other tables.
pub record IsPlain (w : List ℕ) : Type 0 where
  pub result : same_name w (codes "result") ≡ false
  pub target : same_name w (codes "target") ≡ false
  pub short : same_name w (codes "short") ≡ false

abbrev AreOther : List ℕ → Type 0
AreOther w = (same_name w (codes "result") ≡ false) × (same_name w (codes "target") ≡ false)
    × (same_name w (codes "short") ≡ false)

plain_by : {A : Type 0} (rows : List (List ℕ × A)) (w : List ℕ) (x : A) → AllByRecursion (λ row. AreOther row.0) rows
    → entry rows w ≡ Some x → IsPlain w
plain_by rows w x others e =
    let p = entry_such AreOther rows w x (λ u is h. (
      other u is (codes "result") h.0,
      other u is (codes "target") h.1,
      other u is (codes "short") h.2,
    )) others e in
    record { result = p.0; target = p.1; short = p.2 }
  where
    other : (u : List ℕ) → same_name u w ≡ true → (v : List ℕ) → same_name u v ≡ false → same_name w v ≡ false
    other u is v f = ap (λ l. bytes_eq l (str_to_ascii_lowercase v)) (sym (folds_alike u w is)) ∙ f

pub prop_plain : (w : List ℕ) (ts : List Token) (p : Prop) → prop_front (token.name w ∷ ts) ≡ Some p → IsPlain w
unfolding prop_front
prop_plain w ts p e = plain_by prop_names w p (search rules) e

pub run_plain : (w : List ℕ) (p : RunProp) → run_prop w ≡ Some p → IsPlain w
unfolding run_prop
run_plain w p e = plain_by run_prop_names w p (search rules) e

pub function_plain : (w : List ℕ) (f : FunctionWord) → function_of w ≡ Some f → IsPlain w
unfolding function_of
function_plain w f e = plain_by function_names w f (search rules) e

pub run_no_prop : (w : List ℕ) (ts : List Token) (p : RunProp) → run_prop w ≡ Some p
    → prop_front (token.name w ∷ ts) ≡ None
unfolding run_prop prop_front
run_no_prop w ts p e = entry_none run_prop_names prop_names w p (search rules) e

pub function_no_prop : (w : List ℕ) (ts : List Token) (f : FunctionWord) → function_of w ≡ Some f
    → prop_front (token.name w ∷ ts) ≡ None
unfolding function_of prop_front
function_no_prop w ts f e = entry_none function_names prop_names w f (search rules) e

pub function_no_run : (w : List ℕ) (f : FunctionWord) → function_of w ≡ Some f → run_prop w ≡ None
unfolding function_of run_prop
function_no_run w f e = entry_none function_names run_prop_names w f (search rules) e
