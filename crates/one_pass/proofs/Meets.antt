-- How a text of `value` is met.
use Rattle.std.proofs.Common.{◌≡◌, ℕ, ◌+◌, ◌<◌, List, Some, None, Ok, Err, sym, subst}
use Rattle.ht_values.specs.declared.fault.Fault.TheVariants.{TooDeep}
use Rattle.ht_grammar.specs.Trees.{Expr}
use Rattle.ht_grammar.specs.Reads.{ReadsExpr}
use Rattle.change_journal.specs.History.{History}
use Rattle.meaning.specs.declared.end.Stop.{Stop}
use Rattle.meaning.specs.declared.end.Stop.TheVariants as stop
use Rattle.meaning.specs.declared.frame.Frame.{Frame}
use Rattle.meaning.specs.Meaning.{TextVal}
use Rattle.meaning.specs.State.{RunState, Step}
use Rattle.meaning.specs.Values.{Parses}
use Rattle.one_pass.specs.Computed.{TextMeans}
use Rattle.one_pass.specs.Meeting.{MeetsText}

module _ {w : History} {r : RunState} {f : Frame} {d : ℕ} {t v : List ℕ} where
  pub met_memory : {w1 : History} {r1 : RunState} → MeetsText w r f d t (Err stop.Memory) v w1 r1
  met_memory = MeetsText.stops TextVal.value_memory

  pub met_no_step : {r1 : RunState} {z : Stop} → Step r (Err z) r1 → MeetsText w r f d t (Err z) v w r1
  met_no_step h = MeetsText.stops (TextVal.value_no_step h)

  pub met_too_deep : {r1 : RunState} → Step r (Ok tt) r1 → d ≡ 100
      → MeetsText w r f d t (Err (stop.Fault TooDeep)) v w r1
  met_too_deep h deep = MeetsText.stops (TextVal.value_too_deep h deep)

here : {w w1 : History} {r r1 : RunState} → w1 ≡ w → r1 ≡ r → (P : History → RunState → Type 0) → P w r → P w1 r1
here {w = w} {r1 = r1} world run P p = subst (λ x. P x r1) (sym world) (subst (λ x. P w x) (sym run) p)

module _ {w w1 : History} {r r1 r2 : RunState} {f : Frame} {d : ℕ} {t v : List ℕ} where
  pub met_value : Step r (Ok tt) r1 → d < 100 → TextMeans w r1 f t v r2 → w1 ≡ w → MeetsText w r f d t (Ok None) v w1 r2
  met_value h less m same = subst (λ x. MeetsText w r f d t (Ok None) v x r2) (sym same)
      (MeetsText.has_value (TextVal.value h less (Parses.parses m.reads) (m.means (d + 1))))

  pub met_syntax : {z : Stop} → Step r (Ok tt) r1 → d < 100 → Parses ReadsExpr t (Err z) → w1 ≡ w → r2 ≡ r1
      → MeetsText w r f d t (Err z) v w1 r2
  met_syntax {z = z} h less unread world run = here world run (λ x y. MeetsText w r f d t (Err z) v x y)
      (MeetsText.stops (TextVal.value_syntax h less unread))

  pub met_tree : {e : Expr} → Step r (Ok tt) r1 → d < 100 → Parses ReadsExpr t (Ok e) → w1 ≡ w → r2 ≡ r1
      → MeetsText w r f d t (Ok (Some e)) v w1 r2
  met_tree {e = e} h less read world run = here world run (λ x y. MeetsText w r f d t (Ok (Some e)) v x y)
      (MeetsText.has_tree (λ o w2 r3 val. TextVal.value h less read val))
