-- Statements that edit a container, by what the edit gave.
use Rattle.std.proofs.Common.{◌≡◌, ℕ, List, Result, Ok, Err, refl}
use Rattle.ht_values.specs.declared.operator.Op.{Op}
use Rattle.ht_values.specs.declared.word.Where.{Where}
use Rattle.ht_grammar.specs.Statements as stm
use Rattle.ht_grammar.specs.Trees as tree
use Rattle.change_journal.specs.History.{History}
use Rattle.containers.specs.declared.edit.Edit.{Edit}
use Rattle.containers.specs.declared.edit.Edit.TheVariants.{Put, Alter}
use Rattle.meaning.specs.declared.end.How.TheVariants.{Next}
use Rattle.meaning.specs.declared.end.Stop.{Stop}
use Rattle.meaning.specs.declared.frame.Frame.{Frame}
use Rattle.meaning.specs.Meaning.{Alters, Form, Resolves, Val}
use Rattle.meaning.specs.Places.{Edits, variable_place}
use Rattle.meaning.specs.State.{RunState}
use Rattle.interp.specs.Edits.{EditsContainer}

pub of_variable : {w w1 : History} {r : RunState} {f f1 : Frame} {d : ℕ} {ct : tree.Container} {n : List ℕ} {e : Edit}
    {o : Result (Unit {0}) Stop} →
    ct ≡ tree.variable n → Edits w f r.delimiter (variable_place f.variables n) e o w1 f1
    → EditsContainer w r f d ct e o w1 r f1
of_variable is h = EditsContainer.there (Resolves.place_variable is refl) h

module _ {w w1 w2 : History} {r r1 r2 : RunState} {f f1 : Frame} {d : ℕ} {x : tree.Expr} {v : List ℕ}
    {ct : tree.Container} (value : Val w r f d x (Ok v) w1 r1) where
  pub puts : {wr : Where} → EditsContainer w1 r1 f d ct (Put wr v) (Ok tt) w2 r2 f1
      → Form w r f d (stm.put_in wr x ct) (Ok Next) w2 r2 f1
  puts (EditsContainer.there found change) = Form.put refl value found change

  pub puts_not : {wr : Where} {z : Stop} → EditsContainer w1 r1 f d ct (Put wr v) (Err z) w2 r2 f1
      → Form w r f d (stm.put_in wr x ct) (Err z) w2 r2 f1
  puts_not (EditsContainer.nowhere found same) = rw same (Form.put_nowhere refl value found)
  puts_not (EditsContainer.there found change) = Form.put_fails refl value found change

  pub alters : {op : Op} → EditsContainer w1 r1 f d ct (Alter op v) (Ok tt) w2 r2 f1
      → Alters w r f d op x ct (Ok Next) w2 r2 f1
  alters (EditsContainer.there found change) = Alters.alter value found change

  pub alters_not : {op : Op} {z : Stop} → EditsContainer w1 r1 f d ct (Alter op v) (Err z) w2 r2 f1
      → Alters w r f d op x ct (Err z) w2 r2 f1
  alters_not (EditsContainer.nowhere found same) = rw same (Alters.alter_nowhere value found)
  alters_not (EditsContainer.there found change) = Alters.alter_fails value found change

pub ruleset edit_rules = (EditsContainer.nowhere, EditsContainer.there, of_variable)

pub ruleset put_rules = (Form.form_memory, Form.put_stops, puts, puts_not)

pub ruleset alter_rules = (Alters.alter_memory, Alters.alter_stops, alters, alters_not)
