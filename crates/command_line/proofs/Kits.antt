-- A run with the externals of the kit, by what is known of each.
use Rattle.std.proofs.Common.{◌≡◌, ℕ, List, [], ◌∷◌, Bool, true, Option, Result, Err, IfOk, IfErr, map, refl, sym, ap}
use Rattle.std.proofs.Common.{subst, ◌∙◌}
use Rattle.std.proofs.KnownBytes.{Appends-nil, Consumes-nil}
use Rattle.std.specs.Io.KnownBytes.{Appends, Consumes}
use Rattle.devices.specs.Desks.{SeenDesk}
use Rattle.externals.specs.Cells.{Seen}
use Rattle.externals.specs.Log.{Log}
use Rattle.externals.specs.Turns.{TurnTable}
use Rattle.object_table.specs.Content.{Content}
use Rattle.journal_entries.specs.State.{seen_by, titles_of, are_apart}
use Rattle.headline.specs.Headline.{Timeline, beginning}
use Rattle.headline.specs.declared.transcript.Ran.{Ran}
use Rattle.command_line.specs.declared.fault.CliFault.{CliFault}
use Rattle.command_line.specs.declared.fault.CliFault.TheVariants.{Memory}
use Rattle.command_line.specs.Kit.{kit, kit_logs, count, bins, relay, gate}
use Rattle.command_line.specs.Plays.{Plays, Ends}

module _ {X : Type 0} (title : X → List ℕ) (sort : X → ℕ) (answers_calls : X → Bool) (cells : X → List (List ℕ))
    {a b c d : X} {xs : List X}
    (is : xs ≡ a ∷ b ∷ c ∷ d ∷ [])
    (p : seen_by title sort answers_calls cells a ≡ count) (q : seen_by title sort answers_calls cells b ≡ bins)
    (r : seen_by title sort answers_calls cells c ≡ relay) (s : seen_by title sort answers_calls cells d ≡ gate) where
  abbrev see : X → Seen
  see = seen_by title sort answers_calls cells

  four : see a ∷ see b ∷ see c ∷ see d ∷ [] ≡ kit
  four = ap (λ x. x ∷ see b ∷ see c ∷ see d ∷ []) p ∙ ap (λ x. count ∷ x ∷ see c ∷ see d ∷ []) q
      ∙ ap (λ x. count ∷ bins ∷ x ∷ see d ∷ []) r ∙ ap (λ x. count ∷ bins ∷ relay ∷ x ∷ []) s

  pub seen : map (seen_by title sort answers_calls cells) xs ≡ kit
  seen = ap (map see) is ∙ four

  pub apart : are_apart (map title xs) ≡ true
  apart = ap (λ ys. are_apart (map title ys)) is ∙ ap (λ ss. are_apart (titles_of ss)) four

-- their logs, of whichever type they are
pub logs_of : {X : Type 0} (log : X → Log) {a b c d : X} {xs : List X} → xs ≡ a ∷ b ∷ c ∷ d ∷ [] → log a ≡ []
    → log b ≡ [] → log c ≡ [] → log d ≡ [] → map log xs ≡ kit_logs
logs_of log {b = b} {c} {d} is p q r s = ap (map log) is ∙ ap (λ l. l ∷ log b ∷ log c ∷ log d ∷ []) p
    ∙ ap (λ l. [] ∷ l ∷ log c ∷ log d ∷ []) q ∙ ap (λ l. [] ∷ [] ∷ l ∷ log d ∷ []) r
    ∙ ap (λ l. [] ∷ [] ∷ [] ∷ l ∷ []) s

module _ (result : Result Ran CliFault) (ends : Type 0) (bytes : List ℕ) (steps depth : ℕ) (table : TurnTable)
    (old new : SeenDesk) (a b c d : Option (List ℕ)) where
  -- a run that plays, and one that ends by a fault, where the session began with these externals and logs
  abbrev PlaysWith : List Seen → List Log → Type 0
  PlaysWith xs logs = IfOk result (λ ran. (read : List ℕ) × (written : List ℕ) × Consumes a b read × Appends c d written
      × Plays ends ran bytes (λ stack. beginning stack xs logs steps depth) table old read written new)

  abbrev EndsWith : List Seen → List Log → Type 0
  EndsWith xs logs = IfErr result
      (λ fault. (read : List ℕ) × (written : List ℕ) × Consumes a b read × Appends c d written
      × Ends ends fault bytes (λ stack. beginning stack xs logs steps depth) table old read written new)

  pub plays_with : {xs ys : List Seen} {logs logs2 : List Log} → xs ≡ ys → logs ≡ logs2 → PlaysWith xs logs
      → PlaysWith ys logs2
  plays_with {ys = ys} {logs} is same plays =
      subst (PlaysWith ys) same (subst (λ zs. PlaysWith zs logs) is plays)

  pub ends_with : {xs ys : List Seen} {logs logs2 : List Log} → xs ≡ ys → logs ≡ logs2 → EndsWith xs logs
      → EndsWith ys logs2
  ends_with {ys = ys} {logs} is same ends = subst (EndsWith ys) same (subst (λ zs. EndsWith zs logs) is ends)

-- nothing was read or written where memory was refused before the run
pub idles : (result : Result Ran CliFault) (ends : Type 0) (bytes : List ℕ) (first : Content → Timeline)
    (table : TurnTable) (desk : SeenDesk) (a c : Option (List ℕ)) → result ≡ Err Memory
    → IfErr result (λ fault. (read : List ℕ) × (written : List ℕ) × Consumes a a read × Appends c c written
    × Ends ends fault bytes first table desk read written desk)
idles result ends bytes first table desk a c is =
    subst (λ x. IfErr x (λ fault. (read : List ℕ) × (written : List ℕ) × Consumes a a read × Appends c c written
    × Ends ends fault bytes first table desk read written desk)) (sym is)
    ([], [], Consumes-nil a, Appends-nil c, record { unread = refl; unwritten = refl; same = refl })
