use Rattle.std.proofs.Common.{◌≡◌, ◌≢◌, ℕ, ◌<◌, ◌++◌, ◌∷◌, [], None, length, get_or, ap, ◌∙◌, arith}
use Rattle.std.proofs.Common.{length-append}
use Rattle.journal_entries.specs.Named.{AreDistinct}
use Rattle.journal_entries.proofs.Naming.{AreDistinct-push, entries_of-none, same_number, count_by-none}
use Rattle.journal_entries.proofs.Numbering.{at_end}
use Rattle.journal_entries.proofs.Beginnings.{with_one_more}
use Rattle.journal_entries.proofs.globals.Globals.number.Goals as goal

pub returns-in-Some-clause-only : goal.returns-in-Some-clause-only
returns-in-Some-clause-only c =
    let ns = c.self.inside.names in
    let names : ns ≡ c.args.self.now.names = ap (λ n. n.names) c.self.view_is in
    let within : c.in-Some.i < length ns = omega (arith, ap length names, c.in-Some.ensures.0) in
    rw (← c.self.view_is) (λ j h e. same_number ns c.in-Some.i j c.self.invariant.1 within h e)

pub invariant_of-self-2 : goal.invariant_of-self-2
invariant_of-self-2 c =
    let s = c.self.inside in
    let ns = s.names in
    let absent : (k : ℕ) → k < length ns → get_or ns k [] ≢ c.args.name.now =
    rw (ap (λ n. n.names) c.self.view_is) c.in-None.ensures in
    let n = c.in_ok-push.ensures.ok in
    let v : c.push_reserved.new.self.items ≡ s.values.items ++ None ∷ [] =
    c.push_reserved.ensures.items ∙ ap (λ xs. xs ++ None ∷ []) c.reserve.ensures.items in (
      rw (n, v, length-append, length-append) (omega (arith, c.self.invariant.0)),
      rw n (AreDistinct-push ns c.args.name.now c.self.invariant.1 absent),
      rw (v, count_by-none) c.self.invariant.2,
      tt,
      rw n (with_one_more c.self.inside.initials c.add.new.self ns c.args.name.now c.self.invariant.4 c.add.ensures.kept
          c.add.ensures.added),
    )

pub returns-clause-number : goal.returns-clause-number
returns-clause-number c =
    let s = c.self.inside in
    let ns = s.names in
    let absent : (k : ℕ) → k < length ns → get_or ns k [] ≢ c.args.name.now =
    rw (ap (λ n. n.names) c.self.view_is) c.in-None.ensures in
    let n = c.in_ok-push.ensures.ok in
    let i : c.len-i.result ≡ length ns = omega (arith, c.len-i.ensures, s.values.ok.0, c.self.invariant.0) in
    rw (n, i) (omega (arith, length-append ns (c.args.name.now ∷ [])), at_end ns c.args.name.now)

pub returns-clause-same : goal.returns-clause-same
returns-clause-same c =
    let s = c.self.inside in
    let ns = s.names in
    let absent : (k : ℕ) → k < length ns → get_or ns k [] ≢ c.args.name.now =
    rw (ap (λ n. n.names) c.self.view_is) c.in-None.ensures in
    let n = c.in_ok-push.ensures.ok in
    let v : c.push_reserved.new.self.items ≡ s.values.items ++ None ∷ [] =
    c.push_reserved.ensures.items ∙ ap (λ xs. xs ++ None ∷ []) c.reserve.ensures.items in
    rw (n, v, entries_of-none ns s.values.items c.args.name.now c.self.invariant.0) (ap (λ x. x.texts) c.self.view_is)

pub returns-clause-wider : goal.returns-clause-wider
returns-clause-wider c =
    let s = c.self.inside in
    let ns = s.names in
    let absent : (k : ℕ) → k < length ns → get_or ns k [] ≢ c.args.name.now =
    rw (ap (λ n. n.names) c.self.view_is) c.in-None.ensures in
    let n = c.in_ok-push.ensures.ok in
    (c.args.name.now ∷ [], rw (← c.self.view_is) n)

pub returns-clause-only : goal.returns-clause-only
returns-clause-only c =
    let s = c.self.inside in
    let ns = s.names in
    let absent : (k : ℕ) → k < length ns → get_or ns k [] ≢ c.args.name.now =
    rw (ap (λ n. n.names) c.self.view_is) c.in-None.ensures in
    let n = c.in_ok-push.ensures.ok in
    let i : c.len-i.result ≡ length ns = omega (arith, c.len-i.ensures, s.values.ok.0, c.self.invariant.0) in
    let distinct : AreDistinct (ns ++ c.args.name.now ∷ []) =
    AreDistinct-push ns c.args.name.now c.self.invariant.1 absent in
    let last : c.len-i.result < length (ns ++ c.args.name.now ∷ []) =
    omega (arith, length-append ns (c.args.name.now ∷ [])) in
    rw n (λ j h e. same_number (ns ++ c.args.name.now ∷ []) c.len-i.result j distinct last h e)
