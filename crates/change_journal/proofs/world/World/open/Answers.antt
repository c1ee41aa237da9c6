use Rattle.std.proofs.Common.{◌≡◌, true, All, map, get_or, unwrap_or, ap, sym, subst, ◌∙◌, arith}
use Rattle.std.proofs.lemmas.Option.{unwrap_or-slice_get}
use Rattle.externals.specs.Cells.{IsExternal}
use Rattle.object_table.specs.Objects.{has_kind, is_card}
use Rattle.journal_entries.specs.State.{seen_by, are_apart, titles_of}
use Rattle.journal_entries.proofs.Turned.{map-title}
use Rattle.change_journal.proofs.First.{first-card, no_globals, IsSound-opened}
use Rattle.change_journal.proofs.world.World.open.Goals as goal

pub invariant_of-result : goal.invariant_of-result
invariant_of-result g c =
    let f = seen_by g.E.External.title g.E.External.sort g.E.External.answers_calls g.E.External.cells in
    let stack = c.args.stack.content in
    let first : c.unwrap_or-first.result ≡ get_or stack.cards 0 0 =
    c.unwrap_or-first.ensures ∙ ap (λ o. unwrap_or o 0) c.card_at.ensures ∙ unwrap_or-slice_get stack.cards 0 0 in
    let apart : are_apart (titles_of (map f c.args.externals.items))
    ≡ true = sym (ap are_apart (map-title f c.args.externals.items))
    ∙ ap (λ xs. are_apart (map g.E.External.title xs)) (sym c.deref.ensures.value) ∙ sym c.are_apart.ensures
    ∙ c.if-not-are_apart.false in
    let known : All IsExternal (map f c.args.externals.items) =
    subst (λ xs. All IsExternal (map f xs)) c.deref-2.ensures.value c.law_of_externals.ensures in
    rw (c.new-2.ensures.items, c.new.ensures) (IsSound-opened _ c.args.depth _ (omega (arith, c.requires.low)) (record {
      stack = c.requires.stack;
      globals = no_globals;
      current = ap (has_kind is_card stack) first ∙ first-card stack c.requires.stack;
      externals = known;
      apart = apart;
    }))
