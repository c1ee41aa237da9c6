use Rattle.std.proofs.Common.{◌≡◌, ◌+◌, ◌<◌, ◌≤◌, [], None, Some, length, get_or, refl, subst, ap, sym, ◌∙◌, arith}
use Rattle.std.proofs.Common.{length-set}
use Rattle.std.proofs.lemmas.Grind.{drop_more_same}
use Rattle.std.proofs.lemmas.List.{get_or_read, drop-set-lt}
use Rattle.std.specs.Ordering.{nat_cmp}
use Rattle.std.specs.Cmp.Lexicographic.{slice_cmp}
use Rattle.std.specs.FinMap.{from_entries}
use Rattle.object_table.specs.Maps.{put_option}
use Rattle.journal_entries.specs.Named.{AreDistinct, entries_of}
use Rattle.journal_entries.specs.Renumbered.{HasValued, number_in}
use Rattle.journal_entries.proofs.Renumbered.{texts-none, texts-moved, moved-none, moved-all, without_value, has_number}
use Rattle.journal_entries.proofs.Renumbered.{same_at}
use Rattle.journal_entries.proofs.globals.Globals.renumber.Goals.{in-Some, in-None}
use Rattle.journal_entries.proofs.globals.Globals.renumber.Goals as goal

pub loop-i-init : goal.loop-i-init
loop-i-init c =
    let e = c.into_parts-numbers.ensures in
    record {
      numbers = e.numbers;
      names = ap (λ g. g.names) e.globals;
      texts = ap (λ g. g.texts) e.globals ∙ texts-none c.args.self.now.names c.self.inside.values.items;
      count = refl;
      left = refl;
    }

pub swap-requires-clause-there : goal.swap-requires-clause-there
swap-requires-clause-there c =
    let v = c.loop-i.invariant in
    let s = c.self.inside in
    let i = c.loop-i.i in
    let r = c.args.renumbering in
    let names = ap (λ n. n.names) c.self.view_is in
    let there : i < length s.values.items = omega (arith, c.len-i-end.ensures, s.values.ok.0) in
    let within : i < length c.into_parts-numbers.result.0.items =
    omega (arith, there, ap length v.numbers, c.requires.of.count, ap length names, c.self.invariant.0) in
    let found : number_in r i ≡ Some c.in-Some.number = ap (λ xs. get_or xs i None) (sym v.numbers)
    ∙ sym (get_or_read _ i _ within c.index.ensures None) ∙ c.in-Some.is in
    rw v.names (has_number c.args.self.now.names r i c.in-Some.number c.requires.of found).0

pub loop-i-preserved : goal.loop-i-preserved
loop-i-preserved c =
    let v = c.loop-i.invariant in
    let s = c.self.inside in
    let vs = s.values.items in
    let i = c.loop-i.i in
    let r = c.args.renumbering in
    let old = c.args.self.now in
    let names = ap (λ n. n.names) c.self.view_is in
    let there : i < length vs = omega (arith, c.len-i-end.ensures, s.values.ok.0) in
    let within : i < length c.into_parts-numbers.result.0.items =
    omega (arith, there, ap length v.numbers, c.requires.of.count, ap length names, c.self.invariant.0) in
    let below : i < length old.names = omega (arith, there, ap length names, c.self.invariant.0) in
    let beside : length old.names ≡ length vs = omega (arith, ap length names, c.self.invariant.0) in
    let apart : AreDistinct old.names = subst (λ ns. AreDistinct ns) names c.self.invariant.1 in
    let read : number_in r i ≡ c.index.result.now = ap (λ xs. get_or xs i None) (sym v.numbers)
    ∙ sym (get_or_read _ i _ within c.index.ensures None) in
    elim c.match-index.branch [
      | in-Some w ↦
          let named = has_number old.names r i w.in-Some.number c.requires.of (read ∙ w.in-Some.is) in
          let key : get_or c.loop-i.globals.names w.in-Some.number [] ≡ get_or old.names i [] =
          ap (λ ns. get_or ns w.in-Some.number []) v.names ∙ named.1 in
          let value : w.index_mut.result.now ≡ get_or vs i None =
          get_or_read c.loop-i.self-inside.values.items i _ (omega (arith, there, v.count)) w.index_mut.ensures.value
          None
          ∙ same_at c.loop-i.self-inside.values.items vs i None v.left in
          rw (w.globals-is, w.self-inside-is) (record {
            numbers = v.numbers;
            names = ap (λ n. n.names) w.swap.ensures.texts ∙ v.names;
            texts = ap (λ n. n.texts) w.swap.ensures.texts ∙ (λ k. put_option (v.texts k) (key k) (value k))
                ∙ texts-moved old.names vs i apart below beside;
            count = length-set c.loop-i.self-inside.values.items i w.swap.new.value ∙ v.count;
            left = drop-set-lt (i + 1) c.loop-i.self-inside.values.items i w.swap.new.value (omega arith)
                ∙ drop_more_same c.loop-i.self-inside.values.items vs i v.left;
          })
      | in-None w ↦
          let valued : HasValued old.names (from_entries {R = slice_cmp nat_cmp} (entries_of old.names vs)) r =
          subst (λ t. HasValued old.names t r) (sym (ap (λ n. n.texts) c.self.view_is)
          ∙ ap (λ ns. from_entries {R = slice_cmp nat_cmp} (entries_of ns vs)) names) c.requires.valued in
          let none = without_value old.names vs r i apart below beside valued (read ∙ w.in-None.is) in
          rw (w.globals-is, w.self-inside-is) (record {
            numbers = v.numbers;
            names = v.names;
            texts = v.texts ∙ ap (λ xs. from_entries {R = slice_cmp nat_cmp} (entries_of old.names xs))
                (moved-none i vs none);
            count = v.count;
            left = drop_more_same c.loop-i.self-inside.values.items vs i v.left;
          })
    ]

pub returns : goal.returns
returns c =
    let v = c.loop-i.invariant in
    let s = c.self.inside in
    let vs = s.values.items in
    let i = c.loop-i.i in
    let past : length vs ≤ i = omega (arith, c.len-i-end.ensures, s.values.ok.0) in
    let names = ap (λ n. n.names) c.self.view_is in
    let texts = v.texts
    ∙ (λ k. from_entries {R = slice_cmp nat_cmp} (entries_of (sym names k) (moved-all i vs past k)))
    ∙ ap (λ n. n.texts) c.self.view_is in
    c.drop.view_is ∙ c.put_off.ensures ∙ (λ k. record { texts = texts k; names = v.names k })
