-- `with` makes the empty struct, with the turns that its clause names.
use Rattle.std.proofs.Common.{refl, [], ◌∷◌, ◌++◌}
use seplogic.Ra.Ura.{Ura}
use mir.Syntax.{named}
use mir.Val.{Val, vptr, vstruct, vnil}
use base.Logic.{SProp, ent, emp, via, fst∗}
use base.Fml.{Fml}
use prog.Memory.{Memory}
use prog.Routine.{Routine}
use prog.Wp.{Calls, Loops, WpFn, Tables}
use types.Logic.{Logic}
use contract.Lifetimes.{Lfts, Shares}
use contract.Monad.{Fun}
use contract.Running.{tables, tables_of}
use sound.WpLaws.{WpFn-mono}
use types.Kit.{‵, raw, ◌$◌, ◌∵◌, !, qed, move, suffices, done}
use types.Run.{no_more, returns, enter}
use types.Part.{agg}
use types.ByLocal.{alloc_all, pass_all, free_all, look_at, sets}
use denote.Exit.{yes}
use denote.RattleType.{owns}
use denote.Ref.{shr_vals, shr_Tells}
use denote.Shadow.{pure_i}
use denote.Signature.{plain, types_at}
use denote.Triple.Entry.{on_entry, alive, Args}
use denote.Triple.Spec.{Meets, triple_of}
use denote.Triple.Table.{entered}
use denote.Triple.Walked.{says, stay_none_ref, Stays, walk_of, Walks, ends_at, walked, Goes-none_ref, walk_Meets}
use Rattle.externals.specs.Log.{Log}
use Rattle.externals.specs.contracts.external.Input as input
use Rattle.externals.specs.contracts.external.Ask as ask
use Rattle.std.specs.contracts.snapshot.Snapshot as snapshot
use Rattle.xkit.specs.contracts.cells.Cells as cells
use Rattle.xkit.specs.contracts.turn_log.TurnLog as turn_log
use Rattle.xkit.specs.contracts.turn_log.TurnLog.with.Key.{name as key}
use Rattle.xkit.specs.contracts.turn_log.TurnLog.with as f
use Rattle.xkit.proofs.turn_log.TurnLog.with.Statement as stated
use Rattle.xkit.proofs.turn_log.TurnLog.with.Code as code

abbrev stayed : Stays (f.ended).signature.params (f.ended).kept
stayed = (
  stay_none_ref (0 ∷ []) tt (plain (λ _. turn_log.the_row)) yes,
  (
    stay_none_ref (1 ∷ []) tt (plain (λ _. snapshot.the_row cells.the_row)) yes,
    (
      stay_none_ref (2 ∷ []) tt (plain (λ _. input.the_row)) yes,
      (
        stay_none_ref (3 ∷ []) tt (plain (λ _. ask.the_row)) yes,
        (stay_none_ref (4 ∷ []) tt (plain (λ _. cells.the_row)) yes, tt),
      ),
    ),
  ),
)

module _ {M : Type 1} {𝓤 : Ura M} (𝓛 : Logic 𝓤) (mem : Memory → SProp 𝓤) (run : Routine → Fun 𝓤)
    (C : Calls 𝓤 𝓛.H) (Λ : Loops 𝓤 𝓛.H) where
  open 𝓛 use {H}

  module _ (κs : Lfts 5) (qs : Shares 5) (a : Args f.signature κs) where
    abbrev earlier : Val
    earlier = vptr a.0.ref_ptr.0 a.0.ref_ptr.1

    abbrev old_cells : Val
    old_cells = vptr a.1.0.ref_ptr.0 a.1.0.ref_ptr.1

    abbrev handed : Val
    handed = vptr a.1.1.0.ref_ptr.0 a.1.1.0.ref_ptr.1

    abbrev asked : Val
    asked = vptr a.1.1.1.0.ref_ptr.0 a.1.1.1.0.ref_ptr.1

    abbrev kept : Val
    kept = vptr a.1.1.1.1.0.ref_ptr.0 a.1.1.1.1.0.ref_ptr.1

    abbrev bound : (walk_of 𝓛 f.ended stayed (f.clauses 𝓛 mem run)).Ghost
    bound = (
      (κs, qs, tt, a, (earlier ∷ [], (old_cells ∷ [], (handed ∷ [], (asked ∷ [], (kept ∷ [], tt)))))),
      tt,
    )

    abbrev passed : Fml
    passed = owns (types_at f.signature.params κs) a
        (earlier ∷ [], (old_cells ∷ [], (handed ∷ [], (asked ∷ [], (kept ∷ [], tt)))))

    abbrev more : Log
    more = a.0.now.turns ++ (record {
      before = a.1.0.now.value;
      input = a.1.1.0.now;
      ask = a.1.1.1.0.now;
      cells = a.1.1.1.1.0.now;
    }) ∷ []

    walk : ent 𝓤
        (on_entry 𝓛 f.signature κs qs a
        (earlier ∷ [], (old_cells ∷ [], (handed ∷ [], (asked ∷ [], (kept ∷ [], tt))))))
        (WpFn 𝓤 H C Λ code.function (earlier ∷ old_cells ∷ handed ∷ asked ∷ kept ∷ [])
        ((walk_of 𝓛 f.ended stayed (f.clauses 𝓛 mem run)).post bound))
    walk =
        qed 𝓛 (raw (alive 𝓛 f.signature κs qs) ∷ ‵ passed ∷ []) ∵
        enter ! C Λ code.function (earlier ∷ old_cells ∷ handed ∷ asked ∷ kept ∷ []) _ $
        alloc_all ! (λ l. pass_all ! refl ((tt, tt), ((tt, tt), ((tt, tt), ((tt, tt), ((tt, tt), tt))))) $
        sets ! (agg ! (no_more !)) refl (tt, tt) $
        returns ! (look_at ! 0 refl) $ free_all ! refl $
        suffices ! _ (ends_at 𝓛 f.ended stayed (f.clauses 𝓛 mem run) bound (vstruct vnil) (record { turns = more })
        (tt, (tt, (tt, (tt, (tt, tt))))) (tt, (tt, (tt, (tt, (tt, tt)))))) $
        says ! refl $
        pure_i ! (turn_log.the_row.own_val (record { turns = more }) (vstruct vnil ∷ [])) ((λ vss. (tt, tt)), tt)
        ((tt, (refl, tt)), tt) $
        move ! (1 ∷ 2 ∷ 0 ∷ []) $ done !)

  walks : Walks 𝓛 f.ended stayed (WpFn 𝓤 H C Λ code.function) (f.clauses 𝓛 mem run)
  walks =
      walked 𝓛 f.ended stayed (f.clauses 𝓛 mem run) (WpFn 𝓤 H C Λ code.function)
      (λ κs. (shr_vals, (shr_vals, (shr_vals, (shr_vals, (shr_vals, tt))))))
      (λ κs. (
        shr_Tells (named 0) κs.0 turn_log.the_row,
        (
          shr_Tells (named 1) κs.1.0 (snapshot.the_row cells.the_row),
          (
            shr_Tells (named 2) κs.1.1.0 input.the_row,
            (shr_Tells (named 3) κs.1.1.1.0 ask.the_row, (shr_Tells (named 4) κs.1.1.1.1.0 cells.the_row, tt)),
          ),
        ),
      ))
      (λ κs qs bounds a g are. via 𝓤 _ (fst∗ 𝓤 _ (emp 𝓤)) (walk κs qs a))

meets : {M : Type 1} {𝓤 : Ura M} (𝓛 : Logic 𝓤) (mem : Memory → SProp 𝓤) (run : Routine → Fun 𝓤) (𝓣 : Tables 𝓤 𝓛.H)
    → Meets 𝓛 f.signature (WpFn 𝓤 𝓛.H 𝓣.C 𝓣.Λ code.function) (f.spec 𝓛 mem run)
meets {𝓤 = 𝓤} 𝓛 mem run 𝓣 =
    walk_Meets 𝓛 f.ended stayed (
      Goes-none_ref 𝓛 5 (0 ∷ []) tt (plain (λ _. turn_log.the_row)) yes,
      (
        Goes-none_ref 𝓛 5 (1 ∷ []) tt (plain (λ _. snapshot.the_row cells.the_row)) yes,
        (
          Goes-none_ref 𝓛 5 (2 ∷ []) tt (plain (λ _. input.the_row)) yes,
          (
            Goes-none_ref 𝓛 5 (3 ∷ []) tt (plain (λ _. ask.the_row)) yes,
            (Goes-none_ref 𝓛 5 (4 ∷ []) tt (plain (λ _. cells.the_row)) yes, tt),
          ),
        ),
      ),
    ) (f.clauses 𝓛 mem run) (WpFn 𝓤 𝓛.H 𝓣.C 𝓣.Λ code.function)
    (WpFn-mono 𝓤 𝓛.H 𝓛.laws 𝓣 code.function) (walks 𝓛 mem run 𝓣.C 𝓣.Λ)

pub with_spec : {M : Type 1} → stated.statement M
unfolding tables_of
with_spec 𝓤 𝓛 𝓜 𝓡 wired =
    entered 𝓤 𝓛.H (triple_of 𝓛 f.signature (f.spec 𝓛 𝓜.mem 𝓡.returns))
    (tables 𝓤 𝓛.H 𝓜 𝓡 𝓡.env).C (tables 𝓤 𝓛.H 𝓜 𝓡 𝓡.env).Λ key code.function (code.unfolded 𝓤 𝓛.H 𝓜 𝓡 wired)
    (meets 𝓛 𝓜.mem 𝓡.returns (tables_of 𝓤 𝓛.H 𝓜 (tables 𝓤 𝓛.H 𝓜 𝓡 𝓡.env)))
