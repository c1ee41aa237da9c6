use Rattle.std.proofs.Common.{[], refl, sym, append-nil}
use Rattle.stack_places.proofs.Wider.{IsWider-hilite}
use Rattle.journal_entries.proofs.Preparing.{prepares_hilite}
use Rattle.journal_entries.proofs.present.Present.prepare_hilite.Goals as goal

pub returns-clause-entry : goal.returns-clause-entry
returns-clause-entry g c = prepares_hilite _ c.args.button c.args.card c.args.hilite c.in_ok-open_hilite.ensures.inside

pub returns-clause-grows : goal.returns-clause-grows
returns-clause-grows g c =
    rw (← c.self.view_is, c.in_ok-open_hilite.ensures.ok)
    (record {
      state = refl;
      logs = refl;
      names = ([], sym (append-nil c.self.inside.globals.names));
      room = IsWider-hilite c.self.inside.stack.room (c.args.button, c.args.card);
    })
