use Rattle.std.proofs.Common.{[], refl, sym, append-nil}
use Rattle.stack_places.proofs.Wider.{IsWider-text}
use Rattle.journal_entries.proofs.Preparing.{prepares_text}
use Rattle.journal_entries.proofs.present.Present.prepare_text.Goals as goal

pub returns-clause-entry : goal.returns-clause-entry
returns-clause-entry g c =
    rw c.in_ok-text.ensures.value
    (prepares_text _ c.args.field c.args.card c.args.text c.in_ok-open_text.ensures.inside)

pub returns-clause-grows : goal.returns-clause-grows
returns-clause-grows g c =
    rw (← c.self.view_is, c.in_ok-open_text.ensures.ok)
    (record {
      state = refl;
      logs = refl;
      names = ([], sym (append-nil c.self.inside.globals.names));
      room = IsWider-text c.self.inside.stack.room (c.args.field, c.args.card);
    })
