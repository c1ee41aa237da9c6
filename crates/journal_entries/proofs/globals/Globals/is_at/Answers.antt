use Rattle.std.proofs.Common.{[], sym, ◌∙◌}
use Rattle.std.proofs.lemmas.Option.{slice_get_within, get_or_from_slice_get}
use Rattle.std.proofs.lemmas.Slice.Eq.{bytes_eq-Decides}
use Rattle.journal_entries.proofs.globals.Globals.is_at.Goals as goal

pub returns-in-Some : goal.returns-in-Some
returns-in-Some c = λ same.
    let ns = c.self.inside.names in
    let read = sym c.in-Some.ensures in
    let equal = (bytes_eq-Decides c.in-Some.numbered.now c.args.name.now).0 (sym c.eq.ensures ∙ same) in
    rw (← c.self.view_is) (
      slice_get_within ns c.args.i _ read,
      get_or_from_slice_get ns c.args.i _ [] read ∙ equal,
    )
