use Rattle.whole_states.proofs.Leaves.{leads, whole_begins}
use Rattle.whole_states.proofs.Sound.{sound_line, sound_message, sound_acts, sound_refers, sound_val}
use Rattle.whole_states.proofs.law.runs_lead_to_whole_states.Goals as goal

pub returns-clause-lines : goal.returns-clause-lines
returns-clause-lines c w w2 r r2 ss o line has whole run texts =
    let h = sound_line w c.parts_cut.ensures line has (whole_begins whole) run texts in (leads h.0, h.1)

pub returns-clause-messages : goal.returns-clause-messages
returns-clause-messages c w w2 r r2 i n vs o message has whole run texts =
    let h = sound_message w c.parts_cut.ensures message has (whole_begins whole) run texts in (leads h.0, h.1)

pub returns-clause-actions : goal.returns-clause-actions
returns-clause-actions c w w2 r r2 ac o acts has whole run texts =
    let h = sound_acts w c.parts_cut.ensures acts has (whole_begins whole) run texts in (leads h.0, h.1)

pub returns-clause-references : goal.returns-clause-references
returns-clause-references c w w2 r r2 pa o met has whole run texts =
    let h = sound_refers w c.parts_cut.ensures met has (whole_begins whole) run texts in (leads h.0, h.1)

pub returns-clause-values : goal.returns-clause-values
returns-clause-values c w w2 r r2 f d e o value has whole run frame texts =
    let h = sound_val w c.parts_cut.ensures value has (whole_begins whole) run frame texts in
    (leads h.0, h.1, h.2)
