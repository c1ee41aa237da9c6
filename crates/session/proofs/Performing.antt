-- What a dot line does that a user's text follows.
use Rattle.std.proofs.Common.{◌≡◌, ℕ, List, sym, subst, Option, Some, Result}
use Rattle.change_journal.specs.History.{History}
use Rattle.session.specs.Commands.{behind_name}
use Rattle.session.specs.Replies.{typed_reply}
use Rattle.session.specs.TakesLine.{Commands, Performs}
use Rattle.session.specs.declared.command.Command.{Command}
use Rattle.session.specs.declared.command.Command.TheVariants.{Act}
use Rattle.session.specs.declared.command.Reading.{Reading}
use Rattle.session.specs.declared.reply.Refusal.{Refusal}
use Rattle.session.specs.declared.reply.Reply.{Reply}

pub performs_act : (steps number : ℕ) (line text : List ℕ) (reading : Reading) (command : Option Command)
    (old new : History) (reply : Reply) (outcome : Result Reply Refusal)
    → command ≡ Some (Act reading) → text ≡ behind_name line → reply ≡ typed_reply outcome
    → Commands steps reading text number old (typed_reply outcome) new
    → Performs steps line number command old reply new
performs_act steps number line text reading command old new reply outcome says behind told done =
    let of_text : Commands steps reading (behind_name line) number old (typed_reply outcome) new =
    subst (λ t. Commands steps reading t number old (typed_reply outcome) new) behind done in
    let of_reply : Commands steps reading (behind_name line) number old reply new =
    subst (λ r. Commands steps reading (behind_name line) number old r new) (sym told) of_text in
    subst (λ c. Performs steps line number c old reply new) (sym says) of_reply
