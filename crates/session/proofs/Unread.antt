-- Texts that aren't read as what a user does.
use Rattle.std.proofs.Common.{◌≡◌, ℕ, List, Err, subst}
use Rattle.ht_lex.specs.Token.{Token}
use Rattle.ht_parse.specs.Answer.{Parses}
use Rattle.ht_parse.specs.declared.error.ParseError.{ParseError}
use Rattle.ht_parse.specs.declared.error.ParseError.TheVariants as error
use Rattle.meaning.specs.Actions.{Action}
use Rattle.session.specs.Commands.{ReadAs}
use Rattle.session.specs.Replies.{IsUnread, refusal_of}

pub unread : {C T : Type 0} (view : C → T) (IsTree : List Token → T → Type 0) (action : T → Action)
    (text bytes : List ℕ) → text ≡ bytes → (e : ParseError) → Parses view IsTree text (Err e)
    → IsUnread (ReadAs IsTree action) bytes (refusal_of e)
unread view IsTree action text bytes is (error.Syntax place) parsed = subst
    (λ t. IsUnread (ReadAs IsTree action) t (refusal_of (error.Syntax place))) is
    (λ does reads. parsed.1 reads.0 reads.1)
unread view IsTree action text bytes is error.Memory parsed = tt
