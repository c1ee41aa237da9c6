-- Reading scripts, references of dot lines and texts of `send`, as functions on lists of tokens. The laws tie them to
-- the rules.
use Rattle.std.specs.Prelude.{ℕ, zero, suc, List, [], ◌∷◌, length, Option, Some, None, if◌then◌else◌}
use Rattle.ht_lex.specs.declared.key.Key.TheVariants as k
use Rattle.ht_lex.specs.declared.key.TokenKind.{TokenKind}
use Rattle.ht_lex.specs.declared.key.TokenKind.TheVariants as kind
use Rattle.ht_values.specs.declared.word.PartKind.{PartKind}
use Rattle.ht_values.specs.declared.word.PartKind.TheVariants as part_kind
use Rattle.ht_lex.specs.Token.{Token, first_kind, first_text, later}
use Rattle.ht_grammar.specs.declared.vocabulary.HandlerKind.{HandlerKind}
use Rattle.ht_grammar.specs.declared.vocabulary.HandlerKind.TheVariants as handler_kind
use Rattle.ht_grammar.specs.Trees.{Part, Owner, none, owner_of, kind_of_part, no_owner, on_card, on_background}
use Rattle.ht_grammar.specs.Statements.{Handler, handler, Handlers, no_handlers, and_handler, Message, message, Typed}
use Rattle.ht_grammar.specs.Statements.{typed}
use Rattle.ht_grammar.specs.Depth.{part_depth, handlers_depth, message_depth, max_depth}
use Rattle.ht_grammar.specs.Fronts.{same_name}
use Rattle.ht_grammar.specs.Ends.{past_ends, ended}
use Rattle.ht_grammar.specs.Grammar.{in_handler}
use Rattle.ht_grammar.specs.Reading.{Outcome, Parser, and_then, made, all_of, not_too_deep, read, list_at, part_at}
use Rattle.ht_grammar.specs.Lines.{blocks, lines, names_at, after_key, ended_then}

-- after `end`
abbrev pub name_by : Option TokenKind → List ℕ → Handler → Parser Handler
name_by (Some kind.Name) w h ts =
    if same_name w (first_text ts) then ended_then (ended (later ts)) (λ c. Some (h, c)) else None
name_by _ w h ts = None

abbrev pub body_at : HandlerKind → List ℕ → List (List ℕ) → Parser Handler
body_at f w ps ts = ended_then (ended ts)
    (λ l. and_then (blocks max_depth lines (in_handler w) l)
    (λ ss. after_key k.End (λ r. name_by (first_kind r) w (handler f w ps ss) r)))

abbrev pub params_by : Option TokenKind → Parser (List (List ℕ))
params_by (Some kind.Name) ts = names_at (length ts) ts
params_by _ ts = Some ([], ts)

abbrev pub named_by : Option TokenKind → HandlerKind → Parser Handler
named_by (Some kind.Name) f ts =
    and_then (params_by (first_kind (later ts)) (later ts)) (λ ps. body_at f (first_text ts) ps)
named_by _ f ts = None

abbrev pub handler_by : Option TokenKind → Parser Handler
handler_by (Some (kind.Key k.On)) ts = named_by (first_kind (later ts)) handler_kind.Command (later ts)
handler_by (Some (kind.Key k.Function)) ts = named_by (first_kind (later ts)) handler_kind.Function (later ts)
handler_by _ ts = None

-- The number bounds the turns.
unfoldable pub handlers_at : ℕ → Parser Handlers
handlers_at zero ts = None
handlers_at (suc n) [] = Some (no_handlers, [])
handlers_at (suc n) (t ∷ ts) =
    and_then (handler_by (first_kind (t ∷ ts)) (t ∷ ts)) (λ h r. made (and_handler h) (handlers_at n r))

-- the script that the tokens are, all of them
abbrev pub script : List Token → Option Handlers
script ts = not_too_deep handlers_depth (all_of (handlers_at (suc (length ts)) (past_ends ts)))

abbrev pub unowned_by : Owner → Part → Option Part
unowned_by no_owner p = Some p
unowned_by (on_card s) p = None
unowned_by (on_background s) p = None

abbrev pub unowned : Option Part → Option Part
unowned None = None
unowned (Some p) = unowned_by (owner_of p) p

-- the part without owner that the tokens are, all of them
abbrev pub clicked_part : List Token → Option Part
clicked_part ts = not_too_deep part_depth (unowned (all_of (part_at (read max_depth) max_depth ts)))

abbrev pub field_for : PartKind → List ℕ → Part → Option Typed
field_for part_kind.Field w p = Some (typed w p)
field_for part_kind.Button w p = None

abbrev pub typed_for : List ℕ → Option Part → Option Typed
typed_for w None = None
typed_for w (Some p) = field_for (kind_of_part p) w p

abbrev pub into_by : Option TokenKind → List ℕ → List Token → Option Typed
into_by (Some (kind.Key k.Into)) w ts = typed_for w (clicked_part ts)
into_by _ w ts = None

abbrev pub typed_by : Option TokenKind → List ℕ → List Token → Option Typed
typed_by (Some kind.Quoted) w ts = into_by (first_kind ts) w (later ts)
typed_by _ w ts = None

-- the text to be typed and its field, that the tokens are, all of them
abbrev pub typed_text : List Token → Option Typed
typed_text ts = typed_by (first_kind ts) (first_text ts) (later ts)

abbrev pub message_by : Option TokenKind → List ℕ → Parser Message
message_by None w ts = Some (message w none, ts)
message_by _ w ts = made (message w) (list_at (read max_depth) max_depth (length ts) none ts)

abbrev pub sent_by : Option TokenKind → List Token → Outcome Message
sent_by (Some kind.Name) ts = message_by (first_kind (later ts)) (first_text ts) (later ts)
sent_by _ ts = None

-- the message that the tokens are, all of them
abbrev pub sent_message : List Token → Option Message
sent_message ts = not_too_deep message_depth (all_of (sent_by (first_kind ts) ts))
