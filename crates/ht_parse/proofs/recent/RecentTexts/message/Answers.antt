use Rattle.ht_grammar.specs.Reads.{ReadsMessage}
use Rattle.ht_tree.specs.ScriptView.{message_of}
use Rattle.ht_parse.proofs.Kept.{shared-parses}
use Rattle.ht_parse.proofs.recent.RecentTexts.message.Goals as goal

pub returns-in_ok-parse_message-in-None : goal.returns-in_ok-parse_message-in-None
returns-in_ok-parse_message-in-None c =
    shared-parses (λ x. x.value) message_of ReadsMessage _ _ _ c.in_ok-parse_message-in-None.ensures
    c.kept.ensures.shared c.kept.ensures.memory
