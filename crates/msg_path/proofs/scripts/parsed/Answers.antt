use Rattle.msg_path.proofs.scripts.parsed.Goals as goal

pub returns : goal.returns
returns c = rw c.fitted.ensures c.in_ok-script.ensures.0
