use Rattle.vch_replies.proofs.calls.Sent.{drop_reply, send_reply}
use Rattle.vch_replies.proofs.messages_are_told.Goals as goal

pub returns-clause-drop_name : goal.returns-clause-drop_name
returns-clause-drop_name c = λ sc c m t name b. drop_reply sc c m t b name

pub returns-clause-send : goal.returns-clause-send
returns-clause-send c = λ sc c m t to name id moving b. send_reply sc c m t b to moving name id
