use Rattle.std.proofs.Common.{sym, ◌∙◌, length}
use Rattle.vch_script.proofs.finding.CallsFound.{has_more, has_no_more}
use Rattle.vch_script.proofs.places.Places.has_call.Goals as goal

pub returns-in-Some : goal.returns-in-Some
returns-in-Some c = has_more c.args.scenario.now (length c.args.scenario.now.flags) c.args.self.now c.args.task c.args.begun c.args.phases c.in-Some.spot c.requires (sym c.find.ensures ∙ c.in-Some.is)

pub returns-in-None : goal.returns-in-None
returns-in-None c = has_no_more c.args.scenario.now (length c.args.scenario.now.flags) c.args.self.now c.args.task c.args.begun c.args.phases c.requires (sym c.find.ensures ∙ c.in-None.is)
