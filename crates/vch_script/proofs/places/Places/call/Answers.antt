use Rattle.std.proofs.Common.{sym, ◌∙◌, length}
use Rattle.vch_script.proofs.finding.CallsFound.{phase_inside, line_inside, call_found}
use Rattle.vch_script.proofs.places.Places.call.Goals as goal

pub at-requires : goal.at-requires
at-requires c = phase_inside c.args.scenario.now (length c.args.scenario.now.flags) c.args.self.now c.args.task c.saturating_sub.result c.in_ok-spot.spot c.requires (sym c.find.ensures ∙ c.in_ok-spot.was)

pub at-requires-2 : goal.at-requires-2
at-requires-2 c =
    line_inside c.args.scenario.now (length c.args.scenario.now.flags) c.args.self.now c.args.task c.saturating_sub.result c.in_ok-spot.spot c.at.result.now c.requires (sym c.find.ensures ∙ c.in_ok-spot.was) c.at.ensures

pub returns : goal.returns
returns c =
    call_found c.args.scenario.now (length c.args.scenario.now.flags) c.args.self.now c.args.task c.args.number c.saturating_sub.result c.in_ok-spot.spot c.at.result.now c.at-2.result.now c.requires c.saturating_sub.ensures
    (sym c.find.ensures ∙ c.in_ok-spot.was) c.at.ensures c.at-2.ensures
