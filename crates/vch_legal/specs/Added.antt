-- A scenario to which a line is added while it runs.
use Rattle.vch_model.specs.declared.call.Line.{Line}
use Rattle.vch_model.specs.declared.lists.Scenario.{Scenario}
use Rattle.vch_model.specs.Rows.{with_line}

-- with one line more at the end of the last phase
abbrev pub with_added : Scenario → Line → Scenario
with_added sc line = record sc { phases = with_line sc.phases line }
