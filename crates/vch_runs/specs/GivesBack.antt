-- What a whole run leaves of a scenario that ends in exits.
use Rattle.std.specs.Prelude.{reverse}
use Rattle.vch_legal.specs.GivenBack.{EndsInExits, AllGivenBack}
use Rattle.vch_parts.specs.declared.parts.Parts.{Parts}

-- where the last phase has exits alone, and at least one of each task, all is given back
abbrev pub GivesBack : Parts → Type 0
GivesBack p = EndsInExits p.scenario → AllGivenBack p.scenario (reverse p.history.entries)
