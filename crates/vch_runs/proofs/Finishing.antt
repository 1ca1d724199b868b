-- What the loops of a whole run keep.
use Rattle.std.proofs.Common.{◌≡◌, ℕ, ◌+◌, ◌<◌, length, refl, ◌∙◌}
use Rattle.vch_parts.specs.declared.parts.Parts.{Parts}
use Rattle.vch_parts.specs.Reached.{Reached}
use Rattle.vch_runs.specs.declared.turn.Cursor.{Cursor}
use Rattle.vch_runs.specs.Runs.{EndsInTurn, EndsBySeed}
use Rattle.vch_runs.specs.Turning.{IsCursor, IsStart, Turns, Draws}
use Rattle.vch_runs.proofs.Lowest.{start_first}
use Rattle.vch_runs.proofs.Ending.{Spares, spares_first, spares_more, turn_then, draw_then}

-- what is a run in turn to the end from now on is one from the start on
pub record Finishing (initial now : Parts) (cursor : Cursor) (from count : ℕ) : Type 0 where
  pub scenario : now.scenario ≡ initial.scenario
  pub cursor_is : IsCursor now cursor
  pub from_is : IsStart now from
  pub spares : Spares now count
  pub ends : (new : Parts) → EndsInTurn now new → EndsInTurn initial new

pub finishing_first : (p : Parts) (cursor : Cursor) → Reached p → IsCursor p cursor → Finishing p p cursor 1 0
finishing_first p cursor r c = record { scenario = refl; cursor_is = c; from_is = start_first p; spares = spares_first p r; ends = λ new e. e }

pub finishing_more : (initial p q : Parts) (cursor after : Cursor) (from next count : ℕ) → p.phase < length p.scenario.phases → Finishing initial p cursor from count → Turns p q → IsCursor q after → IsStart q next → Finishing initial q after next (count + 1)
finishing_more initial p q cursor after from next count left s t c k = record {
  scenario = t.goes.scenario ∙ s.scenario;
  cursor_is = c;
  from_is = k;
  spares = spares_more p q t.choice count t.goes s.spares;
  ends = λ new e. s.ends new (turn_then p q new left t e);
}

-- the same by seed
pub record Drawing (seed : ℕ) (initial now : Parts) (next count : ℕ) : Type 0 where
  pub scenario : now.scenario ≡ initial.scenario
  pub spares : Spares now count
  pub ends : (new : Parts) → EndsBySeed next now new → EndsBySeed seed initial new

pub drawing_first : (seed : ℕ) (p : Parts) → Reached p → Drawing seed p p seed 0
drawing_first seed p r = record { scenario = refl; spares = spares_first p r; ends = λ new e. e }

pub drawing_more : (seed : ℕ) (initial p q : Parts) (now next count : ℕ) → p.phase < length p.scenario.phases → Drawing seed initial p now count → Draws now next p q → Drawing seed initial q next (count + 1)
drawing_more seed initial p q now next count left s t = record {
  scenario = t.goes.scenario ∙ s.scenario;
  spares = spares_more p q t.choice count t.goes s.spares;
  ends = λ new e. s.ends new (draw_then now next p q new left t e);
}
